use Rattle.std.proofs.Common.{◌≡◌, ◌∙◌, ◌+◌, [], Err, ap, arith, refl, rules, subst, sym}
use Rattle.collector.specs.declared.collection.Held.{Held}
use Rattle.collector.specs.Sites.{branches_of}
use Rattle.command_base.specs.declared.fault.Fault.TheVariants as fault
use Rattle.command_base.specs.Names.{AreHeld, IsFirstMissing}
use Rattle.command_base.proofs.NameLemmas.{of-read-as}
use Rattle.flow.specs.declared.site.TableParts.{TableParts}
use Rattle.flow.specs.Program.{table_of}
use Rattle.planned_runs.specs.Runs.{names_from}
use Rattle.planned_runs.specs.Steps.{IsOfProgram}
use Rattle.planned_runs.proofs.Begun.{none_made}
use Rattle.planned_runs.proofs.Going.{absent, begun, caused, come-all, failed-as, goes_on, left, made-as, own, precedes, room, rose-before}
use Rattle.planned_runs.proofs.Names.{held-more, held-of-all, missing-of-all}
use Rattle.planned_runs.proofs.Refusing.{never_refused}
use Rattle.planned_runs.proofs.runs.run_planned.Goals as goal

pub loop-done-init : goal.loop-done-init
loop-done-init g c = record {
  come = begun _ _ _ _ _ _ _ _ _ _ _
      (c.in_ok-collection.ensures ∙ ap (λ (t : TableParts). let h : Held = record { program = c.args.id; branches = branches_of t.sites; reports = [] } in h)
      (c.table.ensures.value ∙ ap table_of (c.program.ensures.value ∙ c.in_ok-prepared.ensures)))
      c.new-sums.ensures c.new-labels.ensures;
  was_held = tt;
  held = refl;
  writes = refl;
  never_falls = omega arith;
  sound = λ sound. sound;
  sound_count = λ sound. refl;
}

pub make_next-requires-clause-covers : goal.make_next-requires-clause-covers
make_next-requires-clause-covers g c = c.requires.covers _ (omega arith) (omega (arith, c.loop-done-test.true))

pub make_next-requires-clause-own : goal.make_next-requires-clause-own
make_next-requires-clause-own g c =
    subst (λ p. IsOfProgram p c.args.id c.loop-done.collection) (sym c.in_ok-prepared.ensures)
    (own _ _ _ _ _ _ _ _ c.loop-done.done _ c.loop-done.collection c.loop-done.sums c.loop-done.labels _ c.loop-done.probes.items c.loop-done.invariant.come refl)

pub make_next-requires-clause-absent : goal.make_next-requires-clause-absent
make_next-requires-clause-absent g c =
    absent _ _ _ _ _ _ _ _ c.loop-done.done _ c.loop-done.collection c.loop-done.sums c.loop-done.labels _ c.loop-done.probes.items c.loop-done.invariant.come refl

pub make_next-requires-clause-room : goal.make_next-requires-clause-room
make_next-requires-clause-room g c =
    room _ _ _ _ _ _ _ _ c.loop-done.done _ c.loop-done.collection c.loop-done.sums c.loop-done.labels _ c.loop-done.probes.items c.loop-done.invariant.come refl c.loop-done-test.true c.requires.count

pub loop-done-preserved : goal.loop-done-preserved
loop-done-preserved g c =
    let inv = c.loop-done.invariant in
    let names = g.P.RunPlan.names c.args.plan.now in
    record {
      come = goes_on _ _ _ _ _ _ _ _ c.loop-done.done _ c.loop-done.collection c.loop-done.sums c.loop-done.labels _ _ inv.come refl c.in-Ok.ran _ _ _ c.add.ensures c.add-in-loop-done.ensures
          (made-as _ _ _ _ _ _ _ _ (g.P.RunPlan.gives c.args.plan.now) _ _ c.in_ok-prepared.ensures inv.held c.in-Ok.ran _ _ c.in-Ok.ensures.made);
      was_held = held-more names c.args.first c.loop-done.done _ inv.was_held (subst (λ h. AreHeld h (names (c.args.first + c.loop-done.done))) inv.held c.in-Ok.ensures.was_held);
      held = c.make_next.ensures.held ∙ inv.held;
      writes = c.make_next.ensures.writes ∙ inv.writes;
      never_falls = omega (arith, inv.never_falls, c.make_next.ensures.never_falls);
      sound = λ sound. c.make_next.ensures.sound (inv.sound sound);
      sound_count = λ sound. c.make_next.ensures.sound_count (inv.sound sound) c.in-Ok.ensures.was_held ∙ inv.sound_count sound;
    }

pub returns-in-Err-clause-left : goal.returns-in-Err-clause-left
returns-in-Err-clause-left g c =
    let inv = c.loop-done.invariant in
    left _ _ _ _ _ _ _ _ c.loop-done.done _ c.loop-done.collection c.loop-done.sums c.loop-done.labels _ _ inv.come refl _ _ c.in-Err.fault c.loop-done-test.true
    (failed-as _ _ _ _ _ _ _ _ (g.P.RunPlan.gives c.args.plan.now) _ _ c.in_ok-prepared.ensures inv.held _ (g.P.RunPlan.refuses c.args.plan.now) _ c.in-Err.fault c.in-Err.ensures.failed)

pub returns-in-Err-clause-fault : goal.returns-in-Err-clause-fault
returns-in-Err-clause-fault g c =
    let inv = c.loop-done.invariant in
    caused _ _ _ _ _ _ _ _ c.loop-done.done _ c.loop-done.collection c.loop-done.sums c.loop-done.labels _ _ inv.come refl _ _ _ c.in-Err.fault c.loop-done-test.true
    (failed-as _ _ _ _ _ _ _ _ (g.P.RunPlan.gives c.args.plan.now) _ _ c.in_ok-prepared.ensures inv.held _ (g.P.RunPlan.refuses c.args.plan.now) _ c.in-Err.fault c.in-Err.ensures.failed)
    (of-read-as c.in-Err.fault _ _ c.in-Err.ensures.rose (λ name rose. rose-before _ _ _ inv.never_falls rose))

pub returns-in-Err-clause-refused : goal.returns-in-Err-clause-refused
returns-in-Err-clause-refused g c = λ refusal refused tells.
    precedes _ _ _ _ _ _ _ _ c.loop-done.done _ c.loop-done.collection c.loop-done.sums c.loop-done.labels _ _ c.loop-done.invariant.come refl _ _ c.in-Err.fault
    (failed-as _ _ _ _ _ _ _ _ (g.P.RunPlan.gives c.args.plan.now) _ _ c.in_ok-prepared.ensures c.loop-done.invariant.held _ (g.P.RunPlan.refuses c.args.plan.now) _ c.in-Err.fault c.in-Err.ensures.failed)

pub returns-in-Err-clause-missing : goal.returns-in-Err-clause-missing
returns-in-Err-clause-missing g c = λ sound.
    let inv = c.loop-done.invariant in
    let names = g.P.RunPlan.names c.args.plan.now in
    of-read-as c.in-Err.fault _ _ (c.in-Err.ensures.missing (inv.sound sound))
    (λ name missing. missing-of-all names c.args.first c.loop-done.done c.args.count c.loop-done-test.true _ name inv.was_held
    (subst (λ h. IsFirstMissing h (names (c.args.first + c.loop-done.done)) name) inv.held missing))

pub returns-in-Err-clause-sound_count : goal.returns-in-Err-clause-sound_count
returns-in-Err-clause-sound_count g c = λ sound are.
    let inv = c.loop-done.invariant in
    let names = g.P.RunPlan.names c.args.plan.now in
    c.make_next.ensures.sound_count (inv.sound sound)
    (subst (λ h. AreHeld h (names (c.args.first + c.loop-done.done))) (sym inv.held) (held-of-all names c.args.first c.loop-done.done c.args.count c.loop-done-test.true _ are))
    ∙ inv.sound_count sound

pub returns-clause-ran : goal.returns-clause-ran
returns-clause-ran g c =
    come-all _ _ _ _ _ _ _ _ c.loop-done.done c.loop-done.collection c.loop-done.sums c.loop-done.labels _ _ (omega (arith, c.loop-done-test.false, c.loop-done.auto.done-end)) refl refl refl c.loop-done.invariant.come

pub returns-clause-refused : goal.returns-clause-refused
returns-clause-refused g c = λ refusal refused tells.
    let come = c.loop-done.invariant.come in
    let plan = c.args.plan.now in
    let all : c.loop-done.done ≡ c.args.count = omega (arith, c.loop-done-test.false, c.loop-done.auto.done-end) in
    never_refused c.one_ending.ensures _ (g.P.RunPlan.gives plan (g.S.Store.holds c.args.store.now)) _ (λ number a b x y. g.met.P.RunPlan.once plan _ number a b tells x y)
    (g.P.RunPlan.refuses plan (g.S.Store.holds c.args.store.now)) (λ number on r x y. g.met.P.RunPlan.apart plan _ number on r tells x y) _ _ come.runs refusal come.are (come.as_many ∙ all) come.few refused

pub returns-clause-was_held : goal.returns-clause-was_held
returns-clause-was_held g c =
    let all : c.loop-done.done ≡ c.args.count = omega (arith, c.loop-done-test.false, c.loop-done.auto.done-end) in
    subst (λ n. AreHeld (g.S.Store.holds c.args.store.now) (names_from (g.P.RunPlan.names c.args.plan.now) c.args.first n)) all c.loop-done.invariant.was_held

pub returns-in_err-prepared-clause-left : goal.returns-in_err-prepared-clause-left
returns-in_err-prepared-clause-left g c = let same : c.from_residual.result ≡ Err fault.Memory = search rules in rw same (none_made _ _ _ _ _ _ _)

pub returns-in_err-collection-clause-left : goal.returns-in_err-collection-clause-left
returns-in_err-collection-clause-left g c = let same : c.from_residual-in_err-collection.result ≡ Err fault.Memory = search rules in rw same (none_made _ _ _ _ _ _ _)

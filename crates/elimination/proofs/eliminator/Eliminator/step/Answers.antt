use Rattle.std.proofs.Common.{◌≡◌, ◌+◌, ◌∙◌, Bool, List, Some, ap, arith, length, refl, subst, sym}
use Rattle.std.specs.Prelude.{slice_get, sum_by}
use Rattle.std.proofs.lemmas.Option.{slice_get_read}
use Rattle.elimination_tallies.specs.declared.labelled.LabelledRun.{LabelledRun}
use Rattle.elimination.specs.Elimination.{EliminatorState, runs_after_leader, entries_taken, stepped_on}
use Rattle.elimination.specs.Slots.{AreHolders, left_of, slot_entries_taken}
use Rattle.elimination.proofs.SlotLemmas.{holders-stay, left-after, pending-is, step-complete, stepped-pends}
use Rattle.elimination.proofs.eliminator.Eliminator.step.Goals as goal

pub invariant_of-self : goal.invariant_of-self
invariant_of-self g c =
    let b = c.self.inside.books in
    let new = c.step_each.new.self in (
      c.step_each.ensures.books,
      subst (λ (bs : List Bool). AreHolders (length bs) new.slots.items c.self.inside.holders.items) (sym c.step_each.ensures.stepped.branches_stay)
          (holders-stay b.tallies.branches c.self.inside.policy c.args.leader (length b.tallies.branches) c.self.inside.holders.items b.slots.items new.slots.items c.self.invariant.1 c.step_each.ensures.stepped.slots),
    )

pub returns-clause-after : goal.returns-clause-after
returns-clause-after g c =
    let b = c.self.inside.books in
    let new = c.step_each.new.self in
    let policy = c.self.inside.policy in
    let at : slice_get c.self.inside.holders.items c.site_of-site.result ≡ Some c.as_slice-places.result.now =
    slice_get_read c.self.inside.holders.items (length c.self.inside.holders.items) c.site_of-site.result c.index.result.now refl (omega (arith, c.site_of-site.ensures.within, c.self.invariant.1.as_many)) c.index.ensures ∙ ap Some (sym c.as_slice-places.ensures) in
    let slots = step-complete policy c.args.leader c.site_of-site.result c.as_slice-places.result.now c.self.inside.holders.items b new c.site_of-site.ensures.own at c.self.invariant.1 c.step_each.ensures.stepped in
    let runs : left_of new.slots.items ≡ runs_after_leader b.tallies.branches policy c.args.leader (left_of b.slots.items) = ap left_of slots ∙ left-after b.tallies.branches policy c.args.leader b.slots.items in
    ap (λ (bs : List Bool). record { branches = bs; policy = policy; runs = left_of new.slots.items }) c.step_each.ensures.stepped.branches_stay
    ∙ ap (λ (rs : List LabelledRun). record { branches = b.tallies.branches; policy = policy; runs = rs }) runs ∙ ap (λ (o : EliminatorState). stepped_on o c.args.leader) c.self.view_is

pub returns-clause-steps : goal.returns-clause-steps
returns-clause-steps g c =
    let b = c.self.inside.books in
    let new = c.step_each.new.self in
    let policy = c.self.inside.policy in
    let at : slice_get c.self.inside.holders.items c.site_of-site.result ≡ Some c.as_slice-places.result.now =
    slice_get_read c.self.inside.holders.items (length c.self.inside.holders.items) c.site_of-site.result c.index.result.now refl (omega (arith, c.site_of-site.ensures.within, c.self.invariant.1.as_many)) c.index.ensures ∙ ap Some (sym c.as_slice-places.ensures) in
    let slots = step-complete policy c.args.leader c.site_of-site.result c.as_slice-places.result.now c.self.inside.holders.items b new c.site_of-site.ensures.own at c.self.invariant.1 c.step_each.ensures.stepped in
    let none : sum_by (slot_entries_taken b.tallies.branches policy c.args.leader) new.slots.items ≡ 0 = ap (sum_by (slot_entries_taken b.tallies.branches policy c.args.leader)) slots ∙ stepped-pends b.tallies.branches policy c.args.leader b.slots.items in
    let steps : c.step_each.new.steps ≡ c.args.steps.now + entries_taken b.tallies.branches policy c.args.leader (left_of b.slots.items) = omega (arith, c.step_each.ensures.steps, none, pending-is b.tallies.branches policy c.args.leader b.slots.items) in
    steps ∙ ap (λ (o : EliminatorState). c.args.steps.now + entries_taken o.branches o.policy c.args.leader o.runs) c.self.view_is

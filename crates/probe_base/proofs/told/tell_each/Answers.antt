use Rattle.std.proofs.Common.{◌≡◌, ◌<◌, ◌++◌, length, refl, arith, rules}
use Rattle.std.proofs.lemmas.Result.{err_from_is_err_and}
use Rattle.std.proofs.lemmas.Option.{slice_get_read}
use Rattle.probe_base.specs.Told.{GrewByPrefix}
use Rattle.probe_base.proofs.Growing.{GrewBelow-more, AllGrew-end, AllGrewByPrefix-stop}
use Rattle.probe_base.proofs.told.tell_each.Goals as goal

pub returns-in_err-tell_one-clause-memory : goal.returns-in_err-tell_one-clause-memory
returns-in_err-tell_one-clause-memory g c =
    let inside : c.loop-probe.probe-index < length c.loop-probe.probes = omega arith in
    let before = c.probe-item.result in
    let after = c.tell_one.new.probe in
    let part : GrewByPrefix c.args.observations.now ((goal.Probe-dyn g (before.vtable, before.value)).seen before.value) ((goal.Probe-dyn g (after.vtable, after.value)).seen after.value) = search rules in
    let p = err_from_is_err_and c.from_residual.result c.from_residual.ensures.1 in
    rw p.1 (AllGrewByPrefix-stop _ _ _ _ _ before after inside (slice_get_read _ _ _ _ refl inside c.probe-item.is) part c.loop-probe.invariant)

pub loop-probe-preserved : goal.loop-probe-preserved
loop-probe-preserved g c =
    let inside : c.loop-probe.probe-index < length c.loop-probe.probes = omega arith in
    let before = c.probe-item.result in
    let after = c.tell_one.new.probe in
    let grew : (goal.Probe-dyn g (after.vtable, after.value)).seen after.value ≡ (goal.Probe-dyn g (before.vtable, before.value)).seen before.value ++ c.args.observations.now = search rules in
    GrewBelow-more _ _ _ _ _ before after inside (slice_get_read _ _ _ _ refl inside c.probe-item.is) grew c.loop-probe.invariant

pub returns-clause-ok : goal.returns-clause-ok
returns-clause-ok g c = AllGrew-end _ _ _ _ _ (omega arith) c.loop-probe.invariant

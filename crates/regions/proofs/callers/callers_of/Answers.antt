use Rattle.std.proofs.Common.{length, refl}
use Rattle.std.proofs.lemmas.Option.{slice_get_read}
use Rattle.regions.proofs.CallerLemmas.{grew_all, grew_function}
use Rattle.regions.proofs.callers.callers_of.Goals as goal

pub loop-number-preserved : goal.loop-number-preserved
loop-number-preserved c =
    let there = slice_get_read c.args.functions.now (length c.args.functions.now) c.loop-number.number c.index-functions-number.result refl c.loop-number-test.true c.index-functions-number.is in
    grew_function c.in_ok-callers.callers.items c.loop-number.callers.items c.add_calls.new.callers.items c.args.functions.now c.loop-number.number c.index-functions-number.result there
    c.loop-number.invariant (rw c.as_slice.ensures at c.in_ok-add_calls.ensures)

pub returns : goal.returns
returns c = grew_all c.in_ok-callers.callers.items c.loop-number.callers.items c.args.functions.now c.loop-number.number c.in_ok-callers.ensures c.loop-number-test.false c.loop-number.invariant

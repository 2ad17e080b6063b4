use Rattle.std.proofs.Common.{List, length, slice_get, refl, sym, ap, ◌∙◌}
use Rattle.std.proofs.lemmas.Option.{slice_get_read}
use Rattle.flow.specs.declared.program.Function.{Function}
use Rattle.flow.proofs.Programs.{few_nodes}
use Rattle.regions.specs.Flags.{is_in}
use Rattle.regions.proofs.RowLemmas.{rows_more}
use Rattle.weights.specs.Weight.{WeightsFit}
use Rattle.weights.proofs.PathLemmas.{forward}
use Rattle.weights.proofs.table.weights.Goals as goal

pub weights_of-requires-clause-forward : goal.weights_of-requires-clause-forward
weights_of-requires-clause-forward c =
    let fs = c.functions-functions.result.now in
    let there = slice_get_read fs (length fs) c.loop-function.function-index c.function-item.result refl c.loop-function-test.true c.function-item.is in
    rw c.as_slice.ensures (forward c.args.program.now (is_in c.args.weighty.now) c.loop-function.function-index c.function-item.result c.functions-functions.ensures.is_program
    (ap (λ (xs : List Function). slice_get xs c.loop-function.function-index) (sym c.functions-functions.ensures.value) ∙ there))

pub weights_of-requires-clause-few : goal.weights_of-requires-clause-few
weights_of-requires-clause-few c =
    let fs = c.functions-functions.result.now in
    let there = slice_get_read fs (length fs) c.loop-function.function-index c.function-item.result refl c.loop-function-test.true c.function-item.is in
    rw c.as_slice.ensures (few_nodes c.args.program.now c.loop-function.function-index c.function-item.result c.functions-functions.ensures.is_program
    (ap (λ (xs : List Function). slice_get xs c.loop-function.function-index) (sym c.functions-functions.ensures.value) ∙ there))

pub loop-function-preserved : goal.loop-function-preserved
loop-function-preserved c =
    let fs = c.functions-functions.result.now in
    let there = slice_get_read fs (length fs) c.loop-function.function-index c.function-item.result refl c.loop-function-test.true c.function-item.is in
    rw c.in_ok-push.ensures.items (rows_more (WeightsFit c.args.weighty.now) fs c.loop-function.table.items c.loop-function.function-index c.function-item.result c.in_ok-weights.weights
    there c.loop-function.invariant (rw c.as_slice.ensures at c.in_ok-weights.ensures))

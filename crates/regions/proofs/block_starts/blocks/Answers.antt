use Rattle.std.proofs.Common.{List, length, slice_get, refl, sym, ap, ◌∙◌}
use Rattle.std.proofs.lemmas.Option.{slice_get_read}
use Rattle.flow.specs.declared.program.Function.{Function}
use Rattle.regions.specs.Blocks.{BlocksFit}
use Rattle.regions.proofs.RowLemmas.{rows_more}
use Rattle.regions.proofs.Within.{has_entry, leads_within}
use Rattle.regions.proofs.block_starts.blocks.Goals as goal

pub blocks_of-requires-clause-entry : goal.blocks_of-requires-clause-entry
blocks_of-requires-clause-entry c =
    let fs = c.functions-functions.result.now in
    let there = slice_get_read fs (length fs) c.loop-function.function-index c.function-item.result refl c.loop-function-test.true c.function-item.is in
    rw c.as_slice.ensures (has_entry c.args.program.now c.loop-function.function-index c.function-item.result c.functions-functions.ensures.is_program
    (ap (λ (xs : List Function). slice_get xs c.loop-function.function-index) (sym c.functions-functions.ensures.value) ∙ there))

pub blocks_of-requires-clause-within : goal.blocks_of-requires-clause-within
blocks_of-requires-clause-within c =
    let fs = c.functions-functions.result.now in
    let there = slice_get_read fs (length fs) c.loop-function.function-index c.function-item.result refl c.loop-function-test.true c.function-item.is in
    rw c.as_slice.ensures (leads_within c.args.program.now c.loop-function.function-index c.function-item.result c.functions-functions.ensures.is_program
    (ap (λ (xs : List Function). slice_get xs c.loop-function.function-index) (sym c.functions-functions.ensures.value) ∙ there))

pub loop-function-preserved : goal.loop-function-preserved
loop-function-preserved c =
    let fs = c.functions-functions.result.now in
    let there = slice_get_read fs (length fs) c.loop-function.function-index c.function-item.result refl c.loop-function-test.true c.function-item.is in
    rw c.in_ok-push.ensures.items (rows_more BlocksFit fs c.loop-function.table.items c.loop-function.function-index c.function-item.result c.in_ok-flags.flags
    there c.loop-function.invariant (rw c.as_slice.ensures at c.in_ok-flags.ensures))

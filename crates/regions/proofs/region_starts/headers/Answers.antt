use Rattle.std.proofs.Common.{List, length, slice_get, refl, sym, ap, ◌∙◌}
use Rattle.std.proofs.lemmas.Option.{slice_get_read}
use Rattle.flow.specs.declared.program.Function.{Function}
use Rattle.regions.specs.Headers.{HeadersFit}
use Rattle.regions.proofs.RowLemmas.{rows_more}
use Rattle.regions.proofs.Within.{has_entry, leads_within}
use Rattle.regions.proofs.region_starts.headers.Goals as goal

pub flags_of-requires-clause-entry : goal.flags_of-requires-clause-entry
flags_of-requires-clause-entry c =
    let fs = c.functions-functions.result.now in
    let there = slice_get_read fs (length fs) c.loop-number.number c.index-functions-number.result refl c.loop-number-test.true c.index-functions-number.is in
    has_entry c.args.program.now c.loop-number.number c.index-functions-number.result c.functions-functions.ensures.is_program
    (ap (λ (xs : List Function). slice_get xs c.loop-number.number) (sym c.functions-functions.ensures.value) ∙ there)

pub flags_of-requires-clause-within : goal.flags_of-requires-clause-within
flags_of-requires-clause-within c =
    let fs = c.functions-functions.result.now in
    let there = slice_get_read fs (length fs) c.loop-number.number c.index-functions-number.result refl c.loop-number-test.true c.index-functions-number.is in
    leads_within c.args.program.now c.loop-number.number c.index-functions-number.result c.functions-functions.ensures.is_program
    (ap (λ (xs : List Function). slice_get xs c.loop-number.number) (sym c.functions-functions.ensures.value) ∙ there)

pub loop-number-preserved : goal.loop-number-preserved
loop-number-preserved c =
    let fs = c.functions-functions.result.now in
    let there = slice_get_read fs (length fs) c.loop-number.number c.index-functions-number.result refl c.loop-number-test.true c.index-functions-number.is in
    rw c.in_ok-push.ensures.items (rows_more (HeadersFit c.args.weighty.now) fs c.loop-number.table.items c.loop-number.number c.index-functions-number.result c.in_ok-flags.flags
    there c.loop-number.invariant c.in_ok-flags.ensures)

use Rattle.std.proofs.Common.{◌<◌, length, set, ap, ◌∙◌, arith}
use Rattle.std.proofs.lemmas.List.{get_or_default}
use Rattle.std.proofs.lemmas.List.Edits.{map_over_more}
use Rattle.site_parts.specs.Widened.{widened_entry}
use Rattle.site_parts.proofs.bundles.widen_entries.Goals as goal

pub loop-place-preserved : goal.loop-place-preserved
loop-place-preserved c =
    let l = c.loop-place in
    let within : c.loop-place.place < length c.args.entries.now = omega arith in
    ap (λ e. set l.entries l.place e) c.widened_entry.ensures
    ∙ map_over_more (widened_entry c.args.part) c.args.entries.now l.entries l.place _ within l.invariant (get_or_default l.entries l.place _ _ c.loop-place-test.true)

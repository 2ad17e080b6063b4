use Rattle.std.proofs.Common.{◌<◌, length, set, ap, ◌∙◌, arith}
use Rattle.std.proofs.lemmas.List.{get_or_default}
use Rattle.std.proofs.lemmas.List.Edits.{map_over_more}
use Rattle.site_parts.specs.Widened.{widened_report}
use Rattle.site_parts.proofs.bundles.widen_reports.Goals as goal

pub loop-place-preserved : goal.loop-place-preserved
loop-place-preserved c =
    let l = c.loop-place in
    let within : c.loop-place.place < length c.args.reports.now = omega arith in
    ap (λ r. set l.reports l.place r) c.widen_report.ensures
    ∙ map_over_more (widened_report c.args.whole c.args.part) c.args.reports.now l.reports l.place _ within l.invariant
    (get_or_default l.reports l.place _ _ c.loop-place-test.true)

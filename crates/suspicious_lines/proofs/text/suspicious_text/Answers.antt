use Rattle.std.proofs.Common.{◌+◌, arith, take}
use Rattle.std.proofs.lemmas.List.{length-take-le, take_more}
use Rattle.suspicious_lines.proofs.LineTexts.{text-more}
use Rattle.suspicious_lines.proofs.text.suspicious_text.Goals as goal

pub loop-row-preserved : goal.loop-row-preserved
loop-row-preserved c =
    let i = c.loop-row.row-index in
    let rows = c.args.rows.now in (
      text-more c.args.table.now c.args.totals.failing c.args.totals.successful c.args.places (take i rows) (take (i + 1) rows) _ c.loop-row.number c.loop-row.out.items c.push_line.new.out.items (take_more rows i _ c.loop-row-test.true)
          (omega (arith, c.loop-row.invariant.1, length-take-le i rows (omega (arith, c.loop-row-test.true)))) c.loop-row.invariant.0 c.in_ok-push_line.ensures,
      omega (arith, c.loop-row.invariant.1),
    )

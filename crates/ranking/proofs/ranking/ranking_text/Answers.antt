use Rattle.std.proofs.Common.{◌+◌, ◌∙◌, ◌++◌, List, ℕ, ap, arith, take}
use Rattle.std.proofs.lemmas.List.{length-take-le, take_more}
use Rattle.ranking.proofs.RankingLemmas.{text-push}
use Rattle.ranking.proofs.ranking.ranking_text.Goals as goal

pub loop-row-preserved : goal.loop-row-preserved
loop-row-preserved c =
    let i = c.loop-row.row-index in
    let rows = c.args.rows.now in
    let now = c.in_ok-extend_from_slice.ensures.items ∙ ap (λ (t : List ℕ). c.loop-row.text.items ++ t) (c.as_slice.ensures.value ∙ c.in_ok-line.ensures) in (
      text-push c.args.table.now (take i rows) (take (i + 1) rows) _ c.loop-row.rank c.loop-row.text.items c.extend_from_slice.new.self.items (take_more rows i _ c.loop-row-test.true) (omega (arith, c.loop-row.invariant.1, length-take-le i rows (omega (arith, c.loop-row-test.true)))) c.loop-row.invariant.0 now,
      omega (arith, c.loop-row.invariant.1),
    )

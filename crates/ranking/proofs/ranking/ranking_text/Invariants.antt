use Rattle.std.proofs.Common.{◌≡◌, ◌+◌, take}
use Rattle.ranking.proofs.RankingLemmas.{TextSoFar}
use Rattle.ranking.proofs.ranking.ranking_text.Given as goal

abbrev pub invariant-loop-row : goal.invariant-loop-row
invariant-loop-row l = TextSoFar l.table (take l.row-index l.rows) l.text.items × (l.rank ≡ l.row-index + 1)

use Rattle.std.proofs.Common.{◌≡◌, ◌+◌, take}
use Rattle.affinity.proofs.CardLemmas.{DealtSoFar}
use Rattle.affinity.proofs.dealing.dealt.Given as goal

abbrev pub invariant-loop-row : goal.invariant-loop-row
invariant-loop-row l = DealtSoFar l.table l.collection.reports (take l.row-index l.rows) l.out.items × (l.place ≡ l.row-index + 1)

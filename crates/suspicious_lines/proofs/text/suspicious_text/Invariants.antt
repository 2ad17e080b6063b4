use Rattle.std.proofs.Common.{◌≡◌, ◌+◌, take}
use Rattle.suspicious_lines.proofs.LineTexts.{IsTextSoFar}
use Rattle.suspicious_lines.proofs.text.suspicious_text.Given as goal

abbrev pub invariant-loop-row : goal.invariant-loop-row
invariant-loop-row l = IsTextSoFar l.table l.totals.failing l.totals.successful l.places (take l.row-index l.rows) l.out.items × (l.number ≡ l.row-index + 1)

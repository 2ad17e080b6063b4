use Rattle.std.proofs.Common.{◌≡◌, ◌+◌, take}
use Rattle.bug_rounds.proofs.BugTexts.{IsBugTextSoFar}
use Rattle.bug_rounds.proofs.text.bugs_text.Given as goal

abbrev pub invariant-loop-bug : goal.invariant-loop-bug
invariant-loop-bug l = IsBugTextSoFar l.table l.totals.failing l.totals.successful (take l.bug-index l.bug-items) l.out.items × (l.number ≡ l.bug-index + 1)

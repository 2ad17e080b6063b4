use Rattle.std.proofs.Common.{◌≡◌, ◌++◌, take}
use Rattle.bug_rounds.proofs.BugTexts.{also_lines}
use Rattle.bug_rounds.proofs.text.push_others.Given as goal

abbrev pub invariant-loop-suspect : goal.invariant-loop-suspect
invariant-loop-suspect l = l.out.items ≡ l.initial.out.items ++ also_lines l.table l.totals.failing l.totals.successful (take l.suspect-index l.others)

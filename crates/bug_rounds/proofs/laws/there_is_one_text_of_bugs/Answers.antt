use Rattle.bug_rounds.proofs.Lawful.{any-order-of-bugs, one-text-of-bugs}
use Rattle.bug_rounds.proofs.laws.there_is_one_text_of_bugs.Goals as goal

pub returns-clause-one : goal.returns-clause-one
returns-clause-one c = one-text-of-bugs

pub returns-clause-order : goal.returns-clause-order
returns-clause-order c = any-order-of-bugs

use Rattle.suspicious_lines.proofs.Lawful.{any-order, one-text}
use Rattle.suspicious_lines.proofs.laws.there_is_one_text.Goals as goal

pub returns-clause-one : goal.returns-clause-one
returns-clause-one c = one-text

pub returns-clause-order : goal.returns-clause-order
returns-clause-order c = any-order

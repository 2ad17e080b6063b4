use Rattle.suspicious_lines.proofs.Lawful.{suspects-predicates}
use Rattle.suspicious_lines.proofs.laws.suspects_are_the_predicates.Goals as goal

pub returns : goal.returns
returns c = suspects-predicates

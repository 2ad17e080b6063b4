use Rattle.suspicious_lines.proofs.Lawful.{listed-well, stood-for}
use Rattle.suspicious_lines.proofs.laws.lines_are_the_best_of_their_places.Goals as goal

pub returns-clause-listed : goal.returns-clause-listed
returns-clause-listed c = listed-well

pub returns-clause-others : goal.returns-clause-others
returns-clause-others c = stood-for

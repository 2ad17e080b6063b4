use Rattle.ranking.proofs.EliminationRows.{are-ranked}
use Rattle.ranking.proofs.laws.eliminations_are_rows.Goals as goal

pub returns : goal.returns
returns c = are-ranked

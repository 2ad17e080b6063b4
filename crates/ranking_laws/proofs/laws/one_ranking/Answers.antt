use Rattle.ranking_laws.proofs.Leaders.{runs_have_one_elimination, runs_have_one_ranking}
use Rattle.ranking_laws.proofs.laws.one_ranking.Goals as goal

pub returns-clause-elimination : goal.returns-clause-elimination
returns-clause-elimination c = runs_have_one_elimination

pub returns-clause-text : goal.returns-clause-text
returns-clause-text c = runs_have_one_ranking

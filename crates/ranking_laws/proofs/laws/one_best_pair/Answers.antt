use Rattle.ranking_laws.proofs.BestPairs.{runs_have_one_found}
use Rattle.ranking_laws.proofs.laws.one_best_pair.Goals as goal

pub returns : goal.returns
returns c = runs_have_one_found

use Rattle.compound.proofs.FoundLemmas.{none-above}
use Rattle.compound.proofs.laws.no_importance_is_above_its_bound.Goals as goal

pub returns : goal.returns
returns c = none-above

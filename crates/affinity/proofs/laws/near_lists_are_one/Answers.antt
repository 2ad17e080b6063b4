use Rattle.affinity.proofs.NearLemmas.{none-itself, one-near, second-round}
use Rattle.affinity.proofs.laws.near_lists_are_one.Goals as goal

pub returns-clause-one : goal.returns-clause-one
returns-clause-one c = one-near

pub returns-clause-other : goal.returns-clause-other
returns-clause-other c = none-itself

pub returns-clause-rounds : goal.returns-clause-rounds
returns-clause-rounds c = second-round

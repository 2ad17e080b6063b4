use Rattle.elimination.proofs.EliminationLemmas.{leader-falls}
use Rattle.elimination.proofs.UniqueLemmas.{any-order, listed-once, one-elimination}
use Rattle.elimination.proofs.laws.one_elimination.Goals as goal

pub returns-clause-one : goal.returns-clause-one
returns-clause-one c = one-elimination

pub returns-clause-order : goal.returns-clause-order
returns-clause-order c = any-order

pub returns-clause-once : goal.returns-clause-once
returns-clause-once c = listed-once

pub returns-clause-falls : goal.returns-clause-falls
returns-clause-falls c = leader-falls

use Rattle.compound.proofs.FoundLemmas.{adds-up, order-free}
use Rattle.compound.proofs.laws.pairs_add_up.Goals as goal

pub returns-clause-parts : goal.returns-clause-parts
returns-clause-parts c = adds-up

pub returns-clause-order : goal.returns-clause-order
returns-clause-order c = order-free

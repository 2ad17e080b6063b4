use Rattle.c_meaning_laws.proofs.Chains.{chain_groups_left}
use Rattle.c_meaning_laws.proofs.laws.a_chain_groups_from_the_left.Goals as goal

pub returns : goal.returns
returns c = chain_groups_left

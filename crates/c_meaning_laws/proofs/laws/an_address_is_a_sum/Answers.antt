use Rattle.c_meaning_laws.proofs.Addresses.{address_of_index_is_sum, address_of_target_is_pointer}
use Rattle.c_meaning_laws.proofs.Typed.{target_of_address_is_place}
use Rattle.c_meaning_laws.proofs.laws.an_address_is_a_sum.Goals as goal

pub returns-clause-index : goal.returns-clause-index
returns-clause-index c = address_of_index_is_sum

pub returns-clause-target : goal.returns-clause-target
returns-clause-target c = address_of_target_is_pointer

pub returns-clause-place : goal.returns-clause-place
returns-clause-place c = target_of_address_is_place

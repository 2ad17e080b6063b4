use Rattle.c_values.proofs.BitLaws.{bit_of_and, bit_of_or, bit_of_xor, bit_of_complement}
use Rattle.c_values.proofs.laws.bit_laws.Goals as goal

pub returns : goal.returns
returns c = record { and = bit_of_and; or = bit_of_or; xor = bit_of_xor; complement = bit_of_complement }

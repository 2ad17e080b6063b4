use Rattle.c_types.proofs.Summed.{structs_summed}
use Rattle.c_types.proofs.laws.sizes_are_sums.Goals as goal

pub returns-clause-structs : goal.returns-clause-structs
returns-clause-structs c = structs_summed

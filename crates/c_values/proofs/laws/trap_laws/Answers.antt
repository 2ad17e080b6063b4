use Rattle.c_values.proofs.TrapLaws.{applied-Undefined, applied_to_one-Undefined, converted-Undefined, truth_of-Undefined}
use Rattle.c_values.proofs.laws.trap_laws.Goals as goal

pub returns : goal.returns
returns c = record { binary = applied-Undefined; unary = applied_to_one-Undefined; conversion = converted-Undefined; truth = truth_of-Undefined }

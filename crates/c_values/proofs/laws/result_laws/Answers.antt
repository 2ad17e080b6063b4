use Rattle.c_values.proofs.Meaning.{fitted-IsModulo, fitted-exact, fitted-Overflow}
use Rattle.c_values.proofs.laws.result_laws.Goals as goal

pub returns : goal.returns
returns c = record { is_modulo = fitted-IsModulo; int_is_exact = fitted-exact; int_overflow = fitted-Overflow }

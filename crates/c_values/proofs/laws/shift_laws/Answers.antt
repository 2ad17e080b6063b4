use Rattle.c_values.proofs.Meaning.{left_shift-IsModulo, left_shift-exact, right_shift-IsRoundedDown}
use Rattle.c_values.proofs.laws.shift_laws.Goals as goal

pub returns : goal.returns
returns c = record { left = left_shift-IsModulo; int_is_exact = left_shift-exact; right = right_shift-IsRoundedDown }

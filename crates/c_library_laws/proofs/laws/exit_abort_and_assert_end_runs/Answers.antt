use Rattle.std.proofs.Common.{refl}
use Rattle.c_library_laws.proofs.laws.exit_abort_and_assert_end_runs.Goals as goal

pub returns : goal.returns
returns c = λ w status. (refl, refl, refl, refl)

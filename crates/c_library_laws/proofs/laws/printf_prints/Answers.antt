use Rattle.c_library_laws.proofs.Printing.{printf-prints}
use Rattle.c_library_laws.proofs.laws.printf_prints.Goals as goal

pub returns : goal.returns
returns c = printf-prints

use Rattle.c_library_laws.proofs.Printing.{putchar-writes, puts-prints}
use Rattle.c_library_laws.proofs.laws.puts_and_putchar_print.Goals as goal

pub returns-clause-string : goal.returns-clause-string
returns-clause-string c = puts-prints

pub returns-clause-character : goal.returns-clause-character
returns-clause-character c = putchar-writes

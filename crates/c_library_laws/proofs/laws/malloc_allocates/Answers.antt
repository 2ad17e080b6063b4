use Rattle.c_library_laws.proofs.Living.{malloc-allocates}
use Rattle.c_library_laws.proofs.laws.malloc_allocates.Goals as goal

pub returns : goal.returns
returns c = malloc-allocates

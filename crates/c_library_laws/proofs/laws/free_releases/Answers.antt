use Rattle.c_library_laws.proofs.Living.{free-of-null, free-releases, free-traps}
use Rattle.c_library_laws.proofs.laws.free_releases.Goals as goal

pub returns-clause-object : goal.returns-clause-object
returns-clause-object c = free-releases

pub returns-clause-null : goal.returns-clause-null
returns-clause-null c = free-of-null

pub returns-clause-other : goal.returns-clause-other
returns-clause-other c = free-traps

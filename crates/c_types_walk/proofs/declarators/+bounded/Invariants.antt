use Rattle.std.proofs.Common.{length}
use Rattle.c_types_walk.proofs.declarators.+bounded.Given as goal

abbrev pub decreases-bounded : goal.decreases-bounded
decreases-bounded l = length l.bounds.now

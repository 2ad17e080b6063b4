use Rattle.std.proofs.Common.{refl}
use Rattle.c_library_laws.proofs.laws.getchar_reads.Goals as goal

pub returns-clause-next : goal.returns-clause-next
returns-clause-next c = λ w byte rest. refl

pub returns-clause-end : goal.returns-clause-end
returns-clause-end c = λ w. (0, refl)

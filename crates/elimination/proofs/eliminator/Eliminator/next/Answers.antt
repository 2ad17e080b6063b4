use Rattle.std.proofs.Common.{subst}
use Rattle.elimination.specs.Elimination.{EliminatorState}
use Rattle.elimination_tallies.specs.Leading.{NonePasses}
use Rattle.elimination.proofs.eliminator.Eliminator.next.Goals as goal

pub returns-in_default-clause-none : goal.returns-in_default-clause-none
returns-in_default-clause-none g c = subst (λ (o : EliminatorState). NonePasses o.branches o.runs) c.self.view_is c.in_default.ensures.none

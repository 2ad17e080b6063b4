use Rattle.std.proofs.Common.{◌≡◌, length}
use Rattle.c_syntax.specs.Plain.{plain_exprs}
use Rattle.c_types_rules.specs.Plain.{plain_type}
use Rattle.c_types_walk.specs.Initialisers.{all_initialise}
use Rattle.c_types_walk.proofs.initialisers.all_initialise.Given as goal

abbrev pub invariant-loop-items : goal.invariant-loop-items
invariant-loop-items l =
    all_initialise l.global (plain_type l.ctype) (plain_exprs l.items) l.xs ≡ all_initialise l.global (plain_type l.ctype) (plain_exprs l.fn.items) l.fn.xs

abbrev pub decreases-loop-items : goal.decreases-loop-items
decreases-loop-items l = length l.items

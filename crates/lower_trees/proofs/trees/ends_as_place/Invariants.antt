use Rattle.std.proofs.Common.{◌≡◌, drop}
use Rattle.c_syntax.specs.Plain.{plain_operators}
use Rattle.c_meaning.specs.Trees.{ends_as_place}
use Rattle.lower_trees.proofs.trees.ends_as_place.Given as goal

abbrev pub invariant-loop-operator : goal.invariant-loop-operator
invariant-loop-operator l = ends_as_place l.ends (plain_operators (drop l.operator-index l.operators)) ≡ ends_as_place l.fn.begins (plain_operators l.operators)

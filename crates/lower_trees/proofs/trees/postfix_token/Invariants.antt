use Rattle.std.proofs.Common.{◌≡◌, drop}
use Rattle.c_syntax.specs.Plain.{plain_operators}
use Rattle.c_meaning.specs.Trees.{postfix_token}
use Rattle.lower_trees.proofs.trees.postfix_token.Given as goal

abbrev pub invariant-loop-operator : goal.invariant-loop-operator
invariant-loop-operator l = postfix_token l.last (plain_operators (drop l.operator-index l.operators)) ≡ postfix_token l.fn.token (plain_operators l.operators)

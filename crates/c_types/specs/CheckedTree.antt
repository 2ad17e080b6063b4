-- A tree without a fault, with what is known of it.
use Rattle.std.specs.Prelude.{◌≡◌}
use Rattle.c_syntax.specs.declared.tree.Tree.{Tree}
use Rattle.c_syntax.specs.Words.{IsKeptTree, plain_tree}
use Rattle.c_types.specs.Fault.{walk_tree}
use Rattle.c_types_expressions.specs.declared.walk.Walk.{Walk}
use Rattle.c_types_expressions.specs.Walked.{Fine}

pub record CheckedTree : Type 0 where
  pub tree : Tree
  pub walk : Walk

-- The tree is one as a parser gives it, and what is known of it is what the walk through it comes to, without a fault.
pub record ComesTo (tree : Tree) (walk : Walk) : Type 0 where
  pub kept : IsKeptTree (plain_tree tree)
  pub walked : walk_tree (plain_tree tree) ≡ Fine tt walk

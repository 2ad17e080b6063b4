-- Accepted texts: those that have tokens, a tree by the grammar, and no fault.
use Rattle.std.specs.Prelude.{◌≡◌, ℕ, List}
use Rattle.c_syntax.specs.ItemTree.{SourceTree}
use Rattle.c_syntax.specs.declared.token.Token.{Token}
use Rattle.c_grammar.specs.Tree.{IsTreeByGrammar}
use Rattle.c_types_expressions.specs.declared.walk.Walk.{Walk}
use Rattle.c_types_expressions.specs.Walked.{Fine}
use Rattle.c_types.specs.Fault.{walk_tree}
use Rattle.compiler.specs.Accepted.{HasTokens}

-- the walk through the tree's types meets no fault, and this is known of it then
pub record IsAcceptedText (text : List ℕ) (tree : SourceTree) (known : Walk) : Type 0 where
  pub tokens : List Token
  pub has_tokens : HasTokens text tokens
  pub is_tree : IsTreeByGrammar tokens tree
  pub checks : walk_tree tree ≡ Fine tt known

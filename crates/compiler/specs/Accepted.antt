-- Accepted texts: those that have tokens, a tree and no fault.
use Rattle.std.specs.Prelude.{◌≡◌, ℕ, ◌≤◌, List, length}
use Rattle.c_syntax.specs.declared.token.Token.{Token}
use Rattle.c_syntax.specs.Words.{SourceTree, most_bytes, IsTokens}
use Rattle.c_types_expressions.specs.declared.walk.Walk.{Walk}
use Rattle.c_types.specs.Fault.{walk_tree}
use Rattle.c_types_expressions.specs.Walked.{Fine}
use Rattle.c_lexer.specs.Lexing.{Lexes}
use Rattle.c_parser.specs.Parsed.{IsTreeOf}

-- the text isn't too large, and these are its tokens, which keep what a list of tokens keeps
pub record HasTokens (text : List ℕ) (tokens : List Token) : Type 0 where
  pub short : length text ≤ most_bytes
  pub lexes : Lexes text tokens
  pub keeps : IsTokens tokens

-- the tokens have this tree
pub record HasTree (text : List ℕ) (tokens : List Token) (tree : SourceTree) : Type 0 where
  pub has_tokens : HasTokens text tokens
  pub is_tree : IsTreeOf tokens tree

-- the walk through the tree's types meets no fault, and this is known of it then
pub record IsAccepted (text : List ℕ) (tree : SourceTree) (known : Walk) : Type 0 where
  pub tokens : List Token
  pub has_tree : HasTree text tokens tree
  pub checks : walk_tree tree ≡ Fine tt known

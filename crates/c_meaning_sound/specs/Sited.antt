-- What an accepted text keeps beside its types, so that a program can have its sites.
use Rattle.std.specs.Prelude.{ℕ, ◌+◌, ◌≤◌, IsTrue, List, length, map}
use Rattle.std.specs.List.{AllByRecursion}
use Rattle.cbi_base.specs.Name.{IsName}
use Rattle.c_syntax.specs.declared.token.TokenKind.{TokenKind}
use Rattle.c_syntax.specs.declared.token.TokenKind.TheVariants.{Name, Constant}
use Rattle.c_syntax.specs.Words.{SourceTree, tree_kinds}
use Rattle.c_types_expressions.specs.declared.walk.Definition.{Definition}
use Rattle.c_types_expressions.specs.declared.walk.Walk.{Walk}
use Rattle.flow.specs.Words.{line_limit, token_limit, is_constant}

-- a name is one, and a constant is one that a partner can be
abbrev pub IsSitedToken : TokenKind → Type 0
IsSitedToken (Name name) = IsName name
IsSitedToken (Constant kind value) = IsTrue (is_constant value)
IsSitedToken token = Unit {0}

-- a line that a site can have
abbrev pub IsLine : ℕ → Type 0
IsLine line = (1 ≤ line) × (line ≤ line_limit)

pub record IsSited (tree : SourceTree) : Type 0 where
  pub tokens : AllByRecursion IsSitedToken (tree_kinds tree)
  pub lines : AllByRecursion IsLine tree.lines
  pub few : length tree.lines ≤ token_limit + 1

abbrev pub count_of : Definition → ℕ
count_of d = d.count

-- how many locals each defined function has
abbrev pub local_counts : Walk → List ℕ
local_counts walk = map count_of walk.definitions

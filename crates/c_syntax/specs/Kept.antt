-- What a parser's tree keeps of the tokens of which it is the tree.
use Rattle.std.specs.Prelude.{ℕ, ◌≤◌, ◌<◌, length, sum_by}
use Rattle.std.specs.List.{AllByRecursion}
use Rattle.c_syntax.specs.ItemTree.{SourceTree}
use Rattle.c_syntax.specs.Limits.{greatest_line, most_bytes, most_tokens}
use Rattle.c_syntax.specs.Spelling.{tree_kinds}
use Rattle.c_syntax.specs.Tokens.{IsAtLeastChar, IsOfBytes, KindFits, NameFits, kind_text_len}
use Rattle.c_syntax.specs.WellFormed.{IsWellFormed}

-- a line that a text can have
abbrev pub IsLineOfText : ℕ → Type 0
IsLineOfText line = (1 ≤ line) × (line ≤ greatest_line)

-- The tree is one of the grammar, and its tokens and lines keep what a list of tokens does.
pub record IsKeptTree (t : SourceTree) : Type 0 where
  pub formed : IsWellFormed t
  pub few : length (tree_kinds t) ≤ most_tokens
  pub text : sum_by kind_text_len (tree_kinds t) < most_bytes
  pub constants : AllByRecursion KindFits (tree_kinds t)
  pub least : AllByRecursion IsAtLeastChar (tree_kinds t)
  pub names : AllByRecursion NameFits (tree_kinds t)
  pub bytes : AllByRecursion IsOfBytes (tree_kinds t)
  pub lines : AllByRecursion IsLineOfText t.lines

-- Texts that are accepted, and what their tokens keep beside their types.
use Rattle.std.specs.Prelude.{◌≡◌, ◌≤◌, sum_by}
use Rattle.std.specs.List.{AllByRecursion}
use Rattle.c_syntax.specs.declared.token.TokenKind.{TokenKind}
use Rattle.c_syntax.specs.declared.token.TokenKind.TheVariants.{Constant}
use Rattle.c_syntax.specs.Words.{SourceTree, tree_kinds, kind_text_len, IsWellFormed}
use Rattle.c_types_expressions.specs.declared.walk.Walk.{Walk}
use Rattle.c_types.specs.Fault.{walk_tree}
use Rattle.c_types_expressions.specs.Walked.{Fine}
use Rattle.c_meaning_laws.specs.TypedText.{Negates}

-- A constant is an `int` or an `unsigned`, and a `-` may stand before it: its digits have no sign (C99 6.4.4.1).
abbrev pub IsNegatable : TokenKind → Type 0
IsNegatable (Constant kind value) = Negates kind value
IsNegatable token = Unit {0}

-- A tree that the grammar makes, through whose types the walk comes without a fault. Its strings are together no longer than a text can be.
pub record IsAcceptedTree (tree : SourceTree) (walk : Walk) : Type 0 where
  pub formed : IsWellFormed tree
  pub walked : walk_tree tree ≡ Fine tt walk
  pub short : sum_by kind_text_len (tree_kinds tree) ≤ 1048575
  pub constants : AllByRecursion IsNegatable (tree_kinds tree)

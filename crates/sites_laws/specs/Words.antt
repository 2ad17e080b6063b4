-- The branches of the statements of a function, by the words of its tokens: one at each `if` (C99 6.8.4.1), one at each `while` and each `do` (6.8.5.1,
-- 6.8.5.2), where the `while` of a `do` has none, and one at each `for` with a condition (6.8.5.3).
use Rattle.std.specs.Prelude.{◌≡◌, ℕ, ◌+◌, Bool, true, false, if◌then◌else◌, List, [], ◌∷◌, count_by}
use Rattle.c_syntax.specs.declared.token.Sign.TheVariants as sign
use Rattle.c_syntax.specs.declared.token.TokenKind.{TokenKind}
use Rattle.c_syntax.specs.declared.token.TokenKind.TheVariants as kind
use Rattle.c_syntax.specs.declared.token.Word.TheVariants as word
use Rattle.flow.specs.declared.site.BranchWord.TheVariants as branch
use Rattle.sites.specs.declared.spots.Spot.{Spot}
use Rattle.sites.specs.declared.spots.Spot.TheVariants as spot

abbrev pub is_if : TokenKind → Bool
is_if (kind.Word word.If) = true
is_if other = false

abbrev pub is_while : TokenKind → Bool
is_while (kind.Word word.While) = true
is_while other = false

abbrev pub is_do : TokenKind → Bool
is_do (kind.Word word.Do) = true
is_do other = false

abbrev pub begins_with_semicolon : List TokenKind → Bool
begins_with_semicolon (kind.Punctuator sign.Semicolon ∷ rest) = true
begins_with_semicolon kinds = false

-- whether a `for` lacks its condition: its first semicolon is followed by another one
abbrev pub lacks_condition : List TokenKind → Bool
lacks_condition [] = false
lacks_condition (kind.Punctuator sign.Semicolon ∷ rest) = begins_with_semicolon rest
lacks_condition (other ∷ rest) = lacks_condition rest

-- how many `for` have a condition
abbrev pub conditions_of : List TokenKind → ℕ
conditions_of [] = 0
conditions_of (kind.Word word.For ∷ rest) = (if lacks_condition rest then 0 else 1) + conditions_of rest
conditions_of (other ∷ rest) = conditions_of rest

abbrev pub is_if_branch : Spot → Bool
is_if_branch (spot.Branch token branch.If) = true
is_if_branch other = false

abbrev pub is_while_branch : Spot → Bool
is_while_branch (spot.Branch token branch.While) = true
is_while_branch other = false

abbrev pub is_do_branch : Spot → Bool
is_do_branch (spot.Branch token branch.Do) = true
is_do_branch other = false

abbrev pub is_for_branch : Spot → Bool
is_for_branch (spot.Branch token branch.For) = true
is_for_branch other = false

pub record AreBranchesOf (kinds : List TokenKind) (spots : List Spot) : Type 0 where
  pub ifs : count_by is_if_branch spots ≡ count_by is_if kinds
  pub whiles : count_by is_while_branch spots + count_by is_do kinds ≡ count_by is_while kinds
  pub dos : count_by is_do_branch spots ≡ count_by is_do kinds
  pub fors : count_by is_for_branch spots ≡ conditions_of kinds

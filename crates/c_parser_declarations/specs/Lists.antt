-- Lists of parts, with the sign that closes them.
use Rattle.std.specs.Prelude.{◌≡◌, ℕ, ◌+◌, List, [], ◌∷◌, ◌++◌, length, flat_map, Some}
use Rattle.c_syntax.specs.declared.token.Sign.{Sign}
use Rattle.c_syntax.specs.declared.token.Sign.TheVariants as sign_is
use Rattle.c_syntax.specs.Spelling.{Kinds, a_sign, after_commas}
use Rattle.c_parser_expressions.specs.Reading.{Rule, AnythingFollows, sign_at}

-- what can stand behind a part of such a list: a comma, or the sign that closes the list
pub data Separates (s : Sign) (k : Kinds) : Type 0 where
  comma : sign_at k ≡ Some sign_is.Comma → Separates s k
  closed : sign_at k ≡ Some s → Separates s k

-- parts of the rule, each with a comma before it
abbrev pub EachBehindComma : {A : Type 0} → Rule A → ℕ → List A → Type 0
EachBehindComma P at [] = Unit {0}
EachBehindComma P at (x ∷ xs) = P.Is (at + 1) x × EachBehindComma P (at + 1 + length (P.spell x)) xs

abbrev pub parts_behind_commas : {A : Type 0} → Rule A → Sign → Rule (List A)
parts_behind_commas P s = record { Is = EachBehindComma P; spell = λ xs. after_commas P.spell xs ++ a_sign s; Ends = λ xs k. AnythingFollows k }

-- parts of the rule, one behind another
abbrev pub EachInTurn : {A : Type 0} → Rule A → ℕ → List A → Type 0
EachInTurn P at [] = Unit {0}
EachInTurn P at (x ∷ xs) = P.Is at x × EachInTurn P (at + length (P.spell x)) xs

abbrev pub parts_in_turn : {A : Type 0} → Rule A → Sign → Rule (List A)
parts_in_turn P s = record { Is = EachInTurn P; spell = λ xs. flat_map P.spell xs ++ a_sign s; Ends = λ xs k. AnythingFollows k }

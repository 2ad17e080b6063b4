-- The rules of what stands behind the base of an item.
use Rattle.std.specs.Prelude.{ℕ, ◌+◌, ◌-◌, ◌≤◌, List, ◌++◌, length, flat_map, Option, IfSome}
use Rattle.c_syntax.specs.declared.token.Sign.TheVariants as sign
use Rattle.c_syntax.specs.declared.parts.Bound.{Bound}
use Rattle.c_syntax.specs.declared.parts.Params.{Params}
use Rattle.c_syntax.specs.Words.{InitialTree, StartTree, EntryList, Kinds, a_sign, optional_kinds, after_commas, bound_kinds, params_kinds, initial_kinds}
use Rattle.c_syntax.specs.Words.{start_kinds, body_kinds}
use Rattle.c_parser_expressions.specs.Reading.{Rule, AnythingFollows, sequence_rule, name_rule}
use Rattle.c_parser_expressions.specs.Expressions.{stars}
use Rattle.c_parser_declarations.specs.Declarations.{initialiser_or_none, starts_end}
use Rattle.c_parser_statements.specs.Statements.{AreEntries}
use Rattle.c_parser_declarations.specs.Parts.{AreParams}

-- a body, or a semicolon
abbrev pub body_or_semicolon : (d : ℕ) → Rule (Option EntryList)
body_or_semicolon d = record { Is = λ at o. IfSome o (AreEntries d (at + 1)); spell = body_kinds; Ends = λ o k. AnythingFollows k }

-- What stands behind the stars and the name of an item: parameters and a body, or the rest of a declaration.
pub data Ending : Type 0 where
  Call : (params : Params) (body : Option EntryList) → Ending
  More : (bounds : List Bound) (initial : Option InitialTree) (starts : List StartTree) → Ending

abbrev pub ending_kinds : Ending → Kinds
ending_kinds (Call ps o) = a_sign sign.LeftParen ++ ((params_kinds ps ++ a_sign sign.RightParen) ++ body_kinds o)
ending_kinds (More bs o xs) = flat_map bound_kinds bs ++ (optional_kinds (λ y. a_sign sign.Equal ++ initial_kinds y) o ++
    (after_commas start_kinds xs ++ a_sign sign.Semicolon))

abbrev pub EndingIs : (d n at : ℕ) → Ending → Type 0
EndingIs d n at (Call ps o) = AreParams d (at + 1) ps × IfSome o (AreEntries d (at + 1 + length (params_kinds ps ++ a_sign sign.RightParen) + 1))
EndingIs d n at (More bs o xs) =
    (length bs ≤ d - n) × ((initialiser_or_none (d - 1)).Is (at + length (flat_map bound_kinds bs)) o ×
    (starts_end 1 d).Is (at + length (flat_map bound_kinds bs) + length ((initialiser_or_none (d - 1)).spell o)) xs)

abbrev pub item_ending : (d n : ℕ) → Rule Ending
item_ending d n = record { Is = EndingIs d n; spell = ending_kinds; Ends = λ x k. AnythingFollows k }

-- what stands behind the base of an item other than a struct
abbrev pub Tail : Type 0
Tail = ℕ × (List ℕ × Ending)

abbrev pub item_tail : (d : ℕ) → Rule Tail
item_tail d = sequence_rule (stars d) (λ n. sequence_rule name_rule (λ x. item_ending d n))

-- The parser of declarations as a function on lists.
use Rattle.std.specs.Prelude.{ℕ, zero, suc, ◌-◌, ◌==◌, if◌then◌else◌, Bool, true, false, not, ◌&&◌, List, [], ◌∷◌, Option, Some, None, Ok, Err}
use Rattle.c_syntax.specs.declared.token.Sign.TheVariants as sign
use Rattle.c_syntax.specs.declared.token.TokenKind.{TokenKind}
use Rattle.c_syntax.specs.declared.token.TokenKind.TheVariants as kind
use Rattle.c_syntax.specs.declared.parts.Bound.{Bound}
use Rattle.c_syntax.specs.declared.parts.Constant.{Constant}
use Rattle.c_syntax.specs.declared.parts.Declarator.{Declarator}
use Rattle.c_syntax.specs.Words.{ExprTree, InitialTree, StartTree, DeclarationTree, expr_list}
use Rattle.c_syntax.specs.StatementTree as s
use Rattle.c_parser_expressions.specs.Reading.{Cursor, Read, first_kind, kinds_behind_first, next_cursor}
use Rattle.c_parser_expressions.specs.Marks.{begins_with_sign}
use Rattle.c_parser_expressions.specs.Steps.{◌>>=◌, Step, with_front, all_of, the_sign, the_name}
use Rattle.c_parser_expressions.specs.ExpressionParser.{the_base, the_stars, assignment_by, deeper_than}

-- the constant that a token is
abbrev pub constant_of : Option TokenKind → Option Constant
constant_of (Some (kind.Constant k value)) = Some (record { kind = k; value = value })
constant_of _ = None

abbrev pub past_constant : Option Constant → Cursor → Cursor
past_constant None c = c
past_constant (Some constant) c = next_cursor c

-- what stands behind a bracket: a constant or none, and the other bracket
unfoldable pub the_bound : Cursor → Read Bound
the_bound c = do
  y ← the_sign sign.RightBracket (past_constant (constant_of (first_kind c.rest)) c)
  Ok (record { length = constant_of (first_kind c.rest) }, y.1)

-- bounds for as long as one begins, and at most so many
unfoldable pub the_bounds : (most : ℕ) → Cursor → Read (List Bound)
the_bounds zero c = Ok ([], c)
the_bounds (suc n) c = if begins_with_sign sign.LeftBracket c.rest then (do
  x ← the_bound (next_cursor c)
  xs ← the_bounds n x.1
  Ok (x.0 ∷ xs.0, xs.1))
    else Ok ([], c)

-- a declarator, behind its stars
unfoldable pub declarator_by : (depth token : ℕ) → ℕ × Cursor → Read Declarator
declarator_by depth token stars = do
  name ← the_name stars.1
  bounds ← the_bounds (depth - stars.0) name.1
  Ok (record { token = token; stars = stars.0; name_token = stars.1.at; name = name.0; bounds = bounds.0 }, bounds.1)

unfoldable pub the_declarator : (depth : ℕ) → Cursor → Read Declarator
the_declarator depth c = declarator_by depth c.at (the_stars depth c)

-- a further item of a list: a comma that ends the list has none behind it
unfoldable pub item_step : (Cursor → Read ExprTree) → Cursor → Step ExprTree
item_step item c = if begins_with_sign sign.Comma c.rest && not (begins_with_sign sign.RightBrace (kinds_behind_first c.rest)) then Some
    (item (next_cursor c)) else None

-- whether a comma stands at the end of a braced list, and the place behind the brace
unfoldable pub end_of_list : Cursor → Read Bool
end_of_list c = if begins_with_sign sign.Comma c.rest then (the_sign sign.RightBrace (next_cursor c) >>= (λ y. Ok (true, y.1))) else
    (the_sign sign.RightBrace c >>= (λ y. Ok (false, y.1)))

unfoldable pub braced_by : (depth : ℕ) → Cursor → Read InitialTree
braced_by depth c = if depth == 0 then Err c.at else (do
  x ← (deeper_than depth).assignment (next_cursor c)
  xs ← with_front (x.0 ∷ []) (all_of (item_step (deeper_than depth).assignment) x.1)
  comma ← end_of_list xs.1
  Ok (s.Braced c.at (expr_list xs.0) comma.0, comma.1))

unfoldable pub initial_by : (depth : ℕ) → Cursor → Read InitialTree
initial_by depth c = if begins_with_sign sign.LeftBrace c.rest then braced_by depth c else (do
  x ← (assignment_by depth (deeper_than depth)) c
  Ok (s.Value x.0, x.1))

-- an initialiser, where one begins
unfoldable pub initialised_by : (depth : ℕ) → Cursor → Read (Option InitialTree)
initialised_by depth c = if begins_with_sign sign.Equal c.rest then (do
  x ← initial_by depth (next_cursor c)
  Ok (Some x.0, x.1))
    else Ok (None, c)

-- a declared variable. `by` is how much deeper its initialiser is than its declaration.
unfoldable pub start_by : (by depth : ℕ) → Cursor → Read StartTree
start_by by depth c = do
  d ← the_declarator depth c
  x ← initialised_by (depth - by) d.1
  Ok (record { token = c.at; declarator = d.0; initial = x.0 }, x.1)

unfoldable pub start_step : (by depth : ℕ) → Cursor → Step StartTree
start_step by depth c = if begins_with_sign sign.Comma c.rest then Some (start_by by depth (next_cursor c)) else None

-- further variables of a declaration behind this one, and its semicolon
unfoldable pub more_starts_by : (by depth : ℕ) → StartTree → Cursor → Read (List StartTree)
more_starts_by by depth first c = do
  xs ← with_front (first ∷ []) (all_of (start_step by depth) c)
  y ← the_sign sign.Semicolon xs.1
  Ok (xs.0, y.1)

-- the variables of a declaration, and its semicolon
unfoldable pub starts_by : (by depth : ℕ) → Cursor → Read (List StartTree)
starts_by by depth c = do
  x ← start_by by depth c
  more_starts_by by depth x.0 x.1

unfoldable pub declaration_by : (by depth : ℕ) → Cursor → Read DeclarationTree
declaration_by by depth c = do
  b ← the_base c
  xs ← starts_by by depth b.1
  Ok (record { token = c.at; base = b.0; starts = xs.0 }, xs.1)

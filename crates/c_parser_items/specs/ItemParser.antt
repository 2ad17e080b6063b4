-- The parser of items as a function on lists.
use Rattle.std.specs.Prelude.{ℕ, ◌-◌, if◌then◌else◌, List, Option, Some, None, Ok}
use Rattle.c_syntax.specs.declared.token.Sign.TheVariants as sign
use Rattle.c_syntax.specs.declared.parts.Base.{Base}
use Rattle.c_syntax.specs.declared.parts.Base.TheVariants as base
use Rattle.c_syntax.specs.declared.parts.Bound.{Bound}
use Rattle.c_syntax.specs.Words.{InitialTree, StartTree, EntryList, ItemTree}
use Rattle.c_syntax.specs.ItemTree as i
use Rattle.c_parser_expressions.specs.Reading.{Cursor, Read, next_cursor}
use Rattle.c_parser_expressions.specs.Marks.{begins_with_sign}
use Rattle.c_parser_expressions.specs.Steps.{◌>>=◌, the_sign, the_name}
use Rattle.c_parser_expressions.specs.ExpressionParser.{the_base, the_stars}
use Rattle.c_parser_declarations.specs.DeclarationParser.{the_bounds, initialised_by, more_starts_by}
use Rattle.c_parser_statements.specs.StatementParser.{entries_by, statements_below}
use Rattle.c_parser_declarations.specs.PartParser.{lines_by, params_by}

-- a struct, behind its brace
unfoldable pub struct_by : (depth token : ℕ) (tag : List ℕ) → Cursor → Read ItemTree
struct_by depth token tag c = do
  xs ← lines_by depth c
  y ← the_sign sign.Semicolon xs.1
  Ok (i.Struct token tag xs.0, y.1)

-- functions and declarations

-- a body, or a semicolon
unfoldable pub body_by : (depth : ℕ) → Cursor → Read (Option EntryList)
body_by depth c = if begins_with_sign sign.Semicolon c.rest then Ok (None, next_cursor c) else (do
  y ← the_sign sign.LeftBrace c
  x ← entries_by depth (statements_below depth) y.1
  Ok (Some x.0, x.1))

-- what stands before the parenthesis of a function or behind the name of a first variable
pub record Head : Type 0 where
  pub token : ℕ
  pub base : Base
  pub first : ℕ
  pub stars : ℕ
  pub name_token : ℕ
  pub name : List ℕ

unfoldable pub function_by : (depth : ℕ) → Head → Cursor → Read ItemTree
function_by depth h c = do
  ps ← params_by depth c
  x ← body_by depth ps.1
  Ok (i.Function h.token h.base h.stars h.name ps.0 x.0, x.1)

-- the first variable of a declaration, from its head
abbrev pub first_start : Head → List Bound → Option InitialTree → StartTree
first_start h bounds initial = record {
  token = h.first;
  declarator = record { token = h.first; stars = h.stars; name_token = h.name_token; name = h.name; bounds = bounds };
  initial = initial;
}

-- a declaration of globals, behind its first name
unfoldable pub globals_by : (depth : ℕ) → Head → Cursor → Read ItemTree
globals_by depth h c = do
  bounds ← the_bounds (depth - h.stars) c
  x ← initialised_by (depth - 1) bounds.1
  xs ← more_starts_by 1 depth (first_start h bounds.0 x.0) x.1
  Ok (i.Declaration (record { token = h.token; base = h.base; starts = xs.0 }), xs.1)

-- what stands behind a head
unfoldable pub headed_by : (depth : ℕ) → Head → Cursor → Read ItemTree
headed_by depth h c = if begins_with_sign sign.LeftParen c.rest then function_by depth h (next_cursor c) else globals_by depth h c

unfoldable pub head_by : (depth token : ℕ) → Base → (first : ℕ) → ℕ × Cursor → Read Head
head_by depth token b first stars = do
  name ← the_name stars.1
  Ok (record { token = token; base = b; first = first; stars = stars.0; name_token = stars.1.at; name = name.0 }, name.1)

-- what stands behind a base
unfoldable pub declared_by : (depth token : ℕ) → Base → Cursor → Read ItemTree
declared_by depth token b c = do
  h ← head_by depth token b c.at (the_stars depth c)
  headed_by depth h.0 h.1

abbrev pub item_of : (depth token : ℕ) → Base → Cursor → Read ItemTree
item_of depth token (base.Struct at tag) c =
    if begins_with_sign sign.LeftBrace c.rest then struct_by depth token tag (next_cursor c) else declared_by depth token
    (base.Struct at tag) c
item_of depth token b c = declared_by depth token b c

unfoldable pub item_by : (depth : ℕ) → Cursor → Read ItemTree
item_by depth c = do
  b ← the_base c
  item_of depth c.at b.0 b.1

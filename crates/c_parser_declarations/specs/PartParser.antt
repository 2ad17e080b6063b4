-- The parser of the parts of items as a function on lists.
use Rattle.std.specs.Prelude.{ℕ, zero, suc, ◌-◌, ◌==◌, if◌then◌else◌, Bool, true, false, ◌&&◌, List, [], ◌∷◌, Option, Some, None, Ok, Err}
use Rattle.c_syntax.specs.declared.token.Sign.TheVariants as sign
use Rattle.c_syntax.specs.declared.token.Word.{Word}
use Rattle.c_syntax.specs.declared.token.Word.TheVariants as word
use Rattle.c_syntax.specs.declared.parts.Base.{Base}
use Rattle.c_syntax.specs.declared.parts.Base.TheVariants as base
use Rattle.c_syntax.specs.declared.parts.Bound.{Bound}
use Rattle.c_syntax.specs.declared.parts.Declarator.{Declarator}
use Rattle.c_syntax.specs.declared.parts.Members.{Members}
use Rattle.c_syntax.specs.declared.parts.Param.{Param}
use Rattle.c_syntax.specs.declared.parts.ParamName.{ParamName}
use Rattle.c_syntax.specs.declared.parts.Params.{Params}
use Rattle.c_syntax.specs.declared.parts.Params.TheVariants as params
use Rattle.c_syntax.specs.Spelling.{Kinds}
use Rattle.c_parser_expressions.specs.Reading.{Cursor, Read, kinds_behind_first, next_cursor, word_at, name_at}
use Rattle.c_parser_expressions.specs.Marks.{begins_with_sign}
use Rattle.c_parser_expressions.specs.Steps.{◌>>=◌, Step, with_front, all_of, the_sign}
use Rattle.c_parser_expressions.specs.ExpressionParser.{the_base, the_type}
use Rattle.c_parser_declarations.specs.DeclarationParser.{the_bound, the_declarator}

-- the lines of members of a struct

unfoldable pub declarator_step : (depth : ℕ) → Cursor → Step Declarator
declarator_step depth c = if begins_with_sign sign.Comma c.rest then Some (the_declarator depth (next_cursor c)) else None

unfoldable pub members_by : (depth : ℕ) → Cursor → Read Members
members_by depth c = do
  b ← the_base c
  x ← the_declarator depth b.1
  xs ← with_front (x.0 ∷ []) (all_of (declarator_step depth) x.1)
  y ← the_sign sign.Semicolon xs.1
  Ok (record { token = c.at; base = b.0; declarators = xs.0 }, y.1)

unfoldable pub members_step : (depth : ℕ) → Cursor → Step Members
members_step depth c = if begins_with_sign sign.RightBrace c.rest then None else Some (members_by depth c)

-- the lines of a struct, and the brace behind them
unfoldable pub lines_by : (depth : ℕ) → Cursor → Read (List Members)
lines_by depth c = do
  x ← members_by depth c
  xs ← with_front (x.0 ∷ []) (all_of (members_step depth) x.1)
  y ← the_sign sign.RightBrace xs.1
  Ok (xs.0, y.1)

-- parameters

-- one bound or none, and none where nothing may lie deeper
unfoldable pub one_bound : (most : ℕ) → Cursor → Read (Option Bound)
one_bound zero c = Ok (None, c)
one_bound (suc n) c = if begins_with_sign sign.LeftBracket c.rest then (do
  x ← the_bound (next_cursor c)
  Ok (Some x.0, x.1))
    else Ok (None, c)

abbrev pub param_name_of : (most : ℕ) → Cursor → Option (List ℕ) → Read (Option ParamName)
param_name_of most c None = Ok (None, c)
param_name_of most c (Some name) = do
  x ← one_bound most (next_cursor c)
  Ok (Some (record { token = c.at; name = name; bound = x.0 }), x.1)

unfoldable pub param_name_by : (most : ℕ) → Cursor → Read (Option ParamName)
param_name_by most c = param_name_of most c (name_at c.rest)

abbrev pub is_void_base : Base → Bool
is_void_base (base.Void token) = true
is_void_base _ = false

-- a parameter, behind its type
unfoldable pub param_of : (depth token : ℕ) → Base × ℕ → Cursor → Read Param
param_of depth token t c = if is_void_base t.0 && (t.1 == 0) then Err c.at else (do
  x ← param_name_by (depth - t.1) c
  Ok (record { token = token; base = t.0; stars = t.1; name = x.0 }, x.1))

unfoldable pub param_by : (depth : ℕ) → Cursor → Read Param
param_by depth c = do
  t ← the_type depth c
  param_of depth c.at t.0 t.1

unfoldable pub param_step : (depth : ℕ) → Cursor → Step Param
param_step depth c = if begins_with_sign sign.Comma c.rest then Some (param_by depth (next_cursor c)) else None

unfoldable pub param_list_by : (depth : ℕ) → Cursor → Read Params
param_list_by depth c = do
  x ← param_by depth c
  xs ← with_front (x.0 ∷ []) (all_of (param_step depth) x.1)
  y ← the_sign sign.RightParen xs.1
  Ok (params.List xs.0, y.1)

abbrev pub is_void_word : Option Word → Bool
is_void_word (Some word.Void) = true
is_void_word _ = false

-- `void` alone, with the parenthesis behind it
abbrev pub only_void : Kinds → Bool
only_void k = is_void_word (word_at k) && begins_with_sign sign.RightParen (kinds_behind_first k)

-- parameters, behind their parenthesis
unfoldable pub params_by : (depth : ℕ) → Cursor → Read Params
params_by depth c =
    if begins_with_sign sign.RightParen c.rest then Ok (params.Empty, next_cursor c)
    else (if only_void c.rest then Ok (params.Void, next_cursor (next_cursor c))
    else param_list_by depth c)

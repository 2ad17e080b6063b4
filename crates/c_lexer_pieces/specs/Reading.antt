-- What is read at the front of some bytes, with the bytes after it.
use Rattle.std.specs.Prelude.{ℕ, zero, suc, ◌+◌, ◌^◌, pos, Bool, true, false, ◌||◌, ◌&&◌, ◌==◌, nat_lt, if◌then◌else◌, List, [], ◌∷◌, length, take, drop}
use Rattle.std.specs.Prelude.{Option, Some, None, option_and_then, is_some, nat_le, nat_eq, codes}
use Rattle.std.specs.List.{starts_with}
use Rattle.std.specs.Option.{option_map_or}
use Rattle.cbi_base.specs.Name.{begins_name}
use Rattle.c_lexer_pieces.specs.Spellings.{word_of}
use Rattle.cbi_base.specs.declared.scalar.Kind.TheVariants as kind
use Rattle.c_syntax.specs.declared.parts.Constant.{Constant}
use Rattle.c_lexer_pieces.specs.declared.bytes.Class.TheVariants as class
use Rattle.c_lexer_pieces.specs.declared.constants.Radix.{Radix}
use Rattle.c_lexer_pieces.specs.declared.constants.Radix.TheVariants as radix
use Rattle.c_lexer_pieces.specs.Bytes.{begins_with_byte, begins_with, run_of_class, bytes_past_run}
use Rattle.c_lexer_pieces.specs.Values.{after_close, value_of, class_of, base_of, kind_of, simple_escape, signed_byte}

infixl 10 ◌>>=◌
abbrev pub ◌>>=◌ : {A B : Type 0} → Option A → (A → Option B) → Option B
o >>= f = option_and_then f o

abbrev pub first_some : {A : Type 0} → Option A → Option A → Option A
first_some None other = other
first_some (Some x) other = Some x

-- the bytes after this one
abbrev pub strip_byte : ℕ → List ℕ → Option (List ℕ)
strip_byte b [] = None
strip_byte b (c ∷ cs) = if c == b then Some cs else None

unfoldable pub comment_at : List ℕ → Option (List ℕ)
comment_at bytes = strip_byte 47 bytes >>= λ rest. if begins_with_byte 47 rest then Some (bytes_past_run class.Line rest) else
    (strip_byte 42 rest >>= after_close)

abbrev pub small_value : ℕ → List ℕ → Option ℕ
small_value base digits = if nat_lt (value_of base digits) (2 ^ 32) then Some (value_of base digits) else None

abbrev pub hexadecimal_at : List ℕ → Option (List ℕ)
hexadecimal_at bytes = strip_byte 48 bytes >>= λ rest. if begins_with_byte 120 rest then Some (drop 1 rest) else strip_byte 88 rest

abbrev pub radix_from : Option (List ℕ) → List ℕ → Radix × List ℕ
radix_from (Some digits) bytes = (radix.Hexadecimal, digits)
radix_from None bytes = (if begins_with_byte 48 bytes then radix.Octal else radix.Decimal, bytes)

-- the base of a constant, and its digits and what follows
unfoldable pub radix_at : List ℕ → Radix × List ℕ
radix_at bytes = radix_from (hexadecimal_at bytes) bytes

-- whether a suffix stands here, and what follows
unfoldable pub suffix_at : List ℕ → Bool × List ℕ
suffix_at bytes = if begins_with_byte 117 bytes || begins_with_byte 85 bytes then (true, drop 1 bytes) else (false, bytes)

abbrev pub constant_from : Radix → List ℕ → Bool × List ℕ → Option (Constant × List ℕ)
constant_from r digits end =
    if (length digits == 0) || begins_with class.Number end.1 then None
    else (small_value (base_of r) digits >>= λ v. kind_of r end.0 v >>= λ k. Some (record { kind = k; value = pos v }, end.1))

unfoldable pub number_at : List ℕ → Option (Constant × List ℕ)
number_at bytes =
    let start = radix_at bytes in
    constant_from start.0 (run_of_class (class_of start.0) start.1) (suffix_at (bytes_past_run (class_of start.0) start.1))

-- the byte that digits stand for: there is one, and they aren't above 255
unfoldable pub byte_of : ℕ → List ℕ → Option ℕ
byte_of base digits = if length digits == 0 then None else (small_value base digits >>= λ v. if nat_lt v 256 then Some v else None)

abbrev pub with_rest : {A : Type 0} → Option A → List ℕ → Option (A × List ℕ)
with_rest o rest = o >>= λ x. Some (x, rest)

-- Up to three octal digits.
unfoldable pub octal_at : List ℕ → Option (ℕ × List ℕ)
octal_at bytes = let digits = run_of_class class.Octal (take 3 bytes) in with_rest (byte_of 8 digits) (drop (length digits) bytes)

-- Hexadecimal digits behind an `x`.
unfoldable pub hexadecimal_escape_at : List ℕ → Option (ℕ × List ℕ)
hexadecimal_escape_at bytes = with_rest (byte_of 16 (run_of_class class.Hexadecimal bytes)) (bytes_past_run class.Hexadecimal bytes)

-- an escape, behind its backslash
unfoldable pub escape_at : List ℕ → Option (ℕ × List ℕ)
escape_at [] = None
escape_at (c ∷ rest) =
    if c == 120 then hexadecimal_escape_at rest
    else (if is_some (simple_escape c) then with_rest (simple_escape c) rest else octal_at (c ∷ rest))

-- one byte between quotes, plain or as an escape
unfoldable pub element_at : ℕ → List ℕ → Option (ℕ × List ℕ)
element_at quote [] = None
element_at quote (c ∷ rest) =
    if (c == 10) || (c == quote) then None
    else (if c == 92 then escape_at rest else Some (c, rest))

unfoldable pub character_at : List ℕ → Option (Constant × List ℕ)
character_at bytes = do
  inner ← strip_byte 39 bytes
  e ← element_at 39 inner
  rest ← strip_byte 39 e.1
  Some (record { kind = kind.Int; value = signed_byte e.0 }, rest)

-- The bytes of a string up to its closing quote. The number bounds how many there are.
abbrev pub text_within : ℕ → List ℕ → Option (List ℕ × List ℕ)
text_within zero bytes = None
text_within (suc n) bytes =
    if begins_with_byte 34 bytes then Some ([], drop 1 bytes)
    else (element_at 34 bytes >>= λ e. text_within n e.1 >>= λ t. Some (e.0 ∷ t.0, t.1))

-- a string, behind its opening quote
unfoldable pub text_at : List ℕ → Option (List ℕ × List ℕ)
text_at bytes = text_within (length bytes + 1) bytes

-- a whole run of letters, digits and `_` that is a name, and what follows
unfoldable pub name_at : List ℕ → Option (List ℕ × List ℕ)
name_at bytes =
    if begins_name bytes && nat_le (length (run_of_class class.Name bytes)) 63 then Some (run_of_class class.Name bytes, bytes_past_run class.Name bytes)
    else None

abbrev pub strip_text : List ℕ → List ℕ → Option (List ℕ)
strip_text front bytes = if starts_with nat_eq bytes front then Some (drop (length front) bytes) else None

-- at least one space or tab
abbrev pub blanks_at : List ℕ → Option (List ℕ)
blanks_at bytes = if begins_with class.Blank bytes then Some (bytes_past_run class.Blank bytes) else None

abbrev pub constant_at : List ℕ → Option (Constant × List ℕ)
constant_at bytes = if begins_with_byte 39 bytes then character_at bytes else number_at bytes

-- a space, a tab, a carriage return or a comment
unfoldable pub trailing_at : List ℕ → Option (List ℕ)
trailing_at bytes = if begins_with class.Blank bytes || begins_with_byte 13 bytes then Some (drop 1 bytes) else comment_at bytes

-- Whether all these bytes may end a directive's line. The number bounds how many parts they have.
abbrev pub trails_within : ℕ → List ℕ → Bool
trails_within zero bytes = false
trails_within (suc n) [] = true
trails_within (suc n) (b ∷ bs) = option_map_or (trails_within n) (trailing_at (b ∷ bs)) false

unfoldable pub is_directive_end : List ℕ → Bool
is_directive_end bytes = trails_within (length bytes + 1) bytes

abbrev pub header_at : List ℕ → Option (List ℕ)
header_at bytes = first_some (strip_text (codes "<stdio.h>") bytes) (first_some (strip_text (codes "<stdlib.h>") bytes) (strip_text (codes "<assert.h>") bytes))

abbrev pub header_line : List ℕ → Option (List ℕ)
header_line bytes = strip_text (codes "include") bytes >>= λ rest. header_at (bytes_past_run class.Blank rest)

-- the rest of an `#include` line, behind the `#` and blanks
unfoldable pub is_include : List ℕ → Bool
is_include bytes = option_map_or is_directive_end (header_line bytes) false

-- the name in a `#define` line, behind the `#` and blanks
unfoldable pub defined_name_at : List ℕ → Option (List ℕ × List ℕ)
defined_name_at bytes = do
  rest ← strip_text (codes "define") bytes
  spelled ← blanks_at rest
  name ← name_at spelled
  if is_some (word_of name.0) then None else Some name

-- what a `#define` line defines, behind the `#` and blanks
unfoldable pub define_in : List ℕ → Option (List ℕ × Constant)
define_in bytes = do
  name ← defined_name_at bytes
  spelled ← blanks_at name.1
  constant ← constant_at spelled
  if is_directive_end constant.1 then Some (name.0, constant.0) else None

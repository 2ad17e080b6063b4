-- What the pieces of a text are. Each is said of the bytes that it takes and, where it matters, of those after it.
use Rattle.std.specs.Prelude.{◌≡◌, ◌≢◌, ℕ, zero, suc, ◌≤◌, ◌<◌, pos, Bool, true, false, List, [], ◌∷◌, ◌++◌, length, codes, Some, None, ◌⊎◌}
use Rattle.std.specs.List.{list_all}
use Rattle.cbi_base.specs.Name.{IsName}
use Rattle.cbi_base.specs.declared.scalar.Kind.TheVariants as scalar
use Rattle.c_syntax.specs.declared.parts.Constant.{Constant}
use Rattle.c_syntax.specs.declared.token.Sign.{Sign}
use Rattle.c_lexer_pieces.specs.declared.bytes.Class.{Class}
use Rattle.c_lexer_pieces.specs.declared.bytes.Class.TheVariants as class
use Rattle.c_lexer_pieces.specs.declared.constants.Radix.{Radix}
use Rattle.c_lexer_pieces.specs.declared.constants.Radix.TheVariants as radix
use Rattle.c_lexer_pieces.specs.Bytes.{is_of_class, begins_with_byte, begins_with, is_separator}
use Rattle.c_lexer_pieces.specs.Values.{after_close, class_of, base_of, value_of, kind_of, simple_escape, signed_byte}
use Rattle.c_lexer_pieces.specs.Spellings.{word_of, sign_spelled}
use Rattle.c_lexer_pieces.specs.Piece.{Piece, Nothing, Name, Constant', Text, Punctuator, Definition, Known}

-- all these bytes are of the class
abbrev pub AllOf : Class → List ℕ → Type 0
AllOf k bytes = list_all (is_of_class k) bytes ≡ true

-- no byte of the class comes next
abbrev pub RunEnds : Class → List ℕ → Type 0
RunEnds k bytes = begins_with k bytes ≡ false

-- From `//` up to the next newline or the end, or from `/*` to the next `*/` (C99 6.4.9).
pub data IsComment (bytes after : List ℕ) : Type 0 where
  line : (body : List ℕ) → bytes ≡ 47 ∷ 47 ∷ body → AllOf class.Line body → RunEnds class.Line after → IsComment bytes after
  block : (body : List ℕ) → bytes ≡ 47 ∷ 42 ∷ body → after_close body ≡ Some [] → IsComment bytes after

-- A decimal constant begins with no `0`, an octal one does, and a hexadecimal one begins with `0x` or `0X`.
abbrev pub Spells : Radix → List ℕ → List ℕ → Type 0
Spells radix.Decimal spelled digits = (spelled ≡ digits) × (begins_with_byte 48 digits ≡ false)
Spells radix.Octal spelled digits = (spelled ≡ digits) × (begins_with_byte 48 digits ≡ true)
Spells radix.Hexadecimal spelled digits = (spelled ≡ 48 ∷ 120 ∷ digits) ⊎ (spelled ≡ 48 ∷ 88 ∷ digits)

-- a `u` or `U` where the constant is suffixed, else nothing
abbrev pub IsSuffix : Bool → List ℕ → Type 0
IsSuffix false suffix = suffix ≡ []
IsSuffix true suffix = (suffix ≡ 117 ∷ []) ⊎ (suffix ≡ 85 ∷ [])

-- An integer constant, up to where no letter, digit, `_` or `.` follows (C99 6.4.4.1).
pub record IsNumber (bytes after : List ℕ) (constant : Constant) : Type 0 where
  pub radix : Radix
  pub spelled : List ℕ
  pub digits : List ℕ
  pub suffixed : Bool
  pub suffix : List ℕ
  pub is : bytes ≡ spelled ++ suffix
  pub spells : Spells radix spelled digits
  pub has_digit : 0 < length digits
  pub all_digits : AllOf (class_of radix) digits
  pub is_suffix : IsSuffix suffixed suffix
  pub whole : RunEnds class.Number after
  pub kind : kind_of radix suffixed (value_of (base_of radix) digits) ≡ Some constant.kind
  pub value : constant.value ≡ pos (value_of (base_of radix) digits)

-- One byte between quotes: plain, or as an escape (C99 6.4.4.4). An octal escape takes up to three digits, as many as there are; a
-- hexadecimal one all that there are.
pub data IsElement (quote : ℕ) (bytes after : List ℕ) (value : ℕ) : Type 0 where
  plain : bytes ≡ value ∷ [] → value ≢ 10 → value ≢ quote → value ≢ 92 → IsElement quote bytes after value
  letter : (c : ℕ) → bytes ≡ 92 ∷ c ∷ [] → simple_escape c ≡ Some value → IsElement quote bytes after value
  octal : (digits : List ℕ) → bytes ≡ 92 ∷ digits → 0 < length digits → length digits ≤ 3 → AllOf class.Octal digits →
      (length digits < 3 → RunEnds class.Octal after) → value ≡ value_of 8 digits → value < 256 → IsElement quote bytes after value
  hexadecimal : (digits : List ℕ) → bytes ≡ 92 ∷ 120 ∷ digits → 0 < length digits → AllOf class.Hexadecimal digits →
      RunEnds class.Hexadecimal after → value ≡ value_of 16 digits → value < 256 → IsElement quote bytes after value

-- bytes of a string, one after another
abbrev pub AreElements : List ℕ → List ℕ → List ℕ → Type 0
AreElements bytes [] after = bytes ≡ []
AreElements bytes (value ∷ values) after =
    (front : List ℕ) × (more : List ℕ) × (bytes ≡ front ++ more) × IsElement 34 front (more ++ after) value × AreElements more values after

pub record IsCharacter (bytes after : List ℕ) (constant : Constant) : Type 0 where
  pub inner : List ℕ
  pub byte : ℕ
  pub is : bytes ≡ 39 ∷ inner ++ 39 ∷ []
  pub element : IsElement 39 inner (39 ∷ after) byte
  pub constant_is : constant ≡ record { kind = scalar.Int; value = signed_byte byte }

pub record IsText (bytes after values : List ℕ) : Type 0 where
  pub inner : List ℕ
  pub is : bytes ≡ 34 ∷ inner ++ 34 ∷ []
  pub elements : AreElements inner values (34 ∷ after)

abbrev pub IsConstant : List ℕ → List ℕ → Constant → Type 0
IsConstant bytes after constant = IsNumber bytes after constant ⊎ IsCharacter bytes after constant

-- what may stand at the end of a directive's line: a space, a tab, a carriage return, or a comment
pub data IsTrailing (bytes after : List ℕ) : Type 0 where
  blank : (b : ℕ) → bytes ≡ b ∷ [] → is_of_class class.Blank b ≡ true → IsTrailing bytes after
  return : bytes ≡ 13 ∷ [] → IsTrailing bytes after
  comment : IsComment bytes after → IsTrailing bytes after

-- bytes in this many parts that may end a directive's line
abbrev pub Trails : ℕ → List ℕ → Type 0
Trails zero bytes = bytes ≡ []
Trails (suc n) bytes = (front : List ℕ) × (more : List ℕ) × (bytes ≡ front ++ more) × IsTrailing front more × Trails n more

abbrev pub EndsLine : List ℕ → Type 0
EndsLine bytes = (n : ℕ) × Trails n bytes

pub data IsHeader (bytes : List ℕ) : Type 0 where
  standard_io : bytes ≡ codes "<stdio.h>" → IsHeader bytes
  standard_library : bytes ≡ codes "<stdlib.h>" → IsHeader bytes
  assert : bytes ≡ codes "<assert.h>" → IsHeader bytes

-- `#`, `include`, a header that the language has, and an end of the line (C99 6.10.2)
pub record IsInclude (bytes : List ℕ) : Type 0 where
  pub before_word : List ℕ
  pub before_header : List ℕ
  pub header : List ℕ
  pub end : List ℕ
  pub is : bytes ≡ 35 ∷ before_word ++ (codes "include" ++ (before_header ++ (header ++ end)))
  pub blanks : AllOf class.Blank before_word
  pub more_blanks : AllOf class.Blank before_header
  pub is_header : IsHeader header
  pub ends : EndsLine end

-- `#`, `define`, a name that is no word, a constant, and an end of the line, with blanks between them (C99 6.10.3)
pub record IsDefine (bytes name : List ℕ) (constant : Constant) : Type 0 where
  pub before_word : List ℕ
  pub before_name : List ℕ
  pub before_constant : List ℕ
  pub spelled : List ℕ
  pub end : List ℕ
  pub is : bytes ≡ 35 ∷ before_word ++ (codes "define" ++ (before_name ++ (name ++ (before_constant ++ (spelled ++ end)))))
  pub blanks : AllOf class.Blank before_word
  pub some_blanks : AllOf class.Blank before_name × (0 < length before_name)
  pub more_blanks : AllOf class.Blank before_constant × (0 < length before_constant)
  pub is_name : IsName name
  pub no_word : word_of name ≡ None
  pub is_constant : IsConstant spelled end constant
  pub ends : EndsLine end

-- A place in a text: the bytes before it, and what names were defined there.
pub record Place : Type 0 where
  pub before : List ℕ
  pub known : Known

-- Only spaces and tabs stand before the place on its line: behind the last newline, or behind the start of the text.
pub record IsFresh (before : List ℕ) : Type 0 where
  pub lines : List ℕ
  pub blanks : List ℕ
  pub is : before ≡ lines ++ blanks
  pub whole : (lines ≡ []) ⊎ ((front : List ℕ) × (lines ≡ front ++ 10 ∷ []))
  pub are_blank : AllOf class.Blank blanks

-- These bytes, at this place and before those after them, are a piece.
pub data StandsAs (place : Place) (bytes after : List ℕ) (piece : Piece) : Type 0 where
  separator : (b : ℕ) → bytes ≡ b ∷ [] → is_separator b ≡ true → piece ≡ Nothing → StandsAs place bytes after piece
  comment : IsComment bytes after → piece ≡ Nothing → StandsAs place bytes after piece
  name : IsName bytes → RunEnds class.Name after → piece ≡ Name bytes → StandsAs place bytes after piece
  number : (constant : Constant) → IsNumber bytes after constant → piece ≡ Constant' constant → StandsAs place bytes after piece
  character : (constant : Constant) → IsCharacter bytes after constant → piece ≡ Constant' constant → StandsAs place bytes after piece
  text : (values : List ℕ) → IsText bytes after values → piece ≡ Text values → StandsAs place bytes after piece
  punctuator : (sign : Sign) → sign_spelled bytes ≡ Some sign → piece ≡ Punctuator sign → StandsAs place bytes after piece
  include : IsFresh place.before → IsInclude bytes → AllOf class.Line bytes → RunEnds class.Line after → piece ≡ Nothing → StandsAs place bytes after piece
  define : (name : List ℕ) (constant : Constant) → IsFresh place.before → IsDefine bytes name constant → place.known name ≡ None →
      AllOf class.Line bytes → RunEnds class.Line after → piece ≡ Definition name constant → StandsAs place bytes after piece

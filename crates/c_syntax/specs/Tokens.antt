-- Lists of tokens.
use Rattle.std.specs.Prelude.{ℕ, ◌-◌, ◌≤◌, ◌<◌, ℤ, List, length, map, sum_by, min, All, slice_index_or, IsTrue, int_le}
use Rattle.std.specs.List.Sorted.{IsNonDecreasing}
use Rattle.cbi_base.specs.declared.scalar.Kind.{Kind}
use Rattle.cbi_base.specs.declared.scalar.Kind.TheVariants.{Char}
use Rattle.cbi_base.specs.Words.{LiesIn, least_of, IsName, is_promoted}
use Rattle.c_syntax.specs.declared.token.Token.{Token}
use Rattle.c_syntax.specs.declared.token.TokenKind.{TokenKind}
use Rattle.c_syntax.specs.declared.token.TokenKind.TheVariants.{Constant, Name, Text}
use Rattle.c_syntax.specs.Spelling.{Kinds}
use Rattle.c_syntax.specs.Limits.{most_bytes, most_tokens, greatest_line}

-- what the tokens are, apart from their lines
abbrev pub kinds_of : List Token → Kinds
kinds_of ts = map (λ t. t.kind) ts

abbrev pub lines_of : List Token → List ℕ
lines_of ts = map (λ t. t.line) ts

abbrev pub kind_text_len : TokenKind → ℕ
kind_text_len (Text bytes) = length bytes
kind_text_len _ = 0

-- how many bytes the token's string has
abbrev pub text_len : Token → ℕ
text_len t = kind_text_len t.kind

-- A constant is an `int` or an `unsigned`, and lies in its kind's range (C99 6.4.4.1).
abbrev pub ConstantFits : Kind → ℤ → Type 0
ConstantFits kind value = IsTrue (is_promoted kind) × LiesIn kind value

abbrev pub KindFits : TokenKind → Type 0
KindFits (Constant kind value) = ConstantFits kind value
KindFits _ = Unit {0}

-- It is no less than the least `char`: digits have no sign (C99 6.4.4.1), and a character has the value of a `char`
-- (C99 6.4.4.4).
abbrev pub AtLeastChar : ℤ → Type 0
AtLeastChar value = IsTrue (int_le (least_of Char) value)

abbrev pub IsAtLeastChar : TokenKind → Type 0
IsAtLeastChar (Constant kind value) = AtLeastChar value
IsAtLeastChar _ = Unit {0}

-- A name is one (C99 6.4.2.1).
abbrev pub NameFits : TokenKind → Type 0
NameFits (Name name) = IsName name
NameFits _ = Unit {0}

-- A string is one of bytes (C99 6.4.5).
abbrev pub IsOfBytes : TokenKind → Type 0
IsOfBytes (Text bytes) = All (λ b. b < 256) bytes
IsOfBytes _ = Unit {0}

-- what a list of tokens keeps: not too many, lines that never fall, strings that are together shorter than a text, since each
-- stands between quotes, constants that fit, names and bytes
pub record IsTokens (ts : List Token) : Type 0 where
  pub few : length ts ≤ most_tokens
  pub ordered : IsNonDecreasing (lines_of ts)
  pub from_one : All (λ l. 1 ≤ l) (lines_of ts)
  pub within : All (λ l. l ≤ greatest_line) (lines_of ts)
  pub text : sum_by text_len ts < most_bytes
  pub constants : All KindFits (kinds_of ts)
  pub least : All IsAtLeastChar (kinds_of ts)
  pub names : All NameFits (kinds_of ts)
  pub bytes : All IsOfBytes (kinds_of ts)

-- the line of the token at this index, and one past the last that of the last, or 1 where there is no token
abbrev pub line_at : List ℕ → ℕ → ℕ
line_at lines index = slice_index_or lines (min index (length lines - 1)) 1

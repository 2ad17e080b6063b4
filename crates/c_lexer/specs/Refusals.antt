-- Where a text has no tokens, and what is answered there.
use Rattle.std.specs.Prelude.{◌≡◌, ℕ, ◌<◌, ◌≤◌, Bool, true, false, ◌||◌, ◌==◌, if◌then◌else◌, List, [], ◌∷◌, length, ◌⊎◌, is_some, Result, Ok, Err, nat_lt}
use Rattle.cbi_base.specs.Name.{is_letter}
use Rattle.c_syntax.specs.Limits.{most_bytes, most_tokens}
use Rattle.c_syntax.specs.declared.token.Token.{Token}
use Rattle.c_lexer.specs.declared.error.LexError.{LexError}
use Rattle.c_lexer.specs.declared.error.LexError.TheVariants as error
use Rattle.c_lexer_pieces.specs.Bytes.{is_separator, is_digit}
use Rattle.c_lexer_pieces.specs.Spellings.{sign_spelled}
use Rattle.c_lexer.specs.Lexing.{CutStops, Lexes}

-- a letter, digit, `_`, `#`, quote, separator or first byte of a punctuator
abbrev pub can_begin : ℕ → Bool
can_begin b = is_letter b || is_digit b || (b == 35) || (b == 39) || (b == 34) || is_separator b || is_some (sign_spelled (b ∷ []))

-- The cutting stops at this line, at a byte that can begin a piece, or at one that can't.
pub record CuttingStops (text : List ℕ) (line : ℕ) (can : Bool) : Type 0 where
  pub byte : ℕ
  pub stops : CutStops text line byte
  pub begins : can_begin byte ≡ can

-- what is answered where nothing stands at this byte of this line
abbrev pub refusal_for : ℕ → ℕ → LexError
refusal_for line byte = if can_begin byte then error.BadToken line else error.BadByte line

-- more tokens than a text may have
pub record HasMany (text : List ℕ) : Type 0 where
  pub tokens : List Token
  pub lexes : Lexes text tokens
  pub many : most_tokens < length tokens

-- more bytes or more tokens than a text may have
abbrev pub IsTooLarge : List ℕ → Type 0
IsTooLarge text = (most_bytes < length text) ⊎ HasMany text

-- what is answered to a text that isn't too long and lexes to these tokens
abbrev pub lexed_answer : List Token → Result (List Token) LexError
lexed_answer tokens = if nat_lt most_tokens (length tokens) then Err error.TooLarge else Ok tokens

abbrev pub ErrorSays : List ℕ → LexError → Type 0
ErrorSays text (error.BadByte line) = CuttingStops text line false
ErrorSays text (error.BadToken line) = CuttingStops text line true
ErrorSays text error.TooLarge = HasMany text
ErrorSays text error.Memory = Unit {0}

-- what an answer says of a text that isn't too long
abbrev pub LexAnswerHolds : List ℕ → Result (List Token) LexError → Type 0
LexAnswerHolds text (Ok tokens) = Lexes text tokens × (length tokens ≤ most_tokens)
LexAnswerHolds text (Err e) = ErrorSays text e

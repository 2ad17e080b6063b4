-- How the cutting of a text ends.
use Rattle.std.specs.Prelude.{ℕ, List}
use Rattle.c_syntax.specs.declared.token.Token.{Token}
use Rattle.c_lexer.specs.Lexing.{CutStops, Lexes}

-- It goes to the end, with these tokens, or up to a byte of a line where nothing stands.
pub data Ending : Type 0 where
  Whole : (tokens : List Token) → Ending
  Stopped : (line byte : ℕ) → Ending

abbrev pub CutEnds : List ℕ → Ending → Type 0
CutEnds text (Whole tokens) = Lexes text tokens
CutEnds text (Stopped line byte) = CutStops text line byte

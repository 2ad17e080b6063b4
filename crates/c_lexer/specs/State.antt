-- The lexer's state, and what one step makes of it.
use Rattle.std.specs.Prelude.{◌≡◌, ℕ, ◌+◌, ◌-◌, ◌≤◌, ◌<◌, nat_lt, if◌then◌else◌, List, ◌++◌, length, take, sum_by, All, Option, Some, None, IfSome, ◌⊎◌}
use Rattle.std.specs.Prelude.{slice_index}
use Rattle.c_syntax.specs.declared.token.Token.{Token}
use Rattle.c_syntax.specs.declared.token.TokenKind.{TokenKind}
use Rattle.c_syntax.specs.Words.{most_bytes, most_tokens, greatest_line, IsAtLeastChar, IsOfBytes, KindFits, NameFits, lines_of, text_len}
use Rattle.c_lexer.specs.declared.error.LexError.{LexError}
use Rattle.c_lexer.specs.declared.error.LexError.TheVariants as error
use Rattle.c_lexer.specs.declared.lexer.Lexer.{Lexer}
use Rattle.c_lexer_pieces.specs.Cutting.{piece_at, fresh_from}
use Rattle.c_lexer_pieces.specs.Piece.{Piece, Known}
use Rattle.c_lexer_pieces.specs.Found.{known_by}
use Rattle.c_lexer_pieces.specs.PieceFacts.{Fits}
use Rattle.c_lexer_pieces.specs.Bytes.{newlines}
use Rattle.c_lexer.specs.Refusals.{refusal_for}
use Rattle.c_lexer.specs.Lexing.{kind_at, known_after, with_line}

-- the bytes between a place and one after it
abbrev pub bytes_between : List ℕ → List ℕ → List ℕ
bytes_between left rest = take (length left - length rest) left

-- The constants that names stand for fit.
abbrev pub AllFit : Known → Type 0
AllFit known = (name : List ℕ) → IfSome (known name) Fits

-- what a token keeps of itself
abbrev pub TokenFits : TokenKind → Type 0
TokenFits k = KindFits k × IsAtLeastChar k × NameFits k × IsOfBytes k

-- Numbers and lines fit, whatever is left.
pub record Roomy (l : Lexer) : Type 0 where
  pub first_line : 1 ≤ l.line
  pub line_room : l.line + length l.left.now ≤ greatest_line
  pub text_room : sum_by text_len l.tokens + length l.left.now ≤ most_bytes
  pub count_room : l.count + length l.left.now ≤ most_bytes
  pub kept : length l.tokens ≤ l.count
  pub kept_lines : All (λ x. x ≤ l.line) (lines_of l.tokens)
  pub known_fit : AllFit (known_by l.defined)

-- a token is kept where fewer came before it than a text may have
abbrev pub kept_with : ℕ → List Token → List Token → List Token
kept_with count tokens more = if nat_lt count most_tokens then tokens ++ more else tokens

pub record Advances (old new : Lexer) : Type 0 where
  pub piece : Piece
  pub found : piece_at old.fresh (known_by old.defined) old.left.now ≡ Some (piece, new.left.now)
  pub fresh : new.fresh ≡ fresh_from old.fresh (bytes_between old.left.now new.left.now)
  pub line : new.line ≡ old.line + newlines (bytes_between old.left.now new.left.now)
  pub known : (name : List ℕ) → known_by new.defined name ≡ known_after (known_by old.defined) piece name
  pub count : new.count ≡ old.count + length (with_line old.line (kind_at (known_by old.defined) piece))
  pub tokens : new.tokens ≡ kept_with old.count old.tokens (with_line old.line (kind_at (known_by old.defined) piece))

-- no memory, or nothing stands at the byte that comes next
abbrev pub Refuses : Lexer → LexError → Type 0
Refuses l e = (e ≡ error.Memory) ⊎ ((piece_at l.fresh (known_by l.defined) l.left.now ≡ None) × (e ≡ refusal_for l.line (slice_index l.left.now 0)))

-- The token, where there is one, may follow these where few came before it.
pub record MayFollow (tokens : List Token) (count line : ℕ) (kind : Option TokenKind) : Type 0 where
  pub kept : length tokens ≤ count
  pub first_line : 1 ≤ line
  pub last_line : line ≤ greatest_line
  pub kept_lines : All (λ x. x ≤ line) (lines_of tokens)
  pub text : sum_by text_len tokens + sum_by text_len (with_line line kind) < most_bytes
  pub fits : IfSome kind TokenFits

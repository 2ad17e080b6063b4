-- The tokens of a text, and where its cutting stops.
use Rattle.std.specs.Prelude.{◌≡◌, ℕ, ◌+◌, ◌≤◌, if◌then◌else◌, List, [], ◌∷◌, ◌++◌, length, Option, Some, None}
use Rattle.std.specs.Str.{bytes_eq}
use Rattle.c_syntax.specs.declared.parts.Constant.{Constant}
use Rattle.c_syntax.specs.declared.token.Token.{Token}
use Rattle.c_syntax.specs.declared.token.Word.{Word}
use Rattle.c_syntax.specs.declared.token.TokenKind.{TokenKind}
use Rattle.c_syntax.specs.declared.token.TokenKind.TheVariants as kind
use Rattle.c_lexer_pieces.specs.Bytes.{newlines}
use Rattle.c_lexer_pieces.specs.Spellings.{word_of}
use Rattle.c_lexer_pieces.specs.Piece.{Piece, Nothing, Name, Constant', Text, Punctuator, Definition, Known}
use Rattle.c_lexer_pieces.specs.Pieces.{Place, StandsAs}

-- The bytes are the longest that stand as a piece at the place (C99 6.4, paragraph 4).
pub record IsLongest (place : Place) (bytes after : List ℕ) (piece : Piece) : Type 0 where
  pub stands : StandsAs place bytes after piece
  pub longest : (front rest : List ℕ) (other : Piece) → bytes ++ after ≡ front ++ rest → StandsAs place front rest other → length front ≤ length bytes

-- a piece with the bytes that it takes
pub record Taken : Type 0 where
  pub bytes : List ℕ
  pub piece : Piece

-- what is known behind a piece
abbrev pub known_after : Known → Piece → Known
known_after known (Definition name constant) = λ other. if bytes_eq name other then Some constant else known other
known_after known _ = known

abbrev pub past_piece : Place → Taken → Place
past_piece place t = record { before = place.before ++ t.bytes; known = known_after place.known t.piece }

-- What is left of a text at a place is cut into these pieces, up to the rest.
abbrev pub Cuts : Place → List ℕ → List Taken → List ℕ → Type 0
Cuts place left [] rest = left ≡ rest
Cuts place left (t ∷ ts) rest = (after : List ℕ) × (left ≡ t.bytes ++ after) × IsLongest place t.bytes after t.piece × Cuts (past_piece place t) after ts rest

-- the place behind these pieces
abbrev pub place_after : Place → List Taken → Place
place_after place [] = place
place_after place (t ∷ ts) = place_after (past_piece place t) ts

-- 1 plus the number of newlines before the place
abbrev pub line_of : Place → ℕ
line_of place = 1 + newlines place.before

abbrev pub constant_kind : Constant → TokenKind
constant_kind c = kind.Constant c.kind c.value

abbrev pub word_kind : Option Word → List ℕ → TokenKind
word_kind (Some word) name = kind.Word word
word_kind None name = kind.Name name

-- A defined name is its constant.
abbrev pub name_kind : Option Constant → List ℕ → TokenKind
name_kind (Some c) name = constant_kind c
name_kind None name = word_kind (word_of name) name

-- the token of a piece, where it gives one
abbrev pub kind_at : Known → Piece → Option TokenKind
kind_at known Nothing = None
kind_at known (Name name) = Some (name_kind (known name) name)
kind_at known (Constant' c) = Some (constant_kind c)
kind_at known (Text values) = Some (kind.Text values)
kind_at known (Punctuator sign) = Some (kind.Punctuator sign)
kind_at known (Definition name c) = None

abbrev pub with_line : ℕ → Option TokenKind → List Token
with_line line None = []
with_line line (Some k) = record { kind = k; line = line } ∷ []

abbrev pub tokens_from : Place → List Taken → List Token
tokens_from place [] = []
tokens_from place (t ∷ ts) = with_line (line_of place) (kind_at place.known t.piece) ++ tokens_from (past_piece place t) ts

-- the start of a text, where no name is defined
abbrev pub text_start : Place
text_start = record { before = []; known = λ name. None }

-- The text is cut into the longest pieces to its end, and these are its tokens.
pub record Lexes (text : List ℕ) (tokens : List Token) : Type 0 where
  pub pieces : List Taken
  pub cut : Cuts text_start text pieces []
  pub are : tokens ≡ tokens_from text_start pieces

-- Nothing stands here.
abbrev pub NothingStands : Place → List ℕ → Type 0
NothingStands place left = (bytes after : List ℕ) (piece : Piece) → left ≡ bytes ++ after → StandsAs place bytes after piece → ⊥

-- The cutting stops at this byte of this line, since nothing stands there.
pub record CutStops (text : List ℕ) (line byte : ℕ) : Type 0 where
  pub pieces : List Taken
  pub rest : List ℕ
  pub cut : Cuts text_start text pieces (byte ∷ rest)
  pub stuck : NothingStands (place_after text_start pieces) (byte ∷ rest)
  pub line_is : line ≡ line_of (place_after text_start pieces)

-- What a text of bytes lexes to keeps what a list of tokens keeps.
use Rattle.std.proofs.Common.{◌≡◌, ℕ, ◌+◌, ◌≤◌, ◌<◌, ◌⊎◌, ⊎_elim, inl, inr, sym, ap, subst, arith, List, [], ◌∷◌, ◌++◌, length, Option, Some, None, sum_by, eqb, cond, length-append, append_assoc, append-nil}
use Rattle.std.specs.Prelude.{All, IfSome}
use Rattle.std.proofs.lemmas.Bool.{cases_lt}
use Rattle.std.proofs.lemmas.List.{map-append}
use Rattle.std.proofs.lemmas.List.Elements.{All-append, All-nil, All-weaker, recursion_from_All}
use Rattle.std.proofs.lemmas.List.Sums.{count_by-le-length, sum_by-append}
use Rattle.base_lists.proofs.Every.{all_first, all_second}
use Rattle.c_syntax.specs.declared.token.Token.{Token}
use Rattle.c_syntax.specs.declared.token.TokenKind.{TokenKind}
use Rattle.c_syntax.specs.Words.{greatest_line, most_bytes, most_tokens, IsTokens, lines_of, text_len}
use Rattle.c_lexer.specs.Lexing.{Cuts, IsLongest, Lexes, Taken, kind_at, line_of, past_piece, text_start, tokens_from, with_line}
use Rattle.c_lexer.specs.Endings.{CutEnds, Ending, Whole}
use Rattle.c_lexer.specs.Refusals.{HasMany, IsTooLarge}
use Rattle.c_lexer.specs.State.{AllFit, TokenFits}
use Rattle.c_lexer.proofs.PieceLaws.{longest-is}
use Rattle.c_lexer.proofs.Room.{piece-text, tokens-push, known-fits, line-kept, one_at_most}
use Rattle.c_lexer_pieces.specs.Bytes.{newlines}
use Rattle.c_lexer_pieces.specs.Cutting.{is_fresh}
use Rattle.c_lexer_pieces.specs.Pieces.{Place}
use Rattle.c_lexer_pieces.proofs.Fronts.{ReadsPiece, piece-read}
use Rattle.compiler.specs.Accepted.{HasTokens}
use Rattle.compiler_exists.proofs.Bytes.{AreBytes, Byte}
use Rattle.compiler_exists.proofs.Pieces.{PieceKeeps, piece_keeps, token_fits}

-- These tokens may stand before what is left of a text at a place.
record Kept (place : Place) (left : List ℕ) (ts : List Token) : Type 0 where
  keeps : IsTokens ts
  lines : All (λ x. x ≤ line_of place) (lines_of ts)
  line_room : line_of place + length left ≤ greatest_line
  text_room : sum_by text_len ts + length left ≤ most_bytes
  known_fit : AllFit place.known

none_kept : IsTokens []
none_kept = record {
  few = omega arith;
  ordered = λ i j d le within. absurd (omega arith);
  from_one = All-nil _;
  within = All-nil _;
  text = omega arith;
  constants = All-nil _;
  least = All-nil _;
  names = All-nil _;
  bytes = All-nil _;
}

-- a piece's token, where it gives one, is kept behind those before it
more_kept : (ts : List Token) (line : ℕ) (kind : Option TokenKind) → IsTokens ts → length (ts ++ with_line line kind) ≤ most_tokens
    → 1 ≤ line → line ≤ greatest_line → All (λ x. x ≤ line) (lines_of ts)
    → sum_by text_len ts + sum_by text_len (with_line line kind) < most_bytes → IfSome kind TokenFits → IsTokens (ts ++ with_line line kind)
more_kept ts line None keeps few first last lines text fits = subst IsTokens (sym (append-nil ts)) keeps
more_kept ts line (Some k) keeps few first last lines text fits =
    tokens-push ts (record { kind = k; line = line }) keeps (omega (arith, few, length-append ts (with_line line (Some k)))) first last lines text fits

line_past : (place : Place) (t : Taken) → line_of (past_piece place t) ≡ line_of place + newlines t.bytes
line_past place t = omega (arith, sum_by-append (λ b. cond (eqb b 10) 1 0) place.before t.bytes)

read_piece : (place : Place) (t : Taken) (after : List ℕ) → IsLongest place t.bytes after t.piece → ReadsPiece (t.bytes ++ after) (t.piece, after)
read_piece place t after longest =
    piece-read (is_fresh place.before) place.known (t.bytes ++ after) (t.piece, after) (longest-is place t.bytes after t.piece longest)

module _ (place : Place) (t : Taken) (after : List ℕ) (ts : List Token) (all : AreBytes t.bytes) (longest : IsLongest place t.bytes after t.piece)
    (kept : Kept place (t.bytes ++ after) ts) where
  abbrev kind : Option TokenKind
  kind = kind_at place.known t.piece

  abbrev line : ℕ
  line = line_of place

  read : ReadsPiece (t.bytes ++ after) (t.piece, after)
  read = read_piece place t after longest

  own : PieceKeeps t.piece
  own = piece_keeps place t.bytes after all t.piece longest.stands

  text : sum_by text_len (with_line line kind) + length after < length (t.bytes ++ after)
  text = omega (arith, piece-text line place.known t.piece, read.short)

  moves : line_of (past_piece place t) + length after ≤ line + length (t.bytes ++ after)
  moves = omega (arith, line_past place t, count_by-le-length (λ b. eqb b 10) t.bytes, length-append t.bytes after)

  later : line ≤ line_of (past_piece place t)
  later = omega (arith, line_past place t)

  -- the tokens up to behind the piece
  step_kept : length (ts ++ with_line line kind) ≤ most_tokens → Kept (past_piece place t) after (ts ++ with_line line kind)
  step_kept few = record {
    keeps = more_kept ts line kind kept.keeps few (omega arith) (omega (arith, kept.line_room)) kept.lines
        (omega (arith, text, kept.text_room)) (token_fits place.known t.piece kept.known_fit read.named own);
    lines = subst (All (λ x. x ≤ line_of (past_piece place t))) (sym (map-append (λ (x : Token). x.line) ts (with_line line kind)))
        (All-weaker (λ x. x ≤ line) (λ x. x ≤ line_of (past_piece place t)) (λ x h. omega (arith, h, later)) _
        (All-append (λ x. x ≤ line) (lines_of ts) (lines_of (with_line line kind)) kept.lines (line-kept line kind)));
    line_room = omega (arith, moves, kept.line_room);
    text_room = omega (arith, sum_by-append text_len ts (with_line line kind), text, kept.text_room);
    known_fit = known-fits place.known t.piece kept.known_fit own.0;
  }

-- the tokens of pieces that are cut one after another
cuts_kept : (place : Place) (left : List ℕ) (pieces : List Taken) (ts : List Token) → AreBytes left → Cuts place left pieces [] → Kept place left ts
    → length (ts ++ tokens_from place pieces) ≤ most_tokens → IsTokens (ts ++ tokens_from place pieces)
cuts_kept place left [] ts all cuts kept few = subst IsTokens (sym (append-nil ts)) kept.keeps
cuts_kept place left (t ∷ more) ts all cuts kept few =
    let here : List Token = with_line (line_of place) (kind_at place.known t.piece) in
    let rest : List Token = tokens_from (past_piece place t) more in
    let both : AreBytes (t.bytes ++ cuts.0) = subst AreBytes cuts.1 all in
    let joined : (ts ++ here) ++ rest ≡ ts ++ (here ++ rest) = append_assoc ts here rest in
    let within : length ((ts ++ here) ++ rest) ≤ most_tokens = omega (arith, few, ap length joined) in
    let here_kept : Kept place (t.bytes ++ cuts.0) ts = subst (λ bytes. Kept place bytes ts) cuts.1 kept in
    let few_here : length (ts ++ here) ≤ most_tokens = omega (arith, within, length-append (ts ++ here) rest) in
    let step : Kept (past_piece place t) cuts.0 (ts ++ here) = step_kept place t cuts.0 ts (all_first Byte t.bytes cuts.0 both) cuts.2 here_kept few_here in
    subst IsTokens joined (cuts_kept (past_piece place t) cuts.0 more (ts ++ here) (all_second Byte t.bytes cuts.0 both) cuts.3 step within)

start_kept : (text : List ℕ) → length text ≤ most_bytes → Kept text_start text []
start_kept text short = record {
  keeps = none_kept;
  lines = All-nil _;
  line_room = omega (arith, short);
  text_room = omega (arith, short);
  known_fit = λ name. tt;
}

-- each token takes a byte at least
cuts_few : (place : Place) (left : List ℕ) (pieces : List Taken) → Cuts place left pieces [] → length (tokens_from place pieces) ≤ length left
cuts_few place left [] cuts = omega arith
cuts_few place left (t ∷ more) cuts =
    let here : List Token = with_line (line_of place) (kind_at place.known t.piece) in
    let rest : List Token = tokens_from (past_piece place t) more in
    omega (
      arith,
      length-append here rest,
      one_at_most (line_of place) (kind_at place.known t.piece),
      ap length cuts.1,
      (read_piece place t cuts.0 cuts.2).less,
      cuts_few (past_piece place t) cuts.0 more cuts.3,
    )

pub lexed_few : (text : List ℕ) (tokens : List Token) → Lexes text tokens → length tokens ≤ length text
lexed_few text tokens lexes = omega (arith, ap length lexes.are, cuts_few text_start text lexes.pieces lexes.cut)

-- what a text lexes to keeps all this, where neither it nor they are too many
pub lexed_keeps : (text : List ℕ) (tokens : List Token) → All Byte text → length text ≤ most_bytes → Lexes text tokens → length tokens ≤ most_tokens
    → IsTokens tokens
lexed_keeps text tokens all short lexes few =
    subst IsTokens (sym lexes.are) (cuts_kept text_start text lexes.pieces [] (recursion_from_All Byte text all) lexes.cut (start_kept text short)
    (omega (arith, few, ap length lexes.are)))

pub lexed_has : (text : List ℕ) (tokens : List Token) → All Byte text → length text ≤ most_bytes → Lexes text tokens → length tokens ≤ most_tokens
    → HasTokens text tokens
lexed_has text tokens all short lexes few = record { short = short; lexes = lexes; keeps = lexed_keeps text tokens all short lexes few }

pub has_or_large : (text : List ℕ) (tokens : List Token) → All Byte text → Lexes text tokens → HasTokens text tokens ⊎ IsTooLarge text
has_or_large text tokens all lexes = elim (cases_lt most_bytes (length text)) [
  | inl long ↦ inr (inl long)
  | inr short ↦ elim (cases_lt most_tokens (length tokens)) [
    | inl many ↦ inr (inr (record { tokens = tokens; lexes = lexes; many = many }))
    | inr few ↦ inl (lexed_has text tokens all short lexes few)
  ]
]

-- and never both: a text is cut in one way
module _ (one : (text : List ℕ) (a b : Ending) → CutEnds text a → CutEnds text b → a ≡ b) where
  not_many : (text : List ℕ) (tokens : List Token) → HasTokens text tokens → HasMany text → ⊥
  not_many text tokens has many =
      let same : Whole tokens ≡ Whole many.tokens = one text (Whole tokens) (Whole many.tokens) has.lexes many.lexes in
      let tokens_same : tokens ≡ many.tokens = cc in
      absurd (omega (arith, ap length tokens_same, has.keeps.few, many.many))

  pub not_large : (text : List ℕ) (tokens : List Token) → HasTokens text tokens → IsTooLarge text → ⊥
  not_large text tokens has large =
      ⊎_elim (λ (long : most_bytes < length text). absurd (omega (arith, long, has.short))) (λ (many : HasMany text). not_many text tokens has many) large

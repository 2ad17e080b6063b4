-- A step leaves room for what is left.
use Rattle.std.proofs.Common.{◌+◌, ◌-◌, ◌≤◌, ◌<◌, ℕ, length, map, Bool, true, false, cond, eqb, ltb, List, [], ◌∷◌, ◌++◌, Option, Some, None, sum_by, ap, sym, subst, arith, length-append}
use Rattle.std.specs.Prelude.{All, IfSome}
use Rattle.std.specs.List.Sorted.{IsNonDecreasing}
use Rattle.std.specs.Str.{bytes_eq}
use Rattle.std.proofs.lemmas.List.{map-append, length-take}
use Rattle.std.proofs.lemmas.List.Sums.{sum_by-append, count_by-le-length}
use Rattle.std.proofs.lemmas.List.Sorted.{IsNonDecreasingBy-push}
use Rattle.std.proofs.lemmas.List.Elements.{All-append, All-weaker, All-nil, All-cons}
use Rattle.c_syntax.specs.declared.token.Token.{Token}
use Rattle.c_syntax.specs.declared.token.TokenKind.{TokenKind}
use Rattle.c_syntax.specs.declared.token.Word.{Word}
use Rattle.c_syntax.specs.declared.parts.Constant.{Constant}
use Rattle.c_syntax.specs.Words.{IsAtLeastChar, IsOfBytes, IsTokens, KindFits, NameFits, lines_of, text_len, greatest_line, most_bytes, most_tokens}
use Rattle.c_lexer.specs.declared.lexer.Lexer.{Lexer}
use Rattle.c_lexer_pieces.specs.Piece.{Piece, Name, Definition, Known}
use Rattle.c_lexer_pieces.specs.Found.{known_by}
use Rattle.c_lexer_pieces.specs.Spellings.{word_of}
use Rattle.c_lexer.specs.Lexing.{kind_at, known_after, name_kind, word_kind, with_line}
use Rattle.c_lexer_pieces.specs.Bytes.{newlines}
use Rattle.c_lexer.specs.State.{Roomy, Advances, bytes_between, AllFit, TokenFits}
use Rattle.c_lexer_pieces.specs.PieceFacts.{PieceFits, Fits}
use Rattle.c_lexer_pieces.proofs.Fronts.{ReadsPiece, piece_len}

word-text : (line : ℕ) (word : Option Word) (name : List ℕ) → sum_by text_len (with_line line (Some (word_kind word name))) ≤ 0
word-text line None name = omega arith
word-text line (Some word) name = omega arith

name-text : (line : ℕ) (c : Option Constant) (name : List ℕ) → sum_by text_len (with_line line (Some (name_kind c name))) ≤ 0
name-text line None name = word-text line (word_of name) name
name-text line (Some c) name = omega arith

-- a token's string is its piece's
pub piece-text : (line : ℕ) (known : Known) (p : Piece) → sum_by text_len (with_line line (kind_at known p)) ≤ piece_len p
piece-text line known (Name name) = name-text line (known name) name
piece-text line known p = omega arith

pub one_at_most : (line : ℕ) (kind : Option TokenKind) → length (with_line line kind) ≤ 1
one_at_most line None = omega arith
one_at_most line (Some k) = omega arith

pub line-kept : (line : ℕ) (kind : Option TokenKind) → All (λ x. x ≤ line) (lines_of (with_line line kind))
line-kept line None = All-nil (λ x. x ≤ line)
line-kept line (Some k) = All-cons (λ x. x ≤ line) line [] (omega arith) (All-nil (λ x. x ≤ line))

newlines-le : (left rest : List ℕ) → length rest ≤ length left → newlines (bytes_between left rest) + length rest ≤ length left
newlines-le left rest h =
    omega (arith, count_by-le-length (λ b. eqb b 10) (bytes_between left rest), length-take (length left - length rest) left)

-- each of some, and one more
all-push : {A B : Type 0} (P : B → Type 0) (f : A → B) (ts : List A) (t : A) → All P (map f ts) → P (f t) → All P (map f (ts ++ t ∷ []))
all-push P f ts t all one = subst (All P) (sym (map-append f ts (t ∷ []))) (All-append P (map f ts) (f t ∷ []) all (All-cons P (f t) [] one (All-nil P)))

-- One more token, on no earlier line, is kept like those before it.
pub tokens-push : (ts : List Token) (t : Token) → IsTokens ts → length ts < most_tokens → 1 ≤ t.line → t.line ≤ greatest_line → All (λ x. x ≤ t.line) (lines_of ts)
    → sum_by text_len ts + sum_by text_len (t ∷ []) < most_bytes → TokenFits t.kind → IsTokens (ts ++ t ∷ [])
tokens-push ts t keeps few first last lines text fits =
    let kind : Token → TokenKind = λ x. x.kind in
    let line : Token → ℕ = λ x. x.line in
    record {
      few = omega (arith, length-append ts (t ∷ []));
      ordered = subst IsNonDecreasing (sym (map-append line ts (t ∷ []))) (IsNonDecreasingBy-push (λ x. x) (lines_of ts) t.line keeps.ordered (λ d some. lines (length (lines_of ts) - 1) d (omega (arith, some))));
      from_one = all-push (λ l. 1 ≤ l) line ts t keeps.from_one first;
      within = all-push (λ l. l ≤ greatest_line) line ts t keeps.within last;
      text = omega (arith, text, sum_by-append text_len ts (t ∷ []));
      constants = all-push KindFits kind ts t keeps.constants fits.0;
      least = all-push IsAtLeastChar kind ts t keeps.least fits.1;
      names = all-push NameFits kind ts t keeps.names fits.2;
      bytes = all-push IsOfBytes kind ts t keeps.bytes fits.3;
    }

-- tokens with or without some more
pub record Kept (count line line' room : ℕ) (tokens : List Token) : Type 0 where
  pub text : sum_by text_len tokens ≤ room
  pub few : length tokens ≤ count
  pub lines : All (λ x. x ≤ line') (lines_of tokens)

keeps : (b : Bool) (count line line' : ℕ) (kind : Option TokenKind) (tokens : List Token) → length tokens ≤ count → All (λ x. x ≤ line) (lines_of tokens) → line ≤ line' → Kept (count + length (with_line line kind)) line line' (sum_by text_len tokens + sum_by text_len (with_line line kind)) (cond b (tokens ++ with_line line kind) tokens)
keeps true count line line' kind tokens few lines le = record {
  text = omega (arith, sum_by-append text_len tokens (with_line line kind));
  few = omega (arith, length-append tokens (with_line line kind));
  lines = subst (All (λ x. x ≤ line')) (sym (map-append (λ t. t.line) tokens (with_line line kind))) (All-weaker (λ x. x ≤ line) (λ x. x ≤ line') (λ x h. omega arith) _ (All-append (λ x. x ≤ line) (lines_of tokens) (lines_of (with_line line kind)) lines (line-kept line kind)));
}
keeps false count line line' kind tokens few lines le = record {
  text = omega arith;
  few = omega arith;
  lines = All-weaker (λ x. x ≤ line) (λ x. x ≤ line') (λ x h. omega arith) _ lines;
}

-- A definition that fits leaves all that is known fitting.
pub known-fits : (known : Known) (p : Piece) → AllFit known → PieceFits p → AllFit (known_after known p)
known-fits known (Definition n c) all fits name =
    elim (bytes_eq n name) as (λ v. IfSome (cond v (Some c) (known name)) Fits) [ true ↦ fits | false ↦ all name ]
known-fits known p all fits name = all name

pub room-next : (old new : Lexer) (a : Advances old new) → Roomy old → ReadsPiece old.left.now (a.piece, new.left.now) → PieceFits a.piece → Roomy new
room-next old new a room read fits =
    let kind = kind_at (known_by old.defined) a.piece in
    let k = keeps (ltb old.count most_tokens) old.count old.line new.line kind old.tokens room.kept room.kept_lines (omega (arith, a.line)) in
    let lines = newlines-le old.left.now new.left.now (omega (arith, read.less)) in
    let text = piece-text old.line (known_by old.defined) a.piece in
    let one = one_at_most old.line kind in
    record {
      first_line = omega (arith, a.line, room.first_line);
      line_room = omega (arith, a.line, room.line_room, lines);
      text_room = omega (arith, ap (sum_by text_len) a.tokens, k.text, text, read.short, room.text_room);
      count_room = omega (arith, a.count, one, read.less, room.count_room);
      kept = omega (arith, ap length a.tokens, a.count, k.few);
      kept_lines = subst (λ ts. All (λ x. x ≤ new.line) (lines_of ts)) (sym a.tokens) k.lines;
      known_fit = λ name. subst (λ o. IfSome o Fits) (sym (a.known name)) (known-fits (known_by old.defined) a.piece room.known_fit fits name);
    }

-- The lexer is at a place of the text, with the tokens before it.
use Rattle.std.proofs.Common.{◌≡◌, ◌+◌, ◌-◌, ◌≤◌, ◌<◌, ℕ, length, true, false, cond, eqb, ltb, lt-ltb, List, [], ◌∷◌, ◌++◌, take, get_or, Option, Some, None, refl, ap, sym, ◌∙◌, subst, arith, length-append, append_assoc, append-nil, ⊎_elim}
use Rattle.std.proofs.Math.Seq.{take-append_seam}
use Rattle.std.proofs.lemmas.List.Sums.{sum_by-append}
use Rattle.c_syntax.specs.declared.token.Token.{Token}
use Rattle.c_syntax.specs.declared.token.TokenKind.{TokenKind}
use Rattle.c_lexer.specs.declared.error.LexError.{LexError}
use Rattle.c_lexer.specs.declared.error.LexError.TheVariants as error
use Rattle.c_lexer.specs.declared.lexer.Lexer.{Lexer}
use Rattle.c_lexer_pieces.specs.Cutting.{piece_at, is_fresh, fresh_from}
use Rattle.c_lexer_pieces.specs.Found.{known_by}
use Rattle.c_lexer_pieces.specs.Pieces.{Place}
use Rattle.c_lexer.specs.Lexing.{IsLongest, NothingStands, CutStops, Taken, Cuts, past_piece, place_after, known_after, line_of, tokens_from, with_line, kind_at, text_start}
use Rattle.c_lexer_pieces.specs.Bytes.{newlines}
use Rattle.c_lexer.specs.Refusals.{ErrorSays, can_begin, refusal_for}
use Rattle.c_lexer.specs.State.{Advances, Refuses, kept_with, bytes_between}
use Rattle.c_syntax.specs.Limits.{most_tokens}
use Rattle.c_lexer_pieces.proofs.FreshLaws.{fresh_from-append}
use Rattle.c_lexer.proofs.PieceLaws.{LongestRead, longest-read, nothing-read}

pub record IsAt (text : List ℕ) (l : Lexer) : Type 0 where
  pub pieces : List Taken
  pub cut : Cuts text_start text pieces l.left.now
  pub fresh : l.fresh ≡ is_fresh (place_after text_start pieces).before
  pub known : (name : List ℕ) → known_by l.defined name ≡ (place_after text_start pieces).known name
  pub line : l.line ≡ line_of (place_after text_start pieces)
  pub count : l.count ≡ length (tokens_from text_start pieces)
  pub tokens : l.count ≤ most_tokens → l.tokens ≡ tokens_from text_start pieces

cuts-push : (place : Place) (left : List ℕ) (ts : List Taken) (t : Taken) (rest after : List ℕ) → Cuts place left ts rest → rest ≡ t.bytes ++ after → IsLongest (place_after place ts) t.bytes after t.piece → Cuts place left (ts ++ t ∷ []) after
cuts-push place left [] t rest after cut is longest = (after, cut ∙ is, longest, refl)
cuts-push place left (u ∷ us) t rest after cut is longest = (cut.0, cut.1, cut.2, cuts-push (past_piece place u) cut.0 us t rest after cut.3 is longest)

place-push : (place : Place) (ts : List Taken) (t : Taken) → place_after place (ts ++ t ∷ []) ≡ past_piece (place_after place ts) t
place-push place [] t = refl
place-push place (u ∷ us) t = place-push (past_piece place u) us t

tokens-push : (place : Place) (ts : List Taken) (t : Taken) → tokens_from place (ts ++ t ∷ []) ≡ tokens_from place ts ++ with_line (line_of (place_after place ts)) (kind_at (place_after place ts).known t.piece)
tokens-push place [] t = append-nil (with_line (line_of place) (kind_at place.known t.piece))
tokens-push place (u ∷ us) t =
    let front = with_line (line_of place) (kind_at place.known u.piece) in
    ap (λ xs. front ++ xs) (tokens-push (past_piece place u) us t) ∙ sym (append_assoc front _ _)

between-is : (left bytes rest : List ℕ) → left ≡ bytes ++ rest → bytes_between left rest ≡ bytes
between-is left bytes rest is =
    let n : length left - length rest ≡ length bytes = omega (arith, ap length is, length-append bytes rest) in
    ap (λ k. take k left) n ∙ ap (take (length bytes)) is ∙ take-append_seam bytes rest

-- Up to the limit all are kept.
kept-all : (count : ℕ) (tokens all : List Token) (line : ℕ) (kind : Option TokenKind) → (count ≤ most_tokens → tokens ≡ all) → count + length (with_line line kind) ≤ most_tokens → kept_with count tokens (with_line line kind) ≡ all ++ with_line line kind
kept-all count tokens all line None same few =
    elim (ltb count most_tokens) as (λ v. cond v (tokens ++ []) tokens ≡ all ++ []) [
      | true ↦ ap (λ xs. xs ++ []) (same (omega arith))
      | false ↦ same (omega arith) ∙ sym (append-nil all)
    ]
kept-all count tokens all line (Some k) same few =
    let below : ltb count most_tokens ≡ true = lt-ltb count most_tokens (omega arith) in
    rw below (ap (λ xs. xs ++ with_line line (Some k)) (same (omega arith)))

line-push : (place : Place) (bytes : List ℕ) → line_of place + newlines bytes ≡ 1 + newlines (place.before ++ bytes)
line-push place bytes = omega (arith, sum_by-append (λ b. cond (eqb b 10) 1 0) place.before bytes)

empty : (xs : List ℕ) → length xs ≡ 0 → xs ≡ []
empty [] h = refl
empty (x ∷ xs) h = absurd (omega arith)

-- the next place, from what was read at this one
next-place : (text : List ℕ) (old new : Lexer) (at : IsAt text old) (a : Advances old new) → LongestRead (place_after text_start at.pieces) old.left.now (a.piece, new.left.now) → IsAt text new
next-place text old new at a r =
    let place = place_after text_start at.pieces in
    let t : Taken = record { bytes = r.bytes; piece = a.piece } in
    let pushed = place-push text_start at.pieces t in
    let taken : bytes_between old.left.now new.left.now ≡ r.bytes = between-is old.left.now r.bytes new.left.now r.is in
    let known : known_by old.defined ≡ place.known = λ i name. at.known name i in
    let more = with_line (line_of place) (kind_at place.known a.piece) in
    let same_more : with_line old.line (kind_at (known_by old.defined) a.piece) ≡ more = λ i. with_line (at.line i) (kind_at (known i) a.piece) in
    let all = tokens-push text_start at.pieces t in
    let count : new.count ≡ length (tokens_from text_start at.pieces) + length more = a.count ∙ (λ i. at.count i + length (same_more i)) in
    record {
      pieces = at.pieces ++ t ∷ [];
      cut = cuts-push text_start text at.pieces t old.left.now new.left.now at.cut r.is r.longest;
      fresh = a.fresh ∙ (λ i. fresh_from (at.fresh i) (taken i)) ∙ sym (fresh_from-append place.before true r.bytes) ∙ ap (λ (q : Place). is_fresh q.before) (sym pushed);
      known = λ name. a.known name ∙ (λ i. known_after (known i) a.piece name) ∙ ap (λ (q : Place). q.known name) (sym pushed);
      line = a.line ∙ (λ i. at.line i + newlines (taken i)) ∙ line-push place r.bytes ∙ ap line_of (sym pushed);
      count = count ∙ sym (length-append (tokens_from text_start at.pieces) more) ∙ ap length (sym all);
      tokens = λ few.
          let fits : old.count + length (with_line old.line (kind_at (known_by old.defined) a.piece)) ≤ most_tokens = omega (arith, a.count) in
          a.tokens ∙ kept-all old.count old.tokens (tokens_from text_start at.pieces) old.line (kind_at (known_by old.defined) a.piece) at.tokens fits ∙ ap (λ xs. tokens_from text_start at.pieces ++ xs) same_more ∙ sym all;
    }

pub at-next : (text : List ℕ) (old new : Lexer) → IsAt text old → Advances old new → IsAt text new
at-next text old new at a =
    let place = place_after text_start at.pieces in
    let known : known_by old.defined ≡ place.known = λ i name. at.known name i in
    let found : piece_at (is_fresh place.before) place.known old.left.now ≡ Some (a.piece, new.left.now) = (λ i. piece_at (sym at.fresh i) (sym known i) old.left.now) ∙ a.found in
    next-place text old new at a (longest-read place old.left.now (a.piece, new.left.now) found)

-- nothing stands where nothing is read
pub at-stuck : (text : List ℕ) (l : Lexer) (at : IsAt text l) → piece_at l.fresh (known_by l.defined) l.left.now ≡ None → NothingStands (place_after text_start at.pieces) l.left.now
at-stuck text l at h =
    let place = place_after text_start at.pieces in
    let known : known_by l.defined ≡ place.known = λ i name. at.known name i in
    nothing-read place l.left.now ((λ i. piece_at (sym at.fresh i) (sym known i) l.left.now) ∙ h)

stops-at : (text left : List ℕ) (pieces : List Taken) (line : ℕ) → 0 < length left → Cuts text_start text pieces left → NothingStands (place_after text_start pieces) left → line ≡ line_of (place_after text_start pieces) → ErrorSays text (refusal_for line (get_or left 0 0))
stops-at text [] pieces line some cut stuck is = absurd (omega arith)
stops-at text (b ∷ bs) pieces line some cut stuck is =
    let stops : CutStops text line b = record { pieces = pieces; rest = bs; cut = cut; stuck = stuck; line_is = is } in
    elim (can_begin b) as (λ v. can_begin b ≡ v → ErrorSays text (cond v (error.BadToken line) (error.BadByte line))) [
      | true ↦ λ e. record { byte = b; stops = stops; begins = e }
      | false ↦ λ e. record { byte = b; stops = stops; begins = e }
    ] refl

pub says-error : (text : List ℕ) (l : Lexer) (e : LexError) → IsAt text l → 0 < length l.left.now → Refuses l e → ErrorSays text e
says-error text l e at some refuses =
    ⊎_elim
    (λ (w : e ≡ error.Memory). subst (ErrorSays text) (sym w) tt)
    (λ (w : (piece_at l.fresh (known_by l.defined) l.left.now ≡ None) × (e ≡ refusal_for l.line (get_or l.left.now 0 0))).
    subst (ErrorSays text) (sym w.1) (stops-at text l.left.now at.pieces l.line some at.cut (at-stuck text l at w.0) at.line))
    refuses

-- A text is cut in one way.
use Rattle.std.proofs.Common.{◌≡◌, ℕ, length, Bool, true, false, cond, ltb, le-ltb, List, [], ◌∷◌, ◌++◌, take, Some, Result, Ok, Err, refl, ap, sym, ◌∙◌, subst, inl, inr, ◌⊎◌, arith, length-append}
use Rattle.std.proofs.lemmas.Bool.{lt-ltb}
use Rattle.std.proofs.Math.Seq.{take-append_seam}
use Rattle.c_syntax.specs.declared.token.Token.{Token}
use Rattle.c_lexer.specs.declared.error.LexError.{LexError}
use Rattle.c_lexer.specs.declared.error.LexError.TheVariants as error
use Rattle.c_lexer_pieces.specs.Cutting.{piece_at, is_fresh}
use Rattle.c_lexer_pieces.specs.Piece.{Piece}
use Rattle.c_lexer_pieces.specs.Pieces.{Place}
use Rattle.c_lexer.specs.Lexing.{IsLongest, NothingStands, Taken, Cuts, past_piece, place_after, line_of, tokens_from, text_start, Lexes, CutStops}
use Rattle.c_lexer.specs.Refusals.{LexAnswerHolds, can_begin, lexed_answer, refusal_for}
use Rattle.c_lexer.specs.Endings.{Ending, Whole, Stopped, CutEnds}
use Rattle.c_syntax.specs.Limits.{most_tokens}
use Rattle.c_lexer.proofs.PieceLaws.{longest-is, nothing-at-end}

same_front : (a b rest : List ℕ) → a ++ rest ≡ b ++ rest → a ≡ b
same_front a b rest e =
    let n : length a ≡ length b = omega (arith, ap length e, length-append a rest, length-append b rest) in
    sym (take-append_seam a rest) ∙ (λ i. take (n i) (e i)) ∙ take-append_seam b rest

pub record SameTaken (t u : Taken) (after after' : List ℕ) : Type 0 where
  pub taken : t ≡ u
  pub rest : after ≡ after'

-- at a place at most one piece is the longest
pub one-longest : (place : Place) (t u : Taken) (after after' : List ℕ) → t.bytes ++ after ≡ u.bytes ++ after' → IsLongest place t.bytes after t.piece → IsLongest place u.bytes after' u.piece → SameTaken t u after after'
one-longest place t u after after' e x y =
    let fresh = is_fresh place.before in
    let one : Some (t.piece, after) ≡ Some (u.piece, after') = sym (longest-is place t.bytes after t.piece x) ∙ ap (piece_at fresh place.known) e ∙ longest-is place u.bytes after' u.piece y in
    let same : (t.piece, after) ≡ (u.piece, after') = cc in
    let rest : after ≡ after' = ap (λ (z : Piece × List ℕ). z.1) same in
    let bytes : t.bytes ≡ u.bytes = same_front t.bytes u.bytes after' (ap (λ xs. t.bytes ++ xs) (sym rest) ∙ e) in
    record { taken = λ i. record { bytes = bytes i; piece = (same i).0 }; rest = rest }

pub record SamePieces (ts us : List Taken) (a b : List ℕ) : Type 0 where
  pub pieces : ts ≡ us
  pub rest : a ≡ b

pub one-cutting : (place : Place) (left : List ℕ) (ts us : List Taken) (a b : List ℕ) → Cuts place left ts a → Cuts place left us b → NothingStands (place_after place ts) a → NothingStands (place_after place us) b → SamePieces ts us a b
one-cutting place left [] [] a b x y p q = record { pieces = refl; rest = sym x ∙ y }
one-cutting place left [] (u ∷ us) a b x y p q = absurd (p u.bytes y.0 u.piece (sym x ∙ y.1) y.2.stands)
one-cutting place left (t ∷ ts) [] a b x y p q = absurd (q t.bytes x.0 t.piece (sym y ∙ x.1) x.2.stands)
one-cutting place left (t ∷ ts) (u ∷ us) a b x y p q =
    let same = one-longest place t u x.0 y.0 (sym x.1 ∙ y.1) x.2 y.2 in
    let there : Cuts (past_piece place t) x.0 us b = subst (λ (z : Taken × List ℕ). Cuts (past_piece place z.0) z.1 us b) (λ i. (sym same.taken i, sym same.rest i)) y.3 in
    let stuck : NothingStands (place_after (past_piece place t) us) b = subst (λ (z : Taken). NothingStands (place_after (past_piece place z) us) b) (sym same.taken) q in
    let inner = one-cutting (past_piece place t) x.0 ts us a b x.3 there p stuck in
    record { pieces = λ i. same.taken i ∷ inner.pieces i; rest = inner.rest }

pub one-ending : (text : List ℕ) (a b : Ending) → CutEnds text a → CutEnds text b → a ≡ b
one-ending text (Whole xs) (Whole ys) x y =
    let same = one-cutting text_start text x.pieces y.pieces [] [] x.cut y.cut (nothing-at-end (place_after text_start x.pieces)) (nothing-at-end (place_after text_start y.pieces)) in
    ap Whole (x.are ∙ ap (tokens_from text_start) same.pieces ∙ sym y.are)
one-ending text (Whole xs) (Stopped line byte) x y =
    let same = one-cutting text_start text x.pieces y.pieces [] (byte ∷ y.rest) x.cut y.cut (nothing-at-end (place_after text_start x.pieces)) y.stuck in
    absurd (let e : [] ≡ byte ∷ y.rest = same.rest in cc)
one-ending text (Stopped line byte) (Whole ys) x y =
    let same = one-cutting text_start text x.pieces y.pieces (byte ∷ x.rest) [] x.cut y.cut x.stuck (nothing-at-end (place_after text_start y.pieces)) in
    absurd (let e : byte ∷ x.rest ≡ [] = same.rest in cc)
one-ending text (Stopped line byte) (Stopped line' byte') x y =
    let same = one-cutting text_start text x.pieces y.pieces (byte ∷ x.rest) (byte' ∷ y.rest) x.cut y.cut x.stuck y.stuck in
    let bytes : byte ∷ x.rest ≡ byte' ∷ y.rest = same.rest in
    let byte_is : byte ≡ byte' = cc in
    let line_is : line ≡ line' = x.line_is ∙ ap (λ ts. line_of (place_after text_start ts)) same.pieces ∙ sym y.line_is in
    λ i. Stopped (line_is i) (byte_is i)

-- What is said of a text, where it lexes.
pub says-lexed : (text : List ℕ) (r : Result (List Token) LexError) (tokens : List Token) → LexAnswerHolds text r → Lexes text tokens → (r ≡ lexed_answer tokens) ⊎ (r ≡ Err error.Memory)
says-lexed text (Ok ts) tokens says lexes =
    let e : Whole ts ≡ Whole tokens = one-ending text (Whole ts) (Whole tokens) says.0 lexes in
    let same : ts ≡ tokens = cc in
    let few : ltb most_tokens (length tokens) ≡ false = le-ltb most_tokens (length tokens) (omega (arith, ap length same, says.1)) in
    inl (rw few (ap Ok same))
says-lexed text (Err (error.BadByte line)) tokens says lexes = absurd (let e = one-ending text (Stopped line says.byte) (Whole tokens) says.stops lexes in cc)
says-lexed text (Err (error.BadToken line)) tokens says lexes = absurd (let e = one-ending text (Stopped line says.byte) (Whole tokens) says.stops lexes in cc)
says-lexed text (Err error.TooLarge) tokens says lexes =
    let e : Whole says.tokens ≡ Whole tokens = one-ending text (Whole says.tokens) (Whole tokens) says.lexes lexes in
    let same : says.tokens ≡ tokens = cc in
    let many : ltb most_tokens (length tokens) ≡ true = lt-ltb most_tokens (length tokens) (omega (arith, ap length same, says.many)) in
    inl (rw many refl)
says-lexed text (Err error.Memory) tokens says lexes = inr refl

refused : (line byte : ℕ) (can : Bool) (e : LexError) → can_begin byte ≡ can → cond can (error.BadToken line) (error.BadByte line) ≡ e → ◌≡◌ {A = Result (List Token) LexError} (Err e) (Err (refusal_for line byte))
refused line byte can e begins is = rw begins (ap Err (sym is))

stopped-same : (text : List ℕ) (line byte line' byte' : ℕ) → CutStops text line byte → CutStops text line' byte' → Stopped line byte ≡ Stopped line' byte'
stopped-same text line byte line' byte' x y = one-ending text (Stopped line byte) (Stopped line' byte') x y

-- What is said of a text, where its cutting stops.
pub says-stopped : (text : List ℕ) (r : Result (List Token) LexError) (line byte : ℕ) → LexAnswerHolds text r → CutStops text line byte → (r ≡ Err (refusal_for line byte)) ⊎ (r ≡ Err error.Memory)
says-stopped text (Ok ts) line byte says stops = absurd (let e = one-ending text (Whole ts) (Stopped line byte) says.0 stops in cc)
says-stopped text (Err (error.BadByte l)) line byte says stops =
    let e = stopped-same text l says.byte line byte says.stops stops in
    let l_is : l ≡ line = cc in
    let byte_is : says.byte ≡ byte = cc in
    inl (refused line byte false (error.BadByte l) (ap can_begin (sym byte_is) ∙ says.begins) (ap error.BadByte (sym l_is)))
says-stopped text (Err (error.BadToken l)) line byte says stops =
    let e = stopped-same text l says.byte line byte says.stops stops in
    let l_is : l ≡ line = cc in
    let byte_is : says.byte ≡ byte = cc in
    inl (refused line byte true (error.BadToken l) (ap can_begin (sym byte_is) ∙ says.begins) (ap error.BadToken (sym l_is)))
says-stopped text (Err error.TooLarge) line byte says stops = absurd (let e = one-ending text (Whole says.tokens) (Stopped line byte) says.lexes stops in cc)
says-stopped text (Err error.Memory) line byte says stops = inr refl

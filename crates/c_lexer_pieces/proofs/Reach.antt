-- Where something stands, a piece at least as long is read.
use Rattle.std.proofs.Common.{◌≡◌, ◌≢◌, ◌+◌, ◌≤◌, ◌<◌, ℕ, zero, suc, length, Bool, true, false, ◌||◌, ◌&&◌, not, eqb, ltb, leb, leb-true, le-ltb, ltb-false, List, [], ◌∷◌, ◌++◌, take, drop, Option, Some, None, option_and_then, refl, ap, sym, ◌∙◌, ⊎_elim, inl, inr, ◌⊎◌, subst, arith, append_assoc, length-append, length-drop}
use Rattle.std.specs.List.{list_all}
use Rattle.std.specs.Str.{bytes_eq}
use Rattle.std.proofs.lemmas.Slice.Eq.{bytes_eq-Decides}
use Rattle.std.proofs.lemmas.Bool.Decides.{nat_tests}
use Rattle.std.proofs.Math.Seq.{take-append_seam, drop-append_seam}
use Rattle.cbi_base.specs.Name.{IsName, is_letter}
use Rattle.c_syntax.specs.declared.parts.Constant.{Constant}
use Rattle.c_syntax.specs.declared.token.Sign.{Sign}
use Rattle.c_lexer_pieces.specs.declared.bytes.Class.TheVariants as class
use Rattle.c_lexer_pieces.specs.Bytes.{run_of_class, bytes_past_run, begins_with_byte, is_separator, is_digit}
use Rattle.c_lexer_pieces.specs.Spellings.{value_in, sign_table, sign_spelled}
use Rattle.c_lexer_pieces.specs.Reading.{first_some, strip_byte, comment_at, number_at, character_at, name_at}
use Rattle.c_lexer_pieces.specs.Cutting.{as_piece, sign_with, sign_at, comment_or_sign, plain_at, line_piece, directive_at, unless_known, new_directive_at, piece_at, is_fresh}
use Rattle.c_lexer_pieces.specs.Piece.{Piece, Nothing, Name, Constant', Text, Punctuator, Definition, Known}
use Rattle.c_lexer_pieces.specs.Pieces.{Place, StandsAs, AllOf, RunEnds, IsComment, IsNumber, IsCharacter, IsText, IsInclude, IsDefine}
use Rattle.c_lexer_pieces.specs.Pieces as piece
use Rattle.c_lexer_pieces.proofs.FreshLaws.{fresh-known}
use Rattle.c_lexer_pieces.proofs.Steps.{bound, strip-some, some_unless}
use Rattle.std.proofs.lemmas.Bool.{eq-eqb, and_parts, ne_eqb, not-true, or_parts}
use Rattle.base_lists.proofs.Tests.{cond_cases_of}
use Rattle.c_lexer_pieces.proofs.RunLaws.{run-append, past-append}
use Rattle.c_lexer_pieces.proofs.CommentLaws.{comment-splits, comment-append}
use Rattle.c_lexer_pieces.proofs.ReadLaws.{number-read, character-read, text-read}
use Rattle.c_lexer_pieces.proofs.DirectiveReads.{number-first, name-first, name-read, letter_high, Opened, include-read, define-read}

-- a piece is read, and reaches as far; where no farther, it is this one
pub record Reaches (place : Place) (left after : List ℕ) (p : Piece) : Type 0 where
  pub found : Piece × List ℕ
  pub is : piece_at (is_fresh place.before) place.known left ≡ Some found
  pub far : length found.1 ≤ length after
  pub same : length found.1 ≡ length after → found ≡ (p, after)

itself : (place : Place) (left after : List ℕ) (p : Piece) → piece_at (is_fresh place.before) place.known left ≡ Some (p, after) → Reaches place left after p
itself place left after p h = record { found = (p, after); is = h; far = omega arith; same = λ e. refl }

-- a byte that begins neither a string nor a directive
plain-piece : (fresh : Bool) (known : Known) (b : ℕ) (rest : List ℕ) → b ≢ 34 → b ≢ 35 → piece_at fresh known (b ∷ rest) ≡ plain_at (b ∷ rest)
unfolding piece_at
plain-piece fresh known b rest no_quote no_hash = rw (ne_eqb b 34 no_quote, ne_eqb b 35 no_hash) refl

separator_low : (b : ℕ) → is_separator b ≡ true → b ≤ 32
separator_low b h = grind (arith, nat_tests)

no_separator : (b : ℕ) → 33 ≤ b → is_separator b ≡ false
no_separator b h = grind (arith, nat_tests)

digit_tests : (b : ℕ) → 48 ≤ b → b ≤ 57 → (is_letter b ≡ false) × (is_digit b ≡ true)
digit_tests b low high = (grind (arith, nat_tests), grind (arith, nat_tests))

separator-read : (b : ℕ) (after : List ℕ) → is_separator b ≡ true → plain_at (b ∷ after) ≡ Some (Nothing, after)
unfolding plain_at
separator-read b after h = rw h refl

letter-read : (b : ℕ) (rest : List ℕ) → is_letter b ≡ true → plain_at (b ∷ rest) ≡ as_piece Name (name_at (b ∷ rest))
unfolding plain_at
letter-read b rest h = rw (no_separator b (let high = letter_high b h in omega arith), h) refl

digit-read : (b : ℕ) (rest : List ℕ) → 48 ≤ b → b ≤ 57 → plain_at (b ∷ rest) ≡ as_piece Constant' (number_at (b ∷ rest))
unfolding plain_at
digit-read b rest low high = let tests = digit_tests b low high in rw (no_separator b (omega arith), tests.0, tests.1) refl

quote-read : (rest : List ℕ) → plain_at (39 ∷ rest) ≡ as_piece Constant' (character_at (39 ∷ rest))
unfolding plain_at
quote-read rest = refl

slash-read : (rest : List ℕ) → plain_at (47 ∷ rest) ≡ comment_or_sign (comment_at (47 ∷ rest)) (47 ∷ rest)
unfolding plain_at
slash-read rest = refl

comment-first : (bytes after : List ℕ) → IsComment bytes after → (rest : List ℕ) × (bytes ≡ 47 ∷ rest)
comment-first bytes after (piece.line body is all stops) = (47 ∷ body, is)
comment-first bytes after (piece.block body is close) = (42 ∷ body, is)

comment-reach : (place : Place) (bytes after : List ℕ) → IsComment bytes after → piece_at (is_fresh place.before) place.known (bytes ++ after) ≡ Some (Nothing, after)
comment-reach place bytes after c =
    let first = comment-first bytes after c in
    let fresh = is_fresh place.before in
    ap (λ xs. piece_at fresh place.known (xs ++ after)) first.1 ∙ plain-piece fresh place.known 47 (first.0 ++ after) (λ e. absurd (omega arith)) (λ e. absurd (omega arith)) ∙ slash-read (first.0 ++ after) ∙ (λ i. comment_or_sign (comment_at (sym first.1 i ++ after)) (47 ∷ (first.0 ++ after))) ∙ ap (λ o. comment_or_sign o (47 ∷ (first.0 ++ after))) (comment-append bytes after c)

name-reach : (place : Place) (bytes after : List ℕ) → IsName bytes → RunEnds class.Name after → piece_at (is_fresh place.before) place.known (bytes ++ after) ≡ Some (Name bytes, after)
name-reach place bytes after h stops =
    let fresh = is_fresh place.before in
    let f = name-first bytes h in
    let high = letter_high f.letter f.is_letter in
    let rest = f.others ++ after in
    ap (λ xs. piece_at fresh place.known (xs ++ after)) f.is ∙ plain-piece fresh place.known f.letter rest (λ e. omega arith) (λ e. omega arith) ∙ letter-read f.letter rest f.is_letter ∙ ap (λ xs. as_piece Name (name_at (xs ++ after))) (sym f.is) ∙ ap (as_piece Name) (name-read bytes after h stops)

number-reach : (place : Place) (bytes after : List ℕ) (c : Constant) → IsNumber bytes after c → piece_at (is_fresh place.before) place.known (bytes ++ after) ≡ Some (Constant' c, after)
number-reach place bytes after c h =
    let fresh = is_fresh place.before in
    let f = number-first bytes after c h in
    let low = f.low in
    let high = f.high in
    let rest = f.others ++ after in
    ap (λ xs. piece_at fresh place.known (xs ++ after)) f.is ∙ plain-piece fresh place.known f.digit rest (λ e. omega arith) (λ e. omega arith) ∙ digit-read f.digit rest low high ∙ ap (λ xs. as_piece Constant' (number_at (xs ++ after))) (sym f.is) ∙ ap (as_piece Constant') (number-read bytes after c h)

character-reach : (place : Place) (bytes after : List ℕ) (c : Constant) → IsCharacter bytes after c → piece_at (is_fresh place.before) place.known (bytes ++ after) ≡ Some (Constant' c, after)
character-reach place bytes after c h =
    let fresh = is_fresh place.before in
    let others = h.inner ++ 39 ∷ [] in
    let rest = others ++ after in
    ap (λ xs. piece_at fresh place.known (xs ++ after)) h.is ∙ plain-piece fresh place.known 39 rest (λ e. absurd (omega arith)) (λ e. absurd (omega arith)) ∙ quote-read rest ∙ ap (λ xs. as_piece Constant' (character_at (xs ++ after))) (sym h.is) ∙ ap (as_piece Constant') (character-read bytes after c h)

text-reach : (place : Place) (bytes after values : List ℕ) → IsText bytes after values → piece_at (is_fresh place.before) place.known (bytes ++ after) ≡ Some (Text values, after)
unfolding piece_at
text-reach place bytes after values h =
    let is : bytes ++ after ≡ 34 ∷ h.inner ++ 34 ∷ after = ap (λ xs. xs ++ after) h.is ∙ ap (λ xs. 34 ∷ xs) (append_assoc h.inner (34 ∷ []) after) in
    rw is (ap (as_piece Text) (text-read h.inner values after h.elements))

-- Directives

hash-read : (known : Known) (fresh : Bool) (rest : List ℕ) → fresh ≡ true → piece_at fresh known (35 ∷ rest) ≡ new_directive_at known (35 ∷ rest)
unfolding piece_at
hash-read known fresh rest h = rw h refl

opened-hash : (row body : List ℕ) → Opened row body → (rest : List ℕ) × (row ≡ 35 ∷ rest)
opened-hash row body o = (o.rest, strip-some 35 row o.rest o.opens)

directive-read : (row body after : List ℕ) → Opened row body → AllOf class.Line row → RunEnds class.Line after → directive_at (row ++ after) ≡ line_piece body after
unfolding directive_at
directive-read row body after o all stops =
    let row_is : run_of_class class.Line (row ++ after) ≡ row = run-append class.Line row after all stops in
    let after_is : bytes_past_run class.Line (row ++ after) ≡ after = past-append class.Line row after all stops in
    (λ i. option_and_then (λ rest. line_piece (bytes_past_run class.Blank rest) (after_is i)) (strip_byte 35 (row_is i))) ∙ ap (λ z. option_and_then (λ rest. line_piece (bytes_past_run class.Blank rest) after) z) o.opens ∙ ap (λ t. line_piece t after) o.is

directive-reach : (place : Place) (row body after : List ℕ) → is_fresh place.before ≡ true → Opened row body → AllOf class.Line row → RunEnds class.Line after → piece_at (is_fresh place.before) place.known (row ++ after) ≡ option_and_then (unless_known place.known) (line_piece body after)
directive-reach place row body after fresh o all stops =
    let hash = opened-hash row body o in
    ap (λ xs. piece_at (is_fresh place.before) place.known (xs ++ after)) hash.1 ∙ hash-read place.known (is_fresh place.before) (hash.0 ++ after) fresh ∙ ap (λ xs. new_directive_at place.known (xs ++ after)) (sym hash.1) ∙ ap (option_and_then (unless_known place.known)) (directive-read row body after o all stops)

include-reach : (place : Place) (row after : List ℕ) → is_fresh place.before ≡ true → IsInclude row → AllOf class.Line row → RunEnds class.Line after → piece_at (is_fresh place.before) place.known (row ++ after) ≡ Some (Nothing, after)
include-reach place row after fresh h all stops =
    let r = include-read row h in
    directive-reach place row r.text after fresh r.begun all stops ∙ rw r.include refl

define-reach : (place : Place) (row after defined : List ℕ) (c : Constant) → is_fresh place.before ≡ true → IsDefine row defined c → place.known defined ≡ None → AllOf class.Line row → RunEnds class.Line after → piece_at (is_fresh place.before) place.known (row ++ after) ≡ Some (Definition defined c, after)
define-reach place row after defined c fresh h new all stops =
    let r = define-read row defined c h in
    directive-reach place row r.text after fresh r.begun all stops ∙ rw (r.no_include, r.define, new) refl

-- Punctuators

-- what holds of each punctuator's bytes: up to three, the first of which begins nothing else but a comment; two or more begin no comment
abbrev is_apart : List ℕ → Bool
is_apart [] = false
is_apart (b ∷ bs) =
    leb (length bs) 2 && (not (is_separator b || is_letter b || is_digit b || eqb b 34 || eqb b 35 || eqb b 39) && (leb (length bs) 0 || not (eqb b 47 && (begins_with_byte 47 bs || begins_with_byte 42 bs))))

all_apart : list_all (λ (e : List ℕ × Sign). is_apart e.0) sign_table ≡ true
unfolding sign_table
all_apart = refl

value-apart : (table : List (List ℕ × Sign)) (bytes : List ℕ) (s : Sign) → list_all (λ (e : List ℕ × Sign). is_apart e.0) table ≡ true → value_in table bytes ≡ Some s → is_apart bytes ≡ true
value-apart [] bytes s all h = cc
value-apart (e ∷ es) bytes s all h =
    let tests = and_parts (is_apart e.0) (list_all (λ (e : List ℕ × Sign). is_apart e.0) es) all in
    ⊎_elim
    (λ (w : (bytes_eq e.0 bytes ≡ true) × (Some e.1 ≡ Some s)). subst (λ xs. is_apart xs ≡ true) ((bytes_eq-Decides e.0 bytes).0 w.0) tests.0)
    (λ (w : (bytes_eq e.0 bytes ≡ false) × (value_in es bytes ≡ Some s)). value-apart es bytes s tests.1 w.1)
    (cond_cases_of (bytes_eq e.0 bytes) (Some e.1) (value_in es bytes) (Some s) h)

pub record Apart (bytes : List ℕ) : Type 0 where
  pub first : ℕ
  pub others : List ℕ
  pub is : bytes ≡ first ∷ others
  pub short : length others ≤ 2
  pub tests : (is_separator first || is_letter first || is_digit first || eqb first 34 || eqb first 35 || eqb first 39) ≡ false
  pub no_comment : (leb (length others) 0 || not (eqb first 47 && (begins_with_byte 47 others || begins_with_byte 42 others))) ≡ true

apart-parts : (bytes : List ℕ) → is_apart bytes ≡ true → Apart bytes
apart-parts [] h = cc
apart-parts (b ∷ bs) h =
    let one = and_parts (leb (length bs) 2) (not (is_separator b || is_letter b || is_digit b || eqb b 34 || eqb b 35 || eqb b 39) && (leb (length bs) 0 || not (eqb b 47 && (begins_with_byte 47 bs || begins_with_byte 42 bs)))) h in
    let two = and_parts (not (is_separator b || is_letter b || is_digit b || eqb b 34 || eqb b 35 || eqb b 39)) (leb (length bs) 0 || not (eqb b 47 && (begins_with_byte 47 bs || begins_with_byte 42 bs))) one.1 in
    record { first = b; others = bs; is = refl; short = leb-true (length bs) 2 one.0; tests = not-true _ two.0; no_comment = two.1 }

pub sign-apart : (bytes : List ℕ) (s : Sign) → sign_spelled bytes ≡ Some s → Apart bytes
sign-apart bytes s h = apart-parts bytes (value-apart sign_table bytes s all_apart h)

-- where such a byte begins, a comment or a punctuator is read
apart-read : (b : ℕ) (rest : List ℕ) → (is_separator b || is_letter b || is_digit b || eqb b 34 || eqb b 35 || eqb b 39) ≡ false → (fresh : Bool) (known : Known) → piece_at fresh known (b ∷ rest) ≡ comment_or_sign (comment_at (b ∷ rest)) (b ∷ rest)
unfolding piece_at plain_at
apart-read b rest h fresh known =
    let a = or_parts (is_separator b || is_letter b || is_digit b || eqb b 34 || eqb b 35) (eqb b 39) h in
    let c = or_parts (is_separator b || is_letter b || is_digit b || eqb b 34) (eqb b 35) a.0 in
    let d = or_parts (is_separator b || is_letter b || is_digit b) (eqb b 34) c.0 in
    let e = or_parts (is_separator b || is_letter b) (is_digit b) d.0 in
    let f = or_parts (is_separator b) (is_letter b) e.0 in
    rw (d.1, c.1, f.0, f.1, e.1, a.1) refl

zero_or_more : (n : ℕ) → (n ≡ 0) ⊎ (0 < n)
zero_or_more zero = inl refl
zero_or_more (suc n) = inr (omega arith)

leb-false-of : (n : ℕ) → leb (suc n) 0 ≡ false
leb-false-of n = grind (arith, nat_tests)

ltb-zero : (n : ℕ) → (0 < n → ⊥) → n ≡ 0
ltb-zero n h = ⊎_elim (λ (e : n ≡ 0). e) (λ (p : 0 < n). absurd (h p)) (zero_or_more n)

record SignReach (after : List ℕ) (s : Sign) (o : Option (Sign × List ℕ)) : Type 0 where
  found : Sign × List ℕ
  is : o ≡ Some found
  far : length found.1 ≤ length after
  same : length found.1 ≡ length after → found ≡ (s, after)

-- these bytes are read as the punctuator of their length
exact-read : (bytes after : List ℕ) (s : Sign) → sign_spelled bytes ≡ Some s → sign_with (length bytes) (bytes ++ after) ≡ Some (s, after)
exact-read bytes after s h =
    let long : ltb (length (bytes ++ after)) (length bytes) ≡ false = le-ltb (length (bytes ++ after)) (length bytes) (omega (arith, length-append bytes after)) in
    let front : take (length bytes) (bytes ++ after) ≡ bytes = take-append_seam bytes after in
    let rest : drop (length bytes) (bytes ++ after) ≡ after = drop-append_seam bytes after in
    rw (long, front, rest, h) refl

sign_with-length : (n : ℕ) (left : List ℕ) (y : Sign × List ℕ) → sign_with n left ≡ Some y → length y.1 + n ≡ length left
sign_with-length n left y h =
    let found = some_unless (ltb (length left) n) (option_and_then (λ s. Some (s, drop n left)) (sign_spelled (take n left))) y h in
    let a = bound (sign_spelled (take n left)) (λ s. Some (s, drop n left)) y found.1 in
    let same : (a.value, drop n left) ≡ y = let e : Some (a.value, drop n left) ≡ Some y = a.then in cc in
    let long : n ≤ length left = ltb-false (length left) n found.0 in
    omega (arith, ap (λ z. length z.1) same, length-drop n left)

try-next : (k : ℕ) (bytes after : List ℕ) (s : Sign) (o : Option (Sign × List ℕ)) → sign_spelled bytes ≡ Some s → length bytes ≤ k → (length bytes < k → SignReach after s o) → SignReach after s (first_some (sign_with k (bytes ++ after)) o)
try-next k bytes after s o h le next =
    let left = bytes ++ after in
    elim (sign_with k left) as (λ v. sign_with k left ≡ v → SignReach after s (first_some v o)) [
      | None ↦ λ e.
          let other : length bytes ≡ k → ⊥ = λ n. let one = sym (exact-read bytes after s h) ∙ ap (λ m. sign_with m left) n ∙ e in cc in
          next (omega (arith, other))
      | Some y ↦ λ e.
          let long = sign_with-length k left y e in
          let whole = length-append bytes after in
          record {
            found = y;
            is = refl;
            far = omega arith;
            same = λ n.
                let exact : length bytes ≡ k = omega arith in
                let one : Some (s, after) ≡ Some y = sym (exact-read bytes after s h) ∙ ap (λ m. sign_with m left) exact ∙ e in
                cc;
          }
    ] refl

sign_at-reach : (bytes after : List ℕ) (s : Sign) → sign_spelled bytes ≡ Some s → 0 < length bytes → length bytes ≤ 3 → SignReach after s (sign_at (bytes ++ after))
unfolding sign_at
sign_at-reach bytes after s h some short =
    try-next 3 bytes after s _ h short (λ two. try-next 2 bytes after s _ h (omega arith) (λ one.
    let n : length bytes ≡ 1 = omega arith in
    record {
      found = (s, after);
      is = ap (λ m. sign_with m (bytes ++ after)) (sym n) ∙ exact-read bytes after s h;
      far = omega arith;
      same = λ e. refl;
    }))

pub record CommentStart (front : List ℕ) : Type 0 where
  pub second : ℕ
  pub more : List ℕ
  pub is : front ≡ 47 ∷ second ∷ more
  pub one_of : (eqb second 47 || eqb second 42) ≡ true

comment-start : (front rest : List ℕ) → IsComment front rest → CommentStart front
comment-start front rest (piece.line body is all stops) = record { second = 47; more = body; is = is; one_of = refl }
comment-start front rest (piece.block body is close) = record { second = 42; more = body; is = is; one_of = refl }

-- where a punctuator of two or more bytes stands, no comment does
no-comment : (b : ℕ) (others after rest : List ℕ) (s : CommentStart rest) (tail : List ℕ) → (b ∷ others) ++ after ≡ rest ++ tail → 0 < length others → (leb (length others) 0 || not (eqb b 47 && (begins_with_byte 47 others || begins_with_byte 42 others))) ≡ true → ⊥
no-comment b [] after rest s tail e some h = omega arith
no-comment b (o ∷ os) after rest s tail e some h =
    let whole : b ∷ o ∷ (os ++ after) ≡ 47 ∷ s.second ∷ (s.more ++ tail) = e ∙ ap (λ xs. xs ++ tail) s.is in
    let first : b ≡ 47 = cc in
    let second : o ≡ s.second = cc in
    let long : leb (length (o ∷ os)) 0 ≡ false = leb-false-of (length os) in
    let slash : eqb b 47 ≡ true = eq-eqb b 47 first in
    let either : (eqb o 47 || eqb o 42) ≡ true = ap (λ c. eqb c 47 || eqb c 42) second ∙ s.one_of in
    let there : (leb (length (o ∷ os)) 0 || not (eqb b 47 && (eqb o 47 || eqb o 42))) ≡ false = rw (long, slash, either) refl in
    let not_there : (leb (length (o ∷ os)) 0 || not (eqb b 47 && (eqb o 47 || eqb o 42))) ≡ true = h in
    cc

comment-first-reach : (place : Place) (bytes after : List ℕ) (s : Sign) (a : Apart bytes) (rest : List ℕ) → comment_at (bytes ++ after) ≡ Some rest → piece_at (is_fresh place.before) place.known (bytes ++ after) ≡ Some (Nothing, rest) → Reaches place (bytes ++ after) after (Punctuator s)
comment-first-reach place bytes after s a rest h read =
    let c = comment-splits (bytes ++ after) rest h in
    let start = comment-start c.front rest c.comment in
    let whole = length-append bytes after in
    let parts = length-append c.front rest in
    let lengths = ap length c.is in
    let one_byte : length a.others ≡ 0 = ltb-zero (length a.others) (λ some. no-comment a.first a.others after c.front start rest (ap (λ xs. xs ++ after) (sym a.is) ∙ c.is) some a.no_comment) in
    record {
      found = (Nothing, rest);
      is = read;
      far = omega (arith, ap length a.is, ap length start.is);
      same = λ e. absurd (omega (arith, ap length a.is, ap length start.is));
    }

sign-reach : (place : Place) (bytes after : List ℕ) (s : Sign) → sign_spelled bytes ≡ Some s → Reaches place (bytes ++ after) after (Punctuator s)
sign-reach place bytes after s h =
    let a = sign-apart bytes s h in
    let left = bytes ++ after in
    let fresh = is_fresh place.before in
    let read : piece_at fresh place.known left ≡ comment_or_sign (comment_at left) left = ap (λ xs. piece_at fresh place.known (xs ++ after)) a.is ∙ apart-read a.first (a.others ++ after) a.tests fresh place.known ∙ ap (λ xs. comment_or_sign (comment_at (xs ++ after)) (xs ++ after)) (sym a.is) in
    elim (comment_at left) as (λ v. comment_at left ≡ v → piece_at fresh place.known left ≡ comment_or_sign v left → Reaches place left after (Punctuator s)) [
      | None ↦ λ e f.
          let r = sign_at-reach bytes after s h (omega (arith, ap length a.is)) (omega (arith, ap length a.is, a.short)) in
          record {
            found = (Punctuator r.found.0, r.found.1);
            is = f ∙ ap (as_piece Punctuator) r.is;
            far = r.far;
            same = λ n. ap (λ (z : Sign × List ℕ). (Punctuator z.0, z.1)) (r.same n);
          }
      | Some rest ↦ λ e f. comment-first-reach place bytes after s a rest e f
    ] refl read

moved-reach : (place : Place) (left after : List ℕ) (p q : Piece) → p ≡ q → Reaches place left after q → Reaches place left after p
moved-reach place left after p q e r = subst (Reaches place left after) (sym e) r

separator-reach : (place : Place) (b : ℕ) (after : List ℕ) → is_separator b ≡ true → piece_at (is_fresh place.before) place.known (b ∷ after) ≡ Some (Nothing, after)
separator-reach place b after h =
    let low = separator_low b h in
    plain-piece (is_fresh place.before) place.known b after (λ e. omega arith) (λ e. omega arith) ∙ separator-read b after h

pub stands-reach : (place : Place) (bytes after : List ℕ) (p : Piece) → StandsAs place bytes after p → Reaches place (bytes ++ after) after p
stands-reach place bytes after p (piece.separator b is h e) = moved-reach place _ after p Nothing e (itself place _ after Nothing (ap (λ xs. piece_at (is_fresh place.before) place.known (xs ++ after)) is ∙ separator-reach place b after h))
stands-reach place bytes after p (piece.comment c e) = moved-reach place _ after p Nothing e (itself place _ after Nothing (comment-reach place bytes after c))
stands-reach place bytes after p (piece.name h stops e) = moved-reach place _ after p (Name bytes) e (itself place _ after (Name bytes) (name-reach place bytes after h stops))
stands-reach place bytes after p (piece.number c h e) = moved-reach place _ after p (Constant' c) e (itself place _ after (Constant' c) (number-reach place bytes after c h))
stands-reach place bytes after p (piece.character c h e) = moved-reach place _ after p (Constant' c) e (itself place _ after (Constant' c) (character-reach place bytes after c h))
stands-reach place bytes after p (piece.text vs h e) = moved-reach place _ after p (Text vs) e (itself place _ after (Text vs) (text-reach place bytes after vs h))
stands-reach place bytes after p (piece.punctuator s h e) = moved-reach place _ after p (Punctuator s) e (sign-reach place bytes after s h)
stands-reach place bytes after p (piece.include fresh h all stops e) = moved-reach place _ after p Nothing e (itself place _ after Nothing (include-reach place bytes after (fresh-known place.before fresh) h all stops))
stands-reach place bytes after p (piece.define n c fresh h new all stops e) = moved-reach place _ after p (Definition n c) e (itself place _ after (Definition n c) (define-reach place bytes after n c (fresh-known place.before fresh) h new all stops))

-- The piece that is read at a place stands there.
use Rattle.std.proofs.Common.{◌≡◌, ◌+◌, ℕ, length, true, false, cond, eqb, List, [], ◌∷◌, ◌++◌, take, drop, Option, Some, None, option_and_then, is_some, refl, ap, sym, ◌∙◌, ⊎_elim, subst, append_assoc, take-append-drop, ltb}
use Rattle.std.proofs.lemmas.Bool.{eqb-true}
use Rattle.base_lists.proofs.Tests.{cond_cases_of}
use Rattle.base_lists.proofs.Options.{not_some}
use Rattle.cbi_base.specs.Name.{is_letter}
use Rattle.c_syntax.specs.declared.token.Sign.{Sign}
use Rattle.c_lexer_pieces.specs.declared.bytes.Class.TheVariants as class
use Rattle.c_lexer_pieces.specs.Bytes.{run_of_class, bytes_past_run, begins_with_byte, is_separator, is_digit}
use Rattle.c_lexer_pieces.specs.Spellings.{sign_spelled}
use Rattle.c_lexer_pieces.specs.Reading.{first_some, strip_byte, comment_at, number_at, character_at, text_at, name_at, is_include, define_in}
use Rattle.c_lexer_pieces.specs.Cutting.{as_piece, sign_with, sign_at, comment_or_sign, plain_at, line_piece, directive_at, unless_known, new_directive_at, piece_at, is_fresh}
use Rattle.c_lexer_pieces.specs.Piece.{Piece, Nothing, Name, Constant', Text, Punctuator, Definition}
use Rattle.c_lexer_pieces.specs.Pieces.{Place, StandsAs, separator, comment, name, number, character, text, punctuator, include, define, RunEnds}
use Rattle.c_lexer_pieces.proofs.FreshLaws.{fresh-is}
use Rattle.c_lexer_pieces.proofs.RunLaws.{run-past, run-AllOf, past-RunEnds}
use Rattle.c_lexer_pieces.proofs.CommentLaws.{comment-splits}
use Rattle.c_lexer_pieces.proofs.Fronts.{name-parts, name-IsName, first_of-some, unless_known-is}
use Rattle.c_lexer_pieces.proofs.SoundLaws.{number-found, character-found, text-found}
use Rattle.c_lexer_pieces.proofs.DirectiveLaws.{include-found, define-found}
use Rattle.c_lexer_pieces.proofs.Steps.{bound, some_unless}

pub record StandsFound (place : Place) (left : List ℕ) (x : Piece × List ℕ) : Type 0 where
  pub bytes : List ℕ
  pub is : left ≡ bytes ++ x.1
  pub stands : StandsAs place bytes x.1 x.0

-- one answer for another that is equal
moved-found : (place : Place) (left : List ℕ) (y x : Piece × List ℕ) → y ≡ x → StandsFound place left y → StandsFound place left x
moved-found place left y x e found = subst (StandsFound place left) e found

as-found : {A : Type 0} (f : A → Piece) (place : Place) (left : List ℕ) (o : Option (A × List ℕ)) (x : Piece × List ℕ) → ((y : A × List ℕ) → o ≡ Some y → StandsFound place left (f y.0, y.1)) → as_piece f o ≡ Some x → StandsFound place left x
as-found f place left None x found h = cc
as-found f place left (Some y) x found h =
    let same : (f y.0, y.1) ≡ x = let e : Some (f y.0, y.1) ≡ Some x = h in cc in
    moved-found place left _ x same (found y refl)

name-stands : (place : Place) (left : List ℕ) (y : List ℕ × List ℕ) → name_at left ≡ Some y → StandsFound place left (Name y.0, y.1)
name-stands place left y h =
    let same = (name-parts left y h).1 in
    record {
      bytes = y.0;
      is = sym (run-past class.Name left) ∙ ap (λ (z : List ℕ × List ℕ). z.0 ++ z.1) same;
      stands = name (name-IsName left y h) (subst (λ (z : List ℕ × List ℕ). RunEnds class.Name z.1) same (past-RunEnds class.Name left)) refl;
    }

sign_with-stands : (place : Place) (n : ℕ) (left : List ℕ) (y : Sign × List ℕ) → sign_with n left ≡ Some y → StandsFound place left (Punctuator y.0, y.1)
sign_with-stands place n left y h =
    let found = some_unless (ltb (length left) n) (option_and_then (λ s. Some (s, drop n left)) (sign_spelled (take n left))) y h in
    let a = bound (sign_spelled (take n left)) (λ s. Some (s, drop n left)) y found.1 in
    let same : (a.value, drop n left) ≡ y = let e : Some (a.value, drop n left) ≡ Some y = a.then in cc in
    moved-found place left (Punctuator a.value, drop n left) (Punctuator y.0, y.1) (ap (λ (z : Sign × List ℕ). (Punctuator z.0, z.1)) same) (record {
      bytes = take n left;
      is = sym (take-append-drop n left);
      stands = punctuator a.value a.is refl;
    })

sign-stands : (place : Place) (left : List ℕ) (y : Sign × List ℕ) → sign_at left ≡ Some y → StandsFound place left (Punctuator y.0, y.1)
unfolding sign_at
sign-stands place left y h =
    ⊎_elim
    (λ (w : sign_with 3 left ≡ Some y). sign_with-stands place 3 left y w)
    (λ (w : first_some (sign_with 2 left) (sign_with 1 left) ≡ Some y).
    ⊎_elim
    (λ (v : sign_with 2 left ≡ Some y). sign_with-stands place 2 left y v)
    (λ (v : sign_with 1 left ≡ Some y). sign_with-stands place 1 left y v)
    (first_of-some (sign_with 2 left) (sign_with 1 left) y w))
    (first_of-some (sign_with 3 left) (first_some (sign_with 2 left) (sign_with 1 left)) y h)

comment_or_sign-stands : (place : Place) (left : List ℕ) (x : Piece × List ℕ) → comment_or_sign (comment_at left) left ≡ Some x → StandsFound place left x
comment_or_sign-stands place left x h =
    elim (comment_at left) as (λ v. comment_at left ≡ v → comment_or_sign v left ≡ Some x → StandsFound place left x) [
      | None ↦ λ e f. as-found Punctuator place left (sign_at left) x (λ y g. sign-stands place left y g) f
      | Some rest ↦ λ e f.
          let c = comment-splits left rest e in
          let same : (Nothing, rest) ≡ x = cc in
          moved-found place left (Nothing, rest) x same (record { bytes = c.front; is = c.is; stands = comment c.comment refl })
    ] refl h

plain-stands : (place : Place) (left : List ℕ) (x : Piece × List ℕ) → plain_at left ≡ Some x → StandsFound place left x
unfolding plain_at
plain-stands place [] x h = cc
plain-stands place (b ∷ bs) x h =
    let four = comment_or_sign (comment_at (b ∷ bs)) (b ∷ bs) in
    let three = cond (eqb b 39) (as_piece Constant' (character_at (b ∷ bs))) four in
    let two = cond (is_digit b) (as_piece Constant' (number_at (b ∷ bs))) three in
    let one = cond (is_letter b) (as_piece Name (name_at (b ∷ bs))) two in
    ⊎_elim
    (λ (w : (is_separator b ≡ true) × (Some (Nothing, bs) ≡ Some x)).
    let same : (Nothing, bs) ≡ x = let e : Some (Nothing, bs) ≡ Some x = w.1 in cc in
    moved-found place (b ∷ bs) (Nothing, bs) x same (record { bytes = b ∷ []; is = refl; stands = separator b refl w.0 refl }))
    (λ (w : (is_separator b ≡ false) × (one ≡ Some x)).
    ⊎_elim
    (λ (v : (is_letter b ≡ true) × (as_piece Name (name_at (b ∷ bs)) ≡ Some x)). as-found Name place (b ∷ bs) (name_at (b ∷ bs)) x (λ y g. name-stands place (b ∷ bs) y g) v.1)
    (λ (v : (is_letter b ≡ false) × (two ≡ Some x)).
    ⊎_elim
    (λ (u : (is_digit b ≡ true) × (as_piece Constant' (number_at (b ∷ bs)) ≡ Some x)). as-found Constant' place (b ∷ bs) (number_at (b ∷ bs)) x (λ y g. let n = number-found (b ∷ bs) y g in record { bytes = n.front; is = n.is; stands = number y.0 n.number refl }) u.1)
    (λ (u : (is_digit b ≡ false) × (three ≡ Some x)).
    ⊎_elim
    (λ (t : (eqb b 39 ≡ true) × (as_piece Constant' (character_at (b ∷ bs)) ≡ Some x)). as-found Constant' place (b ∷ bs) (character_at (b ∷ bs)) x (λ y g. let c = character-found (b ∷ bs) y g in record { bytes = c.front; is = c.is; stands = character y.0 c.character refl }) t.1)
    (λ (t : (eqb b 39 ≡ false) × (four ≡ Some x)). comment_or_sign-stands place (b ∷ bs) x t.1)
    (cond_cases_of (eqb b 39) (as_piece Constant' (character_at (b ∷ bs))) four (Some x) u.1))
    (cond_cases_of (is_digit b) (as_piece Constant' (number_at (b ∷ bs))) three (Some x) v.1))
    (cond_cases_of (is_letter b) (as_piece Name (name_at (b ∷ bs))) two (Some x) w.1))
    (cond_cases_of (is_separator b) (Some (Nothing, bs)) one (Some x) h)

text-stands : (place : Place) (left : List ℕ) (y : List ℕ × List ℕ) → begins_with_byte 34 left ≡ true → text_at (drop 1 left) ≡ Some y → StandsFound place left (Text y.0, y.1)
unfolding text_at
text-stands place [] y h f = cc
text-stands place (b ∷ bs) y h f =
    let t = text-found (length bs + 1) bs y f in
    let same : b ≡ 34 = eqb-true b 34 h in
    record {
      bytes = 34 ∷ t.inner ++ 34 ∷ [];
      is = ap (λ c. c ∷ bs) same ∙ ap (λ xs. 34 ∷ xs) (t.is ∙ sym (append_assoc t.inner (34 ∷ []) y.1));
      stands = text y.0 (record { inner = t.inner; is = refl; elements = t.elements }) refl;
    }

-- what a directive's line is, and what of it is known
directive-stands : (place : Place) (left : List ℕ) (x : Piece × List ℕ) → is_fresh place.before ≡ true → new_directive_at place.known left ≡ Some x → StandsFound place left x
unfolding directive_at
directive-stands place left x fresh h =
    let line = run_of_class class.Line left in
    let after = bytes_past_run class.Line left in
    let whole : left ≡ line ++ after = sym (run-past class.Line left) in
    let a = bound (directive_at left) (unless_known place.known) x h in
    let b = bound (strip_byte 35 line) (λ rest. line_piece (bytes_past_run class.Blank rest) after) a.value a.is in
    let text = bytes_past_run class.Blank b.value in
    ⊎_elim
    (λ (w : (is_include text ≡ true) × (Some (Nothing, after) ≡ Some a.value)).
    let same : (Nothing, after) ≡ a.value = let e : Some (Nothing, after) ≡ Some a.value = w.1 in cc in
    moved-found place left (Nothing, after) x (same ∙ unless_known-is place.known a.value x a.then) (record {
      bytes = line;
      is = whole;
      stands = include (fresh-is place.before fresh) (include-found line b.value b.is w.0) (run-AllOf class.Line left) (past-RunEnds class.Line left) refl;
    }))
    (λ (w : (is_include text ≡ false) × (option_and_then (λ d. Some (Definition d.0 d.1, after)) (define_in text) ≡ Some a.value)).
    let d = bound (define_in text) (λ d. Some (Definition d.0 d.1, after)) a.value w.1 in
    let same : (Definition d.value.0 d.value.1, after) ≡ a.value = let e : Some (Definition d.value.0 d.value.1, after) ≡ Some a.value = d.then in cc in
    let new = some_unless (is_some (place.known d.value.0)) (Some (Definition d.value.0 d.value.1, after)) x (ap (unless_known place.known) same ∙ a.then) in
    moved-found place left (Definition d.value.0 d.value.1, after) x (let e : Some (Definition d.value.0 d.value.1, after) ≡ Some x = new.1 in cc) (record {
      bytes = line;
      is = whole;
      stands = define d.value.0 d.value.1 (fresh-is place.before fresh) (define-found line b.value d.value b.is d.is) (not_some (place.known d.value.0) new.0) (run-AllOf class.Line left) (past-RunEnds class.Line left) refl;
    }))
    (cond_cases_of (is_include text) (Some (Nothing, after)) (option_and_then (λ d. Some (Definition d.0 d.1, after)) (define_in text)) (Some a.value) b.then)

pub piece-stands : (place : Place) (left : List ℕ) (x : Piece × List ℕ) → piece_at (is_fresh place.before) place.known left ≡ Some x → StandsFound place left x
unfolding piece_at
piece-stands place left x h =
    let fresh = is_fresh place.before in
    let directive = cond fresh (new_directive_at place.known left) None in
    let others = cond (begins_with_byte 35 left) directive (plain_at left) in
    ⊎_elim
    (λ (w : (begins_with_byte 34 left ≡ true) × (as_piece Text (text_at (drop 1 left)) ≡ Some x)). as-found Text place left (text_at (drop 1 left)) x (λ y g. text-stands place left y w.0 g) w.1)
    (λ (w : (begins_with_byte 34 left ≡ false) × (others ≡ Some x)).
    ⊎_elim
    (λ (v : (begins_with_byte 35 left ≡ true) × (directive ≡ Some x)).
    ⊎_elim
    (λ (u : (fresh ≡ true) × (new_directive_at place.known left ≡ Some x)). directive-stands place left x u.0 u.1)
    (λ (u : (fresh ≡ false) × (None ≡ Some x)). absurd cc)
    (cond_cases_of fresh (new_directive_at place.known left) None (Some x) v.1))
    (λ (v : (begins_with_byte 35 left ≡ false) × (plain_at left ≡ Some x)). plain-stands place left x v.1)
    (cond_cases_of (begins_with_byte 35 left) directive (plain_at left) (Some x) w.1))
    (cond_cases_of (begins_with_byte 34 left) (as_piece Text (text_at (drop 1 left))) others (Some x) h)

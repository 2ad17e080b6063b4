-- What is read stands in front of what follows it.
use Rattle.std.proofs.Common.{◌≡◌, ◌+◌, ◌≤◌, ◌<◌, ℕ, zero, suc, length, Bool, true, false, cond, ◌||◌, eqb, List, [], ◌∷◌, ◌++◌, take, drop, Option, Some, None, option_and_then, is_some, refl, ap, sym, ◌∙◌, ⊎_elim, subst, arith, append_assoc, length-append, length-drop, take-append-drop, leb-true, ltb, ltb-false, inl, inr, ◌⊎◌, ◌&&◌, lit<, pos}
use Rattle.std.specs.Prelude.{nat_le}
use Rattle.cbi_base.specs.Name.{is_letter, is_name_byte, begins_name, IsName}
use Rattle.c_syntax.specs.declared.parts.Constant.{Constant}
use Rattle.cbi_base.specs.declared.scalar.Kind.TheVariants as scalar
use Rattle.c_syntax.specs.declared.token.Sign.{Sign}
use Rattle.c_lexer_pieces.specs.declared.constants.Radix.{Radix}
use Rattle.c_lexer_pieces.specs.declared.bytes.Class.{Class}
use Rattle.c_lexer_pieces.specs.declared.bytes.Class.TheVariants as class
use Rattle.c_lexer_pieces.specs.Bytes.{is_of_class, run_of_class, bytes_past_run, begins_with_byte, begins_with, is_separator, is_digit}
use Rattle.c_lexer_pieces.specs.Spellings.{sign_spelled}
use Rattle.c_lexer_pieces.specs.Reading.{first_some, strip_byte, with_rest, hexadecimal_at, radix_from, radix_at, suffix_at, small_value, constant_from, number_at, byte_of, octal_at, hexadecimal_escape_at, escape_at, element_at, character_at, text_within, text_at, name_at, comment_at, is_include, define_in}
use Rattle.c_lexer_pieces.specs.Values.{class_of, base_of, kind_of, simple_escape, signed_byte}
use Rattle.c_lexer_pieces.specs.Cutting.{as_piece, sign_with, sign_at, comment_or_sign, plain_at, line_piece, directive_at, unless_known, new_directive_at, piece_at}
use Rattle.c_lexer_pieces.specs.Piece.{Piece, Nothing, Name, Constant', Text, Punctuator, Definition, Known}
use Rattle.std.proofs.lemmas.Bool.{eqb-false, and_parts, or_parts}
use Rattle.std.specs.List.{list_all}
use Rattle.std.proofs.lemmas.Option.{cond_some}
use Rattle.base_lists.proofs.Tests.{cond_cases_of}
use Rattle.c_lexer_pieces.specs.Pieces.{AllOf}
use Rattle.c_lexer_pieces.specs.PieceFacts.{IsNamed}
use Rattle.c_lexer_pieces.proofs.RunLaws.{run-past, run-AllOf}
use Rattle.c_lexer_pieces.proofs.CommentLaws.{comment-splits}
use Rattle.c_lexer_pieces.proofs.Lengths.{past-le, comment-less}
use Rattle.c_lexer_pieces.proofs.Steps.{bound, some_unless, strip-some}

pub record Splits (bytes rest : List ℕ) : Type 0 where
  pub front : List ℕ
  pub is : bytes ≡ front ++ rest

pub splits-refl : (bytes : List ℕ) → Splits bytes bytes
splits-refl bytes = record { front = []; is = refl }

pub splits-trans : (a b c : List ℕ) → Splits a b → Splits b c → Splits a c
splits-trans a b c x y = record { front = x.front ++ y.front; is = x.is ∙ ap (λ xs. x.front ++ xs) y.is ∙ sym (append_assoc x.front y.front c) }

pub splits-to : (a b c : List ℕ) → Splits a b → b ≡ c → Splits a c
splits-to a b c x e = record { front = x.front; is = x.is ∙ ap (λ xs. x.front ++ xs) e }

pub splits-le : (a b : List ℕ) → Splits a b → length b ≤ length a
splits-le a b x = omega (arith, ap length x.is, length-append x.front b)

pub strip-splits : (b : ℕ) (bytes rest : List ℕ) → strip_byte b bytes ≡ Some rest → Splits bytes rest
strip-splits b bytes rest h = record { front = b ∷ []; is = strip-some b bytes rest h }

pub past-splits : (k : Class) (bytes : List ℕ) → Splits bytes (bytes_past_run k bytes)
past-splits k bytes = record { front = run_of_class k bytes; is = sym (run-past k bytes) }

pub drop-splits : (n : ℕ) (bytes : List ℕ) → Splits bytes (drop n bytes)
drop-splits n bytes = record { front = take n bytes; is = sym (take-append-drop n bytes) }

-- the rest of an answer that carries it along
pub with_rest-is : {A : Type 0} (o : Option A) (rest : List ℕ) (x : A × List ℕ) → with_rest o rest ≡ Some x → rest ≡ x.1
with_rest-is o rest x h =
    let found = bound o (λ y. Some (y, rest)) x h in
    let e : Some (found.value, rest) ≡ Some x = found.then in
    let same : (found.value, rest) ≡ x = cc in
    ap (λ y. y.1) same

octal-splits : (bytes : List ℕ) (x : ℕ × List ℕ) → octal_at bytes ≡ Some x → Splits bytes x.1
unfolding octal_at
octal-splits bytes x h =
    let digits = run_of_class class.Octal (take 3 bytes) in
    splits-to bytes _ _ (drop-splits (length digits) bytes) (with_rest-is (byte_of 8 digits) (drop (length digits) bytes) x h)

hexadecimal-splits : (bytes : List ℕ) (x : ℕ × List ℕ) → hexadecimal_escape_at bytes ≡ Some x → Splits bytes x.1
unfolding hexadecimal_escape_at
hexadecimal-splits bytes x h =
    splits-to bytes _ _ (past-splits class.Hexadecimal bytes) (with_rest-is (byte_of 16 (run_of_class class.Hexadecimal bytes)) (bytes_past_run class.Hexadecimal bytes) x h)

escape-splits : (bytes : List ℕ) (x : ℕ × List ℕ) → escape_at bytes ≡ Some x → Splits bytes x.1
unfolding escape_at
escape-splits [] x h = cc
escape-splits (c ∷ rest) x h =
    let front : Splits (c ∷ rest) rest = record { front = c ∷ []; is = refl } in
    ⊎_elim
    (λ (w : (eqb c 120 ≡ true) × (hexadecimal_escape_at rest ≡ Some x)). splits-trans _ _ _ front (hexadecimal-splits rest x w.1))
    (λ (w : (eqb c 120 ≡ false) × (cond (is_some (simple_escape c)) (with_rest (simple_escape c) rest) (octal_at (c ∷ rest)) ≡ Some x)).
    ⊎_elim
    (λ (v : (is_some (simple_escape c) ≡ true) × (with_rest (simple_escape c) rest ≡ Some x)). splits-to _ _ _ front (with_rest-is (simple_escape c) rest x v.1))
    (λ (v : (is_some (simple_escape c) ≡ false) × (octal_at (c ∷ rest) ≡ Some x)). octal-splits (c ∷ rest) x v.1)
    (cond_cases_of (is_some (simple_escape c)) (with_rest (simple_escape c) rest) (octal_at (c ∷ rest)) (Some x) w.1))
    (cond_cases_of (eqb c 120) (hexadecimal_escape_at rest) (cond (is_some (simple_escape c)) (with_rest (simple_escape c) rest) (octal_at (c ∷ rest))) (Some x) h)

-- an element takes at least one byte
pub record Element (bytes rest : List ℕ) : Type 0 where
  pub splits : Splits bytes rest
  pub less : length rest < length bytes

pub element-splits : (quote : ℕ) (bytes : List ℕ) (x : ℕ × List ℕ) → element_at quote bytes ≡ Some x → Element bytes x.1
unfolding element_at
element-splits quote [] x h = cc
element-splits quote (c ∷ rest) x h =
    let front : Splits (c ∷ rest) rest = record { front = c ∷ []; is = refl } in
    let w = some_unless (eqb c 10 || eqb c quote) (cond (eqb c 92) (escape_at rest) (Some (c, rest))) x h in
    ⊎_elim
    (λ (v : (eqb c 92 ≡ true) × (escape_at rest ≡ Some x)).
    let inner = escape-splits rest x v.1 in
    let le = splits-le rest x.1 inner in
    record { splits = splits-trans _ _ _ front inner; less = omega arith })
    (λ (v : (eqb c 92 ≡ false) × (Some (c, rest) ≡ Some x)).
    let same : (c, rest) ≡ x = cc in
    let e : rest ≡ x.1 = ap (λ y. y.1) same in
    record { splits = splits-to _ _ _ front e; less = omega (arith, ap length e) })
    (cond_cases_of (eqb c 92) (escape_at rest) (Some (c, rest)) (Some x) w.1)

abbrev character_of : ℕ × List ℕ → Constant
character_of e = record { kind = scalar.Int; value = signed_byte e.0 }

pub record CharacterParts (bytes : List ℕ) (x : Constant × List ℕ) : Type 0 where
  pub inner : List ℕ
  pub element : ℕ × List ℕ
  pub opens : strip_byte 39 bytes ≡ Some inner
  pub is : element_at 39 inner ≡ Some element
  pub closes : strip_byte 39 element.1 ≡ Some x.1
  pub value : character_of element ≡ x.0

pub character-parts : (bytes : List ℕ) (x : Constant × List ℕ) → character_at bytes ≡ Some x → CharacterParts bytes x
unfolding character_at
character-parts bytes x h =
    let a = bound (strip_byte 39 bytes) (λ inner. option_and_then (λ e. option_and_then (λ rest. Some (character_of e, rest)) (strip_byte 39 e.1)) (element_at 39 inner)) x h in
    let b = bound (element_at 39 a.value) (λ e. option_and_then (λ rest. Some (character_of e, rest)) (strip_byte 39 e.1)) x a.then in
    let c = bound (strip_byte 39 b.value.1) (λ rest. Some (character_of b.value, rest)) x b.then in
    let same : (character_of b.value, c.value) ≡ x = let e : Some (character_of b.value, c.value) ≡ Some x = c.then in cc in
    record {
      inner = a.value;
      element = b.value;
      opens = a.is;
      is = b.is;
      closes = c.is ∙ ap (λ y. Some y.1) same;
      value = ap (λ y. y.0) same;
    }

pub character-element : (bytes : List ℕ) (x : Constant × List ℕ) → character_at bytes ≡ Some x → Element bytes x.1
character-element bytes x h =
    let p = character-parts bytes x h in
    let opens = strip-splits 39 bytes p.inner p.opens in
    let inner = element-splits 39 p.inner p.element p.is in
    let closes = strip-splits 39 p.element.1 x.1 p.closes in
    record {
      splits = splits-trans _ _ _ opens (splits-trans _ _ _ inner.splits closes);
      less = omega (arith, splits-le _ _ opens, inner.less, splits-le _ _ closes);
    }

-- a string takes at least as many bytes as it has
pub record HasText (bytes : List ℕ) (x : List ℕ × List ℕ) : Type 0 where
  pub splits : Splits bytes x.1
  pub short : length x.0 + length x.1 < length bytes

pub begins-some : (c : ℕ) (bytes : List ℕ) → begins_with_byte c bytes ≡ true → 0 < length bytes
begins-some c [] h = cc
begins-some c (b ∷ bs) h = omega arith

text-closed : (bytes : List ℕ) (x : List ℕ × List ℕ) → begins_with_byte 34 bytes ≡ true → ([], drop 1 bytes) ≡ x → HasText bytes x
text-closed bytes x h e =
    let some = begins-some 34 bytes h in
    record {
      splits = splits-to _ _ _ (drop-splits 1 bytes) (ap (λ y. y.1) e);
      short = omega (arith, ap (λ y. length y.0) e, ap (λ y. length y.1) e, length-drop 1 bytes);
    }

text-more : (bytes : List ℕ) (e : ℕ × List ℕ) (t x : List ℕ × List ℕ) → Element bytes e.1 → HasText e.1 t → (e.0 ∷ t.0, t.1) ≡ x → HasText bytes x
text-more bytes e t x element more is = record {
  splits = splits-to _ _ _ (splits-trans _ _ _ element.splits more.splits) (ap (λ y. y.1) is);
  short = omega (arith, element.less, more.short, ap (λ y. length y.0) is, ap (λ y. length y.1) is);
}

pub text_within-splits : (n : ℕ) (bytes : List ℕ) (x : List ℕ × List ℕ) → text_within n bytes ≡ Some x → HasText bytes x
text_within-splits zero bytes x h = cc
text_within-splits (suc n) bytes x h =
    ⊎_elim
    (λ (w : (begins_with_byte 34 bytes ≡ true) × (Some ([], drop 1 bytes) ≡ Some x)). text-closed bytes x w.0 (let e : Some ([], drop 1 bytes) ≡ Some x = w.1 in cc))
    (λ (w : (begins_with_byte 34 bytes ≡ false) × (option_and_then (λ e. option_and_then (λ t. Some (e.0 ∷ t.0, t.1)) (text_within n e.1)) (element_at 34 bytes) ≡ Some x)).
    let a = bound (element_at 34 bytes) (λ e. option_and_then (λ t. Some (e.0 ∷ t.0, t.1)) (text_within n e.1)) x w.1 in
    let b = bound (text_within n a.value.1) (λ t. Some (a.value.0 ∷ t.0, t.1)) x a.then in
    text-more bytes a.value b.value x (element-splits 34 bytes a.value a.is) (text_within-splits n a.value.1 b.value b.is) (let e : Some (a.value.0 ∷ b.value.0, b.value.1) ≡ Some x = b.then in cc))
    (cond_cases_of (begins_with_byte 34 bytes) (Some ([], drop 1 bytes)) (option_and_then (λ e. option_and_then (λ t. Some (e.0 ∷ t.0, t.1)) (text_within n e.1)) (element_at 34 bytes)) (Some x) h)

hexadecimal_at-splits : (bytes digits : List ℕ) → hexadecimal_at bytes ≡ Some digits → Splits bytes digits
hexadecimal_at-splits bytes digits h =
    let a = bound (strip_byte 48 bytes) (λ rest. cond (begins_with_byte 120 rest) (Some (drop 1 rest)) (strip_byte 88 rest)) digits h in
    let front = strip-splits 48 bytes a.value a.is in
    ⊎_elim
    (λ (w : (begins_with_byte 120 a.value ≡ true) × (Some (drop 1 a.value) ≡ Some digits)). let e : drop 1 a.value ≡ digits = cc in splits-to _ _ _ (splits-trans _ _ _ front (drop-splits 1 a.value)) e)
    (λ (w : (begins_with_byte 120 a.value ≡ false) × (strip_byte 88 a.value ≡ Some digits)). splits-trans _ _ _ front (strip-splits 88 a.value digits w.1))
    (cond_cases_of (begins_with_byte 120 a.value) (Some (drop 1 a.value)) (strip_byte 88 a.value) (Some digits) a.then)

radix-splits : (bytes : List ℕ) → Splits bytes (radix_at bytes).1
unfolding radix_at
radix-splits bytes =
    elim (hexadecimal_at bytes) as (λ v. hexadecimal_at bytes ≡ v → Splits bytes (radix_from v bytes).1) [
      | None ↦ λ e. splits-refl bytes
      | Some digits ↦ λ e. hexadecimal_at-splits bytes digits e
    ] refl

suffix-splits : (bytes : List ℕ) → Splits bytes (suffix_at bytes).1
unfolding suffix_at
suffix-splits bytes =
    elim (begins_with_byte 117 bytes || begins_with_byte 85 bytes) as (λ v. Splits bytes (cond {A = Bool × List ℕ} v (true, drop 1 bytes) (false, bytes)).1) [ true ↦ drop-splits 1 bytes | false ↦ splits-refl bytes ]

pub record ConstantParts (r : Radix) (digits : List ℕ) (end : Bool × List ℕ) (x : Constant × List ℕ) : Type 0 where
  pub value : ℕ
  pub has_digit : 0 < length digits
  pub whole : begins_with class.Number end.1 ≡ false
  pub small : small_value (base_of r) digits ≡ Some value
  pub kind_is : kind_of r end.0 value ≡ Some x.0.kind
  pub value_is : pos value ≡ x.0.value
  pub rest_is : end.1 ≡ x.1

no_digit : (digits : List ℕ) (b : Bool) → (eqb (length digits) 0 || b) ≡ false → (0 < length digits) × (b ≡ false)
no_digit digits b h =
    let tests = or_parts (eqb (length digits) 0) b h in
    let some = eqb-false (length digits) 0 tests.0 in
    (omega (arith, some), tests.1)

pub constant-parts : (r : Radix) (digits : List ℕ) (end : Bool × List ℕ) (x : Constant × List ℕ) → constant_from r digits end ≡ Some x → ConstantParts r digits end x
constant-parts r digits end x h =
    let found = some_unless (eqb (length digits) 0 || begins_with class.Number end.1) (option_and_then (λ v. option_and_then (λ k. Some (record { kind = k; value = pos v }, end.1)) (kind_of r end.0 v)) (small_value (base_of r) digits)) x h in
    let tests = no_digit digits (begins_with class.Number end.1) found.0 in
    let a = bound (small_value (base_of r) digits) (λ v. option_and_then (λ k. Some (record { kind = k; value = pos v }, end.1)) (kind_of r end.0 v)) x found.1 in
    let b = bound (kind_of r end.0 a.value) (λ k. Some (record { kind = k; value = pos a.value }, end.1)) x a.then in
    let constant : Constant = record { kind = b.value; value = pos a.value } in
    let same : (constant, end.1) ≡ x = let e : Some (constant, end.1) ≡ Some x = b.then in cc in
    record {
      value = a.value;
      has_digit = tests.0;
      whole = tests.1;
      small = a.is;
      kind_is = b.is ∙ ap (λ y. Some y.0.kind) same;
      value_is = ap (λ y. y.0.value) same;
      rest_is = ap (λ y. y.1) same;
    }

pub number-element : (bytes : List ℕ) (x : Constant × List ℕ) → number_at bytes ≡ Some x → Element bytes x.1
unfolding number_at
number-element bytes x h =
    let r = (radix_at bytes).0 in
    let spelled = (radix_at bytes).1 in
    let digits = run_of_class (class_of r) spelled in
    let after = bytes_past_run (class_of r) spelled in
    let p = constant-parts r digits (suffix_at after) x h in
    let front = radix-splits bytes in
    let suffix = splits-to _ _ _ (suffix-splits after) p.rest_is in
    record {
      splits = splits-trans _ _ _ front (splits-trans _ _ _ (past-splits (class_of r) spelled) suffix);
      less = omega (arith, p.has_digit, splits-le _ _ front, splits-le _ _ suffix, ap length (run-past (class_of r) spelled), length-append digits after);
    }

letter_in_name : (b : ℕ) → is_letter b ≡ true → is_of_class class.Name b ≡ true
unfolding is_of_class
letter_in_name b h = rw h refl

pub name-parts : (bytes : List ℕ) (x : List ℕ × List ℕ) → name_at bytes ≡ Some x → ((begins_name bytes && nat_le (length (run_of_class class.Name bytes)) 63) ≡ true) × ((run_of_class class.Name bytes, bytes_past_run class.Name bytes) ≡ x)
unfolding name_at
name-parts bytes x h = cond_some (begins_name bytes && nat_le (length (run_of_class class.Name bytes)) 63) (run_of_class class.Name bytes, bytes_past_run class.Name bytes) x h

run-begins : (bytes : List ℕ) → begins_name bytes ≡ true → begins_name (run_of_class class.Name bytes) ≡ true
run-begins [] h = cc
run-begins (b ∷ bs) h = rw (letter_in_name b h) h

all_name_bytes : (bytes : List ℕ) → AllOf class.Name bytes → list_all is_name_byte bytes ≡ true
unfolding is_of_class
all_name_bytes bytes h = h

-- what is read as a name is one
pub name-IsName : (bytes : List ℕ) (x : List ℕ × List ℕ) → name_at bytes ≡ Some x → IsName x.0
name-IsName bytes x h =
    let parts = name-parts bytes x h in
    let tests = and_parts (begins_name bytes) (nat_le (length (run_of_class class.Name bytes)) 63) parts.0 in
    let named : IsName (run_of_class class.Name bytes) = record {
      begins = run-begins bytes tests.0;
      runs = all_name_bytes (run_of_class class.Name bytes) (run-AllOf class.Name bytes);
      short = leb-true (length (run_of_class class.Name bytes)) 63 tests.1;
    } in
    subst (λ (z : List ℕ × List ℕ). IsName z.0) parts.1 named

name-element : (b : ℕ) (bs : List ℕ) (x : List ℕ × List ℕ) → is_letter b ≡ true → name_at (b ∷ bs) ≡ Some x → Element (b ∷ bs) x.1
name-element b bs x letter h =
    let e : bytes_past_run class.Name (b ∷ bs) ≡ x.1 = ap (λ y. y.1) (name-parts (b ∷ bs) x h).1 in
    let moves : bytes_past_run class.Name (b ∷ bs) ≡ bytes_past_run class.Name bs = rw (letter_in_name b letter) refl in
    record {
      splits = splits-to _ _ _ (past-splits class.Name (b ∷ bs)) e;
      less = omega (arith, ap length e, ap length moves, past-le class.Name bs);
    }

pub sign_with-element : (n : ℕ) (bytes : List ℕ) (x : Sign × List ℕ) → 0 < n → sign_with n bytes ≡ Some x → Element bytes x.1
sign_with-element n bytes x positive h =
    let found = some_unless (ltb (length bytes) n) (option_and_then (λ s. Some (s, drop n bytes)) (sign_spelled (take n bytes))) x h in
    let a = bound (sign_spelled (take n bytes)) (λ s. Some (s, drop n bytes)) x found.1 in
    let same : (a.value, drop n bytes) ≡ x = let e : Some (a.value, drop n bytes) ≡ Some x = a.then in cc in
    let long : n ≤ length bytes = ltb-false (length bytes) n found.0 in
    let e : drop n bytes ≡ x.1 = ap (λ y. y.1) same in
    record { splits = splits-to _ _ _ (drop-splits n bytes) e; less = omega (arith, ap length e, length-drop n bytes) }

pub first_of-some : {A : Type 0} (a b : Option A) (x : A) → first_some a b ≡ Some x → (a ≡ Some x) ⊎ (b ≡ Some x)
first_of-some None b x h = inr h
first_of-some (Some y) b x h = inl h

sign-element : (bytes : List ℕ) (x : Sign × List ℕ) → sign_at bytes ≡ Some x → Element bytes x.1
unfolding sign_at
sign-element bytes x h =
    ⊎_elim
    (λ (w : sign_with 3 bytes ≡ Some x). sign_with-element 3 bytes x (lit< tt) w)
    (λ (w : first_some (sign_with 2 bytes) (sign_with 1 bytes) ≡ Some x).
    ⊎_elim
    (λ (v : sign_with 2 bytes ≡ Some x). sign_with-element 2 bytes x (lit< tt) v)
    (λ (v : sign_with 1 bytes ≡ Some x). sign_with-element 1 bytes x (lit< tt) v)
    (first_of-some (sign_with 2 bytes) (sign_with 1 bytes) x w))
    (first_of-some (sign_with 3 bytes) (first_some (sign_with 2 bytes) (sign_with 1 bytes)) x h)

-- how many bytes a piece's string has
abbrev pub piece_len : Piece → ℕ
piece_len (Text values) = length values
piece_len _ = 0

-- a piece takes at least one byte, and more than its string has
pub record ReadsPiece (bytes : List ℕ) (x : Piece × List ℕ) : Type 0 where
  pub splits : Splits bytes x.1
  pub less : length x.1 < length bytes
  pub short : piece_len x.0 + length x.1 < length bytes
  pub named : IsNamed x.0

-- a piece without a string
plain-piece : {A : Type 0} (f : A → Piece) (bytes : List ℕ) (o : Option (A × List ℕ)) (x : Piece × List ℕ) → ((a : A) → piece_len (f a) ≡ 0) → ((y : A × List ℕ) → o ≡ Some y → Element bytes y.1) → ((y : A × List ℕ) → o ≡ Some y → IsNamed (f y.0)) → as_piece f o ≡ Some x → ReadsPiece bytes x
plain-piece f bytes None x none read named h = cc
plain-piece f bytes (Some y) x none read named h =
    let same : (f y.0, y.1) ≡ x = let e : Some (f y.0, y.1) ≡ Some x = h in cc in
    let element = read y refl in
    record {
      splits = splits-to _ _ _ element.splits (ap (λ z. z.1) same);
      less = omega (arith, element.less, ap (λ z. length z.1) same);
      short = omega (arith, element.less, none y.0, ap (λ z. length z.1) same, ap (λ z. piece_len z.0) same);
      named = subst (λ (z : Piece × List ℕ). IsNamed z.0) same (named y refl);
    }

nothing-piece : (bytes rest : List ℕ) (x : Piece × List ℕ) → Splits bytes rest → length rest < length bytes → Some (Nothing, rest) ≡ Some x → ReadsPiece bytes x
nothing-piece bytes rest x splits less h =
    let same : (Nothing, rest) ≡ x = cc in
    record {
      splits = splits-to _ _ _ splits (ap (λ z. z.1) same);
      less = omega (arith, less, ap (λ z. length z.1) same);
      short = omega (arith, less, ap (λ z. length z.1) same, ap (λ z. piece_len z.0) same);
      named = subst (λ (z : Piece × List ℕ). IsNamed z.0) same tt;
    }

comment_or_sign-piece : (bytes : List ℕ) (x : Piece × List ℕ) → comment_or_sign (comment_at bytes) bytes ≡ Some x → ReadsPiece bytes x
comment_or_sign-piece bytes x h =
    elim (comment_at bytes) as (λ v. comment_at bytes ≡ v → comment_or_sign v bytes ≡ Some x → ReadsPiece bytes x) [
      | None ↦ λ e f. plain-piece Punctuator bytes (sign_at bytes) x (λ a. refl) (λ y g. sign-element bytes y g) (λ y g. tt) f
      | Some rest ↦ λ e f. let c = comment-splits bytes rest e in nothing-piece bytes rest x (record { front = c.front; is = c.is }) (comment-less bytes rest e) f
    ] refl h

plain_at-piece : (bytes : List ℕ) (x : Piece × List ℕ) → plain_at bytes ≡ Some x → ReadsPiece bytes x
unfolding plain_at
plain_at-piece [] x h = cc
plain_at-piece (b ∷ bs) x h =
    let four = comment_or_sign (comment_at (b ∷ bs)) (b ∷ bs) in
    let three = cond (eqb b 39) (as_piece Constant' (character_at (b ∷ bs))) four in
    let two = cond (is_digit b) (as_piece Constant' (number_at (b ∷ bs))) three in
    let one = cond (is_letter b) (as_piece Name (name_at (b ∷ bs))) two in
    ⊎_elim
    (λ (w : (is_separator b ≡ true) × (Some (Nothing, bs) ≡ Some x)). nothing-piece (b ∷ bs) bs x (record { front = b ∷ []; is = refl }) (omega arith) w.1)
    (λ (w : (is_separator b ≡ false) × (one ≡ Some x)).
    ⊎_elim
    (λ (v : (is_letter b ≡ true) × (as_piece Name (name_at (b ∷ bs)) ≡ Some x)). plain-piece Name (b ∷ bs) (name_at (b ∷ bs)) x (λ a. refl) (λ y g. name-element b bs y v.0 g) (λ y g. name-IsName (b ∷ bs) y g) v.1)
    (λ (v : (is_letter b ≡ false) × (two ≡ Some x)).
    ⊎_elim
    (λ (u : (is_digit b ≡ true) × (as_piece Constant' (number_at (b ∷ bs)) ≡ Some x)). plain-piece Constant' (b ∷ bs) (number_at (b ∷ bs)) x (λ a. refl) (λ y g. number-element (b ∷ bs) y g) (λ y g. tt) u.1)
    (λ (u : (is_digit b ≡ false) × (three ≡ Some x)).
    ⊎_elim
    (λ (t : (eqb b 39 ≡ true) × (as_piece Constant' (character_at (b ∷ bs)) ≡ Some x)). plain-piece Constant' (b ∷ bs) (character_at (b ∷ bs)) x (λ a. refl) (λ y g. character-element (b ∷ bs) y g) (λ y g. tt) t.1)
    (λ (t : (eqb b 39 ≡ false) × (four ≡ Some x)). comment_or_sign-piece (b ∷ bs) x t.1)
    (cond_cases_of (eqb b 39) (as_piece Constant' (character_at (b ∷ bs))) four (Some x) u.1))
    (cond_cases_of (is_digit b) (as_piece Constant' (number_at (b ∷ bs))) three (Some x) v.1))
    (cond_cases_of (is_letter b) (as_piece Name (name_at (b ∷ bs))) two (Some x) w.1))
    (cond_cases_of (is_separator b) (Some (Nothing, bs)) one (Some x) h)

line-rest : (text after : List ℕ) (x : Piece × List ℕ) → line_piece text after ≡ Some x → (piece_len x.0 ≡ 0) × (after ≡ x.1) × IsNamed x.0
line-rest text after x h =
    ⊎_elim
    (λ (w : (is_include text ≡ true) × (Some (Nothing, after) ≡ Some x)). let same : (Nothing, after) ≡ x = let e : Some (Nothing, after) ≡ Some x = w.1 in cc in (sym (ap (λ z. piece_len z.0) same), ap (λ z. z.1) same, subst (λ (z : Piece × List ℕ). IsNamed z.0) same tt))
    (λ (w : (is_include text ≡ false) × (option_and_then (λ d. Some (Definition d.0 d.1, after)) (define_in text) ≡ Some x)).
    let a = bound (define_in text) (λ d. Some (Definition d.0 d.1, after)) x w.1 in
    let same : (Definition a.value.0 a.value.1, after) ≡ x = let e : Some (Definition a.value.0 a.value.1, after) ≡ Some x = a.then in cc in
    (sym (ap (λ z. piece_len z.0) same), ap (λ z. z.1) same, subst (λ (z : Piece × List ℕ). IsNamed z.0) same tt))
    (cond_cases_of (is_include text) (Some (Nothing, after)) (option_and_then (λ d. Some (Definition d.0 d.1, after)) (define_in text)) (Some x) h)

pub unless_known-is : (known : Known) (y x : Piece × List ℕ) → unless_known known y ≡ Some x → y ≡ x
unless_known-is known (Definition n c, after) x h = let e = (some_unless (is_some (known n)) (Some (Definition n c, after)) x h).1 in cc
unless_known-is known y x h = cc

directive-piece : (bytes : List ℕ) (x : Piece × List ℕ) → directive_at bytes ≡ Some x → ReadsPiece bytes x
unfolding directive_at
directive-piece bytes x h =
    let line = run_of_class class.Line bytes in
    let after = bytes_past_run class.Line bytes in
    let a = bound (strip_byte 35 line) (λ rest. line_piece (bytes_past_run class.Blank rest) after) x h in
    let r = line-rest (bytes_past_run class.Blank a.value) after x a.then in
    let splits = splits-to _ _ _ (past-splits class.Line bytes) r.1 in
    let line_is = strip-some 35 line a.value a.is in
    let less : length x.1 < length bytes = omega (arith, ap length line_is, ap length (run-past class.Line bytes), length-append line after, ap length r.1) in
    record { splits = splits; less = less; short = omega (arith, less, r.0); named = r.2 }

text-read : (bytes : List ℕ) (o : Option (List ℕ × List ℕ)) (x : Piece × List ℕ) → ((y : List ℕ × List ℕ) → o ≡ Some y → HasText (drop 1 bytes) y) → as_piece Text o ≡ Some x → ReadsPiece bytes x
text-read bytes None x read h = cc
text-read bytes (Some y) x read h =
    let same : (Text y.0, y.1) ≡ x = let e : Some (Text y.0, y.1) ≡ Some x = h in cc in
    let t = read y refl in
    record {
      splits = splits-to _ _ _ (splits-trans _ _ _ (drop-splits 1 bytes) t.splits) (ap (λ z. z.1) same);
      less = omega (arith, t.short, ap (λ z. length z.1) same, length-drop 1 bytes);
      short = omega (arith, t.short, ap (λ z. length z.1) same, ap (λ z. piece_len z.0) same, length-drop 1 bytes);
      named = subst (λ (z : Piece × List ℕ). IsNamed z.0) same tt;
    }

new_directive-piece : (fresh : Bool) (known : Known) (bytes : List ℕ) (x : Piece × List ℕ) → cond fresh (new_directive_at known bytes) None ≡ Some x → ReadsPiece bytes x
new_directive-piece false known bytes x h = cc
new_directive-piece true known bytes x h =
    let a = bound (directive_at bytes) (unless_known known) x h in
    directive-piece bytes x (a.is ∙ ap Some (unless_known-is known a.value x a.then))

text-piece : (bytes : List ℕ) (x : Piece × List ℕ) → begins_with_byte 34 bytes ≡ true → as_piece Text (text_at (drop 1 bytes)) ≡ Some x → ReadsPiece bytes x
unfolding text_at
text-piece bytes x begun h = text-read bytes (text_within (length (drop 1 bytes) + 1) (drop 1 bytes)) x (λ y e. text_within-splits (length (drop 1 bytes) + 1) (drop 1 bytes) y e) h

pub piece-read : (fresh : Bool) (known : Known) (bytes : List ℕ) (x : Piece × List ℕ) → piece_at fresh known bytes ≡ Some x → ReadsPiece bytes x
unfolding piece_at
piece-read fresh known bytes x h =
    let directive = cond fresh (new_directive_at known bytes) None in
    let others = cond (begins_with_byte 35 bytes) directive (plain_at bytes) in
    ⊎_elim
    (λ (w : (begins_with_byte 34 bytes ≡ true) × (as_piece Text (text_at (drop 1 bytes)) ≡ Some x)). text-piece bytes x w.0 w.1)
    (λ (w : (begins_with_byte 34 bytes ≡ false) × (others ≡ Some x)).
    ⊎_elim
    (λ (v : (begins_with_byte 35 bytes ≡ true) × (directive ≡ Some x)). new_directive-piece fresh known bytes x v.1)
    (λ (v : (begins_with_byte 35 bytes ≡ false) × (plain_at bytes ≡ Some x)). plain_at-piece bytes x v.1)
    (cond_cases_of (begins_with_byte 35 bytes) directive (plain_at bytes) (Some x) w.1))
    (cond_cases_of (begins_with_byte 34 bytes) (as_piece Text (text_at (drop 1 bytes))) others (Some x) h)

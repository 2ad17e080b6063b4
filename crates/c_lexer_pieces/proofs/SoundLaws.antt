-- What is read stands there as what it is read as.
use Rattle.std.proofs.Common.{◌≡◌, ◌^◌, ◌≤◌, ◌<◌, ℕ, zero, suc, length, Bool, true, false, cond, ◌||◌, eqb, ltb, ltb-true, List, [], ◌∷◌, ◌++◌, take, drop, Option, Some, None, option_and_then, is_some, refl, ap, sym, ◌∙◌, ⊎_elim, inl, inr, ◌⊎◌, subst, arith, pos, append_assoc}
use Rattle.std.proofs.lemmas.Bool.{eqb-true, eqb-false, or_parts}
use Rattle.std.proofs.lemmas.Option.{cond_some}
use Rattle.c_lexer_pieces.proofs.CommentLaws.{begins-is}
use Rattle.base_lists.proofs.Tests.{cond_cases_of}
use Rattle.c_syntax.specs.declared.parts.Constant.{Constant}
use Rattle.c_lexer_pieces.specs.declared.constants.Radix.{Radix}
use Rattle.c_lexer_pieces.specs.declared.constants.Radix.TheVariants as radix
use Rattle.c_lexer_pieces.specs.declared.bytes.Class.{Class}
use Rattle.c_lexer_pieces.specs.declared.bytes.Class.TheVariants as class
use Rattle.c_lexer_pieces.specs.Bytes.{is_of_class, run_of_class, bytes_past_run, begins_with_byte, begins_with}
use Rattle.c_lexer_pieces.specs.Reading.{strip_byte, with_rest, hexadecimal_at, radix_from, radix_at, suffix_at, small_value, number_at, byte_of, octal_at, hexadecimal_escape_at, escape_at, element_at, character_at, text_within}
use Rattle.c_lexer_pieces.specs.Values.{class_of, base_of, value_of, kind_of, simple_escape}
use Rattle.c_lexer_pieces.specs.Pieces.{RunEnds, Spells, IsSuffix, IsNumber, IsElement, plain, letter, octal, hexadecimal, AreElements, IsCharacter}
use Rattle.c_lexer_pieces.proofs.RunLaws.{run-past, run-AllOf, past-RunEnds}
use Rattle.c_lexer_pieces.proofs.Fronts.{constant-parts, character-parts}
use Rattle.c_lexer_pieces.proofs.Steps.{bound, some_unless, strip-some}

begins-front : (c : ℕ) (front rest : List ℕ) → 0 < length front → begins_with_byte c (front ++ rest) ≡ begins_with_byte c front
begins-front c [] rest h = absurd (omega arith)
begins-front c (b ∷ bs) rest h = refl

-- Numbers

record Spelled (bytes digits after : List ℕ) (r : Radix) : Type 0 where
  spelled : List ℕ
  is : bytes ≡ spelled ++ after
  spells : Spells r spelled digits

plain-spelled : (bytes digits after : List ℕ) → bytes ≡ digits ++ after → 0 < length digits → Spelled bytes digits after (cond (begins_with_byte 48 bytes) radix.Octal radix.Decimal)
plain-spelled bytes digits after is some =
    let first : begins_with_byte 48 digits ≡ begins_with_byte 48 bytes = sym (begins-front 48 digits after some) ∙ ap (begins_with_byte 48) (sym is) in
    elim (begins_with_byte 48 bytes) as (λ v. begins_with_byte 48 bytes ≡ v → Spelled bytes digits after (cond v radix.Octal radix.Decimal)) [
      | true ↦ λ e. record { spelled = digits; is = is; spells = (refl, first ∙ e) }
      | false ↦ λ e. record { spelled = digits; is = is; spells = (refl, first ∙ e) }
    ] refl

hexadecimal-spelled : (bytes start digits after : List ℕ) → hexadecimal_at bytes ≡ Some start → start ≡ digits ++ after → Spelled bytes digits after radix.Hexadecimal
hexadecimal-spelled bytes start digits after h is =
    let a = bound (strip_byte 48 bytes) (λ rest. cond (begins_with_byte 120 rest) (Some (drop 1 rest)) (strip_byte 88 rest)) start h in
    let front = strip-some 48 bytes a.value a.is in
    ⊎_elim
    (λ (w : (begins_with_byte 120 a.value ≡ true) × (Some (drop 1 a.value) ≡ Some start)).
    let same : drop 1 a.value ≡ start = cc in
    record {
      spelled = 48 ∷ 120 ∷ digits;
      is = front ∙ ap (λ xs. 48 ∷ xs) (begins-is 120 a.value w.0 ∙ ap (λ xs. 120 ∷ xs) (same ∙ is));
      spells = inl refl;
    })
    (λ (w : (begins_with_byte 120 a.value ≡ false) × (strip_byte 88 a.value ≡ Some start)). record {
      spelled = 48 ∷ 88 ∷ digits;
      is = front ∙ ap (λ xs. 48 ∷ xs) (strip-some 88 a.value start w.1 ∙ ap (λ xs. 88 ∷ xs) is);
      spells = inr refl;
    })
    (cond_cases_of (begins_with_byte 120 a.value) (Some (drop 1 a.value)) (strip_byte 88 a.value) (Some start) a.then)

radix-spelled : (bytes digits after : List ℕ) → (radix_at bytes).1 ≡ digits ++ after → 0 < length digits → Spelled bytes digits after (radix_at bytes).0
unfolding radix_at
radix-spelled bytes digits after is some =
    elim (hexadecimal_at bytes) as (λ v. hexadecimal_at bytes ≡ v → (radix_from v bytes).1 ≡ digits ++ after → Spelled bytes digits after (radix_from v bytes).0) [
      | None ↦ λ e f. plain-spelled bytes digits after f some
      | Some start ↦ λ e f. hexadecimal-spelled bytes start digits after e f
    ] refl is

record Suffixed (bytes : List ℕ) (end : Bool × List ℕ) : Type 0 where
  suffix : List ℕ
  is : bytes ≡ suffix ++ end.1
  is_suffix : IsSuffix end.0 suffix

suffix_byte : (c : ℕ) → (eqb c 117 || eqb c 85) ≡ true → (c ∷ [] ≡ 117 ∷ []) ⊎ (c ∷ [] ≡ 85 ∷ [])
suffix_byte c h =
    elim (eqb c 117) as (λ v. eqb c 117 ≡ v → (v || eqb c 85) ≡ true → (c ∷ [] ≡ 117 ∷ []) ⊎ (c ∷ [] ≡ 85 ∷ [])) [
      | true ↦ λ e f. inl (ap (λ x. x ∷ []) (eqb-true c 117 e))
      | false ↦ λ e f. inr (ap (λ x. x ∷ []) (eqb-true c 85 f))
    ] refl h

suffix-found : (bytes : List ℕ) → Suffixed bytes (suffix_at bytes)
unfolding suffix_at
suffix-found [] = record { suffix = []; is = refl; is_suffix = refl }
suffix-found (c ∷ cs) =
    elim (eqb c 117 || eqb c 85) as (λ v. (eqb c 117 || eqb c 85) ≡ v → Suffixed (c ∷ cs) (cond {A = Bool × List ℕ} v (true, cs) (false, c ∷ cs))) [
      | true ↦ λ e. record { suffix = c ∷ []; is = refl; is_suffix = suffix_byte c e }
      | false ↦ λ e. record { suffix = []; is = refl; is_suffix = refl }
    ] refl

pub record NumberFound (bytes : List ℕ) (x : Constant × List ℕ) : Type 0 where
  pub front : List ℕ
  pub is : bytes ≡ front ++ x.1
  pub number : IsNumber front x.1 x.0

pub number-found : (bytes : List ℕ) (x : Constant × List ℕ) → number_at bytes ≡ Some x → NumberFound bytes x
unfolding number_at
number-found bytes x h =
    let r = (radix_at bytes).0 in
    let start = (radix_at bytes).1 in
    let digits = run_of_class (class_of r) start in
    let after = bytes_past_run (class_of r) start in
    let p = constant-parts r digits (suffix_at after) x h in
    let s = radix-spelled bytes digits after (sym (run-past (class_of r) start)) p.has_digit in
    let f = suffix-found after in
    let v : value_of (base_of r) digits ≡ p.value = (cond_some (ltb (value_of (base_of r) digits) (2 ^ 32)) (value_of (base_of r) digits) p.value p.small).1 in
    record {
      front = s.spelled ++ f.suffix;
      is = s.is ∙ ap (λ xs. s.spelled ++ xs) (f.is ∙ ap (λ xs. f.suffix ++ xs) p.rest_is) ∙ sym (append_assoc s.spelled f.suffix x.1);
      number = record {
        radix = r;
        spelled = s.spelled;
        digits = digits;
        suffixed = (suffix_at after).0;
        suffix = f.suffix;
        is = refl;
        spells = s.spells;
        has_digit = p.has_digit;
        all_digits = run-AllOf (class_of r) start;
        is_suffix = f.is_suffix;
        whole = ap (begins_with class.Number) (sym p.rest_is) ∙ p.whole;
        kind = ap (kind_of r (suffix_at after).0) v ∙ p.kind_is;
        value = sym p.value_is ∙ ap pos (sym v);
      };
    }

-- Elements

-- a run among the first n bytes
record FrontRun (k : Class) (n : ℕ) (bytes digits : List ℕ) : Type 0 where
  is : bytes ≡ digits ++ drop (length digits) bytes
  short : length digits ≤ n
  stops : length digits < n → RunEnds k (drop (length digits) bytes)

run-longer : (k : Class) (n b : ℕ) (bs digits : List ℕ) → FrontRun k n bs digits → FrontRun k (suc n) (b ∷ bs) (b ∷ digits)
run-longer k n b bs digits inner = record { is = ap (λ xs. b ∷ xs) inner.is; short = omega (arith, inner.short); stops = λ h. inner.stops (omega arith) }

front-run : (k : Class) (n : ℕ) (bytes : List ℕ) → FrontRun k n bytes (run_of_class k (take n bytes))
front-run k zero bytes = record { is = refl; short = omega arith; stops = λ h. absurd (omega arith) }
front-run k (suc n) [] = record { is = refl; short = omega arith; stops = λ h. refl }
front-run k (suc n) (b ∷ bs) =
    elim (is_of_class k b) as (λ v. is_of_class k b ≡ v → FrontRun k (suc n) (b ∷ bs) (cond v (b ∷ run_of_class k (take n bs)) [])) [
      | true ↦ λ e. run-longer k n b bs (run_of_class k (take n bs)) (front-run k n bs)
      | false ↦ λ e. record { is = refl; short = omega arith; stops = λ h. e }
    ] refl

with_rest-parts : {A : Type 0} (o : Option A) (rest : List ℕ) (x : A × List ℕ) → with_rest o rest ≡ Some x → (o ≡ Some x.0) × (rest ≡ x.1)
with_rest-parts o rest x h =
    let found = bound o (λ y. Some (y, rest)) x h in
    let e : Some (found.value, rest) ≡ Some x = found.then in
    let same : (found.value, rest) ≡ x = cc in
    (found.is ∙ ap (λ y. Some y.0) same, ap (λ y. y.1) same)

record ByteOf (base : ℕ) (digits : List ℕ) (value : ℕ) : Type 0 where
  some : 0 < length digits
  is : value ≡ value_of base digits
  small : value < 256

byte-parts : (base : ℕ) (digits : List ℕ) (value : ℕ) → byte_of base digits ≡ Some value → ByteOf base digits value
unfolding byte_of
byte-parts base digits value h =
    let found = some_unless (eqb (length digits) 0) (option_and_then (λ v. cond (ltb v 256) (Some v) None) (small_value base digits)) value h in
    let a = bound (small_value base digits) (λ v. cond (ltb v 256) (Some v) None) value found.1 in
    let b = cond_some (ltb a.value 256) a.value value a.then in
    let v = (cond_some (ltb (value_of base digits) (2 ^ 32)) (value_of base digits) a.value a.is).1 in
    let none = eqb-false (length digits) 0 found.0 in
    record { some = omega (arith, none); is = sym (v ∙ b.1); small = subst (λ y. y < 256) b.1 (ltb-true a.value 256 b.0) }

-- an element in front of the rest
pub record ElementFound (quote : ℕ) (bytes : List ℕ) (x : ℕ × List ℕ) : Type 0 where
  pub front : List ℕ
  pub is : bytes ≡ front ++ x.1
  pub element : IsElement quote front x.1 x.0

octal-found : (quote : ℕ) (bytes : List ℕ) (x : ℕ × List ℕ) → octal_at bytes ≡ Some x → ElementFound quote (92 ∷ bytes) x
unfolding octal_at
octal-found quote bytes x h =
    let digits = run_of_class class.Octal (take 3 bytes) in
    let parts = with_rest-parts (byte_of 8 digits) (drop (length digits) bytes) x h in
    let byte = byte-parts 8 digits x.0 parts.0 in
    let front = front-run class.Octal 3 bytes in
    record {
      front = 92 ∷ digits;
      is = ap (λ xs. 92 ∷ xs) (front.is ∙ ap (λ xs. digits ++ xs) parts.1);
      element = octal digits refl byte.some front.short (run-AllOf class.Octal (take 3 bytes)) (λ less. subst (RunEnds class.Octal) parts.1 (front.stops less)) byte.is byte.small;
    }

hexadecimal-found : (quote : ℕ) (bytes : List ℕ) (x : ℕ × List ℕ) → hexadecimal_escape_at bytes ≡ Some x → ElementFound quote (92 ∷ 120 ∷ bytes) x
unfolding hexadecimal_escape_at
hexadecimal-found quote bytes x h =
    let digits = run_of_class class.Hexadecimal bytes in
    let parts = with_rest-parts (byte_of 16 digits) (bytes_past_run class.Hexadecimal bytes) x h in
    let byte = byte-parts 16 digits x.0 parts.0 in
    record {
      front = 92 ∷ 120 ∷ digits;
      is = ap (λ xs. 92 ∷ 120 ∷ xs) (sym (run-past class.Hexadecimal bytes) ∙ ap (λ xs. digits ++ xs) parts.1);
      element = hexadecimal digits refl byte.some (run-AllOf class.Hexadecimal bytes) (subst (RunEnds class.Hexadecimal) parts.1 (past-RunEnds class.Hexadecimal bytes)) byte.is byte.small;
    }

escape-found : (quote : ℕ) (bytes : List ℕ) (x : ℕ × List ℕ) → escape_at bytes ≡ Some x → ElementFound quote (92 ∷ bytes) x
unfolding escape_at
escape-found quote [] x h = cc
escape-found quote (c ∷ rest) x h =
    ⊎_elim
    (λ (w : (eqb c 120 ≡ true) × (hexadecimal_escape_at rest ≡ Some x)).
    let same : c ≡ 120 = eqb-true c 120 w.0 in
    let found = hexadecimal-found quote rest x w.1 in
    record { front = found.front; is = ap (λ b. 92 ∷ b ∷ rest) same ∙ found.is; element = found.element })
    (λ (w : (eqb c 120 ≡ false) × (cond (is_some (simple_escape c)) (with_rest (simple_escape c) rest) (octal_at (c ∷ rest)) ≡ Some x)).
    ⊎_elim
    (λ (v : (is_some (simple_escape c) ≡ true) × (with_rest (simple_escape c) rest ≡ Some x)).
    let parts = with_rest-parts (simple_escape c) rest x v.1 in
    record { front = 92 ∷ c ∷ []; is = ap (λ xs. 92 ∷ c ∷ xs) parts.1; element = letter c refl parts.0 })
    (λ (v : (is_some (simple_escape c) ≡ false) × (octal_at (c ∷ rest) ≡ Some x)). octal-found quote (c ∷ rest) x v.1)
    (cond_cases_of (is_some (simple_escape c)) (with_rest (simple_escape c) rest) (octal_at (c ∷ rest)) (Some x) w.1))
    (cond_cases_of (eqb c 120) (hexadecimal_escape_at rest) (cond (is_some (simple_escape c)) (with_rest (simple_escape c) rest) (octal_at (c ∷ rest))) (Some x) h)

pub element-found : (quote : ℕ) (bytes : List ℕ) (x : ℕ × List ℕ) → element_at quote bytes ≡ Some x → ElementFound quote bytes x
unfolding element_at
element-found quote [] x h = cc
element-found quote (c ∷ rest) x h =
    let w = some_unless (eqb c 10 || eqb c quote) (cond (eqb c 92) (escape_at rest) (Some (c, rest))) x h in
    let tests = or_parts (eqb c 10) (eqb c quote) w.0 in
    ⊎_elim
    (λ (v : (eqb c 92 ≡ true) × (escape_at rest ≡ Some x)).
    let same : c ≡ 92 = eqb-true c 92 v.0 in
    let found = escape-found quote rest x v.1 in
    record { front = found.front; is = ap (λ b. b ∷ rest) same ∙ found.is; element = found.element })
    (λ (v : (eqb c 92 ≡ false) × (Some (c, rest) ≡ Some x)).
    let same : (c, rest) ≡ x = let e : Some (c, rest) ≡ Some x = v.1 in cc in
    let c_is : c ≡ x.0 = ap (λ y. y.0) same in
    record {
      front = x.0 ∷ [];
      is = (λ i. c_is i ∷ (same i).1);
      element = plain refl (λ e. eqb-false c 10 tests.0 (c_is ∙ e)) (λ e. eqb-false c quote tests.1 (c_is ∙ e)) (λ e. eqb-false c 92 v.0 (c_is ∙ e));
    })
    (cond_cases_of (eqb c 92) (escape_at rest) (Some (c, rest)) (Some x) w.1)

pub record CharacterFound (bytes : List ℕ) (x : Constant × List ℕ) : Type 0 where
  pub front : List ℕ
  pub is : bytes ≡ front ++ x.1
  pub character : IsCharacter front x.1 x.0

pub character-found : (bytes : List ℕ) (x : Constant × List ℕ) → character_at bytes ≡ Some x → CharacterFound bytes x
character-found bytes x h =
    let p = character-parts bytes x h in
    let e = element-found 39 p.inner p.element p.is in
    let closes = strip-some 39 p.element.1 x.1 p.closes in
    record {
      front = 39 ∷ e.front ++ 39 ∷ [];
      is = strip-some 39 bytes p.inner p.opens ∙ ap (λ xs. 39 ∷ xs) (e.is ∙ ap (λ xs. e.front ++ xs) closes ∙ sym (append_assoc e.front (39 ∷ []) x.1));
      character = record {
        inner = e.front;
        byte = p.element.0;
        is = refl;
        element = subst (λ after. IsElement 39 e.front after p.element.0) closes e.element;
        constant_is = sym p.value;
      };
    }

pub record TextFound (bytes : List ℕ) (x : List ℕ × List ℕ) : Type 0 where
  pub inner : List ℕ
  pub is : bytes ≡ inner ++ 34 ∷ x.1
  pub elements : AreElements inner x.0 (34 ∷ x.1)

text-closed : (bytes : List ℕ) (x : List ℕ × List ℕ) → begins_with_byte 34 bytes ≡ true → ([], drop 1 bytes) ≡ x → TextFound bytes x
text-closed bytes x h e = subst (TextFound bytes) e (record { inner = []; is = begins-is 34 bytes h; elements = refl })

text-more : (bytes : List ℕ) (e : ℕ × List ℕ) (t x : List ℕ × List ℕ) → ElementFound 34 bytes e → TextFound e.1 t → (e.0 ∷ t.0, t.1) ≡ x → TextFound bytes x
text-more bytes e t x element more is =
    subst (TextFound bytes) is (record {
      inner = element.front ++ more.inner;
      is = element.is ∙ ap (λ xs. element.front ++ xs) more.is ∙ sym (append_assoc element.front more.inner (34 ∷ t.1));
      elements = (element.front, more.inner, refl, subst (λ after. IsElement 34 element.front after e.0) more.is element.element, more.elements);
    })

pub text-found : (n : ℕ) (bytes : List ℕ) (x : List ℕ × List ℕ) → text_within n bytes ≡ Some x → TextFound bytes x
text-found zero bytes x h = cc
text-found (suc n) bytes x h =
    ⊎_elim
    (λ (w : (begins_with_byte 34 bytes ≡ true) × (Some ([], drop 1 bytes) ≡ Some x)). text-closed bytes x w.0 (let e : Some ([], drop 1 bytes) ≡ Some x = w.1 in cc))
    (λ (w : (begins_with_byte 34 bytes ≡ false) × (option_and_then (λ e. option_and_then (λ t. Some (e.0 ∷ t.0, t.1)) (text_within n e.1)) (element_at 34 bytes) ≡ Some x)).
    let a = bound (element_at 34 bytes) (λ e. option_and_then (λ t. Some (e.0 ∷ t.0, t.1)) (text_within n e.1)) x w.1 in
    let b = bound (text_within n a.value.1) (λ t. Some (a.value.0 ∷ t.0, t.1)) x a.then in
    text-more bytes a.value b.value x (element-found 34 bytes a.value a.is) (text-found n a.value.1 b.value b.is) (let e : Some (a.value.0 ∷ b.value.0, b.value.1) ≡ Some x = b.then in cc))
    (cond_cases_of (begins_with_byte 34 bytes) (Some ([], drop 1 bytes)) (option_and_then (λ e. option_and_then (λ t. Some (e.0 ∷ t.0, t.1)) (text_within n e.1)) (element_at 34 bytes)) (Some x) h)

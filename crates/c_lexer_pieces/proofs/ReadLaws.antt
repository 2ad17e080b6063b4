-- What stands is read.
use Rattle.std.proofs.Common.{◌≡◌, ◌+◌, ◌^◌, ◌≤◌, ◌<◌, ℕ, zero, suc, length, Bool, true, false, eqb, ltb, lt-ltb, leb, leb-true, List, [], ◌∷◌, ◌++◌, take, drop, Some, None, is_some, refl, ap, sym, ◌∙◌, ⊎_elim, arith, pos, append_assoc, length-append}
use Rattle.std.proofs.lemmas.Bool.{and_parts, ne_eqb}
use Rattle.std.proofs.lemmas.Bool.Decides.{nat_tests}
use Rattle.std.proofs.Math.Seq.{drop-append_seam}
use Rattle.c_syntax.specs.declared.parts.Constant.{Constant}
use Rattle.cbi_base.specs.declared.scalar.Kind.{Kind}
use Rattle.c_lexer_pieces.specs.declared.constants.Radix.{Radix}
use Rattle.c_lexer_pieces.specs.declared.constants.Radix.TheVariants as radix
use Rattle.c_lexer_pieces.specs.declared.bytes.Class.{Class}
use Rattle.c_lexer_pieces.specs.declared.bytes.Class.TheVariants as class
use Rattle.c_lexer_pieces.specs.Bytes.{is_of_class, run_of_class, bytes_past_run, begins_with_byte}
use Rattle.c_lexer_pieces.specs.Reading.{strip_byte, with_rest, radix_at, suffix_at, small_value, constant_from, number_at, byte_of, octal_at, hexadecimal_escape_at, escape_at, element_at, character_at, text_within, text_at}
use Rattle.c_lexer_pieces.specs.Values.{class_of, base_of, value_of, kind_of, simple_escape}
use Rattle.c_lexer_pieces.specs.Pieces.{AllOf, RunEnds, Spells, IsSuffix, IsNumber, IsElement, plain, letter, octal, hexadecimal, AreElements, IsCharacter}
use Rattle.c_lexer_pieces.proofs.RunLaws.{run-append, past-append, all_of_first}

-- Elements

-- small digits are read as their value
small-read : (base : ℕ) (digits : List ℕ) → value_of base digits < 2 ^ 32 → small_value base digits ≡ Some (value_of base digits)
small-read base digits h = let below : ltb (value_of base digits) (2 ^ 32) ≡ true = lt-ltb (value_of base digits) (2 ^ 32) h in rw below refl

byte-read : (base value : ℕ) (digits : List ℕ) → 0 < length digits → value ≡ value_of base digits → value < 256 → byte_of base digits ≡ Some value
unfolding byte_of
byte-read base value digits some is small =
    let none : eqb (length digits) 0 ≡ false = ne_eqb (length digits) 0 (λ e. omega arith) in
    let v = value_of base digits in
    let below : ltb v 256 ≡ true = lt-ltb v 256 (omega arith) in
    rw (none, small-read base digits (omega (arith)), below, is) refl

run-take : (k : Class) (n : ℕ) (digits after : List ℕ) → AllOf k digits → length digits ≤ n → (length digits < n → RunEnds k after) → run_of_class k (take n (digits ++ after)) ≡ digits
run-take k zero [] after all short stops = refl
run-take k zero (d ∷ ds) after all short stops = absurd (omega arith)
run-take k (suc n) [] [] all short stops = refl
run-take k (suc n) [] (a ∷ rest) all short stops = let stop : is_of_class k a ≡ false = stops (omega arith) in rw stop refl
run-take k (suc n) (d ∷ ds) after all short stops =
    let first = all_of_first k d ds all in
    rw first.0 (ap (λ xs. d ∷ xs) (run-take k n ds after first.1 (omega arith) (λ h. stops (omega arith))))

octal-read : (value : ℕ) (digits after : List ℕ) → 0 < length digits → length digits ≤ 3 → AllOf class.Octal digits → (length digits < 3 → RunEnds class.Octal after) → value ≡ value_of 8 digits → value < 256 → octal_at (digits ++ after) ≡ Some (value, after)
unfolding octal_at
octal-read value digits after some short all stops is small =
    let front : run_of_class class.Octal (take 3 (digits ++ after)) ≡ digits = run-take class.Octal 3 digits after all short stops in
    (λ i. with_rest (byte_of 8 (front i)) (drop (length (front i)) (digits ++ after))) ∙ (λ i. with_rest (byte-read 8 value digits some is small i) (drop-append_seam digits after i))

hexadecimal-read : (value : ℕ) (digits after : List ℕ) → 0 < length digits → AllOf class.Hexadecimal digits → RunEnds class.Hexadecimal after → value ≡ value_of 16 digits → value < 256 → hexadecimal_escape_at (digits ++ after) ≡ Some (value, after)
unfolding hexadecimal_escape_at
hexadecimal-read value digits after some all stops is small =
    (λ i. with_rest (byte_of 16 (run-append class.Hexadecimal digits after all stops i)) (past-append class.Hexadecimal digits after all stops i)) ∙ (λ i. with_rest (byte-read 16 value digits some is small i) after)

pub octal_range : (d : ℕ) → is_of_class class.Octal d ≡ true → (48 ≤ d) × (d ≤ 55)
unfolding is_of_class
octal_range d h = let tests = and_parts (leb 48 d) (leb d 55) h in (leb-true 48 d tests.0, leb-true d 55 tests.1)

no_octal_escape : (d : ℕ) → 48 ≤ d → d ≤ 55 → is_some (simple_escape d) ≡ false
unfolding simple_escape
no_octal_escape d low high =
    rw (ne_eqb d 110 (λ e. omega arith), ne_eqb d 116 (λ e. omega arith), ne_eqb d 114 (λ e. omega arith), ne_eqb d 97 (λ e. omega arith), ne_eqb d 98 (λ e. omega arith), ne_eqb d 102 (λ e. omega arith), ne_eqb d 118 (λ e. omega arith), ne_eqb d 92 (λ e. omega arith), ne_eqb d 39 (λ e. omega arith), ne_eqb d 34 (λ e. omega arith), ne_eqb d 63 (λ e. omega arith)) refl

octal_escape-read : (digits after : List ℕ) → 0 < length digits → AllOf class.Octal digits → escape_at (digits ++ after) ≡ octal_at (digits ++ after)
unfolding escape_at
octal_escape-read [] after some all = absurd (omega arith)
octal_escape-read (d ∷ ds) after some all =
    let range = octal_range d (all_of_first class.Octal d ds all).0 in
    rw (ne_eqb d 120 (λ e. omega (arith, range.1)), no_octal_escape d range.0 range.1) refl

no_x_escape : (c value : ℕ) → simple_escape c ≡ Some value → c ≡ 120 → ⊥
unfolding simple_escape
no_x_escape c value h e = let none : simple_escape 120 ≡ None = refl in let there = ap simple_escape (sym e) ∙ h in cc

letter-read : (c value : ℕ) (after : List ℕ) → simple_escape c ≡ Some value → escape_at (c ∷ after) ≡ Some (value, after)
unfolding escape_at
letter-read c value after h = rw (ne_eqb c 120 (no_x_escape c value h), h) refl

-- An element is read, where its quote is no backslash.
pub element-read : (quote value : ℕ) (bytes after : List ℕ) → eqb 92 quote ≡ false → IsElement quote bytes after value → element_at quote (bytes ++ after) ≡ Some (value, after)
unfolding element_at escape_at
element-read quote value bytes after q (plain is line other slash) = rw (is, ne_eqb value 10 line, ne_eqb value quote other, ne_eqb value 92 slash) refl
element-read quote value bytes after q (letter c is e) = rw (is, q) (letter-read c value after e)
element-read quote value bytes after q (octal digits is some short all stops v small) = rw (is, q) (octal_escape-read digits after some all ∙ octal-read value digits after some short all stops v small)
element-read quote value bytes after q (hexadecimal digits is some all stops v small) = rw (is, q) (hexadecimal-read value digits after some all stops v small)

pub character-read : (bytes after : List ℕ) (constant : Constant) → IsCharacter bytes after constant → character_at (bytes ++ after) ≡ Some (constant, after)
unfolding character_at
character-read bytes after constant h =
    let e : element_at 39 (h.inner ++ 39 ∷ after) ≡ Some (h.byte, 39 ∷ after) = element-read 39 h.byte h.inner (39 ∷ after) refl h.element in
    let is : bytes ++ after ≡ 39 ∷ h.inner ++ 39 ∷ after = ap (λ xs. xs ++ after) h.is ∙ ap (λ xs. 39 ∷ xs) (append_assoc h.inner (39 ∷ []) after) in
    rw (is, e, h.constant_is) refl

-- an element has a first byte that isn't its quote
element-begins : (quote value : ℕ) (bytes rest : List ℕ) (after : List ℕ) → eqb 92 quote ≡ false → IsElement quote bytes after value → begins_with_byte quote (bytes ++ rest) ≡ false
element-begins quote value bytes rest after q (plain is line other slash) = rw is (ne_eqb value quote other)
element-begins quote value bytes rest after q (letter c is e) = rw is q
element-begins quote value bytes rest after q (octal digits is some short all stops v small) = rw is q
element-begins quote value bytes rest after q (hexadecimal digits is some all stops v small) = rw is q

element-some : (quote value : ℕ) (bytes after : List ℕ) → IsElement quote bytes after value → 0 < length bytes
element-some quote value bytes after (plain is line other slash) = omega (arith, ap length is)
element-some quote value bytes after (letter c is e) = omega (arith, ap length is)
element-some quote value bytes after (octal digits is some short all stops v small) = omega (arith, ap length is)
element-some quote value bytes after (hexadecimal digits is some all stops v small) = omega (arith, ap length is)

elements-count : (bytes values after : List ℕ) → AreElements bytes values after → length values ≤ length bytes
elements-count bytes [] after h = omega arith
elements-count bytes (v ∷ vs) after h =
    omega (arith, ap length h.2, length-append h.0 h.1, element-some 34 v h.0 (h.1 ++ after) h.3, elements-count h.1 vs after h.4)

text_within-read : (n : ℕ) (inner values after : List ℕ) → AreElements inner values (34 ∷ after) → length values < n → text_within n (inner ++ 34 ∷ after) ≡ Some (values, after)
text_within-read zero inner values after h less = absurd (omega arith)
text_within-read (suc n) inner [] after h less = rw h refl
text_within-read (suc n) inner (v ∷ vs) after h less =
    let tail = 34 ∷ after in
    let is : inner ++ tail ≡ h.0 ++ (h.1 ++ tail) = ap (λ xs. xs ++ tail) h.2 ∙ append_assoc h.0 h.1 tail in
    let begun : begins_with_byte 34 (h.0 ++ (h.1 ++ tail)) ≡ false = element-begins 34 v h.0 (h.1 ++ tail) (h.1 ++ tail) refl h.3 in
    let read : element_at 34 (h.0 ++ (h.1 ++ tail)) ≡ Some (v, h.1 ++ tail) = element-read 34 v h.0 (h.1 ++ tail) refl h.3 in
    let rest : text_within n (h.1 ++ tail) ≡ Some (vs, after) = text_within-read n h.1 vs after h.4 (omega arith) in
    rw (is, begun, read, rest) refl

pub text-read : (inner values after : List ℕ) → AreElements inner values (34 ∷ after) → text_at (inner ++ 34 ∷ after) ≡ Some (values, after)
unfolding text_at
text-read inner values after h =
    text_within-read (length (inner ++ 34 ∷ after) + 1) inner values after h (omega (arith, length-append inner (34 ∷ after), elements-count inner values (34 ∷ after) h))

-- Numbers

strip-none : (b : ℕ) (bytes : List ℕ) → begins_with_byte b bytes ≡ false → strip_byte b bytes ≡ None
strip-none b [] h = refl
strip-none b (c ∷ cs) h = rw h refl

-- what follows a constant's digits begins with no `x`
record NoX (bytes : List ℕ) : Type 0 where
  lower : begins_with_byte 120 bytes ≡ false
  upper : begins_with_byte 88 bytes ≡ false

octal-NoX : (digits rest : List ℕ) → AllOf class.Octal digits → NoX rest → NoX (digits ++ rest)
octal-NoX [] rest all none = none
octal-NoX (d ∷ ds) rest all none =
    let range = octal_range d (all_of_first class.Octal d ds all).0 in
    record { lower = ne_eqb d 120 (λ e. omega (arith, range.1)); upper = ne_eqb d 88 (λ e. omega (arith, range.1)) }

octal_radix-read : (digits rest : List ℕ) → begins_with_byte 48 digits ≡ true → AllOf class.Octal digits → NoX rest → radix_at (digits ++ rest) ≡ (radix.Octal, digits ++ rest)
unfolding radix_at
octal_radix-read [] rest h all none = cc
octal_radix-read (d ∷ ds) rest h all none =
    let inner = octal-NoX ds rest (all_of_first class.Octal d ds all).1 none in
    rw (h, inner.lower, strip-none 88 (ds ++ rest) inner.upper) (rw h refl)

decimal_radix-read : (digits rest : List ℕ) → 0 < length digits → begins_with_byte 48 digits ≡ false → radix_at (digits ++ rest) ≡ (radix.Decimal, digits ++ rest)
unfolding radix_at
decimal_radix-read [] rest some h = absurd (omega arith)
decimal_radix-read (d ∷ ds) rest some h = rw h (rw h refl)

radix-read : (r : Radix) (spelled digits rest : List ℕ) → Spells r spelled digits → 0 < length digits → AllOf (class_of r) digits → NoX rest → radix_at (spelled ++ rest) ≡ (r, digits ++ rest)
unfolding radix_at
radix-read radix.Octal spelled digits rest h some all none = rw h.0 (octal_radix-read digits rest h.1 all none)
radix-read radix.Decimal spelled digits rest h some all none = rw h.0 (decimal_radix-read digits rest some h.1)
radix-read radix.Hexadecimal spelled digits rest h some all none =
    ⊎_elim (λ (w : spelled ≡ 48 ∷ 120 ∷ digits). rw w refl) (λ (w : spelled ≡ 48 ∷ 88 ∷ digits). rw w refl) h

-- a byte that is in no number is none of these
number_byte : (c : ℕ) (after : List ℕ) → is_of_class class.Number c ≡ true → RunEnds class.Number after → begins_with_byte c after ≡ false
number_byte c [] h stops = refl
number_byte c (a ∷ rest) h stops = ne_eqb a c (λ e. let there : is_of_class class.Number a ≡ true = ap (is_of_class class.Number) e ∙ h in let not_there : is_of_class class.Number a ≡ false = stops in cc)

letters_in_number : (is_of_class class.Number 117 ≡ true) × (is_of_class class.Number 85 ≡ true) × (is_of_class class.Number 120 ≡ true) × (is_of_class class.Number 88 ≡ true)
unfolding is_of_class
letters_in_number = (refl, refl, refl, refl)

suffix-read : (suffixed : Bool) (suffix after : List ℕ) → IsSuffix suffixed suffix → RunEnds class.Number after → suffix_at (suffix ++ after) ≡ (suffixed, after)
unfolding suffix_at
suffix-read false suffix after h stops = rw (h, number_byte 117 after letters_in_number.0 stops, number_byte 85 after letters_in_number.1 stops) refl
suffix-read true suffix after h stops = ⊎_elim (λ (w : suffix ≡ 117 ∷ []). rw w refl) (λ (w : suffix ≡ 85 ∷ []). rw w refl) h

suffix-NoX : (suffixed : Bool) (suffix after : List ℕ) → IsSuffix suffixed suffix → RunEnds class.Number after → NoX (suffix ++ after)
suffix-NoX false suffix after h stops = rw h (record { lower = number_byte 120 after letters_in_number.2 stops; upper = number_byte 88 after letters_in_number.3 stops })
suffix-NoX true suffix after h stops = ⊎_elim (λ (w : suffix ≡ 117 ∷ []). rw w (record { lower = refl; upper = refl })) (λ (w : suffix ≡ 85 ∷ []). rw w (record { lower = refl; upper = refl })) h

-- digits are in numbers
digit_in_number : (r : Radix) (b : ℕ) → is_of_class (class_of r) b ≡ true → is_of_class class.Number b ≡ true
unfolding is_of_class
digit_in_number radix.Octal b h = grind (arith, nat_tests)
digit_in_number radix.Decimal b h = grind (arith, nat_tests)
digit_in_number radix.Hexadecimal b h = grind (arith, nat_tests)

no_suffix_digit : (r : Radix) → (is_of_class (class_of r) 117 ≡ false) × (is_of_class (class_of r) 85 ≡ false)
unfolding is_of_class
no_suffix_digit radix.Octal = (refl, refl)
no_suffix_digit radix.Decimal = (refl, refl)
no_suffix_digit radix.Hexadecimal = (refl, refl)

digits-stop : (r : Radix) (after : List ℕ) → RunEnds class.Number after → RunEnds (class_of r) after
digits-stop r [] stops = refl
digits-stop r (a ∷ rest) stops =
    elim (is_of_class (class_of r) a) as (λ v. is_of_class (class_of r) a ≡ v → is_of_class (class_of r) a ≡ false) [
      | true ↦ λ e. let there = digit_in_number r a e in let not_there : is_of_class class.Number a ≡ false = stops in cc
      | false ↦ λ e. e
    ] refl

suffix-stops : (r : Radix) (suffixed : Bool) (suffix after : List ℕ) → IsSuffix suffixed suffix → RunEnds class.Number after → RunEnds (class_of r) (suffix ++ after)
suffix-stops r false suffix after h stops = rw h (digits-stop r after stops)
suffix-stops r true suffix after h stops = ⊎_elim (λ (w : suffix ≡ 117 ∷ []). rw w (no_suffix_digit r).0) (λ (w : suffix ≡ 85 ∷ []). rw w (no_suffix_digit r).1) h

kind-small : (r : Radix) (suffixed : Bool) (v : ℕ) (k : Kind) → kind_of r suffixed v ≡ Some k → v < 2 ^ 32
unfolding kind_of
kind-small r suffixed v k h = grind (arith, nat_tests)

constant-read : (r : Radix) (digits : List ℕ) (suffixed : Bool) (after : List ℕ) (constant : Constant) → 0 < length digits → RunEnds class.Number after → kind_of r suffixed (value_of (base_of r) digits) ≡ Some constant.kind → constant.value ≡ pos (value_of (base_of r) digits) → constant_from r digits (suffixed, after) ≡ Some (constant, after)
constant-read r digits suffixed after constant some stops kind value =
    let none : eqb (length digits) 0 ≡ false = ne_eqb (length digits) 0 (λ e. omega arith) in
    let small = small-read (base_of r) digits (kind-small r suffixed (value_of (base_of r) digits) constant.kind kind) in
    rw (none, stops, small, kind) (λ i. Some (record { kind = constant.kind; value = sym value i }, after))

pub number-read : (bytes after : List ℕ) (constant : Constant) → IsNumber bytes after constant → number_at (bytes ++ after) ≡ Some (constant, after)
unfolding number_at
number-read bytes after constant h =
    let r = h.radix in
    let rest = h.suffix ++ after in
    let is : bytes ++ after ≡ h.spelled ++ rest = ap (λ xs. xs ++ after) h.is ∙ append_assoc h.spelled h.suffix after in
    let start = radix-read r h.spelled h.digits rest h.spells h.has_digit h.all_digits (suffix-NoX h.suffixed h.suffix after h.is_suffix h.whole) in
    let stops = suffix-stops r h.suffixed h.suffix after h.is_suffix h.whole in
    let digits_read : run_of_class (class_of r) (h.digits ++ rest) ≡ h.digits = run-append (class_of r) h.digits rest h.all_digits stops in
    let rest_read : bytes_past_run (class_of r) (h.digits ++ rest) ≡ rest = past-append (class_of r) h.digits rest h.all_digits stops in
    let end_read : suffix_at rest ≡ (h.suffixed, after) = suffix-read h.suffixed h.suffix after h.is_suffix h.whole in
    ap (λ xs. number_at xs) is ∙
    ap (λ (z : Radix × List ℕ). constant_from z.0 (run_of_class (class_of z.0) z.1) (suffix_at (bytes_past_run (class_of z.0) z.1))) start ∙
    (λ i. constant_from r (digits_read i) (suffix_at (rest_read i))) ∙
    ap (constant_from r h.digits) end_read ∙
    constant-read r h.digits h.suffixed after constant h.has_digit h.whole h.kind h.value

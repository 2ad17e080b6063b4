-- What is printed of a string.
use Rattle.std.proofs.Common.{◌≡◌, ℕ, ◌+◌, ◌-◌, ◌*◌, ◌%◌, ◌≤◌, ◌<◌, ◌⊎◌, inl, inr, List, [], ◌∷◌, ◌++◌, map, Bool, true, false, ◌&&◌, cond, nat_le, IsTrue, pos, negsuc, neg_ℤ, ◌+ℤ◌, refl, ap, ◌∙◌, arith}
use Rattle.std.specs.List.{list_all}
use Rattle.std.proofs.Math.Nat.{mod-eq_of_lt}
use Rattle.std.proofs.lemmas.Nat.{mod-mul-add}
use Rattle.std.proofs.lemmas.Int.{ints}
use Rattle.std.proofs.lemmas.Bool.Decides.{nat_tests}
use Rattle.cbi_base.specs.Words.{char_of, after_bytes, nothing_printed, string_on, bytes_printed, is_zero, low_byte, wrapped_value}
use Rattle.cbi_base.specs.declared.scalar.Kind.TheVariants.{Char}
use Rattle.cbi_base.specs.declared.scalar.Scalar.{Scalar}
use Rattle.flow.specs.Laws.{is_string_byte}

low : (b : ℕ) → b < 128 → wrapped_value Char (pos b) ≡ pos b
low b l =
    let m : (b + 128) % 256 ≡ b + 128 = mod-eq_of_lt (omega (arith, l)) in
    ap (λ (n : ℕ). neg_ℤ (pos 128) +ℤ pos n) m ∙ omega (arith, ints)

high : (b : ℕ) → 128 ≤ b → b < 256 → wrapped_value Char (pos b) ≡ negsuc (255 - b)
high b f l =
    let same : b + 128 ≡ 1 * 256 + (b - 128) = omega (arith, f) in
    let m : (b + 128) % 256 ≡ b - 128 = ap (λ (n : ℕ). n % 256) same ∙ mod-mul-add 1 256 (b - 128) (omega (arith, f, l)) in
    ap (λ (n : ℕ). neg_ℤ (pos 128) +ℤ pos n) m ∙ omega (arith, ints, f, l)

split_by : (b : ℕ) (t : Bool) → nat_le 128 b ≡ t → (128 ≤ b) ⊎ (b < 128)
split_by b true e = inl (grind (arith, nat_tests))
split_by b false e = inr (grind (arith, nat_tests))

-- a byte gives itself back through a `char`
byte_back : (b : ℕ) → b < 256 → low_byte (wrapped_value Char (pos b)) ≡ b
byte_back b l = elim (split_by b (nat_le 128 b) refl) [
  | inl f ↦
      let m : (255 - b) % 256 ≡ 255 - b = mod-eq_of_lt (omega (arith, l)) in
      ap low_byte (high b f l) ∙ ap (λ (n : ℕ). 255 - n) m ∙ omega (arith, l)
  | inr s ↦ ap low_byte (low b s) ∙ mod-eq_of_lt l
]

zero_test : (n : ℕ) → 1 ≤ n → is_zero (pos n) ≡ false
zero_test n f = grind (arith, nat_tests)

-- only the byte 0 is zero as a `char`
not_zero : (b : ℕ) → 1 ≤ b → b < 256 → is_zero (wrapped_value Char (pos b)) ≡ false
not_zero b f l = elim (split_by b (nat_le 128 b) refl) [
  | inl g ↦ ap is_zero (high b g l)
  | inr s ↦ ap is_zero (low b s) ∙ zero_test b f
]

parts : (b : ℕ) (rest : Bool) → IsTrue (is_string_byte b && rest) → (1 ≤ b) × (b < 256) × IsTrue rest
parts b rest h = grind (arith, nat_tests)

-- one more byte
more : (b : ℕ) (cells : List Scalar) → 1 ≤ b → b < 256 → string_on (char_of b ∷ cells) ≡ after_bytes (b ∷ []) (string_on cells)
more b cells f l =
    ap (λ (t : Bool). cond t nothing_printed (after_bytes (low_byte (wrapped_value Char (pos b)) ∷ []) (string_on cells))) (not_zero b f l)
    ∙ ap (λ (n : ℕ). after_bytes (n ∷ []) (string_on cells)) (byte_back b l)

pub strings : (bytes : List ℕ) (rest : List Scalar) → IsTrue (list_all is_string_byte bytes) → string_on (map char_of bytes ++ char_of 0 ∷ rest) ≡ bytes_printed bytes
strings [] rest h = refl
strings (b ∷ bytes) rest h =
    let p = parts b (list_all is_string_byte bytes) h in
    more b (map char_of bytes ++ char_of 0 ∷ rest) p.0 p.1 ∙ ap (after_bytes (b ∷ [])) (strings bytes rest p.2)

-- Fields that are read as numbers: reading undoes spelling, and what is read is spelled so.
use Rattle.std.proofs.Common.{◌≡◌, ◌≤◌, ◌<◌, ◌^◌, ℕ, zero, suc, ℤ, pos, negsuc, Bool, true, false, ◌==◌, ◌&&◌, List, [], ◌∷◌, Option, None, Some, decimal, FitsSigned, IfSome, nat_le, length, ap, sym, subst, ◌∙◌, refl, arith}
use Rattle.std.specs.Fmt.{signed_decimal}
use Rattle.std.specs.Int.{w64}
use Rattle.std.specs.Str.Parse.{digits_value}
use Rattle.std.specs.List.{list_all}
use Rattle.std.proofs.lemmas.Bool.{leb-true, le-leb, eqb-true, false≢true, and_parts}
use Rattle.std.proofs.lemmas.Bool.Decides.{nat_tests}
use Rattle.std.proofs.lemmas.Fmt.{decimal_is_IsNumeral, decimal_nonempty}
use Rattle.std.proofs.lemmas.Option.{option_and_then_some}
use Rattle.base_lists.proofs.Tests.{some_choice}
use Rattle.base_lists.proofs.Options.{answers_none, mapped, none_some}
use lib.Pointwise.{bytes_decides}
use Rattle.cbi_base.proofs.FieldLemmas.{decimal-all}
use Rattle.cbi_base.specs.Numbers.{is_word, number_of, negative_of, signed_of, one_number, two_numbers}

pub is_word-same : (word : List ℕ) → is_word word word ≡ true
is_word-same word = (bytes_decides word word).1 refl

pub same-word : (field word : List ℕ) → is_word field word ≡ true → field ≡ word
same-word field word h = (bytes_decides field word).0 h

pub number_of-decimal : (most n : ℕ) → n ≤ most → most < 2 ^ 64 → number_of most (decimal n) ≡ Some n
unfolding number_of
number_of-decimal most n h small =
    let value : digits_value 10 (decimal n) ≡ n = (decimal_is_IsNumeral n (omega arith)).1 in
    rw (value, is_word-same (decimal n), le-leb n most h) refl

pub number_of-spelled : (most : ℕ) (field : List ℕ) (n : ℕ) → number_of most field ≡ Some n → (field ≡ decimal n) × (n ≤ most)
unfolding number_of
number_of-spelled most field n h =
    some_choice _ _ _ n h (λ test is.
    let parts = and_parts _ _ test in
    let value : digits_value 10 field ≡ n = cc in
    (sym (same-word _ _ parts.0) ∙ ap decimal value, subst (λ k. k ≤ most) value (leb-true _ most parts.1)))
    (λ test is. absurd cc)

-- a reader that finds what is spelled, and nothing else, answers so
pub answers-number : (most : ℕ) (field : List ℕ) → most < 2 ^ 64 → (n : ℕ) → (field ≡ decimal n) × (n ≤ most) → Some n ≡ number_of most field
answers-number most field small n h = sym (ap (number_of most) h.0 ∙ number_of-decimal most n h.1 small)

pub answers-no-number : (most : ℕ) (field : List ℕ) → ((n : ℕ) → field ≡ decimal n → n ≤ most → ⊥) → None ≡ number_of most field
answers-no-number most field never =
    answers_none (number_of most field) (λ n is. let h = number_of-spelled most field n is in never n h.0 h.1)

is_digit : ℕ → Bool
is_digit b = nat_le 48 b && nat_le b 57

-- the first byte of a decimal is no sign
first-no-sign : (b : ℕ) (digits : List ℕ) (n : ℕ) → n < 2 ^ 64 → decimal n ≡ b ∷ digits → (b == 45) ≡ false
unfolding is_digit
first-no-sign b digits n h is =
    let all = subst (λ ds. list_all is_digit ds ≡ true) is (decimal-all is_digit (λ d small. grind (arith, nat_tests)) n h) in
    let first : (nat_le 48 b && nat_le b 57) ≡ true = (and_parts _ _ all).0 in
    grind (arith, nat_tests)

spelled-decimal : (n : ℕ) → n ≤ 9223372036854775807 → (field : List ℕ) → decimal n ≡ field → signed_of field ≡ Some (pos n)
unfolding signed_of
spelled-decimal n h [] is = absurd (omega (arith, ap length is, decimal_nonempty n (omega arith)))
spelled-decimal n h (b ∷ digits) is =
    rw (first-no-sign b digits n (omega arith) is, sym is, number_of-decimal 9223372036854775807 n h (omega arith)) refl

pub signed_of-signed : (z : ℤ) → FitsSigned w64 z → signed_of (signed_decimal z) ≡ Some z
unfolding signed_of
signed_of-signed (pos n) h = spelled-decimal n (omega (arith, h.sfits)) (decimal n) refl
signed_of-signed (negsuc n) h = rw (number_of-decimal 9223372036854775808 (suc n) (omega (arith, h.sfits)) (omega arith)) refl

negative-spelled : (n : ℕ) (z : ℤ) (digits : List ℕ) → (digits ≡ decimal n) × (n ≤ 9223372036854775808) → negative_of n ≡ Some z → (45 ∷ digits ≡ signed_decimal z) × FitsSigned w64 z
negative-spelled zero z digits h is = absurd cc
negative-spelled (suc n) z digits h is = let e : negsuc n ≡ z = cc in subst (λ y. (45 ∷ digits ≡ signed_decimal y) × FitsSigned w64 y) e (ap (λ ds. 45 ∷ ds) h.0, record { sfits = omega (arith, h.1) })

pub signed_of-spelled : (field : List ℕ) (z : ℤ) → signed_of field ≡ Some z → (field ≡ signed_decimal z) × FitsSigned w64 z
unfolding signed_of
signed_of-spelled [] z h = absurd cc
signed_of-spelled (b ∷ digits) z h =
    some_choice _ _ _ z h (λ test is. option_and_then_some negative_of _ z is (λ n read sign.
    let minus : b ≡ 45 = eqb-true b 45 test in
    rw minus (negative-spelled n z digits (number_of-spelled _ digits n read) sign)))
    (λ test is. mapped pos _ z is (λ n read same.
    let spelled = number_of-spelled _ (b ∷ digits) n read in
    subst (λ y. (b ∷ digits ≡ signed_decimal y) × FitsSigned w64 y) same (spelled.0, record { sfits = omega (arith, spelled.1) })))

pub one_number-spelled : (fields : List (List ℕ)) (n : ℕ) → one_number fields ≡ Some n → fields ≡ decimal n ∷ []
one_number-spelled [] n h = absurd cc
one_number-spelled (field ∷ []) n h = ap (λ f. f ∷ []) (number_of-spelled _ field n h).0
one_number-spelled (field ∷ next ∷ more) n h = absurd cc

pub answers-signed : (field : List ℕ) (answer : Option ℤ) → IfSome answer (λ z. field ≡ signed_decimal z) → IfSome answer (FitsSigned w64) → ((z : ℤ) → FitsSigned w64 z → field ≡ signed_decimal z → answer ≡ Some z) → answer ≡ signed_of field
answers-signed field None found fits only =
    answers_none (signed_of field) (λ z is. let h = signed_of-spelled field z is in let e = only z h.1 h.0 in cc)
answers-signed field (Some z) found fits only = sym (ap signed_of found ∙ signed_of-signed z fits)

-- a number of 32 bits is read
pub small-read : (n : ℕ) → n ≤ 4294967295 → number_of 4294967295 (decimal n) ≡ Some n
small-read n h = number_of-decimal 4294967295 n h (omega arith)

pub two_numbers-spelled : (fields : List (List ℕ)) (pair : ℕ × ℕ) → two_numbers fields ≡ Some pair → fields ≡ decimal pair.0 ∷ decimal pair.1 ∷ []
two_numbers-spelled [] pair h = absurd cc
two_numbers-spelled (field ∷ rest) pair h =
    option_and_then_some _ (number_of 4294967295 field) pair h (λ first is_first h.
    mapped _ (one_number rest) pair h (λ second is_second same.
    ap (λ f. f ∷ rest) (number_of-spelled _ field first is_first).0 ∙ ap (λ fs. decimal first ∷ fs) (one_number-spelled rest second is_second)
    ∙ ap (λ (x : ℕ × ℕ). decimal x.0 ∷ decimal x.1 ∷ []) same))

-- a reader that finds what is spelled, and nothing else, answers what the plain body does
pub reads-number : (most : ℕ) (field : List ℕ) (answer : Option ℕ) → most < 2 ^ 64 → IfSome answer (λ n. (field ≡ decimal n) × (n ≤ most)) → ((n : ℕ) → field ≡ decimal n → n ≤ most → answer ≡ Some n) → answer ≡ number_of most field
reads-number most field None small found only = answers-no-number most field (λ n is fits. none_some (only n is fits))
reads-number most field (Some n) small found only = answers-number most field small n found

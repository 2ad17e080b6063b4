-- What formats write.
use Rattle.std.proofs.Common.{◌≡◌, ℕ, ◌+◌, List, [], ◌∷◌, Bool, true, false, not, ◌&&◌, cond, IsTrue, Option, Some, None, refl, ap, ◌∙◌, arith}
use Rattle.std.specs.List.{list_all, count_by}
use Rattle.std.proofs.lemmas.List.Sums.{sum_by-cons}
use Rattle.cbi_base.specs.Words.{Byte, Conversion, FormatPiece, after_bytes, pieces_of, printed_format, bytes_printed, is_percent, is_conversion, one_conversion_more}
use Rattle.cbi_base.specs.Words.{conversions_of, Objects}
use Rattle.cbi_base.specs.declared.scalar.Scalar.{Scalar}
use Rattle.flow.specs.Laws.{takes_piece}

other_than : (b : ℕ) (rest : Bool) → IsTrue (not (is_percent b) && rest) → (is_percent b ≡ false) × IsTrue rest
other_than b rest h = grind arith

-- the pieces from a byte that isn't `%`
from_byte : (b c : ℕ) (rest : List ℕ) → is_percent b ≡ false → pieces_of (b ∷ c ∷ rest) ≡ Byte b ∷ pieces_of (c ∷ rest)
from_byte b c rest e =
    ap (λ (p : Bool). cond p ((cond (is_conversion c) (Conversion c) (Byte c)) ∷ pieces_of rest) (Byte b ∷ pieces_of (c ∷ rest))) e

pub plain : (format : List ℕ) (values : List Scalar) (o : Objects) → IsTrue (list_all (λ b. not (is_percent b)) format) → printed_format (pieces_of format) values o ≡ bytes_printed format
plain [] values o h = refl
plain (b ∷ []) values o h = refl
plain (b ∷ c ∷ rest) values o h =
    let parts = other_than b (list_all (λ d. not (is_percent d)) (c ∷ rest)) h in
    ap (λ (pieces : List FormatPiece). printed_format pieces values o) (from_byte b c rest parts.0)
    ∙ ap (after_bytes (b ∷ [])) (plain (c ∷ rest) values o parts.1)

taken : (p : FormatPiece) (pieces : List FormatPiece) → count_by takes_piece (p ∷ pieces) ≡ cond (takes_piece p) 1 0 + count_by takes_piece pieces
taken p pieces = sum_by-cons (λ (x : FormatPiece). cond (takes_piece x) 1 0) p pieces

more_is : (found : Option ℕ) (count : ℕ) → one_conversion_more found ≡ Some count → (before : ℕ) × (found ≡ Some before) × (before + 1 ≡ count)
more_is None count e = cc
more_is (Some before) count e = (before, refl, cc)

-- by whether the first byte is `%`, and what the next one is
step : (p q r : Bool) (b c : ℕ) (rest more : List FormatPiece) (in_rest in_more : Option ℕ) (count : ℕ) →
    ((n : ℕ) → in_rest ≡ Some n → count_by takes_piece rest ≡ n) → ((n : ℕ) → in_more ≡ Some n → count_by takes_piece more ≡ n) →
    cond p (cond q (one_conversion_more in_rest) (cond r in_rest None)) in_more ≡ Some count →
    count_by takes_piece (cond p (cond q (Conversion c) (Byte c) ∷ rest) (Byte b ∷ more)) ≡ count
step true true r b c rest more in_rest in_more count of_rest of_more h =
    let m = more_is in_rest count h in
    let e = of_rest m.0 m.1 in
    taken (Conversion c) rest ∙ omega (arith, e, m.2)
step true false true b c rest more in_rest in_more count of_rest of_more h = let e = of_rest count h in taken (Byte c) rest ∙ omega (arith, e)
step true false false b c rest more in_rest in_more count of_rest of_more h = cc
step false q r b c rest more in_rest in_more count of_rest of_more h = let e = of_more count h in taken (Byte b) more ∙ omega (arith, e)

pub counted : (format : List ℕ) (count : ℕ) → conversions_of format ≡ Some count → count_by takes_piece (pieces_of format) ≡ count
counted [] count e = cc
counted (b ∷ []) count e =
    let by_test : (p : Bool) → cond p None (Some 0) ≡ Some count → 0 ≡ count = λ p. elim p as (λ x. cond x None (Some 0) ≡ Some count → 0 ≡ count) [ true ↦ λ h. cc | false ↦ λ h. cc ] in
    taken (Byte b) [] ∙ by_test (is_percent b) e
counted (b ∷ c ∷ rest) count e =
    step (is_percent b) (is_conversion c) (is_percent c) b c (pieces_of rest) (pieces_of (c ∷ rest)) (conversions_of rest) (conversions_of (c ∷ rest)) count
    (counted rest) (counted (c ∷ rest)) e

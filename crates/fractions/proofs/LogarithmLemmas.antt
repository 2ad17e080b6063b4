use Rattle.std.proofs.Common.{◌≡◌, ℕ, zero, suc, ◌+◌, ◌-◌, ◌*◌, ◌%◌, ◌^◌, ◌<◌, ◌≤◌, inl, inr, refl, ap, sym, subst, ◌∙◌, arith}
use Rattle.std.proofs.Math.Nat.{mul-le-mul_right, pow-suc, mod-eq_of_lt}
use Rattle.std.proofs.lemmas.Nat.{pow_pos, shl_whole}
use Rattle.std.proofs.lemmas.Bool.{cases_lt}
use Rattle.fractions.specs.Logarithm.{first_place, rest_of, exponent_of, mantissa_of, logarithm_places, log_of, IsLogarithm, IsMantissa}
use Rattle.fractions.proofs.Exponents.{IsExponent, IsExponent-le, IsExponent-same, exponent_of-is, mantissa-is}
use Rattle.fractions.proofs.Places.{step, Step-place, places-suc, places-below, places-monotone, places-lower, places-upper}

-- the logarithm at any exponent of n
pub log_of-at : (n e : ℕ) → 1 ≤ n → n ≤ 100000 → IsExponent n e → log_of n ≡ e * 65536 + logarithm_places 16 (n * 2 ^ (62 - e))
unfolding log_of
log_of-at n e low high of_n = ap (λ k. k * 65536 + logarithm_places 16 (n * 2 ^ (62 - k))) (IsExponent-same n (exponent_of n) e (exponent_of-is n low high).0 of_n)

pub mantissa_of-is : (n : ℕ) → 1 ≤ n → n ≤ 100000 → IsMantissa n (exponent_of n) (mantissa_of n)
mantissa_of-is n low high =
    let exponent = exponent_of-is n low high in
    mantissa-is n (exponent_of n) exponent.1 exponent.0

pub log_of-near : (n : ℕ) → 1 ≤ n → n ≤ 100000 → IsLogarithm n (log_of n)
unfolding IsLogarithm log_of
log_of-near n low high =
    let mantissa = mantissa_of-is n low high in (
      places-lower 16 (exponent_of n) (mantissa_of n) n mantissa.one_or_more mantissa.below_two (omega (arith, mantissa.whole)),
      places-upper 16 (exponent_of n) (mantissa_of n) n 1 mantissa.one_or_more mantissa.below_two (omega arith) (omega arith)
          (error (mantissa_of n) (n * 2 ^ 62) (2 ^ exponent_of n) (pow_pos (exponent_of n)) mantissa.whole),
    )
  where
    error : (m y p : ℕ) → 0 < p → m * p ≡ y → y < (m + 1) * p
    error m y p positive whole = omega arith

pub log_of-small : (n : ℕ) → 1 ≤ n → n ≤ 100000 → log_of n < 17 * 65536
unfolding log_of
log_of-small n low high = omega (arith, (exponent_of-is n low high).1, places-below 16 (mantissa_of n))

pub log_of-monotone : (m n : ℕ) → 1 ≤ m → m ≤ n → n ≤ 100000 → log_of m ≤ log_of n
unfolding log_of
log_of-monotone m n low order high =
    let of_m = exponent_of-is m low (omega arith) in
    let of_n = exponent_of-is n (omega arith) high in
    elim (cases_lt (exponent_of m) (exponent_of n)) [
      | inl less ↦ omega (arith, less, places-below 16 (mantissa_of m))
      | inr more ↦
          let same : exponent_of n ≡ exponent_of m = omega (arith, more, IsExponent-le m n (exponent_of m) (exponent_of n) order of_m.0 of_n.0) in
          let mantissas : mantissa_of m ≤ n * 2 ^ (62 - exponent_of m) = mul-le-mul_right (2 ^ (62 - exponent_of m)) order in
          subst (λ e. exponent_of m * 65536 + logarithm_places 16 (mantissa_of m) ≤ e * 65536 + logarithm_places 16 (n * 2 ^ (62 - e))) (sym same)
          (omega (arith, places-monotone 16 (mantissa_of m) (n * 2 ^ (62 - exponent_of m)) mantissas))
    ]

-- ---- what the code's shifts give

-- a mantissa is shifted into place without loss
pub record IsStart (n e m : ℕ) : Type 0 where
  pub one_or_more : 2 ^ 62 ≤ m
  pub below_two : m < 2 ^ 63
  pub whole : e * 65536 + logarithm_places 16 m ≡ log_of n

pub start-is : (n e copy : ℕ) → 1 ≤ n → n ≤ 100000 → 2 ^ e ≤ n → n < 2 * 2 ^ e → copy ≡ n → IsStart n e (copy * 2 ^ (62 - e) % 2 ^ 64)
start-is n e copy low high reached next equal =
    let of_n : IsExponent n e = record { reached = reached; next = omega (arith, pow-suc 2 e) } in
    let known = exponent_of-is n low high in
    let same = IsExponent-same n e (exponent_of n) of_n known.0 in
    let mantissa = mantissa-is n e (omega (arith, same, known.1)) of_n in
    let small : n * 2 ^ (62 - e) < 2 ^ 64 = omega (arith, mantissa.below_two) in
    let kept : n * 2 ^ (62 - e) ≡ copy * 2 ^ (62 - e) % 2 ^ 64 = sym (ap (λ k. k * 2 ^ (62 - e) % 2 ^ 64) equal ∙ mod-eq_of_lt small) in
    subst (λ m. IsStart n e m) kept (record { one_or_more = mantissa.one_or_more; below_two = mantissa.below_two; whole = sym (log_of-at n e low high of_n) })

-- a place is shifted into its bit without loss
pub places-step : (count m place rest : ℕ) → 0 < count → count ≤ 16 → place ≡ first_place m → rest ≡ rest_of m
    → logarithm_places count m ≡ place * 2 ^ (count - 1) % 2 ^ 32 + logarithm_places (count - 1) rest
places-step zero m place rest some most is_place is_rest = absurd (omega arith)
places-step (suc before) m place rest some most is_place is_rest =
    let one : place < 2 ^ 1 = omega (arith, is_place, Step-place (step m)) in
    let last : before ≡ suc before - 1 = omega arith in
    let kept : place * 2 ^ before % 2 ^ 32 ≡ place * 2 ^ before = shl_whole place 1 before 32 one (omega arith) in
    subst (λ k. logarithm_places (suc before) m ≡ place * 2 ^ k % 2 ^ 32 + logarithm_places k rest) last
    (places-suc before m ∙ ap (λ p. p + logarithm_places before (rest_of m)) (ap (λ p. p * 2 ^ before) (sym is_place) ∙ sym kept) ∙ ap (λ r. place * 2 ^ before % 2 ^ 32 + logarithm_places before r) (sym is_rest))

pub places-none : (count m : ℕ) → count ≤ 0 → logarithm_places count m ≡ 0
unfolding logarithm_places
places-none zero m none = refl
places-none (suc count) m none = absurd (omega arith)

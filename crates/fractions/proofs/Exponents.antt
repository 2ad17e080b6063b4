use Rattle.std.proofs.Common.{◌≡◌, ℕ, zero, suc, ◌+◌, ◌-◌, ◌*◌, ◌^◌, ◌<◌, ◌≤◌, inl, inr, cond, ap, sym, subst, ◌∙◌, arith}
use Rattle.std.proofs.Math.Nat.{pow-suc, pow-le-pow_right, mul-le-mul_right, mul-lt-mul_of_pos_right, le_antisymm}
use Rattle.std.proofs.lemmas.Nat.{pow-add, pow_pos}
use Rattle.std.proofs.lemmas.Bool.{cases_lt, lt-leb, le-leb}
use Rattle.fractions.specs.Logarithm.{greatest_exponent, exponent_of, IsMantissa}

-- e is the exponent of n
pub record IsExponent (n e : ℕ) : Type 0 where
  pub reached : 2 ^ e ≤ n
  pub next : n < 2 ^ suc e

-- the limit is high enough, so the greatest exponent is the exponent
pub greatest_exponent-is : (limit n : ℕ) → 1 ≤ n → n < 2 ^ suc limit → (IsExponent n (greatest_exponent limit n)) × (greatest_exponent limit n ≤ limit)
unfolding greatest_exponent
greatest_exponent-is zero n low high = (record { reached = low; next = high }, omega arith)
greatest_exponent-is (suc limit) n low high = elim (cases_lt n (2 ^ suc limit)) [
  | inl below ↦
      let same : greatest_exponent (suc limit) n ≡ greatest_exponent limit n = ap (λ b. cond b (suc limit) (greatest_exponent limit n)) (lt-leb (2 ^ suc limit) n below) in
      let rest = greatest_exponent-is limit n low below in
      (subst (λ e. IsExponent n e) (sym same) rest.0, omega (arith, same, rest.1))
  | inr reached ↦
      let same : greatest_exponent (suc limit) n ≡ suc limit = ap (λ b. cond b (suc limit) (greatest_exponent limit n)) (le-leb (2 ^ suc limit) n reached) in
      (subst (λ e. IsExponent n e) (sym same) (record { reached = reached; next = high }), omega (arith, same))
]

-- the exponents of two numbers are in their order
pub IsExponent-le : (m n e f : ℕ) → m ≤ n → IsExponent m e → IsExponent n f → e ≤ f
IsExponent-le m n e f order of_m of_n = elim (cases_lt f e) [
  | inl below ↦ (let powers : 2 ^ suc f ≤ 2 ^ e = pow-le-pow_right {n = 2} (omega arith) {i = suc f} {j = e} below in omega (arith, powers, order, of_m.reached, of_n.next))
  | inr above ↦ above
]

pub IsExponent-same : (n e f : ℕ) → IsExponent n e → IsExponent n f → e ≡ f
IsExponent-same n e f one other = le_antisymm (IsExponent-le n n e f (omega arith) one other) (IsExponent-le n n f e (omega arith) other one)

-- numbers of the ranking have an exponent of at most 16
pub exponent_of-is : (n : ℕ) → 1 ≤ n → n ≤ 100000 → (IsExponent n (exponent_of n)) × (exponent_of n ≤ 16)
exponent_of-is n low high = greatest_exponent-is 16 n low (omega arith)

power_split : (e : ℕ) → e ≤ 62 → 2 ^ e * 2 ^ (62 - e) ≡ 2 ^ 62
power_split e h = let sum : e + (62 - e) ≡ 62 = omega arith in sym (pow-add 2 e (62 - e)) ∙ ap (λ k. 2 ^ k) sum

pub mantissa-is : (n e : ℕ) → e ≤ 16 → IsExponent n e → IsMantissa n e (n * 2 ^ (62 - e))
mantissa-is n e small of_n =
    let split = power_split e (omega arith) in
    let positive = pow_pos (62 - e) in
    record {
      one_or_more = omega (arith, split, mul-le-mul_right (2 ^ (62 - e)) of_n.reached);
      below_two = omega (arith, split, ap (λ p. p * 2 ^ (62 - e)) (pow-suc 2 e), mul-lt-mul_of_pos_right of_n.next positive);
      whole = omega (arith, ap (λ p. n * p) split);
    }

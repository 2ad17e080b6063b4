-- No importance is above the bound.
use Rattle.std.proofs.Common.{◌≡◌, ℕ, ◌+◌, ◌*◌, ◌≤◌, inl, inr, true, false, cond, ap, sym, subst, arith}
use Rattle.std.specs.Prelude.{◌==◌, ◌||◌, min}
use Rattle.std.proofs.Math.Nat.{mul-le-mul_left, mul-le-mul_right}
use Rattle.std.proofs.lemmas.Bool.{cases_eq, eq-eqb, ne_eqb, or_from, or_left, or_right}
use Rattle.fractions.specs.declared.fraction.Fraction.{Fraction}
use Rattle.fractions.specs.declared.tally.Tally.{Tally}
use Rattle.fractions.specs.Fraction.{IsAtMost}
use Rattle.fractions.specs.Logarithm.{log_of}
use Rattle.fractions.specs.Tally.{Passes, harmonic_mean, importance_of, spread_of, surplus_of}
use Rattle.fractions.proofs.Bounds.{positive-part, surplus-le}
use Rattle.fractions.proofs.LogarithmLemmas.{log_of-monotone}
use Rattle.compound.specs.Bound.{bound_of, mean_with_one}

-- The heart: N*l'*k <= N*l*k, since l' <= l, and N*l'*l <= l*l'*D, since N <= D.
products : (n d part l k : ℕ) → part ≤ l → n ≤ d → 2 * n * part * (l + k) ≤ 2 * l * (n * k + part * d)
products n d part l k logs parts =
    let first : n * part * k ≤ n * l * k = mul-le-mul_right k (mul-le-mul_left n logs) in
    let second : n * part * l ≤ l * part * d = omega (arith, mul-le-mul_left (l * part) parts) in
    omega (arith, first, second)

-- both means are 0 where a logarithm is, and else as they are written
pub mean-none : (n d l k : ℕ) → (l == 0) || (k == 0) ≡ true → harmonic_mean n d l k ≡ record { top = 0; bottom = 1 }
mean-none n d l k none = ap (λ b. cond b (record { top = 0; bottom = 1 }) (record { top = 2 * n * l; bottom = n * k + l * d })) none

pub mean-some : (n d l k : ℕ) → (l == 0) || (k == 0) ≡ false → harmonic_mean n d l k ≡ record { top = 2 * n * l; bottom = n * k + l * d }
mean-some n d l k some = ap (λ b. cond b (record { top = 0; bottom = 1 }) (record { top = 2 * n * l; bottom = n * k + l * d })) some

with-one-some : (l k : ℕ) → (l == 0) || (k == 0) ≡ false → mean_with_one l k ≡ record { top = 2 * l; bottom = l + k }
with-one-some l k some = ap (λ b. cond b (record { top = 0; bottom = 1 }) (record { top = 2 * l; bottom = l + k })) some

zero-at-most : (f g : Fraction) → f ≡ record { top = 0; bottom = 1 } → IsAtMost f g
zero-at-most f g is = subst (λ (x : Fraction). IsAtMost x g) (sym is) (omega arith)

pub mean-at-most : (n d part l k : ℕ) → part ≤ l → n ≤ d → IsAtMost (harmonic_mean n d part k) (mean_with_one l k)
mean-at-most n d part l k logs parts =
    elim (cases_eq part 0) [
      | inl none ↦ zero-at-most (harmonic_mean n d part k) (mean_with_one l k) (mean-none n d part k (or_left (part == 0) (k == 0) (eq-eqb part 0 none)))
      | inr some ↦ elim (cases_eq k 0) [
        | inl none ↦ zero-at-most (harmonic_mean n d part k) (mean_with_one l k) (mean-none n d part k (or_right (part == 0) (k == 0) (eq-eqb k 0 none)))
        | inr whole ↦
            let above : l ≡ 0 → ⊥ = λ e. some (omega (arith, e, logs)) in
            subst (λ (x : Fraction). IsAtMost x (mean_with_one l k)) (sym (mean-some n d part k (or_from (part == 0) (k == 0) (ne_eqb part 0 some) (ne_eqb k 0 whole))))
            (subst (λ (x : Fraction). IsAtMost (record { top = 2 * n * part; bottom = n * k + part * d }) x) (sym (with-one-some l k (or_from (l == 0) (k == 0) (ne_eqb l 0 above) (ne_eqb k 0 whole))))
            (products n d part l k logs parts))
      ]
    ]

pub importance-bounded : (t : Tally) (left right failing : ℕ) → Passes t → t.a ≤ left → t.a ≤ right → left ≤ 100000 → IsAtMost (importance_of t failing) (bound_of left right failing)
unfolding importance_of bound_of
importance-bounded t left right failing passes in_left in_right few =
    mean-at-most (surplus_of t) (spread_of t) (log_of t.a) (log_of (min left right)) (log_of failing)
    (log_of-monotone t.a (min left right) (positive-part t.a t.b t.c t.d passes.increases) (omega arith) (omega arith))
    (surplus-le t.a t.b t.c t.d)

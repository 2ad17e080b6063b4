-- The order of importances.
use Rattle.std.proofs.Common.{◌≡◌, ℕ, zero, suc, ◌+◌, ◌*◌, ◌<◌, ◌≤◌, inl, inr, sym, subst, refl, arith}
use Rattle.std.specs.Prelude.{◌==◌}
use Rattle.std.proofs.Math.Nat.{lt_of_mul-lt-mul_right, mul-le-mul, mul-le-mul_right, mul-lt-mul_of_pos_right}
use Rattle.std.proofs.lemmas.Bool.{cases_eq, eq-eqb, ne_eqb, or_from, or_left, or_right}
use Rattle.fractions.specs.declared.fraction.Fraction.{Fraction}
use Rattle.fractions.specs.declared.tally.Tally.{Tally}
use Rattle.fractions.specs.Fraction.{IsAtMost}
use Rattle.fractions.specs.Logarithm.{log_of}
use Rattle.fractions.specs.Tally.{Passes, harmonic_mean, importance_of, spread_of, surplus_of}
use Rattle.fractions.proofs.Bounds.{positive-part}
use Rattle.fractions.proofs.FractionOrder.{cross-trans}
use Rattle.compound.specs.Bound.{IsLess}
use Rattle.compound.proofs.BoundLemmas.{mean-none, mean-some}

pub at-most-trans : (x y z : Fraction) → 0 < y.bottom → IsAtMost x y → IsAtMost y z → IsAtMost x z
at-most-trans x y z positive first next = cross-trans x.top x.bottom y.top y.bottom z.top z.bottom positive first next

pub less-at-most : (x y : Fraction) → IsLess x y → IsAtMost x y
less-at-most x y less = omega (arith, less)

pub not-both : (x y : Fraction) → IsLess x y → IsAtMost y x → ⊥
not-both x y less most = absurd (omega (arith, less, most))

cross-less : (t b u c v d : ℕ) → 0 < b → t * c ≤ u * b → u * d < v * c → t * d < v * b
cross-less t b u c v d positive first next =
    let below : u * d * b < v * c * b = mul-lt-mul_of_pos_right next positive in
    lt_of_mul-lt-mul_right c (omega (arith, below, mul-le-mul_right d first))

pub at-most-less : (x y z : Fraction) → 0 < x.bottom → IsAtMost x y → IsLess y z → IsLess x z
at-most-less x y z positive first next = cross-less x.top x.bottom y.top y.bottom z.top z.bottom positive first next

-- ---- the importance of what passes is a fraction

positive-from : (n : ℕ) → (n ≡ 0 → ⊥) → 1 ≤ n
positive-from zero h = absurd (h refl)
positive-from (suc n) h = omega arith

positive-mean : (n d l k : ℕ) → 1 ≤ d → 0 < (harmonic_mean n d l k).bottom
positive-mean n d l k some =
    elim (cases_eq l 0) [
      | inl none ↦ subst (λ (f : Fraction). 0 < f.bottom) (sym (mean-none n d l k (or_left (l == 0) (k == 0) (eq-eqb l 0 none)))) (omega arith)
      | inr part ↦ elim (cases_eq k 0) [
        | inl none ↦ subst (λ (f : Fraction). 0 < f.bottom) (sym (mean-none n d l k (or_right (l == 0) (k == 0) (eq-eqb k 0 none)))) (omega arith)
        | inr whole ↦
            let product : 1 * 1 ≤ l * d = mul-le-mul (positive-from l part) some in
            subst (λ (f : Fraction). 0 < f.bottom) (sym (mean-some n d l k (or_from (l == 0) (k == 0) (ne_eqb l 0 part) (ne_eqb k 0 whole)))) (omega (arith, product))
      ]
    ]

successful-part : (a b c d : ℕ) → b * c < a * d → 1 ≤ d
successful-part a b c zero less = absurd (omega (arith, less))
successful-part a b c (suc d) less = omega arith

spread-positive : (t : Tally) → Passes t → 1 ≤ spread_of t
spread-positive t passes =
    let left : 1 ≤ t.a + t.b = omega (arith, positive-part t.a t.b t.c t.d passes.increases) in
    let right : 1 ≤ t.c + t.d = omega (arith, successful-part t.a t.b t.c t.d passes.increases) in
    let product : 1 * 1 ≤ (t.a + t.b) * (t.c + t.d) = mul-le-mul left right in
    omega (arith, product)

pub importance-positive : (t : Tally) (failing : ℕ) → Passes t → 0 < (importance_of t failing).bottom
unfolding importance_of
importance-positive t failing passes = positive-mean (surplus_of t) (spread_of t) (log_of t.a) (log_of failing) (spread-positive t passes)

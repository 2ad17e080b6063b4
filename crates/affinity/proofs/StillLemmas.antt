-- A predicate with the same numbers doesn't fall where fewer runs fail: only the logarithm of these changes, and a harmonic mean has it below the line.
use Rattle.std.proofs.Common.{◌≡◌, ℕ, zero, suc, ◌+◌, ◌*◌, ◌/◌, ◌<◌, ◌≤◌, sym, ap, subst, ◌∙◌, arith}
use Rattle.std.proofs.Math.Nat.{div-mul-le_self, mul-le-mul_left, mul-pos}
use Rattle.std.proofs.lemmas.Nat.{le-div}
use Rattle.fractions.specs.declared.fraction.Fraction.{Fraction}
use Rattle.fractions.specs.declared.tally.Tally.{Tally}
use Rattle.fractions.specs.Fraction.{millionths_of}
use Rattle.fractions.specs.Logarithm.{log_of}
use Rattle.fractions.specs.Tally.{Passes, harmonic_mean, importance_of, spread_of, surplus_of}
use Rattle.fractions.proofs.Bounds.{positive-part}
use Rattle.fractions.proofs.LogarithmLemmas.{log_of-monotone}
use Rattle.elimination_tallies.proofs.SurpassedLemmas.{mean-is}
use Rattle.affinity.specs.Falls.{IsFall, Scores}

-- a quotient is no smaller where the divisor is smaller
smaller-divisor : (n d e : ℕ) → 0 < e → e ≤ d → n / d ≤ n / e
smaller-divisor n d e positive less = le-div (n / d) n e positive (omega (arith, mul-le-mul_left (n / d) less, div-mul-le_self n d))

more : (l j : ℕ) → suc l ≤ j → 0 < j
more l j low = omega (arith, low)

-- nor is a harmonic mean
mean-rises : (n d l k j : ℕ) → 0 < n → l ≤ j → j ≤ k → millionths_of (harmonic_mean n d l k) ≤ millionths_of (harmonic_mean n d l j)
mean-rises n d zero k j some low high = omega arith
mean-rises n d (suc l) k j some low high =
    let before = mean-is n d (suc l) k (omega arith) (omega (arith, low, high)) in
    let after = mean-is n d (suc l) j (omega arith) (omega (arith, low)) in
    let bottom : 0 < n * j + suc l * d = omega (arith, mul-pos some (more l j low)) in
    let less = smaller-divisor (2 * n * suc l * 1000000) (n * k + suc l * d) (n * j + suc l * d) bottom (omega (arith, mul-le-mul_left n high)) in
    subst (λ (x : Fraction). millionths_of x ≤ millionths_of (harmonic_mean n d (suc l) j)) (sym before) (subst (λ (x : Fraction). 2 * n * suc l * 1000000 / (n * k + suc l * d) ≤ millionths_of x) (sym after) less)

importance-rises : (t : Tally) (failing left : ℕ) → Passes t → t.a ≤ left → left ≤ failing → failing ≤ 100000 → millionths_of (importance_of t failing) ≤ millionths_of (importance_of t left)
unfolding importance_of
importance-rises t failing left passes own less few =
    let some : 1 ≤ t.a = positive-part t.a t.b t.c t.d passes.increases in
    mean-rises (surplus_of t) (spread_of t) (log_of t.a) (log_of failing) (log_of left) (omega (arith, passes.increases)) (log_of-monotone t.a left some own (omega (arith, less, few))) (log_of-monotone left failing (omega (arith, some, own)) less few)

pub still-none : (count p : ℕ) (whole left : Scores) (q : ℕ) → whole.numbers q ≡ left.numbers q → (left.numbers q).a ≤ left.failing → left.failing ≤ whole.failing → whole.failing ≤ 100000
    → (fall : ℕ) → IsFall count p whole left q fall → 0 < fall → ⊥
still-none count p whole left q same own less few fall is some =
    let rest = is.rest_is.passing (subst Passes same is.passes) ∙ ap (λ (t : Tally). millionths_of (importance_of t left.failing)) (sym same) in
    let rises = importance-rises (whole.numbers q) whole.failing left.failing is.passes (omega (arith, own, ap (λ (t : Tally). t.a) same)) less few in
    omega (arith, some, is.fall_is, rest, rises)

-- A predicate that was true in no more failing runs than another one, and with no greater Increase, has no greater importance.
use Rattle.std.proofs.Common.{◌≡◌, ℕ, zero, suc, ◌+◌, ◌*◌, ◌^◌, ◌<◌, ◌≤◌, ◌==◌, ◌||◌, cond, inl, inr, List, length, refl, sym, ap, subst, ◌∙◌, arith}
use Rattle.std.proofs.Math.Nat.{mul-le-mul, mul-le-mul_left, mul-pos}
use Rattle.std.proofs.lemmas.Bool.{cases_eq, cases_lt, eq-eqb, ne_eqb}
use Rattle.std.proofs.lemmas.List.{get_or_past}
use Rattle.std.proofs.lemmas.Option.{slice_get-get_or}
use Rattle.fractions.specs.declared.fraction.Fraction.{Fraction}
use Rattle.fractions.specs.declared.tally.Tally.{Tally}
use Rattle.fractions.specs.Fraction.{IsAtMost, IsFraction}
use Rattle.fractions.specs.Logarithm.{IsLogarithm, log_of}
use Rattle.fractions.specs.Tally.{IsTally, Passes, harmonic_mean, importance_of, spread_of, surplus_of}
use Rattle.fractions.proofs.Bounds.{positive-part}
use Rattle.fractions.proofs.LogarithmLemmas.{log_of-monotone, log_of-near, log_of-small}
use Rattle.elimination_tallies.specs.Scanning.{AreScanned, tally_at}
use Rattle.elimination_tallies.specs.Surpassing.{IsNoGreater}

abbrev none : Fraction
none = record { top = 0; bottom = 1 }

abbrev pub mean : ℕ → ℕ → ℕ → ℕ → Fraction
mean n d l k = record { top = 2 * n * l; bottom = n * k + l * d }

mean-part : (n d l k : ℕ) → l ≡ 0 → harmonic_mean n d l k ≡ none
mean-part n d l k is = ap (λ b. cond (b || (k == 0)) none (mean n d l k)) (eq-eqb l 0 is)

mean-whole : (n d l k : ℕ) → 0 < l → k ≡ 0 → harmonic_mean n d l k ≡ none
mean-whole n d l k some is = ap (λ b. cond (b || (k == 0)) none (mean n d l k)) (ne_eqb l 0 (λ same. omega (arith, same, some))) ∙ ap (λ b. cond b none (mean n d l k)) (eq-eqb k 0 is)

pub mean-is : (n d l k : ℕ) → 0 < l → 0 < k → harmonic_mean n d l k ≡ mean n d l k
mean-is n d l k some whole = ap (λ b. cond (b || (k == 0)) none (mean n d l k)) (ne_eqb l 0 (λ is. omega (arith, is, some))) ∙ ap (λ b. cond b none (mean n d l k)) (ne_eqb k 0 (λ is. omega (arith, is, whole)))

none-most : (x : Fraction) → IsAtMost none x
none-most x = omega arith

not-none : (x : ℕ) → (x ≡ 0 → ⊥) → 0 < x
not-none zero not = absurd (not refl)
not-none (suc x) not = omega arith

-- the products on both sides, with one over the other
products : (n d l m e j k : ℕ) → l ≤ j → n * e ≤ m * d → 2 * n * l * (m * k + j * e) ≤ 2 * m * j * (n * k + l * d)
products n d l m e j k logs parts =
    let first : n * m * k * l ≤ n * m * k * j = mul-le-mul_left (n * m * k) logs in
    let second : l * j * (n * e) ≤ l * j * (m * d) = mul-le-mul_left (l * j) parts in
    omega (arith, first, second)

-- the harmonic mean grows with both parts
means : (n d l m e j k : ℕ) → l ≤ j → n * e ≤ m * d → IsAtMost (harmonic_mean n d l k) (harmonic_mean m e j k)
means n d l m e j k logs parts =
    elim (cases_eq l 0) [
      | inl part ↦ subst (λ (x : Fraction). IsAtMost x (harmonic_mean m e j k)) (sym (mean-part n d l k part)) (none-most (harmonic_mean m e j k))
      | inr some ↦ elim (cases_eq k 0) [
        | inl whole ↦ subst (λ (x : Fraction). IsAtMost x (harmonic_mean m e j k)) (sym (mean-whole n d l k (not-none l some) whole)) (none-most (harmonic_mean m e j k))
        | inr more ↦
            let low = not-none l some in
            let one = mean-is n d l k low (not-none k more) in
            let other = mean-is m e j k (omega (arith, low, logs)) (not-none k more) in
            subst (λ (x : Fraction). IsAtMost x (harmonic_mean m e j k)) (sym one) (subst (λ (x : Fraction). IsAtMost (mean n d l k) x) (sym other) (products n d l m e j k logs parts))
      ]
    ]

-- one failing run has no logarithm
power-one : (l : ℕ) → 2 ^ l ≤ 1 → l ≡ 0
power-one l small = omega (arith, small, above l)
  where
    above : (l : ℕ) → l < 2 ^ l
    above zero = omega arith
    above (suc l) = omega (arith, above l)

log-one : log_of 1 ≡ 0
unfolding IsLogarithm
log-one = power-one (log_of 1) (log_of-near 1 (omega arith) (omega arith)).0

pub surpassed : (t other : Tally) (failing : ℕ) → IsTally other → other.c ≤ failing → failing ≤ 100000 → Passes t → Passes other → IsNoGreater t other → IsAtMost (importance_of t failing) (importance_of other failing)
unfolding importance_of
surpassed t other failing tally observed few passes best is =
    let some : 1 ≤ t.a = positive-part t.a t.b t.c t.d passes.increases in
    elim (cases_lt 1 t.a) [
      | inl more ↦ means (surplus_of t) (spread_of t) (log_of t.a) (surplus_of other) (spread_of other) (log_of other.a) (log_of failing) (log_of-monotone t.a other.a some (is.fewer more) (omega (arith, tally.failing, observed, few))) (is.increase more)
      | inr one ↦
          let none_is : log_of t.a ≡ 0 = ap log_of (omega (arith, some, one)) ∙ log-one in
          subst (λ (x : Fraction). IsAtMost x (harmonic_mean (surplus_of other) (spread_of other) (log_of other.a) (log_of failing))) (sym (mean-part (surplus_of t) (spread_of t) (log_of t.a) (log_of failing) none_is))
          (none-most (harmonic_mean (surplus_of other) (spread_of other) (log_of other.a) (log_of failing)))
    ]

-- the bounds of an importance
small : (a b : ℕ) → a ≤ 100000 → b ≤ 100000 → a * b ≤ 10 ^ 10
small a b one other = mul-le-mul one other

mean-fraction : (n d l k : ℕ) → 0 < n → n ≤ 10 ^ 10 → d ≤ 10 ^ 10 → l < 17 * 65536 → k < 17 * 65536 → IsFraction (harmonic_mean n d l k)
mean-fraction n d l k some top bottom part whole =
    let log : l ≤ 1114112 = omega (arith, part) in
    let all : k ≤ 1114112 = omega (arith, whole) in
    let nl : n * l ≤ 10 ^ 10 * 1114112 = mul-le-mul top log in
    let nk : n * k ≤ 10 ^ 10 * 1114112 = mul-le-mul top all in
    let ld : l * d ≤ 1114112 * 10 ^ 10 = mul-le-mul log bottom in
    let none_is : IsFraction none = record { positive = omega arith; small_top = omega arith; small_bottom = omega arith } in
    elim (cases_eq l 0) [
      | inl is ↦ subst IsFraction (sym (mean-part n d l k is)) none_is
      | inr low ↦ elim (cases_eq k 0) [
        | inl is ↦ subst IsFraction (sym (mean-whole n d l k (not-none l low) is)) none_is
        | inr more ↦
            let positive = mul-pos some (not-none k more) in
            subst IsFraction (sym (mean-is n d l k (not-none l low) (not-none k more))) (record {
              positive = omega (arith, positive);
              small_top = omega (arith, nl);
              small_bottom = omega (arith, nk, ld);
            })
      ]
    ]

pub is-fraction : (t : Tally) (failing : ℕ) → IsTally t → t.c ≤ failing → failing ≤ 100000 → Passes t → IsFraction (importance_of t failing)
unfolding importance_of
is-fraction t failing tally observed few passes =
    let some : 1 ≤ t.a = positive-part t.a t.b t.c t.d passes.increases in
    let high : t.a ≤ 100000 = omega (arith, tally.failing, tally.runs) in
    let top : surplus_of t ≤ 10 ^ 10 = omega (arith, small t.a t.d high (omega (arith, tally.runs))) in
    let bottom : spread_of t ≤ 10 ^ 10 = small (t.a + t.b) (t.c + t.d) (omega (arith, tally.failing, tally.successful, tally.runs)) tally.runs in
    mean-fraction (surplus_of t) (spread_of t) (log_of t.a) (log_of failing) (omega (arith, passes.increases)) top bottom (log_of-small t.a some high) (log_of-small failing (omega (arith, some, tally.failing, observed)) few)

-- what is scanned at a number, also behind the last one
pub scanned-at : (tallies : List Tally) (failing q : ℕ) → AreScanned tallies failing → IsTally (tally_at tallies q) × ((tally_at tallies q).c ≤ failing)
scanned-at tallies failing q scanned =
    let zeros : Tally = record { a = 0; b = 0; c = 0; d = 0 } in
    elim (cases_lt q (length tallies)) [
      | inl inside ↦ scanned q (tally_at tallies q) (slice_get-get_or tallies q zeros inside)
      | inr outside ↦ subst (λ (t : Tally). IsTally t × (t.c ≤ failing)) (sym (get_or_past tallies q zeros outside)) (record { failing = omega arith; successful = omega arith; runs = omega arith }, omega arith)
    ]

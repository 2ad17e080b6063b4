-- The leader so far, one predicate on.
use Rattle.std.proofs.Common.{◌≡◌, ℕ, ◌+◌, ◌<◌, ◌⊎◌, inl, inr, sym, subst, arith}
use Rattle.std.proofs.lemmas.Bool.{cases_order}
use Rattle.fractions.specs.declared.fraction.Fraction.{Fraction}
use Rattle.fractions.specs.declared.tally.Tally.{Tally}
use Rattle.fractions.specs.Fraction.{IsAtMost, IsFraction}
use Rattle.fractions.specs.Tally.{Passes, importance_of}
use Rattle.fractions.proofs.FractionOrder.{cross-trans}
use Rattle.elimination_tallies.specs.Leading.{Leads, NonePass}

at-most-trans : (x y z : Fraction) → IsFraction y → IsAtMost x y → IsAtMost y z → IsAtMost x z
at-most-trans x y z f first next = cross-trans x.top x.bottom y.top y.bottom z.top z.bottom f.positive first next

pub at-most-refl : (x : Fraction) → IsAtMost x x
at-most-refl x = omega arith

-- the passing predicates below a number have fractions
abbrev pub AreFractions : (ℕ → Tally) → ℕ → ℕ → Type 0
AreFractions numbers count failing = (q : ℕ) → q < count → Passes (numbers q) → IsFraction (importance_of (numbers q) failing)

below-cases : (q k : ℕ) → q < k + 1 → (q < k) ⊎ (q ≡ k)
below-cases q k h = elim (cases_order q k) [ inl same ↦ inr same | inr (inl less) ↦ inl less | inr (inr more) ↦ absurd (omega arith) ]

pub fractions-more : (numbers : ℕ → Tally) (k failing : ℕ) → AreFractions numbers k failing → (Passes (numbers k) → IsFraction (importance_of (numbers k) failing)) → AreFractions numbers (k + 1) failing
fractions-more numbers k failing before here q less passes =
    elim (below-cases q k less) [
      | inl below ↦ before q below passes
      | inr same ↦ subst (λ (n : ℕ). IsFraction (importance_of (numbers n) failing)) (sym same) (here (subst (λ (n : ℕ). Passes (numbers n)) same passes))
    ]

pub none-more : (numbers : ℕ → Tally) (k : ℕ) → NonePass numbers k → (Passes (numbers k) → ⊥) → NonePass numbers (k + 1)
none-more numbers k before here q less passes =
    elim (below-cases q k less) [ inl below ↦ before q below passes | inr same ↦ here (subst (λ (n : ℕ). Passes (numbers n)) same passes) ]

pub first-leads : (numbers : ℕ → Tally) (k failing : ℕ) → NonePass numbers k → Passes (numbers k) → Leads numbers (k + 1) failing k
first-leads numbers k failing none passes = record {
  is_one = omega arith;
  passes = passes;
  greatest = λ q less other. elim (below-cases q k less) [
    | inl below ↦ absurd (none q below other)
    | inr same ↦ subst (λ (n : ℕ). IsAtMost (importance_of (numbers n) failing) (importance_of (numbers k) failing)) (sym same) (at-most-refl (importance_of (numbers k) failing))
  ];
  first = λ q less other _. elim (below-cases q k less) [ inl below ↦ absurd (none q below other) | inr same ↦ omega arith ];
}

pub leads-on : (numbers : ℕ → Tally) (k failing b : ℕ) → Leads numbers k failing b → (Passes (numbers k) → IsAtMost (importance_of (numbers k) failing) (importance_of (numbers b) failing)) → Leads numbers (k + 1) failing b
leads-on numbers k failing b leads here = record {
  is_one = omega (arith, leads.is_one);
  passes = leads.passes;
  greatest = λ q less passes. elim (below-cases q k less) [
    | inl below ↦ leads.greatest q below passes
    | inr same ↦ subst (λ (n : ℕ). IsAtMost (importance_of (numbers n) failing) (importance_of (numbers b) failing)) (sym same) (here (subst (λ (n : ℕ). Passes (numbers n)) same passes))
  ];
  first = λ q less passes most. elim (below-cases q k less) [
    | inl below ↦ leads.first q below passes most
    | inr same ↦ omega (arith, leads.is_one)
  ];
}

pub leads-instead : (numbers : ℕ → Tally) (k failing b : ℕ) → AreFractions numbers k failing → Leads numbers k failing b → Passes (numbers k) → IsAtMost (importance_of (numbers b) failing) (importance_of (numbers k) failing) → (IsAtMost (importance_of (numbers k) failing) (importance_of (numbers b) failing) → ⊥)
    → Leads numbers (k + 1) failing k
leads-instead numbers k failing b fractions leads passes less strictly = record {
  is_one = omega arith;
  passes = passes;
  greatest = λ q below other. elim (below-cases q k below) [
    | inl earlier ↦ at-most-trans (importance_of (numbers q) failing) (importance_of (numbers b) failing) (importance_of (numbers k) failing) (fractions b leads.is_one leads.passes) (leads.greatest q earlier other) less
    | inr same ↦ subst (λ (n : ℕ). IsAtMost (importance_of (numbers n) failing) (importance_of (numbers k) failing)) (sym same) (at-most-refl (importance_of (numbers k) failing))
  ];
  first = λ q below other most. elim (below-cases q k below) [
    | inl earlier ↦ absurd (strictly (at-most-trans (importance_of (numbers k) failing) (importance_of (numbers q) failing) (importance_of (numbers b) failing) (fractions q earlier other) most (leads.greatest q earlier other)))
    | inr same ↦ omega arith
  ];
}

-- over numbers that are the same below the count
pub leads-same : (numbers others : ℕ → Tally) (count failing b : ℕ) → ((q : ℕ) → q < count → numbers q ≡ others q) → Leads numbers count failing b → Leads others count failing b
leads-same numbers others count failing b same leads = record {
  is_one = leads.is_one;
  passes = subst Passes (same b leads.is_one) leads.passes;
  greatest = λ q less passes.
      subst (λ (t : Tally). IsAtMost (importance_of t failing) (importance_of (others b) failing)) (same q less)
      (subst (λ (t : Tally). IsAtMost (importance_of (numbers q) failing) (importance_of t failing)) (same b leads.is_one) (leads.greatest q less (subst Passes (sym (same q less)) passes)));
  first = λ q less passes most.
      leads.first q less (subst Passes (sym (same q less)) passes)
      (subst (λ (t : Tally). IsAtMost (importance_of t failing) (importance_of (numbers q) failing)) (sym (same b leads.is_one))
      (subst (λ (t : Tally). IsAtMost (importance_of (others b) failing) (importance_of t failing)) (sym (same q less)) most));
}

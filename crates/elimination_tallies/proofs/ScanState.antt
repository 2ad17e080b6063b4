-- What a scan knows of the predicates below a number.
use Rattle.std.proofs.Common.{◌≡◌, ℕ, ◌+◌, ◌*◌, inl, inr, cond, Option, None, Some, sym, subst, ◌∙◌, arith}
use Rattle.std.specs.Prelude.{◌≤◌, IfSome, MatchOption}
use Rattle.std.proofs.lemmas.Bool.{cases_Bool, ltb-true, ltb-false, cond-true, cond-false}
use Rattle.fractions.specs.declared.fraction.Fraction.{Fraction}
use Rattle.fractions.specs.declared.tally.Tally.{Tally}
use Rattle.fractions.specs.Fraction.{IsAtMost}
use Rattle.fractions.specs.Tally.{IsTally, Passes, importance_of}
use Rattle.elimination_tallies.specs.declared.scan.Candidate.{Candidate}
use Rattle.elimination_tallies.specs.Leading.{Leads, NonePass}
use Rattle.elimination_tallies.specs.Scanning.{IsCandidate, is_greater_fraction}
use Rattle.elimination_tallies.specs.Surpassing.{CannotLead, IsNoGreater}
use Rattle.elimination_tallies.proofs.SurpassedLemmas.{surpassed}
use Rattle.elimination_tallies.proofs.ScanLemmas.{AreFractions, first-leads, leads-instead, leads-on, none-more}

-- the best so far leads those below
pub record IsBest (numbers : ℕ → Tally) (count failing : ℕ) (b : Candidate) : Type 0 where
  pub leads : Leads numbers count failing b.predicate
  pub is : IsCandidate b.predicate (numbers b.predicate) failing b

abbrev pub BestSoFar : (ℕ → Tally) → ℕ → ℕ → Option Candidate → Type 0
BestSoFar numbers count failing None = NonePass numbers count
BestSoFar numbers count failing (Some b) = IsBest numbers count failing b

-- a predicate that doesn't pass
pub passed-over : (best : Option Candidate) (numbers : ℕ → Tally) (k failing : ℕ) → BestSoFar numbers k failing best → (Passes (numbers k) → ⊥) → BestSoFar numbers (k + 1) failing best
passed-over None numbers k failing so_far not_here = none-more numbers k so_far not_here
passed-over (Some b) numbers k failing so_far not_here = record { leads = leads-on numbers k failing b.predicate so_far.leads (λ passes. absurd (not_here passes)); is = so_far.is }

next-best : (numbers : ℕ → Tally) (k failing : ℕ) (b next new : Candidate) → AreFractions numbers k failing → IsBest numbers k failing b → IsCandidate k (numbers k) failing next → new ≡ cond (is_greater_fraction next.importance b.importance) next b → IsBest numbers (k + 1) failing new
next-best numbers k failing b next new fractions best here is =
    elim (cases_Bool (is_greater_fraction next.importance b.importance)) [
      | inl more ↦
          let less = ltb-true (b.importance.top * next.importance.bottom) (next.importance.top * b.importance.bottom) more in
          let there : k ≡ next.predicate = sym here.predicate_is in
          let to_next : IsAtMost (importance_of (numbers b.predicate) failing) (importance_of (numbers k) failing) =
          subst (λ (x : Fraction). IsAtMost x (importance_of (numbers k) failing)) best.is.importance_is (subst (λ (x : Fraction). IsAtMost b.importance x) here.importance_is (omega arith)) in
          let strictly : IsAtMost (importance_of (numbers k) failing) (importance_of (numbers b.predicate) failing) → ⊥ = λ most.
          let back : IsAtMost next.importance b.importance =
          subst (λ (x : Fraction). IsAtMost x b.importance) (sym here.importance_is) (subst (λ (x : Fraction). IsAtMost (importance_of (numbers k) failing) x) (sym best.is.importance_is) most) in
          omega arith in
          let leads = leads-instead numbers k failing b.predicate fractions best.leads here.passes to_next strictly in
          let now : IsBest numbers (k + 1) failing next = record {
            leads = subst (Leads numbers (k + 1) failing) there leads;
            is = subst (λ (n : ℕ). IsCandidate n (numbers n) failing next) there here;
          } in
          subst (IsBest numbers (k + 1) failing) (sym (is ∙ cond-true (is_greater_fraction next.importance b.importance) next b more)) now
      | inr most ↦
          let less = ltb-false (b.importance.top * next.importance.bottom) (next.importance.top * b.importance.bottom) most in
          let to_best : IsAtMost (importance_of (numbers k) failing) (importance_of (numbers b.predicate) failing) =
          subst (λ (x : Fraction). IsAtMost x (importance_of (numbers b.predicate) failing)) here.importance_is (subst (λ (x : Fraction). IsAtMost next.importance x) best.is.importance_is (omega arith)) in
          let now : IsBest numbers (k + 1) failing b = record { leads = leads-on numbers k failing b.predicate best.leads (λ _. to_best); is = best.is } in
          subst (IsBest numbers (k + 1) failing) (sym (is ∙ cond-false (is_greater_fraction next.importance b.importance) next b most)) now
    ]

-- one that can't lead
pub behind-best : (best : Option Candidate) (numbers : ℕ → Tally) (k failing : ℕ) → ((q : ℕ) → IsTally (numbers q) × ((numbers q).c ≤ failing)) → failing ≤ 100000 → BestSoFar numbers k failing best → CannotLead (numbers k) best → BestSoFar numbers (k + 1) failing best
behind-best None numbers k failing tallies few so_far behind = none-more numbers k so_far behind
behind-best (Some b) numbers k failing tallies few so_far behind =
    let best = numbers b.predicate in
    record {
      leads = leads-on numbers k failing b.predicate so_far.leads
          (λ passes. surpassed (numbers k) best failing (tallies b.predicate).0 (tallies b.predicate).1 few passes so_far.leads.passes (subst (λ (t : Tally). IsNoGreater (numbers k) t) so_far.is.tally_is (behind passes)));
      is = so_far.is;
    }

-- the best so far has the numbers of a predicate
pub best-tally : (best : Option Candidate) (numbers : ℕ → Tally) (k failing : ℕ) → ((q : ℕ) → IsTally (numbers q) × ((numbers q).c ≤ failing)) → BestSoFar numbers k failing best → IfSome best (λ b. IsTally b.tally)
best-tally None numbers k failing tallies so_far = tt
best-tally (Some b) numbers k failing tallies so_far = subst IsTally (sym so_far.is.tally_is) (tallies b.predicate).0

-- one that passes
pub looked-at : (best : Option Candidate) (numbers : ℕ → Tally) (k failing : ℕ) (next new : Candidate) → AreFractions numbers k failing → BestSoFar numbers k failing best → IsCandidate k (numbers k) failing next
    → MatchOption best (new ≡ next) (λ b. new ≡ cond (is_greater_fraction next.importance b.importance) next b) → BestSoFar numbers (k + 1) failing (Some new)
looked-at None numbers k failing next new fractions so_far here is =
    let there : k ≡ next.predicate = sym here.predicate_is in
    let now : IsBest numbers (k + 1) failing next = record {
      leads = subst (Leads numbers (k + 1) failing) there (first-leads numbers k failing so_far here.passes);
      is = subst (λ (n : ℕ). IsCandidate n (numbers n) failing next) there here;
    } in
    subst (IsBest numbers (k + 1) failing) (sym is) now
looked-at (Some b) numbers k failing next new fractions so_far here is = next-best numbers k failing b next new fractions so_far here is

-- The order of predicates is strict and total.
use Rattle.std.proofs.Common.{◌≡◌, ◌≢◌, ◌⊎◌, ℕ, ◌+◌, ◌*◌, ◌<◌, ◌≤◌, inl, inr, ⊎_elim, sym, subst, arith}
use Rattle.std.proofs.lemmas.Bool.{cases_eq, cases_order}
use Rattle.fractions.specs.declared.fraction.Fraction.{Fraction}
use Rattle.fractions.proofs.FractionOrder.{cross-trans}
use Rattle.association.specs.declared.contingency.Contingency.{Contingency}
use Rattle.association.specs.declared.suspect.Suspect.{Suspect}
use Rattle.association.specs.Order.{IsBetter, IsEarlier, IsLessOr, IsWeakerOr, rank_of, table_of}
use Rattle.association.specs.Strength.{excess_of, margins_of, strength_of}
use Rattle.association.proofs.Shares.{part-none, part-some}

-- laws of one step
never-itself : (m : ℕ) (Rest : Type 0) → (Rest → ⊥) → IsLessOr m m Rest → ⊥
never-itself m Rest none or = ⊎_elim (λ (less : m < m). absurd (omega (arith, less))) (λ (both : (m ≡ m) × Rest). none both.1) or

through : (x y z : ℕ) (R S T : Type 0) → (R → S → T) → IsLessOr x y R → IsLessOr y z S → IsLessOr x z T
through x y z R S T more one other =
    ⊎_elim (λ (less : x < y). ⊎_elim (λ (then : y < z). inl (omega (arith, less, then))) (λ (same : (y ≡ z) × S). inl (omega (arith, less, same.0))) other)
    (λ (same : (x ≡ y) × R). ⊎_elim (λ (then : y < z). inl (omega (arith, same.0, then))) (λ (both : (y ≡ z) × S). inr (omega (arith, same.0, both.0), more same.1 both.1)) other) one

one-way : (x y : ℕ) (R S : Type 0) → (R ⊎ S) → IsLessOr x y R ⊎ IsLessOr y x S
one-way x y R S rest =
    elim (cases_order x y) [
      | inl same ↦ ⊎_elim (λ (r : R). inl (inr (same, r))) (λ (s : S). inr (inr (sym same, s))) rest
      | inr (inl less) ↦ inl (inl less)
      | inr (inr more) ↦ inr (inl more)
    ]

earlier-never-itself : (p : Suspect) → IsEarlier p p → ⊥
earlier-never-itself p =
    never-itself p.tally.a (IsLessOr (p.tally.c + p.tally.d) (p.tally.c + p.tally.d) (IsLessOr (rank_of p.scheme) (rank_of p.scheme) (p.predicate < p.predicate)))
    (never-itself (p.tally.c + p.tally.d) (IsLessOr (rank_of p.scheme) (rank_of p.scheme) (p.predicate < p.predicate))
    (never-itself (rank_of p.scheme) (p.predicate < p.predicate) (λ less. omega (arith, less))))

abbrev by_scheme : Suspect → Suspect → Type 0
by_scheme p q = IsLessOr (rank_of p.scheme) (rank_of q.scheme) (p.predicate < q.predicate)

abbrev by_runs : Suspect → Suspect → Type 0
by_runs p q = IsLessOr (q.tally.c + q.tally.d) (p.tally.c + p.tally.d) (by_scheme p q)

number-through : (p q r : ℕ) → p < q → q < r → p < r
number-through p q r one other = omega arith

scheme-through : (p q r : Suspect) → by_scheme p q → by_scheme q r → by_scheme p r
scheme-through p q r =
    through (rank_of p.scheme) (rank_of q.scheme) (rank_of r.scheme) (p.predicate < q.predicate) (q.predicate < r.predicate) (p.predicate < r.predicate) (number-through p.predicate q.predicate r.predicate)

runs-through : (p q r : Suspect) → by_runs p q → by_runs q r → by_runs p r
runs-through p q r one other =
    through (r.tally.c + r.tally.d) (q.tally.c + q.tally.d) (p.tally.c + p.tally.d) (by_scheme q r) (by_scheme p q) (by_scheme p r) (λ x y. scheme-through p q r y x) other one

earlier-through : (p q r : Suspect) → IsEarlier p q → IsEarlier q r → IsEarlier p r
earlier-through p q r one other = through r.tally.a q.tally.a p.tally.a (by_runs q r) (by_runs p q) (by_runs p r) (λ x y. runs-through p q r y x) other one

turned : (P Q : Type 0) → P ⊎ Q → Q ⊎ P
turned P Q or = ⊎_elim (λ (p : P). inr p) (λ (q : Q). inl q) or

number-or : (p q : ℕ) → p ≢ q → (p < q) ⊎ (q < p)
number-or p q other = elim (cases_order p q) [ inl same ↦ absurd (other same) | inr (inl less) ↦ inl less | inr (inr more) ↦ inr more ]

earlier-or : (p q : Suspect) → p.predicate ≢ q.predicate → IsEarlier p q ⊎ IsEarlier q p
earlier-or p q other =
    let scheme : by_scheme p q ⊎ by_scheme q p = one-way (rank_of p.scheme) (rank_of q.scheme) (p.predicate < q.predicate) (q.predicate < p.predicate) (number-or p.predicate q.predicate other) in
    let runs : by_runs q p ⊎ by_runs p q = one-way (p.tally.c + p.tally.d) (q.tally.c + q.tally.d) (by_scheme q p) (by_scheme p q) (turned (by_scheme p q) (by_scheme q p) scheme) in
    turned (IsEarlier q p) (IsEarlier p q) (one-way p.tally.a q.tally.a (by_runs q p) (by_runs p q) runs)

-- strengths have positive bottoms
strength-positive : (t : Contingency) → 0 < (strength_of t).bottom
strength-positive t =
    elim (cases_eq (margins_of t) 0) [
      | inl zero_is ↦ subst (λ (f : Fraction). 0 < f.bottom) (sym (part-none (excess_of t) (margins_of t) zero_is)) (omega arith)
      | inr some ↦
          let more : 0 < margins_of t = omega (arith, some) in
          subst (λ (f : Fraction). 0 < f.bottom) (sym (part-some (excess_of t) (margins_of t) more)) more
    ]

-- of three fractions with positive bottoms
still-less : (p q r : Fraction) → 0 < r.bottom → q.top * p.bottom < p.top * q.bottom → r.top * q.bottom ≤ q.top * r.bottom → (p.top * r.bottom ≤ r.top * p.bottom → ⊥)
still-less p q r positive less most back = omega (arith, less, cross-trans p.top p.bottom r.top r.bottom q.top q.bottom positive back most)

less-still : (p q r : Fraction) → 0 < p.bottom → q.top * p.bottom ≤ p.top * q.bottom → r.top * q.bottom < q.top * r.bottom → (p.top * r.bottom ≤ r.top * p.bottom → ⊥)
less-still p q r positive most less back = omega (arith, less, cross-trans q.top q.bottom p.top p.bottom r.top r.bottom positive most back)

above : (x y : ℕ) → (y ≤ x → ⊥) → x < y
above x y none = elim (cases_order x y) [ inl same ↦ absurd (none (omega (arith, same))) | inr (inl less) ↦ less | inr (inr more) ↦ absurd (none (omega (arith, more))) ]

same-through : (p q r : Fraction) → 0 < q.bottom → q.top * p.bottom ≡ p.top * q.bottom → r.top * q.bottom ≡ q.top * r.bottom → r.top * p.bottom ≡ p.top * r.bottom
same-through p q r positive one other =
    let down : r.top * p.bottom ≤ p.top * r.bottom = cross-trans r.top r.bottom q.top q.bottom p.top p.bottom positive (omega (arith, other)) (omega (arith, one)) in
    let up : p.top * r.bottom ≤ r.top * p.bottom = cross-trans p.top p.bottom q.top q.bottom r.top r.bottom positive (omega (arith, one)) (omega (arith, other)) in
    omega (arith, down, up)

weaker-through : (p q r : Fraction) (R S T : Type 0) → 0 < p.bottom → 0 < q.bottom → 0 < r.bottom → (R → S → T) → IsWeakerOr q p R → IsWeakerOr r q S → IsWeakerOr r p T
weaker-through p q r R S T p_some q_some r_some more one other =
    ⊎_elim
    (λ (less : q.top * p.bottom < p.top * q.bottom).
    ⊎_elim (λ (then : r.top * q.bottom < q.top * r.bottom). inl (above (r.top * p.bottom) (p.top * r.bottom) (still-less p q r r_some less (omega (arith, then)))))
    (λ (same : (r.top * q.bottom ≡ q.top * r.bottom) × S). inl (above (r.top * p.bottom) (p.top * r.bottom) (still-less p q r r_some less (omega (arith, same.0))))) other)
    (λ (same : (q.top * p.bottom ≡ p.top * q.bottom) × R).
    ⊎_elim (λ (then : r.top * q.bottom < q.top * r.bottom). inl (above (r.top * p.bottom) (p.top * r.bottom) (less-still p q r p_some (omega (arith, same.0)) then)))
    (λ (both : (r.top * q.bottom ≡ q.top * r.bottom) × S). inr (same-through p q r q_some same.0 both.0, more same.1 both.1)) other)
    one

pub better-never-itself : (failing successful : ℕ) (p : Suspect) → IsBetter failing successful p p → ⊥
better-never-itself failing successful p =
    let s = strength_of (table_of failing successful p) in
    never-itself (s.top * s.bottom) (IsEarlier p p) (earlier-never-itself p)

pub better-through : (failing successful : ℕ) (p q r : Suspect) → IsBetter failing successful p q → IsBetter failing successful q r → IsBetter failing successful p r
better-through failing successful p q r one other =
    weaker-through (strength_of (table_of failing successful p)) (strength_of (table_of failing successful q)) (strength_of (table_of failing successful r)) (IsEarlier p q) (IsEarlier q r) (IsEarlier p r)
    (strength-positive (table_of failing successful p)) (strength-positive (table_of failing successful q)) (strength-positive (table_of failing successful r)) (earlier-through p q r) one other

pub better-or : (failing successful : ℕ) (p q : Suspect) → p.predicate ≢ q.predicate → IsBetter failing successful p q ⊎ IsBetter failing successful q p
better-or failing successful p q other =
    let a = strength_of (table_of failing successful p) in
    let b = strength_of (table_of failing successful q) in
    one-way (b.top * a.bottom) (a.top * b.bottom) (IsEarlier p q) (IsEarlier q p) (earlier-or p q other)

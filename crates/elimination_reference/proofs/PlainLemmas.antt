-- The leader, one predicate on; and lists that a step leaves.
use Rattle.std.proofs.Common.{◌≡◌, ℕ, zero, suc, ◌+◌, ◌*◌, ◌<◌, ◌≤◌, Bool, true, false, not, cond, List, [], ◌∷◌, ◌++◌, length, take, drop, get_or, set, Option, None, Some, MatchOption, refl, sym, ap, subst, ◌∙◌, append_assoc, arith}
use Rattle.std.specs.Prelude.{map, filter}
use Rattle.std.proofs.lemmas.Bool.{ltb-true, ltb-false}
use Rattle.std.proofs.lemmas.List.{length-map}
use Rattle.std.proofs.lemmas.List.Sums.{length-filter, count_by-le-length}
use Rattle.cbi_base.specs.declared.policy.Policy.{Policy}
use Rattle.cbi_base.specs.declared.policy.Policy.TheVariants.{All as Every, Failing, Relabel}
use Rattle.fractions.specs.declared.fraction.Fraction.{Fraction}
use Rattle.fractions.specs.declared.tally.Tally.{Tally}
use Rattle.fractions.specs.Fraction.{IsAtMost}
use Rattle.fractions.specs.Tally.{Passes, importance_of}
use Rattle.elimination_tallies.specs.declared.labelled.LabelledRun.{LabelledRun}
use Rattle.elimination_tallies.specs.declared.listed.Listed.{Listed}
use Rattle.elimination.specs.Elimination.{IsElimination, runs_after_leader, is_taken, run_as_successful}
use Rattle.elimination_tallies.specs.Leading.{IsLeader, NonePasses}
use Rattle.elimination_tallies.specs.Predicates.{predicates_in}
use Rattle.elimination_tallies.specs.Recount.{failing_runs, recount}
use Rattle.elimination_tallies.specs.Scanning.{is_greater_fraction}
use Rattle.elimination_tallies.proofs.ScanLemmas.{first-leads, leads-instead, leads-on, none-more}
use Rattle.elimination_reference.specs.Best.{AreFractions, IsBest, IsRow}

-- a predicate that doesn't pass
pub passed-over : (best : Option Listed) (numbers : ℕ → Tally) (k failing : ℕ) → IsBest numbers k failing best → (Passes (numbers k) → ⊥) → IsBest numbers (k + 1) failing best
passed-over None numbers k failing best not_here = none-more numbers k best not_here
passed-over (Some row) numbers k failing best not_here = record {
  leads = leads-on numbers k failing row.predicate best.leads (λ passes. absurd (not_here passes));
  tally = best.tally;
  failing_is = best.failing_is;
}

-- the first that passes
pub first-row : (best : Option Listed) (numbers : ℕ → Tally) (k failing : ℕ) (t : Tally) → best ≡ None → IsBest numbers k failing best → t ≡ numbers k → Passes t
    → IsRow numbers (k + 1) failing (record { predicate = k; tally = t; failing = failing })
first-row (Some row) numbers k failing t none best is passes = absurd cc
first-row None numbers k failing t none best is passes = record {
  leads = first-leads numbers k failing best (subst Passes is passes);
  tally = is;
  failing_is = refl;
}

of-same : (value : Fraction) (t u : Tally) (failing : ℕ) → value ≡ importance_of t failing → t ≡ u → value ≡ importance_of u failing
of-same value t u failing is same = is ∙ ap (λ (x : Tally). importance_of x failing) same

-- one of a greater importance
pub row-instead : (numbers : ℕ → Tally) (k failing : ℕ) (row : Listed) (t : Tally) (value other : Fraction) → AreFractions numbers k failing → IsRow numbers k failing row → t ≡ numbers k → Passes t
    → value ≡ importance_of t failing → other ≡ importance_of row.tally failing → is_greater_fraction value other ≡ true → IsRow numbers (k + 1) failing (record { predicate = k; tally = t; failing = failing })
row-instead numbers k failing row t value other fractions best is passes value_is other_is more =
    let v : value ≡ importance_of (numbers k) failing = of-same value t (numbers k) failing value_is is in
    let o : other ≡ importance_of (numbers row.predicate) failing = of-same other row.tally (numbers row.predicate) failing other_is best.tally in
    let less = ltb-true (other.top * value.bottom) (value.top * other.bottom) more in
    let to_next : IsAtMost (importance_of (numbers row.predicate) failing) (importance_of (numbers k) failing) =
    subst (λ (x : Fraction). IsAtMost x (importance_of (numbers k) failing)) o (subst (λ (x : Fraction). IsAtMost other x) v (omega arith)) in
    let strictly : IsAtMost (importance_of (numbers k) failing) (importance_of (numbers row.predicate) failing) → ⊥ = λ most.
    let back : IsAtMost value other =
    subst (λ (x : Fraction). IsAtMost x other) (sym v) (subst (λ (x : Fraction). IsAtMost (importance_of (numbers k) failing) x) (sym o) most) in
    omega arith in record {
      leads = leads-instead numbers k failing row.predicate fractions best.leads (subst Passes is passes) to_next strictly;
      tally = is;
      failing_is = refl;
    }

-- one of no greater importance
pub row-stays : (numbers : ℕ → Tally) (k failing : ℕ) (row : Listed) (t : Tally) (value other : Fraction) → IsRow numbers k failing row → t ≡ numbers k
    → value ≡ importance_of t failing → other ≡ importance_of row.tally failing → is_greater_fraction value other ≡ false → IsRow numbers (k + 1) failing row
row-stays numbers k failing row t value other best is value_is other_is most =
    let v : value ≡ importance_of (numbers k) failing = of-same value t (numbers k) failing value_is is in
    let o : other ≡ importance_of (numbers row.predicate) failing = of-same other row.tally (numbers row.predicate) failing other_is best.tally in
    let less = ltb-false (other.top * value.bottom) (value.top * other.bottom) most in
    let to_best : IsAtMost (importance_of (numbers k) failing) (importance_of (numbers row.predicate) failing) =
    subst (λ (x : Fraction). IsAtMost x (importance_of (numbers row.predicate) failing)) v (subst (λ (x : Fraction). IsAtMost value x) o (omega arith)) in record {
      leads = leads-on numbers k failing row.predicate best.leads (λ _. to_best);
      tally = best.tally;
      failing_is = best.failing_is;
    }

-- the best of all predicates is the leader
pub best-leads : (best : Option Listed) (branches : List Bool) (runs : List LabelledRun) (count failing : ℕ) → count ≡ predicates_in branches → failing ≡ failing_runs runs → IsBest (recount branches runs) count failing best
    → MatchOption best (NonePasses branches runs) (IsLeader branches runs)
best-leads None branches runs count failing count_is failing_is best = subst (λ n. IsBest (recount branches runs) n failing None) count_is best
best-leads (Some row) branches runs count failing count_is failing_is best =
    let there = subst (λ n. IsRow (recount branches runs) n (failing_runs runs) row) count_is (subst (λ n. IsRow (recount branches runs) count n row) failing_is best) in
    record { leads = there.leads; tally = there.tally; failing = there.failing_is }

-- one more element of a list is changed
changed-first : {A : Type 0} (f : A → A) (xs : List A) (i : ℕ) (d : A) → i < length xs → get_or (map f (take i xs) ++ drop i xs) i d ≡ get_or xs i d
changed-first f [] i d less = absurd (omega arith)
changed-first f (x ∷ xs) zero d less = refl
changed-first f (x ∷ xs) (suc i) d less = changed-first f xs i d (omega arith)

set-next : {A : Type 0} (f : A → A) (xs : List A) (i : ℕ) (d : A) → i < length xs → set (map f (take i xs) ++ drop i xs) i (f (get_or xs i d)) ≡ map f (take (suc i) xs) ++ drop (suc i) xs
set-next f [] i d less = absurd (omega arith)
set-next f (x ∷ xs) zero d less = refl
set-next {A = A} f (x ∷ xs) (suc i) d less = ap (λ (ys : List A). f x ∷ ys) (set-next f xs i d (omega arith))

pub changed-more : {A : Type 0} (f : A → A) (xs now : List A) (i : ℕ) (d : A) → i < length xs → now ≡ map f (take i xs) ++ drop i xs → set now i (f (get_or now i d)) ≡ map f (take (i + 1) xs) ++ drop (i + 1) xs
changed-more {A = A} f xs now i d less is =
    let next : suc i ≡ i + 1 = omega arith in
    ap (λ (ys : List A). set ys i (f (get_or ys i d))) is ∙ ap (λ (x : A). set (map f (take i xs) ++ drop i xs) i (f x)) (changed-first f xs i d less) ∙ set-next f xs i d less
    ∙ ap (λ (n : ℕ). map f (take n xs) ++ drop n xs) next

-- the two policies that discard
pub discards : (branches : List Bool) (policy : Policy) (leader : ℕ) (runs : List LabelledRun) → (policy ≡ Relabel → ⊥) → runs_after_leader branches policy leader runs ≡ filter (λ r. not (is_taken branches policy leader r)) runs
discards branches Every leader runs other = refl
discards branches Failing leader runs other = refl
discards branches Relabel leader runs other = absurd (other refl)

-- no step leaves more runs
few-left : (test : LabelledRun → Bool) (runs : List LabelledRun) → length (filter test runs) ≤ length runs
few-left test runs = omega (arith, length-filter test runs, count_by-le-length test runs)

pub after-few : (branches : List Bool) (policy : Policy) (leader : ℕ) (runs : List LabelledRun) → length (runs_after_leader branches policy leader runs) ≤ length runs
after-few branches Every leader runs = few-left (λ r. not (is_taken branches Every leader r)) runs
after-few branches Failing leader runs = few-left (λ r. not (is_taken branches Failing leader r)) runs
after-few branches Relabel leader runs = omega (arith, length-map runs (λ (r : LabelledRun). cond (is_taken branches Relabel leader r) (run_as_successful r) r))

-- one more leader
pub one-more : (branches : List Bool) (policy : Policy) (all left : List LabelledRun) (rows new : List Listed) (row : Listed) → ((rest : List Listed) → IsElimination branches policy left rest → IsElimination branches policy all (rows ++ rest))
    → IsLeader branches left row → new ≡ rows ++ row ∷ [] → (rest : List Listed) → IsElimination branches policy (runs_after_leader branches policy row.predicate left) rest → IsElimination branches policy all (new ++ rest)
one-more branches policy all left rows new row so_far leads is rest elimination =
    subst (IsElimination branches policy all) (sym (ap (λ (xs : List Listed). xs ++ rest) is ∙ append_assoc rows (row ∷ []) rest)) (so_far (row ∷ rest) (leads, elimination))

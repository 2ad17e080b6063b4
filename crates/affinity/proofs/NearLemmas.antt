-- Those near a predicate by kept numbers are those over the runs; and laws of them.
use Rattle.std.proofs.Common.{◌≡◌, ◌≢◌, ℕ, ◌-◌, ◌<◌, ◌≤◌, Bool, List, ◌∷◌, length, not, sym, ap, subst, ◌∙◌, arith}
use Rattle.std.specs.Prelude.{All}
use Rattle.std.proofs.lemmas.List.Elements.{All-weaker}
use Rattle.std.proofs.lemmas.List.Sums.{count_by-le-length, length-filter}
use Rattle.cbi_base.specs.declared.policy.Policy.TheVariants.{All as Every}
use Rattle.fractions.specs.declared.tally.Tally.{Tally}
use Rattle.fractions.specs.Fraction.{millionths_of}
use Rattle.fractions.specs.Tally.{Passes, importance_of}
use Rattle.elimination_tallies.specs.declared.labelled.LabelledRun.{LabelledRun}
use Rattle.elimination_tallies.specs.declared.listed.Listed.{Listed}
use Rattle.elimination_tallies.specs.Leading.{IsLeader}
use Rattle.elimination_tallies.specs.Predicates.{predicates_in}
use Rattle.elimination_tallies.specs.Recount.{failing_runs, is_true}
use Rattle.elimination_tallies.specs.Tallies.{AreRecounts, Tallies}
use Rattle.elimination_tallies.proofs.RecountLemmas.{fails-most, recounts-numbers, recounts-scanned}
use Rattle.elimination.specs.Elimination.{IsElimination, runs_after_leader}
use Rattle.elimination.proofs.EliminationLemmas.{after-counts}
use Rattle.affinity.specs.declared.neighbour.Neighbour.{Neighbour}
use Rattle.affinity.specs.declared.remaining.Remaining.{Remaining}
use Rattle.affinity.specs.Falls.{IsFall, IsWorth, Scores, scores_over, share_of}
use Rattle.affinity.specs.Kept.{AreComparable, IsWithout, scores_by}
use Rattle.affinity.specs.Laws.{IsSecondRound}
use Rattle.affinity.specs.Near.{AreNear, AreNearBy, IsNeighbour}
use Rattle.affinity.proofs.FirstLemmas.{first-same}
use Rattle.affinity.proofs.OneFirst.{one-first}

-- scores that are the same at a predicate
record SameAt (s t : Scores) (q : ℕ) : Type 0 where
  pub numbers : s.numbers q ≡ t.numbers q
  pub failing : s.failing ≡ t.failing

share-same : (s t : Scores) (q : ℕ) → SameAt s t q → share_of s q ≡ share_of t q
share-same s t q same = ap (λ (x : Tally). millionths_of (importance_of x s.failing)) same.numbers ∙ ap (λ n. millionths_of (importance_of (t.numbers q) n)) same.failing

worth-same : (s t : Scores) (q worth : ℕ) → SameAt s t q → IsWorth s q worth → IsWorth t q worth
worth-same s t q worth same is = record {
  passing = λ passes. is.passing (subst Passes (sym same.numbers) passes) ∙ share-same s t q same;
  otherwise = λ none. is.otherwise (λ passes. none (subst Passes same.numbers passes));
}

fall-same : (count p : ℕ) (whole left other rest : Scores) (q fall : ℕ) → SameAt whole other q → SameAt left rest q → IsFall count p whole left q fall → IsFall count p other rest q fall
fall-same count p whole left other rest q fall same left_same is = record {
  is_one = is.is_one;
  other = is.other;
  passes = subst Passes same.numbers is.passes;
  rest = is.rest;
  rest_is = worth-same left rest q is.rest left_same is.rest_is;
  fall_is = is.fall_is ∙ ap (λ n. n - is.rest) (share-same whole other q same);
}

same-back : (s t : Scores) (q : ℕ) → SameAt s t q → SameAt t s q
same-back s t q same = record { numbers = sym same.numbers; failing = sym same.failing }

near-same : (count p : ℕ) (whole left other rest : Scores) (rows : List Neighbour) → ((q : ℕ) → q < count → SameAt whole other q) → ((q : ℕ) → q < count → SameAt left rest q) → AreNearBy count p whole left rows → AreNearBy count p other rest rows
near-same count p whole left other rest rows same left_same near =
    first-same 5 (IsNeighbour count p whole left) (IsNeighbour count p other rest) rows
    (λ n is. (fall-same count p whole left other rest n.predicate n.fall (same n.predicate is.0.is_one) (left_same n.predicate is.0.is_one) is.0, is.1))
    (λ n is. (fall-same count p other rest whole left n.predicate n.fall (same-back whole other n.predicate (same n.predicate is.0.is_one)) (same-back left rest n.predicate (left_same n.predicate is.0.is_one)) is.0, is.1))
    near

pub near-recounts : (branches : List Bool) (runs : List LabelledRun) (p : ℕ) (whole : Tallies) (left : Remaining) (rows : List Neighbour) → AreRecounts branches runs whole → IsWithout branches runs p left
    → AreNearBy (predicates_in whole.branches) p (scores_by whole left.all) (scores_by left.numbers left.failing) rows → AreNear branches runs p rows
near-recounts branches runs p whole left rows recounts without near =
    let rest = runs_after_leader branches Every p runs in
    near-same (predicates_in branches) p (scores_by whole left.all) (scores_by left.numbers left.failing) (scores_over branches runs) (scores_over branches rest) rows
    (λ q less. record { numbers = recounts-numbers branches runs whole q recounts less; failing = without.all })
    (λ q less. record { numbers = recounts-numbers branches rest left.numbers q without.recounts less; failing = without.failing })
    (subst (λ (bs : List Bool). AreNearBy (predicates_in bs) p (scores_by whole left.all) (scores_by left.numbers left.failing) rows) recounts.branches_are near)

-- no more runs are left
pub left-few : (branches : List Bool) (p : ℕ) (runs : List LabelledRun) → length (runs_after_leader branches Every p runs) ≤ length runs
left-few branches p runs =
    let keeps : LabelledRun → Bool = λ r. not (is_true branches p r) in
    omega (arith, length-filter keeps runs, count_by-le-length keeps runs)

pub comparable : (branches : List Bool) (runs : List LabelledRun) (p : ℕ) (whole : Tallies) (left : Remaining) → length runs ≤ 100000 → AreRecounts branches runs whole → IsWithout branches runs p left → AreComparable whole left
comparable branches runs p whole left few recounts without =
    let rest = runs_after_leader branches Every p runs in
    let few_left : length rest ≤ 100000 = omega (arith, few, left-few branches p runs) in record {
      same_branches = without.recounts.branches_are ∙ sym recounts.branches_are;
      whole_scanned = recounts-scanned branches runs whole left.all recounts few without.all;
      left_scanned = recounts-scanned branches rest left.numbers left.failing without.recounts few_left without.failing;
      few = omega (arith, without.all, fails-most runs, few);
      few_left = omega (arith, without.failing, fails-most rest, few_left);
      fewer = omega (arith, without.failing, without.all, after-counts branches Every p runs);
    }

-- laws
pub none-itself : (branches : List Bool) (runs : List LabelledRun) (p : ℕ) (rows : List Neighbour) → AreNear branches runs p rows → All (λ (n : Neighbour). n.predicate ≢ p) rows
none-itself branches runs p rows near =
    All-weaker (IsNeighbour (predicates_in branches) p (scores_over branches runs) (scores_over branches (runs_after_leader branches Every p runs))) (λ (n : Neighbour). n.predicate ≢ p) (λ n is. is.0.other) rows near.each

pub one-near : (branches : List Bool) (runs : List LabelledRun) (p : ℕ) (one other : List Neighbour) → AreNear branches runs p one → AreNear branches runs p other → one ≡ other
one-near branches runs p one other a b = one-first 5 (IsNeighbour (predicates_in branches) p (scores_over branches runs) (scores_over branches (runs_after_leader branches Every p runs))) one other a b

leader-share : (branches : List Bool) (runs : List LabelledRun) (row : Listed) → IsLeader branches runs row → share_of (scores_over branches runs) row.predicate ≡ millionths_of (importance_of row.tally row.failing)
leader-share branches runs row leads =
    ap (λ (x : Tally). millionths_of (importance_of x (failing_runs runs))) (sym leads.tally) ∙ ap (λ n. millionths_of (importance_of row.tally n)) (sym leads.failing)

pub second-round : (branches : List Bool) (runs : List LabelledRun) (first second : Listed) (more : List Listed) → IsElimination branches Every runs (first ∷ second ∷ more) → IsSecondRound branches runs first second
second-round branches runs first second more is =
    let rest = runs_after_leader branches Every first.predicate runs in record {
      before = leader-share branches runs first is.0;
      rest = record { passing = λ _. sym (leader-share branches rest second is.1.0); otherwise = λ none. absurd (none is.1.0.leads.passes) };
    }

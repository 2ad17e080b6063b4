-- What is found, and its laws.
use Rattle.std.proofs.Common.{◌≡◌, ◌≢◌, ℕ, ◌+◌, ◌<◌, ◌≤◌, Bool, true, false, not, ◌&&◌, cond, List, [], ◌∷◌, length, Option, None, Some, refl, sym, ap, subst, ◌∙◌, arith}
use Rattle.std.specs.Prelude.{IfSome, IsPermutation, MatchOption, count_by, option_map}
use Rattle.std.proofs.Math.Path.{fun_ext}
use Rattle.std.proofs.lemmas.List.Elements.{All-weaker}
use Rattle.std.proofs.lemmas.List.Sorted.{sum_by-IsPermutation}
use Rattle.std.proofs.lemmas.List.Sums.{sum_by-cons}
use Rattle.elimination_tallies.proofs.RecountLemmas.{fails-most}
use Rattle.base_lists.proofs.Every.{at_split}
use Rattle.flow.specs.declared.site.TableParts.{TableParts}
use Rattle.flow.specs.Predicates.{predicate_count}
use Rattle.collector.specs.Sites.{branches_of}
use Rattle.fractions.specs.declared.tally.Tally.{Tally}
use Rattle.fractions.specs.Fraction.{IsAtMost}
use Rattle.fractions.specs.Tally.{IsTally, Passes, importance_of}
use Rattle.elimination_tallies.specs.declared.labelled.LabelledRun.{LabelledRun}
use Rattle.elimination.specs.Laws.{PredicatesAreThoseOfTheTable}
use Rattle.elimination_tallies.specs.Predicates.{predicates_in}
use Rattle.elimination_tallies.specs.Recount.{failing_runs, is_failing, is_observed, is_true, recount, is_successful}
use Rattle.compound_counts.specs.Truth.{pair_is_known, pair_is_true, pair_recount}
use Rattle.compound.specs.declared.chosen.Chosen.{Chosen}
use Rattle.compound.specs.declared.chosen.PairResult.{PairResult}
use Rattle.compound.specs.declared.scanning.Best.{Best}
use Rattle.compound.specs.declared.scanning.Scan.{Scan}
use Rattle.compound.specs.Best.{NoPairPasses}
use Rattle.compound.specs.Bound.{bound_of}
use Rattle.compound.specs.Candidates.{AreCandidates, ComesBefore, RanksAtLeast}
use Rattle.compound.specs.Found.{ArePairsScanned, IsChosen, IsFound, IsFoundBy}
use Rattle.compound.specs.Laws.{AddsUp}
use Rattle.compound.specs.Pairs.{pairs_of}
use Rattle.compound.specs.Scanning.{IsScan}
use Rattle.compound.specs.Text.{HasText, IsShown}
use Rattle.compound_counts.proofs.Counting.{tally-same}
use Rattle.compound.proofs.BoundLemmas.{importance-bounded}
use Rattle.compound.proofs.PairLists.{each-of-pairs, pair-count, related-pairs}
use Rattle.compound.proofs.ScanLemmas.{BestOf}
use Rattle.compound.proofs.TallyLemmas.{pair-in-left, pair-in-right, pair-observed, pair-tally, recount-true}

-- ---- the whole scan

chosen-of : (pair : ℕ → ℕ → Tally) (failing : ℕ) (pairs : List (ℕ × ℕ)) (best : Option Best) → BestOf pair failing pairs best
    → MatchOption (option_map (λ (b : Best). b.chosen) best) (NoPairPasses pair pairs) (IsChosen pair failing pairs)
chosen-of pair failing pairs None none = none
chosen-of pair failing pairs (Some b) is = record { leads = is.leads; tally = is.tally; failing_is = is.failing_is }

pub scan-found : (one : ℕ → Tally) (pair : ℕ → ℕ → Tally) (failing : ℕ) (pairs : List (ℕ × ℕ)) (scan : Scan) (found : PairResult) → IsScan one pair failing pairs scan → found.pairs ≡ length pairs
    → found.counted ≡ scan.counted → found.skipped ≡ scan.skipped → found.best ≡ option_map (λ (b : Best). b.chosen) scan.best → ArePairsScanned one pair failing pairs found
scan-found one pair failing pairs scan found is all counted skipped best = record {
  skips = is.skips;
  are_skips = is.are_skips;
  as_many = all;
  counted = counted ∙ is.counted;
  skipped = skipped ∙ is.skipped;
  best = subst (λ (o : Option Chosen). MatchOption o (NoPairPasses pair pairs) (IsChosen pair failing pairs)) (sym best) (chosen-of pair failing pairs scan.best is.best);
}

-- ---- a text

shown-of : (table : TableParts) (branches : List Bool) (runs : List LabelledRun) (candidates : List ℕ) (best : Option Chosen) → predicates_in branches ≡ predicate_count table.sites → length runs ≤ 100000
    → AreCandidates (recount branches runs) (predicates_in branches) (failing_runs runs) candidates
    → MatchOption best (NoPairPasses (pair_recount branches runs) (pairs_of candidates)) (IsChosen (pair_recount branches runs) (failing_runs runs) (pairs_of candidates)) → IfSome best (IsShown table)
shown-of table branches runs candidates None as_many few are none = tt
shown-of table branches runs candidates (Some c) as_many few are chosen =
    let P : ℕ → Type 0 = λ p. (p < predicates_in branches) × (1 ≤ (recount branches runs p).a) in
    let members = at_split (λ (p : ℕ × ℕ). P p.0 × P p.1) (pairs_of candidates) chosen.leads.before chosen.leads.after (c.left, c.right) chosen.leads.stands (each-of-pairs P candidates are.each) in record {
      left = omega (arith, members.0.0, as_many);
      right = omega (arith, members.1.0, as_many);
      tally = subst IsTally (sym chosen.tally) (pair-tally branches runs c.left c.right few);
      passes = subst Passes (sym chosen.tally) chosen.leads.passes;
      observed = omega (arith, ap (λ (t : Tally). t.c) chosen.tally, pair-observed branches runs c.left c.right, chosen.failing_is);
      failing = omega (arith, chosen.failing_is, fails-most runs, few);
    }

pub found-text : (table : TableParts) (runs : List LabelledRun) (found : PairResult) → PredicatesAreThoseOfTheTable → length runs ≤ 100000 → IsFound (branches_of table.sites) runs found → HasText table found
found-text table runs found law few is =
    shown-of table (branches_of table.sites) runs is.candidates found.best (law.as_many table.sites) few is.are_candidates is.are_scanned.best

-- ---- laws

both-counts : (skips : List Bool) → count_by not skips + count_by (λ (skip : Bool). skip) skips ≡ length skips
both-counts [] = refl
both-counts (b ∷ more) =
    omega (arith, sum_by-cons (λ (skip : Bool). cond (not skip) 1 0) b more, sum_by-cons (λ (skip : Bool). cond skip 1 0) b more, either b, both-counts more)
  where
    either : (b : Bool) → cond (not b) 1 0 + cond b 1 0 ≡ 1
    either true = refl
    either false = refl

not-itself : (numbers : ℕ → Tally) (failing p q : ℕ) → ComesBefore numbers failing p q → p ≢ q
not-itself numbers failing p q before same =
    let itself : RanksAtLeast numbers failing p p = subst (RanksAtLeast numbers failing p) (sym same) before.ranks in
    let back : RanksAtLeast numbers failing q p = subst (λ x. RanksAtLeast numbers failing x p) same itself in
    absurd (omega (arith, before.first back, same))

pub adds-up : (branches : List Bool) (runs : List LabelledRun) (found : PairResult) (is : IsFound branches runs found) → AddsUp is.candidates found
adds-up branches runs found is =
    let scanned = is.are_scanned in record {
      all = scanned.as_many ∙ pair-count is.candidates;
      parts = omega (arith, scanned.counted, scanned.skipped, scanned.as_many, scanned.are_skips.as_many, both-counts scanned.skips);
      apart = All-weaker (λ (p : ℕ × ℕ). ComesBefore (recount branches runs) (failing_runs runs) p.0 p.1) (λ (p : ℕ × ℕ). p.0 ≢ p.1)
          (λ p before. not-itself (recount branches runs) (failing_runs runs) p.0 p.1 before) (pairs_of is.candidates) (related-pairs (ComesBefore (recount branches runs) (failing_runs runs)) is.candidates is.are_candidates.ordered);
    }

pub none-above : (branches : List Bool) (runs : List LabelledRun) (p q : ℕ) → length runs ≤ 100000 → Passes (pair_recount branches runs p q)
    → IsAtMost (importance_of (pair_recount branches runs p q) (failing_runs runs)) (bound_of (recount branches runs p).a (recount branches runs q).a (failing_runs runs))
none-above branches runs p q few passes =
    importance-bounded (pair_recount branches runs p q) (recount branches runs p).a (recount branches runs q).a (failing_runs runs) passes (pair-in-left branches runs p q) (pair-in-right branches runs p q)
    (omega (arith, recount-true branches runs p, fails-most runs, few))

count-same : (test : LabelledRun → Bool) (runs others : List LabelledRun) → IsPermutation runs others → count_by test runs ≡ count_by test others
count-same test runs others moved = sym (sum_by-IsPermutation (λ r. cond (test r) 1 0) runs others moved)

recount-same : (branches : List Bool) (runs others : List LabelledRun) → IsPermutation runs others → (p : ℕ) → recount branches runs p ≡ recount branches others p
recount-same branches runs others moved p = tally-same (recount branches runs p) (recount branches others p)
    (count-same (λ r. is_failing r.label && is_true branches p r) runs others moved) (count-same (λ r. is_successful r.label && is_true branches p r) runs others moved)
    (count-same (λ r. is_failing r.label && is_observed branches p r) runs others moved) (count-same (λ r. is_successful r.label && is_observed branches p r) runs others moved)

pair-same : (branches : List Bool) (runs others : List LabelledRun) → IsPermutation runs others → (p q : ℕ) → pair_recount branches runs p q ≡ pair_recount branches others p q
pair-same branches runs others moved p q = tally-same (pair_recount branches runs p q) (pair_recount branches others p q)
    (count-same (λ r. is_failing r.label && pair_is_true branches p q r) runs others moved) (count-same (λ r. is_successful r.label && pair_is_true branches p q r) runs others moved)
    (count-same (λ r. is_failing r.label && pair_is_known branches p q r) runs others moved) (count-same (λ r. is_successful r.label && pair_is_known branches p q r) runs others moved)

pub order-free : (branches : List Bool) (runs others : List LabelledRun) (found : PairResult) → IsPermutation runs others → IsFound branches runs found → IsFound branches others found
order-free branches runs others found moved is =
    let one : recount branches runs ≡ recount branches others = fun_ext (λ p. recount-same branches runs others moved p) in
    let pair : pair_recount branches runs ≡ pair_recount branches others = fun_ext (λ p. fun_ext (λ q. pair-same branches runs others moved p q)) in
    let failing : failing_runs runs ≡ failing_runs others = count-same (λ (r : LabelledRun). is_failing r.label) runs others moved in
    subst (λ (f : ℕ → Tally). IsFoundBy f (predicates_in branches) (pair_recount branches others) (failing_runs others) found) one
    (subst (λ (g : ℕ → ℕ → Tally). IsFoundBy (recount branches runs) (predicates_in branches) g (failing_runs others) found) pair
    (subst (λ k. IsFoundBy (recount branches runs) (predicates_in branches) (pair_recount branches runs) k found) failing is))

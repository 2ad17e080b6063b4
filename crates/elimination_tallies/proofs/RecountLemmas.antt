-- The numbers of a recount: their bounds, and the leader by them.
use Rattle.std.proofs.Common.{◌≡◌, ℕ, ◌+◌, ◌<◌, ◌≤◌, Bool, true, false, ◌&&◌, cond, inl, inr, List, [], ◌∷◌, length, sym, ap, subst, ◌∙◌, arith}
use Rattle.std.specs.Prelude.{count_by}
use Rattle.std.specs.List.{list_any}
use Rattle.std.proofs.lemmas.Bool.{false≢true, and_from, and_parts, or_cases, or_left, or_right}
use Rattle.std.proofs.lemmas.List.Sums.{count_by-le-length, sum_by-cons, sum_by-le-sum_by}
use Rattle.std.proofs.lemmas.Option.{get_or_from_slice_get}
use Rattle.base_lists.proofs.Tests.{test_rises}
use Rattle.fractions.specs.declared.tally.Tally.{Tally}
use Rattle.fractions.specs.Tally.{IsTally, Passes}
use Rattle.report_file.specs.declared.label.Label.{Label}
use Rattle.report_file.specs.declared.label.Label.TheVariants.{Fail, Pass, Uncounted}
use Rattle.report_file.specs.declared.report.Entry.{Entry}
use Rattle.elimination_tallies.specs.declared.labelled.LabelledRun.{LabelledRun}
use Rattle.elimination_tallies.specs.declared.listed.Listed.{Listed}
use Rattle.elimination_tallies.specs.Leading.{IsLeader, Leads, NonePass, NonePasses}
use Rattle.elimination_tallies.specs.Predicates.{is_observed_in_entry, predicates_in, is_true_in_entry}
use Rattle.elimination_tallies.specs.Recount.{failing_runs, is_failing, is_observed, is_true, recount, is_successful}
use Rattle.elimination_tallies.specs.Scanning.{AreScanned, tally_at}
use Rattle.elimination_tallies.specs.Tallies.{AreRecounts, Tallies}
use Rattle.elimination_tallies.proofs.PredicateLemmas.{shows-observes}
use Rattle.elimination_tallies.proofs.RunChanges.{recount-at}
use Rattle.elimination_tallies.proofs.ScanLemmas.{leads-same}

count-less : (p q : LabelledRun → Bool) (runs : List LabelledRun) → ((r : LabelledRun) → p r ≡ true → q r ≡ true) → count_by p runs ≤ count_by q runs
count-less p q runs less = sum_by-le-sum_by (λ (r : LabelledRun). cond (p r) 1 0) (λ (r : LabelledRun). cond (q r) 1 0) runs (λ r. test_rises (p r) (q r) (less r))

any-less : (p q : Entry → Bool) (entries : List Entry) → ((e : Entry) → p e ≡ true → q e ≡ true) → list_any p entries ≡ true → list_any q entries ≡ true
any-less p q [] less has = has
any-less p q (e ∷ more) less has =
    elim (or_cases (p e) (list_any p more) has) [ inl here ↦ or_left (q e) (list_any q more) (less e here) | inr rest ↦ or_right (q e) (list_any q more) (any-less p q more less rest) ]

true-observed : (branches : List Bool) (p : ℕ) (label : Label → Bool) (r : LabelledRun) → (label r.label && is_true branches p r) ≡ true → (label r.label && is_observed branches p r) ≡ true
true-observed branches p label r has =
    let parts = and_parts (label r.label) (is_true branches p r) has in
    and_from (label r.label) (is_observed branches p r) parts.0 (any-less (is_true_in_entry branches p) (is_observed_in_entry branches p) r.entries (λ e shown. shows-observes branches p e shown) parts.1)

one-label : (l : Label) (x : Bool) → cond (is_failing l && x) 1 0 + cond (is_successful l && x) 1 0 ≤ 1
one-label Fail true = omega arith
one-label Fail false = omega arith
one-label Pass true = omega arith
one-label Pass false = omega arith
one-label Uncounted x = omega arith

observed-most : (branches : List Bool) (p : ℕ) (runs : List LabelledRun) → (recount branches runs p).c + (recount branches runs p).d ≤ length runs
observed-most branches p [] = omega arith
observed-most branches p (r ∷ more) =
    omega (arith, observed-most branches p more, one-label r.label (is_observed branches p r), sum_by-cons (λ (x : LabelledRun). cond (is_failing x.label && is_observed branches p x) 1 0) r more, sum_by-cons (λ (x : LabelledRun). cond (is_successful x.label && is_observed branches p x) 1 0) r more)

-- a recount has the bounds of a tally
pub recount-tally : (branches : List Bool) (runs : List LabelledRun) (p : ℕ) → length runs ≤ 100000 → IsTally (recount branches runs p)
recount-tally branches runs p few = record {
  failing = count-less (λ (r : LabelledRun). is_failing r.label && is_true branches p r) (λ (r : LabelledRun). is_failing r.label && is_observed branches p r) runs (true-observed branches p is_failing);
  successful = count-less (λ (r : LabelledRun). is_successful r.label && is_true branches p r) (λ (r : LabelledRun). is_successful r.label && is_observed branches p r) runs (true-observed branches p is_successful);
  runs = omega (arith, observed-most branches p runs);
}

pub recount-failing : (branches : List Bool) (runs : List LabelledRun) (p : ℕ) → (recount branches runs p).c ≤ failing_runs runs
recount-failing branches runs p = count-less (λ (r : LabelledRun). is_failing r.label && is_observed branches p r) (λ (r : LabelledRun). is_failing r.label) runs (λ r has. (and_parts (is_failing r.label) (is_observed branches p r) has).0)

pub fails-most : (runs : List LabelledRun) → failing_runs runs ≤ length runs
fails-most runs = count_by-le-length (λ (r : LabelledRun). is_failing r.label) runs

-- kept numbers that are the recount can be scanned
pub recounts-scanned : (branches : List Bool) (runs : List LabelledRun) (table : Tallies) (failing : ℕ) → AreRecounts branches runs table → length runs ≤ 100000 → failing ≡ failing_runs runs → AreScanned table.tallies failing
recounts-scanned branches runs table failing recounts few fail p t is =
    let same = recount-at branches runs table p t recounts is in (
      subst IsTally same (recount-tally branches runs p few),
      omega (arith, recount-failing branches runs p, fail, ap (λ (x : Tally). x.c) same),
    )

pub recounts-numbers : (branches : List Bool) (runs : List LabelledRun) (table : Tallies) (p : ℕ) → AreRecounts branches runs table → p < predicates_in branches → tally_at table.tallies p ≡ recount branches runs p
recounts-numbers branches runs table p recounts less = get_or_from_slice_get table.tallies p (recount branches runs p) (record { a = 0; b = 0; c = 0; d = 0 }) (recounts.numbers p less)

-- the leader by them is the leader over the runs
pub recounts-leader : (branches : List Bool) (runs : List LabelledRun) (table : Tallies) (failing : ℕ) (row : Listed) → AreRecounts branches runs table → failing ≡ failing_runs runs → Leads (tally_at table.tallies) (predicates_in table.branches) failing row.predicate
    → row.tally ≡ tally_at table.tallies row.predicate → row.failing ≡ failing → IsLeader branches runs row
recounts-leader branches runs table failing row recounts fail leads tally failing_is =
    let there = subst (λ (bs : List Bool). Leads (tally_at table.tallies) (predicates_in bs) failing row.predicate) recounts.branches_are leads in
    let same : (q : ℕ) → q < predicates_in branches → tally_at table.tallies q ≡ recount branches runs q = λ q less. recounts-numbers branches runs table q recounts less in record {
      leads = subst (λ (n : ℕ). Leads (recount branches runs) (predicates_in branches) n row.predicate) fail (leads-same (tally_at table.tallies) (recount branches runs) (predicates_in branches) failing row.predicate same there);
      tally = tally ∙ same row.predicate there.is_one;
      failing = failing_is ∙ fail;
    }

pub recounts-none : (branches : List Bool) (runs : List LabelledRun) (table : Tallies) → AreRecounts branches runs table → NonePass (tally_at table.tallies) (predicates_in table.branches) → NonePasses branches runs
recounts-none branches runs table recounts none q less passes =
    none q (omega (arith, less, ap predicates_in recounts.branches_are)) (subst Passes (sym (recounts-numbers branches runs table q recounts less)) passes)

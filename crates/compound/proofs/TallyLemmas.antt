-- The numbers of predicates and of pairs over runs are tallies, and how they compare.
use Rattle.std.proofs.Common.{◌≡◌, ℕ, ◌+◌, ◌-◌, ◌≤◌, inl, inr, Bool, true, false, ◌&&◌, ◌||◌, cond, List, [], ◌∷◌, length, refl, sym, subst, arith}
use Rattle.std.specs.Prelude.{count_by}
use Rattle.std.specs.List.{list_any}
use Rattle.std.proofs.lemmas.Bool.{and_parts, or_cases, or_left, or_right}
use Rattle.std.proofs.lemmas.List.Sums.{sum_by-cons}
use Rattle.elimination_tallies.proofs.PredicateLemmas.{shows-observes}
use Rattle.base_lists.proofs.Tests.{test_rises}
use Rattle.fractions.specs.Tally.{IsTally}
use Rattle.report_file.specs.declared.label.Label.{Label}
use Rattle.report_file.specs.declared.label.Label.TheVariants.{Fail, Pass, Uncounted}
use Rattle.report_file.specs.declared.report.Entry.{Entry}
use Rattle.elimination_tallies.specs.declared.labelled.LabelledRun.{LabelledRun}
use Rattle.elimination_tallies.specs.Predicates.{is_observed_in_entry, is_true_in_entry}
use Rattle.elimination_tallies.specs.Recount.{failing_runs, is_failing, is_observed, is_true, recount, is_successful}
use Rattle.compound_counts.specs.Truth.{pair_is_known, pair_is_true, pair_recount}

-- ---- what is true is observed

first-is : (f s t : Bool) → f ≡ true → f || (s || t) ≡ true
first-is f s t h = or_left f (s || t) h

any-mono : (p q : Entry → Bool) → ((e : Entry) → p e ≡ true → q e ≡ true) → (entries : List Entry) → list_any p entries ≡ true → list_any q entries ≡ true
any-mono p q h [] is = is
any-mono p q h (e ∷ more) is =
    elim (or_cases (p e) (list_any p more) is) [ inl here ↦ or_left (q e) (list_any q more) (h e here) | inr there ↦ or_right (q e) (list_any q more) (any-mono p q h more there) ]

true-observed : (branches : List Bool) (p : ℕ) (r : LabelledRun) → is_true branches p r ≡ true → is_observed branches p r ≡ true
true-observed branches p r h = any-mono (is_true_in_entry branches p) (is_observed_in_entry branches p) (shows-observes branches p) r.entries h

-- ---- counts

count-mono : (p q : LabelledRun → Bool) → ((r : LabelledRun) → p r ≡ true → q r ≡ true) → (runs : List LabelledRun) → count_by p runs ≤ count_by q runs
count-mono p q h [] = omega arith
count-mono p q h (r ∷ more) =
    omega (arith, sum_by-cons (λ (x : LabelledRun). cond (p x) 1 0) r more, sum_by-cons (λ (x : LabelledRun). cond (q x) 1 0) r more, test_rises (p r) (q r) (h r), count-mono p q h more)

one-most : (b : Bool) → cond b 1 0 ≤ 1
one-most true = omega arith
one-most false = omega arith

at-most-one : (a b o : Bool) → (a ≡ true → b ≡ false) → cond (a && o) 1 0 + cond (b && o) 1 0 ≤ 1
at-most-one true b o h = subst (λ (x : Bool). cond o 1 0 + cond (x && o) 1 0 ≤ 1) (sym (h refl)) (omega (arith, one-most o))
at-most-one false b o h = omega (arith, one-most (b && o))

count-apart : (f s o : LabelledRun → Bool) → ((r : LabelledRun) → f r ≡ true → s r ≡ false) → (runs : List LabelledRun) → count_by (λ r. f r && o r) runs + count_by (λ r. s r && o r) runs ≤ length runs
count-apart f s o h [] = omega arith
count-apart f s o h (r ∷ more) =
    omega (arith, sum_by-cons (λ (x : LabelledRun). cond (f x && o x) 1 0) r more, sum_by-cons (λ (x : LabelledRun). cond (s x && o x) 1 0) r more, at-most-one (f r) (s r) (o r) (h r), count-apart f s o h more)

labels-apart : (l : Label) → is_failing l ≡ true → is_successful l ≡ false
labels-apart Fail h = refl
labels-apart Pass h = sym h
labels-apart Uncounted h = refl

and-mono : (a b c : Bool) → (b ≡ true → c ≡ true) → a && b ≡ true → a && c ≡ true
and-mono true b c h is = h is
and-mono false b c h is = is

-- ---- tallies

counted-failing : (o : LabelledRun → Bool) (runs : List LabelledRun) → count_by (λ r. is_failing r.label && o r) runs ≤ failing_runs runs
counted-failing o runs = count-mono (λ r. is_failing r.label && o r) (λ (r : LabelledRun). is_failing r.label) (λ r h. (and_parts (is_failing r.label) (o r) h).0) runs

pub recount-true : (branches : List Bool) (runs : List LabelledRun) (p : ℕ) → (recount branches runs p).a ≤ failing_runs runs
recount-true branches runs p = counted-failing (is_true branches p) runs

known-if-true : (branches : List Bool) (p q : ℕ) (r : LabelledRun) → pair_is_true branches p q r ≡ true → pair_is_known branches p q r ≡ true
known-if-true branches p q r h = or_left (pair_is_true branches p q r) _ h

pub pair-tally : (branches : List Bool) (runs : List LabelledRun) (p q : ℕ) → length runs ≤ 100000 → IsTally (pair_recount branches runs p q)
pair-tally branches runs p q few = record {
  failing = count-mono (λ r. is_failing r.label && pair_is_true branches p q r) (λ r. is_failing r.label && pair_is_known branches p q r) (λ r. and-mono (is_failing r.label) (pair_is_true branches p q r) (pair_is_known branches p q r) (known-if-true branches p q r)) runs;
  successful = count-mono (λ r. is_successful r.label && pair_is_true branches p q r) (λ r. is_successful r.label && pair_is_known branches p q r) (λ r. and-mono (is_successful r.label) (pair_is_true branches p q r) (pair_is_known branches p q r) (known-if-true branches p q r)) runs;
  runs = omega (arith, few, count-apart (λ (r : LabelledRun). is_failing r.label) (λ (r : LabelledRun). is_successful r.label) (λ r. pair_is_known branches p q r) (λ r. labels-apart r.label) runs);
}

pub pair-observed : (branches : List Bool) (runs : List LabelledRun) (p q : ℕ) → (pair_recount branches runs p q).c ≤ failing_runs runs
pair-observed branches runs p q = counted-failing (pair_is_known branches p q) runs

pub pair-in-left : (branches : List Bool) (runs : List LabelledRun) (p q : ℕ) → (pair_recount branches runs p q).a ≤ (recount branches runs p).a
pair-in-left branches runs p q =
    count-mono (λ r. is_failing r.label && pair_is_true branches p q r) (λ r. is_failing r.label && is_true branches p r) (λ r. and-mono (is_failing r.label) (pair_is_true branches p q r) (is_true branches p r) (λ h. (and_parts (is_true branches p r) (is_true branches q r) h).0)) runs

pub pair-in-right : (branches : List Bool) (runs : List LabelledRun) (p q : ℕ) → (pair_recount branches runs p q).a ≤ (recount branches runs q).a
pair-in-right branches runs p q =
    count-mono (λ r. is_failing r.label && pair_is_true branches p q r) (λ r. is_failing r.label && is_true branches q r) (λ r. and-mono (is_failing r.label) (pair_is_true branches p q r) (is_true branches q r) (λ h. (and_parts (is_true branches p r) (is_true branches q r) h).1)) runs

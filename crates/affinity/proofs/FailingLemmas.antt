-- The failing runs in which a predicate was true, as far as the reports were looked at.
use Rattle.std.proofs.Common.{◌≡◌, ℕ, ◌+◌, ◌<◌, ◌≤◌, inl, inr, Bool, true, false, ◌&&◌, cond, List, [], ◌∷◌, length, refl, sym, ap, subst, ◌∙◌, arith}
use Rattle.std.specs.Prelude.{All, filter, map, nat_lt}
use Rattle.std.proofs.lemmas.Bool.{cases_lt, false≢true, le-ltb}
use Rattle.std.proofs.lemmas.List.Elements.{All-cons, All-filter, All-map, All-nil, Contains-append_left, Contains-push}
use Rattle.std.proofs.lemmas.List.Sums.{sum_by-cons}
use Rattle.report_file.specs.declared.report.Report.{Report}
use Rattle.elimination_tallies.specs.declared.labelled.LabelledRun.{LabelledRun}
use Rattle.elimination_tallies.specs.Recount.{is_failing, is_true, run_of_report, recount, runs_of}
use Rattle.elimination_tallies.specs.Runs.{reports_after}
use Rattle.affinity.specs.Cards.{IsLeastOf, failing_true, is_failing_true}

abbrev run_numbers : List Report → List ℕ
run_numbers reports = map (λ (r : Report). r.run) reports

numbers-by : (r : Report) (rest : List Report) (b : Bool) → length (run_numbers (cond b (r ∷ rest) rest)) ≡ cond b 1 0 + length (run_numbers rest)
numbers-by r rest true = omega arith
numbers-by r rest false = omega arith

-- there are as many as the numbers say
pub failing-many : (branches : List Bool) (reports : List Report) (p : ℕ) → (recount branches (runs_of reports) p).a ≡ length (failing_true branches reports p)
failing-many branches [] p = refl
failing-many branches (r ∷ more) p =
    omega (
      arith,
      sum_by-cons (λ (x : LabelledRun). cond (is_failing x.label && is_true branches p x) 1 0) (run_of_report r) (runs_of more),
      numbers-by r (filter (is_failing_true branches p) more) (is_failing_true branches p r),
      failing-many branches more p,
    )

later-by : (run : ℕ) (r : Report) (rest : List Report) (b : Bool) → (b ≡ true → run ≤ r.run) → All (λ (x : Report). run ≤ x.run) rest → All (λ (x : Report). run ≤ x.run) (cond b (r ∷ rest) rest)
later-by run r rest true is all = All-cons (λ (x : Report). run ≤ x.run) r rest (is refl) all
later-by run r rest false is all = all

is-later : (run other : ℕ) → nat_lt run other ≡ true → run ≤ other
is-later run other is = elim (cases_lt run other) [ inl less ↦ omega arith | inr most ↦ absurd (false≢true (sym (le-ltb run other most) ∙ is)) ]

later-all : (run : ℕ) (reports : List Report) → All (λ (x : Report). run ≤ x.run) (reports_after run reports)
later-all run [] = All-nil (λ (x : Report). run ≤ x.run)
later-all run (r ∷ more) = later-by run r (reports_after run more) (nat_lt run r.run) (is-later run r.run) (later-all run more)

-- the first one is the least
pub failing-found : (branches : List Bool) (p : ℕ) (r : Report) (reports : List Report) (all : List ℕ) → is_failing_true branches p r ≡ true → failing_true branches (r ∷ reports_after r.run reports) p ≡ all → IsLeastOf all r.run
failing-found branches p r reports all is same =
    let rest = filter (is_failing_true branches p) (reports_after r.run reports) in
    let first : r.run ∷ run_numbers rest ≡ all = sym (ap (λ b. run_numbers (cond b (r ∷ rest) rest)) is) ∙ same in
    subst (λ (ns : List ℕ). IsLeastOf ns r.run) first (
      Contains-append_left (r.run ∷ []) (run_numbers rest) r.run (Contains-push [] r.run),
      All-cons (λ m. r.run ≤ m) r.run (run_numbers rest) (omega arith) (All-map (λ m. r.run ≤ m) (λ (x : Report). x.run) rest (All-filter (is_failing_true branches p) (λ (x : Report). r.run ≤ x.run) (reports_after r.run reports) (later-all r.run reports))),
    )

pub failing-lacks : (branches : List Bool) (reports : List Report) (p : ℕ) → 0 < (recount branches (runs_of reports) p).a → [] ≡ failing_true branches reports p → ⊥
failing-lacks branches reports p some none = omega (arith, some, failing-many branches reports p, ap length none)

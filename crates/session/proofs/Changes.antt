-- What is kept of the runs when one of them is counted, or taken out.
use Rattle.std.proofs.Common.{◌≡◌, ◌+◌, ◌-◌, ◌≤◌, ℕ, List, [], ◌∷◌, ◌++◌, length, Option, None, Some, IfNone, IfSome, ap, sym, subst, ◌∙◌, arith}
use Rattle.std.proofs.lemmas.List.{length-map, map-append}
use Rattle.report_file.specs.declared.report.Report.{Report}
use Rattle.collector.specs.Collected.{report_at, without_report}
use Rattle.collector.specs.Collecting.{IsCollection}
use Rattle.collector.specs.declared.collection.Held.{Held}
use Rattle.elimination_tallies.specs.declared.labelled.LabelledRun.{LabelledRun}
use Rattle.elimination_tallies.specs.declared.numbers.Change.TheVariants.{PutIn, TakeOut}
use Rattle.elimination_tallies.specs.Recount.{failing_runs, is_failing, run_of_report, runs_of}
use Rattle.elimination_tallies.specs.Runs.{AreRunsOf}
use Rattle.elimination_tallies.specs.Tallies.{AllowsEntries, AreRecounts, ChangedByAll, Tallies, counted_as, one_if}
use Rattle.elimination_tallies.proofs.RunChanges.{fails-middle, put-in-allowed, put-in-recounts, take-out-allowed, take-out-recounts}
use Rattle.elimination_tallies.proofs.RunLemmas.{collection-well}
use Rattle.elimination_tallies.specs.declared.listed.Listed.{Listed}
use Rattle.elimination_tallies.specs.Leading.{IsLeader, Leads, NonePass, NonePasses}
use Rattle.elimination_tallies.specs.Predicates.{predicates_in}
use Rattle.elimination_tallies.specs.Scanning.{tally_at}
use Rattle.elimination_tallies.proofs.RecountLemmas.{fails-most, recounts-leader, recounts-none}
use Rattle.session.specs.Session.{AreKept}
use Rattle.session.specs.declared.kept.Kept.{Kept}
use Rattle.session.proofs.Runs.{split}

-- the runs before and behind that of a report
pub record AreAround (c : Held) (run : ℕ) (r : Report) : Type 0 where
  pub before : List LabelledRun
  pub behind : List LabelledRun
  pub all : runs_of c.reports ≡ before ++ run_of_report r ∷ behind
  pub rest : runs_of (without_report run c.reports) ≡ before ++ behind
  pub well_runs : AreRunsOf c.branches (before ++ run_of_report r ∷ behind)
  pub few : length (before ++ run_of_report r ∷ behind) ≤ 100000

pub around : (c : Held) (run : ℕ) (r : Report) → IsCollection c → report_at run c.reports ≡ Some r → AreAround c run r
around c run r is found =
    let s = split run c.reports r found in
    let all : runs_of c.reports ≡ runs_of s.before ++ run_of_report r ∷ runs_of s.behind = ap runs_of s.all ∙ map-append run_of_report s.before (r ∷ s.behind) in record {
      before = runs_of s.before;
      behind = runs_of s.behind;
      all = all;
      rest = ap runs_of s.rest ∙ map-append run_of_report s.before s.behind;
      well_runs = subst (AreRunsOf c.branches) all (collection-well c is);
      few = subst (λ (rs : List LabelledRun). length rs ≤ 100000) all (omega (arith, is.few, length-map c.reports run_of_report));
    }

pub put-allowed : (c : Held) (run : ℕ) (r : Report) (table : Tallies) → IsCollection c → report_at run c.reports ≡ Some r → AreRecounts c.branches (runs_of (without_report run c.reports)) table → AllowsEntries (PutIn (counted_as r.label)) r.entries table
put-allowed c run r table is found recounts =
    let a = around c run r is found in
    put-in-allowed c.branches a.before a.behind (run_of_report r) table a.well_runs a.few (subst (λ rs. AreRecounts c.branches rs table) a.rest recounts)

pub put-recounts : (c : Held) (run : ℕ) (r : Report) (table new : Tallies) → IsCollection c → report_at run c.reports ≡ Some r → AreRecounts c.branches (runs_of (without_report run c.reports)) table → ChangedByAll (PutIn (counted_as r.label)) r.entries table new → AreRecounts c.branches (runs_of c.reports) new
put-recounts c run r table new is found recounts change =
    let a = around c run r is found in
    subst (λ rs. AreRecounts c.branches rs new) (sym a.all) (put-in-recounts c.branches a.before a.behind (run_of_report r) table new a.well_runs (subst (λ rs. AreRecounts c.branches rs table) a.rest recounts) change)

pub take-allowed : (c : Held) (run : ℕ) (r : Report) (table : Tallies) → IsCollection c → report_at run c.reports ≡ Some r → AreRecounts c.branches (runs_of c.reports) table → AllowsEntries (TakeOut (counted_as r.label)) r.entries table
take-allowed c run r table is found recounts =
    let a = around c run r is found in
    take-out-allowed c.branches a.before a.behind (run_of_report r) table a.well_runs (subst (λ rs. AreRecounts c.branches rs table) a.all recounts)

pub take-recounts : (c : Held) (run : ℕ) (r : Report) (table new : Tallies) → IsCollection c → report_at run c.reports ≡ Some r → AreRecounts c.branches (runs_of c.reports) table → ChangedByAll (TakeOut (counted_as r.label)) r.entries table new → AreRecounts c.branches (runs_of (without_report run c.reports)) new
take-recounts c run r table new is found recounts change =
    let a = around c run r is found in
    subst (λ rs. AreRecounts c.branches rs new) (sym a.rest) (take-out-recounts c.branches a.before a.behind (run_of_report r) table new a.well_runs (subst (λ rs. AreRecounts c.branches rs table) a.all recounts) change)

-- how many of the runs fail
pub fails-split : (c : Held) (run : ℕ) (r : Report) → IsCollection c → report_at run c.reports ≡ Some r → failing_runs (runs_of c.reports) ≡ failing_runs (runs_of (without_report run c.reports)) + one_if (is_failing r.label)
fails-split c run r is found =
    let a = around c run r is found in
    ap failing_runs a.all ∙ fails-middle a.before a.behind (run_of_report r) ∙ ap (λ (rs : List LabelledRun). failing_runs rs + one_if (is_failing r.label)) (sym a.rest)

pub few-fail : (c : Held) → IsCollection c → failing_runs (runs_of c.reports) ≤ 100000
few-fail c is = omega (arith, is.few, length-map c.reports run_of_report, fails-most (runs_of c.reports))

pub kept-put : (c : Held) (run : ℕ) (r : Report) (kept new : Kept) → IsCollection c → report_at run c.reports ≡ Some r → AreKept c.branches (without_report run c.reports) kept → ChangedByAll (PutIn (counted_as r.label)) r.entries kept.numbers new.numbers → new.failing ≡ kept.failing + one_if (is_failing r.label) → AreKept c.branches c.reports new
kept-put c run r kept new is found are change failing = record {
  recounts = put-recounts c run r kept.numbers new.numbers is found are.recounts change;
  failing = omega (arith, failing, are.failing, fails-split c run r is found);
}

pub kept-take : (c : Held) (run : ℕ) (r : Report) (kept new : Kept) → IsCollection c → report_at run c.reports ≡ Some r → AreKept c.branches c.reports kept → ChangedByAll (TakeOut (counted_as r.label)) r.entries kept.numbers new.numbers → new.failing ≡ kept.failing - one_if (is_failing r.label) → AreKept c.branches (without_report run c.reports) new
kept-take c run r kept new is found are change failing = record {
  recounts = take-recounts c run r kept.numbers new.numbers is found are.recounts change;
  failing = omega (arith, failing, are.failing, fails-split c run r is found);
}

-- the leader by what is kept
pub leader-is : (c : Held) (kept : Kept) (found : Option Listed) → AreKept c.branches c.reports kept → IfSome found (λ row. Leads (tally_at kept.numbers.tallies) (predicates_in kept.numbers.branches) kept.failing row.predicate)
    → IfSome found (λ row. (row.tally ≡ tally_at kept.numbers.tallies row.predicate) × (row.failing ≡ kept.failing)) → IfSome found (IsLeader c.branches (runs_of c.reports))
leader-is c kept None are leads numbers = tt
leader-is c kept (Some row) are leads numbers = recounts-leader c.branches (runs_of c.reports) kept.numbers kept.failing row are.recounts are.failing leads numbers.0 numbers.1

pub none-is : (c : Held) (kept : Kept) (found : Option Listed) → AreKept c.branches c.reports kept → IfNone found (NonePass (tally_at kept.numbers.tallies) (predicates_in kept.numbers.branches)) → IfNone found (NonePasses c.branches (runs_of c.reports))
none-is c kept None are none = recounts-none c.branches (runs_of c.reports) kept.numbers are.recounts none
none-is c kept (Some row) are none = tt

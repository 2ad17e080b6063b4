-- Reports that rise by their runs, one after another; and what is known of their entries.
use Rattle.std.proofs.Common.{◌≡◌, ℕ, ◌+◌, ◌<◌, inl, inr, Bool, true, false, cond, List, [], ◌∷◌, length, Option, None, Some, refl, sym, ap, subst, ◌∙◌, arith}
use Rattle.std.specs.Prelude.{All, IsTrue, slice_get}
use Rattle.std.proofs.lemmas.Bool.{cases_lt, lt-ltb, le-ltb}
use Rattle.std.proofs.lemmas.List.Elements.{All-cons, All-nil}
use Rattle.std.proofs.lemmas.Option.{slice_get_within}
use Rattle.collector.specs.declared.collection.Held.{Held}
use Rattle.collector.specs.Collected.{IsOfCollection, next_after}
use Rattle.collector.specs.Collecting.{IsCollection}
use Rattle.collector.specs.Merging.{AreReports}
use Rattle.collector.specs.Order.{IsOneOfReports}
use Rattle.collector.specs.Sites.{first_bad, has_site, takes_third}
use Rattle.collector.specs.Spelling.{RunsFrom}
use Rattle.report_file.specs.declared.report.Entry.{Entry}
use Rattle.report_file.specs.declared.report.Report.{Report}
use Rattle.report_file.specs.Report.{AreEntries, IsReport, is_positive}
use Rattle.elimination_tallies.specs.declared.labelled.LabelledRun.{LabelledRun}
use Rattle.elimination_tallies.specs.Recount.{run_of_report, runs_of}
use Rattle.elimination_tallies.specs.Runs.{AreEntriesOf, AreRunsOf, reports_after}

-- the answer of one test, for a list with a first report
abbrev after_by : Bool → Report → List Report → List Report
after_by b x rest = cond b (x ∷ rest) rest

pub all-after : (run from : ℕ) (reports : List Report) → run < from → RunsFrom from reports → reports_after run reports ≡ reports
all-after run from [] less rise = refl
all-after run from (x ∷ more) less rise =
    ap (λ b. after_by b x (reports_after run more)) (lt-ltb run x.run (omega (arith, rise.0))) ∙ ap (λ rest. x ∷ rest) (all-after run (x.run + 1) more (omega (arith, rise.0)) rise.1)

pub from-one : (reports : List Report) → AreReports reports → RunsFrom 0 reports → RunsFrom 1 reports
from-one [] are rise = tt
from-one (r ∷ more) are rise = (are.0.run.least, rise.1)

-- the runs of a collection begin with 1 at least
pub collection-rises : (c : Held) → IsCollection c → RunsFrom 1 c.reports
collection-rises c is = from-one c.reports is.reports is.rising

pub next-later : (run : ℕ) (reports : List Report) (r : Report) → next_after run reports ≡ Some r → run < r.run
next-later run [] r is = cc
next-later run (x ∷ more) r is =
    elim (cases_lt run x.run) [
      | inl less ↦
          let same : ◌≡◌ {A = Option Report} (Some x) (Some r) = sym (ap (λ b. cond b (Some x) (next_after run more)) (lt-ltb run x.run less)) ∙ is in
          let first : x ≡ r = cc in
          subst (λ (y : Report). run < y.run) first less
      | inr most ↦ next-later run more r (sym (ap (λ b. cond b (Some x) (next_after run more)) (le-ltb run x.run most)) ∙ is)
    ]

pub next-is : (run from : ℕ) (reports : List Report) (r : Report) → RunsFrom from reports → next_after run reports ≡ Some r → reports_after run reports ≡ r ∷ reports_after r.run reports
next-is run from [] r rise is = cc
next-is run from (x ∷ more) r rise is =
    elim (cases_lt run x.run) [
      | inl less ↦
          let same : ◌≡◌ {A = Option Report} (Some x) (Some r) = sym (ap (λ b. cond b (Some x) (next_after run more)) (lt-ltb run x.run less)) ∙ is in
          let first : x ≡ r = cc in
          let behind : reports_after run (x ∷ more) ≡ x ∷ more = ap (λ b. after_by b x (reports_after run more)) (lt-ltb run x.run less) ∙ ap (λ rest. x ∷ rest) (all-after run (x.run + 1) more (omega arith) rise.1) in
          let next : reports_after x.run (x ∷ more) ≡ more = ap (λ b. after_by b x (reports_after x.run more)) (le-ltb x.run x.run (omega arith)) ∙ all-after x.run (x.run + 1) more (omega arith) rise.1 in
          behind ∙ ap (λ (y : Report). y ∷ more) first ∙ ap (λ rest. r ∷ rest) (sym next) ∙ ap (λ (y : Report). r ∷ reports_after y.run (x ∷ more)) first
      | inr most ↦
          let there : next_after run more ≡ Some r = sym (ap (λ b. cond b (Some x) (next_after run more)) (le-ltb run x.run most)) ∙ is in
          let later = next-later run more r there in
          ap (λ b. after_by b x (reports_after run more)) (le-ltb run x.run most) ∙ next-is run (x.run + 1) more r rise.1 there
          ∙ ap (λ rest. r ∷ rest) (sym (ap (λ b. after_by b x (reports_after r.run more)) (le-ltb r.run x.run (omega arith))))
    ]

pub none-after : (run : ℕ) (reports : List Report) → next_after run reports ≡ None → reports_after run reports ≡ []
none-after run [] is = refl
none-after run (x ∷ more) is =
    elim (cases_lt run x.run) [
      | inl less ↦
          let same : ◌≡◌ {A = Option Report} (Some x) None = sym (ap (λ b. cond b (Some x) (next_after run more)) (lt-ltb run x.run less)) ∙ is in
          cc
      | inr most ↦ ap (λ b. after_by b x (reports_after run more)) (le-ltb run x.run most) ∙ none-after run more (sym (ap (λ b. cond b (Some x) (next_after run more)) (le-ltb run x.run most)) ∙ is)
    ]

pub are-positive : (entries : List Entry) → AreEntries entries → All (λ (e : Entry). IsTrue (is_positive e.counts)) entries
are-positive [] are = All-nil (λ (e : Entry). IsTrue (is_positive e.counts))
are-positive (e ∷ more) are = All-cons (λ (x : Entry). IsTrue (is_positive x.counts)) e more are.0.positive (are-positive more are.1)

pub site-there : (branches : List Bool) (e : Entry) (o : Option Bool) → slice_get branches e.site ≡ o → takes_third o e.counts.third ≡ true → e.site < length branches
site-there branches e None is has = cc
site-there branches e (Some branch) is has = slice_get_within branches e.site branch is

pub bad-cases : (branches : List Bool) (e : Entry) (more : List Entry) (b : Bool) → has_site branches e ≡ b → cond b (first_bad branches more) (Some e.site) ≡ None → (has_site branches e ≡ true) × (first_bad branches more ≡ None)
bad-cases branches e more true is none = (is, none)
bad-cases branches e more false is none = absurd cc

pub are-sites : (branches : List Bool) (entries : List Entry) → first_bad branches entries ≡ None → All (λ (e : Entry). e.site < length branches) entries
are-sites branches [] none = All-nil (λ (e : Entry). e.site < length branches)
are-sites branches (e ∷ more) none =
    let parts = bad-cases branches e more (has_site branches e) refl none in
    All-cons (λ (x : Entry). x.site < length branches) e more (site-there branches e (slice_get branches e.site) refl parts.0) (are-sites branches more parts.1)

pub are-entries : (c : Held) (r : Report) → IsReport r → IsOfCollection c r → AreEntriesOf c.branches r.entries
are-entries c r report ours = record { rising = report.rising; sites = are-sites c.branches r.entries ours.sites; positive = are-positive r.entries report.entries }

-- the runs of a collection are well formed
pub runs-well : (c : Held) (reports : List Report) → AreReports reports → ((r : Report) → IsOneOfReports r reports → IsOfCollection c r) → AreRunsOf c.branches (runs_of reports)
runs-well c [] are ours = All-nil (λ (x : LabelledRun). AreEntriesOf c.branches x.entries)
runs-well c (r ∷ more) are ours =
    All-cons (λ (x : LabelledRun). AreEntriesOf c.branches x.entries) (run_of_report r) (runs_of more) (are-entries c r are.0 (ours r (inl refl))) (runs-well c more are.1 (λ x has. ours x (inr has)))

pub collection-well : (c : Held) → IsCollection c → AreRunsOf c.branches (runs_of c.reports)
collection-well c is = runs-well c c.reports is.reports is.ours

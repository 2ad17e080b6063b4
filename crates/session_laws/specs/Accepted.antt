-- Which edits a collection accepts, one after another, and what they leave.
use Rattle.std.specs.Prelude.{◌≡◌, ◌≢◌, ℕ, List, [], ◌∷◌, None, Ok, Err, IsSome}
use Rattle.report_file.specs.declared.report.Report.{Report}
use Rattle.collector.specs.Collected.{Adds, report_relabelled, report_at, without_report}
use Rattle.collector.specs.Spelling.{RunsFrom}
use Rattle.collector.specs.declared.answers.Added.{Added}
use Rattle.collector.specs.declared.answers.AddFault.{AddFault}
use Rattle.collector.specs.declared.answers.AddFault.TheVariants.{Memory}
use Rattle.collector.specs.declared.collection.Held.{Held}
use Rattle.session_edits.specs.Held.{report_held}
use Rattle.session_edits.specs.declared.edit.Edit.{Edit}
use Rattle.session_edits.specs.declared.edit.Edit.TheVariants.{Add, Remove, Relabel, Rank}

-- the reports by rising run, of each run the one that the edits say is held
pub record AreHeldOf (edits : List Edit) (reports : List Report) : Type 0 where
  pub rising : RunsFrom 0 reports
  pub each : (run : ℕ) → report_at run reports ≡ report_held run edits

-- a collection accepts the edit, and this is what it leaves
abbrev pub TakesEdit : Held → Edit → Held → Type 0
TakesEdit c (Add report) after = (what : Added) × Adds c report (Ok what) after
TakesEdit c (Remove run) after = IsSome (report_at run c.reports) × (after ≡ record c { reports = without_report run c.reports })
TakesEdit c (Relabel run label) after = IsSome (report_at run c.reports) × (after ≡ record c { reports = report_relabelled run label c.reports })
TakesEdit c Rank after = after ≡ c

-- it accepts each edit, one after another
abbrev pub Accepts : Held → List Edit → Held → Type 0
Accepts c [] after = after ≡ c
Accepts c (edit ∷ more) after = (next : Held) × TakesEdit c edit next × Accepts next more after

-- why a report isn't added, but for want of memory
pub record IsRefusedFor (c : Held) (report : Report) (fault : AddFault) : Type 0 where
  pub adds : Adds c report (Err fault) c
  pub not_memory : fault ≢ Memory

-- a collection doesn't accept the edit: the report isn't added, or the run isn't held
abbrev pub IsFaulty : Held → Edit → Type 0
IsFaulty c (Add report) = (fault : AddFault) × IsRefusedFor c report fault
IsFaulty c (Remove run) = report_at run c.reports ≡ None
IsFaulty c (Relabel run label) = report_at run c.reports ≡ None
IsFaulty c Rank = ⊥

-- the edit is one of this run
abbrev pub IsOf : ℕ → Edit → Type 0
IsOf run (Add report) = run ≡ report.run
IsOf run (Remove other) = run ≡ other
IsOf run (Relabel other label) = run ≡ other
IsOf run Rank = ⊥

-- the edits are not of one run
abbrev pub AreApart : Edit → Edit → Type 0
AreApart one other = (run : ℕ) → IsOf run one → IsOf run other → ⊥

-- What a collection keeps: each report stands under its own run, is of the program and its sites, and can be spelled; the limits hold.
use Rattle.std.specs.Prelude.{◌≡◌, ◌≤◌, ℕ, Bool, List, [], ◌∷◌, length, map, None}
use Rattle.cbi_base.specs.declared.identity.ProgramId.{ProgramId}
use Rattle.report_file.specs.declared.report.Report.{Report}
use Rattle.report_file.specs.Report.{IsReport}
use Rattle.collector.specs.Sites.{first_bad}
use Rattle.collector.specs.Collected.{report_limit, mark_limit, marks_of}

pub record IsHeldReport (program : ProgramId) (branches : List Bool) (run : ℕ) (r : Report) : Type 0 where
  pub run_is : run ≡ r.run
  pub is_report : IsReport r
  pub program_is : r.program ≡ program
  pub sites : first_bad branches r.entries ≡ None

abbrev pub AreHeld : ProgramId → List Bool → List (ℕ × Report) → Type 0
AreHeld program branches [] = Unit {0}
AreHeld program branches (e ∷ more) = IsHeldReport program branches e.0 e.1 × AreHeld program branches more

pub record IsCollectionKept (program : ProgramId) (branches : List Bool) (entries : List (ℕ × Report)) (marks : ℕ) : Type 0 where
  pub are_held : AreHeld program branches entries
  pub few : length entries ≤ report_limit
  pub marks_are : marks ≡ marks_of (map (λ e. e.1) entries)
  pub few_marks : marks ≤ mark_limit

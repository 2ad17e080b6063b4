-- The map of a list of reports, and what it depends on: not on their order, their repetition or their grouping.
use Rattle.std.specs.Prelude.{◌≡◌, ◌⊎◌, ◌↔◌, List, [], ◌∷◌}
use Rattle.report_file.specs.declared.report.Report.{Report}
use Rattle.collector.specs.Collected.{with_report}

-- the report is one of these
abbrev pub IsOneOfReports : Report → List Report → Type 0
IsOneOfReports r [] = ⊥
IsOneOfReports r (x ∷ more) = (r ≡ x) ⊎ IsOneOfReports r more

-- each run has one report in the list, however often it stands there
abbrev pub AreAlike : List Report → Type 0
AreAlike reports = (a b : Report) → IsOneOfReports a reports → IsOneOfReports b reports → a.run ≡ b.run → a ≡ b

-- the lists have the same reports
abbrev pub SameReports : List Report → List Report → Type 0
SameReports xs ys = (r : Report) → IsOneOfReports r xs ↔ IsOneOfReports r ys

-- the map that holds each report of a list under its run
abbrev pub map_of : List Report → List Report
map_of [] = []
map_of (r ∷ more) = with_report r (map_of more)

-- What a bundle of reports leaves: each report is added in its order, until one is refused.
use Rattle.std.specs.Prelude.{◌≡◌, ◌≢◌, ◌+◌, ◌<◌, ◌^◌, ℕ, List, [], ◌∷◌, length, Result, Ok, Err}
use Rattle.report_file.specs.declared.report.Report.{Report}
use Rattle.report_file.specs.Report.{IsReport}
use Rattle.collector.specs.declared.answers.Added.{Added}
use Rattle.collector.specs.declared.answers.Added.TheVariants.{New, Repeated}
use Rattle.collector.specs.declared.answers.AddFault.{AddFault}
use Rattle.collector.specs.declared.answers.AddFault.TheVariants.{Foreign}
use Rattle.collector.specs.declared.answers.Merged.{Merged}
use Rattle.collector.specs.declared.collection.Bundle.{Bundle}
use Rattle.collector.specs.declared.collection.Held.{Held}
use Rattle.collector.specs.Collected.{Adds}

-- each report can be spelled
abbrev pub AreReports : List Report → Type 0
AreReports [] = Unit {0}
AreReports (r ∷ more) = IsReport r × AreReports more

abbrev pub AreOfBundle : Bundle → List Report → Type 0
AreOfBundle bundle [] = Unit {0}
AreOfBundle bundle (r ∷ more) = (r.program ≡ bundle.program) × AreOfBundle bundle more

pub record IsBundle (bundle : Bundle) : Type 0 where
  pub reports : AreReports bundle.reports
  pub program : AreOfBundle bundle bundle.reports
  pub few : length bundle.reports < 2 ^ 32

-- so many were new and so many repeated before these
abbrev pub AddsAll : Held → List Report → ℕ → ℕ → Result Merged AddFault → Held → Type 0
AddsAll c [] added repeated result after = (result ≡ Ok (record { added = added; repeated = repeated })) × (after ≡ c)
AddsAll c (r ∷ more) added repeated result after = (answer : Result Added AddFault) × (next : Held) × Adds c r answer next × elim answer [
  | Ok what ↦ elim what [
    | New ↦ AddsAll next more (added + 1) repeated result after
    | Repeated ↦ AddsAll next more added (repeated + 1) result after
  ]
  | Err fault ↦ (result ≡ Err fault) × (after ≡ next)
]

-- a bundle of another program is foreign, whatever its reports are
pub record IsForeign (c : Held) (bundle : Bundle) (result : Result Merged AddFault) (after : Held) : Type 0 where
  pub other : bundle.program ≢ c.program
  pub result_is : result ≡ Err (Foreign c.program bundle.program)
  pub stays : after ≡ c

pub data Merges (c : Held) (bundle : Bundle) (result : Result Merged AddFault) (after : Held) : Type 0 where
  OfAnother : IsForeign c bundle result after → Merges c bundle result after
  OfThis : bundle.program ≡ c.program → AddsAll c bundle.reports 0 0 result after → Merges c bundle result after

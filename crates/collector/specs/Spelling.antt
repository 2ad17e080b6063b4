-- The text of a collection: its reports by rising run, each with its line and those of its sites.
use Rattle.std.specs.Prelude.{◌≡◌, ◌+◌, ◌≤◌, ℕ, true, List, [], ◌∷◌, ◌++◌, length, map, codes}
use Rattle.std.specs.List.{flat_map}
use Rattle.cbi_base.specs.Words.{line_of_fields, text_of, IsId}
use Rattle.report_file.specs.RunLine.{line_of, line_rows, run_line_fields}
use Rattle.report_file.specs.Spelling.{program_fields, site_fields}
use Rattle.report_file.specs.declared.draft.Version.{Version}
use Rattle.report_file.specs.declared.draft.Version.TheVariants.{First, Second}
use Rattle.report_file.specs.declared.report.Report.{Report}
use Rattle.report_file.specs.Label.{label_of}
use Rattle.collector.specs.declared.collection.Bundle.{Bundle}
use Rattle.collector.specs.declared.collection.Held.{Held}
use Rattle.collector.specs.Collected.{mark_limit, marks_of, report_limit}
use Rattle.collector.specs.Merging.{AreOfBundle, AreReports}

abbrev pub collection_rows : Held → List (List (List ℕ))
collection_rows c = (codes "cbi-collection" ∷ codes "2" ∷ []) ∷ program_fields c.program ∷ (flat_map line_rows c.reports ++ (codes "end" ∷ []) ∷ [])

abbrev pub collection_text : Held → List ℕ
collection_text c = text_of (map line_of_fields (collection_rows c))

-- the text of a bundle in either version
abbrev pub bundle_title : Version → List (List ℕ)
bundle_title First = codes "cbi-collection" ∷ codes "1" ∷ []
bundle_title Second = codes "cbi-collection" ∷ codes "2" ∷ []

abbrev pub report_rows : Version → Report → List (List (List ℕ))
report_rows version r = run_line_fields version (line_of r) ∷ map site_fields r.entries

abbrev pub bundle_rows : Version → Bundle → List (List (List ℕ))
bundle_rows version b = bundle_title version ∷ program_fields b.program ∷ (flat_map (report_rows version) b.reports ++ (codes "end" ∷ []) ∷ [])

abbrev pub bundle_text : Version → Bundle → List ℕ
bundle_text version b = text_of (map line_of_fields (bundle_rows version b))

-- each report has this run or a greater one, and a greater one than the report before it
abbrev pub RunsFrom : ℕ → List Report → Type 0
RunsFrom run [] = Unit {0}
RunsFrom run (r ∷ more) = (run ≤ r.run) × RunsFrom (r.run + 1) more

-- each label is the one that the outcome gives
abbrev pub HavePlainLabels : List Report → Type 0
HavePlainLabels [] = Unit {0}
HavePlainLabels (r ∷ more) = (r.label ≡ label_of r.outcome true) × HavePlainLabels more

-- a bundle that has a text
pub record IsText (b : Bundle) : Type 0 where
  pub program : IsId b.program
  pub reports : AreReports b.reports
  pub ours : AreOfBundle b b.reports
  pub rising : RunsFrom 0 b.reports
  pub few : length b.reports ≤ report_limit
  pub few_marks : marks_of b.reports ≤ mark_limit

-- The bytes are a text of this bundle. It has one of the second version, and one of the first exactly where each label is its outcome's.
pub data SpellsBundle (bytes : List ℕ) (b : Bundle) : Type 0 where
  WithLabels : IsText b → bytes ≡ bundle_text Second b → SpellsBundle bytes b
  Without : IsText b → HavePlainLabels b.reports → bytes ≡ bundle_text First b → SpellsBundle bytes b

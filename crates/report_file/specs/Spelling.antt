-- The text of a report, and the lines that it shares with a collection.
use Rattle.std.specs.Prelude.{◌≡◌, ℕ, true, List, [], ◌∷◌, ◌++◌, map, codes, decimal}
use Rattle.std.specs.Fmt.{signed_decimal}
use Rattle.cbi_base.specs.Words.{text_of_id, line_of_fields, text_of, trap_number}
use Rattle.cbi_base.specs.declared.identity.ProgramId.{ProgramId}
use Rattle.cbi_base.specs.declared.outcome.Outcome.{Outcome}
use Rattle.cbi_base.specs.declared.outcome.Outcome.TheVariants.{Ended, Trapped, CutTurns, CutOutput}
use Rattle.cbi_base.specs.declared.outcome.Work.{Work}
use Rattle.report_file.specs.declared.label.Label.{Label}
use Rattle.report_file.specs.declared.label.Label.TheVariants.{Fail, Pass, Uncounted}
use Rattle.report_file.specs.declared.draft.Version.{Version}
use Rattle.report_file.specs.declared.draft.Version.TheVariants.{First, Second}
use Rattle.report_file.specs.declared.report.Entry.{Entry}
use Rattle.report_file.specs.declared.report.Report.{Report}
use Rattle.report_file.specs.Label.{label_of}
use Rattle.report_file.specs.Report.{IsReport}

abbrev pub program_fields : ProgramId → List (List ℕ)
program_fields id = codes "program" ∷ text_of_id id ∷ []

abbrev pub run_fields : ℕ → List (List ℕ)
run_fields run = codes "run" ∷ decimal run ∷ []

-- how a run went, in two words
abbrev pub outcome_fields : Outcome → List (List ℕ)
outcome_fields (Ended status) = codes "ended" ∷ signed_decimal status ∷ []
outcome_fields (Trapped trap) = codes "trapped" ∷ decimal (trap_number trap) ∷ []
outcome_fields CutTurns = codes "cut" ∷ codes "turns" ∷ []
outcome_fields CutOutput = codes "cut" ∷ codes "output" ∷ []

abbrev pub label_word : Label → List ℕ
label_word Fail = codes "fail"
label_word Pass = codes "pass"
label_word Uncounted = codes "none"

abbrev pub label_fields : Label → List (List ℕ)
label_fields label = codes "label" ∷ label_word label ∷ []

abbrev pub work_fields : Work → List (List ℕ)
work_fields w = codes "work" ∷ decimal w.fast ∷ decimal w.slow ∷ decimal w.tests ∷ []

abbrev pub site_fields : Entry → List (List ℕ)
site_fields e = codes "site" ∷ decimal e.site ∷ decimal e.counts.first ∷ decimal e.counts.second ∷ decimal e.counts.third ∷ []

-- the first line, and the line of the outcome
abbrev pub title_fields : Version → List (List ℕ)
title_fields First = codes "cbi-report" ∷ codes "1" ∷ []
title_fields Second = codes "cbi-report" ∷ codes "2" ∷ []

abbrev pub outcome_line : Outcome → List (List ℕ)
outcome_line outcome = codes "outcome" ∷ outcome_fields outcome

-- the line of the label, which the second version has
abbrev pub label_rows : Version → Label → List (List (List ℕ))
label_rows First label = []
label_rows Second label = label_fields label ∷ []

-- the lines of a report, each as its fields
abbrev pub rows_of_report : Version → Report → List (List (List ℕ))
rows_of_report version r =
    title_fields version ∷ program_fields r.program ∷ run_fields r.run ∷ outcome_line r.outcome ∷ (label_rows version r.label
    ++ work_fields r.work ∷ (map site_fields r.entries ++ (codes "end" ∷ []) ∷ []))

abbrev pub versioned_text : Version → Report → List ℕ
versioned_text version r = text_of (map line_of_fields (rows_of_report version r))

-- the lines before those of the sites, in the second version
abbrev pub head_rows : Report → List (List (List ℕ))
head_rows r = title_fields Second ∷ program_fields r.program ∷ run_fields r.run ∷ outcome_line r.outcome ∷ label_fields r.label ∷ work_fields r.work ∷ []

-- the text that is written of a report
abbrev pub report_text : Report → List ℕ
report_text r = versioned_text Second r

-- The bytes are a text of this report. Each report has one of the second version. It has one of the first exactly where its label is the one that
-- its outcome gives.
pub data SpellsReport (bytes : List ℕ) (r : Report) : Type 0 where
  WithLabel : IsReport r → bytes ≡ versioned_text Second r → SpellsReport bytes r
  Without : IsReport r → r.label ≡ label_of r.outcome true → bytes ≡ versioned_text First r → SpellsReport bytes r

-- The text of a list of edits: the line of each, and behind that of an added report those of its sites.
use Rattle.std.specs.Prelude.{◌≡◌, ℕ, ◌+◌, ◌≤◌, List, [], ◌∷◌, ◌++◌, length, map, codes, decimal}
use Rattle.std.specs.List.{flat_map}
use Rattle.cbi_base.specs.Text.{line_of_fields, text_of}
use Rattle.cbi_base.specs.declared.identity.ProgramId.{ProgramId}
use Rattle.report_file.specs.declared.draft.Version.TheVariants.{Second}
use Rattle.report_file.specs.declared.run_line.RunLine.{RunLine}
use Rattle.report_file.specs.Report.{IsReport, IsRun}
use Rattle.report_file.specs.RunLine.{line_of, run_line_fields}
use Rattle.report_file.specs.Spelling.{label_word, site_fields}
use Rattle.session_edits.specs.declared.edit.Edit.{Edit}
use Rattle.session_edits.specs.declared.edit.Edit.TheVariants.{Add, Remove, Relabel, Rank}

-- the line of a run that is added is that of the run in a collection, behind a word
abbrev pub add_fields : RunLine → List (List ℕ)
add_fields x = codes "add" ∷ run_line_fields Second x

-- the line of an edit, and those of the sites behind it
abbrev pub edit_fields : Edit → List (List ℕ)
edit_fields (Add report) = add_fields (line_of report)
edit_fields (Remove run) = codes "remove" ∷ decimal run ∷ []
edit_fields (Relabel run label) = codes "relabel" ∷ decimal run ∷ label_word label ∷ []
edit_fields Rank = codes "rank" ∷ []

abbrev pub site_rows : Edit → List (List (List ℕ))
site_rows (Add report) = map site_fields report.entries
site_rows (Remove run) = []
site_rows (Relabel run label) = []
site_rows Rank = []

abbrev pub edit_rows : Edit → List (List (List ℕ))
edit_rows edit = edit_fields edit ∷ site_rows edit

abbrev pub edits_rows : List Edit → List (List (List ℕ))
edits_rows edits = (codes "cbi-edits" ∷ codes "1" ∷ []) ∷ (flat_map edit_rows edits ++ (codes "end" ∷ []) ∷ [])

abbrev pub edits_text : List Edit → List ℕ
edits_text edits = text_of (map line_of_fields (edits_rows edits))

-- what an edit of runs of this program may say
abbrev pub IsEdit : ProgramId → Edit → Type 0
IsEdit program (Add report) = IsReport report × (report.program ≡ program)
IsEdit program (Remove run) = IsRun run
IsEdit program (Relabel run label) = IsRun run
IsEdit program Rank = Unit {0}

abbrev pub AreEdits : ProgramId → List Edit → Type 0
AreEdits program [] = Unit {0}
AreEdits program (edit ∷ more) = IsEdit program edit × AreEdits program more

-- a removal or a relabelling
abbrev pub IsChange : Edit → Type 0
IsChange (Add report) = ⊥
IsChange (Remove run) = IsRun run
IsChange (Relabel run label) = IsRun run
IsChange Rank = ⊥

-- how many rankings the edits ask for
abbrev pub ranks_in : List Edit → ℕ
ranks_in [] = 0
ranks_in (Add report ∷ more) = ranks_in more
ranks_in (Remove run ∷ more) = ranks_in more
ranks_in (Relabel run label ∷ more) = ranks_in more
ranks_in (Rank ∷ more) = 1 + ranks_in more

-- the most rankings that a text asks for, and its most bytes
abbrev pub rank_limit : ℕ
rank_limit = 1000

abbrev pub byte_limit : ℕ
byte_limit = 1073741824

-- the bytes are the text of these edits, each report being of this program
pub record SpellsEdits (program : ProgramId) (bytes : List ℕ) (edits : List Edit) : Type 0 where
  pub are_edits : AreEdits program edits
  pub few_ranks : ranks_in edits ≤ rank_limit
  pub text_is : bytes ≡ edits_text edits
  pub few_bytes : length bytes ≤ byte_limit

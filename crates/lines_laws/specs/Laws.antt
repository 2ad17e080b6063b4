-- A grammar of lines, which says at which line a text goes wrong, against the spelling of what the text says.
use Rattle.std.specs.Prelude.{◌≡◌, ◌⊎◌, ◌↔◌, ℕ, List, []}
use Rattle.std.specs.Global.{Global}
use Rattle.cbi_base.specs.Words.{IsBadLine, ReadsLines, IsId}
use Rattle.cbi_base.specs.declared.identity.ProgramId.{ProgramId}
use Rattle.countdown_bank.specs.Bank.{AreNumbers}
use Rattle.countdown_bank.specs.BankFile.{MayEnd, NumberFollows, numbers_text}
use Rattle.report_file.specs.Grammar as report
use Rattle.report_file.specs.Spelling.{SpellsReport}
use Rattle.report_file.specs.declared.draft.Draft as report_draft
use Rattle.collector.specs.Grammar as collection
use Rattle.collector.specs.Spelling.{SpellsBundle}
use Rattle.collector.specs.declared.collection.Bundle.{Bundle}
use Rattle.collector.specs.declared.draft.Draft as collection_draft
use Rattle.session_edits.specs.Grammar as edits
use Rattle.session_edits.specs.Spelling.{SpellsEdits}
use Rattle.session_edits.specs.declared.draft.Reading.{Reading}
use Rattle.name_lists.specs.Grammar.{ListEnds, NameFollows, start_of_list}
use Rattle.name_lists.specs.List.{SpellsList}
use Rattle.name_lists.specs.declared.draft.Draft as list_draft

-- the lines of the text lead from the start to an end, and what was read there is this
pub record IsReadAs {D X : Type 0} (follows : D → List ℕ → D → Type 0) (ends : D → Type 0) (from : D) (said : D → X) (text : List ℕ) (x : X) : Type 0 where
  pub to : D
  pub reads : ReadsLines follows ends from text to
  pub said_is : said to ≡ x

-- something is spelled so
abbrev pub IsSpelled : {X : Type 0} → (List ℕ → X → Type 0) → List ℕ → Type 0
IsSpelled {X} spells text = (x : X) × spells text x

-- the text goes wrong at a line
abbrev pub GoesWrong : {D : Type 0} → (D → List ℕ → D → Type 0) → (D → Type 0) → D → List ℕ → Type 0
GoesWrong follows ends from text = (line : ℕ) × IsBadLine follows ends from text line

-- What the lines say is what the text spells, and a text is spelled exactly where it goes wrong at no line. Each text is the one or the other.
pub record IsTheSpelling {D X : Type 0} (follows : D → List ℕ → D → Type 0) (ends : D → Type 0) (from : D) (said : D → X)
    (spells : List ℕ → X → Type 0) : Type 0 where
  pub read : (text : List ℕ) (to : D) → ReadsLines follows ends from text to → spells text (said to)
  pub spelled : (text : List ℕ) (x : X) → spells text x → IsReadAs follows ends from said text x
  pub exactly : (text : List ℕ) → IsSpelled spells text ↔ ((line : ℕ) → ¬ (IsBadLine follows ends from text line))
  pub either : (text : List ℕ) → IsSpelled spells text ⊎ GoesWrong follows ends from text

abbrev pub ReportsAreLines : Type 0
ReportsAreLines = IsTheSpelling report.ReportLineFollows report.ReportEnds report.report_start (λ (d : report_draft.Draft). d.report) SpellsReport

-- the reports that were read, with the identity
abbrev pub bundle_in : collection_draft.Draft → Bundle
bundle_in d = record { program = d.program; reports = d.reports }

abbrev pub CollectionsAreLines : Type 0
CollectionsAreLines = (alloc : Global) → IsTheSpelling collection.BundleLineFollows collection.BundleEnds (collection.bundle_start alloc) bundle_in SpellsBundle

abbrev pub EditsAreLines : Type 0
EditsAreLines = (alloc : Global) (program : ProgramId) → IsId program
    → IsTheSpelling edits.EditLineFollows edits.EditsEnd (edits.edits_start alloc program) (λ (r : Reading). r.draft.edits) (SpellsEdits program)

-- numbers that make a bank, and their text
abbrev pub SpellsNumbers : List ℕ → List ℕ → Type 0
SpellsNumbers text numbers = AreNumbers numbers × (text ≡ numbers_text numbers)

abbrev pub BanksAreLines : Type 0
BanksAreLines = IsTheSpelling NumberFollows MayEnd [] (λ (numbers : List ℕ). numbers) SpellsNumbers

-- whatever number the run on the first name has
abbrev pub ListsAreLines : Type 0
ListsAreLines = (alloc : Global) (first : ℕ)
    → IsTheSpelling NameFollows ListEnds (start_of_list alloc first) (λ (d : list_draft.Draft). d.names) (SpellsList first)

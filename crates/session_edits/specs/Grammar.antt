-- The grammar of edits, line by line: which line may come next, and what is due after it.
use Rattle.std.specs.Prelude.{◌≡◌, ◌⊎◌, ◌+◌, ◌-◌, ◌<◌, ℕ, List, [], ◌∷◌, ◌++◌, length, Option, None, Some, codes}
use Rattle.std.specs.Global.{Global}
use Rattle.cbi_base.specs.Text.{line_of_fields}
use Rattle.cbi_base.specs.declared.identity.ProgramId.{ProgramId}
use Rattle.report_file.specs.declared.draft.Version.TheVariants.{Second}
use Rattle.report_file.specs.declared.report.Entry.{Entry}
use Rattle.report_file.specs.declared.report.Report.{Report}
use Rattle.report_file.specs.declared.run_line.RunLine.{RunLine}
use Rattle.report_file.specs.Grammar.{IsNextEntry}
use Rattle.report_file.specs.RunLine.{IsRunLine}
use Rattle.report_file.specs.Spelling.{site_fields}
use Rattle.session_edits.specs.Spelling.{IsChange, add_fields, byte_limit, edit_fields, rank_limit}
use Rattle.session_edits.specs.declared.draft.Draft.{Draft}
use Rattle.session_edits.specs.declared.draft.Due.{Due}
use Rattle.session_edits.specs.declared.draft.Due.TheVariants as due
use Rattle.session_edits.specs.declared.draft.Reading.{Reading}
use Rattle.session_edits.specs.declared.edit.Edit.{Edit}
use Rattle.session_edits.specs.declared.edit.Edit.TheVariants.{Add, Rank}

-- nothing is read yet
abbrev pub draft_before_edits : Global → ProgramId → Draft
draft_before_edits alloc program = record { alloc = alloc; due = due.Title; program = program; edits = []; current = None; site = 0; ranks = 0 }

abbrev pub edits_start : Global → ProgramId → Reading
edits_start alloc program = record { room = byte_limit; draft = draft_before_edits alloc program }

-- the edits so far, with the report that goes on
abbrev pub current_addition : Option Report → List Edit
current_addition None = []
current_addition (Some report) = Add report ∷ []

abbrev pub edits_so_far : Draft → List Edit
edits_so_far d = d.edits ++ current_addition d.current

abbrev pub report_closed : Draft → Draft
report_closed d = record d { edits = edits_so_far d; current = None }

pub record TitleFollows (d : Draft) (line : List ℕ) (after : Draft) : Type 0 where
  pub line_is : line ≡ codes "cbi-edits 1"
  pub after_is : after ≡ record d { due = due.Edits }

-- a report of the program whose sites are still to come
abbrev pub report_of_run_line : ProgramId → RunLine → Report
report_of_run_line program x = record { program = program; run = x.run; outcome = x.outcome; label = x.label; work = x.work; entries = [] }

-- the line of a run that is added
pub record AddFollows (d : Draft) (line : List ℕ) (after : Draft) : Type 0 where
  pub value : RunLine
  pub is_line : IsRunLine Second value
  pub line_is : line ≡ line_of_fields (add_fields value)
  pub after_is : after ≡ record d { edits = edits_so_far d; current = Some (report_of_run_line d.program value); site = 0 }

-- the line of a site of the run before it
pub record AddedSiteFollows (d : Draft) (line : List ℕ) (after : Draft) : Type 0 where
  pub report : Report
  pub value : Entry
  pub is_current : d.current ≡ Some report
  pub is_next : IsNextEntry d.site value
  pub line_is : line ≡ line_of_fields (site_fields value)
  pub after_is : after ≡ record d { current = Some (record report { entries = report.entries ++ value ∷ [] }); site = value.site + 1 }

-- the line of a removal or a relabelling
pub record ChangeFollows (d : Draft) (line : List ℕ) (after : Draft) : Type 0 where
  pub value : Edit
  pub is_change : IsChange value
  pub line_is : line ≡ line_of_fields (edit_fields value)
  pub after_is : after ≡ record (report_closed d) { edits = edits_so_far d ++ value ∷ [] }

-- the line of a ranking, where one more may come
pub record RankFollows (d : Draft) (line : List ℕ) (after : Draft) : Type 0 where
  pub room : d.ranks < rank_limit
  pub line_is : line ≡ codes "rank"
  pub after_is : after ≡ record (report_closed d) { edits = edits_so_far d ++ Rank ∷ []; ranks = d.ranks + 1 }

pub record EditsEndFollows (d : Draft) (line : List ℕ) (after : Draft) : Type 0 where
  pub line_is : line ≡ codes "end"
  pub after_is : after ≡ record (report_closed d) { due = due.Nothing }

-- the line that is due
abbrev pub EditLineComes : Due → Draft → List ℕ → Draft → Type 0
EditLineComes due.Title d line after = TitleFollows d line after
EditLineComes due.Edits d line after = AddFollows d line after
    ⊎ (AddedSiteFollows d line after ⊎ (ChangeFollows d line after ⊎ (RankFollows d line after ⊎ EditsEndFollows d line after)))
EditLineComes due.Nothing d line after = ⊥

abbrev pub Goes : Draft → List ℕ → Draft → Type 0
Goes d line after = EditLineComes d.due d line after

-- and there is room for it, with its newline
pub record EditLineFollows (r : Reading) (line : List ℕ) (after : Reading) : Type 0 where
  pub fits : length line < r.room
  pub room_is : after.room ≡ r.room - (length line + 1)
  pub goes : Goes r.draft line after.draft

-- the text may end where nothing is due
abbrev pub EditsEnd : Reading → Type 0
EditsEnd r = r.draft.due ≡ due.Nothing

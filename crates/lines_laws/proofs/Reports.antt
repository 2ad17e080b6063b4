-- Of each line of a report it can be told whether it may come.
use Rattle.std.proofs.Common.{◌≡◌, ◌≤◌, ℕ, inl, inr, List, Option, None, Some, codes, refl, sym, ap, subst, ◌∙◌, arith}
use Rattle.cbi_base.specs.Numbers.{◌>>=◌}
use Rattle.cbi_base.specs.Words.{IsId, IsIdText, is_lower_digit, fields_of, line_of_fields}
use Rattle.cbi_base.proofs.IdLemmas.{IsIdText-spells, IsIdText-text_of_id, text_of_id-once}
use Rattle.std.specs.Prelude.{length}
use Rattle.std.specs.List.{list_all}
use Rattle.std.proofs.lemmas.Bool.{cases_Bool, cases_order}
use Rattle.report_file.specs.declared.draft.Version.{Version}
use Rattle.report_file.specs.declared.draft.Version.TheVariants as version
use Rattle.report_file.specs.declared.draft.Due.{Due}
use Rattle.report_file.specs.declared.draft.Due.TheVariants as due
use Rattle.report_file.specs.declared.draft.Draft.{Draft}
use Rattle.report_file.specs.declared.report.Entry.{Entry}
use Rattle.report_file.specs.declared.report.Report.{Report}
use Rattle.report_file.specs.Fields.{value_at_end, entry_of_fields, label_at, outcome_in, program_field, run_at, work_at}
use Rattle.report_file.specs.Grammar.{IsNextEntry, ReportEndFollows, ReportEnds, ReportLineComes, ReportLineFollows, Sets, SiteFollows, report_start, with_entry, with_label, with_outcome, with_program, with_run, with_version, with_work}
use Rattle.report_file.specs.Report.{IsEntry, IsOutcome, IsRun, IsWork}
use Rattle.report_file.specs.Spelling.{SpellsReport, label_fields, outcome_line, program_fields, run_fields, site_fields, title_fields, work_fields}
use Rattle.report_file.proofs.LineLemmas.{entry-reads, label-reads, outcome-reads, program-none, program-some, run-reads, work-reads}
use Rattle.report_file.proofs.Once.{leads-once}
use Rattle.report_file.proofs.Whole.{read_whole, reads-spelled, spelled-reads}
use Rattle.lines_laws.specs.Laws.{IsReadAs, ReportsAreLines}
use Rattle.lines_laws.proofs.Walking.{Holds, IsLineOf, Told, either-told, le-told, read-told, the-spelling, told-with, word-told}

-- a line that sets a value
sets-told : {A : Type 0} (spell : A → List (List ℕ)) (Good : A → Type 0) (next : A → Draft) (line : List ℕ) → Told (IsLineOf spell Good line) → Told (Sets spell Good next line)
sets-told spell Good next line (inl is) = inl (next is.0, record { value = is.0; is_good = is.1.is_good; line_is = is.1.line_is; after_is = refl })
sets-told spell Good next line (inr never) = inr (λ after s. never s.value (record { is_good = s.is_good; line_is = s.line_is }))

-- one of the two titles
no-title : (title : Version → List (List ℕ)) (line : List ℕ) → (line ≡ line_of_fields (title version.First) → ⊥) → (line ≡ line_of_fields (title version.Second) → ⊥) → (v : Version) → line ≡ line_of_fields (title v) → ⊥
no-title title line no_first no_second version.First is = no_first is
no-title title line no_first no_second version.Second is = no_second is

pub title-told : (title : Version → List (List ℕ)) (line : List ℕ) → Told (IsLineOf title (λ _. Unit {0}) line)
title-told title line =
    elim (word-told line (line_of_fields (title version.First))) [
      | inl is ↦ inl (version.First, record { is_good = tt; line_is = is })
      | inr no_first ↦ elim (word-told line (line_of_fields (title version.Second))) [
        | inl is ↦ inl (version.Second, record { is_good = tt; line_is = is })
        | inr no_second ↦ inr (λ v is. no-title title line no_first no_second v is.line_is)
      ]
    ]

-- the text of an identity
same-told : (a b : ℕ) → Holds (a ≡ b)
same-told a b = elim (cases_order a b) [ inl same ↦ inl same | inr (inl less) ↦ inr (λ same. omega arith) | inr (inr more) ↦ inr (λ same. omega arith) ]

id-told : (text : List ℕ) → Holds (IsIdText text)
id-told text =
    elim (same-told (length text) 64) [
      | inr other ↦ inr (λ is. other is.long)
      | inl long ↦ elim (cases_Bool (list_all is_lower_digit text)) [
        | inl digits ↦ inl (record { long = long; digits = digits })
        | inr other ↦ inr (λ is. let e = sym other ∙ is.digits in cc)
      ]
    ]

text-told : (line text : List ℕ) → Some text ≡ program_field (fields_of line) → Holds (IsIdText text) → Told (IsLineOf program_fields IsId line)
text-told line text some (inl is) =
    let of = IsIdText-spells text is in
    read-told program_fields IsId line (Some of.id) (program-some line text (Some of.id) some (λ _. is) (λ id is_id text_is. ap Some (text_of_id-once of.id id of.is is_id (sym of.text_is ∙ text_is))))
text-told line text some (inr never) =
    read-told program_fields IsId line None (program-some line text None some (λ found. cc) (λ id is_id text_is. absurd (never (subst IsIdText (sym text_is) (IsIdText-text_of_id id is_id)))))

field-told : (line : List ℕ) (text : Option (List ℕ)) → text ≡ program_field (fields_of line) → Told (IsLineOf program_fields IsId line)
field-told line None none = read-told program_fields IsId line None (program-none line none)
field-told line (Some text) some = text-told line text some (id-told text)

pub program-told : (line : List ℕ) → Told (IsLineOf program_fields IsId line)
program-told line = field-told line (program_field (fields_of line)) refl

-- the line of a site that is as great as another
pub entry-told : (site : ℕ) (line : List ℕ) → Told (IsLineOf site_fields (IsNextEntry site) line)
entry-told site line =
    elim (told-with site_fields IsEntry (λ (e : Entry). site ≤ e.site) line (entry_of_fields (fields_of line)) (entry-reads line (entry_of_fields (fields_of line)) refl) (λ e. le-told site e.site)) [
      | inl is ↦ inl (is.0, record { is_good = record { is_entry = is.1.0.is_good; rises = is.1.1 }; line_is = is.1.0.line_is })
      | inr never ↦ inr (λ e is. never e (record { is_good = is.is_good.is_entry; line_is = is.line_is }, is.is_good.rises))
    ]

end-told : (d : Draft) (line : List ℕ) → Told (ReportEndFollows d line)
end-told d line = elim (word-told line (codes "end")) [ inl is ↦ inl (record d { due = due.Nothing }, (is, refl)) | inr other ↦ inr (λ after s. other s.0) ]

tells : (now : Due) (d : Draft) (line : List ℕ) → Told (ReportLineComes now d line)
tells due.Title d line = sets-told title_fields (λ _. Unit {0}) (with_version d) line (title-told title_fields line)
tells due.Program d line = sets-told program_fields IsId (with_program d) line (program-told line)
tells due.Run d line = sets-told run_fields IsRun (with_run d) line (read-told run_fields IsRun line (run_at (fields_of line) >>= value_at_end) (run-reads line (run_at (fields_of line) >>= value_at_end) refl))
tells due.Outcome d line = sets-told outcome_line IsOutcome (with_outcome d) line (read-told outcome_line IsOutcome line (outcome_in (fields_of line)) (outcome-reads line (outcome_in (fields_of line)) refl))
tells due.Label d line =
    sets-told label_fields (λ _. Unit {0}) (with_label d) line (read-told label_fields (λ _. Unit {0}) line (label_at (fields_of line) >>= value_at_end) (label-reads line (label_at (fields_of line) >>= value_at_end) refl))
tells due.Work d line = sets-told work_fields IsWork (with_work d) line (read-told work_fields IsWork line (work_at (fields_of line) >>= value_at_end) (work-reads line (work_at (fields_of line) >>= value_at_end) refl))
tells due.Sites d line = either-told (SiteFollows d line) (ReportEndFollows d line) (sets-told site_fields (IsNextEntry d.site) (with_entry d) line (entry-told d.site line)) (end-told d line)
tells due.Nothing d line = inr (λ after s. s)

may-end : (now : Due) → Holds (now ≡ due.Nothing)
may-end due.Nothing = inl refl
may-end now = inr (λ is. cc)

abbrev said : Draft → Report
said d = d.report

spelled : (text : List ℕ) (r : Report) → SpellsReport text r → IsReadAs ReportLineFollows ReportEnds report_start said text r
spelled text r is = let read = spelled-reads text r is in record { to = read_whole read.version r; reads = read.reads; said_is = refl }

pub reports_are_lines : ReportsAreLines
reports_are_lines =
    the-spelling ReportLineFollows ReportEnds report_start said SpellsReport leads-once (λ d line. tells d.due d line) (λ d. may-end d.due) (λ text to reads. reads-spelled text report_start to refl reads) spelled

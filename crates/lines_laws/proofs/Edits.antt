-- Of each line of edits it can be told whether it may come.
use Rattle.std.proofs.Common.{◌≡◌, ◌⊎◌, ◌<◌, ◌+◌, ◌-◌, ℕ, inl, inr, List, [], ◌∷◌, ◌++◌, Option, None, Some, codes, length, refl, sym, ap, ◌∙◌}
use Rattle.std.specs.Prelude.{take, drop}
use Rattle.std.specs.Global.{Global}
use Rattle.std.proofs.lemmas.List.{take-append-drop}
use Rattle.cbi_base.specs.Text.{fields_of}
use Rattle.cbi_base.specs.declared.identity.ProgramId.{ProgramId}
use Rattle.report_file.specs.declared.draft.Version.TheVariants.{Second}
use Rattle.report_file.specs.declared.report.Report.{Report}
use Rattle.report_file.specs.Grammar.{IsNextEntry}
use Rattle.report_file.specs.RunLine.{IsRunLine, second_of}
use Rattle.report_file.specs.Spelling.{site_fields}
use Rattle.report_file.proofs.RunLines.{second-reads}
use Rattle.session_edits.specs.declared.draft.Draft.{Draft}
use Rattle.session_edits.specs.declared.draft.Due.{Due}
use Rattle.session_edits.specs.declared.draft.Due.TheVariants as due
use Rattle.session_edits.specs.declared.draft.Reading.{Reading}
use Rattle.session_edits.specs.declared.edit.Edit.{Edit}
use Rattle.session_edits.specs.declared.edit.Edit.TheVariants.{Rank}
use Rattle.session_edits.specs.Fields.{change_in}
use Rattle.session_edits.specs.Grammar.{AddFollows, AddedSiteFollows, ChangeFollows, EditLineComes, EditLineFollows, EditsEnd, EditsEndFollows, Goes, RankFollows, TitleFollows, report_of_run_line, report_closed, edits_start, edits_so_far}
use Rattle.session_edits.specs.Spelling.{IsChange, SpellsEdits, add_fields, edit_fields, rank_limit}
use Rattle.session_edits.proofs.LineLemmas.{add-none, add-reads, change-reads}
use Rattle.session_edits.proofs.Leads.{spelled-reads}
use Rattle.session_edits.proofs.Once.{leads-once}
use Rattle.session_edits.proofs.Spelled.{reads-spelled}
use Rattle.lines_laws.specs.Laws.{EditsAreLines, IsReadAs}
use Rattle.lines_laws.proofs.Reports.{entry-told}
use Rattle.lines_laws.proofs.Walking.{Holds, IsLineOf, Told, either-told, lt-told, read-told, the-spelling, word-told}

title-line : (d : Draft) (line : List ℕ) → Told (TitleFollows d line)
title-line d line =
    elim (word-told line (codes "cbi-edits 1")) [ inl is ↦ inl (record d { due = due.Edits }, record { line_is = is; after_is = refl }) | inr other ↦ inr (λ after s. other s.line_is) ]

-- what follows `add ` in a line
add-behind : (line : List ℕ) → Holds (take 4 line ≡ codes "add ") → Told (IsLineOf add_fields (IsRunLine Second) line)
add-behind line (inr other) = read-told add_fields (IsRunLine Second) line None (add-none line (λ rest is. other (ap (take 4) is)))
add-behind line (inl is) =
    let rest = drop 4 line in
    let split : line ≡ codes "add " ++ rest = sym (take-append-drop 4 line) ∙ ap (λ (front : List ℕ). front ++ rest) is in
    read-told add_fields (IsRunLine Second) line (second_of (fields_of rest)) (add-reads line rest (second_of (fields_of rest)) split (second-reads rest (second_of (fields_of rest)) refl))

add-line : (d : Draft) (line : List ℕ) → Told (AddFollows d line)
add-line d line =
    elim (add-behind line (word-told (take 4 line) (codes "add "))) [
      | inl is ↦ inl (record d { edits = edits_so_far d; current = Some (report_of_run_line d.program is.0); site = 0 }, record { value = is.0; is_line = is.1.is_good; line_is = is.1.line_is; after_is = refl })
      | inr never ↦ inr (λ after s. never s.value (record { is_good = s.is_line; line_is = s.line_is }))
    ]

-- the line of a site of the run before it
site-behind : (d : Draft) (line : List ℕ) (current : Option Report) → d.current ≡ current → Told (IsLineOf site_fields (IsNextEntry d.site) line) → Told (AddedSiteFollows d line)
site-behind d line None is entry = inr (λ after s. let e = sym is ∙ s.is_current in cc)
site-behind d line (Some r) is (inr never) = inr (λ after s. never s.value (record { is_good = s.is_next; line_is = s.line_is }))
site-behind d line (Some r) is (inl entry) =
    inl (
      record d { current = Some (record r { entries = r.entries ++ entry.0 ∷ [] }); site = entry.0.site + 1 },
      record {
        report = r;
        value = entry.0;
        is_current = is;
        is_next = entry.1.is_good;
        line_is = entry.1.line_is;
        after_is = refl;
      },
    )

change-line : (d : Draft) (line : List ℕ) → Told (ChangeFollows d line)
change-line d line =
    elim (read-told edit_fields IsChange line (change_in (fields_of line)) (change-reads line (change_in (fields_of line)) refl)) [
      | inl is ↦ inl (record (report_closed d) { edits = edits_so_far d ++ is.0 ∷ [] }, record { value = is.0; is_change = is.1.is_good; line_is = is.1.line_is; after_is = refl })
      | inr never ↦ inr (λ after s. never s.value (record { is_good = s.is_change; line_is = s.line_is }))
    ]

rank-line : (d : Draft) (line : List ℕ) → Told (RankFollows d line)
rank-line d line =
    elim (word-told line (codes "rank")) [
      | inr other ↦ inr (λ after s. other s.line_is)
      | inl is ↦ elim (lt-told d.ranks rank_limit) [
        | inl room ↦ inl (record (report_closed d) { edits = edits_so_far d ++ Rank ∷ []; ranks = d.ranks + 1 }, record { room = room; line_is = is; after_is = refl })
        | inr full ↦ inr (λ after s. full s.room)
      ]
    ]

end-line : (d : Draft) (line : List ℕ) → Told (EditsEndFollows d line)
end-line d line =
    elim (word-told line (codes "end")) [ inl is ↦ inl (record (report_closed d) { due = due.Nothing }, record { line_is = is; after_is = refl }) | inr other ↦ inr (λ after s. other s.line_is) ]

comes-told : (now : Due) (d : Draft) (line : List ℕ) → Told (EditLineComes now d line)
comes-told due.Title d line = title-line d line
comes-told due.Edits d line =
    either-told (AddFollows d line) (λ after. AddedSiteFollows d line after ⊎ (ChangeFollows d line after ⊎ (RankFollows d line after ⊎ EditsEndFollows d line after))) (add-line d line)
    (either-told (AddedSiteFollows d line) (λ after. ChangeFollows d line after ⊎ (RankFollows d line after ⊎ EditsEndFollows d line after)) (site-behind d line d.current refl (entry-told d.site line))
    (either-told (ChangeFollows d line) (λ after. RankFollows d line after ⊎ EditsEndFollows d line after) (change-line d line)
    (either-told (RankFollows d line) (EditsEndFollows d line) (rank-line d line) (end-line d line))))
comes-told due.Nothing d line = inr (λ after s. s)

-- and whether there is room for it
with-room : (r : Reading) (line : List ℕ) → Holds (length line < r.room) → Told (Goes r.draft line) → Told (EditLineFollows r line)
with-room r line (inr full) goes = inr (λ after s. full s.fits)
with-room r line (inl fits) (inr never) = inr (λ after s. never after.draft s.goes)
with-room r line (inl fits) (inl next) = inl (let after : Reading = record { room = r.room - (length line + 1); draft = next.0 } in after, record { fits = fits; room_is = refl; goes = next.1 })

tells : (r : Reading) (line : List ℕ) → Told (EditLineFollows r line)
tells r line = with-room r line (lt-told (length line) r.room) (comes-told r.draft.due r.draft line)

may-end : (now : Due) → Holds (now ≡ due.Nothing)
may-end due.Title = inr (λ is. cc)
may-end due.Edits = inr (λ is. cc)
may-end due.Nothing = inl refl

abbrev said : Reading → List Edit
said r = r.draft.edits

spelled : (alloc : Global) (program : ProgramId) (text : List ℕ) (edits : List Edit) → SpellsEdits program text edits → IsReadAs EditLineFollows EditsEnd (edits_start alloc program) said text edits
spelled alloc program text edits is = let read = spelled-reads alloc program text edits is in record { to = read.to; reads = read.reads; said_is = read.edits_are }

pub edits_are_lines : EditsAreLines
edits_are_lines alloc program is_id =
    the-spelling EditLineFollows EditsEnd (edits_start alloc program) said (SpellsEdits program) leads-once tells (λ r. may-end r.draft.due) (λ text to reads. reads-spelled program text alloc (edits_start alloc program) to is_id refl reads) (spelled alloc program)

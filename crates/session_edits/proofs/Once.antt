-- A line is that of one value: so it leads to one state, and a text spells one list of edits.
use Rattle.std.proofs.Common.{◌≡◌, ◌+◌, ℕ, List, [], ◌∷◌, ◌++◌, Some, ap, sym, ◌∙◌, refl, arith}
use Rattle.std.specs.Global.{Global}
use Rattle.base_lists.proofs.Options.{some_is}
use Rattle.cbi_base.specs.Words.{LeadsOnce, fields_of, line_of_fields}
use Rattle.cbi_base.specs.declared.identity.ProgramId.{ProgramId}
use Rattle.cbi_base.proofs.LineLemmas.{reads-once}
use Rattle.report_file.specs.declared.draft.Version.TheVariants.{Second}
use Rattle.report_file.specs.declared.report.Entry.{Entry}
use Rattle.report_file.specs.declared.report.Report.{Report}
use Rattle.report_file.specs.declared.run_line.RunLine.{RunLine}
use Rattle.report_file.specs.Fields.{entry_of_fields}
use Rattle.report_file.specs.Report.{IsEntry}
use Rattle.report_file.specs.RunLine.{IsRunLine, run_line_fields, second_of}
use Rattle.report_file.specs.Spelling.{site_fields}
use Rattle.report_file.proofs.LineLemmas.{entry-reads}
use Rattle.report_file.proofs.Once.{once}
use Rattle.report_file.proofs.RunLines.{second-reads}
use Rattle.session_edits.specs.declared.draft.Draft.{Draft}
use Rattle.session_edits.specs.declared.draft.Due.{Due}
use Rattle.session_edits.specs.declared.draft.Due.TheVariants as due
use Rattle.session_edits.specs.declared.draft.Reading.{Reading}
use Rattle.session_edits.specs.declared.edit.Edit.{Edit}
use Rattle.session_edits.specs.Fields.{change_in}
use Rattle.session_edits.specs.Grammar.{AddFollows, AddedSiteFollows, ChangeFollows, EditLineComes, EditLineFollows, EditsEnd, report_of_run_line, report_closed, edits_start, edits_so_far}
use Rattle.session_edits.specs.Spelling.{IsChange, SpellsEdits, add_fields, edit_fields}
use Rattle.session_edits.proofs.Choices.{by-kind, only-add, only-change, only-end, only-rank, only-site, second-add, second-change, second-end, second-rank, second-site}
use Rattle.session_edits.proofs.Leads.{spelled-reads}
use Rattle.session_edits.proofs.LineLemmas.{add-reads, change-reads}

run-once : (line : List ℕ) (x y : RunLine) → IsRunLine Second x → IsRunLine Second y → line ≡ line_of_fields (add_fields x) → line ≡ line_of_fields (add_fields y) → x ≡ y
run-once line x y is_x is_y line_x line_y =
    let rest = line_of_fields (run_line_fields Second x) in
    let answer = second_of (fields_of rest) in
    once add_fields (IsRunLine Second) line answer (add-reads line rest answer line_x (second-reads rest answer refl)) x y is_x is_y line_x line_y

add-same : (d : Draft) (line : List ℕ) (a b : Draft) → AddFollows d line a → AddFollows d line b → a ≡ b
add-same d line a b s t =
    s.after_is ∙ ap (λ (x : RunLine). record d { edits = edits_so_far d; current = Some (report_of_run_line d.program x); site = 0 }) (run-once line s.value t.value s.is_line t.is_line s.line_is t.line_is) ∙ sym t.after_is

site-same : (d : Draft) (line : List ℕ) (a b : Draft) → AddedSiteFollows d line a → AddedSiteFollows d line b → a ≡ b
site-same d line a b s t =
    let entry : s.value ≡ t.value = once site_fields IsEntry line (entry_of_fields (fields_of line)) (entry-reads line (entry_of_fields (fields_of line)) refl) s.value t.value s.is_next.is_entry t.is_next.is_entry s.line_is t.line_is in
    let current : s.report ≡ t.report = some_is (sym s.is_current ∙ t.is_current) in
    s.after_is
    ∙ ap (λ (e : Entry). record d { current = Some (record s.report { entries = s.report.entries ++ e ∷ [] }); site = e.site + 1 }) entry
    ∙ ap (λ (r : Report). record d { current = Some (record r { entries = r.entries ++ t.value ∷ [] }); site = t.value.site + 1 }) current
    ∙ sym t.after_is

change-same : (d : Draft) (line : List ℕ) (a b : Draft) → ChangeFollows d line a → ChangeFollows d line b → a ≡ b
change-same d line a b s t =
    let change : s.value ≡ t.value = once edit_fields IsChange line (change_in (fields_of line)) (change-reads line (change_in (fields_of line)) refl) s.value t.value s.is_change t.is_change s.line_is t.line_is in
    s.after_is ∙ ap (λ (e : Edit). record (report_closed d) { edits = edits_so_far d ++ e ∷ [] }) change ∙ sym t.after_is

comes-once : (now : Due) (d : Draft) (line : List ℕ) (a b : Draft) → EditLineComes now d line a → EditLineComes now d line b → a ≡ b
comes-once due.Title d line a b s t = s.after_is ∙ sym t.after_is
comes-once due.Edits d line a b s t =
    by-kind d line a
    (λ f. add-same d line a b f (only-add d line b (second-add d line a f) t))
    (λ f. site-same d line a b f (only-site d line b (second-site d line a f) t))
    (λ f. change-same d line a b f (only-change d line b (second-change d line a f) t))
    (λ f. f.after_is ∙ sym (only-rank d line b (second-rank d line a f) t).after_is)
    (λ f. let is = second-end d line a f in f.after_is ∙ sym (only-end d line b (λ e. omega arith) (λ e. omega arith) (λ e. omega arith) (λ e. omega arith) t).after_is) s
comes-once due.Nothing d line a b s t = absurd s

same-reading : (a b : Reading) → a.room ≡ b.room → a.draft ≡ b.draft → a ≡ b
same-reading a b room draft = ap (λ (n : ℕ). record a { room = n }) room ∙ ap (λ (d : Draft). record b { draft = d }) draft

pub leads-once : LeadsOnce EditLineFollows
leads-once = λ from line a b x y. same-reading a b (x.room_is ∙ sym y.room_is) (comes-once from.draft.due from.draft line a.draft b.draft x.goes y.goes)

pub spells-once : (alloc : Global) (program : ProgramId) (bytes : List ℕ) (a b : List Edit) → SpellsEdits program bytes a → SpellsEdits program bytes b → a ≡ b
spells-once alloc program bytes a b spells_a spells_b =
    let x = spelled-reads alloc program bytes a spells_a in
    let y = spelled-reads alloc program bytes b spells_b in
    let same = reads-once EditLineFollows EditsEnd leads-once (edits_start alloc program) x.to y.to bytes x.reads y.reads in
    sym x.edits_are ∙ ap (λ (r : Reading). r.draft.edits) same ∙ y.edits_are

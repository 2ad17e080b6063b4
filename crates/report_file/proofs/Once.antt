-- A line is that of one value: so it leads to one state, and a text spells one report.
use Rattle.std.proofs.Common.{◌≡◌, ◌+◌, ℕ, ⊎_elim, List, [], ◌∷◌, ◌++◌, Option, codes, get_or, ap, sym, ◌∙◌, refl, arith}
use Rattle.base_lists.proofs.Options.{some_is}
use Rattle.cbi_base.specs.Words.{LeadsOnce, IsId, text_of_id, fields_of, line_of_fields}
use Rattle.cbi_base.specs.Numbers.{◌>>=◌}
use Rattle.cbi_base.specs.declared.identity.ProgramId.{ProgramId}
use Rattle.cbi_base.proofs.IdLemmas.{text_of_id-once}
use Rattle.cbi_base.proofs.LineLemmas.{reads-once}
use Rattle.report_file.specs.declared.draft.Version.{Version}
use Rattle.report_file.specs.declared.draft.Version.TheVariants as version
use Rattle.report_file.specs.declared.draft.Due.{Due}
use Rattle.report_file.specs.declared.draft.Due.TheVariants as due
use Rattle.report_file.specs.declared.draft.Draft.{Draft}
use Rattle.report_file.specs.declared.report.Entry.{Entry}
use Rattle.report_file.specs.declared.report.Report.{Report}
use Rattle.report_file.specs.Fields.{value_at_end, entry_of_fields, label_at, outcome_in, run_at, work_at}
use Rattle.report_file.specs.Grammar.{ReportLineComes, ReportEnds, ReportEndFollows, ReportLineFollows, Sets, SiteFollows}
use Rattle.report_file.specs.Reading.{Reads}
use Rattle.report_file.specs.Report.{IsEntry, IsOutcome, IsRun, IsWork}
use Rattle.report_file.specs.Spelling.{SpellsReport, label_fields, outcome_line, program_fields, run_fields, site_fields, title_fields, work_fields}
use Rattle.report_file.proofs.LineLemmas.{entry-reads, label-reads, outcome-reads, row-fields, row-program, run-reads, work-reads}
use Rattle.report_file.proofs.Whole.{read_whole, spelled-reads}

-- what is read of a line is the one value that it spells
pub once : {A : Type 0} (spell : A → List (List ℕ)) (Good : A → Type 0) (line : List ℕ) (answer : Option A) → Reads spell Good line answer → (x y : A) → Good x → Good y → line ≡ line_of_fields (spell x) → line ≡ line_of_fields (spell y) → x ≡ y
once spell Good line answer reads x y good_x good_y is_x is_y = some_is (sym (reads.only x good_x is_x) ∙ reads.only y good_y is_y)

sets-once : {A : Type 0} (spell : A → List (List ℕ)) (Good : A → Type 0) (next : A → Draft) (line : List ℕ) (a b : Draft) → ((x y : A) → Good x → Good y → line ≡ line_of_fields (spell x) → line ≡ line_of_fields (spell y) → x ≡ y) → Sets spell Good next line a → Sets spell Good next line b → a ≡ b
sets-once spell Good next line a b one s t =
    s.after_is ∙ ap next (one s.value t.value s.is_good t.is_good s.line_is t.line_is) ∙ sym t.after_is

pub id-once : (line : List ℕ) (x y : ProgramId) → IsId x → IsId y → line ≡ line_of_fields (program_fields x) → line ≡ line_of_fields (program_fields y) → x ≡ y
id-once line x y is_x is_y line_x line_y =
    let fields : program_fields x ≡ program_fields y = sym (row-fields (program_fields x) (row-program x is_x)) ∙ ap fields_of (sym line_x ∙ line_y) ∙ row-fields (program_fields y) (row-program y is_y) in
    let texts : text_of_id x ≡ text_of_id y = cc in
    text_of_id-once x y is_x is_y texts

title-once : (line : List ℕ) (x y : Version) → line ≡ line_of_fields (title_fields x) → line ≡ line_of_fields (title_fields y) → x ≡ y
title-once line version.First version.First is_x is_y = refl
title-once line version.Second version.Second is_x is_y = refl
title-once line version.First version.Second is_x is_y = let e = ap (λ l. get_or l 11 0) (sym is_x ∙ is_y) in absurd (omega arith)
title-once line version.Second version.First is_x is_y = let e = ap (λ l. get_or l 11 0) (sym is_x ∙ is_y) in absurd (omega arith)

site-no-end : (line : List ℕ) (e : Entry) → line ≡ line_of_fields (site_fields e) → line ≡ codes "end" → ⊥
site-no-end line e is_site is_end = let first = ap (λ l. get_or l 0 0) (sym is_site ∙ is_end) in omega arith

site-once : (d : Draft) (line : List ℕ) (a b : Draft) → SiteFollows d line a → SiteFollows d line b → a ≡ b
site-once d line a b s t =
    s.after_is ∙ ap (λ e. record d { site = e.site + 1; report = record d.report { entries = d.report.entries ++ e ∷ [] } }) (once site_fields IsEntry line (entry_of_fields (fields_of line)) (entry-reads line (entry_of_fields (fields_of line)) refl) s.value t.value s.is_good.is_entry t.is_good.is_entry s.line_is t.line_is)
    ∙ sym t.after_is

comes-once : (due : Due) (d : Draft) (line : List ℕ) (a b : Draft) → ReportLineComes due d line a → ReportLineComes due d line b → a ≡ b
comes-once due.Title d line a b s t = sets-once title_fields (λ _. Unit {0}) _ line a b (λ x y _ _ is_x is_y. title-once line x y is_x is_y) s t
comes-once due.Program d line a b s t = sets-once program_fields IsId _ line a b (id-once line) s t
comes-once due.Run d line a b s t = sets-once run_fields IsRun _ line a b (once run_fields IsRun line (run_at (fields_of line) >>= value_at_end) (run-reads line (run_at (fields_of line) >>= value_at_end) refl)) s t
comes-once due.Outcome d line a b s t = sets-once outcome_line IsOutcome _ line a b (once outcome_line IsOutcome line (outcome_in (fields_of line)) (outcome-reads line (outcome_in (fields_of line)) refl)) s t
comes-once due.Label d line a b s t = sets-once label_fields (λ _. Unit {0}) _ line a b (once label_fields (λ _. Unit {0}) line (label_at (fields_of line) >>= value_at_end) (label-reads line (label_at (fields_of line) >>= value_at_end) refl)) s t
comes-once due.Work d line a b s t = sets-once work_fields IsWork _ line a b (once work_fields IsWork line (work_at (fields_of line) >>= value_at_end) (work-reads line (work_at (fields_of line) >>= value_at_end) refl)) s t
comes-once due.Sites d line a b s t =
    ⊎_elim (λ (x : SiteFollows d line a). ⊎_elim (λ (y : SiteFollows d line b). site-once d line a b x y) (λ (y : ReportEndFollows d line b). absurd (site-no-end line x.value x.line_is y.0)) t)
    (λ (x : ReportEndFollows d line a). ⊎_elim (λ (y : SiteFollows d line b). absurd (site-no-end line y.value y.line_is x.0)) (λ (y : ReportEndFollows d line b). x.1 ∙ sym y.1) t) s
comes-once due.Nothing d line a b s t = absurd s

pub leads-once : LeadsOnce ReportLineFollows
leads-once = λ from line a b x y. comes-once from.due from line a b x y

pub spells-once : (bytes : List ℕ) (a b : Report) → SpellsReport bytes a → SpellsReport bytes b → a ≡ b
spells-once bytes a b spells_a spells_b =
    let x = spelled-reads bytes a spells_a in
    let y = spelled-reads bytes b spells_b in
    ap (λ (d : Draft). d.report) (reads-once ReportLineFollows ReportEnds leads-once _ (read_whole x.version a) (read_whole y.version b) bytes x.reads y.reads)

-- A line is that of one value: so it leads to one state, and a text spells one collection.
use Rattle.std.proofs.Common.{◌≡◌, ◌⊎◌, ◌+◌, ℕ, ⊎_elim, List, [], ◌∷◌, ◌++◌, Some, codes, get_or, ap, sym, ◌∙◌, refl, arith}
use Rattle.std.specs.Global.{Global}
use Rattle.base_lists.proofs.Options.{some_is}
use Rattle.cbi_base.specs.Words.{LeadsOnce, fields_of, line_of_fields}
use Rattle.cbi_base.specs.declared.identity.ProgramId.{ProgramId}
use Rattle.cbi_base.proofs.LineLemmas.{reads-once}
use Rattle.report_file.specs.declared.draft.Draft as report
use Rattle.report_file.specs.declared.draft.Due.TheVariants as report_due
use Rattle.report_file.specs.declared.draft.Version.{Version}
use Rattle.report_file.specs.declared.draft.Version.TheVariants as version
use Rattle.report_file.specs.declared.report.Entry.{Entry}
use Rattle.report_file.specs.declared.report.Report.{Report}
use Rattle.report_file.specs.declared.run_line.RunLine.{RunLine}
use Rattle.report_file.specs.Fields.{entry_of_fields}
use Rattle.report_file.specs.Grammar as report_grammar
use Rattle.report_file.specs.Report.{IsEntry}
use Rattle.report_file.specs.RunLine.{IsRunLine, first_run_line, run_line_fields, second_of}
use Rattle.report_file.specs.Spelling.{site_fields}
use Rattle.report_file.proofs.LineLemmas.{entry-reads}
use Rattle.report_file.proofs.Once.{once, id-once}
use Rattle.report_file.proofs.RunLines.{first-reads, second-reads}
use Rattle.collector.specs.declared.collection.Bundle.{Bundle}
use Rattle.collector.specs.declared.draft.Draft.{Draft}
use Rattle.collector.specs.declared.draft.Due.{Due}
use Rattle.collector.specs.declared.draft.Due.TheVariants as due
use Rattle.collector.specs.Grammar.{BundleEnds, BundleLineComes, BundleLineFollows, EndFollows, RunFollows, RunSiteFollows, report_without_sites, bundle_start, draft_reports}
use Rattle.collector.specs.Spelling.{SpellsBundle, bundle_title}
use Rattle.collector.proofs.Choices.{end-begins, only-end, only-run, only-site, run-begins, site-begins}
use Rattle.collector.proofs.Leads.{spelled-reads}

title-once : (line : List ℕ) (x y : Version) → line ≡ line_of_fields (bundle_title x) → line ≡ line_of_fields (bundle_title y) → x ≡ y
title-once line version.First version.First is_x is_y = refl
title-once line version.Second version.Second is_x is_y = refl
title-once line version.First version.Second is_x is_y = let e = ap (λ l. get_or l 15 0) (sym is_x ∙ is_y) in absurd (omega arith)
title-once line version.Second version.First is_x is_y = let e = ap (λ l. get_or l 15 0) (sym is_x ∙ is_y) in absurd (omega arith)

line-once : (v : Version) (line : List ℕ) (x y : RunLine) → IsRunLine v x → IsRunLine v y → line ≡ line_of_fields (run_line_fields v x) → line ≡ line_of_fields (run_line_fields v y) → x ≡ y
line-once version.First line x y is_x is_y line_x line_y = once (run_line_fields version.First) (IsRunLine version.First) line (first_run_line (fields_of line)) (first-reads line (first_run_line (fields_of line)) refl) x y is_x is_y line_x line_y
line-once version.Second line x y is_x is_y line_x line_y = once (run_line_fields version.Second) (IsRunLine version.Second) line (second_of (fields_of line)) (second-reads line (second_of (fields_of line)) refl) x y is_x is_y line_x line_y

run-same : (d : Draft) (line : List ℕ) (a b : Draft) → RunFollows d line a → RunFollows d line b → a ≡ b
run-same d line a b s t =
    s.after_is
    ∙ ap (λ (x : RunLine). record d { reports = draft_reports d; current = Some (report_without_sites d.program x); run = x.run + 1; site = 0 }) (line-once d.version line s.value t.value s.is_line t.is_line s.line_is t.line_is)
    ∙ sym t.after_is

site-same : (d : Draft) (line : List ℕ) (a b : Draft) → RunSiteFollows d line a → RunSiteFollows d line b → a ≡ b
site-same d line a b s t =
    let entry : s.value ≡ t.value = once site_fields IsEntry line (entry_of_fields (fields_of line)) (entry-reads line (entry_of_fields (fields_of line)) refl) s.value t.value s.is_next.is_entry t.is_next.is_entry s.line_is t.line_is in
    let current : s.report ≡ t.report = some_is (sym s.is_current ∙ t.is_current) in
    s.after_is
    ∙ ap (λ (e : Entry). record d { current = Some (record s.report { entries = s.report.entries ++ e ∷ [] }); site = e.site + 1; marks = d.marks + 1 }) entry
    ∙ ap (λ (r : Report). record d { current = Some (record r { entries = r.entries ++ t.value ∷ [] }); site = t.value.site + 1; marks = d.marks + 1 }) current
    ∙ sym t.after_is

site-alone : (line : List ℕ) (e : Entry) → line ≡ line_of_fields (site_fields e) → (get_or line 0 0 ≡ 114 → ⊥) × (line ≡ codes "end" → ⊥)
site-alone line e is =
    let first = site-begins e line is in (λ r. omega arith, λ over. let other = end-begins line over in omega arith)

comes-once : (due : Due) (d : Draft) (line : List ℕ) (a b : Draft) → BundleLineComes due d line a → BundleLineComes due d line b → a ≡ b
comes-once due.Title d line a b s t =
    s.after_is ∙ ap (λ v. record d { due = due.Program; version = v }) (title-once line s.value t.value s.line_is t.line_is) ∙ sym t.after_is
comes-once due.Program d line a b s t =
    s.after_is ∙ ap (λ p. record d { due = due.Runs; program = p }) (id-once line s.value t.value s.is_id t.is_id s.line_is t.line_is) ∙ sym t.after_is
comes-once due.Runs d line a b s t =
    ⊎_elim (λ (run : RunFollows d line a). run-same d line a b run (only-run d line b (run-begins d.version run.value line run.line_is) t))
    (λ (other : RunSiteFollows d line a ⊎ EndFollows d line a). ⊎_elim (λ (site : RunSiteFollows d line a). let alone = site-alone line site.value site.line_is in site-same d line a b site (only-site d line b alone.0 alone.1 t)) (λ (over : EndFollows d line a). over.after_is ∙ sym (only-end d line b over.line_is t).after_is) other) s
comes-once due.Nothing d line a b s t = absurd s

pub leads-once : LeadsOnce BundleLineFollows
leads-once = λ from line a b x y. comes-once from.due from line a b x y

same-bundle : (a b : Bundle) → a.program ≡ b.program → a.reports ≡ b.reports → a ≡ b
same-bundle a b is_program are = ap (λ (p : ProgramId). record a { program = p }) is_program ∙ ap (λ (rs : List Report). record b { reports = rs }) are

pub spells-once : (alloc : Global) (bytes : List ℕ) (a b : Bundle) → SpellsBundle bytes a → SpellsBundle bytes b → a ≡ b
spells-once alloc bytes a b spells_a spells_b =
    let x = spelled-reads alloc bytes a spells_a in
    let y = spelled-reads alloc bytes b spells_b in
    let same = reads-once BundleLineFollows BundleEnds leads-once (bundle_start alloc) x.to y.to bytes x.reads y.reads in
    same-bundle a b (sym x.program_is ∙ ap (λ (d : Draft). d.program) same ∙ y.program_is) (sym x.reports_are ∙ ap (λ (d : Draft). d.reports) same ∙ y.reports_are)

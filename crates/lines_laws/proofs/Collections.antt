-- Of each line of a collection it can be told whether it may come.
use Rattle.std.proofs.Common.{◌≡◌, ◌⊎◌, ◌<◌, ◌≤◌, ◌+◌, ℕ, inl, inr, List, [], ◌∷◌, ◌++◌, Option, None, Some, codes, length, refl, sym, ap, ◌∙◌}
use Rattle.std.specs.Global.{Global}
use Rattle.cbi_base.specs.Text.{fields_of}
use Rattle.report_file.specs.declared.draft.Version.{Version}
use Rattle.report_file.specs.declared.draft.Version.TheVariants as version
use Rattle.report_file.specs.declared.report.Report.{Report}
use Rattle.report_file.specs.declared.run_line.RunLine.{RunLine}
use Rattle.report_file.specs.Grammar.{IsNextEntry}
use Rattle.report_file.specs.Reading.{Reads}
use Rattle.report_file.specs.RunLine.{IsRunLine, first_run_line, run_line_fields, second_of}
use Rattle.report_file.specs.Spelling.{site_fields}
use Rattle.report_file.proofs.RunLines.{first-reads, second-reads}
use Rattle.collector.specs.Collected.{mark_limit, report_limit}
use Rattle.collector.specs.Grammar.{BundleEnds, BundleLineComes, BundleLineFollows, EndFollows, ProgramFollows, RunFollows, RunSiteFollows, TitleFollows, report_without_sites, bundle_start, current_report_closed, draft_reports}
use Rattle.collector.specs.Spelling.{SpellsBundle, bundle_title}
use Rattle.collector.specs.declared.collection.Bundle.{Bundle}
use Rattle.collector.specs.declared.draft.Draft.{Draft}
use Rattle.collector.specs.declared.draft.Due.{Due}
use Rattle.collector.specs.declared.draft.Due.TheVariants as due
use Rattle.collector.proofs.Bundles.{reads-spelled}
use Rattle.collector.proofs.Leads.{spelled-reads}
use Rattle.collector.proofs.Once.{leads-once}
use Rattle.lines_laws.specs.Laws.{CollectionsAreLines, IsReadAs, bundle_in}
use Rattle.lines_laws.proofs.Reports.{entry-told, program-told, title-told}
use Rattle.lines_laws.proofs.Walking.{Holds, IsLineOf, Told, both-told, either-told, le-told, lt-told, the-spelling, told-with, word-told}

title-line : (d : Draft) (line : List ℕ) → Told (TitleFollows d line)
title-line d line =
    elim (title-told bundle_title line) [
      | inl is ↦ inl (record d { due = due.Program; version = is.0 }, record { value = is.0; line_is = is.1.line_is; after_is = refl })
      | inr never ↦ inr (λ after s. never s.value (record { is_good = tt; line_is = s.line_is }))
    ]

program-line : (d : Draft) (line : List ℕ) → Told (ProgramFollows d line)
program-line d line =
    elim (program-told line) [
      | inl is ↦ inl (record d { due = due.Runs; program = is.0 }, record { value = is.0; is_id = is.1.is_good; line_is = is.1.line_is; after_is = refl })
      | inr never ↦ inr (λ after s. never s.value (record { is_good = s.is_id; line_is = s.line_is }))
    ]

-- the line of a run, in either version
abbrev run_read : Version → List ℕ → Option RunLine
run_read version.First line = first_run_line (fields_of line)
run_read version.Second line = second_of (fields_of line)

run-reads : (v : Version) (line : List ℕ) → Reads (run_line_fields v) (IsRunLine v) line (run_read v line)
run-reads version.First line = first-reads line (first_run_line (fields_of line)) refl
run-reads version.Second line = second-reads line (second_of (fields_of line)) refl

abbrev RunMayCome : Draft → RunLine → Type 0
RunMayCome d x = (d.run ≤ x.run) × (length (draft_reports d) < report_limit)

run-line : (d : Draft) (line : List ℕ) → Told (RunFollows d line)
run-line d line =
    elim (told-with (run_line_fields d.version) (IsRunLine d.version) (RunMayCome d) line (run_read d.version line) (run-reads d.version line) (λ x. both-told (le-told d.run x.run) (lt-told (length (draft_reports d)) report_limit))) [
      | inl is ↦ inl (
        record d { reports = draft_reports d; current = Some (report_without_sites d.program is.0); run = is.0.run + 1; site = 0 },
        record {
          value = is.0;
          is_line = is.1.0.is_good;
          rises = is.1.1.0;
          room = is.1.1.1;
          line_is = is.1.0.line_is;
          after_is = refl;
        },
      )
      | inr never ↦ inr (λ after s. never s.value (record { is_good = s.is_line; line_is = s.line_is }, (s.rises, s.room)))
    ]

-- the line of a site of the run before it
site-behind : (d : Draft) (line : List ℕ) (current : Option Report) → d.current ≡ current → Told (IsLineOf site_fields (IsNextEntry d.site) line) → Holds (d.marks < mark_limit) → Told (RunSiteFollows d line)
site-behind d line None is entry room = inr (λ after s. let e = sym is ∙ s.is_current in cc)
site-behind d line (Some r) is (inr never) room = inr (λ after s. never s.value (record { is_good = s.is_next; line_is = s.line_is }))
site-behind d line (Some r) is (inl entry) (inr full) = inr (λ after s. full s.room)
site-behind d line (Some r) is (inl entry) (inl room) =
    inl (
      record d { current = Some (record r { entries = r.entries ++ entry.0 ∷ [] }); site = entry.0.site + 1; marks = d.marks + 1 },
      record {
        report = r;
        value = entry.0;
        is_current = is;
        is_next = entry.1.is_good;
        room = room;
        line_is = entry.1.line_is;
        after_is = refl;
      },
    )

end-line : (d : Draft) (line : List ℕ) → Told (EndFollows d line)
end-line d line =
    elim (word-told line (codes "end")) [ inl is ↦ inl (record (current_report_closed d) { due = due.Nothing }, record { line_is = is; after_is = refl }) | inr other ↦ inr (λ after s. other s.line_is) ]

tells : (now : Due) (d : Draft) (line : List ℕ) → Told (BundleLineComes now d line)
tells due.Title d line = title-line d line
tells due.Program d line = program-line d line
tells due.Runs d line =
    either-told (RunFollows d line) (λ after. RunSiteFollows d line after ⊎ EndFollows d line after) (run-line d line)
    (either-told (RunSiteFollows d line) (EndFollows d line) (site-behind d line d.current refl (entry-told d.site line) (lt-told d.marks mark_limit)) (end-line d line))
tells due.Nothing d line = inr (λ after s. s)

may-end : (now : Due) → Holds (now ≡ due.Nothing)
may-end due.Nothing = inl refl
may-end now = inr (λ is. cc)

same-bundle : (d : Draft) (b : Bundle) → d.program ≡ b.program → d.reports ≡ b.reports → bundle_in d ≡ b
same-bundle d b program reports = ap (λ p. let x : Bundle = record { program = p; reports = d.reports } in x) program ∙ ap (λ rs. let x : Bundle = record { program = b.program; reports = rs } in x) reports

spelled : (alloc : Global) (text : List ℕ) (b : Bundle) → SpellsBundle text b → IsReadAs BundleLineFollows BundleEnds (bundle_start alloc) bundle_in text b
spelled alloc text b is = let read = spelled-reads alloc text b is in record { to = read.to; reads = read.reads; said_is = same-bundle read.to b read.program_is read.reports_are }

pub collections_are_lines : CollectionsAreLines
collections_are_lines alloc =
    the-spelling BundleLineFollows BundleEnds (bundle_start alloc) bundle_in SpellsBundle leads-once (λ d line. tells d.due d line) (λ d. may-end d.due) (λ text to reads. reads-spelled text alloc (bundle_start alloc) to refl reads) (spelled alloc)

use Rattle.std.proofs.Common.{◌≡◌, List, ap, sym, subst, ◌∙◌, arith}
use Rattle.cbi_base.specs.Lines.{IsBadLine, ReadsLines}
use Rattle.cbi_base.specs.declared.identity.ProgramId.{ProgramId}
use Rattle.report_file.specs.declared.report.Report.{Report}
use Rattle.collector.specs.Grammar.{BundleEnds, BundleLineFollows}
use Rattle.collector.specs.Spelling.{SpellsBundle}
use Rattle.collector.specs.declared.collection.Bundle.{Bundle}
use Rattle.collector.specs.declared.draft.Draft.{Draft}
use Rattle.collector.proofs.Bundles.{reads-spelled}
use Rattle.collector.proofs.Leads.{spelled-is, spelled-reads}
use Rattle.collector.proofs.reading.read_collection.Goals as goal

same-bundle : (program : ProgramId) (reports : List Report) (b : Bundle) → program ≡ b.program → reports ≡ b.reports → ◌≡◌ {A = Bundle} (record { program = program; reports = reports }) b
same-bundle program reports b is_program are =
    ap (λ p. let x : Bundle = record { program = p; reports = reports } in x) is_program ∙ ap (λ rs. let x : Bundle = record { program = b.program; reports = rs } in x) are

pub returns-in-Ok-clause-found : goal.returns-in-Ok-clause-found
returns-in-Ok-clause-found c =
    subst (SpellsBundle c.args.bytes.now) (sym c.into_bundle.ensures) (reads-spelled c.args.bytes.now c.args.alloc c.new-draft.result c.read_lines.new.reader c.new-draft.ensures c.in-Ok.ensures.ok)

pub returns-in-Ok-clause-is_text : goal.returns-in-Ok-clause-is_text
returns-in-Ok-clause-is_text c = spelled-is c.args.bytes.now c.into_bundle.result (returns-in-Ok-clause-found c)

pub returns-in-Ok-clause-is_bundle : goal.returns-in-Ok-clause-is_bundle
returns-in-Ok-clause-is_bundle c =
    let is = spelled-is c.args.bytes.now c.into_bundle.result (returns-in-Ok-clause-found c) in record {
      reports = is.reports;
      program = is.ours;
      few = omega (arith, is.few);
    }

pub returns-in-Ok-clause-only : goal.returns-in-Ok-clause-only
returns-in-Ok-clause-only c = λ b spells.
    let read = spelled-reads c.args.alloc c.args.bytes.now b spells in
    let whole = c.in-Ok.ensures.only read.to (subst (λ d. ReadsLines BundleLineFollows BundleEnds d c.args.bytes.now read.to) (sym c.new-draft.ensures) read.reads) in
    c.into_bundle.ensures ∙ same-bundle _ _ b (ap (λ (d : Draft). d.program) whole ∙ read.program_is) (ap (λ (d : Draft). d.reports) whole ∙ read.reports_are)

pub returns-in-Ok-clause-line_only : goal.returns-in-Ok-clause-line_only
returns-in-Ok-clause-line_only c = λ line bad.
    c.in-Ok.ensures.bad_only line (subst (λ d. IsBadLine BundleLineFollows BundleEnds d c.args.bytes.now line) (sym c.new-draft.ensures) bad)

pub returns-in-Err-Bad-clause-only : goal.returns-in-Err-Bad-clause-only
returns-in-Err-Bad-clause-only c = λ b spells.
    let read = spelled-reads c.args.alloc c.args.bytes.now b spells in
    rw c.in-Err-Bad.field-0-is at (c.in-Err-Bad.ensures.only read.to (subst (λ d. ReadsLines BundleLineFollows BundleEnds d c.args.bytes.now read.to) (sym c.new-draft.ensures) read.reads))

pub returns-in-Err-Bad-clause-line_only : goal.returns-in-Err-Bad-clause-line_only
returns-in-Err-Bad-clause-line_only c = λ line bad.
    rw c.in-Err-Bad.field-0-is at (c.in-Err-Bad.ensures.bad_only line (subst (λ d. IsBadLine BundleLineFollows BundleEnds d c.args.bytes.now line) (sym c.new-draft.ensures) bad))

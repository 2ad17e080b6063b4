use Rattle.std.proofs.Common.{ap, sym, subst, ◌∙◌}
use Rattle.cbi_base.specs.Lines.{IsBadLine, ReadsLines}
use Rattle.report_file.specs.Grammar.{ReportEnds, ReportLineFollows}
use Rattle.report_file.specs.Spelling.{SpellsReport}
use Rattle.report_file.specs.declared.draft.Draft.{Draft}
use Rattle.report_file.proofs.Whole.{read_whole, reads-spelled, spelled-is, spelled-reads}
use Rattle.report_file.proofs.reading.read_report.Goals as goal

pub returns-in-Ok-clause-found : goal.returns-in-Ok-clause-found
returns-in-Ok-clause-found c =
    subst (SpellsReport c.args.bytes.now) (sym c.into_report.ensures) (reads-spelled c.args.bytes.now c.new-draft.result c.read_lines.new.reader c.new-draft.ensures c.in-Ok.ensures.ok)

pub returns-in-Ok-clause-is_report : goal.returns-in-Ok-clause-is_report
returns-in-Ok-clause-is_report c = spelled-is c.args.bytes.now c.into_report.result (returns-in-Ok-clause-found c)

pub returns-in-Ok-clause-only : goal.returns-in-Ok-clause-only
returns-in-Ok-clause-only c = λ r spells.
    let read = spelled-reads c.args.bytes.now r spells in
    let whole = c.in-Ok.ensures.only (read_whole read.version r) (subst (λ d. ReadsLines ReportLineFollows ReportEnds d c.args.bytes.now (read_whole read.version r)) (sym c.new-draft.ensures) read.reads) in
    c.into_report.ensures ∙ ap (λ (d : Draft). d.report) whole

pub returns-in-Ok-clause-line_only : goal.returns-in-Ok-clause-line_only
returns-in-Ok-clause-line_only c = λ line bad.
    c.in-Ok.ensures.bad_only line (subst (λ d. IsBadLine ReportLineFollows ReportEnds d c.args.bytes.now line) (sym c.new-draft.ensures) bad)

pub returns-in-Err-Bad-clause-only : goal.returns-in-Err-Bad-clause-only
returns-in-Err-Bad-clause-only c = λ r spells.
    let read = spelled-reads c.args.bytes.now r spells in
    rw c.in-Err-Bad.field-0-is at (c.in-Err-Bad.ensures.only (read_whole read.version r) (subst (λ d. ReadsLines ReportLineFollows ReportEnds d c.args.bytes.now (read_whole read.version r)) (sym c.new-draft.ensures) read.reads))

pub returns-in-Err-Bad-clause-line_only : goal.returns-in-Err-Bad-clause-line_only
returns-in-Err-Bad-clause-line_only c = λ line bad.
    rw c.in-Err-Bad.field-0-is at (c.in-Err-Bad.ensures.bad_only line (subst (λ d. IsBadLine ReportLineFollows ReportEnds d c.args.bytes.now line) (sym c.new-draft.ensures) bad))

use Rattle.std.proofs.Common.{◌-◌, ◌++◌, Some, length, drop, ap, sym, subst}
use Rattle.base_lists.proofs.Lists.{take_from}
use Rattle.report_file.specs.RunLine.{line_of}
use Rattle.collector.specs.RunText.{IsRunAt, RunStands, sites_text}
use Rattle.collector.specs.declared.run_text.RunText.{RunText}
use Rattle.collector.proofs.RunTexts.{made-run, run-at-once, stands-run}
use Rattle.collector.proofs.run_text.read_run.Goals as goal

pub returns-in_default-clause-only : goal.returns-in_default-clause-only
returns-in_default-clause-only c = λ text at.
    let bytes = c.args.bytes.now in
    let from = c.args.from in
    let front = line_of text.report in
    let more = sites_text text.report.entries ++ drop text.end bytes in
    absurd (c.in_default.ensures front more (subst (λ b. RunStands b front more) (sym (take_from bytes from)) (stands-run c.args.program.now bytes from text at.stands)))

pub returns-clause-found : goal.returns-clause-found
returns-clause-found c =
    let bytes = c.args.bytes.now in
    let from = c.args.from in
    let run = subst (λ b. RunStands b c.in-Some.line c.in-Some.rest.now) (take_from bytes from) c.in-Some.ensures in
    let sites = c.in_ok-entries.ensures in
    subst (λ r. IsRunAt c.args.program.now bytes from (let text : RunText = record { report = r; end = length bytes - length c.in_ok-entries.rest.now } in text)) (sym c.report_with-report.ensures) (made-run c.args.program.now bytes from c.in-Some.line c.in-Some.rest.now c.in_ok-entries.rest.now c.in_ok-entries.entries c.is_identity.ensures c.requires run sites.are.0 sites.are.1 sites.text sites.longest)

pub returns-clause-only : goal.returns-clause-only
returns-clause-only c = λ text at. ap Some (run-at-once c.args.program.now c.args.bytes.now c.args.from _ text (returns-clause-found c) at)

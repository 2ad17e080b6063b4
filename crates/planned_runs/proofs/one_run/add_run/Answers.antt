use Rattle.std.proofs.Common.{◌≡◌, ◌∙◌, Err, ap, refl, rules}
use Rattle.command_base.specs.declared.fault.Fault.TheVariants as fault
use Rattle.expected.specs.Expected.{is_expected_output}
use Rattle.report_file.specs.Label.{label_of}
use Rattle.planned_runs.proofs.Adding.{ended-then, held, not-held, ours, summed}
use Rattle.planned_runs.proofs.one_run.add_run.Goals as goal

pub make_report-requires-clause-summary : goal.make_report-requires-clause-summary
make_report-requires-clause-summary g c =
    summed _ c.args.id c.args.number c.args.turns _ _ _ c.args.on _ _ _ _ c.in_ok-ran.ensures.ran c.as_slice.ensures refl c.in_ok-ran.ensures.bounded c.program-program.ensures.is_program

pub hold-requires-clause-ours : goal.hold-requires-clause-ours
hold-requires-clause-ours g c =
    ours _ c.args.id c.args.number c.args.turns _ _ _ c.args.on _ _ _ _ c.in_ok-ran.ensures.ran c.as_slice.ensures refl _ _ c.label_of-label.result c.program-program.ensures.is_program
    c.reports_of_runs_are_taken.ensures c.requires.own c.in_ok-report.ensures.report

pub returns-in_err-report-clause-failed : goal.returns-in_err-report-clause-failed
returns-in_err-report-clause-failed g c =
    let same : c.from_residual-in_err-report.result ≡ Err fault.Memory = search rules in
    rw same (ended-then _ c.args.id c.args.number c.args.turns _ _ _ c.args.on _ _ _ _ c.in_ok-ran.ensures.ran c.as_slice.ensures refl c.args.collection.now)

pub returns-in_err-hold-clause-failed : goal.returns-in_err-hold-clause-failed
returns-in_err-hold-clause-failed g c =
    let same : c.from_residual-in_err-hold.result ≡ Err c.in_err-hold.field-0.0 = search rules in
    let labelled = c.label_of-label.ensures ∙ ap (label_of c.in_ok-ran.ran.outcome) (c.agrees.ensures ∙ ap (is_expected_output c.args.on.expect) c.as_slice-2.ensures) in
    rw same (not-held _ c.args.id c.args.number c.args.turns _ _ _ c.args.on _ _ _ _ c.in_ok-ran.ensures.ran c.as_slice.ensures refl c.label_of-label.result c.in_ok-report.report _
    c.in_err-hold.field-0.0 labelled c.in_ok-report.ensures.report c.in_err-hold.ensures.fault)

pub returns-clause-held : goal.returns-clause-held
returns-clause-held g c =
    let labelled = c.label_of-label.ensures ∙ ap (label_of c.in_ok-ran.ran.outcome) (c.agrees.ensures ∙ ap (is_expected_output c.args.on.expect) c.as_slice-2.ensures) in
    held _ c.args.id c.args.number c.args.turns _ _ _ c.args.on _ _ _ _ c.in_ok-ran.ensures.ran c.as_slice.ensures refl c.label_of-label.result c.in_ok-report.report _ _
    c.in_ok-ran.ensures.bounded labelled c.in_ok-report.ensures.report c.in_ok-hold.ensures.ok

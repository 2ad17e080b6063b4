use Rattle.std.proofs.Common.{◌≡◌, ◌++◌, List, [], ◌∷◌, ap, sym, ◌∙◌, append_assoc, arith}
use Rattle.std.proofs.lemmas.List.{append-nil}
use Rattle.report_file.specs.declared.report.Report.{Report}
use Rattle.elimination_tallies.specs.declared.labelled.LabelledRun.{LabelledRun}
use Rattle.elimination_tallies.specs.Recount.{run_of_report, runs_of}
use Rattle.elimination_tallies.specs.Runs.{reports_after}
use Rattle.elimination_tallies.proofs.RunLemmas.{all-after, collection-rises, next-is, next-later, none-after}
use Rattle.elimination_reference.proofs.collected.runs_of.Goals as goal

pub loop-report-init : goal.loop-report-init
loop-report-init c =
    let reports = c.args.collection.now.reports in (
      ap runs_of (sym (all-after 0 1 reports (omega arith) (collection-rises c.args.collection.now c.keeps.ensures)))
          ∙ ap (λ (runs : List LabelledRun). runs ++ runs_of (reports_after 0 reports)) (sym c.new-runs.ensures.items),
      omega arith,
    )

pub loop-report-smaller : goal.loop-report-smaller
loop-report-smaller c = omega (arith, next-later c.loop-report.last c.args.collection.now.reports c.in-Some.report.now (sym c.in-Some.ensures.value), c.in-Some.ensures.is_report.run.most)

pub loop-report-preserved : goal.loop-report-preserved
loop-report-preserved c =
    let reports = c.args.collection.now.reports in
    let runs = c.loop-report.runs.items in
    let r = c.in-Some.report.now in
    let rest = runs_of (reports_after r.run reports) in
    let next : reports_after c.loop-report.last reports ≡ r ∷ reports_after r.run reports =
    next-is c.loop-report.last 1 reports r (collection-rises c.args.collection.now c.keeps.ensures) (sym c.in-Some.ensures.value) in
    let items : c.push.new.self.items ≡ runs ++ run_of_report r ∷ [] = c.in_ok-push.ensures.items ∙ ap (λ (x : LabelledRun). runs ++ x ∷ []) c.in_ok-labelled.ensures in (
      c.loop-report.invariant.0 ∙ ap (λ (rs : List Report). runs ++ runs_of rs) next ∙ sym (append_assoc runs (run_of_report r ∷ []) rest)
          ∙ ap (λ (xs : List LabelledRun). xs ++ rest) (sym items),
      omega (arith, c.in-Some.ensures.is_report.run.most),
    )

pub returns : goal.returns
returns c =
    let reports = c.args.collection.now.reports in
    let runs = c.loop-report.runs.items in
    sym (c.loop-report.invariant.0 ∙ ap (λ (rs : List Report). runs ++ runs_of rs) (none-after c.loop-report.last reports (sym c.in_default.ensures.value)) ∙ append-nil runs)

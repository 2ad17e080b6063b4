use Rattle.std.proofs.Common.{◌≡◌, ◌∙◌, Bool, List, true, ap, arith, subst, sym}
use Rattle.std.specs.List.{list_any}
use Rattle.std.proofs.lemmas.Bool.{and_from}
use Rattle.report_file.specs.declared.report.Entry.{Entry}
use Rattle.report_file.specs.declared.report.Report.{Report}
use Rattle.elimination_tallies.specs.Predicates.{is_true_in_entry}
use Rattle.elimination_tallies.specs.Recount.{is_failing, is_true, run_of_report}
use Rattle.elimination_tallies.proofs.RunLemmas.{all-after, collection-rises}
use Rattle.affinity.specs.Cards.{failing_true}
use Rattle.affinity.proofs.FailingLemmas.{failing-found, failing-lacks}
use Rattle.affinity.proofs.first.first_failing.Goals as goal

pub loop-report-init : goal.loop-report-init
loop-report-init c = (
  ap (λ (rs : List Report). failing_true c.args.collection.now.branches rs c.args.predicate) (all-after 0 1 c.args.collection.now.reports (omega arith) (collection-rises c.args.collection.now c.keeps.ensures)),
  omega arith,
)

pub returns-then-is_true : goal.returns-then-is_true
returns-then-is_true c =
    let bs = c.args.collection.now.branches in
    let reports = c.args.collection.now.reports in
    let r = c.in-Some.report.now in
    let p = c.args.predicate in
    let here : list_any (is_true_in_entry bs p) c.as_slice.result.now ≡ true = subst (λ (xs : List Bool). list_any (is_true_in_entry xs p) c.as_slice.result.now ≡ true) c.requires.branches (sym c.if-is_true.ensures) in
    let was : is_true bs p (run_of_report r) ≡ true = subst (λ (es : List Entry). list_any (is_true_in_entry bs p) es ≡ true) c.as_slice.ensures here in
    failing-found bs p r reports (failing_true bs reports p) (and_from (is_failing r.label) (is_true bs p (run_of_report r)) (sym c.if-fails.ensures) was)
    (ap (λ (rs : List Report). failing_true bs rs p) (sym c.in-Some.ensures.value) ∙ c.loop-report.invariant.0)

pub returns : goal.returns
returns c =
    let bs = c.args.collection.now.branches in
    let reports = c.args.collection.now.reports in
    absurd (failing-lacks bs reports c.args.predicate c.requires.some (ap (λ (rs : List Report). failing_true bs rs c.args.predicate) (sym c.in_default.ensures.value) ∙ c.loop-report.invariant.0))

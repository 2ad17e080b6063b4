use Rattle.std.proofs.Common.{◌≡◌, ℕ, ◌+◌, Bool, List, false, true, arith, subst, sym}
use Rattle.std.specs.List.{list_any}
use Rattle.std.proofs.lemmas.List.{length-map}
use Rattle.report_file.specs.declared.report.Entry.{Entry}
use Rattle.report_file.specs.declared.report.Report.{Report}
use Rattle.elimination_tallies.specs.declared.numbers.Change.TheVariants.{TakeOut}
use Rattle.elimination_tallies.specs.declared.numbers.Counted.{Counted}
use Rattle.elimination_tallies.specs.Predicates.{is_true_in_entry}
use Rattle.elimination_tallies.specs.Recount.{is_failing, is_true, run_of_report, runs_of}
use Rattle.elimination_tallies.specs.Runs.{reports_after}
use Rattle.elimination_tallies.specs.Tallies.{AllowsEntries, AreRecounts, ChangedByAll, Tallies, counted_as}
use Rattle.elimination_tallies.proofs.RunLemmas.{all-after, collection-rises, collection-well}
use Rattle.affinity.proofs.RemainingLemmas.{LeftSoFar, failing-small, left-allowed, left-kept, left-start, left-taken}
use Rattle.affinity.proofs.remaining.without.Goals as goal

pub loop-report-init : goal.loop-report-init
loop-report-init c =
    let bs = c.args.collection.now.branches in
    let all = runs_of c.args.collection.now.reports in
    let recounts = subst (λ (t : Tallies). AreRecounts bs all t) (sym c.in_ok-numbers.ensures) c.requires in
    let start = left-start bs c.args.predicate all c.in_ok-numbers.numbers (collection-well c.args.collection.now c.keeps.ensures) recounts in
    let first = all-after 0 1 c.args.collection.now.reports (omega arith) (collection-rises c.args.collection.now c.keeps.ensures) in
    (subst (λ (rs : List Report). LeftSoFar bs c.args.predicate (runs_of rs) all c.in_ok-numbers.numbers 0 0) (sym first) start, omega arith)

pub change_all-requires-clause-allows : goal.change_all-requires-clause-allows
change_all-requires-clause-allows c =
    let bs = c.args.collection.now.branches in
    let all = runs_of c.args.collection.now.reports in
    let r = run_of_report c.in-Some.report.now in
    let rest = runs_of (reports_after c.in-Some.report.now.run c.args.collection.now.reports) in
    let now = c.loop-report.numbers in
    let so_far = subst (λ (rs : List Report). LeftSoFar bs c.args.predicate (runs_of rs) all now c.loop-report.failing c.loop-report.all) c.in-Some.ensures.value c.loop-report.invariant.0 in
    let allowed = left-allowed bs c.args.predicate r rest all now c.loop-report.failing c.loop-report.all so_far in
    subst (λ (k : Counted). AllowsEntries (TakeOut k) c.as_slice-then-is_true.result.now now) (sym c.counted_as-counted.ensures)
    (subst (λ (es : List Entry). AllowsEntries (TakeOut (counted_as r.label)) es now) (sym c.as_slice-then-is_true.ensures) allowed)

pub loop-report-preserved-then-is_true : goal.loop-report-preserved-then-is_true
loop-report-preserved-then-is_true c =
    let bs = c.args.collection.now.branches in
    let p = c.args.predicate in
    let all = runs_of c.args.collection.now.reports in
    let r = run_of_report c.in-Some.report.now in
    let rest = runs_of (reports_after c.in-Some.report.now.run c.args.collection.now.reports) in
    let now = c.loop-report.numbers in
    let new = c.change_all.new.self in
    let so_far = subst (λ (rs : List Report). LeftSoFar bs p (runs_of rs) all now c.loop-report.failing c.loop-report.all) c.in-Some.ensures.value c.loop-report.invariant.0 in
    let here : list_any (is_true_in_entry bs p) c.as_slice.result.now ≡ true = subst (λ (xs : List Bool). list_any (is_true_in_entry xs p) c.as_slice.result.now ≡ true) c.requires.branches_are (sym c.if-is_true.ensures) in
    let was : is_true bs p r ≡ true = subst (λ (es : List Entry). list_any (is_true_in_entry bs p) es ≡ true) c.as_slice.ensures here in
    let made = subst (λ (k : Counted). ChangedByAll (TakeOut k) r.entries now new) c.counted_as-counted.ensures
    (subst (λ (es : List Entry). ChangedByAll (TakeOut c.counted_as-counted.result) es now new) c.as_slice-then-is_true.ensures c.change_all.ensures) in
    (subst (λ (n : ℕ). LeftSoFar bs p rest all new c.loop-report.failing (c.loop-report.all + n)) (sym c.failures-fails.ensures) (left-taken bs p r rest all now new c.loop-report.failing c.loop-report.all so_far was made), c.in-Some.ensures.small)

pub overflow_add-failing : goal.overflow_add-failing
overflow_add-failing c =
    let all = runs_of c.args.collection.now.reports in
    omega (
      arith,
      c.failures-fails.ensures,
      c.keeps.ensures.few,
      length-map c.args.collection.now.reports run_of_report,
      failing-small c.args.collection.now.branches c.args.predicate (runs_of (reports_after c.loop-report.run c.args.collection.now.reports)) all c.loop-report.numbers c.loop-report.failing c.loop-report.all (is_failing c.in-Some.report.now.label) c.loop-report.invariant.0,
    )

pub loop-report-preserved : goal.loop-report-preserved
loop-report-preserved c =
    let bs = c.args.collection.now.branches in
    let p = c.args.predicate in
    let all = runs_of c.args.collection.now.reports in
    let r = run_of_report c.in-Some.report.now in
    let rest = runs_of (reports_after c.in-Some.report.now.run c.args.collection.now.reports) in
    let now = c.loop-report.numbers in
    let so_far = subst (λ (rs : List Report). LeftSoFar bs p (runs_of rs) all now c.loop-report.failing c.loop-report.all) c.in-Some.ensures.value c.loop-report.invariant.0 in
    let here : list_any (is_true_in_entry bs p) c.as_slice.result.now ≡ false = subst (λ (xs : List Bool). list_any (is_true_in_entry xs p) c.as_slice.result.now ≡ false) c.requires.branches_are (sym c.if-is_true.ensures) in
    let was : is_true bs p r ≡ false = subst (λ (es : List Entry). list_any (is_true_in_entry bs p) es ≡ false) c.as_slice.ensures here in
    (subst (λ (n : ℕ). LeftSoFar bs p rest all now (c.loop-report.failing + n) (c.loop-report.all + n)) (sym c.failures-fails.ensures) (left-kept bs p r rest all now c.loop-report.failing c.loop-report.all so_far was), c.in-Some.ensures.small)

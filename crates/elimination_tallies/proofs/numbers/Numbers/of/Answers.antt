use Rattle.std.proofs.Common.{◌≡◌, Bool, List, [], sym, ap, subst, ◌∙◌, arith}
use Rattle.std.proofs.lemmas.List.{length-map}
use Rattle.report_file.specs.declared.report.Report.{Report}
use Rattle.elimination_tallies.specs.Recount.{run_of_report, runs_of}
use Rattle.elimination_tallies.specs.Runs.{reports_after}
use Rattle.collector.specs.Sites.{branches_of}
use Rattle.elimination_tallies.specs.Tallies.{AllowsEntries, AreRecounts, ChangedByAll, counted_as}
use Rattle.elimination_tallies.specs.declared.numbers.Change.TheVariants.{PutIn}
use Rattle.elimination_tallies.specs.declared.numbers.Counted.{Counted}
use Rattle.report_file.specs.declared.report.Entry.{Entry}
use Rattle.elimination_tallies.proofs.RunLemmas.{all-after, collection-rises}
use Rattle.elimination_tallies.proofs.TotalLemmas.{AreSummed, summed-allows, summed-end, summed-start, summed-step}
use Rattle.elimination_tallies.proofs.numbers.Numbers.of.Goals as goal

pub loop-report-init : goal.loop-report-init
loop-report-init c =
    let branches : c.in_ok-branches_of.field-0 ≡ c.args.collection.now.branches = c.in_ok-branches_of.ensures ∙ ap branches_of c.sites.ensures.value ∙ sym c.requires in
    let all = all-after 0 1 c.args.collection.now.reports (omega arith) (collection-rises c.args.collection.now c.keeps.ensures) in
    let empty : AreRecounts c.args.collection.now.branches [] c.in_ok-numbers.numbers = subst (λ (bs : List Bool). AreRecounts bs [] c.in_ok-numbers.numbers) branches c.in_ok-numbers.ensures in (
      subst (λ (rs : List Report). AreSummed c.args.collection.now.branches (runs_of rs) (runs_of c.args.collection.now.reports) c.in_ok-numbers.numbers) (sym all)
          (summed-start c.args.collection.now.branches (runs_of c.args.collection.now.reports) c.in_ok-numbers.numbers empty),
      omega arith,
    )

pub change_all-requires-clause-allows : goal.change_all-requires-clause-allows
change_all-requires-clause-allows c =
    let r = run_of_report c.in-Some.report.now in
    let rest = runs_of (reports_after c.in-Some.report.now.run c.args.collection.now.reports) in
    let all = runs_of c.args.collection.now.reports in
    let summed = subst (λ (rs : List Report). AreSummed c.args.collection.now.branches (runs_of rs) all c.loop-report.numbers) c.in-Some.ensures.value c.loop-report.invariant.0 in
    let allowed = summed-allows c.args.collection.now.branches r rest all c.loop-report.numbers summed c.in-Some.ensures.entries (omega (arith, length-map c.args.collection.now.reports run_of_report, c.reports_held-held.ensures)) in
    subst (λ (k : Counted). AllowsEntries (PutIn k) c.as_slice.result.now c.loop-report.numbers) (sym c.counted_as-counted.ensures)
    (subst (λ (es : List Entry). AllowsEntries (PutIn (counted_as r.label)) es c.loop-report.numbers) (sym c.as_slice.ensures) allowed)

pub loop-report-smaller : goal.loop-report-smaller
loop-report-smaller c = omega (arith, c.in-Some.ensures.later, c.loop-report.invariant.1)

pub loop-report-preserved : goal.loop-report-preserved
loop-report-preserved c =
    let r = run_of_report c.in-Some.report.now in
    let rest = runs_of (reports_after c.in-Some.report.now.run c.args.collection.now.reports) in
    let all = runs_of c.args.collection.now.reports in
    let summed = subst (λ (rs : List Report). AreSummed c.args.collection.now.branches (runs_of rs) all c.loop-report.numbers) c.in-Some.ensures.value c.loop-report.invariant.0 in
    let made = subst (λ (k : Counted). ChangedByAll (PutIn k) r.entries c.loop-report.numbers c.change_all.new.self) c.counted_as-counted.ensures
    (subst (λ (es : List Entry). ChangedByAll (PutIn c.counted_as-counted.result) es c.loop-report.numbers c.change_all.new.self) c.as_slice.ensures c.change_all.ensures) in
    (summed-step c.args.collection.now.branches r rest all c.loop-report.numbers c.change_all.new.self summed c.in-Some.ensures.entries made, c.in-Some.ensures.small)

pub returns : goal.returns
returns c =
    let all = runs_of c.args.collection.now.reports in
    let summed = subst (λ (rs : List Report). AreSummed c.args.collection.now.branches (runs_of rs) all c.loop-report.numbers) c.in_default.ensures.value c.loop-report.invariant.0 in
    subst (λ (bs : List Bool). AreRecounts bs all c.loop-report.numbers) c.requires (summed-end c.args.collection.now.branches all c.loop-report.numbers summed)

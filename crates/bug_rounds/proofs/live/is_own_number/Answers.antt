use Rattle.std.proofs.Common.{◌∙◌, ap, arith, sym}
use Rattle.elimination_tallies.proofs.RunLemmas.{collection-rises}
use Rattle.elimination_tallies.specs.Runs.{reports_after}
use Rattle.bug_rounds.specs.Rounds.{is_own_run}
use Rattle.bug_rounds.proofs.Owned.{own-elsewhere, own-here, own-missing}
use Rattle.bug_rounds.proofs.live.is_own_number.Goals as goal

pub returns-in_default : goal.returns-in_default
returns-in_default c =
    let reports = c.args.collection.now.reports in
    own-missing c.args.collection.now.branches reports c.args.leader c.args.run (collection-rises c.args.collection.now c.keeps.ensures) (ap (λ n. reports_after n reports) (sym c.saturating_sub.ensures) ∙ c.in_default.ensures.value)

pub returns-then-report-run : goal.returns-then-report-run
returns-then-report-run c =
    let reports = c.args.collection.now.reports in
    let r = c.in-Some.report.now in
    own-elsewhere c.args.collection.now.branches reports c.args.leader c.args.run r (collection-rises c.args.collection.now c.keeps.ensures) (omega (arith, c.in-Some.ensures.later, c.saturating_sub.ensures))
    (ap (λ n. reports_after n reports) (sym c.saturating_sub.ensures) ∙ c.in-Some.ensures.value) c.if-report-run.true

pub returns : goal.returns
returns c =
    let reports = c.args.collection.now.reports in
    let r = c.in-Some.report.now in
    own-here c.args.collection.now.branches reports c.args.leader c.args.run r c.is_own_run.result (collection-rises c.args.collection.now c.keeps.ensures) (omega (arith, c.in-Some.ensures.later, c.saturating_sub.ensures))
    (ap (λ n. reports_after n reports) (sym c.saturating_sub.ensures) ∙ c.in-Some.ensures.value) c.if-report-run.false (c.is_own_run.ensures ∙ ap (λ bs. is_own_run bs c.args.leader r) c.requires)

use Rattle.std.proofs.Common.{◌≡◌, ap, ◌∙◌, rules}
use Rattle.collector.specs.Collected.{report_at}
use Rattle.collector.proofs.Keeping.{lookup-report, reports_in}
use Rattle.collector.proofs.collection.Collection.held.Goals as goal

pub returns : goal.returns
returns c =
    let reports : reports_in c.self.inside.reports.entries ≡ c.args.self.now.reports = search rules in
    c.get.ensures.value ∙ lookup-report _ _ c.args.run _ c.self.invariant.are_held ∙ ap (report_at c.args.run) reports

use Rattle.headline.proofs.HeadlineRuns.{of-collection}
use Rattle.headline.proofs.headline.collections_hold_their_runs.Goals as goal

pub returns : goal.returns
returns c = λ file collection made bundle is spells.
    of-collection c.one_report.ensures c.one_collection.ensures c.written_collection.ensures c.order_does_not_matter.ensures.members file c.order_does_not_matter.ensures.same
    made collection bundle is spells

use Rattle.sites.proofs.Parting.{each_start}
use Rattle.sites.proofs.statements.push_starts.Goals as goal

pub push_start-requires : goal.push_start-requires
push_start-requires c = each_start c.args.starts.now c.loop-start.start-index c.start-item.result c.loop-start-test.true c.start-item.is c.requires

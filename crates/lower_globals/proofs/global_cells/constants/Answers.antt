use Rattle.lower_globals.proofs.Starting.{start_at}
use Rattle.lower_globals.proofs.global_cells.constants.Goals as goal

pub constant-requires : goal.constant-requires
constant-requires c =
    start_at c.args.items.now c.loop-item.item-index c.item-item.result c.requires c.loop-item-test.true c.item-item.is

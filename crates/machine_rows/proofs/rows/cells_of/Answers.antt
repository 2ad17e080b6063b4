use Rattle.machine_rows.proofs.MoveLemmas.{product_is}
use Rattle.machine_rows.proofs.rows.cells_of.Goals as goal

pub returns : goal.returns
returns c = product_is c.args.value c.args.size c.ranges.value c.ranges.size c.requires.value c.requires.size

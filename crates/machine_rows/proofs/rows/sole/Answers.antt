use Rattle.machine_rows.proofs.HeldLemmas.{sole_held}
use Rattle.machine_rows.proofs.rows.sole.Goals as goal

pub of-requires : goal.of-requires
of-requires c = sole_held c.args.op _ c.in_ok-value.value c.in_ok-value.ensures.value c.in_ok-value.ensures.in_range

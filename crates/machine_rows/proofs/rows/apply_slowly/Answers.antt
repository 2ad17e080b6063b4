use Rattle.machine_rows.proofs.HeldLemmas.{applied_held}
use Rattle.machine_rows.proofs.rows.apply_slowly.Goals as goal

pub of-requires : goal.of-requires
of-requires c = applied_held c.args.op _ _ c.in_ok-value.value c.in_ok-value.ensures.value c.in_ok-value.ensures.in_range

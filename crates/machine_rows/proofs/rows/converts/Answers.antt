use Rattle.machine_rows.proofs.HeldLemmas.{converted_held}
use Rattle.machine_rows.proofs.rows.converts.Goals as goal

pub of-requires : goal.of-requires
of-requires c = converted_held c.args.kind _ c.in_ok-value.value c.in_ok-value.ensures.value c.in_ok-value.ensures.in_range

use Rattle.std.proofs.Common.{◌≡◌, ◌*◌}
use Rattle.std.specs.Prelude.{replicate}
use Rattle.compound_bits.specs.Facts.{no_fact}
use Rattle.compound_counts.proofs.watch.no_rows.Given as goal

abbrev pub invariant-loop-row : goal.invariant-loop-row
invariant-loop-row l = l.rows.items ≡ replicate l._row (replicate (64 * l.words) no_fact)

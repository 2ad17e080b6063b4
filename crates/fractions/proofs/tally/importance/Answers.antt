use Rattle.std.proofs.Common.{arith, ◌≤◌}
use Rattle.fractions.proofs.Bounds.{positive-part, surplus-le, harmonic-le}
use Rattle.fractions.proofs.tally.importance.Goals as goal

pub returns-clause-at_most_one : goal.returns-clause-at_most_one
returns-clause-at_most_one c =
    let t = c.args.tally in
    let logs = c.log_fixed-2.ensures.monotone t.a (positive-part t.a t.b t.c t.d c.requires.passes.increases) (omega arith) in
    let parts : c.surplus-surplus.result ≤ c.spread.result = omega (arith, surplus-le t.a t.b t.c t.d) in
    omega (arith, harmonic-le c.surplus-surplus.result c.spread.result c.from-part.result c.from-whole.result (omega (arith, logs)) parts)

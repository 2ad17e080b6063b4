use Rattle.std.proofs.Common.{arith, ap, subst, sym}
use Rattle.fractions.specs.declared.tally.Tally.{Tally}
use Rattle.fractions.specs.Tally.{IsTally}
use Rattle.elimination_tallies.proofs.RecountLemmas.{recount-failing, recount-tally}
use Rattle.affinity_reference.proofs.falling.share.Goals as goal

pub confident-requires : goal.confident-requires
confident-requires c = subst IsTally (sym c.recount-tally.ensures) (recount-tally c.args.branches.now c.args.runs.now c.args.predicate c.requires.runs)

pub importance-requires-clause-bounds : goal.importance-requires-clause-bounds
importance-requires-clause-bounds c = subst IsTally (sym c.recount-tally.ensures) (recount-tally c.args.branches.now c.args.runs.now c.args.predicate c.requires.runs)

pub importance-requires-clause-observed : goal.importance-requires-clause-observed
importance-requires-clause-observed c = omega (arith, recount-failing c.args.branches.now c.args.runs.now c.args.predicate, ap (λ (t : Tally). t.c) c.recount-tally.ensures, c.failing_runs.ensures.value)

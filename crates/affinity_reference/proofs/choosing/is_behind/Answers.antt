use Rattle.std.proofs.Common.{arith, refl, subst}
use Rattle.std.specs.Prelude.{All}
use Rattle.std.proofs.lemmas.List.{take_all}
use Rattle.std.proofs.lemmas.List.Elements.{All-more}
use Rattle.affinity.specs.declared.neighbour.Neighbour.{Neighbour}
use Rattle.affinity.specs.Near.{StandsBefore}
use Rattle.affinity_reference.proofs.choosing.is_behind.Goals as goal

pub loop-row-preserved : goal.loop-row-preserved
loop-row-preserved c =
    All-more (λ (n : Neighbour). StandsBefore n c.args.next) c.args.rows.now c.loop-row.row-index (record { predicate = 0; fall = 0 }) c.loop-row-test.true c.loop-row.invariant (c.if-not-stands_before.ensures.yes refl)

pub returns-clause-yes : goal.returns-clause-yes
returns-clause-yes c = λ _.
    subst (All (λ (n : Neighbour). StandsBefore n c.args.next)) (take_all c.loop-row.row-index c.args.rows.now (omega (arith, c.loop-row-test.false))) c.loop-row.invariant

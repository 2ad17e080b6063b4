use Rattle.std.proofs.Common.{length, subst, sym}
use Rattle.lower_relation.specs.Paths.{Exits}
use Rattle.lower_nodes.specs.Ends.{AllBelow, all_ends}
use Rattle.lower_nodes.specs.Made.{MadeAlone}
use Rattle.lower.specs.Bodies.{LeavesPart}
use Rattle.lower.proofs.Bodying.{exits_below, leaves_made}
use Rattle.lower.proofs.functions.put_exits.Goals as goal

pub returns-clause-made : goal.returns-clause-made
returns-clause-made c =
    subst (λ (x : Exits). MadeAlone (LeavesPart c.args.is_main c.args.value) c.args.graph.now c.put_end.new.graph x.leaves x) (sym c.next_at.ensures)
    (leaves_made c.args.is_main c.args.value _ _ _ _ _ _ _ _ _ c.in_ok-stuck.ensures.made c.in_ok-leaves.ensures.number c.in_ok-leaves.ensures.added
    c.in_ok-gives.ensures.made c.in_ok-next.ensures.made)

pub returns-clause-below : goal.returns-clause-below
returns-clause-below c =
    subst (λ (x : Exits). AllBelow (length c.put_end.new.graph) (all_ends x)) (sym c.next_at.ensures) (exits_below c.args.is_main c.args.value _ _ _ _ _ _ _ _ _ c.in_ok-stuck.ensures.made c.in_ok-leaves.ensures.number c.in_ok-leaves.ensures.added
    c.in_ok-gives.ensures.made c.in_ok-next.ensures.made)

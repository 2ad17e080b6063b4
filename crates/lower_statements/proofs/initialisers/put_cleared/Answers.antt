use Rattle.std.proofs.Common.{refl, sym, ◌∙◌}
use Rattle.flow.specs.declared.node.Node.TheVariants as node
use Rattle.lower_relation.specs.Initialisers.{Clears}
use Rattle.lower_nodes.proofs.Building.{row}
use Rattle.lower_statements.proofs.Zeroing.{off_local, on_local}
use Rattle.lower_statements.proofs.initialisers.put_cleared.Goals as goal

pub returns-in_default-clause-made : goal.returns-in_default-clause-made
returns-in_default-clause-made c =
    off_local (λ G. Clears G) c.args.slot _ _ _ _ (sym c.in_default.is ∙ c.local_of.ensures) c.in_ok-stuck.ensures.made

pub returns-clause-made : goal.returns-clause-made
returns-clause-made c =
    on_local (λ G. Clears G) c.args.slot c.in-Some.index _ _ _ _ (sym c.in-Some.is ∙ c.local_of.ensures)
    (row (node.Clear c.in-Some.index 0) _ c.in_ok-i.ensures.number c.in_ok-i.ensures.added refl)

use Rattle.std.proofs.Common.{ap, sym, ◌∙◌}
use Rattle.flow.specs.Words.{view, moved_to, listed_ways}
use Rattle.lower_nodes.specs.Finished.{turned_number}
use Rattle.lower_nodes.proofs.Numbers.{one_renamed}
use Rattle.lower_nodes.proofs.numbering.renumbered.Goals as goal

pub returns-in-One : goal.returns-in-One
returns-in-One c =
    c.with_next.ensures ∙ ap (λ n. moved_to n (view c.args.node)) c.saturating_sub-in-One.ensures
    ∙ one_renamed (turned_number c.args.last) (view c.args.node) c.in-One.next (ap listed_ways (sym c.in-One.is) ∙ c.successors.ensures)

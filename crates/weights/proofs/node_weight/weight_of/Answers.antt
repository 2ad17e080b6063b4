use Rattle.std.proofs.Common.{ℕ, List, subst}
use Rattle.std.specs.List.{Contains}
use Rattle.weights.proofs.node_weight.weight_of.Goals as goal

pub weight_ahead-ahead-requires : goal.weight_ahead-ahead-requires
weight_ahead-ahead-requires c = λ next h. c.requires.within next (subst (λ (xs : List ℕ). Contains xs next) c.next_nodes.ensures h)

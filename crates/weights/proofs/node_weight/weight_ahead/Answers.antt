use Rattle.std.proofs.Common.{refl, subst, sym, arith}
use Rattle.std.specs.List.{Contains}
use Rattle.flow.specs.declared.node.Ways.{Ways}
use Rattle.flow.specs.Nodes.{listed_ways}
use Rattle.weights.proofs.node_weight.weight_ahead.Goals as goal

pub bounds-weights-next : goal.bounds-weights-next
bounds-weights-next c =
    c.requires c.in-One.next (subst (λ (w : Ways). Contains (listed_ways w) c.in-One.next) (sym c.in-One.is) (0, omega arith, refl))

pub bounds-weights-first : goal.bounds-weights-first
bounds-weights-first c =
    c.requires c.in-Two.first (subst (λ (w : Ways). Contains (listed_ways w) c.in-Two.first) (sym c.in-Two.is) (0, omega arith, refl))

pub bounds-weights-second : goal.bounds-weights-second
bounds-weights-second c =
    c.requires c.in-Two.second (subst (λ (w : Ways). Contains (listed_ways w) c.in-Two.second) (sym c.in-Two.is) (1, omega arith, refl))

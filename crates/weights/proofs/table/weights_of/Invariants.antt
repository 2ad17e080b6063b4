use Rattle.regions.specs.Flags.{is_in}
use Rattle.weights.proofs.WeightLemmas.{Weighed}
use Rattle.weights.proofs.table.weights_of.Given as goal

-- the nodes from this one on have their weights
abbrev pub invariant-loop-place : goal.invariant-loop-place
invariant-loop-place l = Weighed (is_in l.weighty) l.nodes l.place l.weights.items

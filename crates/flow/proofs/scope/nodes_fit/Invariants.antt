use Rattle.std.proofs.Common.{◌≡◌, ℕ, ◌<◌, Some, IsTrue, slice_get}
use Rattle.flow.specs.declared.node.Node.{Node}
use Rattle.flow.specs.Nodes.{node_fits}
use Rattle.flow.proofs.scope.nodes_fit.Given as goal

-- the nodes before this one fit
abbrev pub invariant-loop-place : goal.invariant-loop-place
invariant-loop-place l = (k : ℕ) (node : Node) → k < l.place → slice_get l.nodes k ≡ Some node → IsTrue (node_fits l.names l.bounds k node)

use Rattle.std.proofs.Common.{◌≡◌, map, take}
use Rattle.program_parts.specs.Program.{part_node}
use Rattle.program_parts.proofs.nodes.part_nodes.Given as goal

-- the nodes before this one are as the part has them
abbrev pub invariant-loop-node : goal.invariant-loop-node
invariant-loop-node l = l.kept.items ≡ map (part_node l.part) (take l.node-index l.nodes)

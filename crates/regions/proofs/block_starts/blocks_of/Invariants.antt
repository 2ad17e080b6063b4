use Rattle.std.proofs.Common.{length}
use Rattle.regions.specs.Noted.{sets_of}
use Rattle.regions.specs.Weighty.{views_of}
use Rattle.regions.proofs.BlockLemmas.{Before, Known, Sized}
use Rattle.regions.proofs.block_starts.blocks_of.Given as goal

-- what the nodes before this one tell
abbrev pub invariant-loop-node : goal.invariant-loop-node
invariant-loop-node l = Known (views_of l.nodes) (Before (views_of l.nodes) l.node-index) (sets_of l.found) × Sized (length l.nodes) (sets_of l.found)

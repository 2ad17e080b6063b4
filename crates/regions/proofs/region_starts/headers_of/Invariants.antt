use Rattle.std.proofs.Common.{length}
use Rattle.regions.specs.Flags.{is_in}
use Rattle.regions.specs.Weighty.{views_of}
use Rattle.regions.proofs.HeaderLemmas.{Begun}
use Rattle.regions.proofs.region_starts.headers_of.Given as goal

abbrev pub invariant-loop-node : goal.invariant-loop-node
invariant-loop-node l = Begun (is_in l.weighty) (views_of l.nodes) (length l.nodes) l.node-index l.flags.items

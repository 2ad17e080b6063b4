use Rattle.std.proofs.Common.{◌≡◌, take}
use Rattle.collector.specs.Sites.{branches_of}
use Rattle.elimination_reference.proofs.collected.branches_of.Given as goal

abbrev pub invariant-loop-site : goal.invariant-loop-site
invariant-loop-site l = l.branches.items ≡ branches_of (take l.site-index l.sites)

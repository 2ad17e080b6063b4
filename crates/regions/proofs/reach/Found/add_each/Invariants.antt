use Rattle.std.proofs.Common.{take}
use Rattle.std.specs.List.{Contains}
use Rattle.regions.specs.Reach.{Reached}
use Rattle.regions.proofs.reach.Found.add_each.Given as goal

-- the functions before this one were added
abbrev pub invariant-loop-function : goal.invariant-loop-function
invariant-loop-function l =
    Reached l.initial.self.flags.items l.initial.self.order.items l.self.flags.items l.self.order.items (Contains (take l.function-index l.functions))

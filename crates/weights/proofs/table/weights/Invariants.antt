use Rattle.std.proofs.Common.{take}
use Rattle.regions.specs.Rows.{EachFits}
use Rattle.weights.specs.Weight.{WeightsFit}
use Rattle.weights.proofs.table.weights.Given as goal

-- the functions before this one have their rows
abbrev pub invariant-loop-function : goal.invariant-loop-function
invariant-loop-function l = EachFits (WeightsFit l.weighty) (take l.function-index l.functions) l.table.items

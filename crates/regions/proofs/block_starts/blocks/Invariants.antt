use Rattle.std.proofs.Common.{take}
use Rattle.regions.specs.Blocks.{BlocksFit}
use Rattle.regions.specs.Rows.{EachFits}
use Rattle.regions.proofs.block_starts.blocks.Given as goal

-- the functions before this one have their rows
abbrev pub invariant-loop-function : goal.invariant-loop-function
invariant-loop-function l = EachFits BlocksFit (take l.function-index l.functions) l.table.items

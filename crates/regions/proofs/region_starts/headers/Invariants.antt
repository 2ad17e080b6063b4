use Rattle.std.proofs.Common.{take}
use Rattle.regions.specs.Headers.{HeadersFit}
use Rattle.regions.specs.Rows.{EachFits}
use Rattle.regions.proofs.region_starts.headers.Given as goal

-- the functions before this one have their rows
abbrev pub invariant-loop-number : goal.invariant-loop-number
invariant-loop-number l = EachFits (HeadersFit l.weighty) (take l.number l.functions) l.table.items

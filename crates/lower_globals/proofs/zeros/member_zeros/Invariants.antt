use Rattle.std.proofs.Common.{◌≡◌, ◌++◌, drop}
use Rattle.lower_globals.specs.Zeros.{member_zeros}
use Rattle.lower_globals.proofs.zeros.member_zeros.Given as goal

abbrev pub invariant-loop-member : goal.invariant-loop-member
invariant-loop-member l = l.cells.items ++ member_zeros l.before (drop l.member-index l.members) ≡ member_zeros l.before l.members

use Rattle.std.proofs.Common.{◌≡◌, drop}
use Rattle.c_types_rules.specs.Selecting.{member_named}
use Rattle.c_types_rules.proofs.selecting.member_named.Given as goal

abbrev pub invariant-loop-member : goal.invariant-loop-member
invariant-loop-member l = member_named l.name (drop l.member-index l.members) ≡ member_named l.name l.members

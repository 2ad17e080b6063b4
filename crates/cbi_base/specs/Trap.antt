-- The numbers of the traps.
use Rattle.std.specs.Prelude.{ℕ}
use Rattle.cbi_base.specs.declared.trap.Trap.{Trap}
use Rattle.cbi_base.specs.declared.trap.Trap.TheVariants.{Overflow, Divide, Shift, Undefined, WrongKind, Bounds, Dead, NullUse, ReadOnly, BadFree}
use Rattle.cbi_base.specs.declared.trap.Trap.TheVariants.{Unrelated, StackOverflow, Assertion, Abort, Internal}

-- the numbers of the traps, as a report shows them
abbrev pub trap_number : Trap → ℕ
trap_number Overflow = 1
trap_number Divide = 2
trap_number Shift = 3
trap_number Undefined = 4
trap_number WrongKind = 5
trap_number Bounds = 6
trap_number Dead = 7
trap_number NullUse = 8
trap_number ReadOnly = 9
trap_number BadFree = 10
trap_number Unrelated = 11
trap_number StackOverflow = 12
trap_number Assertion = 13
trap_number Abort = 14
trap_number Internal = 99

-- A construct may break several rules at its own token: the one of the least kind is told.
use Rattle.std.specs.Prelude.{◌≤◌}
use Rattle.c_types_rules.specs.declared.fault.FaultKind.{FaultKind}
use Rattle.c_types_rules.specs.Faults.{fault_number}

-- a kind that fits, where none with a smaller number does
abbrev pub IsLeast : (FaultKind → Type 0) → FaultKind → Type 0
IsLeast Fits kind = Fits kind × ((other : FaultKind) → Fits other → fault_number kind ≤ fault_number other)

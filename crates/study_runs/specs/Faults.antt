-- Why the runs of a study stop, as a fault of runs by a plan.
use Rattle.std.specs.Prelude.{◌≡◌, ℕ}
use Rattle.cbi_base.specs.declared.refusal.Refusal.TheVariants.{TooManyMarks}
use Rattle.command_base.specs.declared.fault.Fault.{Fault}
use Rattle.command_base.specs.declared.fault.Fault.TheVariants as fault
use Rattle.study_runs.specs.declared.fault.RunsFault.{RunsFault}
use Rattle.study_runs.specs.declared.fault.RunsFault.TheVariants as faults

-- a plan that reads and refuses nothing has no fault but too many entries and want of memory
abbrev pub IsOfStudy : Fault → Type 0
IsOfStudy (fault.Read name) = ⊥
IsOfStudy fault.Write = ⊥
IsOfStudy (fault.Refused refusal) = (run : ℕ) × (refusal ≡ TooManyMarks run)
IsOfStudy fault.Memory = Unit {0}

-- which fault of a study it is
abbrev pub IsSameFault : Fault → RunsFault → Type 0
IsSameFault (fault.Read name) e = ⊥
IsSameFault fault.Write e = ⊥
IsSameFault (fault.Refused refusal) (faults.TooManyMarks run) = refusal ≡ TooManyMarks run
IsSameFault (fault.Refused refusal) faults.Memory = ⊥
IsSameFault fault.Memory (faults.TooManyMarks run) = ⊥
IsSameFault fault.Memory faults.Memory = Unit {0}

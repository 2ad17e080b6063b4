-- What stderr gets: a line, taken whole, or a prefix of it where its count of faults rose.
use Rattle.std.specs.Prelude.{◌≡◌, ℕ, List, ◌++◌, Option, ◌⊎◌, codes}
use Rattle.cbi_base.specs.Words.{CountHasRisen, Takes, TakesPrefix, refusal_line}
use Rattle.command_base.specs.declared.fault.Fault.{Fault}
use Rattle.command_base.specs.declared.fault.Fault.TheVariants.{Read, Write, Refused, Memory}

abbrev pub read_line : List ℕ → List ℕ
read_line name = codes "cbi: read fault " ++ name ++ codes "\n"

abbrev pub write_line : List ℕ
write_line = codes "cbi: write fault\n"

abbrev pub memory_line : List ℕ
memory_line = codes "cbi: out of memory\n"

abbrev pub fault_line : Fault → List ℕ
fault_line (Read name) = read_line name
fault_line Write = write_line
fault_line (Refused refusal) = refusal_line refusal
fault_line Memory = memory_line

abbrev pub IsTold : (rose : Type 0) → (before now : Option (List ℕ)) → List ℕ → Type 0
IsTold rose before now line = Takes before now line ⊎ (rose × TakesPrefix before now line)

-- so it is told to a sink, by its count of faults and by what it has taken
abbrev pub IsToldOn : {E : Type 0} → (faults : E → ℕ) → (taken : E → Option (List ℕ)) → (before now : E) → List ℕ → Type 0
IsToldOn faults taken before now line = IsTold (CountHasRisen (faults before) (faults now)) (taken before) (taken now) line

-- The status after a line was to be told: as it was with the line told, or 7 where nothing was taken for want of memory.
abbrev pub Tells : (status result : ℕ) → (told nothing : Type 0) → Type 0
Tells status result told nothing = ((result ≡ status) × told) ⊎ ((result ≡ 7) × nothing)

abbrev pub IsUnchangedOr : Option (List ℕ) → Option (List ℕ) → Type 0 → Type 0
IsUnchangedOr before after part = (after ≡ before) ⊎ part

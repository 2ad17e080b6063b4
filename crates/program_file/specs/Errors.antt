-- What a reading of a program's lines answers, of which want of memory is free.
use Rattle.std.specs.Prelude.{◌≡◌, ℕ, Option, None, Some, Result, Ok, Err}
use Rattle.cbi_base.specs.declared.lines.LineError.{LineError}
use Rattle.cbi_base.specs.declared.lines.LineError.TheVariants as line
use Rattle.cbi_base.specs.declared.memory.Memory.{Memory as NoMemory}
use Rattle.flow.specs.declared.program.ProgramParts.{ProgramParts}
use Rattle.program_file.specs.declared.error.ProgramError.{ProgramError}
use Rattle.program_file.specs.declared.error.ProgramError.TheVariants.{BadProgram, Memory}

-- this item is read of a line, unless memory runs out
abbrev pub TakenAs : {A : Type 0} → Result A LineError → A → Type 0
TakenAs (Ok item) want = item ≡ want
TakenAs (Err line.Bad) want = ⊥
TakenAs (Err line.Memory) want = Unit {0}

-- what was read of a line, where a line without an item is a bad one
abbrev pub item_of : {A : Type 0} → Result (Option A) NoMemory → Result A LineError
item_of (Ok None) = Err line.Bad
item_of (Ok (Some item)) = Ok item
item_of (Err e) = Err line.Memory

-- the answer is this program, unless memory ran out
abbrev pub ProgramReadAs : Result ProgramParts ProgramError → ProgramParts → Type 0
ProgramReadAs (Ok p) want = p ≡ want
ProgramReadAs (Err (BadProgram line)) want = ⊥
ProgramReadAs (Err Memory) want = Unit {0}

-- the bytes are refused at this line, unless memory ran out
abbrev pub ProgramRefusedAt : Result ProgramParts ProgramError → ℕ → Type 0
ProgramRefusedAt (Ok p) line = ⊥
ProgramRefusedAt (Err (BadProgram bad)) line = bad ≡ line
ProgramRefusedAt (Err Memory) line = Unit {0}

-- Why a command didn't do what it was asked, and the cause that stands behind each answer.
use Rattle.std.specs.Prelude.{◌≡◌, ◌⊎◌, ℕ, List, Option, IsSome, Result, Ok, Err}
use Rattle.cbi_base.specs.declared.refusal.Refusal.{Refusal}
use Rattle.command_base.specs.Outside.{TookWithin}
use Rattle.command_base.specs.declared.fault.Fault.{Fault}
use Rattle.command_base.specs.declared.fault.Fault.TheVariants.{Read, Write, Refused, Memory}

-- the cause of each fault, by the name that wasn't read and by the refusal; want of memory has none
abbrev pub HasCause : Fault → (read : List ℕ → Type 0) → (write : Type 0) → (refused : Refusal → Type 0) → Type 0
HasCause (Read name) read write refused = read name
HasCause Write read write refused = write
HasCause (Refused refusal) read write refused = refused refusal
HasCause Memory read write refused = Unit {0}

-- a fact of the name that wasn't read
abbrev pub IfReadFault : Fault → (List ℕ → Type 0) → Type 0
IfReadFault (Read name) P = P name
IfReadFault fault P = Unit {0}

-- a fact where the bytes read are refused
abbrev pub IfRefusal : Fault → Type 0 → Type 0
IfRefusal (Refused refusal) P = P
IfRefusal fault P = Unit {0}

-- a fact where memory was wanting
abbrev pub IfMemoryFault : Fault → Type 0 → Type 0
IfMemoryFault Memory P = P
IfMemoryFault fault P = Unit {0}

-- the status of each fault
abbrev pub status_of : Fault → ℕ
status_of (Read name) = 3
status_of Write = 4
status_of (Refused refusal) = 5
status_of Memory = 7

-- What a fault leaves: what was there, or what is left where a write met a fault, or by a refusal; want of memory leaves what was there, or what it
-- leaves within the command.
abbrev pub LeftBy : Fault → (unmoved part : Type 0) → (refused : Refusal → Type 0) → (wanting : Type 0) → Type 0
LeftBy (Read name) unmoved part refused wanting = unmoved
LeftBy Write unmoved part refused wanting = part
LeftBy (Refused refusal) unmoved part refused wanting = refused refusal
LeftBy Memory unmoved part refused wanting = unmoved ⊎ wanting

-- what a fault leaves on out, where a text is due there and nothing else is written
abbrev pub LeftOnOut : (due : List ℕ → Type 0) → Fault → (before after : Option (List ℕ)) → Type 0
LeftOnOut due fault before after = LeftBy fault (after ≡ before) (TookWithin due before after) (λ refusal. after ≡ before) ⊥

-- a fault that is a refusal or may come before one
abbrev pub Precedes : Fault → Type 0
Precedes (Read name) = Unit {0}
Precedes Write = ⊥
Precedes (Refused refusal) = Unit {0}
Precedes Memory = Unit {0}

-- a fact of each answer that comes after the files were read
abbrev pub IfFilesRead : {A : Type 0} → Result A Fault → Type 0 → Type 0
IfFilesRead (Ok done) P = P
IfFilesRead (Err (Read name)) P = Unit {0}
IfFilesRead (Err Write) P = P
IfFilesRead (Err (Refused refusal)) P = P
IfFilesRead (Err Memory) P = Unit {0}

-- a fact of each answer that comes after all was read that is to be read
abbrev pub IfAllRead : {A : Type 0} → Result A Fault → Type 0 → Type 0
IfAllRead (Ok done) P = P
IfAllRead (Err (Read name)) P = Unit {0}
IfAllRead (Err Write) P = P
IfAllRead (Err (Refused refusal)) P = Unit {0}
IfAllRead (Err Memory) P = Unit {0}

-- a write met a fault: one to out, or one to the store of a command that writes a report there
abbrev pub WriteFaultOf : (report : Option (List ℕ)) → (out store : Type 0) → Type 0
WriteFaultOf report out store = out ⊎ (IsSome report × store)

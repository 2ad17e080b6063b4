-- What a fault of one step is to the whole command.
use Rattle.std.proofs.Common.{◌⊎◌, inr, ℕ, List, Err}
use Rattle.cbi_base.specs.declared.refusal.Refusal.{Refusal}
use Rattle.command_base.specs.declared.fault.Fault.{Fault}
use Rattle.command_base.specs.declared.fault.Fault.TheVariants.{Read, Write, Refused, Memory}
use Rattle.command_base.specs.Faults.{HasCause, LeftBy, IfRefusal, IfFilesRead}

-- a fault of a look at the bytes is a fault of the command
pub caused-as : (e : Fault) (read : List ℕ → Type 0) (write : Type 0) (P Q : Refusal → Type 0) → HasCause e (λ n. ⊥) ⊥ P → ((r : Refusal) → P r → Q r) → HasCause e read write Q
caused-as (Read name) read write P Q h k = absurd h
caused-as Write read write P Q h k = absurd h
caused-as (Refused refusal) read write P Q h k = k refusal h
caused-as Memory read write P Q h k = tt

-- a fault of publishing is of a write or of memory
pub published-part : (e : Fault) (write unmoved stopped broke : Type 0) (refused : Refusal → Type 0) → HasCause e (λ n. ⊥) write (λ r. ⊥) → stopped → LeftBy e unmoved stopped refused (broke ⊎ stopped)
published-part (Read name) write unmoved stopped broke refused cause s = absurd cause
published-part Write write unmoved stopped broke refused cause s = s
published-part (Refused refusal) write unmoved stopped broke refused cause s = absurd cause
published-part Memory write unmoved stopped broke refused cause s = inr (inr s)

-- what follows from each refusal that a fault can be follows from the fault
pub refused-as : (e : Fault) (read : List ℕ → Type 0) (write : Type 0) (P : Refusal → Type 0) (Q : Type 0) → HasCause e read write P → ((r : Refusal) → P r → Q) → IfRefusal e Q
refused-as (Refused refusal) read write P Q h k = k refusal h
refused-as e read write P Q h k = tt

-- a fact that held when the files had been read stands after any fault
pub passed-as : (A : Type 0) (e : Fault) (P : Type 0) → P → IfFilesRead {A = A} (Err e) P
passed-as A (Read name) P h = tt
passed-as A Write P h = h
passed-as A (Refused refusal) P h = h
passed-as A Memory P h = tt

-- What a function that reads files finds and leaves of the store, and why it stopped.
use Rattle.std.specs.Prelude.{◌≡◌, ◌≤◌, ℕ, List, Option, Result, IfErr}
use Rattle.cbi_base.specs.Words.{CountHasRisen, Held}
use Rattle.cbi_base.specs.declared.refusal.Refusal.{Refusal}
use Rattle.command_base.specs.declared.fault.Fault.{Fault}
use Rattle.command_base.specs.Faults.{HasCause, IfReadFault, IfFilesRead}
use Rattle.command_base.specs.Names.{AreHeld, IsFirstMissing, IsOneOf}

-- It reads the files with these names, in this order, and answers `result`. It stops at one of the names, where the store's count of reads rises, by a
-- refusal of what it read, or for want of memory. All names were held where nothing stops it or a refusal does, and a sound store stops it at the first
-- that isn't held. The store holds what it held, counts no write, and stays sound; a sound one counts no read where all names are held.
pub record HasRead {S A : Type 0} (holds : S → Option Held) (read_faults write_faults : S → ℕ) (is_sound : S → Type 0) (before after : S)
    (names : List (List ℕ)) (refuses : Refusal → Type 0) (result : Result A Fault) : Type 0 where
  pub fault : IfErr result (λ e. HasCause e (λ name. IsOneOf names name × CountHasRisen (read_faults before) (read_faults after)) ⊥ refuses)
  pub was_held : IfFilesRead result (AreHeld (holds before) names)
  pub missing : is_sound before → IfErr result (λ e. IfReadFault e (IsFirstMissing (holds before) names))
  pub held : holds after ≡ holds before
  pub writes : write_faults after ≡ write_faults before
  pub never_falls : read_faults before ≤ read_faults after
  pub sound : is_sound before → is_sound after
  pub sound_count : is_sound before → AreHeld (holds before) names → read_faults after ≡ read_faults before

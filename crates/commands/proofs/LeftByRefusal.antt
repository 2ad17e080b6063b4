-- What a refusal or a file that isn't read leaves: what out has taken and what the store holds, and no more than what want of memory leaves.
use Rattle.std.proofs.Common.{◌≡◌, ◌⊎◌, inl, inr, ℕ, List, Option, Some, None}
use Rattle.cbi_base.specs.declared.observation.Observation.{Observation}
use Rattle.cbi_base.specs.declared.refusal.Refusal.{Refusal}
use Rattle.cbi_words.specs.declared.command.Command.{Command}
use Rattle.cbi_words.specs.declared.command.Command.TheVariants.{Study, Runs}
use Rattle.command_base.specs.Outside.{IsUnmoved, Outside}
use Rattle.command_study.proofs.StudyLemmas.{refused-left}
use Rattle.commands.proofs.LeftByRuns.{left-stopped, left-unwritten, unread-stopped, unread-unwritten as runs-unread-unwritten}
use Rattle.commands.specs.Commands.{LeftRefused, LeftUnread, LeftWithin}

module _ {B : Type 0} (told : B → List Observation) where
  pub refused-unwritten : (command : Option Command) (refusal : Refusal) (before after : Outside B) → LeftRefused told command refusal before after
      → (after.out ≡ before.out) × (after.held ≡ before.held)
  refused-unwritten None refusal before after h = absurd h
  refused-unwritten (Some (Runs words)) refusal before after h = left-unwritten told words refusal before after h
  refused-unwritten command refusal before after h = (h.out, h.held)

  pub refused-wanting : (command : Option Command) (refusal : Refusal) (before after : Outside B) → LeftRefused told command refusal before after
      → IsUnmoved before after ⊎ LeftWithin told command before after
  refused-wanting None refusal before after h = absurd h
  refused-wanting (Some (Runs words)) refusal before after h = left-stopped told words refusal before after h
  refused-wanting (Some (Study words)) refusal before after h =
      inr (inl (refused-left told words before after refusal h))
  refused-wanting command refusal before after h = inl h

  -- what is left where a file isn't read: what out has taken and what the store holds, and no more than what want of memory leaves
  pub unread-unwritten : (command : Option Command) (name : List ℕ) (before after : Outside B) → LeftUnread told command name before after
      → (after.out ≡ before.out) × (after.held ≡ before.held)
  unread-unwritten (Some (Runs words)) name before after h = runs-unread-unwritten told words name before after h
  unread-unwritten command name before after h = (h.out, h.held)

  pub unread-wanting : (command : Option Command) (name : List ℕ) (before after : Outside B) → LeftUnread told command name before after
      → IsUnmoved before after ⊎ LeftWithin told command before after
  unread-wanting (Some (Runs words)) name before after h = unread-stopped told words name before after h
  unread-wanting command name before after h = inl h

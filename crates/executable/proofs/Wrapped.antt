-- A call of the top call is a call as the laws take it.
use Rattle.std.proofs.Common.{◌≡◌, ℕ, List, [], ◌++◌, map, Option, Some, IsNone, sym, subst, ◌∙◌, append-nil}
use Rattle.std.proofs.lemmas.List.{append_cancel_left}
use Rattle.std.proofs.lemmas.Option.{same_Some}
use Rattle.cbi_base.specs.declared.observation.Observation.{Observation}
use Rattle.cbi_base.specs.Store.{Held}
use Rattle.cbi_words.specs.declared.command.Command.{Command}
use Rattle.cbi_words.specs.Reading.{command_of_words}
use Rattle.command_base.specs.declared.done.Done.{Done}
use Rattle.command_base.specs.Outside.{AllStayBut, outside_state}
use Rattle.commands.specs.Commands.{Did, IsRefused, written_by}
use Rattle.top_call.specs.Statuses.{IsStatus, IsUntouched}
use Rattle.top_call.specs.Told.{DoneTold}
use Rattle.executable.specs.Call.{IsCall, call_of}
use Rattle.executable.proofs.Telling.{as_told, did-told}

module _ {B : Type 0} (told : B → List Observation) (old new : List B) (held held_after : Option Held) (took took_after : Option (List ℕ)) (before after : Held) (taken out : List ℕ)
    (found : held ≡ Some before) (left : held_after ≡ Some after) (had : took ≡ Some taken) (has : took_after ≡ Some (taken ++ out)) where
  -- what was done, by what the devices tell
  told-done : (command : Option Command) (said : Done) → Did told command (outside_state held took old) (outside_state held_after took_after new) said
      → Did as_told command (outside_state (Some before) (Some taken) (map told old)) (outside_state (Some after) (Some (taken ++ out)) (map told new)) said
  told-done command said did =
      did-told told command (outside_state (Some before) (Some taken) old) (outside_state (Some after) (Some (taken ++ out)) new) said
      (subst (λ t. Did told command (outside_state (Some before) (Some taken) old) (outside_state (Some after) t new) said) has
      (subst (λ h. Did told command (outside_state (Some before) (Some taken) old) (outside_state h took_after new) said) left
      (subst (λ t. Did told command (outside_state (Some before) t old) (outside_state held_after took_after new) said) had
      (subst (λ h. Did told command (outside_state h took old) (outside_state held_after took_after new) said) found did))))

  pub is-call : (words : List (List ℕ)) (status : ℕ) (lines : List ℕ) (err : List ℕ → Type 0) → IsStatus status
      → (status ≡ 0 → DoneTold (Did told (command_of_words words) (outside_state held took old) (outside_state held_after took_after new)) lines err)
      → (status ≡ 2 → IsNone (command_of_words words)) → (status ≡ 5 → IsRefused (command_of_words words) held) → (IsUntouched status → took_after ≡ took)
      → (IsUntouched status → held_after ≡ held) → AllStayBut (written_by (command_of_words words)) held held_after → IsCall (call_of words before after out status)
  is-call words status lines err is done usage refused untouched unwritten stays = record {
    taken = taken;
    told_before = map told old;
    told_after = map told new;
    status = is;
    done = λ zero. let d = done zero in (d.said, told-done (command_of_words words) d.said d.is_done);
    usage = usage;
    refused = λ five. subst (λ h. IsRefused (command_of_words words) h) found (refused five);
    untouched = λ u.
        let same : Some (taken ++ out) ≡ Some taken = sym has ∙ untouched u ∙ had in
        append_cancel_left taken out [] (same_Some (taken ++ out) taken same ∙ sym (append-nil taken));
    unwritten = λ u. same_Some after before (sym left ∙ unwritten u ∙ found);
    held = subst (λ h. AllStayBut (written_by (command_of_words words)) (Some before) h) left
        (subst (λ h. AllStayBut (written_by (command_of_words words)) h held_after) found stays);
  }

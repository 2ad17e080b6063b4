-- One call of the executable: its words, the files before it and after it, what it put out, and the status that it ended with.
use Rattle.std.specs.Prelude.{◌≡◌, ℕ, List, [], ◌++◌, Option, Some, IsNone}
use Rattle.cbi_base.specs.declared.observation.Observation.{Observation}
use Rattle.cbi_base.specs.Store.{Held}
use Rattle.cbi_words.specs.declared.command.Command.{Command}
use Rattle.cbi_words.specs.Reading.{command_of_words}
use Rattle.command_base.specs.declared.done.Done.{Done}
use Rattle.command_base.specs.Outside.{AllStayBut, Outside, outside_state}
use Rattle.commands.specs.Commands.{Did, IsRefused, written_by}
use Rattle.top_call.specs.Statuses.{IsStatus, IsUntouched}
use Rattle.top_call.specs.Told.{DoneTold}

pub record Call : Type 0 where
  pub words : List (List ℕ)
  pub before : Held
  pub after : Held
  pub out : List ℕ
  pub status : ℕ

-- a call by these
abbrev pub call_of : (words : List (List ℕ)) → (before after : Held) → (out : List ℕ) → (status : ℕ) → Call
call_of words before after out status = record { words = words; before = before; after = after; out = out; status = status }

-- the command that its words read as
abbrev pub command_of : Call → Option Command
command_of call = command_of_words call.words

-- what the call found and what it left, where out had taken this before it, and each watcher was told this before and after it
abbrev pub found_by_call : Call → (taken : List ℕ) → (told : List (List Observation)) → Outside (List Observation)
found_by_call call taken told = outside_state (Some call.before) (Some taken) told

abbrev pub left_by_call : Call → (taken : List ℕ) → (told : List (List Observation)) → Outside (List Observation)
left_by_call call taken told = outside_state (Some call.after) (Some (taken ++ call.out)) told

-- what was done of this command, and what was said of it
abbrev pub IsDone : Option Command → (call : Call) → (taken : List ℕ) → (told_before told_after : List (List Observation)) → Type 0
IsDone command call taken told_before told_after =
    (said : Done) × Did (λ (told : List Observation). told) command (found_by_call call taken told_before) (left_by_call call taken told_after) said

-- What the top call says at the end of a call, by the clauses of `top_call::cbi` of the same names, over a store and an out that tell what they hold and
-- have taken.
pub record IsCall (call : Call) : Type 0 where
  pub taken : List ℕ
  pub told_before : List (List Observation)
  pub told_after : List (List Observation)
  pub status : IsStatus call.status
  pub done : call.status ≡ 0 → IsDone (command_of call) call taken told_before told_after
  pub usage : call.status ≡ 2 → IsNone (command_of call)
  pub refused : call.status ≡ 5 → IsRefused (command_of call) (Some call.before)
  pub untouched : IsUntouched call.status → call.out ≡ []
  pub unwritten : IsUntouched call.status → call.after ≡ call.before
  pub held : AllStayBut (written_by (command_of call)) (Some call.before) (Some call.after)

-- What `top_call::cbi` says at its end of a call by these words, by its clauses of these names: of what the store held before and after, what out had taken
-- before and after, watchers of which `seen` gives the list, their lines, and what err is told.
pub record IsSaid {B : Type 0} (seen : B → List Observation) (words : List (List ℕ)) (status : ℕ) (held_before held_after : Option Held)
    (taken_before taken_after : Option (List ℕ)) (watching watched : List B) (lines : List ℕ) (ErrIsTold : List ℕ → Type 0) : Type 0 where
  pub is_status : IsStatus status
  pub done : status ≡ 0 → DoneTold (Did seen (command_of_words words) (outside_state held_before taken_before watching)
      (outside_state held_after taken_after watched)) lines ErrIsTold
  pub usage : status ≡ 2 → IsNone (command_of_words words)
  pub refused : status ≡ 5 → IsRefused (command_of_words words) held_before
  pub untouched : IsUntouched status → taken_after ≡ taken_before
  pub unwritten : IsUntouched status → held_after ≡ held_before
  pub held : AllStayBut (written_by (command_of_words words)) held_before held_after

-- a call of which that is said, over a store and an out that tell what they hold and have taken, is one
abbrev pub MakesACall : {B : Type 0} → (seen : B → List Observation) → (ErrIsTold : List ℕ → Type 0) → Type 0
MakesACall seen ErrIsTold =
    (words : List (List ℕ)) (status : ℕ) (before after : Held) (taken out lines : List ℕ) (watching watched : List _) →
    IsSaid seen words status (Some before) (Some after) (Some taken) (Some (taken ++ out)) watching watched lines ErrIsTold
    → IsCall (call_of words before after out status)

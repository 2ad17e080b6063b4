-- What `runs` leaves where a file isn't read or it is refused: what out has taken and what the store holds, and no more than what want of memory leaves.
use Rattle.std.proofs.Common.{◌≡◌, ◌⊎◌, inl, inr, ℕ, List, [], ◌∷◌, ◌++◌, arith}
use Rattle.std.proofs.lemmas.List.{length_push}
use Rattle.cbi_base.specs.declared.observation.Observation.{Observation}
use Rattle.cbi_base.specs.declared.refusal.Refusal.{Refusal}
use Rattle.command_base.specs.declared.fault.Fault.TheVariants.{Read, Refused, Memory}
use Rattle.command_base.specs.Outside.{IsUnmoved, Outside}
use Rattle.flow.specs.declared.program.ProgramParts.{ProgramParts}
use Rattle.planned_runs.specs.declared.input.RunInput.{RunInput}
use Rattle.planned_runs.specs.Left.{HasPlanStopped, LeftByPlan}
use Rattle.command_runs.specs.Line.{RefusesLine, names_of_line}
use Rattle.command_runs.specs.Runs.{LeftByRuns, RunsStopped, RunsTaken}
use Rattle.cbi_options.specs.declared.words.RunsWords.{RunsWords}

-- runs before a refusal are runs before memory was wanting
refused-stopped : {B : Type 0} (p : ProgramParts) (gives : ℕ → RunInput → Type 0) (first count turns : ℕ) (told : B → List Observation) (before after : List B)
    (names : ℕ → List (List ℕ)) (refuses : ℕ → Refusal → Type 0) (refusal : Refusal) → LeftByPlan p gives first count turns told before after names refuses (Refused refusal)
    → HasPlanStopped p gives first count turns told before after
refused-stopped p gives first count turns told before after names refuses refusal (inl h) =
    record { done = h.is.earlier; few = omega (arith, h.is.within); are = h.is.are; left = inl h.grew }
refused-stopped p gives first count turns told before after names refuses refusal (inr h) =
    record { done = h.is.earlier ++ h.is.last ∷ []; few = omega (arith, h.is.within, length_push h.is.earlier h.is.last); are = h.is.are; left = inl h.grew }

module _ {B : Type 0} (told : B → List Observation) (r : RunsWords) where
  -- what out has taken and what the store holds
  pub unread-unwritten : (name : List ℕ) (before after : Outside B) → LeftByRuns told r before after (Read name)
      → (after.out ≡ before.out) × (after.held ≡ before.held)
  unread-unwritten name before after (inl h) = (h.0.out, h.0.held)
  unread-unwritten name before after (inr h) = (h.out, h.held)

  pub left-unwritten : (refusal : Refusal) (before after : Outside B) → LeftByRuns told r before after (Refused refusal)
      → (after.out ≡ before.out) × (after.held ≡ before.held)
  left-unwritten refusal before after (inl h) = (h.0.out, h.0.held)
  left-unwritten refusal before after (inr h) = (h.out, h.held)

  -- runs before a fault are runs before memory was wanting
  unread-runs : (name : List ℕ) (before after : Outside B) → RunsStopped told r before after (Read name) → RunsStopped told r before after Memory
  unread-runs name before after h = record {
    texts = h.texts;
    parts = h.parts;
    plan = h.plan;
    is_plan = h.is_plan;
    out = h.out;
    held = h.held;
    boxes = record { done = h.boxes.earlier; few = omega (arith, h.boxes.within); are = h.boxes.are; left = inl h.boxes.grew };
  }

  left-runs : (refusal : Refusal) (before after : Outside B) → RunsStopped told r before after (Refused refusal) → RunsStopped told r before after Memory
  left-runs refusal before after h = record {
    texts = h.texts;
    parts = h.parts;
    plan = h.plan;
    is_plan = h.is_plan;
    out = h.out;
    held = h.held;
    boxes = refused-stopped _ _ _ _ _ told before.boxes after.boxes (names_of_line h.plan) (RefusesLine h.plan before.held) refusal h.boxes;
  }

  pub unread-stopped : (name : List ℕ) (before after : Outside B) → LeftByRuns told r before after (Read name)
      → IsUnmoved before after ⊎ (RunsStopped told r before after Memory ⊎ RunsTaken told r before after)
  unread-stopped name before after (inl h) = inl h.0
  unread-stopped name before after (inr h) = inr (inl (unread-runs name before after h))

  pub left-stopped : (refusal : Refusal) (before after : Outside B) → LeftByRuns told r before after (Refused refusal)
      → IsUnmoved before after ⊎ (RunsStopped told r before after Memory ⊎ RunsTaken told r before after)
  left-stopped refusal before after (inl h) = inl h.0
  left-stopped refusal before after (inr h) = inr (inl (left-runs refusal before after h))

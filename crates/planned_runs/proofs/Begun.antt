-- Runs by a plan of which none was made.
use Rattle.std.proofs.Common.{inl, ℕ, List, [], arith}
use Rattle.cbi_base.specs.declared.observation.Observation.{Observation}
use Rattle.flow.specs.declared.program.ProgramParts.{ProgramParts}
use Rattle.probes.proofs.Growing.{AllGrew-none}
use Rattle.planned_runs.specs.declared.input.RunInput.{RunInput}
use Rattle.planned_runs.specs.Left.{HasPlanStopped}

pub none_made : {B : Type 0} (p : ProgramParts) (gives : ℕ → RunInput → Type 0) (first count turns : ℕ) (told : B → List Observation) (before : List B)
    → HasPlanStopped p gives first count turns told before before
none_made p gives first count turns told before = record { done = []; few = omega arith; are = tt; left = inl (AllGrew-none told before) }

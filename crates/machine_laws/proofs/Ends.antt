-- Each run of a program ends, and what its steps keep of what was observed holds of the ending.
use Rattle.std.proofs.Common.{◌≡◌, ℕ, zero, suc, ◌+◌, ◌*◌, ◌<◌, List, [], Option, None, Some, refl, subst, sym, arith}
use Rattle.cbi_base.specs.Words.{each_made, Objects, no_objects}
use Rattle.cbi_base.specs.declared.observation.Observation.{Observation}
use Rattle.flow.specs.declared.program.ProgramParts.{ProgramParts}
use Rattle.flow.specs.Words.{Code, code_of, Ends, EndsFrom, MachineEnds, at_start, run_start, begin_with, step, program_objects, IsProgram, Ending, Next, State, On}
use Rattle.flow.specs.Words.{Over}
use Rattle.flow.proofs.Endings.{ends_over, leads_one}
use Rattle.flow.proofs.Programs.{code_fits}
use Rattle.machine_laws.proofs.Stepping.{Sees, Steps, enter_steps, left, placed, step_steps}

-- steps keep this of what was observed
pub record Keeps (code : Code) (holds : List Observation → Type 0) : Type 0 where
  pub kept : (before after : List Observation) → Sees code before after → holds before → holds after

-- a run from this state ends so, and this holds of what it observed
pub record EndsWith (code : Code) (holds : List Observation → Type 0) (s : State) : Type 0 where
  pub ending : Ending
  pub ends : Ends code s ending
  pub holds_of : holds ending.seen

-- a run ends from where each state with less left ends
goes_on : (code : Code) (holds : List Observation → Type 0) (s : State) (next : Next) (bound : ℕ) → Keeps code holds → holds s.watch.seen → step code s ≡ next →
    Steps code bound s.watch.seen next → ((t : State) → left t < bound → holds t.watch.seen → EndsWith code holds t) → EndsWith code holds s
goes_on code holds s (Over ending) bound keeps here is steps each = record { ending = ending; ends = ends_over code s ending is; holds_of = subst holds (sym steps) here }
goes_on code holds s (On t) bound keeps here is steps each =
    let more = each t steps.0 (keeps.kept s.watch.seen t.watch.seen steps.1 here) in
    record { ending = more.ending; ends = (leads_one code s t is).by more.ending more.ends; holds_of = more.holds_of }

-- a state of a program that has less left than this ends
ends_within : (p : ProgramParts) (bank : ℕ → ℕ) (holds : List Observation → Type 0) → IsProgram p → Keeps (code_of p bank) holds → (bound : ℕ) (s : State) → left s < bound →
    holds s.watch.seen → EndsWith (code_of p bank) holds s
ends_within p bank holds is keeps zero s less here = absurd (omega arith)
ends_within p bank holds is keeps (suc bound) s less here =
    let code : Code = code_of p bank in
    let leads = (code_fits p bank s.function s.node is).leads in
    let steps = step_steps code (code.at s.function s.node) s leads (placed p bank s.function s.node is) in
    goes_on code holds s (step code s) (left s) keeps here refl steps (λ t h there. ends_within p bank holds is keeps bound t (omega (arith, h, less)) there)

-- how a run goes on from its beginning
ends_from : (p : ProgramParts) (bank : ℕ → ℕ) (holds : List Observation → Type 0) (next : Next) (bound : ℕ) → IsProgram p → Keeps (code_of p bank) holds → holds [] →
    Steps (code_of p bank) bound [] next → (ending : Ending) × EndsFrom (code_of p bank) next ending × holds ending.seen
ends_from p bank holds (Over ending) bound is keeps nothing steps = (ending, refl, subst holds (sym steps) nothing)
ends_from p bank holds (On s) bound is keeps nothing steps =
    let ends = ends_within p bank holds is keeps (suc (left s)) s (omega arith) (keeps.kept [] s.watch.seen steps.1 nothing) in
    (ends.ending, ends.ends, ends.holds_of)

-- nothing was observed before the main function is entered
begin_steps : (p : ProgramParts) (input : List ℕ) (bank : ℕ → ℕ) (turns : ℕ) (made : Option Objects) →
    (bound : ℕ) × Steps (code_of p bank) bound [] (begin_with (code_of p bank) p.main input turns made)
begin_steps p input bank turns None = (0, refl)
begin_steps p input bank turns (Some objects) =
    let s : State = at_start (code_of p bank) input turns objects in
    let bound : ℕ = suc (turns * 16000001 + 16000000 + 0) in
    (bound, enter_steps (code_of p bank) ((code_of p bank).callee p.main) p.main [] s bound (omega arith))

-- each run ends, and what its steps keep holds of what it observed
pub run_ends : (p : ProgramParts) (input : List ℕ) (bank : ℕ → ℕ) (turns : ℕ) (holds : List Observation → Type 0) → IsProgram p → Keeps (code_of p bank) holds → holds [] →
    (ending : Ending) × MachineEnds p input bank turns ending × holds ending.seen
run_ends p input bank turns holds is keeps nothing =
    let begun = begin_steps p input bank turns (each_made (program_objects p) no_objects) in
    ends_from p bank holds (run_start p input bank turns) begun.0 is keeps nothing begun.1

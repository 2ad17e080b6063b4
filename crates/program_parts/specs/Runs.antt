-- What the program of a part comes to, beside the whole program.
use Rattle.std.specs.Prelude.{◌≡◌, ◌⊎◌, ℕ, List}
use Rattle.cbi_base.specs.declared.outcome.Outcome.TheVariants.{Trapped}
use Rattle.cbi_base.specs.declared.trap.Trap.TheVariants.{Internal}
use Rattle.flow.specs.declared.program.ProgramParts.{ProgramParts}
use Rattle.flow.specs.Words.{MachineEnds, Ending}
use Rattle.flow.specs.declared.choice.Part.{Part}
use Rattle.program_parts.specs.Part.{part_visits}

-- the same outcome, output, work and draws, and the part's visits of what was observed
abbrev pub part_ending : Part → Ending → Ending
part_ending part ending = record ending { seen = part_visits part ending.seen }

-- a run met a fault of the program itself
abbrev pub IsFaulty : Ending → Type 0
IsFaulty ending = ending.outcome ≡ Trapped Internal

-- a run of the whole program that ends so, or meets a fault of the program itself
pub record RunsBeside (part : Part) (p : ProgramParts) (input : List ℕ) (bank : ℕ → ℕ) (turns : ℕ) (ending : Ending) : Type 0 where
  pub whole : Ending
  pub ends : MachineEnds p input bank turns whole
  pub alike : IsFaulty whole ⊎ (ending ≡ part_ending part whole)

-- Whatever a run of the program comes to, but a fault of the program itself, the part's program comes to with the same input, bank and turns, and
-- observes the part's visits of what that one observes; and it comes to nothing else.
pub record RunsInPart (part : Part) (p q : ProgramParts) : Type 0 where
  pub there : (input : List ℕ) (bank : ℕ → ℕ) (turns : ℕ) (whole : Ending) → MachineEnds p input bank turns whole → (IsFaulty whole → ⊥) →
      MachineEnds q input bank turns (part_ending part whole)
  pub back : (input : List ℕ) (bank : ℕ → ℕ) (turns : ℕ) (ending : Ending) → MachineEnds q input bank turns ending → RunsBeside part p input bank turns ending

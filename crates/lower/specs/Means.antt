-- What a program does that means the same as a text.
use Rattle.std.specs.Prelude.{◌≡◌, ℕ, List}
use Rattle.flow.specs.declared.program.ProgramParts.{ProgramParts}
use Rattle.flow.specs.Words.{MachineEnds, Ending}
use Rattle.c_meaning.specs.Runs.{Source, meaning}
use Rattle.lower_relation.specs.Functions.{ending_of}

-- On every input, with every bank, within every bound of turns, a run of the program has the outcome and the output of the text, and observes the
-- visits of sites that the text's meaning has, one after another; and there is no other ending.
pub record MeansText (src : Source) (p : ProgramParts) : Type 0 where
  pub ends : (input : List ℕ) (bank : ℕ → ℕ) (turns : ℕ) → MachineEnds p input bank turns (ending_of (meaning src input turns))
  pub only : (input : List ℕ) (bank : ℕ → ℕ) (turns : ℕ) (ending : Ending) → MachineEnds p input bank turns ending
      → ending ≡ ending_of (meaning src input turns)

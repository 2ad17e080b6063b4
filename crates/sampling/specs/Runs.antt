-- What a sampled program comes to: the theorem of sampling (PLDI 2003 section 2).
use Rattle.std.specs.Prelude.{◌≡◌, ℕ, List}
use Rattle.cbi_base.specs.declared.outcome.Outcome.TheVariants.{Trapped}
use Rattle.cbi_base.specs.declared.trap.Trap.TheVariants.{Internal}
use Rattle.flow.specs.declared.program.ProgramParts.{ProgramParts}
use Rattle.flow.specs.Words.{counts_of, run_result, MachineEnds, IsProgram, IsPositive, samples, Ending, IsReady}
use Rattle.clone_paths.specs.Cloned.{Cloned, MayClone}

-- how a sampled run ends, beside how the full one does: the same outcome and output, and the samples of what the full one observed
pub record IsSampleOf (bank : ℕ → ℕ) (full ending : Ending) : Type 0 where
  pub outcome : ending.outcome ≡ full.outcome
  pub output : ending.output ≡ full.output
  pub seen : ending.seen ≡ samples bank full.seen

-- the sampled program ends a run so
pub record RunsLike (p q : ProgramParts) (input : List ℕ) (bank : ℕ → ℕ) (turns : ℕ) (full : Ending) : Type 0 where
  pub ending : Ending
  pub ends : MachineEnds q input bank turns ending
  pub is_sample : IsSampleOf bank full ending
  pub counts : (run_result q.sites ending).counts ≡ counts_of p.sites (samples bank full.seen)

-- whatever a run of the program comes to, but a fault of the program itself, the sampled program comes to with the same input, bank and turns
abbrev pub Samples : ProgramParts → ProgramParts → Type 0
Samples p q =
    (input : List ℕ) (bank : ℕ → ℕ) (turns : ℕ) (full : Ending) → IsPositive bank → MachineEnds p input bank turns full →
    (full.outcome ≡ Trapped Internal → ⊥) → RunsLike p q input bank turns full

-- a program in the cloned form of a ready one samples it
abbrev pub SampledRuns : Type 0
SampledRuns = (p q : ProgramParts) → IsProgram p → MayClone p → IsReady p → Cloned p q → Samples p q

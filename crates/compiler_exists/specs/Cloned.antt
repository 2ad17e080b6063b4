-- That a program has a cloned form.
use Rattle.flow.specs.declared.program.ProgramParts.{ProgramParts}
use Rattle.flow.specs.Program.{IsProgram}
use Rattle.clone_paths.specs.Cloned.{Cloned, IsSmall}

-- a program in the cloned form of this one, with few nodes
pub record HasClone (p : ProgramParts) : Type 0 where
  pub clone : ProgramParts
  pub is_program : IsProgram clone
  pub cloned : Cloned p clone
  pub small : IsSmall p clone

-- That there is a program that a text is compiled to.
use Rattle.std.specs.Prelude.{List, ℕ}
use Rattle.flow.specs.declared.program.ProgramParts.{ProgramParts}
use Rattle.flow.specs.Program.{IsProgram}
use Rattle.compiler.specs.Compiled.{IsCompiled}
use Rattle.compiler.specs.declared.plan.Plan.{Plan}

-- a program that keeps all conditions on programs, and that the text is compiled to by the plan
pub record HasCompiled (text : List ℕ) (plan : Plan) : Type 0 where
  pub program : ProgramParts
  pub is_program : IsProgram program
  pub compiled : IsCompiled text plan program

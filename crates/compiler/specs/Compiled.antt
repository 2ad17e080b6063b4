-- What a text is compiled to.
use Rattle.std.specs.Prelude.{◌≡◌, ℕ, List, None}
use Rattle.c_syntax.specs.ItemTree.{SourceTree}
use Rattle.c_types_expressions.specs.declared.walk.Walk.{Walk}
use Rattle.flow.specs.declared.program.ProgramParts.{ProgramParts}
use Rattle.flow.specs.Program.{table_of}
use Rattle.defined_functions.specs.Functions.{functions_of}
use Rattle.compiler.specs.Accepted.{IsAccepted}
use Rattle.compiler.specs.declared.plan.Plan.{Plan}
use Rattle.compiler.specs.declared.plan.Plan.TheVariants as plan
use Rattle.compiler.specs.Does.{DoesText, SamplesText}
use Rattle.compiler.specs.Planned.{FitsPlan, planned_sites}

-- The program looks at each visit of the planned sites, or samples the visits; where it has a part of the sites, those of the part.
abbrev pub DoesPlan : Plan → SourceTree → Walk → ProgramParts → Type 0
DoesPlan plan.Plain tree known p = DoesText tree known (planned_sites plan.Plain tree known) None p
DoesPlan (plan.Full schemes part) tree known p = DoesText tree known (planned_sites (plan.Full schemes part) tree known) part p
DoesPlan (plan.Sampled schemes part) tree known p = SamplesText tree known (planned_sites (plan.Sampled schemes part) tree known) part p

-- The text is accepted, there is room for its sites, the program's functions have its names, and the program does what it means, by the plan.
pub record IsCompiled (text : List ℕ) (plan : Plan) (p : ProgramParts) : Type 0 where
  pub tree : SourceTree
  pub known : Walk
  pub accepted : IsAccepted text tree known
  pub fits : FitsPlan plan tree known
  pub names : (table_of p).functions ≡ functions_of tree
  pub does : DoesPlan plan tree known p

-- Texts that aren't compiled, and the refusal that is told of each: in this order, its tokens, its tree, its types and then its sites.
use Rattle.std.specs.Prelude.{ℕ, ◌<◌, List, length}
use Rattle.cbi_base.specs.declared.refusal.Refusal.{Refusal}
use Rattle.cbi_base.specs.declared.refusal.Refusal.TheVariants.{TooManySites}
use Rattle.c_syntax.specs.ItemTree.{SourceTree}
use Rattle.c_types_expressions.specs.declared.walk.Walk.{Walk}
use Rattle.flow.specs.Limits.{site_limit}
use Rattle.compiler.specs.declared.text_error.TextError.{TextError}
use Rattle.compiler.specs.declared.text_error.TextError.TheVariants as text_error
use Rattle.compiler.specs.Accepted.{IsAccepted}
use Rattle.compiler.specs.Rejected.{RejectsText}
use Rattle.compiler.specs.declared.compile_error.CompileError.{CompileError}
use Rattle.compiler.specs.declared.compile_error.CompileError.TheVariants as error
use Rattle.compiler.specs.declared.plan.Plan.{Plan}
use Rattle.compiler.specs.Planned.{FitsPlan, planned_sites}

-- more sites than a program has room for
abbrev pub AreManySites : Plan → SourceTree → Walk → Type 0
AreManySites plan tree known = site_limit < length (planned_sites plan tree known)

-- the text is accepted, and has so many
pub record HasManySites (text : List ℕ) (plan : Plan) : Type 0 where
  pub tree : SourceTree
  pub known : Walk
  pub accepted : IsAccepted text tree known
  pub many : AreManySites plan tree known

-- which refusal it is
abbrev pub RefusesText : Plan → Refusal → List ℕ → Type 0
RefusesText by TooManySites text = HasManySites text by
RefusesText by refusal text = RejectsText refusal text

-- the text is no accepted one whose sites a program has room for
abbrev pub IsRefusedText : Plan → List ℕ → Type 0
IsRefusedText plan text = (tree : SourceTree) (known : Walk) → IsAccepted text tree known → FitsPlan plan tree known → ⊥

-- it is refused by this refusal, or memory is wanting
abbrev pub RefusedBy : Plan → List ℕ → CompileError → Type 0
RefusedBy by text (error.Refused refusal) = RefusesText by refusal text
RefusedBy by text error.Memory = Unit {0}

-- a checked text is refused for its sites alone, or memory is wanting
abbrev pub CrowdedBy : Plan → SourceTree → Walk → CompileError → Type 0
CrowdedBy by tree known (error.Refused TooManySites) = AreManySites by tree known
CrowdedBy by tree known (error.Refused refusal) = ⊥
CrowdedBy by tree known error.Memory = Unit {0}

-- what is told of a text that isn't accepted
abbrev pub error_of : TextError → CompileError
error_of (text_error.Refused refusal) = error.Refused refusal
error_of text_error.Memory = error.Memory

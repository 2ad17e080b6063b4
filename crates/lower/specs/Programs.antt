-- The functions of a program that does what a text means.
use Rattle.std.specs.Prelude.{◌≡◌, ℕ, ◌≤◌, ◌==◌, List, length, Some, None, slice_get}
use Rattle.std.specs.List.{sum_by}
use Rattle.flow.specs.declared.program.Function.{Function}
use Rattle.flow.specs.Code.{callee_of}
use Rattle.c_meaning.specs.Words.{Signature, Source}
use Rattle.lower_relation.specs.Functions.{callee_with}
use Rattle.lower.specs.Bodies.{BodyNodes}
use Rattle.lower.specs.Ready.{AllMayStand}

-- the function with this number is called as the text's is, and does its body; each of its nodes may stand in a program that is to be sampled
pub record IsFunctionOf (src : Source) (number : ℕ) (f : Function) : Type 0 where
  pub signature : Signature
  pub known : src.facts.signature number ≡ Some signature
  pub called : callee_of (Some f) ≡ Some (callee_with signature)
  pub nodes : BodyNodes src.facts src.sites (number == src.main) signature.result (src.body number) f.nodes
  pub stand : AllMayStand src.sites.site f.nodes

-- these are the text's first functions
abbrev pub AreFunctionsOf : Source → List Function → Type 0
AreFunctionsOf src functions = (number : ℕ) (f : Function) → slice_get functions number ≡ Some f → IsFunctionOf src number f

-- there are no more than so many
abbrev pub HasNoMore : Source → ℕ → Type 0
HasNoMore src count = (number : ℕ) → count ≤ number → src.facts.signature number ≡ None

-- how many nodes all functions have together
abbrev pub node_count : List Function → ℕ
node_count functions = sum_by (λ f. length f.nodes) functions

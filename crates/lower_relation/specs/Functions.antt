-- What it is for a program to do what a text means: the graph of each function does its body (C99 6.9.1, 5.1.2.2.3).
use Rattle.std.specs.Prelude.{◌≡◌, ℕ, ◌==◌, Bool, true, false, List, length, pos, Option, Some, None, slice_get}
use Rattle.std.specs.Option.{option_map}
use Rattle.cbi_base.specs.declared.scalar.Kind.TheVariants.{Int}
use Rattle.c_syntax.specs.StatementTree.{EntryList}
use Rattle.flow.specs.declared.node.Node.{Node}
use Rattle.flow.specs.declared.node.Node.TheVariants as node
use Rattle.flow.specs.declared.node.View.{View}
use Rattle.flow.specs.declared.node.View.TheVariants.{Gives, Quits}
use Rattle.flow.specs.declared.program.ProgramParts.{ProgramParts}
use Rattle.flow.specs.Words.{Callee, Code, code_of, MachineEnds, no_work, program_objects, Ending, view}
use Rattle.c_meaning.specs.declared.value_type.ValueType.{ValueType}
use Rattle.c_meaning.specs.Words.{Facts, Signature, Sites, Behaviour, Source, meaning, has_value}
use Rattle.lower_relation.specs.Paths.{Graph, Path, Exits, Does, Stuck}
use Rattle.lower_relation.specs.Stands.{Stands, Agrees}
use Rattle.lower_relation.specs.Statements.{EntriesDo}

-- the graph of a list of nodes
abbrev pub graph_of_nodes : List Node → ℕ → View → Type 0
graph_of_nodes nodes i v = option_map view (slice_get nodes i) ≡ Some v

-- Control comes from one node to another: they are one node, or the first one only passes it on.
pub data ComesTo (G : Graph) (i k : ℕ) : Type 0 where
  Stays : i ≡ k → ComesTo G i k
  Passes : Does G (node.Pass 0) i k → ComesTo G i k

-- what a call knows of a function with this signature
abbrev pub callee_with : Signature → Callee
callee_with s = record { value = has_value s.result; params = length s.params; locals = s.locals }

module _ (G : Graph) where
  -- a function with a result is left with it; no other one comes to a value
  abbrev pub GivesAt : Bool → ℕ → Type 0
  GivesAt true i = G i Gives
  GivesAt false i = Stuck G {K = ℕ} i 0

  -- after the last statement `main` gives 0, and any other function is left
  abbrev pub EndsAt : Bool → Bool → Exits → Type 0
  EndsAt true true x = Does G (node.Push Int (pos 0) 0) x.next x.gives
  EndsAt is_main has_value x = x.next ≡ x.leaves

  -- no `break` and no `continue` stands outside a loop
  abbrev pub FunctionExits : Bool → Bool → Exits → Type 0
  FunctionExits is_main has_value x =
      GivesAt has_value x.gives × G x.leaves Quits × EndsAt is_main has_value x × Stuck G {K = ℕ} x.breaks 0 × Stuck G {K = ℕ} x.continues 0

  module _ (facts : Facts) (sites : Sites) where
    abbrev pub BodyDoes : ValueType → Option EntryList → Path Exits
    BodyDoes result None i x = Stuck G i x
    BodyDoes result (Some body) i x = EntriesDo G facts sites result body i x

-- the graph of a function with this signature, under numbers of its own, does its body from its first node on
pub record BodyIn (code : Code) (src : Source) (number : ℕ) (s : Signature) : Type 0 where
  pub nodes : List Node
  pub ren : ℕ → ℕ
  pub stands : Stands code number (graph_of_nodes nodes) ren
  pub start : ℕ
  pub first_node : ren start ≡ 0
  pub entry : ℕ
  pub begins : ComesTo (graph_of_nodes nodes) start entry
  pub exits : Exits
  pub runs : BodyDoes (graph_of_nodes nodes) src.facts src.sites s.result (src.body number) entry exits
  pub leaves : FunctionExits (graph_of_nodes nodes) (number == src.main) (has_value s.result) exits

-- the code has what the text names, and does the bodies of its functions
pub record Lowered (code : Code) (src : Source) : Type 0 where
  pub agrees : Agrees code src.facts src.sites
  pub callees : (number : ℕ) → code.callee number ≡ option_map callee_with (src.facts.signature number)
  pub bodies : (number : ℕ) (s : Signature) → src.facts.signature number ≡ Some s → BodyIn code src number s

-- the program does what the text means, and begins with its objects
pub record IsGraphOf (src : Source) (p : ProgramParts) : Type 0 where
  pub lowered : (bank : ℕ → ℕ) → Lowered (code_of p bank) src
  pub main : p.main ≡ src.main
  pub objects : src.objects ≡ Some (program_objects p)

-- how a run ends that goes so: a program without sampling nodes draws one number, and does no work of sampling
abbrev pub ending_of : Behaviour → Ending
ending_of b = record { outcome = b.outcome; output = b.output; seen = b.seen; work = no_work; drawn = 1 }

-- whatever a text means, its graph does
abbrev pub GraphMeansText : Type 0
GraphMeansText =
    (src : Source) (p : ProgramParts) (input : List ℕ) (bank : ℕ → ℕ) (turns : ℕ) → IsGraphOf src p →
    MachineEnds p input bank turns (ending_of (meaning src input turns))

-- and the graph comes to nothing else
abbrev pub GraphDoesNothingElse : Type 0
GraphDoesNothingElse =
    (src : Source) (p : ProgramParts) (input : List ℕ) (bank : ℕ → ℕ) (turns : ℕ) (ending : Ending) → IsGraphOf src p →
    MachineEnds p input bank turns ending → ending ≡ ending_of (meaning src input turns)

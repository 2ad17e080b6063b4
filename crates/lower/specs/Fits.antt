-- What is known of a function whose nodes may stand in a program.
use Rattle.std.specs.Prelude.{◌≡◌, ℕ, ◌<◌, ◌≤◌, List, length, Option, Some, None}
use Rattle.c_syntax.specs.StatementTree.{EntryList}
use Rattle.flow.specs.declared.node.Node.{Node}
use Rattle.flow.specs.declared.program.Function.{Function}
use Rattle.flow.specs.declared.scope.Bounds.{Bounds}
use Rattle.flow.specs.declared.scope.Names.{Names}
use Rattle.flow.specs.Words.{local_limit, node_limit, NodesFit, bounds_of}
use Rattle.c_meaning.specs.declared.value_type.ValueType.{ValueType}
use Rattle.c_meaning.specs.Words.{Signature, Source}
use Rattle.lower_relation.specs.Room.{function_room}
use Rattle.lower_facts.specs.declared.facts.TreeFacts.{TreeFacts}
use Rattle.lower_facts.specs.Facts.{known_in, table_in, tree_in}
use Rattle.lower_fits.specs.Fitting.{FitsAsBody}
use Rattle.lower_fits.specs.TextNames.{names_of_text}
use Rattle.lower.specs.Ready.{AllMayStand}

-- what the nodes of the text's functions may name
abbrev pub names_in : TreeFacts → Names
names_in f = names_of_text (tree_in f) (known_in f) (table_in f)

-- what the nodes of the function with this number and signature may name, where it has so many of them
abbrev pub bounds_with : ℕ → Signature → ℕ → Bounds
bounds_with number f count = record { function = number; locals = length f.locals; nodes = count }

-- it has a body that fits, with however many nodes
abbrev pub HasFitting : Source → Names → ℕ → Signature → Option EntryList → Type 0
HasFitting src names number f None = ⊥
HasFitting src names number f (Some body) = (lo : ℕ) × ((count : ℕ) → FitsAsBody src.facts src.sites names (bounds_with number f count) f lo body)

-- and it has a signature, with few locals, the parameters among them, and room for its nodes
pub record IsFitting (src : Source) (names : Names) (number : ℕ) : Type 0 where
  pub signature : Signature
  pub known : src.facts.signature number ≡ Some signature
  pub params : length signature.params ≤ length signature.locals
  pub few : length signature.locals ≤ local_limit
  pub room : function_room src.sites (src.body number) ≤ node_limit
  pub body : HasFitting src names number signature (src.body number)

-- so it is with the first functions of the text
abbrev pub AreFitting : Source → Names → ℕ → Type 0
AreFitting src names count = (number : ℕ) → number < count → IsFitting src names number

-- the function with this number has nodes, and each may stand in it
pub record NodesStand (names : Names) (number : ℕ) (f : Function) : Type 0 where
  pub entry : 0 < length f.nodes
  pub nodes : NodesFit names (bounds_of number f) f.nodes

-- these are nodes of the function with this number and signature: each names what is there, and may stand among the others
pub record StandIn (src : Source) (names : Names) (number : ℕ) (f : Signature) (nodes : List Node) : Type 0 where
  pub stand : AllMayStand src.sites.site nodes
  pub fit : NodesFit names (bounds_with number f (length nodes)) nodes

-- so it is with the nodes of a body, wherever it is the body of a function with this result, and fits
abbrev pub StandWhereFitting : Source → ValueType → Option EntryList → List Node → Type 0
StandWhereFitting src gives body nodes =
    (names : Names) (number : ℕ) (f : Signature) → f.result ≡ gives → HasFitting src names number f body → StandIn src names number f nodes

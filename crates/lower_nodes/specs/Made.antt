-- What emitting a part of a text leaves: in every graph that goes on from there, the part stands between the node that came out and where it goes on.
use Rattle.std.specs.Prelude.{◌≡◌, ℕ, ◌≤◌, ◌<◌, if◌then◌else◌, List, length, Some, slice_get}
use Rattle.flow.specs.declared.node.Node.{Node}
use Rattle.flow.specs.declared.node.View.{View}
use Rattle.flow.specs.Words.{is_again, led_to, view}
use Rattle.lower_relation.specs.Functions.{graph_of_nodes}
use Rattle.lower_relation.specs.Paths.{Exits, Graph, Path, Ways}
use Rattle.lower_nodes.specs.Ends.{AllBelow, Any, WantedAlike, all_ends, no_ends, one_end, purpose_ends, two_ends}
use Rattle.lower_nodes.specs.Standing.{AllLike, Allowed, Allowance, PartStands}
use Rattle.lower_nodes.specs.declared.purpose.Purpose.{Purpose}

-- a later list has what is now at the places from `low` on
pub record Later (low : ℕ) (now fin : List Node) : Type 0 where
  pub longer : length now ≤ length fin
  pub same : (j : ℕ) → low ≤ j → j < length now → slice_get fin j ≡ slice_get now j

-- a node with this number leads to nodes that were put before it, but for `again`, which leads to any of so many
abbrev pub LeadsBack : (i all : ℕ) → View → Type 0
LeadsBack i all v = AllBelow (if is_again v then all else i) (led_to v)

-- each node from one on leads so
pub record LeadBack (low : ℕ) (nodes : List Node) : Type 0 where
  pub each : (i : ℕ) (x : Node) → low ≤ i → slice_get nodes i ≡ Some x → LeadsBack i (length nodes) (view x)

-- the node that came out is one of them, and the nodes that were put lead back
pub record IsEmittedNode (low : ℕ) (nodes : List Node) (i : ℕ) : Type 0 where
  pub inside : i < length nodes
  pub back : LeadBack low nodes

-- a path, whatever the graph is
abbrev pub GraphPath : Type 0 → Type 1
GraphPath K = Graph → Path K

-- The nodes that were put make this part, from node i to k. Where it goes on at nodes that were there before, each of them leads back. And where
-- nodes that may be in a function do the part, from j to what is of the same form as k, those that were put may be there too.
pub record MadeTo {K : Type 0} (ends : K → List ℕ) (SameForm : K → K → Type 0) (R : GraphPath K) (old new : List Node) (i : ℕ) (k : K) : Type 0 where
  pub does : (fin : List Node) → Later (length old) new fin → R (graph_of_nodes fin) i k
  pub keeps : Later 0 old new
  pub leads : AllBelow (length old) (ends k) → IsEmittedNode (length old) new i
  pub stands : (s : Allowance) (j : ℕ) (l : K) → SameForm k l → AllLike s old (ends k) (ends l) → R (Allowed s) j l → PartStands s (length old) new i j

-- a part that goes on at one node
abbrev pub Made : GraphPath ℕ → List Node → List Node → ℕ → ℕ → Type 0
Made R old new i k = MadeTo one_end Any R old new i k

-- one that goes on at one of two
abbrev pub MadeWays : GraphPath Ways → List Node → List Node → ℕ → Ways → Type 0
MadeWays R old new i k = MadeTo two_ends Any R old new i k

-- one that goes on where its value is wanted
abbrev pub MadeFor : GraphPath Purpose → List Node → List Node → ℕ → Purpose → Type 0
MadeFor R old new i k = MadeTo purpose_ends WantedAlike R old new i k

-- one that goes on where a statement is left
abbrev pub MadeExits : GraphPath Exits → List Node → List Node → ℕ → Exits → Type 0
MadeExits R old new i k = MadeTo all_ends Any R old new i k

-- one that goes on nowhere
abbrev pub MadeAlone : {K : Type 0} → GraphPath K → List Node → List Node → ℕ → K → Type 0
MadeAlone R old new i k = MadeTo no_ends Any R old new i k

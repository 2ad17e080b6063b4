-- The nodes of a function.
use Rattle.std.specs.Prelude.{◌≡◌, ℕ, Bool, List, Option}
use Rattle.c_syntax.specs.StatementTree.{EntryList}
use Rattle.flow.specs.declared.node.Node.{Node}
use Rattle.flow.specs.declared.node.Node.TheVariants as node
use Rattle.c_meaning.specs.declared.value_type.ValueType.{ValueType}
use Rattle.c_meaning.specs.Words.{Facts, Sites, has_value}
use Rattle.lower_relation.specs.Functions.{BodyDoes, ComesTo, EndsAt, GivesAt, FunctionExits, graph_of_nodes}
use Rattle.lower_relation.specs.Paths.{Does, Exits}
use Rattle.lower_nodes.specs.Finished.{Finished}
use Rattle.lower_nodes.specs.Made.{GraphPath, Made}

-- where a function gives its value
abbrev pub GivesPart : Bool → GraphPath ℕ
GivesPart value G i k = GivesAt G value i

-- where control goes after the last statement
abbrev pub EndPart : Bool → Bool → GraphPath Exits
EndPart is_main value G i x = EndsAt G is_main value (record x { next = i })

-- how a function is left, seen from where it is left without a value
abbrev pub LeavesPart : Bool → Bool → GraphPath Exits
LeavesPart is_main value G i x = (i ≡ x.leaves) × FunctionExits G is_main value x

-- Where a function begins, with what was put for it: at the entry of its body, or at a node that passes control on to it.
pub data BodyBegins (old new : List Node) (i entry : ℕ) : Type 0 where
  AtOnce : i ≡ entry → new ≡ old → BodyBegins old new i entry
  Before : Made (λ G. Does G (node.Pass 0)) old new i entry → BodyBegins old new i entry

-- the nodes do the body of a function with this result from the first of them on
pub record BodyNodes (facts : Facts) (sites : Sites) (is_main : Bool) (gives : ValueType) (body : Option EntryList) (nodes : List Node) : Type 0 where
  pub graph : List Node
  pub ren : ℕ → ℕ
  pub finished : Finished graph nodes ren
  pub start : ℕ
  pub first_node : ren start ≡ 0
  pub entry : ℕ
  pub begins : ComesTo (graph_of_nodes graph) start entry
  pub exits : Exits
  pub runs : BodyDoes (graph_of_nodes graph) facts sites gives body entry exits
  pub leaves : FunctionExits (graph_of_nodes graph) is_main (has_value gives) exits

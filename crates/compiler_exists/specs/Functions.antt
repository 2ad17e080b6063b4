-- The nodes of a function's body, from the ones at which it is left to the one where it begins.
use Rattle.std.specs.Prelude.{◌≡◌, ℕ, suc, ◌≤◌, Bool, List, Option, length}
use Rattle.c_syntax.specs.StatementTree.{EntryList}
use Rattle.flow.specs.declared.node.Node.{Node}
use Rattle.c_meaning.specs.declared.value_type.ValueType.{ValueType}
use Rattle.c_meaning.specs.Words.{Facts, Sites, has_value}
use Rattle.lower_relation.specs.Functions.{BodyDoes, ComesTo, FunctionExits, graph_of_nodes}
use Rattle.lower_relation.specs.Paths.{Exits}
use Rattle.lower_relation.specs.Room.{function_room}
use Rattle.compiler_exists.specs.Built.{LeadBackWithin}

-- They do the body of a function with this result. Each leads to nodes before it, but for `again`; the last one is where the function begins.
pub record BodyBuilt (facts : Facts) (sites : Sites) (is_main : Bool) (gives : ValueType) (body : Option EntryList) : Type 0 where
  pub graph : List Node
  pub start : ℕ
  pub last : length graph ≡ suc start
  pub entry : ℕ
  pub begins : ComesTo (graph_of_nodes graph) start entry
  pub exits : Exits
  pub runs : BodyDoes (graph_of_nodes graph) facts sites gives body entry exits
  pub leaves : FunctionExits (graph_of_nodes graph) is_main (has_value gives) exits
  pub few : length graph ≤ function_room sites body
  pub back : LeadBackWithin (length graph) 0 graph

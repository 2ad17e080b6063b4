use Rattle.std.proofs.Common.{◌≡◌, ℕ, ◌≤◌, Some, length, map, slice_get, take}
use Rattle.flow.specs.declared.program.Function.{Function}
use Rattle.lower_facts.specs.Facts.{sites_in, source_in}
use Rattle.lower_relation.specs.Room.{functions_room}
use Rattle.lower.specs.Fits.{NodesStand, names_in}
use Rattle.lower.specs.Programs.{AreFunctionsOf, node_count}
use Rattle.lower.proofs.programs.functions_of.Given as goal

-- those before this name are made
abbrev pub invariant-loop-name : goal.invariant-loop-name
invariant-loop-name l = record {
  made : length l.functions.items ≡ l.name-index;
  are : AreFunctionsOf (source_in l.facts) l.functions.items;
  names : map (λ f. f.name) l.functions.items ≡ take l.name-index l.called;
  stand : (number : ℕ) (f : Function) → slice_get l.functions.items number ≡ Some f → NodesStand (names_in l.facts) number f;
  few : node_count l.functions.items ≤ functions_room (sites_in l.facts) (source_in l.facts).body (length l.functions.items);
}

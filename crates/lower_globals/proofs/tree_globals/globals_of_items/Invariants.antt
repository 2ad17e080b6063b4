use Rattle.std.proofs.Common.{◌≡◌, drop}
use Rattle.std.specs.Prelude.{map}
use Rattle.std.specs.List.{flat_map}
use Rattle.c_syntax.specs.Plain.{plain_item}
use Rattle.c_meaning.specs.Globals.{starts_of}
use Rattle.flow.specs.Statics.{object_of_global}
use Rattle.lower_facts.specs.Facts.{facts_in}
use Rattle.lower_globals.specs.Objects.{all_objects, objects_behind}
use Rattle.lower_globals.proofs.tree_globals.globals_of_items.Given as goal

-- the globals so far and those of what is left are all of them
abbrev pub invariant-loop-item : goal.invariant-loop-item
invariant-loop-item l =
    objects_behind (map (object_of_global (facts_in l.facts).statics.globals) l.globals.items) (all_objects l.facts (flat_map starts_of (map plain_item (drop l.item-index l.items))))
    ≡ all_objects l.facts (flat_map starts_of (map plain_item l.items))

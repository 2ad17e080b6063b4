use Rattle.std.proofs.Common.{◌≡◌, drop}
use Rattle.std.specs.Prelude.{map}
use Rattle.c_syntax.specs.Plain.{plain_start}
use Rattle.flow.specs.Statics.{object_of_global}
use Rattle.lower_facts.specs.Facts.{facts_in}
use Rattle.lower_globals.specs.Objects.{all_objects, objects_behind}
use Rattle.lower_globals.proofs.globals.globals_of_starts.Given as goal

abbrev pub invariant-loop-start : goal.invariant-loop-start
invariant-loop-start l =
    objects_behind (map (object_of_global (facts_in l.facts).statics.globals) l.globals.items) (all_objects l.facts (map plain_start (drop l.start-index l.starts)))
    ≡ all_objects l.facts (map plain_start l.starts)

use Rattle.std.proofs.Common.{◌≡◌, drop}
use Rattle.c_syntax.specs.Plain.{plain_exprs}
use Rattle.c_meaning.specs.Globals.{constant_values}
use Rattle.lower_globals.specs.Cells.{with_before}
use Rattle.lower_facts.specs.Facts.{facts_in}
use Rattle.lower_globals.proofs.global_cells.constants.Given as goal

abbrev pub invariant-loop-item : goal.invariant-loop-item
invariant-loop-item l =
    with_before l.cells.items (constant_values (facts_in l.facts) l.of (plain_exprs (drop l.item-index l.items))) ≡ constant_values (facts_in l.facts) l.of (plain_exprs l.items)

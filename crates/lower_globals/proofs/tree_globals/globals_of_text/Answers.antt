use Rattle.std.proofs.Common.{subst, sym}
use Rattle.std.specs.List.{All}
use Rattle.lower_facts.specs.Facts.{facts_in, known_in}
use Rattle.lower_globals.specs.Starts.{IsBegunItem}
use Rattle.lower_globals.proofs.Begun.{begun, counted, whole}
use Rattle.lower_globals.proofs.tree_globals.globals_of_text.Goals as goal

pub returns-clause-objects : goal.returns-clause-objects
returns-clause-objects c =
    rw c.into_vec.ensures (begun c.args.facts.now c.in-Some.globals c.items.ensures.walked
    (whole c.args.facts.now _ _ c.items.ensures.items (rw c.in-Some.is at c.in_ok-globals_of_items.ensures)))

pub returns-clause-count : goal.returns-clause-count
returns-clause-count c =
    rw c.into_vec.ensures (counted c.args.facts.now c.in-Some.globals c.items.ensures.walked
    (whole c.args.facts.now _ _ c.items.ensures.items (rw c.in-Some.is at c.in_ok-globals_of_items.ensures)))

pub globals_of_items-requires-clause-begun : goal.globals_of_items-requires-clause-begun
globals_of_items-requires-clause-begun c =
    subst (All (IsBegunItem (facts_in c.args.facts.now) (known_in c.args.facts.now))) (sym c.items.ensures.items) c.requires

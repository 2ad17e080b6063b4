use Rattle.std.specs.Prelude.{map}
use Rattle.std.proofs.lemmas.List.{map-append}
use Rattle.c_syntax.specs.Plain.{plain_item}
use Rattle.flow.specs.Statics.{object_of_global}
use Rattle.lower_facts.specs.Facts.{facts_in, known_in}
use Rattle.lower_globals.specs.Starts.{IsBegunItem}
use Rattle.lower_globals.proofs.Gathered.{all_gathered, gathered, given_up}
use Rattle.lower_globals.proofs.Starting.{seen_at}
use Rattle.lower_globals.proofs.tree_globals.globals_of_items.Goals as goal

pub returns-in_default : goal.returns-in_default
returns-in_default c =
    given_up (facts_in c.args.facts.now) (known_in c.args.facts.now) c.args.items.now c.loop-item.item-index c.item-item.result
    (map (object_of_global (facts_in c.args.facts.now).statics.globals) c.loop-item.globals.items) _ c.loop-item-test.true c.item-item.is c.loop-item.invariant
    (rw c.in_default.is at c.in_ok-more.ensures)

pub loop-item-preserved : goal.loop-item-preserved
loop-item-preserved c =
    rw (c.in_ok-append.ensures, map-append)
    (gathered (facts_in c.args.facts.now) (known_in c.args.facts.now) c.args.items.now c.loop-item.item-index c.item-item.result
    (map (object_of_global (facts_in c.args.facts.now).statics.globals) c.loop-item.globals.items) _ c.loop-item-test.true c.item-item.is
    (map (object_of_global (facts_in c.args.facts.now).statics.globals) c.in-Some.more) c.loop-item.invariant (rw c.in-Some.is at c.in_ok-more.ensures))

pub returns : goal.returns
returns c =
    rw c.from_vec.ensures
    (all_gathered (facts_in c.args.facts.now) (known_in c.args.facts.now) c.args.items.now c.loop-item.item-index
    (map (object_of_global (facts_in c.args.facts.now).statics.globals) c.loop-item.globals.items) _ c.loop-item-test.false c.loop-item.invariant)

pub globals_of_item-requires-clause-begun : goal.globals_of_item-requires-clause-begun
globals_of_item-requires-clause-begun c =
    seen_at (IsBegunItem (facts_in c.args.facts.now) (known_in c.args.facts.now)) plain_item c.args.items.now c.loop-item.item-index c.item-item.result
    c.requires.begun c.loop-item-test.true c.item-item.is

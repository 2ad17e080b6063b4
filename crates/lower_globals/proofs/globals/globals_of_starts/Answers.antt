use Rattle.std.specs.Prelude.{map}
use Rattle.std.proofs.lemmas.List.{map-append}
use Rattle.c_syntax.specs.Plain.{plain_start}
use Rattle.flow.specs.Statics.{object_of_global}
use Rattle.lower_facts.specs.Facts.{facts_in, known_in}
use Rattle.lower_globals.specs.Starts.{IsBegun}
use Rattle.lower_globals.proofs.Started.{all_started, one_gathered, one_given_up}
use Rattle.lower_globals.proofs.Starting.{seen_at}
use Rattle.lower_globals.proofs.globals.globals_of_starts.Goals as goal

pub returns-in_default : goal.returns-in_default
returns-in_default c =
    one_given_up (facts_in c.args.facts.now) (known_in c.args.facts.now) c.args.starts.now c.loop-start.start-index c.start-item.result
    (map (object_of_global (facts_in c.args.facts.now).statics.globals) c.loop-start.globals.items) _ c.loop-start-test.true c.start-item.is c.loop-start.invariant
    (rw c.in_default.is at c.in_ok-global.ensures)

pub loop-start-preserved : goal.loop-start-preserved
loop-start-preserved c =
    rw (c.in_ok-push.ensures.items, map-append)
    (one_gathered (facts_in c.args.facts.now) (known_in c.args.facts.now) c.args.starts.now c.loop-start.start-index c.start-item.result
    (map (object_of_global (facts_in c.args.facts.now).statics.globals) c.loop-start.globals.items) _ c.loop-start-test.true c.start-item.is
    (object_of_global (facts_in c.args.facts.now).statics.globals c.in-Some.global) c.loop-start.invariant (rw c.in-Some.is at c.in_ok-global.ensures))

pub returns : goal.returns
returns c =
    rw c.from_vec.ensures
    (all_started (facts_in c.args.facts.now) (known_in c.args.facts.now) c.args.starts.now c.loop-start.start-index
    (map (object_of_global (facts_in c.args.facts.now).statics.globals) c.loop-start.globals.items) _ c.loop-start-test.false c.loop-start.invariant)

pub global_of-requires-clause-begun : goal.global_of-requires-clause-begun
global_of-requires-clause-begun c =
    seen_at (IsBegun (facts_in c.args.facts.now) (known_in c.args.facts.now)) plain_start c.args.starts.now c.loop-start.start-index c.start-item.result
    c.requires.begun c.loop-start-test.true c.start-item.is

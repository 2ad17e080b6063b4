use Rattle.std.proofs.Common.{[], ◌∷◌, ap, arith, length, length-append, subst, ◌≡◌, ◌≤◌}
use Rattle.lower_facts.specs.Facts.{known_in, sites_in, source_in}
use Rattle.lower_relation.specs.Room.{functions_room}
use Rattle.lower.specs.Fits.{NodesStand, names_in}
use Rattle.lower.specs.Programs.{IsFunctionOf, node_count}
use Rattle.lower.proofs.Graphing.{each_pushed, no_more_functions, seen_all, seen_pushed}
use Rattle.lower.proofs.Rooms.{functions_more}
use Rattle.lower.proofs.programs.functions_of.Goals as goal

pub loop-name-preserved : goal.loop-name-preserved
loop-name-preserved c = record {
  made = omega (arith, c.loop-name.invariant.made, ap length c.in_ok-push.ensures.items, length-append c.loop-name.functions.items (c.in_ok-function.function ∷ []));
  are = rw c.in_ok-push.ensures.items
      (each_pushed (IsFunctionOf (source_in c.args.facts.now)) c.loop-name.functions.items c.in_ok-function.function c.loop-name.invariant.are
      (subst (λ n. IsFunctionOf (source_in c.args.facts.now) n c.in_ok-function.function) (omega (arith, c.len-number.ensures)) c.in_ok-function.ensures.does));
  names = rw c.in_ok-push.ensures.items
      (seen_pushed (λ f. f.name) c.loop-name.functions.items c.in_ok-function.function c.args.called.now c.loop-name.name-index c.name-item.result (omega (arith, c.loop-name-test.true))
      c.loop-name.invariant.names c.in_ok-function.ensures.name c.name-item.is);
  stand = rw c.in_ok-push.ensures.items
      (each_pushed (NodesStand (names_in c.args.facts.now)) c.loop-name.functions.items c.in_ok-function.function c.loop-name.invariant.stand
      (subst (λ n. NodesStand (names_in c.args.facts.now) n c.in_ok-function.function) (omega (arith, c.len-number.ensures)) c.in_ok-function.ensures.stand));
  few =
      functions_more (sites_in c.args.facts.now) (source_in c.args.facts.now).body c.loop-name.functions.items _ c.in_ok-function.function c.len-number.result
      (omega (arith, c.len-number.ensures)) c.in_ok-push.ensures.items c.loop-name.invariant.few c.in_ok-function.ensures.few;
}

pub returns-clause-all : goal.returns-clause-all
returns-clause-all c =
    no_more_functions c.args.facts.now _ (seen_all (λ f. f.name) c.loop-name.functions.items c.args.called.now c.loop-name.name-index _ c.loop-name.invariant.names
    (omega (arith, c.loop-name-test.false)) c.requires.as_many)

pub returns-clause-few : goal.returns-clause-few
returns-clause-few c =
    let all : length c.loop-name.functions.items ≡ length (known_in c.args.facts.now).definitions =
    seen_all (λ f. f.name) c.loop-name.functions.items c.args.called.now c.loop-name.name-index _ c.loop-name.invariant.names
    (omega (arith, c.loop-name-test.false)) c.requires.as_many in
    subst (λ n. node_count c.loop-name.functions.items ≤ functions_room (sites_in c.args.facts.now) (source_in c.args.facts.now).body n) all c.loop-name.invariant.few

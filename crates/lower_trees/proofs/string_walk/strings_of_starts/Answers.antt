use Rattle.std.proofs.Common.{option_map}
use Rattle.std.specs.Prelude.{map}
use Rattle.std.proofs.lemmas.List.Concat.{flat_map-cons}
use Rattle.c_syntax.specs.Plain.{plain_initial, plain_start}
use Rattle.c_meaning.specs.Literals.{strings_initial}
use Rattle.lower_trees.specs.Joined.{strings_of_starts}
use Rattle.lower_trees.proofs.Appending.{next_added}
use Rattle.lower_trees.proofs.string_walk.strings_of_starts.Goals as goal

pub loop-start-preserved : goal.loop-start-preserved
loop-start-preserved c =
    next_added (λ xs. strings_of_starts (map plain_start xs)) (λ x. strings_initial (option_map plain_initial x.initial))
    (λ x xs. flat_map-cons (λ y. strings_initial y.initial) (plain_start x) (map plain_start xs)) c.args.starts.now c.loop-start.start-index c.start-item.result _ _ _
    c.loop-start-test.true c.start-item.is c.in_ok-strings_initial.ensures c.loop-start.invariant

use Rattle.std.proofs.Common.{subst}
use Rattle.c_syntax.specs.Plain.{plain_item}
use Rattle.lower_facts.specs.Facts.{facts_in, known_in}
use Rattle.lower_globals.specs.Starts.{IsBegunItem}
use Rattle.lower_globals.proofs.tree_globals.globals_of_item.Goals as goal

pub globals_of_starts-requires-clause-begun : goal.globals_of_starts-requires-clause-begun
globals_of_starts-requires-clause-begun c =
    rw c.as_slice.ensures
    (subst (λ x. IsBegunItem (facts_in c.args.facts.now) (known_in c.args.facts.now) (plain_item x)) c.in-Declaration.is c.requires.begun)

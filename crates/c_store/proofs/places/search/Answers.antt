use Rattle.c_store.proofs.StackedLemmas.{missing_of_search}
use Rattle.c_store.proofs.places.search.Goals as goal

pub returns-in-Err-clause-missing : goal.returns-in-Err-clause-missing
returns-in-Err-clause-missing c = missing_of_search c.args.numbers.now c.args.number c.in-Err.field-0 c.requires c.in-Err.ensures.position

use Rattle.c_store.proofs.StoreLaws.{stored_found, others_stay}
use Rattle.c_store.proofs.laws.store_laws.Goals as goal

pub returns-clause-found : goal.returns-clause-found
returns-clause-found c = λ number offset value before after want is wanted. stored_found number offset value before after want is wanted

pub returns-clause-others : goal.returns-clause-others
returns-clause-others c = λ number offset other at value before after is differ. others_stay number offset other at value before after is differ

use Rattle.lower_fits.proofs.FactsFitting.{facts_fit}
use Rattle.lower_fits.proofs.NotesOfItems.{offsets_near}
use Rattle.lower_fits.proofs.facts.facts_of_an_accepted_text_fit.Goals as goal

pub returns : goal.returns
returns c = λ tree walk table a. facts_fit tree walk table a (offsets_near tree walk a)

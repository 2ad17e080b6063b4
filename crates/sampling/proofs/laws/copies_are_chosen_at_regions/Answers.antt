use Rattle.sampling.proofs.Functions.{chooses_rarely}
use Rattle.sampling.proofs.laws.copies_are_chosen_at_regions.Goals as goal

pub returns : goal.returns
returns c = chooses_rarely

use Rattle.sites.specs.Wanted.{no_schemes}
use Rattle.lower_fits.proofs.Owning.{none_owned, table_owned}
use Rattle.lower_fits.proofs.facts.bodies_own_their_sites.Goals as goal

pub returns-clause-table : goal.returns-clause-table
returns-clause-table c = λ tree walk schemes number body a e. table_owned tree walk schemes number body a.formed.shaped e

pub returns-clause-plain : goal.returns-clause-plain
returns-clause-plain c = λ tree walk number body a e. none_owned tree walk no_schemes number body a.formed.shaped e

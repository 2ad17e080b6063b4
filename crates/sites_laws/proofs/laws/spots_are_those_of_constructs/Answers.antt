use Rattle.sites_laws.proofs.Constructs.{item_made, item_rises}
use Rattle.sites_laws.proofs.Leaving.{item_all}
use Rattle.sites_laws.proofs.Ordered.{item_ordered}
use Rattle.sites_laws.proofs.laws.spots_are_those_of_constructs.Goals as goal

pub returns-clause-made : goal.returns-clause-made
returns-clause-made c = item_made

pub returns-clause-rise : goal.returns-clause-rise
returns-clause-rise c = item_rises

pub returns-clause-whole : goal.returns-clause-whole
returns-clause-whole c = item_all

pub returns-clause-constants : goal.returns-clause-constants
returns-clause-constants c = item_ordered

use Rattle.sites.proofs.RisesTable.{rises, rises-item}
use Rattle.sites.proofs.laws.sites_rise.Goals as goal

pub returns-clause-table : goal.returns-clause-table
returns-clause-table c = rises

pub returns-clause-item : goal.returns-clause-item
returns-clause-item c x at number w lines schemes placed = rises-item w lines schemes number at x placed

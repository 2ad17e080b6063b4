use Rattle.collector.proofs.Taking.{groups-refused, groups-taken}
use Rattle.collector.proofs.laws.groups_do_not_matter.Goals as goal

pub returns-clause-taken : goal.returns-clause-taken
returns-clause-taken c = groups-taken

pub returns-clause-refused : goal.returns-clause-refused
returns-clause-refused c = groups-refused

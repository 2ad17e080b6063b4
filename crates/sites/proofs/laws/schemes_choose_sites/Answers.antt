use Rattle.sites.proofs.Kept.{kept, none}
use Rattle.sites.proofs.laws.schemes_choose_sites.Goals as goal

pub returns-clause-chosen : goal.returns-clause-chosen
returns-clause-chosen c = kept

pub returns-clause-none : goal.returns-clause-none
returns-clause-none c = none

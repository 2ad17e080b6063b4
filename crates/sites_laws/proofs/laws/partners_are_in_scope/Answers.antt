use Rattle.sites_laws.proofs.Partners.{partners_are}
use Rattle.sites_laws.proofs.laws.partners_are_in_scope.Goals as goal

pub returns : goal.returns
returns c = partners_are

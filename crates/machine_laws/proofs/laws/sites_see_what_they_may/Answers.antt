use Rattle.machine_laws.proofs.Observing.{sees_what_it_may}
use Rattle.machine_laws.proofs.laws.sites_see_what_they_may.Goals as goal

pub returns : goal.returns
returns c = sees_what_it_may

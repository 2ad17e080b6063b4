use Rattle.site_parts.proofs.Farms.{farms_count}
use Rattle.site_parts.proofs.laws.farms_count_the_whole.Goals as goal

pub returns : goal.returns
returns c = farms_count

use Rattle.site_parts.proofs.Farms.{entries_of_parts}
use Rattle.site_parts.proofs.laws.entries_of_parts.Goals as goal

pub returns : goal.returns
returns c = entries_of_parts

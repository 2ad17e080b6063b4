use Rattle.sites_laws.proofs.Told.{sites_are_told}
use Rattle.sites_laws.proofs.laws.sites_are_where_the_tree_says.Goals as goal

pub returns : goal.returns
returns c = sites_are_told

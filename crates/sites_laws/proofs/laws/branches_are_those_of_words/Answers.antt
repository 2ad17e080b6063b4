use Rattle.sites_laws.proofs.Branches.{item_branches}
use Rattle.sites_laws.proofs.laws.branches_are_those_of_words.Goals as goal

pub returns : goal.returns
returns c = item_branches

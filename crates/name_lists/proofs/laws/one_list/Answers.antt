use Rattle.name_lists.proofs.Texts.{one-list}
use Rattle.name_lists.proofs.laws.one_list.Goals as goal

pub returns : goal.returns
returns c = one-list

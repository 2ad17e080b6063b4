use Rattle.c_meaning_laws.proofs.Zeros.{list_leaves_zero}
use Rattle.c_meaning_laws.proofs.laws.a_list_leaves_zero_behind_it.Goals as goal

pub returns : goal.returns
returns c = list_leaves_zero

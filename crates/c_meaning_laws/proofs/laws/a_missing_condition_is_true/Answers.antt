use Rattle.c_meaning_laws.proofs.ForLoops.{missing_condition_is_true}
use Rattle.c_meaning_laws.proofs.laws.a_missing_condition_is_true.Goals as goal

pub returns : goal.returns
returns c = missing_condition_is_true

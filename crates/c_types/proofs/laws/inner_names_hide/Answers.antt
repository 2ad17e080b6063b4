use Rattle.c_types.proofs.Hiding.{hides, back}
use Rattle.c_types.proofs.laws.inner_names_hide.Goals as goal

pub returns-clause-hides : goal.returns-clause-hides
returns-clause-hides c = hides

pub returns-clause-back : goal.returns-clause-back
returns-clause-back c = back

use Rattle.c_meaning_sound.proofs.Samples.{sample_sited}
use Rattle.c_meaning_sound.proofs.Standings.{accepted_stand}
use Rattle.c_meaning_sound.proofs.laws.sites_of_an_accepted_text_stand.Goals as goal

pub returns-clause-stand : goal.returns-clause-stand
returns-clause-stand c = λ tree walk schemes a s. accepted_stand tree walk schemes a s

pub returns-clause-example : goal.returns-clause-example
returns-clause-example c = sample_sited

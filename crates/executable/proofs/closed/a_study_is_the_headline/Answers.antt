use Rattle.executable.proofs.Studying.{studies}
use Rattle.executable.proofs.closed.a_study_is_the_headline.Goals as goal

pub returns : goal.returns
returns c = λ text words study call. studies c.one_made_run.ensures.bank c.one_made_run.ensures.input text words study call

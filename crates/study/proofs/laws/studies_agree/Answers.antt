use Rattle.study.proofs.StudyEnds.{same_ranking}
use Rattle.study.proofs.laws.studies_agree.Goals as goal

pub returns : goal.returns
returns c = same_ranking c.one_elimination.ensures.one c.one_accepted_text.ensures.tree c.one_accepted_text.ensures.known c.one_made_run.ensures.bank c.one_made_run.ensures.input

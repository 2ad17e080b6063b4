use Rattle.headline.proofs.Widened.{is-of-the-whole}
use Rattle.headline.proofs.laws.a_widened_collection_is_of_the_whole.Goals as goal

pub returns : goal.returns
returns c = λ held words text is wide. is-of-the-whole c.widened_reports_fit.ensures c.fitting_reports_may_widen.ensures held words text is wide

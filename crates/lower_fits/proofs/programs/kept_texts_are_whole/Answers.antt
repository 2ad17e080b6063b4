use Rattle.lower_fits.proofs.Whole.{kept_whole}
use Rattle.lower_fits.proofs.programs.kept_texts_are_whole.Goals as goal

pub returns : goal.returns
returns c = λ tree walk kept walked. kept_whole tree walk kept walked

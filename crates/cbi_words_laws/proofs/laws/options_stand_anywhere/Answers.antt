use Rattle.cbi_words_laws.proofs.Moving.{stand_anywhere}
use Rattle.cbi_words_laws.proofs.laws.options_stand_anywhere.Goals as goal

pub returns : goal.returns
returns c = stand_anywhere

use Rattle.cbi_words_laws.proofs.Moving.{change_places}
use Rattle.cbi_words_laws.proofs.laws.options_change_places.Goals as goal

pub returns : goal.returns
returns c = change_places

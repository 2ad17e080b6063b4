use Rattle.cbi_words_laws.proofs.Reading.{in_order}
use Rattle.cbi_words_laws.proofs.laws.words_are_read_in_order.Goals as goal

pub returns : goal.returns
returns c = in_order

use Rattle.cbi_words_laws.proofs.Reading.{end_ends}
use Rattle.cbi_words_laws.proofs.laws.the_end_ends_options.Goals as goal

pub returns : goal.returns
returns c = end_ends

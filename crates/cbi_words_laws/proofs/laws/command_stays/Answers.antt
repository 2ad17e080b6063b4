use Rattle.cbi_words_laws.proofs.Commands.{stays}
use Rattle.cbi_words_laws.proofs.laws.command_stays.Goals as goal

pub returns : goal.returns
returns c = stays

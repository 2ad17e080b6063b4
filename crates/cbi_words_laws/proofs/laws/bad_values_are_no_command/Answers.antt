use Rattle.cbi_words_laws.proofs.Bad.{no_command}
use Rattle.cbi_words_laws.proofs.laws.bad_values_are_no_command.Goals as goal

pub returns : goal.returns
returns c = no_command

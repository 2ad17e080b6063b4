use Rattle.cbi_words_laws.proofs.Commands.{taken_as_said}
use Rattle.cbi_words_laws.proofs.laws.commands_take_what_is_said.Goals as goal

pub returns : goal.returns
returns c = taken_as_said

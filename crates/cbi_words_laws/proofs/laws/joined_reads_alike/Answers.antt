use Rattle.cbi_words_laws.proofs.Joining.{reads_alike}
use Rattle.cbi_words_laws.proofs.laws.joined_reads_alike.Goals as goal

pub returns : goal.returns
returns c = reads_alike

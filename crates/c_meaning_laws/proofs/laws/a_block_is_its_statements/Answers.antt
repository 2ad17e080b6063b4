use Rattle.c_meaning_laws.proofs.Rounds.{block_is_entries}
use Rattle.c_meaning_laws.proofs.laws.a_block_is_its_statements.Goals as goal

pub returns : goal.returns
returns c = block_is_entries

use Rattle.program_parts.proofs.Counts.{counts_of_parts}
use Rattle.program_parts.proofs.laws.counts_of_parts.Goals as goal

pub returns : goal.returns
returns c = counts_of_parts

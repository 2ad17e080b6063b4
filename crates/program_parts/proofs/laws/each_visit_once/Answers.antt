use Rattle.program_parts.proofs.Once.{seen_once}
use Rattle.program_parts.proofs.laws.each_visit_once.Goals as goal

pub returns : goal.returns
returns c = seen_once

use Rattle.program_parts.proofs.Once.{stands_once}
use Rattle.program_parts.proofs.laws.each_site_once.Goals as goal

pub returns : goal.returns
returns c = stands_once

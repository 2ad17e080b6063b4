use Rattle.flow.proofs.FormatLaws.{counted}
use Rattle.flow.proofs.laws.conversions_are_counted.Goals as goal

pub returns : goal.returns
returns c = counted

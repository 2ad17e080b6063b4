use Rattle.flow.proofs.StringLaws.{strings}
use Rattle.flow.proofs.laws.strings_are_printed.Goals as goal

pub returns : goal.returns
returns c = strings

use Rattle.flow.proofs.FormatLaws.{plain}
use Rattle.flow.proofs.laws.plain_formats_stand.Goals as goal

pub returns : goal.returns
returns c = plain

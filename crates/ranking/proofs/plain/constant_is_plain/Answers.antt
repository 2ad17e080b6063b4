use Rattle.ranking.proofs.PlainLemmas.{signed-plain}
use Rattle.ranking.proofs.plain.constant_is_plain.Goals as goal

pub returns : goal.returns
returns c = signed-plain c.args.value c.ranges.value

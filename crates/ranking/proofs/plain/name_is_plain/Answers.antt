use Rattle.ranking.proofs.PlainLemmas.{name-plain}
use Rattle.ranking.proofs.plain.name_is_plain.Goals as goal

pub returns : goal.returns
returns c = name-plain c.args.name.now c.bytes-bytes.ensures.is_name

use Rattle.ranking.proofs.PlainLemmas.{decimal-plain}
use Rattle.ranking.proofs.plain.number_is_plain.Goals as goal

pub returns : goal.returns
returns c = decimal-plain c.args.number c.ranges.number.fits

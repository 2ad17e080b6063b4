use Rattle.cbi_base.proofs.LineLemmas.{bad-once}
use Rattle.cbi_base.proofs.lines.one_bad_line.Goals as goal

pub returns : goal.returns
returns g c = λ once from text a b p q. bad-once g.R.LineReader.follows g.R.LineReader.ends once from text a b p q

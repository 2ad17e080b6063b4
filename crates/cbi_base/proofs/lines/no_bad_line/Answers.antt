use Rattle.cbi_base.proofs.LineLemmas.{bad-never}
use Rattle.cbi_base.proofs.lines.no_bad_line.Goals as goal

pub returns : goal.returns
returns g c = λ once from to text line reads bad. bad-never g.R.LineReader.follows g.R.LineReader.ends once from to text line reads bad

use Rattle.cbi_base.proofs.LineLemmas.{bad-behind}
use Rattle.cbi_base.proofs.lines.longest_good_prefix.Goals as goal

pub returns-clause-behind : goal.returns-clause-behind
returns-clause-behind g c = λ once from to text rest good line front bad.
    bad-behind g.R.LineReader.follows g.R.LineReader.ends once from to text rest good line front bad

use Rattle.std.proofs.Common.{arith}
use Rattle.cbi_base.proofs.NumberLemmas.{reads-number}
use Rattle.cbi_base.proofs.decimal.read_decimal.Goals as goal

pub returns-clause-value : goal.returns-clause-value
returns-clause-value c = reads-number c.args.max c.args.text.now c.exact_unsigned.result (omega arith) c.exact_unsigned.ensures.found c.exact_unsigned.ensures.only

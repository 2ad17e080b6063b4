use Rattle.std.proofs.Common.{arith}
use Rattle.cbi_base.proofs.NumberLemmas.{reads-number}
use Rattle.cbi_options.proofs.numbers.number_of.Goals as goal

pub returns-clause-value : goal.returns-clause-value
returns-clause-value c = reads-number c.args.most c.args.value.now c.read_decimal.result (omega arith) (search (c.read_decimal.ensures.found, arith)) (search (c.read_decimal.ensures.only, arith))

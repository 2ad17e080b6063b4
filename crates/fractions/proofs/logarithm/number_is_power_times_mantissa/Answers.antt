use Rattle.fractions.proofs.LogarithmLemmas.{mantissa_of-is}
use Rattle.fractions.proofs.logarithm.number_is_power_times_mantissa.Goals as goal

pub returns : goal.returns
returns c = mantissa_of-is c.args.n c.requires.positive c.requires.bounded

use Rattle.c_values.proofs.Meaning.{division, quotient-Divide, remainder-Divide, quotient-Overflow, remainder-Overflow}
use Rattle.c_values.proofs.laws.division_laws.Goals as goal

pub returns : goal.returns
returns c = record { division = division; quotient_by_zero = quotient-Divide; remainder_by_zero = remainder-Divide; quotient_overflow = quotient-Overflow; remainder_overflow = remainder-Overflow }

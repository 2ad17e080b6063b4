use Rattle.c_types_rules.proofs.Numbers.{numbers}
use Rattle.c_types_rules.proofs.laws.numbers_keep_their_kind.Goals as goal

pub returns : goal.returns
returns c = numbers

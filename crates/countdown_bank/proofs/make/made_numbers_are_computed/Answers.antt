use Rattle.countdown_bank.proofs.Computed.{numbers_from-bank}
use Rattle.countdown_bank.proofs.make.made_numbers_are_computed.Goals as goal

pub returns : goal.returns
returns c = numbers_from-bank

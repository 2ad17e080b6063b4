use Rattle.countdown_bank.proofs.Made.{IsMadeBank-once}
use Rattle.countdown_bank.proofs.make.one_made_bank.Goals as goal

pub returns : goal.returns
returns c = IsMadeBank-once

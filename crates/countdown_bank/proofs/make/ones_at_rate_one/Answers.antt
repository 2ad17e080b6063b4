use Rattle.countdown_bank.proofs.WholeBound.{ones-made}
use Rattle.countdown_bank.proofs.make.ones_at_rate_one.Goals as goal

pub returns : goal.returns
returns c = ones-made

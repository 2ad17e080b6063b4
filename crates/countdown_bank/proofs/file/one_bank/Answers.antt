use Rattle.countdown_bank.proofs.Texts.{one-bank}
use Rattle.countdown_bank.proofs.file.one_bank.Goals as goal

pub returns : goal.returns
returns c = one-bank

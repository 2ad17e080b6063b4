use Rattle.std.proofs.Common.{◌∙◌}
use Rattle.countdown_bank.proofs.Computed.{numbers_from-zero}
use Rattle.countdown_bank.proofs.later.Later.none.Goals as goal

pub returns : goal.returns
returns c = c.new.ensures ∙ numbers_from-zero 0 c.from_state.result

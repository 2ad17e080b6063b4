use Rattle.lower.proofs.Bodying.{no_value_made}
use Rattle.lower.proofs.functions.put_gives.Goals as goal

pub returns-clause-made : goal.returns-clause-made
returns-clause-made c = no_value_made c.args.value _ _ _ c.if-value.false c.in_ok-stuck.ensures.made

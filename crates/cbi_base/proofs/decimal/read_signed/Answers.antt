use Rattle.cbi_base.proofs.NumberLemmas.{answers-signed}
use Rattle.cbi_base.proofs.decimal.read_signed.Goals as goal

pub returns-clause-value : goal.returns-clause-value
returns-clause-value c = answers-signed c.args.text.now c.exact_signed.result c.exact_signed.ensures.found c.exact_signed.ensures.fits c.exact_signed.ensures.only

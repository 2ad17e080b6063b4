use Rattle.lower_fits.proofs.Texts.{few_texts, texts_fit, total_bytes}
use Rattle.lower_fits.proofs.parts.texts_of_an_accepted_text_fit.Goals as goal

pub returns-clause-few : goal.returns-clause-few
returns-clause-few c = λ tree walk a s. few_texts tree walk a s

pub returns-clause-total : goal.returns-clause-total
returns-clause-total c = λ tree walk a. total_bytes tree walk a

pub returns-clause-fit : goal.returns-clause-fit
returns-clause-fit c = λ tree walk a s b. texts_fit tree walk a s b

use Rattle.lower_fits.proofs.DefinedFunctions.{all_named, as_many, few_defined, some_defined}
use Rattle.lower_fits.proofs.Distinct.{all_distinct}
use Rattle.lower_fits.proofs.Main.{main_is}
use Rattle.lower_fits.proofs.LocalSizes.{definition_signed, locals_fit, variables_sized}
use Rattle.lower_fits.proofs.Variables.{locals_together}
use Rattle.lower_fits.proofs.parts.functions_of_an_accepted_text_fit.Goals as goal

pub returns-clause-some : goal.returns-clause-some
returns-clause-some c = λ tree walk a. some_defined tree walk a.walked

pub returns-clause-few : goal.returns-clause-few
returns-clause-few c = λ tree walk a s. few_defined tree walk a s

pub returns-clause-main : goal.returns-clause-main
returns-clause-main c = λ tree walk a. main_is tree walk a.walked

pub returns-clause-names : goal.returns-clause-names
returns-clause-names c = λ tree walk a s. all_named tree s

pub returns-clause-as_many : goal.returns-clause-as_many
returns-clause-as_many c = λ tree walk a. as_many tree walk a.walked

pub returns-clause-signed : goal.returns-clause-signed
returns-clause-signed c = λ tree walk a number d e. definition_signed tree walk a number d e

pub returns-clause-locals : goal.returns-clause-locals
returns-clause-locals c = λ tree walk a number f h. locals_fit tree walk a number f h

pub returns-clause-distinct : goal.returns-clause-distinct
returns-clause-distinct c = λ tree walk a i j name h k. all_distinct tree walk a i j name h k

pub returns-clause-together : goal.returns-clause-together
returns-clause-together c = λ tree walk a s. locals_together tree walk a s

pub returns-clause-sized : goal.returns-clause-sized
returns-clause-sized c = λ tree walk a. variables_sized tree walk a

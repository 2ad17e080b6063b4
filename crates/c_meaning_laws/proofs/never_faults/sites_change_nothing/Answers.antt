use Rattle.c_meaning.specs.Texts.{source_of}
use Rattle.c_meaning_laws.proofs.Constants.{text_is_source}
use Rattle.c_meaning_laws.proofs.Runs.{same_outcome, same_output}
use Rattle.c_meaning_laws.proofs.never_faults.sites_change_nothing.Goals as goal

pub returns-clause-outcome : goal.returns-clause-outcome
returns-clause-outcome c = λ src input turns fits. same_outcome src input turns fits

pub returns-clause-output : goal.returns-clause-output
returns-clause-output c = λ src input turns fits. same_output src input turns fits

pub returns-clause-text_outcome : goal.returns-clause-text_outcome
returns-clause-text_outcome c = λ tree walk table input turns fits. same_outcome (source_of tree walk table) input turns (text_is_source tree walk table fits)

pub returns-clause-text_output : goal.returns-clause-text_output
returns-clause-text_output c = λ tree walk table input turns fits. same_output (source_of tree walk table) input turns (text_is_source tree walk table fits)

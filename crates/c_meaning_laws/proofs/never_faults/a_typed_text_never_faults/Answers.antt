use Rattle.c_meaning.specs.Texts.{source_of}
use Rattle.c_meaning_laws.proofs.Constants.{text_is_source}
use Rattle.c_meaning_laws.proofs.Examples.{example_fits}
use Rattle.c_meaning_laws.proofs.Runs.{never_internal}
use Rattle.c_meaning_laws.proofs.never_faults.a_typed_text_never_faults.Goals as goal

pub returns-clause-never : goal.returns-clause-never
returns-clause-never c = λ src input turns fits. never_internal src input turns fits

pub returns-clause-text : goal.returns-clause-text
returns-clause-text c = λ tree walk table input turns fits. never_internal (source_of tree walk table) input turns (text_is_source tree walk table fits)

pub returns-clause-example : goal.returns-clause-example
returns-clause-example c = example_fits

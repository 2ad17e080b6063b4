use Rattle.c_meaning.specs.Texts.{source_of}
use Rattle.std.specs.Prelude.{[]}
use Rattle.sites.specs.Table.{sites_of}
use Rattle.c_meaning_laws.proofs.Constants.{text_is_source}
use Rattle.c_meaning_laws.proofs.Runs.{never_internal, same_outcome, same_output}
use Rattle.c_meaning_sound.proofs.Samples.{sample_accepted}
use Rattle.c_meaning_sound.proofs.Whole.{none_fits, table_fits}
use Rattle.c_meaning_sound.proofs.laws.an_accepted_text_never_faults.Goals as goal

pub returns-clause-table : goal.returns-clause-table
returns-clause-table c = λ tree walk schemes a. table_fits tree walk schemes a

pub returns-clause-plain : goal.returns-clause-plain
returns-clause-plain c = λ tree walk a. none_fits tree walk a

pub returns-clause-never : goal.returns-clause-never
returns-clause-never c = λ tree walk schemes input turns a. never_internal (source_of tree walk (sites_of tree walk schemes)) input turns
    (text_is_source tree walk (sites_of tree walk schemes) (table_fits tree walk schemes a))

pub returns-clause-never_plain : goal.returns-clause-never_plain
returns-clause-never_plain c = λ tree walk input turns a. never_internal (source_of tree walk []) input turns
    (text_is_source tree walk [] (none_fits tree walk a))

pub returns-clause-outcome : goal.returns-clause-outcome
returns-clause-outcome c = λ tree walk schemes input turns a. same_outcome (source_of tree walk (sites_of tree walk schemes)) input turns
    (text_is_source tree walk (sites_of tree walk schemes) (table_fits tree walk schemes a))

pub returns-clause-output : goal.returns-clause-output
returns-clause-output c = λ tree walk schemes input turns a. same_output (source_of tree walk (sites_of tree walk schemes)) input turns
    (text_is_source tree walk (sites_of tree walk schemes) (table_fits tree walk schemes a))

pub returns-clause-example : goal.returns-clause-example
returns-clause-example c = sample_accepted

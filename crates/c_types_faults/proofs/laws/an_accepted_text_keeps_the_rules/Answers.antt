use Rattle.c_types_faults.proofs.QuietItems.{text_silent}
use Rattle.c_types_faults.proofs.Texts.{accepted_text}
use Rattle.c_types_faults.proofs.laws.an_accepted_text_keeps_the_rules.Goals as goal

pub returns-clause-fits : goal.returns-clause-fits
returns-clause-fits c = accepted_text

pub returns-clause-silent : goal.returns-clause-silent
returns-clause-silent c = text_silent

use Rattle.c_types_facts.proofs.Forced.{forced}
use Rattle.c_types_facts.proofs.Texts.{text_typed}
use Rattle.c_types_facts.proofs.laws.facts_are_those_of_the_declarations.Goals as goal

pub returns-clause-said : goal.returns-clause-said
returns-clause-said c = text_typed

pub returns-clause-forced : goal.returns-clause-forced
returns-clause-forced c = forced

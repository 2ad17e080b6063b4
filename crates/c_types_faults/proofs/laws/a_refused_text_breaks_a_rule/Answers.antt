use Rattle.c_types_faults.proofs.Texts.{refused_text, told_text}
use Rattle.c_types_faults.proofs.laws.a_refused_text_breaks_a_rule.Goals as goal

pub returns-clause-refused : goal.returns-clause-refused
returns-clause-refused c = refused_text

pub returns-clause-told : goal.returns-clause-told
returns-clause-told c = told_text

use Rattle.c_meaning_laws.proofs.Reached.{call_expression_leaves_hidden, call_leaves_hidden}
use Rattle.c_meaning_laws.proofs.laws.a_call_leaves_what_nothing_leads_to.Goals as goal

pub returns-clause-function : goal.returns-clause-function
returns-clause-function c = call_leaves_hidden

pub returns-clause-expression : goal.returns-clause-expression
returns-clause-expression c = call_expression_leaves_hidden

use Rattle.c_types_faults.proofs.Exprs.{accepted_expr, refused_expr}
use Rattle.c_types_faults.proofs.laws.a_refused_expression_breaks_a_rule.Goals as goal

pub returns-clause-refused : goal.returns-clause-refused
returns-clause-refused c = refused_expr

pub returns-clause-accepted : goal.returns-clause-accepted
returns-clause-accepted c = accepted_expr

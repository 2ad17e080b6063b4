use Rattle.c_types_faults.proofs.Silent.{expr_silent}
use Rattle.c_types_faults.proofs.Single.{one_operand}
use Rattle.c_types_faults.proofs.laws.an_operand_breaks_no_rule.Goals as goal

pub returns-clause-single : goal.returns-clause-single
returns-clause-single c = one_operand

pub returns-clause-silent : goal.returns-clause-silent
returns-clause-silent c = expr_silent

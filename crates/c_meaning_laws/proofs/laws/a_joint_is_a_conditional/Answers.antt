use Rattle.c_meaning_laws.proofs.Joints.{and_is_conditional, or_is_conditional}
use Rattle.c_meaning_laws.proofs.laws.a_joint_is_a_conditional.Goals as goal

pub returns-clause-both : goal.returns-clause-both
returns-clause-both c = and_is_conditional

pub returns-clause-either : goal.returns-clause-either
returns-clause-either c = or_is_conditional

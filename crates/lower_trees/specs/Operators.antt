-- The operators as the meaning of a tree has them.
use Rattle.c_meaning.specs.Trees as trees
use Rattle.lower_trees.specs.declared.operators.Assignment.{Assignment}
use Rattle.lower_trees.specs.declared.operators.Assignment.TheVariants as assignment
use Rattle.lower_trees.specs.declared.operators.Joint.{Joint}
use Rattle.lower_trees.specs.declared.operators.Joint.TheVariants as joint

-- what an assignment operator does
abbrev pub assignment_of : Assignment → trees.Assignment
assignment_of assignment.Plain = trees.Plain
assignment_of (assignment.By op) = trees.By op

-- what an operator of a chain does
abbrev pub joint_of : Joint → trees.Joint
joint_of joint.Both = trees.Both
joint_of joint.Either = trees.Either
joint_of (joint.Computes op) = trees.Computes op
joint_of joint.Unjoined = trees.Unjoined

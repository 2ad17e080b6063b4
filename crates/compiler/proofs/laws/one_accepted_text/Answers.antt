use Rattle.compiler.proofs.Rejecting.{same_known, same_tree}
use Rattle.compiler.proofs.laws.one_accepted_text.Goals as goal

pub returns-clause-tree : goal.returns-clause-tree
returns-clause-tree c = λ text t u v w x y. same_tree text x.tokens y.tokens t u x.has_tree y.has_tree

pub returns-clause-known : goal.returns-clause-known
returns-clause-known c = λ text t u v w x y. same_known t u v w (same_tree text x.tokens y.tokens t u x.has_tree y.has_tree) x.checks y.checks

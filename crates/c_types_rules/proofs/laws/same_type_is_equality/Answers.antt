use Rattle.std.proofs.Common.{subst, ◌≡◌, true}
use Rattle.c_types_rules.specs.TypeTree.{same_type}
use Rattle.c_types_rules.proofs.Same.{equal, same_self}
use Rattle.c_types_rules.proofs.laws.same_type_is_equality.Goals as goal

pub returns : goal.returns
returns c = λ a b. ((λ is. equal a b is), (λ is. subst (λ t. same_type a t ≡ true) is (same_self a)))

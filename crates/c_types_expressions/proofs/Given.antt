-- What a part of the walk gives, as a record: a goal then tells of which part it speaks.
use Rattle.std.proofs.Common.{◌≡◌, ℕ, Ok, Err, refl}
use Rattle.c_types_rules.specs.declared.operand.Operand.{Operand}
use Rattle.c_types_rules.specs.Faults.{OperandOrFault}
use Rattle.c_types_expressions.specs.declared.walk.Walk.{Walk}
use Rattle.c_types_expressions.specs.ExprWalk.{operand_noted}
use Rattle.c_types_expressions.specs.Walked.{Walked, ◌>>=◌, with_type}
use Rattle.c_types_expressions.proofs.Giving.{gives_more, gives_then}
use Rattle.c_types_expressions.proofs.Giving as plain

pub record Gives {A : Type 0} (m : Walked A) (Q : A → Walk → Type 0) : Type 0 where
  pub by : plain.Gives Q m

-- one part after another
pub and_then : {A B : Type 0} {P : A → Walk → Type 0} {Q : B → Walk → Type 0} {m : Walked A} {k : A → Walk → Walked B} → Gives m P
    → ((a : A) (v : Walk) → P a v → Gives (k a v) Q) → Gives (m >>= k) Q
and_then {P = P} {Q = Q} {m = m} {k = k} h g = record { by = gives_then P Q m k h.by (λ a v p. (g a v p).by) }

-- what follows from what is given
pub weaker : {A : Type 0} {P Q : A → Walk → Type 0} {m : Walked A} → Gives m P → ((a : A) (v : Walk) → P a v → Q a v) → Gives m Q
weaker {P = P} {Q = Q} {m = m} h g = record { by = gives_more P Q m g h.by }

looked_by : (Q : Operand → Walk → Type 0) (token : ℕ) (r : OperandOrFault) (w : Walk) → ((x : Operand) → r ≡ Ok x → Q x (with_type token x.ctype w))
    → plain.Gives Q (operand_noted token r w)
looked_by Q token (Ok x) w h = h x refl
looked_by Q token (Err kind) w h = tt

-- a construct that is looked at
pub looks : {Q : Operand → Walk → Type 0} (token : ℕ) (r : OperandOrFault) (w : Walk) → ((x : Operand) → r ≡ Ok x → Q x (with_type token x.ctype w))
    → Gives (operand_noted token r w) Q
looks {Q = Q} token r w h = record { by = looked_by Q token r w h }

-- The least kind of those that fit is one.
use Rattle.std.proofs.Common.{◌⊎◌, inl, inr, ◌≡◌, ℕ, ◌≤◌, refl, ap, sym, ◌∙◌, arith}
use Rattle.std.specs.Prelude.{◌==◌, if◌then◌else◌}
use Rattle.c_types_rules.specs.declared.fault.FaultKind.{FaultKind}
use Rattle.c_types_rules.specs.declared.fault.FaultKind.TheVariants as fault
use Rattle.c_types_rules.specs.Faults.{fault_number}
use Rattle.c_types_faults.specs.Least.{IsLeast}

abbrev kind_of : ℕ → FaultKind
kind_of n = if n == 1 then fault.Unknown
    else if n == 2 then fault.Redeclared
    else if n == 3 then fault.Operands
    else if n == 4 then fault.NoPlace
    else if n == 5 then fault.Arguments
    else if n == 6 then fault.Object
    else if n == 7 then fault.Initialiser
    else if n == 8 then fault.Jump
    else if n == 9 then fault.NoMain
    else fault.NoDefinition

kind_again : (k : FaultKind) → kind_of (fault_number k) ≡ k
kind_again fault.Unknown = refl
kind_again fault.Redeclared = refl
kind_again fault.Operands = refl
kind_again fault.NoPlace = refl
kind_again fault.Arguments = refl
kind_again fault.Object = refl
kind_again fault.Initialiser = refl
kind_again fault.Jump = refl
kind_again fault.NoMain = refl
kind_again fault.NoDefinition = refl

-- a kind is known by its number
number_one : (j k : FaultKind) → fault_number j ≡ fault_number k → j ≡ k
number_one j k h = sym (kind_again j) ∙ ap kind_of h ∙ kind_again k

pub least_one : (Fits : FaultKind → Type 0) (j k : FaultKind) → IsLeast Fits j → IsLeast Fits k → j ≡ k
least_one Fits j k h g = number_one j k (omega (arith, h.1 k g.0, g.1 j h.0))

-- of two rules the first, whose kind is no greater
pub least_first : (A B : Type 0) (a b k : FaultKind) → fault_number a ≤ fault_number b → k ≡ a → A → IsLeast (λ j. ((j ≡ a) × A) ⊎ ((j ≡ b) × B)) k
least_first A B a b k less e x = (inl (e, x), by)
  where
    by : (j : FaultKind) → ((j ≡ a) × A) ⊎ ((j ≡ b) × B) → fault_number k ≤ fault_number j
    by j (inl h) = omega (arith, ap fault_number e, ap fault_number h.0)
    by j (inr h) = omega (arith, ap fault_number e, ap fault_number h.0, less)

-- and the second, where the first is kept
pub least_second : (A B : Type 0) (a b k : FaultKind) → (A → ⊥) → k ≡ b → B → IsLeast (λ j. ((j ≡ a) × A) ⊎ ((j ≡ b) × B)) k
least_second A B a b k kept e y = (inr (e, y), by)
  where
    by : (j : FaultKind) → ((j ≡ a) × A) ⊎ ((j ≡ b) × B) → fault_number k ≤ fault_number j
    by j (inl h) = absurd (kept h.1)
    by j (inr h) = omega (arith, ap fault_number e, ap fault_number h.0)

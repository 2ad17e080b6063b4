-- Operators before an operand, by what they have in common.
use Rattle.std.proofs.Common.{◌≡◌, ℕ, refl, List, Option, true}
use Rattle.cbi_base.specs.declared.operators.Unary.TheVariants as unary
use Rattle.c_syntax.specs.declared.expr.PrefixOperator.{PrefixOperator}
use Rattle.c_syntax.specs.declared.expr.PrefixOperator.TheVariants as prefix
use Rattle.flow.specs.declared.node.Node.{Node}
use Rattle.flow.specs.declared.node.Node.TheVariants as node
use Rattle.c_meaning.specs.declared.value_type.ValueType.{ValueType}
use Rattle.c_meaning.specs.Facts.{Facts, Sites}
use Rattle.lower_relation.specs.Operators.{Negated}
use Rattle.lower_relation.specs.Paths.{Graph, ◌then◌, Does, Emitted, Stuck}
use Rattle.lower_relation.specs.Values.{EmittedValue}
use Rattle.lower_nodes.specs.Made.{GraphPath, Made, MadeAlone, MadeFor}
use Rattle.lower_nodes.specs.Prefixes.{PrefixValue}
use Rattle.lower_nodes.specs.Purposes.{PurposeTakes, Serves}
use Rattle.lower_nodes.specs.declared.purpose.Purpose.{Purpose}
use Rattle.lower_nodes.specs.declared.purpose.Purpose.TheVariants as purpose
use Rattle.lower_nodes.proofs.Building.{is_stuck}
use Rattle.lower_nodes.proofs.Serving.{is_valued, valued_made}
use Rattle.lower_nodes.proofs.Wanting.{same_effect, same_value}

-- a negation whose truth isn't what is wanted
abbrev turned : (Graph → Emitted) → GraphPath ℕ
turned m G = (m G).value then Does G (node.Sole unary.Not 0)

pub turned_made : (facts : Facts) (sites : Sites) (m : Graph → Emitted) (p : Purpose) (n0 n1 n2 : List Node) (after i : ℕ) →
    ((yes_at no_at : ℕ) → p ≡ purpose.Truth yes_at no_at → ⊥) → MadeFor (λ G. PurposeTakes G) n0 n1 after p →
    Made (λ G. (m G).value then Does G (node.Sole unary.Not 0)) n1 n2 i after → MadeFor (λ G. Serves (Negated G facts sites (m G))) n0 n2 i p
turned_made facts sites m (purpose.Value next) n0 n1 n2 after i other taken made =
    same_value (λ G. Serves (EmittedValue G (turned m G))) (λ G. Serves (Negated G facts sites (m G))) (λ G i k h. h) (λ s i k h. h) n0 n2 i next
    (valued_made (turned m) (purpose.Value next) n0 n1 n2 i after taken made)
turned_made facts sites m (purpose.Effect next) n0 n1 n2 after i other taken made =
    same_effect (λ G. Serves (EmittedValue G (turned m G))) (λ G. Serves (Negated G facts sites (m G))) (λ G i k h. h) (λ s i k h. h) n0 n2 i next
    (valued_made (turned m) (purpose.Effect next) n0 n1 n2 i after taken made)
turned_made facts sites m (purpose.Truth yes_at no_at) n0 n1 n2 after i other taken made = absurd (other yes_at no_at refl)

-- the operators whose whole is a value
pub valued_else : (operator : PrefixOperator) → (operator ≡ prefix.SizeOf → ⊥) → (operator ≡ prefix.Indirection → ⊥) → (operator ≡ prefix.Not → ⊥) → is_valued operator ≡ true
valued_else prefix.SizeOf no_size no_pointer no_not = absurd (no_size refl)
valued_else prefix.Indirection no_size no_pointer no_not = absurd (no_pointer refl)
valued_else prefix.Not no_size no_pointer no_not = absurd (no_not refl)
valued_else operator no_size no_pointer no_not = refl

-- and those that have none there
value_stuck : (G : Graph) (facts : Facts) (sites : Sites) (token : ℕ) (operator : PrefixOperator) (of : Option ValueType) (m : Emitted) →
    (operator ≡ prefix.Increment → ⊥) → (operator ≡ prefix.Decrement → ⊥) → (operator ≡ prefix.Address → ⊥) → (operator ≡ prefix.Plus → ⊥) →
    (operator ≡ prefix.Minus → ⊥) → (operator ≡ prefix.Complement → ⊥) → PrefixValue G facts sites token operator of m ≡ Stuck G
value_stuck G facts sites token prefix.Increment of m up down at plus minus complement = absurd (up refl)
value_stuck G facts sites token prefix.Decrement of m up down at plus minus complement = absurd (down refl)
value_stuck G facts sites token prefix.Address of m up down at plus minus complement = absurd (at refl)
value_stuck G facts sites token prefix.Plus of m up down at plus minus complement = absurd (plus refl)
value_stuck G facts sites token prefix.Minus of m up down at plus minus complement = absurd (minus refl)
value_stuck G facts sites token prefix.Complement of m up down at plus minus complement = absurd (complement refl)
value_stuck G facts sites token operator of m up down at plus minus complement = refl

pub value_stuck_made : (facts : Facts) (sites : Sites) (token : ℕ) (operator : PrefixOperator) (of : Option ValueType) (m : Graph → Emitted) (n0 n1 : List Node) (i k : ℕ) →
    (operator ≡ prefix.Increment → ⊥) → (operator ≡ prefix.Decrement → ⊥) → (operator ≡ prefix.Address → ⊥) → (operator ≡ prefix.Plus → ⊥) →
    (operator ≡ prefix.Minus → ⊥) → (operator ≡ prefix.Complement → ⊥) → MadeAlone {K = ℕ} (λ G. Stuck G) n0 n1 i k →
    Made (λ G. PrefixValue G facts sites token operator of (m G)) n0 n1 i k
value_stuck_made facts sites token operator of m n0 n1 i k up down at plus minus complement made =
    is_stuck (λ G. PrefixValue G facts sites token operator of (m G)) (λ G. value_stuck G facts sites token operator of (m G) up down at plus minus complement) n0 n1 i k made

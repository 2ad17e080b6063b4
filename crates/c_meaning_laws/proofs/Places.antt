-- An expression that is a place has the value that is loaded from there.
use Rattle.std.proofs.Common.{◌≡◌, ℕ, Bool, true, false, Option, Some, None, refl, ap, sym, ◌∙◌, subst, inl, inr}
use Rattle.cbi_base.specs.declared.scalar.Scalar.{Scalar}
use Rattle.cbi_base.specs.declared.scalar.Scalar.TheVariants.{Place}
use Rattle.c_syntax.specs.declared.expr.PrefixOperator.TheVariants as prefix
use Rattle.c_syntax.specs.ExprTree as e
use Rattle.c_syntax.specs.ExprTree.{ExprTree}
use Rattle.flow.specs.declared.site.Slot.{Slot}
use Rattle.flow.specs.declared.site.Slot.TheVariants as slot
use Rattle.c_meaning.specs.declared.value_type.ValueType.{ValueType}
use Rattle.c_meaning.specs.Words.{postfixed_sense, loaded_operand, place_or_value, Setting, object_of, expr, object_place, variable, ends_as_place, is_place, type_of, World, Out, Go}
use Rattle.c_meaning.specs.Words.{bind}
use Rattle.c_meaning_laws.specs.Typed.{Typed}
use Rattle.c_meaning_laws.specs.Parentheses.{IsWritten, KeepsType}
use Rattle.c_meaning_laws.proofs.Parts.{bind_go}

-- what an expression is within parentheses
pub written : (s : Setting) (x y : ExprTree) → IsWritten s.facts x y → (expr s y ≡ expr s x) × (type_of s.facts y ≡ type_of s.facts x)
written s x y (inl same) = (ap (λ z. expr s z) same, ap (λ z. type_of s.facts z) same)
written s x y (inr within) = (ap (λ z. expr s z) within.1, ap (λ z. type_of s.facts z) within.1 ∙ within.2)

behind_place : (b : Bool) (of : Option ValueType) (m : World → Out Scalar) (w : World)
    → (postfixed_sense b of m).value w ≡ bind (place_or_value b (postfixed_sense b of m) w) (loaded_operand b of)
behind_place true of m w = refl
behind_place false of m w = sym (bind_go (m w))

pub value_settled : (s : Setting) (x : ExprTree) (w : World) → KeepsType s.facts x
    → (expr s x).value w ≡ bind (place_or_value (is_place x) (expr s x) w) (loaded_operand (is_place x) (type_of s.facts x))
value_settled s (e.Name token name) w h = refl
value_settled s (e.Prefix token prefix.Indirection operand) w h = refl
value_settled s (e.Postfix primary operators) w h =
    behind_place (ends_as_place (is_place primary) operators) (type_of s.facts (e.Postfix primary operators)) _ w
value_settled s (e.Paren token inner) w h =
    subst (λ of. (expr s inner).value w ≡ bind (place_or_value (is_place inner) (expr s inner) w) (loaded_operand (is_place inner) of)) (sym h.0) (value_settled s inner w h.1)
value_settled s x w h = sym (bind_go ((expr s x).value w))

-- Where types fit, parentheses have the type of what they hold.
pub typed_keeps : (s : Setting) (count : ℕ) (x : ExprTree) → Typed s.facts s.sites count x → KeepsType s.facts x
typed_keeps s count (e.Paren token inner) h = (h.1, typed_keeps s count inner h.0)
typed_keeps s count x h = tt

-- where a local variable is found
pub variable_found : (s : Setting) (number : ℕ) (at : Option Slot) (w : World) → object_of s at ≡ Some number → variable s at w ≡ Go (Place number 0) w
variable_found s number None w h = cc
variable_found s number (Some (slot.Local index)) w h = ap (λ o. object_place o w) h
variable_found s number (Some (slot.Global index)) w h = cc

-- Casts, conditions and `? :`.
use Rattle.std.proofs.Common.{◌≡◌, ℕ, refl, subst, sym, List, [], ◌∷◌, ◌++◌, length, Option, Some, Bool, true, false}
use Rattle.c_syntax.specs.ExprTree as e
use Rattle.c_syntax.specs.ExprTree.{ExprTree}
use Rattle.flow.specs.declared.node.Node.{Node}
use Rattle.flow.specs.declared.node.Node.TheVariants as node
use Rattle.c_meaning.specs.declared.value_type.ValueType.{ValueType}
use Rattle.c_meaning.specs.declared.value_type.ValueType.TheVariants as type
use Rattle.c_meaning.specs.Words.{as_used, is_null_as, is_other_pointer, Facts, Sites, type_of}
use Rattle.lower_relation.specs.Expressions.{Condition, emitted_expression}
use Rattle.lower_relation.specs.Operators.{Cast}
use Rattle.lower_relation.specs.Paths.{Graph, Path, ◌then◌, Does, Either, Emitted, Stuck}
use Rattle.lower_relation.specs.Values.{ArmAs, ArmEffect, ArmValue, HandedValue, EmittedValue}
use Rattle.lower_nodes.specs.Made.{Made, MadeAlone, MadeFor, MadeWays}
use Rattle.lower_expressions.specs.Arms.{arm_effect_part, arm_value_part}
use Rattle.lower_nodes.specs.Parts.{purpose_part, value_part}
use Rattle.lower_nodes.specs.Purposes.{PurposeTakes, Serves, condition_ways}
use Rattle.lower_operators.specs.Voids.{is_void_value}
use Rattle.lower_nodes.specs.declared.purpose.Purpose.{Purpose}
use Rattle.lower_nodes.specs.declared.purpose.Purpose.TheVariants as purpose
use Rattle.lower_nodes.specs.Standing.{Allowed}
use Rattle.lower_nodes.proofs.Building.{◌and_then◌, both_ways, either_made, row, stuck_anywhere}
use Rattle.lower_nodes.proofs.Serving.{valued_made}
use Rattle.lower_nodes.proofs.Wanting.{as_effect, as_truth, as_value, effect_of, same_effect, same_truth, same_value}

void_is : (want : Option ValueType) → is_void_value want ≡ true → want ≡ Some type.Void
void_is (Some type.Void) is = refl
void_is want is = cc

cast_valued : (G : Graph) (is_null : Bool) (want : Option ValueType) (m : Emitted) → is_void_value want ≡ false → EmittedValue G (HandedValue G is_null want m) ≡ Cast G is_null want m
cast_valued G is_null (Some type.Void) m is = cc
cast_valued G is_null want m is = refl

-- a cast of a value
pub cast_value : (is_null : Bool) (want : Option ValueType) (m : Graph → Emitted) (p : Purpose) (n0 n1 n2 : List Node) (i after : ℕ) → is_void_value want ≡ false →
    MadeFor (λ G. PurposeTakes G) n0 n1 after p → Made (λ G. HandedValue G is_null want (m G)) n1 n2 i after → MadeFor (λ G. Serves (Cast G is_null want (m G))) n0 n2 i p
cast_value is_null want m p n0 n1 n2 i after is taken made =
    both_ways (λ G. Serves (EmittedValue G (HandedValue G is_null want (m G)))) (λ G. Serves (Cast G is_null want (m G))) p
    (λ G i p h. subst (λ x. Serves x i p) (cast_valued G is_null want (m G) is) h)
    (λ s i p h. subst (λ x. Serves x i p) (sym (cast_valued (Allowed s) is_null want (m (Allowed s)) is)) h) n0 n2 i
    (valued_made (λ G. HandedValue G is_null want (m G)) p n0 n1 n2 i after taken made)

-- a cast to `void`, for what the operand does
pub cast_effect : (is_null : Bool) (want : Option ValueType) (m : Graph → Emitted) (n0 n1 : List Node) (i next : ℕ) → is_void_value want ≡ true →
    MadeFor (λ G. Serves (m G)) n0 n1 i (purpose.Effect next) → MadeFor (λ G. Serves (Cast G is_null want (m G))) n0 n1 i (purpose.Effect next)
cast_effect is_null want m n0 n1 i next is made =
    subst (λ w. MadeFor (λ G. Serves (Cast G is_null w (m G))) n0 n1 i (purpose.Effect next)) (sym (void_is want is))
    (same_effect (λ G. Serves (m G)) (λ G. Serves (Cast G is_null (Some type.Void) (m G))) (λ G i k h. h) (λ s i k h. h) n0 n1 i next made)

-- it has no value
cast_stuck : (is_null : Bool) (m : Graph → Emitted) (p : Purpose) (n0 n1 : List Node) (i : ℕ) → ((next : ℕ) → p ≡ purpose.Effect next → ⊥) → MadeAlone {K = ℕ} (λ G. Stuck G) n0 n1 i 0 →
    MadeFor (λ G. Serves (Cast G is_null (Some type.Void) (m G))) n0 n1 i p
cast_stuck is_null m (purpose.Value next) n0 n1 i other made =
    as_value (λ G. Stuck G) (λ G. Serves (Cast G is_null (Some type.Void) (m G))) (λ G i k h. h) (λ s i k h. h) n0 n1 i next (stuck_anywhere n0 n1 i 0 next made)
cast_stuck is_null m (purpose.Effect next) n0 n1 i other made = absurd (other next refl)
cast_stuck is_null m (purpose.Truth yes_at no_at) n0 n1 i other made =
    as_truth (λ G. Stuck G) (λ G. Serves (Cast G is_null (Some type.Void) (m G))) (λ G i w h. h) (λ s i w h. h) n0 n1 i yes_at no_at
    (stuck_anywhere n0 n1 i 0 (condition_ways yes_at no_at) made)

pub cast_nothing : (is_null : Bool) (want : Option ValueType) (m : Graph → Emitted) (p : Purpose) (n0 n1 : List Node) (i : ℕ) → is_void_value want ≡ true →
    ((next : ℕ) → p ≡ purpose.Effect next → ⊥) → MadeAlone {K = ℕ} (λ G. Stuck G) n0 n1 i 0 → MadeFor (λ G. Serves (Cast G is_null want (m G))) n0 n1 i p
cast_nothing is_null want m p n0 n1 i is other made =
    subst (λ w. MadeFor (λ G. Serves (Cast G is_null w (m G))) n0 n1 i p) (sym (void_is want is)) (cast_stuck is_null m p n0 n1 i other made)

arm_dropping : (G : Graph) (is_null : Bool) (have want : Option ValueType) (m : Emitted) → is_void_value want ≡ false →
    (ArmValue G is_null have want m then Does G (node.Drop 0)) ≡ ArmEffect G is_null have want m
arm_dropping G is_null have (Some type.Void) m is = cc
arm_dropping G is_null have want m is = refl

-- an arm of `? :` where nothing takes the value
pub arm_dropped : (is_null : Bool) (have want : Option ValueType) (m : Graph → Emitted) (n0 n1 n2 : List Node) (drop i k : ℕ) → is_void_value want ≡ false →
    drop ≡ length n0 → n1 ≡ n0 ++ node.Drop k ∷ [] → Made (λ G. ArmValue G is_null have want (m G)) n1 n2 i drop → Made (λ G. ArmEffect G is_null have want (m G)) n0 n2 i k
arm_dropped is_null have want m n0 n1 n2 drop i k is at new made =
    both_ways (λ G. ArmValue G is_null have want (m G) then Does G (node.Drop 0)) (λ G. ArmEffect G is_null have want (m G)) k
    (λ G i k h. subst (λ (x : Path ℕ). x i k) (arm_dropping G is_null have want (m G) is) h)
    (λ s i k h. subst (λ (x : Path ℕ). x i k) (sym (arm_dropping (Allowed s) is_null have want (m (Allowed s)) is)) h) n0 n2 i (made and_then row (node.Drop 0) _ at new refl)

pub arm_void : (is_null : Bool) (have want : Option ValueType) (m : Graph → Emitted) (n0 n1 : List Node) (i k : ℕ) → is_void_value want ≡ true →
    MadeFor (λ G. Serves (m G)) n0 n1 i (purpose.Effect k) → Made (λ G. ArmEffect G is_null have want (m G)) n0 n1 i k
arm_void is_null have want m n0 n1 i k is made =
    subst (λ w. Made (λ G. ArmEffect G is_null have w (m G)) n0 n1 i k) (sym (void_is want is))
    (effect_of (λ G. Serves (m G)) (λ G. ArmEffect G is_null have (Some type.Void) (m G)) (λ G i k h. h) (λ s i k h. h) n0 n1 i k made)

module _ (facts : Facts) (sites : Sites) where
  -- an arm that is no null pointer
  pub arm_value_made : (want : Option ValueType) (x : ExprTree) (n0 n1 n2 : List Node) (m i k : ℕ) → is_null_as want x ≡ false →
      Made (λ G. ArmAs G (is_other_pointer (as_used (type_of facts x)) want) (type_of facts x) want) n0 n1 m k → Made (value_part facts sites x) n1 n2 i m →
      Made (arm_value_part facts sites want x) n0 n2 i k
  arm_value_made want x n0 n1 n2 m i k is arm made =
      subst (λ b. Made (λ G. ArmValue G b (type_of facts x) want (emitted_expression G facts sites x)) n0 n2 i k) (sym is) (made and_then arm)

  -- a null pointer in place of one
  pub arm_null_made : (want : Option ValueType) (x : ExprTree) (n0 n1 : List Node) (i k : ℕ) → is_null_as want x ≡ true → i ≡ length n0 → n1 ≡ n0 ++ node.Null k ∷ [] →
      Made (arm_value_part facts sites want x) n0 n1 i k
  arm_null_made want x n0 n1 i k is at new =
      subst (λ b. Made (λ G. ArmValue G b (type_of facts x) want (emitted_expression G facts sites x)) n0 n1 i k) (sym is) (row (node.Null 0) _ at new refl)

  module _ (token : ℕ) (c x y : ExprTree) where
    -- the value of the whole
    pub chosen_made : (n0 n1 n2 n3 : List Node) (no_at yes_at i k : ℕ) → Made (arm_value_part facts sites (facts.type_at token) y) n0 n1 no_at k →
        Made (arm_value_part facts sites (facts.type_at token) x) n1 n2 yes_at k → MadeWays (λ G. Condition G facts sites token c) n2 n3 i (condition_ways yes_at no_at) →
        Made (value_part facts sites (e.Conditional token c x y)) n0 n3 i k
    chosen_made n0 n1 n2 n3 no_at yes_at i k second first decided =
        either_made (λ G. Condition G facts sites token c) (arm_value_part facts sites (facts.type_at token) x) (arm_value_part facts sites (facts.type_at token) y)
        n0 n1 n2 n3 i yes_at no_at k second first decided

    -- or its truth
    pub conditional_taken : (p : Purpose) (n0 n1 n2 : List Node) (after i : ℕ) → ((next : ℕ) → p ≡ purpose.Effect next → ⊥) → MadeFor (λ G. PurposeTakes G) n0 n1 after p →
        Made (value_part facts sites (e.Conditional token c x y)) n1 n2 i after → MadeFor (purpose_part facts sites (e.Conditional token c x y)) n0 n2 i p
    conditional_taken (purpose.Value next) n0 n1 n2 after i other taken made =
        same_value (λ G. Serves (EmittedValue G (value_part facts sites (e.Conditional token c x y) G))) (purpose_part facts sites (e.Conditional token c x y)) (λ G i k h. h) (λ s i k h. h) n0 n2 i next
        (valued_made (value_part facts sites (e.Conditional token c x y)) (purpose.Value next) n0 n1 n2 i after taken made)
    conditional_taken (purpose.Effect next) n0 n1 n2 after i other taken made = absurd (other next refl)
    conditional_taken (purpose.Truth yes_at no_at) n0 n1 n2 after i other taken made =
        same_truth (λ G. Serves (EmittedValue G (value_part facts sites (e.Conditional token c x y) G))) (purpose_part facts sites (e.Conditional token c x y)) (λ G i w h. h) (λ s i w h. h) n0 n2 i
        yes_at no_at (valued_made (value_part facts sites (e.Conditional token c x y)) (purpose.Truth yes_at no_at) n0 n1 n2 i after taken made)

    -- and for what it does
    pub conditional_effect : (next : ℕ) (n0 n1 n2 n3 : List Node) (no_at yes_at i : ℕ) →
        Made (arm_effect_part facts sites (facts.type_at token) y) n0 n1 no_at next → Made (arm_effect_part facts sites (facts.type_at token) x) n1 n2 yes_at next →
        MadeWays (λ G. Condition G facts sites token c) n2 n3 i (condition_ways yes_at no_at) → MadeFor (purpose_part facts sites (e.Conditional token c x y)) n0 n3 i (purpose.Effect next)
    conditional_effect next n0 n1 n2 n3 no_at yes_at i second first decided =
        as_effect (λ G. Either (Condition G facts sites token c) (arm_effect_part facts sites (facts.type_at token) x G) (arm_effect_part facts sites (facts.type_at token) y G))
        (purpose_part facts sites (e.Conditional token c x y)) (λ G i k h. h) (λ s i k h. h) n0 n3 i next
        (either_made (λ G. Condition G facts sites token c) (arm_effect_part facts sites (facts.type_at token) x) (arm_effect_part facts sites (facts.type_at token) y)
        n0 n1 n2 n3 i yes_at no_at next second first decided)

pub ruleset arms_made = (arm_dropped, arm_void)

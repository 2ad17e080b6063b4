-- A compound assignment and the simple one that it stands for.
use Rattle.std.proofs.Common.{◌≡◌, ℕ, Bool, true, false, ◌&&◌, Option, Some, None, refl, ap, sym, ◌∙◌, subst, subst₂}
use Rattle.cbi_base.specs.declared.operators.Binary.{Binary}
use Rattle.cbi_base.specs.declared.scalar.Scalar.{Scalar}
use Rattle.c_syntax.specs.declared.token.Sign.{Sign}
use Rattle.c_syntax.specs.declared.token.Sign.TheVariants as sign
use Rattle.c_syntax.specs.ExprTree as e
use Rattle.c_syntax.specs.ExprTree.{ExprTree, LinkList}
use Rattle.c_types_expressions.specs.ExprWalk.{binary_of, compound_of}
use Rattle.flow.specs.declared.site.Slot.{Slot}
use Rattle.flow.specs.declared.site.Slot.TheVariants as slot
use Rattle.c_meaning.specs.declared.value_type.ValueType.{ValueType}
use Rattle.c_meaning.specs.declared.value_type.ValueType.TheVariants as type
use Rattle.cbi_base.specs.declared.trap.Trap.{Trap}
use Rattle.std.specs.Prelude.{Result, Ok, Err}
use Rattle.cbi_base.specs.Frames.{local_at}
use Rattle.base_lists.proofs.Tests.{and_false}
use Rattle.c_meaning.specs.Words.{as_wanted, conversion, is_null_as, is_pointer_value, load_at, Sense, assigned_value, value_after_link, null_or, loaded_operand, place_or_value, wanted_value}
use Rattle.c_meaning.specs.Words.{Setting, expr, links_value, operation_result, operation, type_given, assigned_at, compound_result_stored, object_place, variable, Joint, Computes}
use Rattle.c_meaning.specs.Words.{assigned_by, computing_joint, is_null_beside, is_place, joint_of_sign, operand_type, type_of, World, Out, Go, Stop, answer_or_trap, bind}
use Rattle.c_meaning_laws.specs.Compound.{CompoundIsOperation, CompoundOfVariable, Stays, TypedTargetMeets}
use Rattle.c_meaning_laws.specs.Parentheses.{KeepsType}
use Rattle.c_meaning_laws.proofs.Parts.{bind_alike, bind_behind, bind_go}
use Rattle.c_meaning_laws.proofs.Places.{typed_keeps, value_settled, written}

-- an operator that calculates with both sides
joint_computes : (plain : Sign) (o : Binary) → binary_of plain ≡ Some o → joint_of_sign plain ≡ Computes o
joint_computes sign.AndAnd o h = cc
joint_computes sign.OrOr o h = cc
joint_computes plain o h = ap computing_joint h

-- no operator of a compound assignment is one beside which a null constant is a pointer
never_null : (compound : Sign) (of : Option ValueType) (x : ExprTree) → is_null_beside (compound_of compound) of x ≡ false
never_null sign.PlusEqual of x = refl
never_null compound of x = refl

answer_stays : {A : Type 0} (r : Result A Trap) (w : World) → Stays w (answer_or_trap r w)
answer_stays (Ok x) w = refl
answer_stays (Err t) w = tt

object_stays : (number : Option ℕ) (w : World) → Stays w (object_place number w)
object_stays None w = tt
object_stays (Some number) w = refl

load_stays : (of : Option ValueType) (p : Scalar) (w : World) → Stays w (load_at of p w)
load_stays (Some (type.Number kind)) p w = answer_stays _ w
load_stays (Some (type.Pointer size)) p w = answer_stays _ w
load_stays (Some (type.Array size)) p w = refl
load_stays of p w = tt

module _ (s : Setting) (operator : ℕ) (o : Binary) (plain : Sign) (x right : ExprTree) (computing : joint_of_sign plain ≡ Computes o)
    (other : (of : Option ValueType) (y : ExprTree) → is_null_beside (binary_of plain) of y ≡ false) where
  abbrev link : LinkList
  link = e.more_links operator plain right e.no_links

  -- the right side, and then the operation
  abbrev then_right : Scalar → World → Out Scalar
  then_right old u =
      bind ((expr s right).value u) (λ y z. answer_or_trap (operation_result (operation o (type_of s.facts x) (type_of s.facts right)) old y z.objects) z)

  link_value : (old : Scalar) (u : World) → links_value s (type_of s.facts x) link old u ≡ then_right old u
  link_value old u =
      subst₂ (λ (j : Joint) (b : Bool). bind (value_after_link s j operator (type_of s.facts x) (operand_type b (type_of s.facts right)) (null_or b (expr s right)) old u)
      (λ v. Go v) ≡ then_right old u) (sym computing) (sym (other (type_of s.facts x) right)) (bind_go (then_right old u))

  -- the operation's value: the left side, the right side, and then the operation
  chain_value : (level : ℕ) (u : World) → (expr s (e.Chain level x link)).value u ≡ bind ((expr s x).value u) then_right
  chain_value level u =
      subst (λ (b : Bool). bind (null_or b (expr s x) u) (links_value s (operand_type b (type_of s.facts x)) link) ≡ bind ((expr s x).value u) then_right)
      (sym (other (type_of s.facts right) x)) (bind_alike ((expr s x).value u) (links_value s (type_of s.facts x) link) then_right link_value)

  simple_value : (level : ℕ) (u : World)
      → wanted_value (is_null_as (type_of s.facts x) (e.Chain level x link)) (s.facts.type_at operator) (type_of s.facts x) (expr s (e.Chain level x link)) u
      ≡ bind (bind ((expr s x).value u) then_right) (as_wanted (conversion (s.facts.type_at operator) (type_of s.facts x)))
  simple_value level u =
      ap (λ (b : Bool). wanted_value b (s.facts.type_at operator) (type_of s.facts x) (expr s (e.Chain level x link)) u) (and_false (is_pointer_value (type_of s.facts x)))
      ∙ ap (λ out. bind out (as_wanted (conversion (s.facts.type_at operator) (type_of s.facts x)))) (chain_value level u)

  -- both forms once the place is found, and the value known that stands right
  module _ (token level : ℕ) (v : Scalar) (w : World) (gives : (expr s right).value w ≡ Go v w)
      (typed : s.facts.type_at operator ≡ type_given (operation o (type_of s.facts x) (type_of s.facts right)) (type_of s.facts x)) where
    abbrev calculated : Scalar → World → Out Scalar
    calculated old u = answer_or_trap (operation_result (operation o (type_of s.facts x) (type_of s.facts right)) old v u.objects) u

    abbrev kept : Scalar → World → Out Scalar
    kept = as_wanted (conversion (s.facts.type_at operator) (type_of s.facts x))

    by_old : (p : Scalar) (out : Out Scalar) → Stays w out
        → bind out (λ old u. bind (calculated old u) (λ a y. bind (kept a y) (assigned_at s token p)))
        ≡ bind (bind (bind out then_right) kept) (assigned_at s token p)
    by_old p (Stop outcome u) h = refl
    by_old p (Go old u) h =
        subst (λ (y : World). bind (calculated old y) (λ a z. bind (kept a z) (assigned_at s token p))
        ≡ bind (bind (then_right old y) kept) (assigned_at s token p)) (sym h)
        (bind_behind (calculated old w) kept _ (assigned_at s token p) (λ a z. refl)
        ∙ ap (λ (out : Out Scalar). bind (bind (bind out
        (λ y z. answer_or_trap (operation_result (operation o (type_of s.facts x) (type_of s.facts right)) old y z.objects) z)) kept) (assigned_at s token p)) (sym gives))

    at_place : (p : Scalar) → (expr s x).value w ≡ load_at (type_of s.facts x) p w
        → bind ((expr s right).value w) (compound_result_stored s token (type_of s.facts x) (operation o (type_of s.facts x) (type_of s.facts right)) p)
        ≡ bind (wanted_value (is_null_as (type_of s.facts x) (e.Chain level x link)) (s.facts.type_at operator) (type_of s.facts x)
        (expr s (e.Chain level x link)) w) (assigned_at s token p)
    at_place p loads =
        ap (λ out. bind out (compound_result_stored s token (type_of s.facts x) (operation o (type_of s.facts x) (type_of s.facts right)) p)) gives
        ∙ subst (λ of. compound_result_stored s token (type_of s.facts x) (operation o (type_of s.facts x) (type_of s.facts right)) p v w
        ≡ bind (load_at (type_of s.facts x) p w) (λ old u. bind (calculated old u) (λ a y.
        bind (as_wanted (conversion of (type_of s.facts x)) a y) (assigned_at s token p)))) (sym typed) refl
        ∙ by_old p (load_at (type_of s.facts x) p w) (load_stays (type_of s.facts x) p w)
        ∙ ap (λ out. bind (bind (bind out then_right) kept) (assigned_at s token p)) (sym loads)
        ∙ ap (λ out. bind out (assigned_at s token p)) (sym (simple_value level w))

    by_place : (out : Out Scalar) → Stays w out
        → ((p : Scalar) → out ≡ Go p w → (expr s x).value w ≡ load_at (type_of s.facts x) p w)
        → bind out (λ p u. bind ((expr s right).value u) (compound_result_stored s token (type_of s.facts x) (operation o (type_of s.facts x) (type_of s.facts right)) p))
        ≡ bind out (λ p u. bind (wanted_value (is_null_as (type_of s.facts x) (e.Chain level x link)) (s.facts.type_at operator) (type_of s.facts x)
        (expr s (e.Chain level x link)) u) (assigned_at s token p))
    by_place (Stop outcome u) h k = refl
    by_place (Go p u) h k =
        subst (λ (y : World). bind ((expr s right).value y) (compound_result_stored s token (type_of s.facts x) (operation o (type_of s.facts x) (type_of s.facts right)) p)
        ≡ bind (wanted_value (is_null_as (type_of s.facts x) (e.Chain level x link)) (s.facts.type_at operator) (type_of s.facts x)
        (expr s (e.Chain level x link)) y) (assigned_at s token p)) (sym h) (at_place p (k p (ap (λ (y : World). Go p y) h)))

place_loads : (s : Setting) (x : ExprTree) (w : World) → is_place x ≡ true → KeepsType s.facts x → (p : Scalar) → (expr s x).place w ≡ Go p w
    → (expr s x).value w ≡ load_at (type_of s.facts x) p w
place_loads s x w is keeps p found =
    value_settled s x w keeps
    ∙ ap (λ (b : Bool). bind (place_or_value b (expr s x) w) (loaded_operand b (type_of s.facts x))) is
    ∙ ap (λ out. bind out (load_at (type_of s.facts x))) found

variable_stays : (s : Setting) (at : Option Slot) (w : World) → Stays w (variable s at w)
variable_stays s None w = tt
variable_stays s (Some (slot.Global index)) w = refl
variable_stays s (Some (slot.Local index)) w = object_stays (local_at index s.locals) w

pub compound_is_operation : CompoundIsOperation
compound_is_operation s token level operator o compound plain x value right v w signs is keeps stays operand paren =
    let same : (expr s right ≡ expr s value) × (type_of s.facts right ≡ type_of s.facts value) = written s value right paren in
    let other : (of : Option ValueType) (y : ExprTree) → is_null_beside (binary_of plain) of y ≡ false =
    λ of y. ap (λ q. is_null_beside q of y) (signs.1 ∙ sym signs.0) ∙ never_null compound of y in
    ap (λ (a : Option Binary). assigned_value s token (assigned_by a) (is_null_as (type_of s.facts x) value) (type_of s.facts x) (type_of s.facts value) (expr s x)
    (expr s value) w) signs.0
    ∙ sym (ap (λ (m : Sense). bind ((expr s x).place w) (λ p u. bind (m.value u)
    (compound_result_stored s token (type_of s.facts x) (operation o (type_of s.facts x) (type_of s.facts value)) p))) same.0)
    ∙ sym (ap (λ (of : Option ValueType). bind ((expr s x).place w) (λ p u. bind ((expr s right).value u)
    (compound_result_stored s token (type_of s.facts x) (operation o (type_of s.facts x) of) p))) same.1)
    ∙ by_place s operator o plain x right (joint_computes plain o signs.1) other token level v w
    (ap (λ (m : Sense). m.value w) same.0 ∙ operand.gives)
    (operand.typed ∙ sym (ap (λ of. type_given (operation o (type_of s.facts x) of) (type_of s.facts x)) same.1))
    ((expr s x).place w) stays (place_loads s x w is keeps)

pub compound_of_variable : CompoundOfVariable
compound_of_variable s token level operator at name o compound plain value right v w signs operand paren =
    compound_is_operation s token level operator o compound plain (e.Name at name) value right v w signs refl tt
    (variable_stays s (s.facts.slot_at at) w) operand paren

pub typed_target_meets : TypedTargetMeets
typed_target_meets s count token assigns x value h = (h.2, typed_keeps s count x h.0)

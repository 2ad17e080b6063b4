-- `++` and `--` before a place, and the compound assignments that they are.
use Rattle.std.proofs.Common.{◌≡◌, ℕ, Bool, true, false, Option, Some, Result, pos, refl, ap, sym, ◌∙◌}
use Rattle.std.proofs.Math.Path.{fun_ext}
use Rattle.cbi_base.specs.declared.scalar.Kind.TheVariants.{Int, Unsigned}
use Rattle.cbi_base.specs.declared.scalar.Scalar.{Scalar}
use Rattle.cbi_base.specs.declared.scalar.Scalar.TheVariants.{Number}
use Rattle.cbi_base.specs.declared.trap.Trap.{Trap}
use Rattle.cbi_base.specs.Words.{Objects, converted_number}
use Rattle.c_syntax.specs.ExprTree as e
use Rattle.c_syntax.specs.ExprTree.{ExprTree}
use Rattle.c_meaning.specs.declared.operation.Operation.{Operation}
use Rattle.c_meaning.specs.declared.operation.Operation.TheVariants.{Numbers}
use Rattle.c_meaning.specs.declared.value_type.ValueType.{ValueType}
use Rattle.c_meaning.specs.declared.value_type.ValueType.TheVariants as type
use Rattle.c_meaning.specs.Words.{as_wanted, conversion, load_at, Sense, place_or_value, sense_of_value, Setting, expr, operation_result, operation, type_given, assigned_at, compound_result_stored}
use Rattle.c_meaning.specs.Words.{one_beside, step_operation, stepped_behind, stepped_value, is_place, step_of, type_of, World, Out, Go, answer_or_trap, bind, chosen_part}
use Rattle.c_meaning.specs.Words.{value_discarded, no_effect, stuck_run}
use Rattle.c_meaning_laws.specs.Steps.{DecrementIsDifference, IncrementIsSum, StepBehindIsStep}
use Rattle.c_meaning_laws.proofs.Indices.{followed_sense}
use Rattle.c_meaning_laws.proofs.Parts.{bind_alike, bind_behind, bind_go}

-- a 1 of `int` becomes one of `unsigned` beside such a value
unsigned_one : (is_up : Bool) (old : Scalar) (o : Objects)
    → operation_result (Numbers (step_of is_up) Unsigned Unsigned) old (Number Unsigned (pos 1)) o
    ≡ operation_result (Numbers (step_of is_up) Unsigned Int) old (Number Int (pos 1)) o
unfolding operation_result converted_number
unsigned_one true old o = refl
unsigned_one false old o = refl

module _ (s : Setting) (is_up : Bool) (token : ℕ) where
  abbrev by_int : Option ValueType → Scalar → World → Out Scalar
  by_int of p w = compound_result_stored s token of (operation (step_of is_up) of (Some (type.Number Int))) p (Number Int (pos 1)) w

  unsigned_step : (b : Bool) (p : Scalar) (w : World) → b ≡ is_up → stepped_value s b token (Some (type.Number Unsigned)) p w
      ≡ compound_result_stored s token (Some (type.Number Unsigned)) (operation (step_of b) (Some (type.Number Unsigned)) (Some (type.Number Int))) p (Number Int (pos 1)) w
  unsigned_step true p w h =
      bind_alike (load_at (Some (type.Number Unsigned)) p w) _ _ (λ old u.
      ap (λ (r : Result Scalar Trap). bind (answer_or_trap r u) (λ x y. bind (as_wanted (conversion (Some (type.Number Unsigned)) (Some (type.Number Unsigned))) x y)
      (assigned_at s token p))) (unsigned_one true old u.objects))
  unsigned_step false p w h =
      bind_alike (load_at (Some (type.Number Unsigned)) p w) _ _ (λ old u.
      ap (λ (r : Result Scalar Trap). bind (answer_or_trap r u) (λ x y. bind (as_wanted (conversion (Some (type.Number Unsigned)) (Some (type.Number Unsigned))) x y)
      (assigned_at s token p))) (unsigned_one false old u.objects))

  step_by_int : (of : Option ValueType) (p : Scalar) (w : World) → stepped_value s is_up token of p w ≡ by_int of p w
  step_by_int (Some (type.Number Unsigned)) p w = unsigned_step is_up p w refl
  step_by_int of p w = refl

  -- a step, and what an assignment by a value of this type does
  steps_sense : (x : ExprTree) (right : Option ValueType) → right ≡ Some (type.Number Int)
      → sense_of_value (λ w. bind ((expr s x).place w) (stepped_value s is_up token (type_of s.facts x)))
      ≡ sense_of_value (λ w. bind ((expr s x).place w) (λ p.
      compound_result_stored s token (type_of s.facts x) (operation (step_of is_up) (type_of s.facts x) right) p (Number Int (pos 1))))
  steps_sense x right h =
      ap sense_of_value (fun_ext (λ w. bind_alike ((expr s x).place w) _ _ (λ p u.
      step_by_int (type_of s.facts x) p u
      ∙ ap (λ of. compound_result_stored s token (type_of s.facts x) (operation (step_of is_up) (type_of s.facts x) of) p (Number Int (pos 1)) u) (sym h))))

  -- the old value given behind it is let go
  behind_done : (of : Option ValueType) (p : Scalar) (w : World) → value_discarded (stepped_behind s is_up token of p w) ≡ value_discarded (stepped_value s is_up token of p w)
  behind_done of p w =
      let o : Operation = step_operation is_up of in
      sym (bind_behind (load_at of p w) _ _ (λ _. no_effect) (λ old u.
      bind_behind (answer_or_trap (operation_result o old (one_beside s of) u.objects) u) _ _ (λ _. no_effect) (λ x y.
      bind_behind (as_wanted (conversion (type_given o of) of) x y) _ _ (λ _. no_effect) (λ z a.
      bind_behind (assigned_at s token p z a) (λ _. Go old) (λ _. no_effect) (λ _. no_effect) (λ _ b. refl)))))
      ∙ bind_behind (load_at of p w) _ _ (λ _. no_effect) (λ old u.
      bind_behind (answer_or_trap (operation_result o old (one_beside s of) u.objects) u) _ _ (λ _. no_effect) (λ x y.
      bind_behind (as_wanted (conversion (type_given o of) of) x y) _ _ (λ _. no_effect) (λ z a. refl)))

pub increment_is_sum : IncrementIsSum
increment_is_sum s token one x h = steps_sense s true token x (s.facts.type_at one) h

pub decrement_is_difference : DecrementIsDifference
decrement_is_difference s token one x h = steps_sense s false token x (s.facts.type_at one) h

-- where the place is found, and what stands behind it
reached_step : (s : Setting) (is_up : Bool) (token : ℕ) (x : ExprTree) (w : World) → is_place x ≡ true
    → value_discarded (bind (place_or_value (is_place x) (expr s x) w) (λ v u. bind (chosen_part (is_place x) (stepped_behind s is_up token (type_of s.facts x) v) stuck_run u) (λ y. Go y)))
    ≡ value_discarded (bind ((expr s x).place w) (stepped_value s is_up token (type_of s.facts x)))
reached_step s is_up token x w is =
    ap (λ (b : Bool). value_discarded (bind (place_or_value b (expr s x) w) (λ v u. bind (chosen_part b (stepped_behind s is_up token (type_of s.facts x) v) stuck_run u) (λ y. Go y)))) is
    ∙ sym (bind_behind ((expr s x).place w) _ _ (λ _. no_effect) (λ p u.
    sym (behind_done s is_up token (type_of s.facts x) p u)
    ∙ ap value_discarded (sym (bind_go (stepped_behind s is_up token (type_of s.facts x) p u)))))
    ∙ bind_behind ((expr s x).place w) _ _ (λ _. no_effect) (λ p u. refl)

pub step_behind_is_step : StepBehindIsStep
step_behind_is_step s token x w is = (
  ap (λ (m : Sense). m.effect w) (followed_sense s x (e.increment token e.no_postfix)) ∙ reached_step s true token x w is,
  ap (λ (m : Sense). m.effect w) (followed_sense s x (e.decrement token e.no_postfix)) ∙ reached_step s false token x w is,
)

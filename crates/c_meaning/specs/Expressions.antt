-- What each operator does with what its operands mean (C99 6.5).
use Rattle.std.specs.Prelude.{ℕ, zero, suc, ◌==◌, not, Bool, true, false, pos, Option, Some, None}
use Rattle.cbi_base.specs.declared.scalar.Kind.{Kind}
use Rattle.cbi_base.specs.declared.scalar.Kind.TheVariants.{Unsigned}
use Rattle.cbi_base.specs.declared.scalar.Scalar.{Scalar}
use Rattle.cbi_base.specs.declared.scalar.Scalar.TheVariants.{Number, Null}
use Rattle.cbi_base.specs.declared.operators.Unary.{Unary}
use Rattle.cbi_base.specs.declared.operators.Unary.TheVariants as unary
use Rattle.cbi_base.specs.Scalars.{applied_to_one}
use Rattle.c_syntax.specs.declared.expr.PrefixOperator.{PrefixOperator}
use Rattle.c_syntax.specs.declared.expr.PrefixOperator.TheVariants as prefix
use Rattle.c_meaning.specs.declared.value_type.ValueType.{ValueType}
use Rattle.c_meaning.specs.declared.value_type.ValueType.TheVariants as type
use Rattle.c_meaning.specs.Conversions.{as_wanted, conversion, as_used, handed_scalar, load_at}
use Rattle.c_meaning.specs.Facts.{Setting}
use Rattle.c_meaning.specs.Operation.{flag_value, operation, operation_result}
use Rattle.c_meaning.specs.Places.{assigned_at, compound_result_stored, pointed_place, stepped_value}
use Rattle.c_meaning.specs.Trees.{Assignment, Plain, By, Joint, Both, Either, Computes, Unjoined}
use Rattle.c_meaning.specs.Visits.{visited_truth, truth_value}
use Rattle.c_meaning.specs.World.{World, Out, Go, OutDone, bind, answer_or_trap, chosen_part, value_discarded, no_effect, stuck_run}

-- what an expression means: its value, the place that it finds, and what it does where nothing takes its value
pub record Sense : Type 0 where
  pub value : World → Out Scalar
  pub place : World → Out Scalar
  pub effect : World → OutDone

-- an expression that is no place
abbrev pub sense_of_value : (World → Out Scalar) → Sense
sense_of_value v = record { value = v; place = stuck_run; effect = λ w. value_discarded (v w) }

abbrev pub is_struct_value : Option ValueType → Bool
is_struct_value (Some type.Struct) = true
is_struct_value of = false

-- a place of the type; of a struct nothing is read
abbrev pub sense_of_place : Option ValueType → (World → Out Scalar) → Sense
sense_of_place of p = record {
  value = λ w. bind (p w) (load_at of);
  place = p;
  effect = λ w. bind (p w) (λ v. chosen_part (is_struct_value of) no_effect (λ u. value_discarded (load_at of v u)));
}

-- what is done for what it does alone
abbrev pub sense_of_effect : (World → OutDone) → Sense
sense_of_effect act = record { value = stuck_run; place = stuck_run; effect = act }

abbrev pub sense_of_number : Kind → ℕ → Sense
sense_of_number kind n = sense_of_value (Go (Number kind (pos n)))

-- a null pointer in place of the value
abbrev pub null_or : Bool → Sense → World → Out Scalar
null_or true m w = Go Null w
null_or false m w = m.value w

-- the value as one of the wanted type, as by assignment: `is_null` where it is a null constant and a pointer is wanted (C99 6.5.16.1)
abbrev pub wanted_value : Bool → Option ValueType → Option ValueType → Sense → World → Out Scalar
wanted_value true have want m w = Go Null w
wanted_value false have want m w = bind (m.value w) (as_wanted (conversion have want))

-- One pointer is to void and the other one isn't: only these are converted (C99 6.3.2.3p1).
abbrev pub is_other_pointer : Option ValueType → Option ValueType → Bool
is_other_pointer (Some (type.Pointer size)) (Some (type.Pointer wanted)) = not (size == wanted)
is_other_pointer have want = false

abbrev pub arm_as : Bool → Option ValueType → Option ValueType → Scalar → World → Out Scalar
arm_as true have want v w = handed_scalar want v w
arm_as false have want v w = as_wanted (conversion have want) v w

-- an arm of `? :` as a value of its type: an undefined one is handed on where the arm has that type, and else it is met (C99 6.5.15p5, p6)
abbrev pub arm_value : Bool → Option ValueType → Option ValueType → Sense → World → Out Scalar
arm_value true have want m w = Go Null w
arm_value false have want m w = bind (m.value w) (arm_as (is_other_pointer (as_used have) want) have want)

-- the same where nothing takes the value of the whole, which may be void
abbrev pub arm_effect : Bool → Option ValueType → Option ValueType → Sense → World → OutDone
arm_effect is_null have (Some type.Void) m w = m.effect w
arm_effect is_null have want m w = value_discarded (arm_value is_null have want m w)

-- the value as it is handed over: an undefined one is met at once
abbrev pub handed_value : Bool → Option ValueType → Sense → World → Out Scalar
handed_value true want m w = Go Null w
handed_value false want m w = bind (m.value w) (handed_scalar want)

-- the value of a cast, or nothing of it where it is one to `void` (C99 6.5.4)
abbrev pub cast_sense : Bool → Option ValueType → Sense → Sense
cast_sense is_null (Some type.Void) m = sense_of_effect m.effect
cast_sense is_null want m = sense_of_value (handed_value is_null want m)

-- one operand after another, of which the last gives the value (C99 6.5.17)
abbrev pub comma_sense : ℕ → Sense → Sense → Sense
comma_sense zero m rest = m
comma_sense (suc n) m rest = record {
  value = λ w. bind (m.effect w) (λ _. rest.value);
  place = stuck_run;
  effect = λ w. bind (m.effect w) (λ _. rest.effect);
}

-- 1 where a value is true, else 0
abbrev pub as_flag : (World → Out Scalar) → World → Out Scalar
as_flag right w = bind (right w) (λ v u. bind (truth_value v u) (λ holds. Go (flag_value holds)))

-- what stands before a postfix operator, as a value
abbrev pub loaded_operand : Bool → Option ValueType → Scalar → World → Out Scalar
loaded_operand true of v w = load_at of v w
loaded_operand false of v w = Go v w

-- a place where it is one, and else a value
abbrev pub place_or_value : Bool → Sense → World → Out Scalar
place_or_value true m = m.place
place_or_value false m = m.value

abbrev pub postfixed_sense : Bool → Option ValueType → (World → Out Scalar) → Sense
postfixed_sense true of m = sense_of_place of m
postfixed_sense false of m = sense_of_value m

abbrev pub size_value : Option ℕ → Sense
size_value None = sense_of_value stuck_run
size_value (Some cells) = sense_of_number Unsigned cells

-- a unary operator converts its operand, and then calculates (C99 6.5.3.3)
abbrev pub one_operand : Option ValueType → Option ValueType → Unary → Scalar → World → Out Scalar
one_operand have want o v w = bind (as_wanted (conversion have want) v w) (λ x u. answer_or_trap (applied_to_one o x) u)

module _ (s : Setting) where
  -- The right side of `&&` and `||` is evaluated where the left one leaves it open (C99 6.5.13p4, 6.5.14p4).
  abbrev pub value_after_link : Joint → ℕ → Option ValueType → Option ValueType → (World → Out Scalar) → Scalar → World → Out Scalar
  value_after_link Both token left right m v w = bind (visited_truth s token v w) (λ holds. chosen_part holds (as_flag m) (Go (flag_value false)))
  value_after_link Either token left right m v w = bind (visited_truth s token v w) (λ holds. chosen_part holds (Go (flag_value true)) (as_flag m))
  value_after_link (Computes o) token left right m v w = bind (m w) (λ x u. answer_or_trap (operation_result (operation o left right) v x u.objects) u)
  value_after_link Unjoined token left right m v w = stuck_run w

  -- an assignment finds its place, then its value, which is converted and stored; a compound one loads the old value after that (C99 6.5.16)
  abbrev pub assigned_value : ℕ → Assignment → Bool → Option ValueType → Option ValueType → Sense → Sense → World → Out Scalar
  assigned_value token Plain is_null left right goal m w =
      bind (goal.place w) (λ p u. bind (wanted_value is_null right left m u) (assigned_at s token p))
  assigned_value token (By o) is_null left right goal m w =
      bind (goal.place w) (λ p u. bind (m.value u) (compound_result_stored s token left (operation o left right) p))

  -- `? :`, whose arms become values of its type (C99 6.5.15)
  abbrev pub conditional : ℕ → Sense → (World → Out Scalar) → (World → Out Scalar) → (World → OutDone) → (World → OutDone) → Sense
  conditional token c first second first_effect second_effect = record {
    value = λ w. bind (c.value w) (λ v u. bind (visited_truth s token v u) (λ holds. chosen_part holds first second));
    place = stuck_run;
    effect = λ w. bind (c.value w) (λ v u. bind (visited_truth s token v u) (λ holds. chosen_part holds first_effect second_effect));
  }

  -- the operators before an operand of the type `of` (C99 6.5.3)
  abbrev pub prefixed_sense : ℕ → PrefixOperator → Option ValueType → Option ℕ → Sense → Sense
  prefixed_sense token prefix.Increment of cells m = sense_of_value (λ w. bind (m.place w) (stepped_value s true token of))
  prefixed_sense token prefix.Decrement of cells m = sense_of_value (λ w. bind (m.place w) (stepped_value s false token of))
  prefixed_sense token prefix.Address of cells m = sense_of_value m.place
  prefixed_sense token prefix.Indirection of cells m =
      sense_of_place (s.facts.type_at token) (λ w. bind (m.value w) (λ v u. answer_or_trap (pointed_place v) u))
  prefixed_sense token prefix.Plus of cells m = sense_of_value (λ w. bind (m.value w) (handed_scalar (s.facts.type_at token)))
  prefixed_sense token prefix.Minus of cells m = sense_of_value (λ w. bind (m.value w) (one_operand of (s.facts.type_at token) unary.Neg))
  prefixed_sense token prefix.Complement of cells m = sense_of_value (λ w. bind (m.value w) (one_operand of (s.facts.type_at token) unary.Com))
  prefixed_sense token prefix.Not of cells m = sense_of_value (λ w. bind (m.value w) (λ v u. answer_or_trap (applied_to_one unary.Not v) u))
  prefixed_sense token prefix.SizeOf of cells m = size_value cells

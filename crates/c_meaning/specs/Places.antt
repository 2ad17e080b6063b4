-- Variables and places: how they are found, read and changed (C99 6.5.2.3, 6.5.3.2, 6.5.16).
use Rattle.std.specs.Prelude.{ℕ, ℤ, pos, Bool, true, false, Option, Some, None, Result, Ok, Err}
use Rattle.cbi_base.specs.Words.{local_at, is_zero, value_stored, moved_pointer}
use Rattle.cbi_base.specs.declared.scalar.Scalar.{Scalar}
use Rattle.cbi_base.specs.declared.scalar.Scalar.TheVariants.{Number, Place, Null, Undefined}
use Rattle.cbi_base.specs.declared.trap.Trap.{Trap}
use Rattle.cbi_base.specs.declared.trap.Trap.TheVariants as trap
use Rattle.flow.specs.declared.site.Slot.{Slot}
use Rattle.flow.specs.declared.site.Slot.TheVariants as slot
use Rattle.c_meaning.specs.declared.operation.Operation.{Operation}
use Rattle.c_meaning.specs.declared.value_type.ValueType.{ValueType}
use Rattle.c_meaning.specs.declared.value_type.ValueType.TheVariants as type
use Rattle.c_meaning.specs.Conversions.{as_wanted, conversion, load_at}
use Rattle.c_meaning.specs.Facts.{Setting}
use Rattle.c_meaning.specs.Operation.{operation, operation_result, type_given}
use Rattle.c_meaning.specs.Trees.{one_kind, step_of}
use Rattle.c_meaning.specs.Visits.{sites_visited}
use Rattle.c_meaning.specs.World.{World, Out, Go, bind, answer_or_trap, stuck_run}

abbrev pub object_place : Option ℕ → World → Out Scalar
object_place None w = stuck_run w
object_place (Some number) w = Go (Place number 0) w

-- the member at an offset, and the element of an array that is initialised (C99 6.5.2.3)
abbrev pub member_place : Option ℕ → Scalar → World → Out Scalar
member_place None p w = stuck_run w
member_place (Some offset) p w = answer_or_trap (moved_pointer p (pos offset) w.objects) w

abbrev pub unless_zero : Bool → Scalar → Result Scalar Trap
unless_zero true v = Err trap.Internal
unless_zero false v = Ok v

-- `*e`: null is no place. Whether the object lives is seen where the place is read or changed (C99 6.5.3.2p4).
abbrev pub pointed_place : Scalar → Result Scalar Trap
pointed_place Undefined = Err trap.Undefined
pointed_place Null = Err trap.NullUse
pointed_place (Number kind value) = unless_zero (is_zero value) (Number kind value)
pointed_place v = Ok v

-- the value is stored, and is what the whole gives (C99 6.5.16p3)
abbrev pub store_at : Scalar → Scalar → World → Out Scalar
store_at p v w = bind (answer_or_trap (value_stored p v w.objects) w) (λ objects u. Go v (record u { objects = objects }))

-- the operation of `++` and `--`: 1 is added or subtracted in the common type (C99 6.5.2.4p2, 6.5.3.1p2)
abbrev pub step_operation : Bool → Option ValueType → Operation
step_operation is_up of = operation (step_of is_up) of (Some (type.Number (one_kind of)))

module _ (s : Setting) where
  abbrev pub variable : Option Slot → World → Out Scalar
  variable None w = stuck_run w
  variable (Some (slot.Local index)) w = object_place (local_at index s.locals) w
  variable (Some (slot.Global index)) w = Go (Place index 0) w

  -- what is assigned at the token is stored, and then the sites there are visited
  abbrev pub assigned_at : ℕ → Scalar → Scalar → World → Out Scalar
  assigned_at token p v w = bind (store_at p v w) (sites_visited s (s.sites.pairs_at token))

  -- the old value is loaded, the operation is done on it and the right value, and the result is stored (C99 6.5.16.2)
  abbrev pub compound_result_stored : ℕ → Option ValueType → Operation → Scalar → Scalar → World → Out Scalar
  compound_result_stored token of o p right w =
      bind (load_at of p w) (λ old u. bind (answer_or_trap (operation_result o old right u.objects) u) (λ x y.
      bind (as_wanted (conversion (type_given o of) of) x y) (assigned_at token p)))

  abbrev pub one_beside : Option ValueType → Scalar
  one_beside of = Number (one_kind of) (pos 1)

  -- before a place they give the new value (C99 6.5.3.1)
  abbrev pub stepped_value : Bool → ℕ → Option ValueType → Scalar → World → Out Scalar
  stepped_value is_up token of p w = compound_result_stored token of (step_operation is_up of) p (one_beside of) w

  -- behind a place they give the old value (C99 6.5.2.4)
  abbrev pub stepped_behind : Bool → ℕ → Option ValueType → Scalar → World → Out Scalar
  stepped_behind is_up token of p w =
      bind (load_at of p w) (λ old u. bind (answer_or_trap (operation_result (step_operation is_up of) old (one_beside of) u.objects) u) (λ x y.
      bind (as_wanted (conversion (type_given (step_operation is_up of) of) of) x y) (λ z a. bind (assigned_at token p z a) (λ _. Go old))))

-- Calls, of the functions of a text and of the library (C99 6.5.2.2, 7.2, 7.19, 7.20).
use Rattle.std.specs.Prelude.{ℕ, ◌==◌, Bool, true, false, List, [], ◌∷◌, length, reverse, if◌then◌else◌, Option, Some, None}
use Rattle.std.specs.Prelude.{unsigned_abs}
use Rattle.cbi_base.specs.declared.outcome.Outcome.TheVariants.{Trapped, Ended}
use Rattle.cbi_base.specs.declared.scalar.Kind.TheVariants.{Int, Unsigned}
use Rattle.cbi_base.specs.declared.scalar.Scalar.{Scalar}
use Rattle.cbi_base.specs.declared.scalar.Scalar.TheVariants.{Number, Undefined}
use Rattle.cbi_base.specs.declared.trap.Trap.TheVariants as trap
use Rattle.cbi_base.specs.Words.{object_allocated, object_released, is_defined_value, Byte, Conversion, FormatPiece, pieces_of}
use Rattle.std.specs.List.{list_all}
use Rattle.c_types_rules.specs.declared.library.Library.{Library}
use Rattle.c_types_rules.specs.declared.library.Library.TheVariants as library
use Rattle.flow.specs.declared.program.Text.{Text}
use Rattle.c_meaning.specs.declared.value_type.Called.{Called}
use Rattle.c_meaning.specs.declared.value_type.Called.TheVariants as called
use Rattle.c_meaning.specs.declared.value_type.ValueType.{ValueType}
use Rattle.c_meaning.specs.declared.value_type.ValueType.TheVariants as type
use Rattle.c_meaning.specs.Conversions.{as_used}
use Rattle.c_meaning.specs.Expressions.{Sense, sense_of_value, sense_of_effect}
use Rattle.c_meaning.specs.Facts.{Setting, Signature}
use Rattle.c_meaning.specs.Output.{next_byte, put_byte, put_format, put_string}
use Rattle.c_meaning.specs.Trees.{has_value}
use Rattle.c_meaning.specs.Visits.{site_list, truth_value, sites_visited}
use Rattle.c_meaning.specs.World.{World, Out, Go, Stop, OutDone, bind, answer_or_trap, chosen_part, value_discarded, stuck_run}

-- `malloc` (C99 7.20.3.3)
abbrev pub space_allocated : Scalar → World → Out Scalar
space_allocated Undefined w = Stop (Trapped trap.Undefined) w
space_allocated (Number Unsigned cells) w =
    let made = object_allocated (unsigned_abs cells) w.objects in Go made.0 (record w { objects = made.1 })
space_allocated other w = stuck_run w

-- `free` (C99 7.20.3.2)
abbrev pub space_released : Scalar → World → OutDone
space_released p w = bind (answer_or_trap (object_released p w.objects) w) (λ objects u. Go tt (record u { objects = objects }))

-- `exit` (C99 7.20.4.3)
abbrev pub exit : Scalar → World → OutDone
exit Undefined w = Stop (Trapped trap.Undefined) w
exit (Number Int status) w = Stop (Ended status) w
exit other w = stuck_run w

-- `abort` (C99 7.20.4.1)
abbrev pub abort : World → OutDone
abort w = Stop (Trapped trap.Abort) w

-- `assert` (C99 7.2.1.1)
abbrev pub assert : Bool → World → OutDone
assert true w = Go tt w
assert false w = Stop (Trapped trap.Assertion) w

-- the type of the argument that a conversion of a format takes (C99 7.19.6.1p8)
abbrev pub type_taken : ℕ → ValueType
type_taken letter =
    if letter == 115 then type.Pointer 1
    else if letter == 117 then type.Number Unsigned
    else type.Number Int

abbrev pub types_taken : List FormatPiece → List ValueType
types_taken [] = []
types_taken (Byte byte ∷ pieces) = types_taken pieces
types_taken (Conversion letter ∷ pieces) = type_taken letter ∷ types_taken pieces

-- several values at once, the last one first: none of them is undefined
abbrev pub all_defined : List Scalar → World → Out (List Scalar)
all_defined vs w = if list_all is_defined_value vs then Go (reverse vs) w else Stop (Trapped trap.Undefined) w

-- arguments of these types, evaluated and handed over one after another: the last one first
abbrev pub Arguments : Type 0
Arguments = List ValueType → World → Out (List Scalar)

-- the one argument, handed over as one of the type that is wanted, which may be its own
abbrev pub Argument : Type 0
Argument = (Option ValueType → Option ValueType) → World → Out Scalar

-- whatever the argument's own type is
abbrev pub as_type : ValueType → Option ValueType → Option ValueType
as_type wanted own = Some wanted

-- `printf` with a string of the text as its format, and so many other arguments: those that its conversions take, which become values as they
-- take them
abbrev pub print_by : Option Text → ℕ → Arguments → World → OutDone
print_by None n arguments w = stuck_run w
print_by (Some format) n arguments w =
    chosen_part (n == length (types_taken (pieces_of format.bytes)))
    (λ u. bind (arguments (types_taken (pieces_of format.bytes)) u) (λ vs y. bind (all_defined vs y) (put_format format.bytes))) stuck_run w

module _ (s : Setting) where
  -- a returned value, with the visit of its site
  abbrev pub call_result_visited : ℕ → (World → Out Scalar) → Sense
  call_result_visited token m = sense_of_value (λ w. bind (m w) (sites_visited s (site_list (s.sites.return_at token))))

  -- a call of a function without a result has no value
  abbrev pub with_result : ℕ → Bool → (World → Out Scalar) → Sense
  with_result token true m = call_result_visited token m
  with_result token false m = sense_of_effect (λ w. value_discarded (m w))

  -- a function of the text: its arguments, and then its body
  abbrev pub call_function : ℕ → ℕ → Option Signature → ℕ → Arguments → Sense
  call_function token number None n arguments = sense_of_value stuck_run
  call_function token number (Some f) n arguments =
      with_result token (has_value f.result) (chosen_part (n == length f.params) (λ w. bind (arguments f.params w) (s.call number)) stuck_run)

  -- a function of the library
  abbrev pub call_library : ℕ → Library → ℕ → Argument → (World → OutDone) → Sense
  call_library token library.Getchar n argument print = call_result_visited token (chosen_part (n == 0) (λ w. next_byte w.input w) stuck_run)
  call_library token library.Putchar n argument print = sense_of_value (λ w. bind (argument (as_type (type.Number Int)) w) put_byte)
  call_library token library.Puts n argument print = sense_of_value (λ w. bind (argument (as_type (type.Pointer 1)) w) put_string)
  call_library token library.Malloc n argument print = call_result_visited token (λ w. bind (argument (as_type (type.Number Unsigned)) w) space_allocated)
  call_library token library.Free n argument print = sense_of_effect (λ w. bind (argument (as_type (type.Pointer 0)) w) space_released)
  call_library token library.Exit n argument print = sense_of_effect (λ w. bind (argument (as_type (type.Number Int)) w) exit)
  call_library token library.Abort n argument print = sense_of_effect (chosen_part (n == 0) abort stuck_run)
  call_library token library.Assert n argument print = sense_of_effect (λ w. bind (argument as_used w) (λ v u. bind (truth_value v u) assert))
  call_library token library.Printf n argument print = sense_of_effect print

  -- a call by what it calls, with so many arguments
  abbrev pub call_sense : ℕ → Called → ℕ → Arguments → Argument → (World → OutDone) → Sense
  call_sense token (called.Function number) n arguments argument print = call_function token number (s.facts.signature number) n arguments
  call_sense token (called.Library function) n arguments argument print = call_library token function n argument print
  call_sense token called.Unknown n arguments argument print = sense_of_value stuck_run

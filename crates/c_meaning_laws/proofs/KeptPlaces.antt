-- Values, places, visits and output keep what holds of all values and of the objects.
use Rattle.std.proofs.Common.{◌≡◌, ℕ, ◌+◌, ◌++◌, ◌-◌, ℤ, ◌*ℤ◌, Bool, true, false, pos, negsuc, nat_le, length, take, List, [], ◌∷◌, Option, Some, None}
use Rattle.std.proofs.Common.{Result, Ok, Err, refl}
use Rattle.std.specs.Prelude.{if◌then◌else◌}
use Rattle.cbi_base.specs.Words.{Printed, pieces_of, printed_format, string_at, take_values, then_print, bytes_printed, output_limit, Locals, local_at, binary_value}
use Rattle.cbi_base.specs.Words.{is_zero, kind_given, low_byte, Objects, pointer_comparison, pointer_difference, loaded_value, moved_pointer, value_stored, moved_by, operator_applied, as_number, converted_number}
use Rattle.cbi_base.specs.Words.{has_operand_kinds, truth_of}
use Rattle.cbi_base.specs.declared.operators.Binary.{Binary}
use Rattle.cbi_base.specs.declared.outcome.Outcome.TheVariants.{Trapped, CutOutput}
use Rattle.cbi_base.specs.declared.scalar.Kind.{Kind}
use Rattle.cbi_base.specs.declared.scalar.Kind.TheVariants.{Int}
use Rattle.cbi_base.specs.declared.scalar.Scalar.{Scalar}
use Rattle.cbi_base.specs.declared.scalar.Scalar.TheVariants.{Number, Place, Null, Undefined}
use Rattle.cbi_base.specs.declared.scalar.Want.TheVariants as want
use Rattle.cbi_base.specs.declared.trap.Trap.{Trap}
use Rattle.cbi_base.specs.declared.trap.Trap.TheVariants as trap
use Rattle.flow.specs.declared.site.Slot.{Slot}
use Rattle.flow.specs.declared.site.Slot.TheVariants as slot
use Rattle.flow.specs.Truths.{seen_at_site}
use Rattle.c_meaning.specs.declared.conversion.Conversion.{Conversion}
use Rattle.c_meaning.specs.declared.conversion.Conversion.TheVariants.{Keep, To, Misfit}
use Rattle.c_meaning.specs.declared.operation.Operation.{Operation}
use Rattle.c_meaning.specs.declared.operation.Operation.TheVariants.{Numbers, MoveLeft, MoveRight, Span, Ordered, Wrong}
use Rattle.c_meaning.specs.declared.value_type.ValueType.{ValueType}
use Rattle.c_meaning.specs.declared.value_type.ValueType.TheVariants as type
use Rattle.c_meaning.specs.Words.{as_wanted, kind_conversion, conversion, conversion_result, defined_scalar, handed_scalar, load_at, Facts, Setting, counted_value, flagged_value, left_kind}
use Rattle.c_meaning.specs.Words.{operation_result, right_kind, type_given, next_byte, put_printed, put_byte, put_format, put_string, stop_or, put_bytes, assigned_at, compound_result_stored}
use Rattle.c_meaning.specs.Words.{member_place, object_place, one_beside, pointed_place, step_operation, store_at, stepped_value, stepped_behind, unless_zero}
use Rattle.c_meaning.specs.Words.{variable, one_kind, visited_truth, site_list, observed_value, truth_value, sites_visited, world_with_seen, Go, Stop, answer_or_trap, bind, chosen_part, stuck_run}
use Rattle.c_meaning_laws.proofs.Kept.{Answers, Any, Closed, Keeps, answers, answers_bind, by_state, changes, chosen, gives, seq, stops}

-- the objects that a text names by itself: its globals and its strings, and the variables of the running function
pub record StaticsOwn (Own : ℕ → Type 0) (facts : Facts) : Type 0 where
  pub globals : (token index : ℕ) → facts.slot_at token ≡ Some (slot.Global index) → Own index
  pub texts : (token number : ℕ) → facts.text_at token ≡ Some number → Own (facts.statics.globals + number)

abbrev pub LocalsOwn : (ℕ → Type 0) → Locals → Type 0
LocalsOwn Own locals = (index number : ℕ) → local_at index locals ≡ Some number → Own number

module _ {Q : Scalar → Type 0} {Own : ℕ → Type 0} {I : Objects → Type 0} (c : Closed Q Own I) where
  pub stuck_kept : {A : Type 0} {P : A → Type 0} → Keeps I P stuck_run
  stuck_kept = stops (Trapped trap.Internal)

  -- conversions
  pub number_kept : (kind : Kind) (r : Result ℤ Trap) → Answers Q (as_number kind r)
  number_kept kind (Ok value) = c.numbers kind value
  number_kept kind (Err t) = tt

  converted_kept : (kind : Kind) (v : Scalar) → Answers Q (converted_number kind v)
  unfolding converted_number
  converted_kept kind (Number from value) = c.numbers kind _
  converted_kept kind v = tt

  converts_kept : (o : Conversion) (v : Scalar) → Q v → Answers Q (conversion_result o v)
  converts_kept Keep v h = h
  converts_kept (To kind) v h = converted_kept kind v
  converts_kept Misfit v h = tt

  pub wanted_kept : (o : Conversion) (v : Scalar) → Q v → Keeps I Q (as_wanted o v)
  wanted_kept o v h = answers (λ w. conversion_result o v) (λ w a. converts_kept o v h)

  defined_kept : (v : Scalar) → Q v → Answers Q (defined_scalar v)
  defined_kept Undefined h = tt
  defined_kept v h = h

  pub handed_kept : (of : Option ValueType) (v : Scalar) → Q v → Keeps I Q (handed_scalar of v)
  handed_kept (Some (type.Number kind)) v h = answers (λ w. converted_number kind v) (λ w a. converted_kept kind v)
  handed_kept (Some (type.Pointer size)) v h = answers (λ w. defined_scalar v) (λ w a. defined_kept v h)
  handed_kept of v h = stuck_kept

  -- loads and operations
  pub load_kept : (of : Option ValueType) (p : Scalar) → Q p → Keeps I Q (load_at of p)
  load_kept (Some (type.Number kind)) p h = answers (λ w. loaded_value (want.Number kind) p w.objects) (λ w a. c.loads (want.Number kind) p w.objects h a)
  load_kept (Some (type.Pointer size)) p h = answers (λ w. loaded_value want.Pointer p w.objects) (λ w a. c.loads want.Pointer p w.objects h a)
  load_kept (Some (type.Array size)) p h = gives p h
  load_kept of p h = stuck_kept

  given_kept : (o : Binary) (b : Bool) (kind : Kind) (left right : ℤ)
      → Answers Q (if b then as_number (kind_given o kind) (binary_value o kind left right) else Err trap.Internal)
  given_kept o true kind left right = number_kept (kind_given o kind) (binary_value o kind left right)
  given_kept o false kind left right = tt

  applied_kept : (o : Binary) (x y : Scalar) → Answers Q (operator_applied o x y)
  unfolding operator_applied
  applied_kept o (Number kind left) (Number other right) = given_kept o (has_operand_kinds o kind other) kind left right
  applied_kept o Undefined y = tt
  applied_kept o (Number kind left) Undefined = tt
  applied_kept o (Number kind left) Null = tt
  applied_kept o (Number kind left) (Place number offset) = tt
  applied_kept o Null Undefined = tt
  applied_kept o Null (Number kind value) = tt
  applied_kept o Null Null = tt
  applied_kept o Null (Place number offset) = tt
  applied_kept o (Place number offset) Undefined = tt
  applied_kept o (Place number offset) (Number kind value) = tt
  applied_kept o (Place number offset) Null = tt
  applied_kept o (Place number offset) (Place other at) = tt

  moved_kept : (size : ℤ) (p by : Scalar) (o : Objects) → Q p → Answers Q (moved_by size p by o)
  unfolding moved_by
  moved_kept size (Number kind value) (Number other n) o h = c.moves (Number kind value) (n *ℤ size) o h
  moved_kept size (Place number offset) (Number other n) o h = c.moves (Place number offset) (n *ℤ size) o h
  moved_kept size Null (Number other n) o h = c.moves Null (n *ℤ size) o h
  moved_kept size Undefined by o h = tt
  moved_kept size (Number kind value) Undefined o h = tt
  moved_kept size (Number kind value) (Place number offset) o h = tt
  moved_kept size (Number kind value) Null o h = tt
  moved_kept size (Place number offset) Undefined o h = tt
  moved_kept size (Place number offset) (Place k l) o h = tt
  moved_kept size (Place number offset) Null o h = tt
  moved_kept size Null Undefined o h = tt
  moved_kept size Null (Place number offset) o h = tt
  moved_kept size Null Null o h = tt

  counted_kept : (r : Result ℤ Trap) → Answers Q (counted_value r)
  counted_kept (Ok count) = c.numbers Int count
  counted_kept (Err t) = tt

  flagged_kept : (r : Result Bool Trap) → Answers Q (flagged_value r)
  flagged_kept (Ok holds) = c.numbers Int _
  flagged_kept (Err t) = tt

  operation_kept : (o : Operation) (x y : Scalar) (objects : Objects) → Q x → Q y → Answers Q (operation_result o x y objects)
  unfolding operation_result
  operation_kept (Numbers o left right) x y objects h k =
      answers_bind Q Q (conversion_result (kind_conversion left (left_kind o left right)) x) _ (converts_kept (kind_conversion left (left_kind o left right)) x h) (λ a _.
      answers_bind Q Q (conversion_result (kind_conversion right (right_kind o left right)) y) _ (converts_kept (kind_conversion right (right_kind o left right)) y k) (λ b _.
      applied_kept o a b))
  operation_kept (MoveLeft size) x y objects h k = moved_kept size x y objects h
  operation_kept (MoveRight size) x y objects h k = moved_kept size y x objects k
  operation_kept (Span size) x y objects h k = counted_kept (pointer_difference x y size objects)
  operation_kept (Ordered o) x y objects h k = flagged_kept (pointer_comparison o x y objects)
  operation_kept Wrong x y objects h k = tt

  pub operate_kept : (o : Operation) (x y : Scalar) → Q x → Q y → Keeps I Q (λ w. answer_or_trap (operation_result o x y w.objects) w)
  operate_kept o x y h k = answers (λ w. operation_result o x y w.objects) (λ w a. operation_kept o x y w.objects h k)

  -- places
  pub member_kept : (offset : Option ℕ) (p : Scalar) → Q p → Keeps I Q (member_place offset p)
  member_kept None p h = stuck_kept
  member_kept (Some offset) p h = answers (λ w. moved_pointer p (pos offset) w.objects) (λ w a. c.moves p (pos offset) w.objects h)

  unless_kept : (b : Bool) (v : Scalar) → Q v → Answers Q (unless_zero b v)
  unless_kept true v h = tt
  unless_kept false v h = h

  pub pointed_kept : (v : Scalar) → Q v → Answers Q (pointed_place v)
  pointed_kept Undefined h = tt
  pointed_kept Null h = tt
  pointed_kept (Number kind value) h = unless_kept (is_zero value) (Number kind value) h
  pointed_kept (Place number offset) h = h

  pub store_kept : (p v : Scalar) → Q p → Q v → Keeps I Q (store_at p v)
  store_kept p v h k =
      seq (answers (λ w. value_stored p v w.objects) (λ w a. c.stores p v w.objects h k a)) (λ objects a.
      changes (λ w. v) (λ w. record w { objects = objects }) (λ w _. (k, a)))

  pub truth_kept : (v : Scalar) → Keeps I Any (truth_value v)
  truth_kept v = answers (λ w. truth_of v) (λ w a. any_answer (truth_of v))
    where
      any_answer : (r : Result Bool Trap) → Answers Any r
      any_answer (Ok b) = tt
      any_answer (Err t) = tt

  -- output
  written_by : (b : Bool) (bytes some : List ℕ)
      → Keeps I Any (λ w. if b then Go (tt {0}) (record w { output = w.output ++ bytes }) else Stop CutOutput (record w { output = w.output ++ some }))
  written_by true bytes some = record { at = λ w a. (tt, a) }
  written_by false bytes some = record { at = λ w a. tt }

  pub written_kept : (bytes : List ℕ) → Keeps I Any (put_bytes bytes)
  written_kept bytes = record {
    at = λ w a. (written_by (nat_le (length w.output + length bytes) output_limit) bytes (take (output_limit - length w.output) bytes)).at w a;
  }

  stop_kept : (t : Option Trap) → Keeps I Any (stop_or t)
  stop_kept None = gives tt tt
  stop_kept (Some t) = stops (Trapped t)

  print_kept : (p : Printed) → Keeps I Any (put_printed p)
  print_kept p = seq (written_kept p.bytes) (λ _ _. stop_kept p.stop)

  byte_kept : (input : List ℕ) → Keeps I Q (next_byte input)
  byte_kept [] = gives (Number Int (negsuc 0)) (c.numbers Int (negsuc 0))
  byte_kept (byte ∷ rest) = changes (λ w. Number Int (pos byte)) (λ w. record w { input = rest }) (λ w a. (c.numbers Int (pos byte), a))

  pub next_kept : Keeps I Q (λ w. next_byte w.input w)
  next_kept = by_state (λ w. w.input) next_byte byte_kept

  pub put_byte_kept : (v : Scalar) → Keeps I Q (put_byte v)
  put_byte_kept Undefined = stops (Trapped trap.Undefined)
  put_byte_kept (Number Int value) = seq (written_kept (low_byte value ∷ [])) (λ _ _. gives (Number Int (pos (low_byte value))) (c.numbers Int _))
  put_byte_kept v = stuck_kept

  string_kept : (p : Scalar) → Keeps I Q (λ w. bind (put_printed (then_print (string_at p w.objects) (bytes_printed (10 ∷ []))) w) (λ _. Go (Number Int (pos 0))))
  string_kept p =
      seq (by_state (λ w. w.objects) (λ o. put_printed (then_print (string_at p o) (bytes_printed (10 ∷ []))))
      (λ o. print_kept (then_print (string_at p o) (bytes_printed (10 ∷ []))))) (λ _ _. gives (Number Int (pos 0)) (c.numbers Int (pos 0)))

  pub put_string_kept : (p : Scalar) → Keeps I Q (put_string p)
  put_string_kept Undefined = stops (Trapped trap.Undefined)
  put_string_kept (Number kind value) = stuck_kept
  put_string_kept (Place number offset) = string_kept (Place number offset)
  put_string_kept Null = string_kept Null

  pub put_format_kept : (format : List ℕ) (values : List Scalar) → Keeps I Any (put_format format values)
  put_format_kept format values =
      by_state (λ w. w.objects) (λ o. chosen_part (take_values (pieces_of format) values) (put_printed (printed_format (pieces_of format) values o)) stuck_run)
      (λ o. chosen (take_values (pieces_of format) values) (print_kept (printed_format (pieces_of format) values o)) stuck_kept)

  module _ (s : Setting) where
    object_kept : (number : Option ℕ) → ((n : ℕ) → number ≡ Some n → Own n) → Keeps I Q (object_place number)
    object_kept None own = stuck_kept
    object_kept (Some number) own = gives (Place number 0) (c.places number 0 (own number refl))

    pub slot_kept : (at : Option Slot) → ((index : ℕ) → at ≡ Some (slot.Global index) → Own index) → LocalsOwn Own s.locals → Keeps I Q (variable s at)
    slot_kept None own locals = stuck_kept
    slot_kept (Some (slot.Local index)) own locals = object_kept (local_at index s.locals) (locals index)
    slot_kept (Some (slot.Global index)) own locals = gives (Place index 0) (c.places index 0 (own index refl))

    pub variable_kept : (token : ℕ) → StaticsOwn Own s.facts → LocalsOwn Own s.locals → Keeps I Q (variable s (s.facts.slot_at token))
    variable_kept token statics locals = slot_kept (s.facts.slot_at token) (statics.globals token) locals

    observed_kept : (site : ℕ) (v : Scalar) → Q v → Keeps I Q (observed_value s site v)
    observed_kept site v h =
        seq {P = Any} (answers (λ w. seen_at_site (s.sites.site site) (Some v) s.locals w.objects)
        (λ w a. any_seen (seen_at_site (s.sites.site site) (Some v) s.locals w.objects)))
        (λ seen _. changes (λ w. v) (λ w. world_with_seen site seen w) (λ w a. (h, a)))
      where
        any_seen : {A : Type 0} (r : Result A Trap) → Answers Any r
        any_seen (Ok x) = tt
        any_seen (Err t) = tt

    pub visited_kept : (sites : List ℕ) (v : Scalar) → Q v → Keeps I Q (sites_visited s sites v)
    visited_kept [] v h = gives v h
    visited_kept (site ∷ more) v h = seq (observed_kept site v h) (visited_kept more)

    pub decided_kept : (token : ℕ) (v : Scalar) → Q v → Keeps I Any (visited_truth s token v)
    decided_kept token v h = seq (visited_kept (site_list (s.sites.branch_at token)) v h) (λ x _. truth_kept x)

    pub assigned_kept : (token : ℕ) (p v : Scalar) → Q p → Q v → Keeps I Q (assigned_at s token p v)
    assigned_kept token p v h k = seq (store_kept p v h k) (visited_kept (s.sites.pairs_at token))

    pub changed_kept : (token : ℕ) (of : Option ValueType) (o : Operation) (p right : Scalar) → Q p → Q right → Keeps I Q (compound_result_stored s token of o p right)
    changed_kept token of o p right h k =
        seq (load_kept of p h) (λ old j. seq (operate_kept o old right j k) (λ x i.
        seq (wanted_kept (conversion (type_given o of) of) x i) (λ y l. assigned_kept token p y h l)))

    pub stepped_kept : (is_up : Bool) (token : ℕ) (of : Option ValueType) (p : Scalar) → Q p → Keeps I Q (stepped_value s is_up token of p)
    stepped_kept is_up token of p h = changed_kept token of (step_operation is_up of) p (one_beside s of) h (c.numbers (one_kind of) (pos 1))

    pub stepped_behind_kept : (is_up : Bool) (token : ℕ) (of : Option ValueType) (p : Scalar) → Q p → Keeps I Q (stepped_behind s is_up token of p)
    stepped_behind_kept is_up token of p h =
        seq (load_kept of p h) (λ old j. seq (operate_kept (step_operation is_up of) old (one_beside s of) j (c.numbers (one_kind of) (pos 1))) (λ x i.
        seq (wanted_kept (conversion (type_given (step_operation is_up of) of) of) x i) (λ z l. seq (assigned_kept token p z h l) (λ _ _. gives old j))))

-- Values, places, visits and output, where more turns are left: none of them looks at turns.
use Rattle.std.proofs.Common.{◌≡◌, ℕ, ◌+◌, ◌++◌, ◌-◌, Bool, true, false, pos, negsuc, nat_le, length, take, List, [], ◌∷◌, Option, Some, None, refl, sym, subst, arith}
use Rattle.std.specs.Prelude.{if◌then◌else◌}
use Rattle.cbi_base.specs.Words.{Printed, pieces_of, printed_format, string_at, take_values, then_print, bytes_printed, output_limit, local_at, low_byte, Objects}
use Rattle.cbi_base.specs.Words.{loaded_value, moved_pointer, value_stored, converted_number, truth_of}
use Rattle.cbi_base.specs.declared.outcome.Outcome.TheVariants.{Trapped, CutOutput}
use Rattle.cbi_base.specs.declared.scalar.Kind.TheVariants.{Int}
use Rattle.cbi_base.specs.declared.scalar.Scalar.{Scalar}
use Rattle.cbi_base.specs.declared.scalar.Scalar.TheVariants.{Number, Place, Null, Undefined}
use Rattle.cbi_base.specs.declared.scalar.Want.TheVariants as want
use Rattle.cbi_base.specs.declared.trap.Trap.{Trap}
use Rattle.cbi_base.specs.declared.trap.Trap.TheVariants as trap
use Rattle.flow.specs.declared.site.Slot.{Slot}
use Rattle.flow.specs.declared.site.Slot.TheVariants as slot
use Rattle.flow.specs.Truths.{seen_at_site}
use Rattle.c_meaning.specs.declared.conversion.Conversion.{Conversion}
use Rattle.c_meaning.specs.declared.operation.Operation.{Operation}
use Rattle.c_meaning.specs.declared.value_type.ValueType.{ValueType}
use Rattle.c_meaning.specs.declared.value_type.ValueType.TheVariants as type
use Rattle.c_meaning.specs.Words.{as_wanted, conversion, conversion_result, defined_scalar, handed_scalar, load_at, Setting, operation_result, type_given, next_byte, put_printed, put_byte}
use Rattle.c_meaning.specs.Words.{put_format, put_string, stop_or, put_bytes, assigned_at, compound_result_stored, member_place, object_place, one_beside, step_operation}
use Rattle.c_meaning.specs.Words.{store_at, stepped_value, stepped_behind, variable, visited_truth, site_list, observed_value, truth_value, sites_visited, world_with_seen, World}
use Rattle.c_meaning.specs.Words.{Out, Go, Stop, Caller, answer_or_trap, bind, chosen_part, no_effect, stuck_run}
use Rattle.c_meaning_laws.proofs.Longer.{Longer, Matches, answers, changes, chosen, gives, longer, no_more, same_left, seq, stops}

module _ (k : ℕ) where
  pub stuck_longer : (A : Type 0) → Longer k {A = A} stuck_run stuck_run
  stuck_longer A = stops k A (Trapped trap.Internal)

  pub nothing_longer : Longer k no_effect no_effect
  nothing_longer = gives k tt

  -- a part that changes the objects alone
  pub stores : (objects : Objects) → Longer k (λ w. Go (tt {0}) (record w { objects = objects })) (λ w. Go (tt {0}) (record w { objects = objects }))
  stores objects = changes k (λ w. tt {0}) (λ w. record w { objects = objects }) (λ w. refl) (λ w. refl)
      (λ w. same_left w _ refl refl refl)

  pub load_longer : (of : Option ValueType) (p : Scalar) → Longer k (load_at of p) (load_at of p)
  load_longer (Some (type.Number kind)) p = answers k (λ w. loaded_value (want.Number kind) p w.objects) (λ w. refl)
  load_longer (Some (type.Pointer size)) p = answers k (λ w. loaded_value want.Pointer p w.objects) (λ w. refl)
  load_longer (Some (type.Array size)) p = gives k p
  load_longer of p = stuck_longer Scalar

  pub wanted_longer : (c : Conversion) (v : Scalar) → Longer k (as_wanted c v) (as_wanted c v)
  wanted_longer c v = answers k (λ w. conversion_result c v) (λ w. refl)

  pub handed_longer : (of : Option ValueType) (v : Scalar) → Longer k (handed_scalar of v) (handed_scalar of v)
  handed_longer (Some (type.Number kind)) v = answers k (λ w. converted_number kind v) (λ w. refl)
  handed_longer (Some (type.Pointer size)) v = answers k (λ w. defined_scalar v) (λ w. refl)
  handed_longer of v = stuck_longer Scalar

  pub operate_longer : (o : Operation) (x y : Scalar) → Longer k (λ w. answer_or_trap (operation_result o x y w.objects) w) (λ w. answer_or_trap (operation_result o x y w.objects) w)
  operate_longer o x y = answers k (λ w. operation_result o x y w.objects) (λ w. refl)

  pub object_longer : (number : Option ℕ) → Longer k (object_place number) (object_place number)
  object_longer None = stuck_longer Scalar
  object_longer (Some number) = gives k (Place number 0)

  pub member_longer : (offset : Option ℕ) (p : Scalar) → Longer k (member_place offset p) (member_place offset p)
  member_longer None p = stuck_longer Scalar
  member_longer (Some offset) p = answers k (λ w. moved_pointer p (pos offset) w.objects) (λ w. refl)

  pub store_longer : (p v : Scalar) → Longer k (store_at p v) (store_at p v)
  store_longer p v =
      seq k (answers k (λ w. value_stored p v w.objects) (λ w. refl)) (λ objects.
      changes k (λ w. v) (λ w. record w { objects = objects }) (λ w. refl) (λ w. refl)
      (λ w. same_left w _ refl refl refl))

  pub truth_longer : (v : Scalar) → Longer k (truth_value v) (truth_value v)
  truth_longer v = answers k (λ w. truth_of v) (λ w. refl)

  -- output
  written_by : (b : Bool) (bytes some : List ℕ)
      → Longer k (λ w. if b then Go (tt {0}) (record w { output = w.output ++ bytes }) else Stop CutOutput (record w { output = w.output ++ some }))
      (λ w. if b then Go (tt {0}) (record w { output = w.output ++ bytes }) else Stop CutOutput (record w { output = w.output ++ some }))
  written_by true bytes some = record {
    grows = λ w. record { extends = record { output = (bytes, refl); seen = no_more w.seen }; turns = omega arith };
    same = λ w. refl;
  }
  written_by false bytes some = record {
    grows = λ w. record { extends = record { output = (some, refl); seen = no_more w.seen }; turns = omega arith };
    same = λ w. refl;
  }

  pub written_longer : (bytes : List ℕ) → Longer k (put_bytes bytes) (put_bytes bytes)
  written_longer bytes = record {
    grows = λ w. (written_by (nat_le (length w.output + length bytes) output_limit) bytes (take (output_limit - length w.output) bytes)).grows w;
    same = λ w. (written_by (nat_le (length w.output + length bytes) output_limit) bytes (take (output_limit - length w.output) bytes)).same w;
  }

  pub stop_longer : (t : Option Trap) → Longer k (stop_or t) (stop_or t)
  stop_longer None = gives k tt
  stop_longer (Some t) = stops k (Unit {0}) (Trapped t)

  pub print_longer : (p : Printed) → Longer k (put_printed p) (put_printed p)
  print_longer p = seq k (written_longer p.bytes) (λ _. stop_longer p.stop)

  -- a part that is chosen by what a state has whatever turns are left
  pub by_state : {A B : Type 0} (f : World → B) (m more : B → World → Out A) → ((w : World) → f (longer k w) ≡ f w) → ((x : B) → Longer k (m x) (more x))
      → Longer k (λ w. m (f w) w) (λ w. more (f w) w)
  by_state f m more same h = record {
    grows = λ w. (h (f w)).grows w;
    same = λ w. subst (λ x. Matches k (m (f w) w) (more x (longer k w))) (sym (same w)) ((h (f w)).same w);
  }

  byte_longer : (input : List ℕ) → Longer k (next_byte input) (next_byte input)
  byte_longer [] = gives k (Number Int (negsuc 0))
  byte_longer (byte ∷ rest) = changes k (λ w. Number Int (pos byte)) (λ w. record w { input = rest }) (λ w. refl) (λ w. refl)
      (λ w. same_left w _ refl refl refl)

  pub next_longer : Longer k (λ w. next_byte w.input w) (λ w. next_byte w.input w)
  next_longer = by_state (λ w. w.input) next_byte next_byte (λ w. refl) byte_longer

  pub put_byte_longer : (v : Scalar) → Longer k (put_byte v) (put_byte v)
  put_byte_longer Undefined = stops k Scalar (Trapped trap.Undefined)
  put_byte_longer (Number Int value) = seq k (written_longer (low_byte value ∷ [])) (λ _. gives k (Number Int (pos (low_byte value))))
  put_byte_longer v = stuck_longer Scalar

  string_longer : (p : Scalar) → Longer k (λ w. bind (put_printed (then_print (string_at p w.objects) (bytes_printed (10 ∷ []))) w) (λ _. Go (Number Int (pos 0))))
      (λ w. bind (put_printed (then_print (string_at p w.objects) (bytes_printed (10 ∷ []))) w) (λ _. Go (Number Int (pos 0))))
  string_longer p =
      seq k (by_state (λ w. w.objects) (λ o. put_printed (then_print (string_at p o) (bytes_printed (10 ∷ [])))) (λ o. put_printed (then_print (string_at p o) (bytes_printed (10 ∷ []))))
      (λ w. refl)
      (λ o. print_longer (then_print (string_at p o) (bytes_printed (10 ∷ []))))) (λ _. gives k (Number Int (pos 0)))

  pub put_string_longer : (p : Scalar) → Longer k (put_string p) (put_string p)
  put_string_longer Undefined = stops k Scalar (Trapped trap.Undefined)
  put_string_longer (Number kind value) = stuck_longer Scalar
  put_string_longer (Place number offset) = string_longer (Place number offset)
  put_string_longer Null = string_longer Null

  pub put_format_longer : (format : List ℕ) (values : List Scalar) → Longer k (put_format format values) (put_format format values)
  put_format_longer format values =
      by_state (λ w. w.objects) (λ o. chosen_part (take_values (pieces_of format) values) (put_printed (printed_format (pieces_of format) values o)) stuck_run)
      (λ o. chosen_part (take_values (pieces_of format) values) (put_printed (printed_format (pieces_of format) values o)) stuck_run) (λ w. refl)
      (λ o. chosen k (take_values (pieces_of format) values) (print_longer (printed_format (pieces_of format) values o)) (stuck_longer (Unit {0})))

  module _ (s : Setting) (call : Caller) where
    abbrev t : Setting
    t = record s { call = call }

    pub variable_longer : (at : Option Slot) → Longer k (variable s at) (variable t at)
    variable_longer None = stuck_longer Scalar
    variable_longer (Some (slot.Local index)) = object_longer (local_at index s.locals)
    variable_longer (Some (slot.Global index)) = gives k (Place index 0)

    observed_longer : (site : ℕ) (v : Scalar) → Longer k (observed_value s site v) (observed_value t site v)
    observed_longer site v =
        seq k (answers k (λ w. seen_at_site (s.sites.site site) (Some v) s.locals w.objects) (λ w. refl)) (λ seen.
        changes k (λ w. v) (λ w. world_with_seen site seen w) (λ w. refl) (λ w. refl)
        (λ w. record { extends = record { output = no_more w.output; seen = (_, refl) }; turns = omega arith }))

    pub visited_longer : (sites : List ℕ) (v : Scalar) → Longer k (sites_visited s sites v) (sites_visited t sites v)
    visited_longer [] v = gives k v
    visited_longer (site ∷ more) v = seq k (observed_longer site v) (visited_longer more)

    pub decided_longer : (token : ℕ) (v : Scalar) → Longer k (visited_truth s token v) (visited_truth t token v)
    decided_longer token v = seq k (visited_longer (site_list (s.sites.branch_at token)) v) truth_longer

    pub assigned_longer : (token : ℕ) (p v : Scalar) → Longer k (assigned_at s token p v) (assigned_at t token p v)
    assigned_longer token p v = seq k (store_longer p v) (visited_longer (s.sites.pairs_at token))

    pub changed_longer : (token : ℕ) (of : Option ValueType) (o : Operation) (p right : Scalar)
        → Longer k (compound_result_stored s token of o p right) (compound_result_stored t token of o p right)
    changed_longer token of o p right =
        seq k (load_longer of p) (λ old. seq k (operate_longer o old right) (λ x.
        seq k (wanted_longer (conversion (type_given o of) of) x) (assigned_longer token p)))

    pub stepped_longer : (is_up : Bool) (token : ℕ) (of : Option ValueType) (p : Scalar) → Longer k (stepped_value s is_up token of p) (stepped_value t is_up token of p)
    stepped_longer is_up token of p = changed_longer token of (step_operation is_up of) p (one_beside s of)

    pub stepped_behind_longer : (is_up : Bool) (token : ℕ) (of : Option ValueType) (p : Scalar)
        → Longer k (stepped_behind s is_up token of p) (stepped_behind t is_up token of p)
    stepped_behind_longer is_up token of p =
        seq k (load_longer of p) (λ old. seq k (operate_longer (step_operation is_up of) old (one_beside s of)) (λ x.
        seq k (wanted_longer (conversion (type_given (step_operation is_up of) of) of) x) (λ z. seq k (assigned_longer token p z) (λ _. gives k old))))

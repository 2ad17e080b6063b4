-- Operators and calls keep what holds of all values and of the objects.
use Rattle.std.proofs.Common.{ℕ, ℤ, neg_ℤ, zero, suc, ◌==◌, ◌++◌, Bool, true, false, pos, length, List, [], ◌∷◌, Option, Some, None, Result, Ok, Err}
use Rattle.std.proofs.Common.{subst, sym}
use Rattle.std.proofs.lemmas.List.{reverse-append}
use Rattle.std.specs.Prelude.{if◌then◌else◌, unsigned_abs, reverse}
use Rattle.std.specs.List.{AllByRecursion, list_all}
use Rattle.cbi_base.specs.Words.{pieces_of, complement, fitted_value, Objects, object_allocated, object_released, applied_to_one, as_promoted, logical_negation, truth_of, is_defined_value}
use Rattle.cbi_base.specs.declared.operators.Unary.{Unary}
use Rattle.cbi_base.specs.declared.operators.Unary.TheVariants as unary
use Rattle.cbi_base.specs.declared.outcome.Outcome.TheVariants.{Trapped, Ended}
use Rattle.cbi_base.specs.declared.scalar.Kind.{Kind}
use Rattle.cbi_base.specs.declared.scalar.Kind.TheVariants.{Char, Int, Unsigned}
use Rattle.cbi_base.specs.declared.scalar.Scalar.{Scalar}
use Rattle.cbi_base.specs.declared.scalar.Scalar.TheVariants.{Number, Place, Null, Undefined}
use Rattle.cbi_base.specs.declared.trap.Trap.{Trap}
use Rattle.cbi_base.specs.declared.trap.Trap.TheVariants as trap
use Rattle.c_types_rules.specs.declared.library.Library.{Library}
use Rattle.c_types_rules.specs.declared.library.Library.TheVariants as library
use Rattle.c_syntax.specs.declared.expr.PrefixOperator.{PrefixOperator}
use Rattle.c_syntax.specs.declared.expr.PrefixOperator.TheVariants as prefix
use Rattle.flow.specs.declared.program.Text.{Text}
use Rattle.c_meaning.specs.declared.value_type.Called.{Called}
use Rattle.c_meaning.specs.declared.value_type.Called.TheVariants as called
use Rattle.c_meaning.specs.declared.value_type.ValueType.{ValueType}
use Rattle.c_meaning.specs.declared.value_type.ValueType.TheVariants as type
use Rattle.c_meaning.specs.Words.{Argument, Arguments, all_defined, space_allocated, as_type, assert, call_function, call_library, call_sense, exit, print_by, space_released}
use Rattle.c_meaning.specs.Words.{call_result_visited, types_taken, with_result, as_used, conversion, Sense, arm_as, arm_effect, arm_value, as_flag, assigned_value, cast_sense, comma_sense}
use Rattle.c_meaning.specs.Words.{conditional, sense_of_effect, handed_value, is_other_pointer, is_struct_value, value_after_link, null_or, one_operand, sense_of_place, postfixed_sense}
use Rattle.c_meaning.specs.Words.{prefixed_sense, loaded_operand, size_value, place_or_value, sense_of_value, wanted_value, Setting, Signature, flag_value, operation, pointed_place}
use Rattle.c_meaning.specs.Words.{Assignment, Plain, By, Joint, Both, Either, Computes, Unjoined, has_value, site_list, World, Out, Go, Stop, OutDone, bind}
use Rattle.c_meaning_laws.proofs.Kept.{Answers, Any, Closed, Keeps, answers, changes, chosen, done_kept, gives, nothing_kept, seq, stops}
use Rattle.c_meaning_laws.proofs.KeptPlaces.{assigned_kept, changed_kept, decided_kept, handed_kept, load_kept, next_kept, number_kept, operate_kept}
use Rattle.c_meaning_laws.proofs.KeptPlaces.{pointed_kept}
use Rattle.c_meaning_laws.proofs.KeptPlaces.{put_byte_kept, put_format_kept, put_string_kept, stepped_kept, stuck_kept, truth_kept, visited_kept, wanted_kept}

-- an expression whose value, place and effect keep it
pub record SenseKept (Q : Scalar → Type 0) (I : Objects → Type 0) (m : Sense) : Type 0 where
  pub value : Keeps I Q m.value
  pub place : Keeps I Q m.place
  pub effect : Keeps I Any m.effect

-- values in the other order
each_appended : (Q : Scalar → Type 0) (xs ys : List Scalar) → AllByRecursion Q xs → AllByRecursion Q ys → AllByRecursion Q (xs ++ ys)
each_appended Q [] ys h k = k
each_appended Q (x ∷ xs) ys h k = (h.0, each_appended Q xs ys h.1 k)

pub each_reversed : (Q : Scalar → Type 0) (xs : List Scalar) → AllByRecursion Q xs → AllByRecursion Q (reverse xs)
each_reversed Q [] h = tt
each_reversed Q (x ∷ xs) h =
    subst (AllByRecursion Q) (sym (reverse-append (x ∷ []) xs)) (each_appended Q (reverse xs) (x ∷ []) (each_reversed Q xs h.1) (h.0, tt))

module _ {Q : Scalar → Type 0} {Own : ℕ → Type 0} {I : Objects → Type 0} (c : Closed Q Own I) where
  pub valued_kept : {m : World → Out Scalar} → Keeps I Q m → SenseKept Q I (sense_of_value m)
  valued_kept h = record { value = h; place = stuck_kept c; effect = done_kept h }

  pub effected_kept : {m : World → OutDone} → Keeps I Any m → SenseKept Q I (sense_of_effect m)
  effected_kept h = record { value = stuck_kept c; place = stuck_kept c; effect = h }

  pub placed_kept : {m : World → Out Scalar} (of : Option ValueType) → Keeps I Q m → SenseKept Q I (sense_of_place of m)
  placed_kept of h = record {
    value = seq h (load_kept c of);
    place = h;
    effect = seq h (λ v k. chosen (is_struct_value of) nothing_kept (done_kept (load_kept c of v k)));
  }

  pub null_kept : (b : Bool) (m : Sense) → SenseKept Q I m → Keeps I Q (null_or b m)
  null_kept true m h = gives Null c.null
  null_kept false m h = record { at = h.value.at }

  pub wanted_value_kept : (b : Bool) (have want : Option ValueType) (m : Sense) → SenseKept Q I m → Keeps I Q (wanted_value b have want m)
  wanted_value_kept true have want m h = gives Null c.null
  wanted_value_kept false have want m h = seq h.value (wanted_kept c (conversion have want))

  pub handed_value_kept : (b : Bool) (want : Option ValueType) (m : Sense) → SenseKept Q I m → Keeps I Q (handed_value b want m)
  handed_value_kept true want m h = gives Null c.null
  handed_value_kept false want m h = seq h.value (handed_kept c want)

  arm_as_kept : (b : Bool) (have want : Option ValueType) (v : Scalar) → Q v → Keeps I Q (arm_as b have want v)
  arm_as_kept true have want v h = handed_kept c want v h
  arm_as_kept false have want v h = wanted_kept c (conversion have want) v h

  pub arm_kept : (b : Bool) (have want : Option ValueType) (m : Sense) → SenseKept Q I m → Keeps I Q (arm_value b have want m)
  arm_kept true have want m h = gives Null c.null
  arm_kept false have want m h = seq h.value (arm_as_kept (is_other_pointer (as_used have) want) have want)

  pub arm_effect_kept : (b : Bool) (have want : Option ValueType) (m : Sense) → SenseKept Q I m → Keeps I Any (arm_effect b have want m)
  arm_effect_kept b have (Some type.Void) m h = record { at = h.effect.at }
  arm_effect_kept b have want m h = done_kept (arm_kept b have want m h)

  cast_value : (b : Bool) (want : Option ValueType) (m : Sense) → SenseKept Q I m → SenseKept Q I (sense_of_value (handed_value b want m))
  cast_value b want m h = valued_kept (handed_value_kept b want m h)

  pub cast_kept : (b : Bool) (want : Option ValueType) (m : Sense) → SenseKept Q I m → SenseKept Q I (cast_sense b want m)
  cast_kept b (Some type.Void) m h = effected_kept h.effect
  cast_kept b want m h = cast_value b want m h

  pub comma_kept : (n : ℕ) (m rest : Sense) → SenseKept Q I m → SenseKept Q I rest → SenseKept Q I (comma_sense n m rest)
  comma_kept zero m rest h k = h
  comma_kept (suc n) m rest h k = record { value = seq h.effect (λ _ _. k.value); place = stuck_kept c; effect = seq h.effect (λ _ _. k.effect) }

  flag_kept : {m : World → Out Scalar} → Keeps I Q m → Keeps I Q (as_flag m)
  flag_kept h = seq h (λ v _. seq (truth_kept c v) (λ holds _. gives (flag_value holds) (c.numbers Int _)))

  pub settled_kept : (b : Bool) (of : Option ValueType) (v : Scalar) → Q v → Keeps I Q (loaded_operand b of v)
  settled_kept true of v h = load_kept c of v h
  settled_kept false of v h = gives v h

  pub spot_kept : (b : Bool) (m : Sense) → SenseKept Q I m → Keeps I Q (place_or_value b m)
  spot_kept true m h = h.place
  spot_kept false m h = h.value

  pub postfixed_kept : {m : World → Out Scalar} (b : Bool) (of : Option ValueType) → Keeps I Q m → SenseKept Q I (postfixed_sense b of m)
  postfixed_kept true of h = placed_kept of h
  postfixed_kept false of h = valued_kept h

  pub size_kept : (cells : Option ℕ) → SenseKept Q I (size_value cells)
  size_kept None = valued_kept (stuck_kept c)
  size_kept (Some cells) = valued_kept (gives (Number Unsigned (pos cells)) (c.numbers Unsigned (pos cells)))

  promoted_kept : (kind : Kind) (r : Result ℤ Trap) → Answers Q (as_promoted kind r)
  promoted_kept Char r = tt
  promoted_kept Int r = number_kept c Int r
  promoted_kept Unsigned r = number_kept c Unsigned r

  opposite_kept : (r : Result Bool Trap) → Answers Q (logical_negation r)
  opposite_kept (Ok holds) = c.numbers Int _
  opposite_kept (Err t) = tt

  one_kept : (o : Unary) (v : Scalar) → Answers Q (applied_to_one o v)
  unfolding applied_to_one
  one_kept unary.Not v = opposite_kept (truth_of v)
  one_kept unary.Neg (Number kind value) = promoted_kept kind (fitted_value kind (neg_ℤ value))
  one_kept unary.Com (Number kind value) = promoted_kept kind (Ok (complement kind value))
  one_kept unary.Neg Undefined = tt
  one_kept unary.Neg Null = tt
  one_kept unary.Neg (Place number offset) = tt
  one_kept unary.Com Undefined = tt
  one_kept unary.Com Null = tt
  one_kept unary.Com (Place number offset) = tt

  operand_kept : {m : World → Out Scalar} (have want : Option ValueType) (o : Unary) → Keeps I Q m
      → SenseKept Q I (sense_of_value (λ w. bind (m w) (one_operand have want o)))
  operand_kept have want o h =
      valued_kept (seq h (λ v k. seq (wanted_kept c (conversion have want) v k) (λ x _. answers (λ w. applied_to_one o x) (λ w _. one_kept o x))))

  -- calls of the library
  allocate_kept : (v : Scalar) → Keeps I Q (space_allocated v)
  allocate_kept Undefined = stops (Trapped trap.Undefined)
  allocate_kept (Number Unsigned cells) =
      changes (λ w. (object_allocated (unsigned_abs cells) w.objects).0) (λ w. record w { objects = (object_allocated (unsigned_abs cells) w.objects).1 })
      (λ w a. c.allocates (unsigned_abs cells) w.objects a)
  allocate_kept v = stuck_kept c

  release_kept : (p : Scalar) → Q p → Keeps I Any (space_released p)
  release_kept p h =
      seq (answers (λ w. object_released p w.objects) (λ w a. c.releases p w.objects h a)) (λ objects a.
      changes (λ w. tt {0}) (λ w. record w { objects = objects }) (λ w _. (tt, a)))

  exit_kept : (v : Scalar) → Keeps I Any (exit v)
  exit_kept Undefined = stops (Trapped trap.Undefined)
  exit_kept (Number Int status) = stops (Ended status)
  exit_kept v = stuck_kept c

  assert_kept : (b : Bool) → Keeps I Any (assert b)
  assert_kept true = gives tt tt
  assert_kept false = stops (Trapped trap.Assertion)

  defined_by : (b : Bool) (vs : List Scalar) → AllByRecursion Q vs → Keeps I (AllByRecursion Q) (λ w. if b then Go vs w else Stop (Trapped trap.Undefined) w)
  defined_by true vs h = gives vs h
  defined_by false vs h = stops (Trapped trap.Undefined)

  pub all_defined_kept : (vs : List Scalar) → AllByRecursion Q vs → Keeps I (AllByRecursion Q) (all_defined vs)
  all_defined_kept vs h = defined_by (list_all is_defined_value vs) (reverse vs) (each_reversed Q vs h)

  pub print_by_kept : (format : Option Text) (n : ℕ) (arguments : Arguments) → ((types : List ValueType) → Keeps I (AllByRecursion Q) (arguments types))
      → Keeps I Any (print_by format n arguments)
  print_by_kept None n arguments h = stuck_kept c
  print_by_kept (Some format) n arguments h =
      chosen (n == length (types_taken (pieces_of format.bytes)))
      (seq (h (types_taken (pieces_of format.bytes))) (λ vs k. seq (all_defined_kept vs k) (λ us _. put_format_kept c format.bytes us))) (stuck_kept c)

  module _ (s : Setting) where
    pub linked_kept : (j : Joint) (token : ℕ) (left right : Option ValueType) (m : World → Out Scalar) (v : Scalar) → Keeps I Q m → Q v
        → Keeps I Q (value_after_link s j token left right m v)
    linked_kept Both token left right m v h k = seq (decided_kept c s token v k) (λ b _. chosen b (flag_kept h) (gives (flag_value false) (c.numbers Int _)))
    linked_kept Either token left right m v h k = seq (decided_kept c s token v k) (λ b _. chosen b (gives (flag_value true) (c.numbers Int _)) (flag_kept h))
    linked_kept (Computes o) token left right m v h k = seq h (λ x i. operate_kept c (operation o left right) v x k i)
    linked_kept Unjoined token left right m v h k = stuck_kept c

    pub assign_kept : (token : ℕ) (a : Assignment) (b : Bool) (left right : Option ValueType) (goal m : Sense) → SenseKept Q I goal → SenseKept Q I m
        → Keeps I Q (assigned_value s token a b left right goal m)
    assign_kept token Plain b left right goal m h k =
        seq h.place (λ p i. seq (wanted_value_kept b right left m k) (λ v j. assigned_kept c s token p v i j))
    assign_kept token (By o) b left right goal m h k =
        seq h.place (λ p i. seq k.value (λ v j. changed_kept c s token left (operation o left right) p v i j))

    pub conditional_kept : (token : ℕ) (m : Sense) {x y : World → Out Scalar} {a b : World → OutDone} → SenseKept Q I m → Keeps I Q x → Keeps I Q y
        → Keeps I Any a → Keeps I Any b → SenseKept Q I (conditional s token m x y a b)
    conditional_kept token m h i j k l = record {
      value = seq h.value (λ v n. seq (decided_kept c s token v n) (λ holds _. chosen holds i j));
      place = stuck_kept c;
      effect = seq h.value (λ v n. seq (decided_kept c s token v n) (λ holds _. chosen holds k l));
    }

    pub prefixed_kept : (token : ℕ) (o : PrefixOperator) (of : Option ValueType) (cells : Option ℕ) (m : Sense) → SenseKept Q I m
        → SenseKept Q I (prefixed_sense s token o of cells m)
    prefixed_kept token prefix.Increment of cells m h = valued_kept (seq h.place (stepped_kept c s true token of))
    prefixed_kept token prefix.Decrement of cells m h = valued_kept (seq h.place (stepped_kept c s false token of))
    prefixed_kept token prefix.Address of cells m h = valued_kept h.place
    prefixed_kept token prefix.Indirection of cells m h =
        placed_kept (s.facts.type_at token) (seq h.value (λ v k. answers (λ w. pointed_place v) (λ w _. pointed_kept c v k)))
    prefixed_kept token prefix.Plus of cells m h = valued_kept (seq h.value (handed_kept c (s.facts.type_at token)))
    prefixed_kept token prefix.Minus of cells m h = operand_kept of (s.facts.type_at token) unary.Neg h.value
    prefixed_kept token prefix.Complement of cells m h = operand_kept of (s.facts.type_at token) unary.Com h.value
    prefixed_kept token prefix.Not of cells m h =
        valued_kept (seq h.value (λ v _. answers (λ w. applied_to_one unary.Not v) (λ w _. one_kept unary.Not v)))
    prefixed_kept token prefix.SizeOf of cells m h = size_kept cells

    returned_kept : (token : ℕ) {m : World → Out Scalar} → Keeps I Q m → SenseKept Q I (call_result_visited s token m)
    returned_kept token h = valued_kept (seq h (visited_kept c s (site_list (s.sites.return_at token))))

    result_kept : (token : ℕ) (b : Bool) {m : World → Out Scalar} → Keeps I Q m → SenseKept Q I (with_result s token b m)
    result_kept token true h = returned_kept token h
    result_kept token false h = effected_kept (done_kept h)

    module _ (calls : (number : ℕ) (vs : List Scalar) → AllByRecursion Q vs → Keeps I Q (s.call number vs)) where
      function_kept : (token number : ℕ) (f : Option Signature) (n : ℕ) (arguments : Arguments)
          → ((types : List ValueType) → Keeps I (AllByRecursion Q) (arguments types)) → SenseKept Q I (call_function s token number f n arguments)
      function_kept token number None n arguments h = valued_kept (stuck_kept c)
      function_kept token number (Some f) n arguments h =
          result_kept token (has_value f.result) (chosen (n == length f.params) (seq (h f.params) (calls number)) (stuck_kept c))

      library_kept : (token : ℕ) (function : Library) (n : ℕ) (argument : Argument) (print : World → OutDone)
          → ((want : Option ValueType → Option ValueType) → Keeps I Q (argument want)) → Keeps I Any print
          → SenseKept Q I (call_library s token function n argument print)
      library_kept token library.Getchar n argument print h k = returned_kept token (chosen (n == 0) (next_kept c) (stuck_kept c))
      library_kept token library.Putchar n argument print h k = valued_kept (seq (h (as_type (type.Number Int))) (λ v _. put_byte_kept c v))
      library_kept token library.Puts n argument print h k = valued_kept (seq (h (as_type (type.Pointer 1))) (λ v _. put_string_kept c v))
      library_kept token library.Malloc n argument print h k = returned_kept token (seq (h (as_type (type.Number Unsigned))) (λ v _. allocate_kept v))
      library_kept token library.Free n argument print h k = effected_kept (seq (h (as_type (type.Pointer 0))) release_kept)
      library_kept token library.Exit n argument print h k = effected_kept (seq (h (as_type (type.Number Int))) (λ v _. exit_kept v))
      library_kept token library.Abort n argument print h k = effected_kept (chosen (n == 0) (stops (Trapped trap.Abort)) (stuck_kept c))
      library_kept token library.Assert n argument print h k = effected_kept (seq (h as_used) (λ v _. seq (truth_kept c v) (λ b _. assert_kept b)))
      library_kept token library.Printf n argument print h k = effected_kept k

      pub call_kept : (token : ℕ) (what : Called) (n : ℕ) (arguments : Arguments) (argument : Argument) (print : World → OutDone)
          → ((types : List ValueType) → Keeps I (AllByRecursion Q) (arguments types))
          → ((want : Option ValueType → Option ValueType) → Keeps I Q (argument want)) → Keeps I Any print
          → SenseKept Q I (call_sense s token what n arguments argument print)
      call_kept token (called.Function number) n arguments argument print h i j = function_kept token number (s.facts.signature number) n arguments h
      call_kept token (called.Library function) n arguments argument print h i j = library_kept token function n argument print i j
      call_kept token called.Unknown n arguments argument print h i j = valued_kept (stuck_kept c)

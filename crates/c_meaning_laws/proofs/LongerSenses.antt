-- Operators and calls, where more turns are left.
use Rattle.std.proofs.Common.{ℕ, zero, suc, ◌==◌, Bool, true, false, pos, length, List, Option, Some, None, refl}
use Rattle.std.specs.Prelude.{if◌then◌else◌, unsigned_abs, reverse}
use Rattle.std.specs.List.{list_all}
use Rattle.cbi_base.specs.Words.{pieces_of, object_allocated, object_released, applied_to_one, is_defined_value}
use Rattle.cbi_base.specs.declared.operators.Unary.{Unary}
use Rattle.cbi_base.specs.declared.operators.Unary.TheVariants as unary
use Rattle.cbi_base.specs.declared.outcome.Outcome.TheVariants.{Trapped, Ended}
use Rattle.cbi_base.specs.declared.scalar.Kind.TheVariants.{Int, Unsigned}
use Rattle.cbi_base.specs.declared.scalar.Scalar.{Scalar}
use Rattle.cbi_base.specs.declared.scalar.Scalar.TheVariants.{Number, Null, Undefined}
use Rattle.cbi_base.specs.declared.trap.Trap.TheVariants as trap
use Rattle.c_types_rules.specs.declared.library.Library.{Library}
use Rattle.c_types_rules.specs.declared.library.Library.TheVariants as library
use Rattle.c_syntax.specs.declared.expr.PrefixOperator.{PrefixOperator}
use Rattle.c_syntax.specs.declared.expr.PrefixOperator.TheVariants as prefix
use Rattle.flow.specs.declared.program.Text.{Text}
use Rattle.c_meaning.specs.declared.value_type.Called.{Called}
use Rattle.c_meaning.specs.declared.value_type.Called.TheVariants as called
use Rattle.c_meaning.specs.declared.value_type.ValueType.{ValueType}
use Rattle.c_meaning.specs.declared.value_type.ValueType.TheVariants as type
use Rattle.c_meaning.specs.Words.{Argument, Arguments, all_defined, space_allocated, as_type, assert, call_function, call_library, call_sense, exit, print_by, space_released}
use Rattle.c_meaning.specs.Words.{call_result_visited, types_taken, with_result, as_used, conversion, Sense, arm_as, arm_effect, arm_value, as_flag, assigned_value, cast_sense, comma_sense}
use Rattle.c_meaning.specs.Words.{conditional, sense_of_effect, handed_value, is_other_pointer, is_struct_value, value_after_link, null_or, one_operand, sense_of_place, postfixed_sense}
use Rattle.c_meaning.specs.Words.{prefixed_sense, loaded_operand, size_value, place_or_value, sense_of_value, wanted_value, Setting, Signature, flag_value, operation, pointed_place}
use Rattle.c_meaning.specs.Words.{Assignment, Plain, By, Joint, Both, Either, Computes, Unjoined, has_value, site_list, World, Out, Go, Stop, OutDone, Caller}
use Rattle.c_meaning.specs.Words.{bind}
use Rattle.c_meaning_laws.proofs.Longer.{Longer, answers, changes, chosen, done_longer, gives, same_left, seq, stops}
use Rattle.c_meaning_laws.proofs.LongerPlaces.{assigned_longer, changed_longer, decided_longer, handed_longer, load_longer, next_longer, nothing_longer, operate_longer}
use Rattle.c_meaning_laws.proofs.LongerPlaces.{put_byte_longer, put_format_longer, put_string_longer, stepped_longer, stores, stuck_longer, truth_longer, visited_longer, wanted_longer}

module _ (k : ℕ) where
  -- an expression, and the same where more turns are left
  pub record SenseLonger (m more : Sense) : Type 0 where
    pub value : Longer k m.value more.value
    pub place : Longer k m.place more.place
    pub effect : Longer k m.effect more.effect

  pub valued_longer : {m more : World → Out Scalar} → Longer k m more → SenseLonger (sense_of_value m) (sense_of_value more)
  valued_longer h = record { value = h; place = stuck_longer k Scalar; effect = done_longer k h }

  pub effected_longer : {m more : World → OutDone} → Longer k m more → SenseLonger (sense_of_effect m) (sense_of_effect more)
  effected_longer h = record { value = stuck_longer k Scalar; place = stuck_longer k Scalar; effect = h }

  pub placed_longer : {m more : World → Out Scalar} (of : Option ValueType) → Longer k m more → SenseLonger (sense_of_place of m) (sense_of_place of more)
  placed_longer of h = record {
    value = seq k h (load_longer k of);
    place = h;
    effect = seq k h (λ v. chosen k (is_struct_value of) (nothing_longer k) (done_longer k (load_longer k of v)));
  }

  pub null_longer : (b : Bool) (m more : Sense) → SenseLonger m more → Longer k (null_or b m) (null_or b more)
  null_longer true m more h = gives k Null
  null_longer false m more h = record { grows = h.value.grows; same = h.value.same }

  pub wanted_value_longer : (b : Bool) (have want : Option ValueType) (m more : Sense) → SenseLonger m more
      → Longer k (wanted_value b have want m) (wanted_value b have want more)
  wanted_value_longer true have want m more h = gives k Null
  wanted_value_longer false have want m more h = seq k h.value (wanted_longer k (conversion have want))

  pub handed_value_longer : (b : Bool) (want : Option ValueType) (m more : Sense) → SenseLonger m more → Longer k (handed_value b want m) (handed_value b want more)
  handed_value_longer true want m more h = gives k Null
  handed_value_longer false want m more h = seq k h.value (handed_longer k want)

  arm_as_longer : (b : Bool) (have want : Option ValueType) (v : Scalar) → Longer k (arm_as b have want v) (arm_as b have want v)
  arm_as_longer true have want v = handed_longer k want v
  arm_as_longer false have want v = wanted_longer k (conversion have want) v

  pub arm_longer : (b : Bool) (have want : Option ValueType) (m more : Sense) → SenseLonger m more → Longer k (arm_value b have want m) (arm_value b have want more)
  arm_longer true have want m more h = gives k Null
  arm_longer false have want m more h = seq k h.value (arm_as_longer (is_other_pointer (as_used have) want) have want)

  pub arm_effect_longer : (b : Bool) (have want : Option ValueType) (m more : Sense) → SenseLonger m more
      → Longer k (arm_effect b have want m) (arm_effect b have want more)
  arm_effect_longer b have (Some type.Void) m more h = h.effect
  arm_effect_longer b have want m more h = done_longer k (arm_longer b have want m more h)

  cast_value : (b : Bool) (want : Option ValueType) (m more : Sense) → SenseLonger m more
      → SenseLonger (sense_of_value (handed_value b want m)) (sense_of_value (handed_value b want more))
  cast_value b want m more h = valued_longer (handed_value_longer b want m more h)

  pub cast_longer : (b : Bool) (want : Option ValueType) (m more : Sense) → SenseLonger m more → SenseLonger (cast_sense b want m) (cast_sense b want more)
  cast_longer b (Some type.Void) m more h = effected_longer h.effect
  cast_longer b want m more h = cast_value b want m more h

  pub comma_longer : (n : ℕ) (m more rest others : Sense) → SenseLonger m more → SenseLonger rest others → SenseLonger (comma_sense n m rest) (comma_sense n more others)
  comma_longer zero m more rest others h j = h
  comma_longer (suc n) m more rest others h j = record {
    value = seq k h.effect (λ _. j.value);
    place = stuck_longer k Scalar;
    effect = seq k h.effect (λ _. j.effect);
  }

  flag_longer : {m more : World → Out Scalar} → Longer k m more → Longer k (as_flag m) (as_flag more)
  flag_longer h = seq k h (λ v. seq k (truth_longer k v) (λ holds. gives k (flag_value holds)))

  pub settled_longer : (b : Bool) (of : Option ValueType) (v : Scalar) → Longer k (loaded_operand b of v) (loaded_operand b of v)
  settled_longer true of v = load_longer k of v
  settled_longer false of v = gives k v

  pub spot_longer : (b : Bool) (m more : Sense) → SenseLonger m more → Longer k (place_or_value b m) (place_or_value b more)
  spot_longer true m more h = h.place
  spot_longer false m more h = h.value

  pub postfixed_longer : {m more : World → Out Scalar} (b : Bool) (of : Option ValueType) → Longer k m more → SenseLonger (postfixed_sense b of m) (postfixed_sense b of more)
  postfixed_longer true of h = placed_longer of h
  postfixed_longer false of h = valued_longer h

  pub size_longer : (cells : Option ℕ) → SenseLonger (size_value cells) (size_value cells)
  size_longer None = valued_longer (stuck_longer k Scalar)
  size_longer (Some cells) = valued_longer (gives k (Number Unsigned (pos cells)))

  operand_longer : {m more : World → Out Scalar} (have want : Option ValueType) (o : Unary) → Longer k m more
      → SenseLonger (sense_of_value (λ w. bind (m w) (one_operand have want o))) (sense_of_value (λ w. bind (more w) (one_operand have want o)))
  operand_longer have want o h = valued_longer (seq k h (λ v. seq k (wanted_longer k (conversion have want) v) (λ x. answers k (λ w. applied_to_one o x) (λ w. refl))))

  -- calls of the library
  allocate_longer : (v : Scalar) → Longer k (space_allocated v) (space_allocated v)
  allocate_longer Undefined = stops k Scalar (Trapped trap.Undefined)
  allocate_longer (Number Unsigned cells) =
      changes k (λ w. (object_allocated (unsigned_abs cells) w.objects).0) (λ w. record w { objects = (object_allocated (unsigned_abs cells) w.objects).1 }) (λ w. refl)
      (λ w. refl) (λ w. same_left w _ refl refl refl)
  allocate_longer v = stuck_longer k Scalar

  release_longer : (p : Scalar) → Longer k (space_released p) (space_released p)
  release_longer p = seq k (answers k (λ w. object_released p w.objects) (λ w. refl)) (stores k)

  exit_longer : (v : Scalar) → Longer k (exit v) (exit v)
  exit_longer Undefined = stops k (Unit {0}) (Trapped trap.Undefined)
  exit_longer (Number Int status) = stops k (Unit {0}) (Ended status)
  exit_longer v = stuck_longer k (Unit {0})

  assert_longer : (b : Bool) → Longer k (assert b) (assert b)
  assert_longer true = gives k tt
  assert_longer false = stops k (Unit {0}) (Trapped trap.Assertion)

  defined_by : (b : Bool) (vs : List Scalar) → Longer k (λ w. if b then Go vs w else Stop (Trapped trap.Undefined) w)
      (λ w. if b then Go vs w else Stop (Trapped trap.Undefined) w)
  defined_by true vs = gives k vs
  defined_by false vs = stops k (List Scalar) (Trapped trap.Undefined)

  pub all_defined_longer : (vs : List Scalar) → Longer k (all_defined vs) (all_defined vs)
  all_defined_longer vs = defined_by (list_all is_defined_value vs) (reverse vs)

  pub print_by_longer : (format : Option Text) (n : ℕ) (arguments others : Arguments) → ((types : List ValueType) → Longer k (arguments types) (others types))
      → Longer k (print_by format n arguments) (print_by format n others)
  print_by_longer None n arguments others h = stuck_longer k (Unit {0})
  print_by_longer (Some format) n arguments others h =
      chosen k (n == length (types_taken (pieces_of format.bytes)))
      (seq k (h (types_taken (pieces_of format.bytes))) (λ vs. seq k (all_defined_longer vs) (put_format_longer k format.bytes))) (stuck_longer k (Unit {0}))

  module _ (s : Setting) (call : Caller) where
    abbrev t : Setting
    t = record s { call = call }

    pub linked_longer : (j : Joint) (token : ℕ) (left right : Option ValueType) (m more : World → Out Scalar) (v : Scalar) → Longer k m more
        → Longer k (value_after_link s j token left right m v) (value_after_link t j token left right more v)
    linked_longer Both token left right m more v h = seq k (decided_longer k s call token v) (λ b. chosen k b (flag_longer h) (gives k (flag_value false)))
    linked_longer Either token left right m more v h = seq k (decided_longer k s call token v) (λ b. chosen k b (gives k (flag_value true)) (flag_longer h))
    linked_longer (Computes o) token left right m more v h = seq k h (λ x. operate_longer k (operation o left right) v x)
    linked_longer Unjoined token left right m more v h = stuck_longer k Scalar

    pub assign_longer : (token : ℕ) (a : Assignment) (b : Bool) (left right : Option ValueType) (goal goals m more : Sense) → SenseLonger goal goals
        → SenseLonger m more → Longer k (assigned_value s token a b left right goal m) (assigned_value t token a b left right goals more)
    assign_longer token Plain b left right goal goals m more h j =
        seq k h.place (λ p. seq k (wanted_value_longer b right left m more j) (assigned_longer k s call token p))
    assign_longer token (By o) b left right goal goals m more h j =
        seq k h.place (λ p. seq k j.value (changed_longer k s call token left (operation o left right) p))

    pub conditional_longer : (token : ℕ) (c others : Sense) {x xs y ys : World → Out Scalar} {a as_more b bs : World → OutDone} → SenseLonger c others → Longer k x xs
        → Longer k y ys → Longer k a as_more → Longer k b bs → SenseLonger (conditional s token c x y a b) (conditional t token others xs ys as_more bs)
    conditional_longer token c others h i j l m = record {
      value = seq k h.value (λ v. seq k (decided_longer k s call token v) (λ holds. chosen k holds i j));
      place = stuck_longer k Scalar;
      effect = seq k h.value (λ v. seq k (decided_longer k s call token v) (λ holds. chosen k holds l m));
    }

    pub prefixed_longer : (token : ℕ) (o : PrefixOperator) (of : Option ValueType) (cells : Option ℕ) (m more : Sense) → SenseLonger m more
        → SenseLonger (prefixed_sense s token o of cells m) (prefixed_sense t token o of cells more)
    prefixed_longer token prefix.Increment of cells m more h = valued_longer (seq k h.place (stepped_longer k s call true token of))
    prefixed_longer token prefix.Decrement of cells m more h = valued_longer (seq k h.place (stepped_longer k s call false token of))
    prefixed_longer token prefix.Address of cells m more h = valued_longer h.place
    prefixed_longer token prefix.Indirection of cells m more h =
        placed_longer (s.facts.type_at token) (seq k h.value (λ v. answers k (λ w. pointed_place v) (λ w. refl)))
    prefixed_longer token prefix.Plus of cells m more h = valued_longer (seq k h.value (handed_longer k (s.facts.type_at token)))
    prefixed_longer token prefix.Minus of cells m more h = operand_longer of (s.facts.type_at token) unary.Neg h.value
    prefixed_longer token prefix.Complement of cells m more h = operand_longer of (s.facts.type_at token) unary.Com h.value
    prefixed_longer token prefix.Not of cells m more h = valued_longer (seq k h.value (λ v. answers k (λ w. applied_to_one unary.Not v) (λ w. refl)))
    prefixed_longer token prefix.SizeOf of cells m more h = size_longer cells

    returned_longer : (token : ℕ) {m more : World → Out Scalar} → Longer k m more → SenseLonger (call_result_visited s token m) (call_result_visited t token more)
    returned_longer token h = valued_longer (seq k h (visited_longer k s call (site_list (s.sites.return_at token))))

    result_longer : (token : ℕ) (b : Bool) {m more : World → Out Scalar} → Longer k m more → SenseLonger (with_result s token b m) (with_result t token b more)
    result_longer token true h = returned_longer token h
    result_longer token false h = effected_longer (done_longer k h)

    module _ (calls : (number : ℕ) (vs : List Scalar) → Longer k (s.call number vs) (call number vs)) where
      function_longer : (token number : ℕ) (f : Option Signature) (n : ℕ) (arguments others : Arguments)
          → ((types : List ValueType) → Longer k (arguments types) (others types))
          → SenseLonger (call_function s token number f n arguments) (call_function t token number f n others)
      function_longer token number None n arguments others h = valued_longer (stuck_longer k Scalar)
      function_longer token number (Some f) n arguments others h =
          result_longer token (has_value f.result) (chosen k (n == length f.params) (seq k (h f.params) (calls number)) (stuck_longer k Scalar))

      library_longer : (token : ℕ) (function : Library) (n : ℕ) (argument other : Argument) (print more : World → OutDone)
          → ((want : Option ValueType → Option ValueType) → Longer k (argument want) (other want)) → Longer k print more
          → SenseLonger (call_library s token function n argument print) (call_library t token function n other more)
      library_longer token library.Getchar n argument other print more h j = returned_longer token (chosen k (n == 0) (next_longer k) (stuck_longer k Scalar))
      library_longer token library.Putchar n argument other print more h j = valued_longer (seq k (h (as_type (type.Number Int))) (put_byte_longer k))
      library_longer token library.Puts n argument other print more h j = valued_longer (seq k (h (as_type (type.Pointer 1))) (put_string_longer k))
      library_longer token library.Malloc n argument other print more h j = returned_longer token (seq k (h (as_type (type.Number Unsigned))) allocate_longer)
      library_longer token library.Free n argument other print more h j = effected_longer (seq k (h (as_type (type.Pointer 0))) release_longer)
      library_longer token library.Exit n argument other print more h j = effected_longer (seq k (h (as_type (type.Number Int))) exit_longer)
      library_longer token library.Abort n argument other print more h j =
          effected_longer (chosen k (n == 0) (stops k (Unit {0}) (Trapped trap.Abort)) (stuck_longer k (Unit {0})))
      library_longer token library.Assert n argument other print more h j =
          effected_longer (seq k (h as_used) (λ v. seq k (truth_longer k v) assert_longer))
      library_longer token library.Printf n argument other print more h j = effected_longer j

      pub call_longer : (token : ℕ) (what : Called) (n : ℕ) (arguments others : Arguments) (argument other : Argument) (print more : World → OutDone)
          → ((types : List ValueType) → Longer k (arguments types) (others types))
          → ((want : Option ValueType → Option ValueType) → Longer k (argument want) (other want)) → Longer k print more
          → SenseLonger (call_sense s token what n arguments argument print) (call_sense t token what n others other more)
      call_longer token (called.Function number) n arguments others argument other print more h i j =
          function_longer token number (s.facts.signature number) n arguments others h
      call_longer token (called.Library function) n arguments others argument other print more h i j =
          library_longer token function n argument other print more i j
      call_longer token called.Unknown n arguments others argument other print more h i j = valued_longer (stuck_longer k Scalar)

-- Declarations and statements keep what holds of all values and of the objects.
use Rattle.std.proofs.Common.{◌≡◌, ℕ, zero, suc, ◌+◌, Bool, true, List, [], ◌∷◌, Option, Some, None, refl}
use Rattle.cbi_base.specs.declared.outcome.Outcome.TheVariants.{CutTurns}
use Rattle.cbi_base.specs.declared.scalar.Kind.TheVariants.{Char}
use Rattle.cbi_base.specs.declared.scalar.Scalar.{Scalar}
use Rattle.cbi_base.specs.declared.scalar.Scalar.TheVariants.{Place}
use Rattle.cbi_base.specs.declared.scalar.Want.{Want}
use Rattle.cbi_base.specs.declared.scalar.Want.TheVariants as want
use Rattle.std.specs.List.{AllByRecursion}
use Rattle.cbi_base.specs.Words.{char_of, zero_value, object_filled, Objects, object_made_undefined, value_stored, stored_bytes}
use Rattle.c_syntax.specs.ExprTree as e
use Rattle.c_syntax.specs.Words.{ExprTree, ExprList, InitialTree, StartTree, ForStartTree, StatementTree, EntryList}
use Rattle.c_syntax.specs.StatementTree as tree
use Rattle.flow.specs.declared.program.Text.{Text}
use Rattle.flow.specs.declared.site.Slot.{Slot}
use Rattle.flow.specs.declared.site.Slot.TheVariants as slot
use Rattle.c_meaning.specs.declared.value_type.ValueType.{ValueType}
use Rattle.c_meaning.specs.declared.value_type.ValueType.TheVariants as type
use Rattle.c_meaning.specs.Words.{is_null_as, Setting, all_started, variable_cleared, element_set, elements_set, equals_token, variable_initialised, object_of, on_local, on_object}
use Rattle.c_meaning.specs.Words.{scalar_set, string_stored, value_set, want_of, array_zeroed, condition, expr, text_of_string, after_body, after_entry, do_round, exec}
use Rattle.c_meaning.specs.Words.{exec_all, for_round, for_started, optional_condition, optional_effect, returned_value, loop_rounds, while_round, type_of, World}
use Rattle.c_meaning.specs.Words.{Out, Stop, OutDone, Flow, Next, Broken, Continued, Returned, one_turn_spent}
use Rattle.c_meaning_laws.proofs.Kept.{Answers, Any, Closed, Keeps, answers, answers_bind, changes, chosen, done_kept, gives, seq, spends, stops}
use Rattle.c_meaning_laws.proofs.KeptPlaces.{LocalsOwn, StaticsOwn, assigned_kept, member_kept, store_kept, stuck_kept, variable_kept}
use Rattle.c_meaning_laws.proofs.KeptSenses.{wanted_value_kept}
use Rattle.c_meaning_laws.proofs.KeptExpressions.{condition_kept, expr_kept}

-- what a statement returns, where it does
abbrev pub Leaves : (Scalar → Type 0) → Flow → Type 0
Leaves Q (Returned (Some v)) = Q v
Leaves Q flow = Unit {0}

module _ {Q : Scalar → Type 0} {Own : ℕ → Type 0} {I : Objects → Type 0} (c : Closed Q Own I) where
  on_kept : {act : ℕ → World → OutDone} (number : Option ℕ) → ((n : ℕ) → number ≡ Some n → Keeps I Any (act n)) → Keeps I Any (on_object number act)
  on_kept None h = stuck_kept c
  on_kept (Some number) h = record { at = (h number refl).at }

  clear_kept : (number : ℕ) → Own number → Keeps I Any (variable_cleared number)
  clear_kept number own = changes (λ w. tt {0}) (λ w. record w { objects = object_made_undefined number w.objects }) (λ w a. (tt, c.clears number w.objects own a))

  zero_kept : (wanted : Want) → Q (zero_value wanted)
  zero_kept (want.Number kind) = c.numbers kind _
  zero_kept want.Pointer = c.null

  zeroed_kept : (wanted : Option Want) (number : ℕ) → Own number → Keeps I Any (array_zeroed wanted number)
  zeroed_kept None number own = stuck_kept c
  zeroed_kept (Some wanted) number own =
      changes (λ w. tt {0}) (λ w. record w { objects = object_filled number (zero_value wanted) w.objects })
      (λ w a. (tt, c.fills number (zero_value wanted) w.objects own (zero_kept wanted) a))

  spelled_kept : (number offset : ℕ) (bytes : List ℕ) (o : Objects) → Own number → I o → Answers I (stored_bytes number offset bytes o)
  spelled_kept number offset [] o own a = a
  spelled_kept number offset (byte ∷ bytes) o own a =
      answers_bind I I (value_stored (Place number offset) (char_of byte) o) (stored_bytes number (offset + 1) bytes)
      (c.stores (Place number offset) (char_of byte) o (c.places number offset own) (c.numbers Char _) a) (λ more k.
      spelled_kept number (offset + 1) bytes more own k)

  spell_kept : (text : Option Text) (number : ℕ) → Own number → Keeps I Any (string_stored text number)
  spell_kept None number own = stuck_kept c
  spell_kept (Some text) number own =
      seq (answers (λ w. stored_bytes number 0 text.bytes w.objects) (λ w a. spelled_kept number 0 text.bytes w.objects own a)) (λ objects a.
      changes (λ w. tt {0}) (λ w. record w { objects = objects }) (λ w _. (tt, a)))

  -- loops
  after_body_kept : {again : World → Out Flow} (flow : Flow) → Keeps I (Leaves Q) again → Leaves Q flow → Keeps I (Leaves Q) (after_body again flow)
  after_body_kept Next h k = record { at = h.at }
  after_body_kept Continued h k = record { at = h.at }
  after_body_kept Broken h k = gives Next tt
  after_body_kept (Returned v) h k = gives (Returned v) k

  after_entry_kept : {rest : World → Out Flow} (flow : Flow) → Keeps I (Leaves Q) rest → Leaves Q flow → Keeps I (Leaves Q) (after_entry rest flow)
  after_entry_kept Next h k = record { at = h.at }
  after_entry_kept Continued h k = gives Continued tt
  after_entry_kept Broken h k = gives Broken tt
  after_entry_kept (Returned v) h k = gives (Returned v) k

  abbrev RoundKept : ((World → Out Flow) → World → Out Flow) → Type 0
  RoundKept round = (again : World → Out Flow) → Keeps I (Leaves Q) again → Keeps I (Leaves Q) (round again)

  while_kept : {test : World → Out Bool} {body : World → Out Flow} → Keeps I Any test → Keeps I (Leaves Q) body → RoundKept (while_round test body)
  while_kept h j again more = seq h (λ holds _. chosen holds (seq j (λ flow k. after_body_kept flow more k)) (gives Next tt))

  do_kept : {test : World → Out Bool} {body : World → Out Flow} → Keeps I Any test → Keeps I (Leaves Q) body → RoundKept (do_round test body)
  do_kept h j again more = seq j (λ flow k. after_body_kept flow (seq h (λ holds _. chosen holds more (gives Next tt))) k)

  for_kept : {test : World → Out Bool} {body : World → Out Flow} {step : World → OutDone} → Keeps I Any test → Keeps I (Leaves Q) body → Keeps I Any step
      → RoundKept (for_round test body step)
  for_kept h j i again more = while_kept h j _ (seq i (λ _ _. more))

  rounds_kept : (n : ℕ) (round : (World → Out Flow) → World → Out Flow) → RoundKept round → Keeps I (Leaves Q) (loop_rounds n round)
  rounds_kept zero round h = record { at = (h (Stop CutTurns) (stops CutTurns)).at }
  rounds_kept (suc n) round h = record { at = (h (λ u. one_turn_spent u.turns u (loop_rounds n round)) (spends (rounds_kept n round h))).at }

  module _ (s : Setting) (statics : StaticsOwn Own s.facts) (locals : LocalsOwn Own s.locals)
      (calls : (number : ℕ) (vs : List Scalar) → AllByRecursion Q vs → Keeps I Q (s.call number vs)) where
    scalar_kept : (token : ℕ) (x : ExprTree) → Keeps I Any (scalar_set s token x)
    scalar_kept token x =
        seq (variable_kept c s token statics locals) (λ p h.
        seq (wanted_value_kept c (is_null_as (s.facts.declared_at token) x) (type_of s.facts x) (s.facts.declared_at token) (expr s x)
        (expr_kept c s statics locals calls x)) (λ v k. done_kept (assigned_kept c s (equals_token token) p v h k)))

    element_kept : (token index : ℕ) (x : ExprTree) → Keeps I Any (element_set s token index x)
    element_kept token index x =
        seq (variable_kept c s token statics locals) (λ a h. seq (member_kept c (Some index) a h) (λ p j.
        seq (wanted_value_kept c (is_null_as (s.facts.element_at token) x) (type_of s.facts x) (s.facts.element_at token) (expr s x)
        (expr_kept c s statics locals calls x)) (λ v k. done_kept (store_kept c p v j k))))

    elements_kept : (token index : ℕ) (items : ExprList) → Keeps I Any (elements_set s token index items)
    elements_kept token index e.no_exprs = gives tt tt
    elements_kept token index (e.more_exprs x rest) = seq (element_kept token index x) (λ _ _. elements_kept token (suc index) rest)

    object_own : (at : Option Slot) (n : ℕ) → object_of s at ≡ Some n → Own n
    object_own None n h = cc
    object_own (Some (slot.Local index)) n h = locals index n h
    object_own (Some (slot.Global index)) n h = cc

    local_kept : {act : ℕ → World → OutDone} (token : ℕ) → ((n : ℕ) → Own n → Keeps I Any (act n)) → Keeps I Any (on_local s token act)
    local_kept token h = on_kept (object_of s (s.facts.slot_at token)) (λ n is. h n (object_own (s.facts.slot_at token) n is))

    value_kept : (token : ℕ) (of : Option ValueType) (x : ExprTree) → Keeps I Any (value_set s token of x)
    value_kept token (Some (type.Array size)) x =
        seq (local_kept token (zeroed_kept (want_of (s.facts.element_at token)))) (λ _ _. local_kept token (spell_kept (text_of_string s.facts x)))
    value_kept token of x = scalar_kept token x

    initialised_kept : (token : ℕ) (i : Option InitialTree) → Keeps I Any (variable_initialised s token i)
    initialised_kept token None = gives tt tt
    initialised_kept token (Some (tree.Value x)) = value_kept token (s.facts.declared_at token) x
    initialised_kept token (Some (tree.Braced at items comma)) =
        seq (local_kept token (zeroed_kept (want_of (s.facts.element_at token)))) (λ _ _. elements_kept token 0 items)

    all_started_kept : (xs : List StartTree) → Keeps I Any (all_started s xs)
    all_started_kept [] = gives tt tt
    all_started_kept (x ∷ xs) =
        seq (seq (local_kept x.declarator.name_token clear_kept) (λ _ _. initialised_kept x.declarator.name_token x.initial)) (λ _ _. all_started_kept xs)

    effect_kept : (x : Option ExprTree) → Keeps I Any (optional_effect s x)
    effect_kept None = gives tt tt
    effect_kept (Some x) = record { at = (expr_kept c s statics locals calls x).effect.at }

    test_kept : (token : ℕ) (x : Option ExprTree) → Keeps I Any (optional_condition s token x)
    test_kept token None = gives true tt
    test_kept token (Some x) = record { at = (condition_kept c s statics locals calls token x).at }

    for_started_kept : (start : ForStartTree) → Keeps I Any (for_started s start)
    for_started_kept (tree.Declares d) = record { at = (all_started_kept d.starts).at }
    for_started_kept (tree.Computes x) = record { at = (effect_kept x).at }

    return_kept : (result : ValueType) (x : Option ExprTree) → Keeps I (Leaves Q) (returned_value s result x)
    return_kept result None = gives (Returned None) tt
    return_kept result (Some x) =
        seq (wanted_value_kept c (is_null_as (Some result) x) (type_of s.facts x) (Some result) (expr s x) (expr_kept c s statics locals calls x))
        (λ v k. gives (Returned (Some v)) k)

    module _ (n : ℕ) (result : ValueType) where
      abbrev test : ℕ → ExprTree → World → Out Bool
      test token x = condition s token x

      mutual
        pub exec_kept : (x : StatementTree) → Keeps I (Leaves Q) (exec s n result x)
        exec_kept (tree.Block token entries) = record { at = (entries_kept entries).at }
        exec_kept (tree.Empty token) = gives Next tt
        exec_kept (tree.Expr token x) = seq (expr_kept c s statics locals calls x).effect (λ _ _. gives Next tt)
        exec_kept (tree.If token x first) =
            seq (condition_kept c s statics locals calls token x) (λ holds _. chosen holds (exec_kept first) (gives Next tt))
        exec_kept (tree.IfElse token x first second) =
            seq (condition_kept c s statics locals calls token x) (λ holds _. chosen holds (exec_kept first) (exec_kept second))
        exec_kept (tree.While token x body) =
            rounds_kept n (while_round (test token x) (exec s n result body)) (while_kept (condition_kept c s statics locals calls token x) (exec_kept body))
        exec_kept (tree.Do token body x) =
            rounds_kept n (do_round (test token x) (exec s n result body)) (do_kept (condition_kept c s statics locals calls token x) (exec_kept body))
        exec_kept (tree.For token start x step body) =
            seq (for_started_kept start) (λ _ _.
            rounds_kept n (for_round (optional_condition s token x) (exec s n result body) (optional_effect s step))
            (for_kept (test_kept token x) (exec_kept body) (effect_kept step)))
        exec_kept (tree.Return token v) = record { at = (return_kept result v).at }
        exec_kept (tree.Break token) = gives Broken tt
        exec_kept (tree.Continue token) = gives Continued tt

        pub entries_kept : (xs : EntryList) → Keeps I (Leaves Q) (exec_all s n result xs)
        entries_kept tree.no_entries = gives Next tt
        entries_kept (tree.declared d rest) = seq (all_started_kept d.starts) (λ _ _. entries_kept rest)
        entries_kept (tree.stated x rest) = seq (exec_kept x) (λ flow k. after_entry_kept flow (entries_kept rest) k)

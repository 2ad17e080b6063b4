-- Declarations and statements, where more turns are left.
use Rattle.std.proofs.Common.{ℕ, zero, suc, ◌≤◌, Bool, true, List, [], ◌∷◌, Option, Some, None, refl, arith}
use Rattle.cbi_base.specs.Words.{zero_value, object_filled, object_made_undefined, stored_bytes}
use Rattle.cbi_base.specs.declared.outcome.Outcome.TheVariants.{CutTurns}
use Rattle.cbi_base.specs.declared.scalar.Scalar.{Scalar}
use Rattle.cbi_base.specs.declared.scalar.Want.{Want}
use Rattle.c_syntax.specs.ExprTree as e
use Rattle.c_syntax.specs.Words.{ExprTree, ExprList, InitialTree, StartTree, ForStartTree, StatementTree, EntryList}
use Rattle.c_syntax.specs.StatementTree as tree
use Rattle.flow.specs.declared.program.Text.{Text}
use Rattle.c_meaning.specs.declared.value_type.ValueType.{ValueType}
use Rattle.c_meaning.specs.declared.value_type.ValueType.TheVariants as type
use Rattle.c_meaning.specs.Words.{is_null_as, Setting, all_started, variable_cleared, element_set, elements_set, equals_token, variable_initialised, object_of, on_local, on_object}
use Rattle.c_meaning.specs.Words.{scalar_set, string_stored, value_set, want_of, array_zeroed, condition, expr, text_of_string, after_body, after_entry, do_round, exec}
use Rattle.c_meaning.specs.Words.{exec_all, for_round, for_started, optional_condition, optional_effect, returned_value, loop_rounds, while_round, type_of, World}
use Rattle.c_meaning.specs.Words.{Out, Stop, OutDone, Flow, Next, Broken, Continued, Returned, Caller, one_turn_spent}
use Rattle.c_meaning_laws.proofs.Longer.{Longer, answers, changes, chosen, cut, done_longer, gives, grown_spend, same_left, seq, spends, stops}
use Rattle.c_meaning_laws.proofs.LongerPlaces.{assigned_longer, member_longer, store_longer, stores, stuck_longer, variable_longer}
use Rattle.c_meaning_laws.proofs.LongerSenses.{wanted_value_longer}
use Rattle.c_meaning_laws.proofs.LongerExpressions.{condition_longer, expr_longer}

module _ (k : ℕ) where
  pub on_longer : {act more : ℕ → World → OutDone} (number : Option ℕ) → ((n : ℕ) → Longer k (act n) (more n)) → Longer k (on_object number act) (on_object number more)
  on_longer None h = stuck_longer k (Unit {0})
  on_longer (Some number) h = record { grows = (h number).grows; same = (h number).same }

  clear_longer : (number : ℕ) → Longer k (variable_cleared number) (variable_cleared number)
  clear_longer number = changes k (λ w. tt {0}) (λ w. record w { objects = object_made_undefined number w.objects }) (λ w. refl) (λ w. refl)
      (λ w. same_left w _ refl refl refl)

  zeroed_longer : (wanted : Option Want) (number : ℕ) → Longer k (array_zeroed wanted number) (array_zeroed wanted number)
  zeroed_longer None number = stuck_longer k (Unit {0})
  zeroed_longer (Some wanted) number = changes k (λ w. tt {0}) (λ w. record w { objects = object_filled number (zero_value wanted) w.objects }) (λ w. refl) (λ w. refl)
      (λ w. same_left w _ refl refl refl)

  spell_longer : (text : Option Text) (number : ℕ) → Longer k (string_stored text number) (string_stored text number)
  spell_longer None number = stuck_longer k (Unit {0})
  spell_longer (Some text) number = seq k (answers k (λ w. stored_bytes number 0 text.bytes w.objects) (λ w. refl)) (stores k)

  -- loops
  after_body_longer : {again others : World → Out Flow} (flow : Flow) → Longer k again others → Longer k (after_body again flow) (after_body others flow)
  after_body_longer Next h = record { grows = h.grows; same = h.same }
  after_body_longer Continued h = record { grows = h.grows; same = h.same }
  after_body_longer Broken h = gives k Next
  after_body_longer (Returned v) h = gives k (Returned v)

  after_entry_longer : {rest others : World → Out Flow} (flow : Flow) → Longer k rest others → Longer k (after_entry rest flow) (after_entry others flow)
  after_entry_longer Next h = record { grows = h.grows; same = h.same }
  after_entry_longer flow h = gives k flow

  -- a round, whatever comes again, is the same with more turns where what comes again is
  abbrev RoundLonger : ((World → Out Flow) → World → Out Flow) → ((World → Out Flow) → World → Out Flow) → Type 0
  RoundLonger round other = (again others : World → Out Flow) → Longer k again others → Longer k (round again) (other others)

  while_longer : {test tests : World → Out Bool} {body bodies : World → Out Flow} → Longer k test tests → Longer k body bodies
      → RoundLonger (while_round test body) (while_round tests bodies)
  while_longer h j again others more = seq k h (λ holds. chosen k holds (seq k j (λ flow. after_body_longer flow more)) (gives k Next))

  do_longer : {test tests : World → Out Bool} {body bodies : World → Out Flow} → Longer k test tests → Longer k body bodies
      → RoundLonger (do_round test body) (do_round tests bodies)
  do_longer h j again others more = seq k j (λ flow. after_body_longer flow (seq k h (λ holds. chosen k holds more (gives k Next))))

  for_longer : {test tests : World → Out Bool} {body bodies : World → Out Flow} {step steps : World → OutDone} → Longer k test tests → Longer k body bodies
      → Longer k step steps → RoundLonger (for_round test body step) (for_round tests bodies steps)
  for_longer h j i again others more = while_longer h j _ _ (seq k i (λ _. more))

  -- the only round where no turn may be spent
  first_round : (m : ℕ) (round other : (World → Out Flow) → World → Out Flow) → RoundLonger round other → Longer k (round (Stop CutTurns)) (loop_rounds m other)
  first_round zero round other h =
      let only : Longer k (round (Stop CutTurns)) (other (Stop CutTurns)) = h (Stop CutTurns) (Stop CutTurns) (stops k Flow CutTurns) in
      record { grows = only.grows; same = only.same }
  first_round (suc m) round other h =
      let next : Longer k (round (Stop CutTurns)) (other (λ u. one_turn_spent u.turns u (loop_rounds m other))) = h (Stop CutTurns) (λ u. one_turn_spent u.turns u (loop_rounds m other))
      (cut k (λ u. one_turn_spent u.turns u (loop_rounds m other)) (λ u. grown_spend k u.turns u (loop_rounds m other) (first_round m round other h).grows (omega arith))) in
      record { grows = next.grows; same = next.same }

  pub rounds_longer : (n m : ℕ) (round other : (World → Out Flow) → World → Out Flow) → n ≤ m → RoundLonger round other
      → Longer k (loop_rounds n round) (loop_rounds m other)
  rounds_longer zero m round other le h =
      let first : Longer k (round (Stop CutTurns)) (loop_rounds m other) = first_round m round other h in record { grows = first.grows; same = first.same }
  rounds_longer (suc n) zero round other le h = absurd (omega (arith, le))
  rounds_longer (suc n) (suc m) round other le h =
      let rest : Longer k (loop_rounds n round) (loop_rounds m other) = rounds_longer n m round other (omega (arith, le)) h in
      let next : Longer k (round (λ u. one_turn_spent u.turns u (loop_rounds n round))) (other (λ u. one_turn_spent u.turns u (loop_rounds m other))) =
      h (λ u. one_turn_spent u.turns u (loop_rounds n round)) (λ u. one_turn_spent u.turns u (loop_rounds m other)) (spends k rest) in
      record { grows = next.grows; same = next.same }

  module _ (s : Setting) (call : Caller) (calls : (number : ℕ) (vs : List Scalar) → Longer k (s.call number vs) (call number vs)) where
    abbrev t : Setting
    t = record s { call = call }

    scalar_longer : (token : ℕ) (x : ExprTree) → Longer k (scalar_set s token x) (scalar_set t token x)
    scalar_longer token x =
        seq k (variable_longer k s call (s.facts.slot_at token)) (λ p.
        seq k (wanted_value_longer k (is_null_as (s.facts.declared_at token) x) (type_of s.facts x) (s.facts.declared_at token) (expr s x) (expr t x)
        (expr_longer k s call calls x)) (λ v. done_longer k (assigned_longer k s call (equals_token token) p v)))

    element_longer : (token index : ℕ) (x : ExprTree) → Longer k (element_set s token index x) (element_set t token index x)
    element_longer token index x =
        seq k (variable_longer k s call (s.facts.slot_at token)) (λ a. seq k (member_longer k (Some index) a) (λ p.
        seq k (wanted_value_longer k (is_null_as (s.facts.element_at token) x) (type_of s.facts x) (s.facts.element_at token) (expr s x) (expr t x)
        (expr_longer k s call calls x)) (λ v. done_longer k (store_longer k p v))))

    elements_longer : (token index : ℕ) (items : ExprList) → Longer k (elements_set s token index items) (elements_set t token index items)
    elements_longer token index e.no_exprs = gives k tt
    elements_longer token index (e.more_exprs x rest) = seq k (element_longer token index x) (λ _. elements_longer token (suc index) rest)

    local_longer : {act more : ℕ → World → OutDone} (token : ℕ) → ((n : ℕ) → Longer k (act n) (more n)) → Longer k (on_local s token act) (on_local t token more)
    local_longer token h = on_longer (object_of s (s.facts.slot_at token)) h

    value_longer : (token : ℕ) (of : Option ValueType) (x : ExprTree) → Longer k (value_set s token of x) (value_set t token of x)
    value_longer token (Some (type.Array size)) x =
        seq k (local_longer token (zeroed_longer (want_of (s.facts.element_at token)))) (λ _. local_longer token (spell_longer (text_of_string s.facts x)))
    value_longer token of x = scalar_longer token x

    initialised_longer : (token : ℕ) (i : Option InitialTree) → Longer k (variable_initialised s token i) (variable_initialised t token i)
    initialised_longer token None = gives k tt
    initialised_longer token (Some (tree.Value x)) = value_longer token (s.facts.declared_at token) x
    initialised_longer token (Some (tree.Braced at items comma)) =
        seq k (local_longer token (zeroed_longer (want_of (s.facts.element_at token)))) (λ _. elements_longer token 0 items)

    all_started_longer : (xs : List StartTree) → Longer k (all_started s xs) (all_started t xs)
    all_started_longer [] = gives k tt
    all_started_longer (x ∷ xs) =
        seq k (seq k (local_longer x.declarator.name_token clear_longer) (λ _. initialised_longer x.declarator.name_token x.initial))
        (λ _. all_started_longer xs)

    effect_longer : (x : Option ExprTree) → Longer k (optional_effect s x) (optional_effect t x)
    effect_longer None = gives k tt
    effect_longer (Some x) = (expr_longer k s call calls x).effect

    test_longer : (token : ℕ) (x : Option ExprTree) → Longer k (optional_condition s token x) (optional_condition t token x)
    test_longer token None = gives k true
    test_longer token (Some x) = condition_longer k s call calls token x

    for_started_longer : (start : ForStartTree) → Longer k (for_started s start) (for_started t start)
    for_started_longer (tree.Declares d) = all_started_longer d.starts
    for_started_longer (tree.Computes x) = effect_longer x

    return_longer : (result : ValueType) (x : Option ExprTree) → Longer k (returned_value s result x) (returned_value t result x)
    return_longer result None = gives k (Returned None)
    return_longer result (Some x) =
        seq k (wanted_value_longer k (is_null_as (Some result) x) (type_of s.facts x) (Some result) (expr s x) (expr t x) (expr_longer k s call calls x))
        (λ v. gives k (Returned (Some v)))

    -- within at most so many turns, and within at most so many or more
    module _ (n m : ℕ) (le : n ≤ m) (result : ValueType) where
      mutual
        pub exec_longer : (x : StatementTree) → Longer k (exec s n result x) (exec t m result x)
        exec_longer (tree.Block token entries) = entries_longer entries
        exec_longer (tree.Empty token) = gives k Next
        exec_longer (tree.Expr token x) = seq k (expr_longer k s call calls x).effect (λ _. gives k Next)
        exec_longer (tree.If token c first) = seq k (condition_longer k s call calls token c) (λ holds. chosen k holds (exec_longer first) (gives k Next))
        exec_longer (tree.IfElse token c first second) =
            seq k (condition_longer k s call calls token c) (λ holds. chosen k holds (exec_longer first) (exec_longer second))
        exec_longer (tree.While token c body) =
            rounds_longer n m (while_round (condition s token c) (exec s n result body)) (while_round (condition t token c) (exec t m result body)) le
            (while_longer (condition_longer k s call calls token c) (exec_longer body))
        exec_longer (tree.Do token body c) =
            rounds_longer n m (do_round (condition s token c) (exec s n result body)) (do_round (condition t token c) (exec t m result body)) le
            (do_longer (condition_longer k s call calls token c) (exec_longer body))
        exec_longer (tree.For token start c step body) =
            seq k (for_started_longer start) (λ _.
            rounds_longer n m (for_round (optional_condition s token c) (exec s n result body) (optional_effect s step))
            (for_round (optional_condition t token c) (exec t m result body) (optional_effect t step)) le
            (for_longer (test_longer token c) (exec_longer body) (effect_longer step)))
        exec_longer (tree.Return token v) = return_longer result v
        exec_longer (tree.Break token) = gives k Broken
        exec_longer (tree.Continue token) = gives k Continued

        pub entries_longer : (xs : EntryList) → Longer k (exec_all s n result xs) (exec_all t m result xs)
        entries_longer tree.no_entries = gives k Next
        entries_longer (tree.declared d rest) = seq k (all_started_longer d.starts) (λ _. entries_longer rest)
        entries_longer (tree.stated x rest) = seq k (exec_longer x) (λ flow. after_entry_longer flow (entries_longer rest))

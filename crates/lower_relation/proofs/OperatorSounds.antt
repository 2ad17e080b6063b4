-- Each operator does what it means.
use Rattle.std.proofs.Common.{◌≡◌, ℕ, zero, suc, refl, ap, sym, ◌∙◌, List, [], ◌∷◌, Option, Some, None, Ok, Err, Bool, true, false}
use Rattle.std.specs.Prelude.{ℤ, pos, not, Result, if◌then◌else◌}
use Rattle.cbi_base.specs.Words.{local_at, truth_number, is_zero, Objects, pointer_comparison, pointer_difference, loaded_value, moved_pointer, value_stored, moved_by, operator_applied, applied_to_one}
use Rattle.cbi_base.specs.Words.{logical_negation, truth_of}
use Rattle.cbi_base.specs.declared.observation.Seen.{Seen}
use Rattle.cbi_base.specs.declared.scalar.Kind.{Kind}
use Rattle.cbi_base.specs.declared.scalar.Kind.TheVariants.{Int, Unsigned}
use Rattle.cbi_base.specs.declared.scalar.Scalar.{Scalar}
use Rattle.cbi_base.specs.declared.scalar.Scalar.TheVariants.{Number, Place, Null, Undefined}
use Rattle.cbi_base.specs.declared.scalar.Want.{Want}
use Rattle.cbi_base.specs.declared.scalar.Want.TheVariants as want
use Rattle.cbi_base.specs.declared.operators.Binary.{Binary}
use Rattle.cbi_base.specs.declared.operators.Order.{Order}
use Rattle.cbi_base.specs.declared.operators.Unary.{Unary}
use Rattle.cbi_base.specs.declared.operators.Unary.TheVariants as unary
use Rattle.cbi_base.specs.declared.trap.Trap.{Trap}
use Rattle.cbi_base.specs.declared.trap.Trap.TheVariants as trap
use Rattle.cbi_base.specs.Objects.{◌>>=◌}
use Rattle.c_syntax.specs.declared.expr.PrefixOperator.{PrefixOperator}
use Rattle.c_syntax.specs.declared.expr.PrefixOperator.TheVariants as prefix
use Rattle.flow.specs.declared.node.Node.TheVariants as node
use Rattle.flow.specs.declared.node.View.TheVariants as view
use Rattle.flow.specs.declared.site.Partner.TheVariants.{Variable}
use Rattle.flow.specs.declared.site.Slot.{Slot}
use Rattle.flow.specs.declared.site.Slot.TheVariants as slot
use Rattle.flow.specs.Words.{at_node, seen_or_trapped, RunLeads, branch_on_truth, go_on, next_of, step, Goes, Now, goes_with_value, with_answer, with_named, row_effect, On, sees_now, seen_at_site}
use Rattle.flow.proofs.Endings.{ends_over, leads_one}
use Rattle.c_meaning.specs.declared.operation.Operation.{Operation}
use Rattle.c_meaning.specs.declared.operation.Operation.TheVariants.{Numbers, MoveLeft, MoveRight, Span, Ordered, Wrong}
use Rattle.c_meaning.specs.declared.value_type.ValueType.{ValueType}
use Rattle.c_meaning.specs.declared.value_type.ValueType.TheVariants as type
use Rattle.c_meaning.specs.Words.{as_wanted, kind_conversion, conversion, conversion_result, load_at, Sense, Facts, Setting, Sites, counted_value, flag_value, flagged_value}
use Rattle.c_meaning.specs.Words.{left_kind, operation_result, operation, right_kind, type_given, Assignment, Plain, By, Joint, Both, Computes, Unjoined, one_kind}
use Rattle.c_meaning.specs.Words.{site_list, truth_value, world_with_seen, World, Out, Go, Caller, OutDone, answer_or_trap, bind, chosen_part, value_discarded, stuck_run}
use Rattle.c_meaning.specs.Expressions as mean
use Rattle.c_meaning.specs.Places as place
use Rattle.c_meaning.specs.Trees as tree
use Rattle.c_meaning.specs.Visits as visit
use Rattle.lower_relation.specs.Operators as way
use Rattle.lower_relation.specs.Values.{DroppedValue}
use Rattle.lower_relation.specs.Paths.{Path, ◌then◌, Does, Either, Emitted, ForkTo, MarksAll, Nothing, Ways}
use Rattle.lower_relation.specs.Stands.{Agrees}
use Rattle.lower_relation.proofs.Reach.{Reach, Stack, bind_bind, bind_same, first, le_self}
use Rattle.lower_relation.proofs.Sounds.{Standing, Sound, SenseSound, answers, bare, before, changes, choice_ok, fork_ok, none, now, one_of_ok, plus, pushes, row, same_meaning, seq, setting, state, stay, stuck_ok, falsely_ok, to, truly_ok, turned_ok, unchanged, under, way}
use Rattle.lower_relation.proofs.ValueSounds.{converts_below_ok, converts_ok, done_ok, dropped_ok, effected_ok, handed_ok, handed_value_ok, load_ok, placed_ok, push_ok, sole_ok, tests_ok, valued_ok, wanted_ok}

two_steps : {A B C : Type 0} (r : Result A Trap) (q : Result B Trap) (g : A → B → Result C Trap) (w : World)
    → bind (answer_or_trap r w) (λ a u. bind (answer_or_trap q u) (λ b v. answer_or_trap (g a b) v)) ≡ answer_or_trap (r >>= λ a. q >>= λ b. g a b) w
two_steps (Ok x) (Ok y) g w = refl
two_steps (Ok x) (Err t) g w = refl
two_steps (Err t) q g w = refl

two_numbers : (o : Binary) (left right : Kind) (x y : Scalar) (w : World)
    → bind (as_wanted (kind_conversion left (left_kind o left right)) x w)
    (λ a u. bind (as_wanted (kind_conversion right (right_kind o left right)) y u) (λ b v. answer_or_trap (operator_applied o a b) v))
    ≡ answer_or_trap (operation_result (Numbers o left right) x y w.objects) w
unfolding operation_result
two_numbers o left right x y w =
    two_steps (conversion_result (kind_conversion left (left_kind o left right)) x) (conversion_result (kind_conversion right (right_kind o left right)) y) (λ a b. operator_applied o a b) w

flag_answer : (r : Result Bool Trap) (d : Now)
    → with_answer r d (λ holds. goes_with_value d (Number Int (truth_number holds))) ≡ with_answer (flagged_value r) d (λ v. Goes (record d { operands = v ∷ d.operands }))
flag_answer (Ok holds) d = refl
flag_answer (Err t) d = refl

count_answer : (r : Result ℤ Trap) (d : Now)
    → with_answer r d (λ count. goes_with_value d (Number Int count)) ≡ with_answer (counted_value r) d (λ v. Goes (record d { operands = v ∷ d.operands }))
count_answer (Ok count) d = refl
count_answer (Err t) d = refl

flags : (r : Result Bool Trap) (w : World)
    → bind (answer_or_trap (logical_negation r) w) (λ y u. answer_or_trap (applied_to_one unary.Not y) u) ≡ bind (answer_or_trap r w) (λ holds. Go (flag_value holds))
unfolding applied_to_one
flags (Ok true) w = refl
flags (Ok false) w = refl
flags (Err t) w = refl

-- a flag is as true as what it was made of
truth_of_flag : (r : Result Bool Trap) (u : World) → bind (bind (answer_or_trap r u) (λ holds. Go (flag_value holds))) truth_value ≡ answer_or_trap r u
truth_of_flag (Ok true) u = refl
truth_of_flag (Ok false) u = refl
truth_of_flag (Err t) u = refl

flag_truth : (r : World → Out Scalar) (u : World) → bind (mean.as_flag r u) truth_value ≡ bind (r u) truth_value
flag_truth r u = bind_bind (r u) _ truth_value ∙ bind_same (r u) _ truth_value (λ v y. truth_of_flag (truth_of v) y)

both_truth : (h : Bool) (r : World → Out Scalar) (u : World)
    → chosen_part h (λ y. bind (r y) truth_value) (Go false) u ≡ bind (chosen_part h (mean.as_flag r) (Go (flag_value false)) u) truth_value
both_truth true r u = sym (flag_truth r u)
both_truth false r u = refl

either_truth : (h : Bool) (r : World → Out Scalar) (u : World)
    → chosen_part h (Go true) (λ y. bind (r y) truth_value) u ≡ bind (chosen_part h (Go (flag_value true)) (mean.as_flag r) u) truth_value
either_truth true r u = refl
either_truth false r u = sym (flag_truth r u)

opposite_truth : (r : Result Bool Trap) (u : World) → bind (answer_or_trap r u) (λ b. Go (not b)) ≡ bind (answer_or_trap (logical_negation r) u) truth_value
opposite_truth (Ok true) u = refl
opposite_truth (Ok false) u = refl
opposite_truth (Err t) u = refl

not_truth : (m : Out Scalar) → bind (bind m truth_value) (λ b. Go (not b)) ≡ bind (bind m (λ v u. answer_or_trap (applied_to_one unary.Not v) u)) truth_value
unfolding applied_to_one
not_truth m = bind_bind m truth_value _ ∙ bind_same m _ _ (λ v u. opposite_truth (truth_of v) u) ∙ sym (bind_bind m _ truth_value)

number_looked_at : (wanted : Want) (kind : Kind) (value : ℤ) (b : Bool) (w : World)
    → answer_or_trap (loaded_value wanted (Number kind value) w.objects) w
    ≡ bind (answer_or_trap (place.unless_zero b (Number kind value)) w) (λ p u. answer_or_trap (loaded_value wanted p u.objects) u)
unfolding loaded_value
number_looked_at wanted kind value true w = refl
number_looked_at wanted kind value false w = refl

module _ (z : Standing) where
  math_ok : (o : Binary) (x y : Scalar) → Sound z (λ xs. y ∷ x ∷ xs) (λ w. answer_or_trap (operator_applied o x y) w) (Does z.graph (node.Math o 0)) to plus
  unfolding row_effect
  math_ok o x y = answers z (node.Math o 0) (λ xs. y ∷ x ∷ xs) (λ w. operator_applied o x y) (λ xs w. refl)

  move_ok : (size : ℤ) (x y : Scalar) → Sound z (λ xs. y ∷ x ∷ xs) (λ w. answer_or_trap (moved_by size x y w.objects) w) (Does z.graph (node.Move size 0)) to plus
  unfolding row_effect
  move_ok size x y = answers z (node.Move size 0) (λ xs. y ∷ x ∷ xs) (λ w. moved_by size x y w.objects) (λ xs w. refl)

  order_ok : (o : Order) (x y : Scalar)
      → Sound z (λ xs. y ∷ x ∷ xs) (λ w. answer_or_trap (flagged_value (pointer_comparison o x y w.objects)) w) (Does z.graph (node.Order o 0)) to plus
  unfolding row_effect
  order_ok o x y = answers z (node.Order o 0) (λ xs. y ∷ x ∷ xs) (λ w. flagged_value (pointer_comparison o x y w.objects))
      (λ xs w. flag_answer (pointer_comparison o x y w.objects) (now z xs w))

  span_ok : (size : ℕ) (x y : Scalar)
      → Sound z (λ xs. y ∷ x ∷ xs) (λ w. answer_or_trap (counted_value (pointer_difference x y size w.objects)) w) (Does z.graph (node.Span size 0)) to plus
  unfolding row_effect
  span_ok size x y = answers z (node.Span size 0) (λ xs. y ∷ x ∷ xs) (λ w. counted_value (pointer_difference x y size w.objects))
      (λ xs w. count_answer (pointer_difference x y size w.objects) (now z xs w))

  pub operate_ok : (o : Operation) (x y : Scalar) → Sound z (λ xs. y ∷ x ∷ xs) (λ w. answer_or_trap (operation_result o x y w.objects) w) (way.Operates z.graph o) to plus
  unfolding operation_result row_effect
  operate_ok (Numbers o left right) x y = same_meaning z (two_numbers o left right x y)
      (seq z (converts_below_ok z (kind_conversion left (left_kind o left right)) x y) (λ a.
      seq z (under z (plus a) (converts_ok z (kind_conversion right (right_kind o left right)) y)) (λ b. math_ok o a b)))
  operate_ok (MoveLeft size) x y = move_ok size x y
  operate_ok (MoveRight size) x y = before z (node.Swap 0) (λ xs. y ∷ x ∷ xs) (λ xs w. refl) (move_ok size y x)
  operate_ok (Span size) x y = span_ok size x y
  operate_ok (Ordered o) x y = order_ok o x y
  operate_ok Wrong x y = stuck_ok z (λ xs. y ∷ x ∷ xs) to plus

  local_on : (i k : ℕ) (xs : Stack) (w : World) (o : Option ℕ)
      → step z.code (state z i xs w) ≡ go_on (z.ren k) (state z i xs w) (with_named o (now z xs w) (λ number. goes_with_value (now z xs w) (Place number 0)))
      → Reach z.code z.watch (state z i xs w) w.turns (place.object_place o w) (λ a u. state z k (a ∷ xs) u)
  local_on i k xs w None e = ends_over z.code _ _ e
  local_on i k xs w (Some number) e = (leads_one z.code _ _ e, le_self w.turns)

  pub member_ok : (o : Option ℕ) (p : Scalar) → Sound z (plus p) (place.member_place o p) (way.Member z.graph o) to plus
  unfolding row_effect
  member_ok None p = stuck_ok z (plus p) to plus
  member_ok (Some offset) p = answers z (node.Member offset 0) (plus p) (λ w. moved_pointer p (pos offset) w.objects) (λ xs w. refl)

  -- what the fork does with a value whose truth is known
  fork_goes : (holds : Bool) (i yes_at no_at : ℕ) (v : Scalar) (xs : Stack) (w : World) → truth_of v ≡ Ok holds → z.graph i (view.Forks yes_at no_at)
      → RunLeads z.code (state z i (v ∷ xs) w) (state z (if holds then yes_at else no_at) xs w)
  unfolding next_of
  fork_goes true i yes_at no_at v xs w e h = leads_one z.code _ _ (ap (λ x. next_of z.code x (state z i (v ∷ xs) w)) (z.stands.at i _ h)
      ∙ ap (λ r. branch_on_truth (z.ren yes_at) (z.ren no_at) (now z xs w) r (state z i (v ∷ xs) w)) e)
  fork_goes false i yes_at no_at v xs w e h = leads_one z.code _ _ (ap (λ x. next_of z.code x (state z i (v ∷ xs) w)) (z.stands.at i _ h)
      ∙ ap (λ r. branch_on_truth (z.ren yes_at) (z.ren no_at) (now z xs w) r (state z i (v ∷ xs) w)) e)

  pointed_true : (v : Scalar) → truth_of v ≡ Ok true
      → Sound z (λ xs. v ∷ v ∷ xs) (Go v) (Either (ForkTo z.graph) Nothing (Does z.graph (node.Load want.Pointer 0))) to plus
  pointed_true v e = record {
    runs = λ i k xs w le h.
        first z.code z.watch _ _ _ _ (Go v w) (λ x u. state z k (x ∷ xs) u) (fork_goes true i h.0 h.1 v (v ∷ xs) w e h.2) (le_self w.turns)
        (stay z h.0 k (v ∷ xs) w h.3, le_self w.turns);
  }

  pointed_false : (v : Scalar) (t : Trap) → truth_of v ≡ Ok false → ((o : Objects) → loaded_value want.Pointer v o ≡ Err t)
      → Sound z (λ xs. v ∷ v ∷ xs) (λ w. answer_or_trap (Err t) w) (Either (ForkTo z.graph) Nothing (Does z.graph (node.Load want.Pointer 0))) to plus
  unfolding row_effect
  pointed_false v t e l = record {
    runs = λ i k xs w le h.
        (fork_goes false i h.0 h.1 v (v ∷ xs) w e h.2).by _
        (ends_over z.code _ _ (row z (node.Load want.Pointer 0) h.1 k (v ∷ xs) w h.4
        ∙ ap (λ r. go_on (z.ren k) (state z h.1 (v ∷ xs) w) (with_answer r (now z xs w) (λ x. Goes (now z (x ∷ xs) w)))) (l w.objects)));
  }

  zero_pointed : (b : Bool) (kind : Kind) (value : ℤ) → is_zero value ≡ b
      → Sound z (λ xs. Number kind value ∷ Number kind value ∷ xs) (λ w. answer_or_trap (place.unless_zero b (Number kind value)) w)
      (Either (ForkTo z.graph) Nothing (Does z.graph (node.Load want.Pointer 0))) to plus
  unfolding loaded_value
  zero_pointed true kind value e = pointed_false (Number kind value) trap.Internal (ap (λ b. Ok (not b)) e) (λ o. refl)
  zero_pointed false kind value e = pointed_true (Number kind value) (ap (λ b. Ok (not b)) e)

  pub pointed_ok : (v : Scalar) → Sound z (plus v) (λ w. answer_or_trap (place.pointed_place v) w) (way.PointerPlace z.graph) to plus
  unfolding row_effect loaded_value next_of
  pointed_ok (Number kind value) = before z (node.Dup 0) (plus (Number kind value)) (λ xs w. refl) (zero_pointed (is_zero value) kind value refl)
  pointed_ok (Place o a) = before z (node.Dup 0) (plus (Place o a)) (λ xs w. refl) (pointed_true (Place o a) refl)
  pointed_ok Null = before z (node.Dup 0) (plus Null) (λ xs w. refl) (pointed_false Null trap.NullUse refl (λ o. refl))
  pointed_ok Undefined = before z (node.Dup 0) (plus Undefined) (λ xs w. refl) (record {
    runs = λ i k xs w le h.
        ends_over z.code _ _ (ap (λ x. next_of z.code x (state z i (Undefined ∷ Undefined ∷ xs) w)) (z.stands.at i _ h.2));
  })

  -- a load looks at its pointer as well
  looked_at : (wanted : Want) (v : Scalar) (w : World)
      → answer_or_trap (loaded_value wanted v w.objects) w ≡ bind (answer_or_trap (place.pointed_place v) w) (λ p u. answer_or_trap (loaded_value wanted p u.objects) u)
  unfolding loaded_value
  looked_at wanted (Number kind value) w = number_looked_at wanted kind value (is_zero value) w
  looked_at wanted v w = refl

  load_through_ok : (of : Option ValueType) (v : Scalar)
      → Sound z (plus v) (λ w. bind (answer_or_trap (place.pointed_place v) w) (load_at of)) (way.LoadThrough z.graph of) to plus
  load_through_ok (Some (type.Number kind)) v = same_meaning z (looked_at (want.Number kind) v) (load_ok z (Some (type.Number kind)) v)
  load_through_ok (Some (type.Pointer size)) v = same_meaning z (looked_at want.Pointer v) (load_ok z (Some (type.Pointer size)) v)
  load_through_ok of v = seq z (pointed_ok v) (λ p. load_ok z of p)

  through_ok : (of : Option ValueType) {m : World → Out Scalar} {R : Path ℕ} → Sound z bare m R to plus
      → SenseSound z (mean.sense_of_place of (λ w. bind (m w) (λ v u. answer_or_trap (place.pointed_place v) u))) (way.EmittedIndirection z.graph of R)
  through_ok of {m = m} a =
      let value : Sound z bare (λ w. bind (bind (m w) (λ v u. answer_or_trap (place.pointed_place v) u)) (load_at of)) _ to plus =
      same_meaning z (λ w. sym (bind_bind (m w) (λ v u. answer_or_trap (place.pointed_place v) u) (load_at of))) (seq z a (λ v. load_through_ok of v))
      in
      record {
        value = value;
        place = seq z a (λ v. pointed_ok v);
        effect = (placed_ok z of (seq z a (λ v. pointed_ok v))).effect;
        truth = tests_ok z value;
      }

  pub settled_ok : (known : Bool) (of : Option ValueType) (v : Scalar) → Sound z (plus v) (mean.loaded_operand known of v) (way.OperandValue z.graph known of) to plus
  settled_ok true of v = load_ok z of v
  settled_ok false of v = unchanged z v

  pub spot_ok : (known : Bool) {m : Sense} {R : Emitted} → SenseSound z m R → Sound z bare (mean.place_or_value known m) (way.PlaceOrValue z.graph known R) to plus
  spot_ok true a = a.place
  spot_ok false a = a.value

  pub postfixed_ok : (known : Bool) (of : Option ValueType) {m : World → Out Scalar} {R S : Path ℕ}
      → Sound z bare m R to plus → Sound z bare (λ w. value_discarded (m w)) (DroppedValue z.graph S) to none
      → SenseSound z (mean.postfixed_sense known of m) (way.Postfixed z.graph known of R S)
  postfixed_ok true of a b = placed_ok z of a
  postfixed_ok false of a b = record { value = a; place = stuck_ok z bare to plus; effect = b; truth = tests_ok z a }

  pub cast_ok : (b : Bool) (want : Option ValueType) {m : Sense} {R : Emitted} → SenseSound z m R
      → SenseSound z (mean.cast_sense b want m) (way.Cast z.graph b want R)
  cast_ok b (Some type.Void) a = effected_ok z a.effect
  cast_ok b want a = valued_ok z (handed_value_ok z b want a)

  pub comma_ok : (rest : ℕ) {m q : Sense} {R S : Emitted} → SenseSound z m R → SenseSound z q S
      → SenseSound z (mean.comma_sense rest m q) (way.Comma z.graph rest R S)
  comma_ok zero a b = a
  comma_ok (suc rest) {m = m} {q = q} a b = record {
    value = seq z a.effect (λ _. b.value);
    place = stuck_ok z bare to plus;
    effect = seq z a.effect (λ _. b.effect);
    truth = one_of_ok z (tests_ok z (seq z a.effect (λ _. b.value)))
        (same_meaning z (λ w. sym (bind_bind (m.effect w) (λ _. q.value) truth_value)) (seq z a.effect (λ _. b.truth)));
  }

  flagged_ok : (x : Scalar) → Sound z (plus x) (λ u. bind (truth_value x u) (λ holds. Go (flag_value holds))) (way.TruthAsInt z.graph) to plus
  unfolding applied_to_one
  flagged_ok x = same_meaning z (λ w. flags (truth_of x) w) (seq z (sole_ok z unary.Not x) (λ y. sole_ok z unary.Not y))

  as_flag_ok : {m : World → Out Scalar} {R : Path ℕ} → Sound z bare m R to plus → Sound z bare (mean.as_flag m) (R then way.TruthAsInt z.graph) to plus
  as_flag_ok a = seq z a (λ x. flagged_ok x)

  pub size_ok : (o : Option ℕ) → SenseSound z (mean.size_value o) (way.SizeValue z.graph o)
  size_ok None = valued_ok z (stuck_ok z bare to plus)
  size_ok (Some cells) = valued_ok z (push_ok z Unsigned (pos cells))

  one_operand_ok : (have want : Option ValueType) (o : Unary) (v : Scalar)
      → Sound z (plus v) (mean.one_operand have want o v) (way.OneOperand z.graph have want o) to plus
  one_operand_ok have want o v = seq z (converts_ok z (conversion have want) v) (λ x. sole_ok z o x)

  module _ (facts : Facts) (sites : Sites) (agrees : Agrees z.code facts sites) (call : Caller) where
    abbrev s : Setting
    s = setting z facts sites call

    marked : (site i k : ℕ) (v : Scalar) (xs : Stack) (w : World) (r : Result Seen Trap)
        → step z.code (state z i (v ∷ xs) w) ≡ seen_or_trapped r site (state z i (v ∷ xs) w) (λ t. On (at_node (z.ren k) t))
        → Reach z.code z.watch (state z i (v ∷ xs) w) w.turns (bind (answer_or_trap r w) (λ seen u. Go v (world_with_seen site seen u))) (λ a u. state z k (a ∷ xs) u)
    marked site i k v xs w (Ok seen) e = (leads_one z.code _ _ e, le_self w.turns)
    marked site i k v xs w (Err t) e = ends_over z.code _ _ e

    sees : (site : ℕ) (v : Scalar) (xs : Stack) (w : World) → sees_now (z.code.site site) (now z (v ∷ xs) w) ≡ seen_at_site (sites.site site) (Some v) z.locals w.objects
    sees site v xs w = ap (λ o. seen_at_site o (Some v) z.locals w.objects) (agrees.site site)

    mark_ok : (site : ℕ) (v : Scalar) → Sound z (plus v) (visit.observed_value s site v) (λ i k. z.graph i (view.Marks site k)) to plus
    unfolding next_of
    mark_ok site v = record {
      runs = λ i k xs w le h.
          marked site i k v xs w (seen_at_site (sites.site site) (Some v) z.locals w.objects)
          (ap (λ x. next_of z.code x (state z i (v ∷ xs) w)) (z.stands.at i _ h)
          ∙ ap (λ r. seen_or_trapped r site (state z i (v ∷ xs) w) (λ t. On (at_node (z.ren k) t))) (sees site v xs w));
    }

    pub marks_ok : (numbers : List ℕ) (v : Scalar) → Sound z (plus v) (visit.sites_visited s numbers v) (MarksAll z.graph numbers) to plus
    marks_ok [] v = unchanged z v
    marks_ok (site ∷ more) v = seq z (mark_ok site v) (λ x. marks_ok more x)

    pub decided_ok : (token : ℕ) (v : Scalar) → Sound z (plus v) (visit.visited_truth s token v) (way.VisitedFork z.graph facts sites token) way none
    decided_ok token v = seq z (marks_ok (site_list (sites.branch_at token)) v) (λ x. fork_ok z x)

    pub store_ok : (p v : Scalar) → Sound z (λ xs. v ∷ p ∷ xs) (place.store_at p v) (Does z.graph (node.Store 0)) to plus
    unfolding row_effect
    store_ok p v = changes z (node.Store 0) (λ xs. v ∷ p ∷ xs) v plus (λ w. value_stored p v w.objects) (λ xs w. refl)

    pub assigned_ok : (token : ℕ) (p v : Scalar) → Sound z (λ xs. v ∷ p ∷ xs) (place.assigned_at s token p v) (way.Assigned z.graph facts sites token) to plus
    assigned_ok token p v = seq z (store_ok p v) (λ x. marks_ok (sites.pairs_at token) x)

    pub variable_ok : (at : Option Slot) → Sound z bare (place.variable s at) (way.Variable z.graph at) to plus
    unfolding row_effect
    variable_ok None = stuck_ok z bare to plus
    variable_ok (Some (slot.Local index)) = record {
      runs = λ i k xs w le h. local_on i k xs w (local_at index z.locals)
          (row z (node.Local index 0) i k xs w h);
    }
    variable_ok (Some (slot.Global index)) = pushes z (node.Global index 0) (Place index 0) (λ xs w. refl)

    updates_ok : (token : ℕ) (of : Option ValueType) (o : Operation) (p old right : Scalar)
        → Sound z (λ xs. right ∷ old ∷ p ∷ xs) (λ u. bind (answer_or_trap (operation_result o old right u.objects) u) (λ x y.
        bind (as_wanted (conversion (type_given o of) of) x y) (place.assigned_at s token p))) (way.Updates z.graph facts sites token of o) to plus
    updates_ok token of o p old right =
        seq z (under z (plus p) (operate_ok o old right))
        (λ x. seq z (under z (plus p) (converts_ok z (conversion (type_given o of) of) x)) (λ y. assigned_ok token p y))

    changed_ok : (token : ℕ) (of : Option ValueType) (o : Operation) (p right : Scalar)
        → Sound z (λ xs. right ∷ p ∷ xs) (place.compound_result_stored s token of o p right) (way.CompoundAssigned z.graph facts sites token of o) to plus
    unfolding row_effect
    changed_ok token of o p right =
        before z (node.Over 0) (λ xs. right ∷ p ∷ xs) (λ xs w. refl) (seq z (under z (λ xs. right ∷ p ∷ xs) (load_ok z of p)) (λ old.
        before z (node.Swap 0) (λ xs. old ∷ right ∷ p ∷ xs) (λ xs w. refl) (updates_ok token of o p old right)))

    stepped_ok : (is_up : Bool) (token : ℕ) (of : Option ValueType) (p : Scalar)
        → Sound z (plus p) (place.stepped_value s is_up token of p) (way.Stepped z.graph facts sites is_up token of) to plus
    unfolding row_effect
    stepped_ok is_up token of p =
        before z (node.Dup 0) (plus p) (λ xs w. refl) (seq z (under z (plus p) (load_ok z of p)) (λ old.
        before z (node.Push (one_kind of) (pos 1) 0) (λ xs. old ∷ p ∷ xs) (λ xs w. refl)
        (updates_ok token of (place.step_operation is_up of) p old (Number (one_kind of) (pos 1)))))

    pub stepped_behind_ok : (is_up : Bool) (token : ℕ) (of : Option ValueType) (p : Scalar)
        → Sound z (plus p) (place.stepped_behind s is_up token of p) (way.SteppedBehind z.graph facts sites is_up token of) to plus
    unfolding row_effect
    stepped_behind_ok is_up token of p =
        before z (node.Dup 0) (plus p) (λ xs w. refl) (seq z (under z (plus p) (load_ok z of p)) (λ old.
        before z (node.Swap 0) (λ xs. old ∷ p ∷ xs) (λ xs w. refl) (before z (node.Over 0) (λ xs. p ∷ old ∷ xs) (λ xs w. refl)
        (before z (node.Push (one_kind of) (pos 1) 0) (λ xs. old ∷ p ∷ old ∷ xs) (λ xs w. refl)
        (seq z (under z (λ xs. p ∷ old ∷ xs) (operate_ok (place.step_operation is_up of) old (Number (one_kind of) (pos 1)))) (λ x.
        seq z (under z (λ xs. p ∷ old ∷ xs) (converts_ok z (conversion (type_given (place.step_operation is_up of) of) of) x)) (λ y.
        seq z (under z (plus old) (assigned_ok token p y)) (λ v. dropped_ok z old v))))))))

    -- where nothing takes the old value the new one does as well
    new_as_old : (is_up : Bool) (token : ℕ) (of : Option ValueType) (p : Scalar) (w : World)
        → value_discarded (place.stepped_value s is_up token of p w) ≡ value_discarded (place.stepped_behind s is_up token of p w)
    new_as_old is_up token of p w =
        bind_bind (load_at of p w) _ _ ∙ bind_same (load_at of p w) _ _ (λ old u.
        bind_bind (answer_or_trap (operation_result (place.step_operation is_up of) old (Number (one_kind of) (pos 1)) u.objects) u) _ _
        ∙ bind_same (answer_or_trap (operation_result (place.step_operation is_up of) old (Number (one_kind of) (pos 1)) u.objects) u) _ _ (λ x y.
        bind_bind (as_wanted (conversion (type_given (place.step_operation is_up of) of) of) x y) _ _
        ∙ bind_same (as_wanted (conversion (type_given (place.step_operation is_up of) of) of) x y) _ _ (λ v a. sym (bind_bind (place.assigned_at s token p v a) _ _))
        ∙ sym (bind_bind (as_wanted (conversion (type_given (place.step_operation is_up of) of) of) x y) _ _))
        ∙ sym (bind_bind (answer_or_trap (operation_result (place.step_operation is_up of) old (Number (one_kind of) (pos 1)) u.objects) u) _ _))
        ∙ sym (bind_bind (load_at of p w) _ _)

    pub dropped_step_ok : (is_up : Bool) (token : ℕ) (of : Option ValueType) (p : Scalar)
        → Sound z (plus p) (λ w. value_discarded (place.stepped_behind s is_up token of p w)) (DroppedValue z.graph (way.Stepped z.graph facts sites is_up token of)) to none
    dropped_step_ok is_up token of p = same_meaning z (new_as_old is_up token of p) (done_ok z (stepped_ok is_up token of p))

    pub linked_ok : (j : Joint) (token : ℕ) (left right : Option ValueType) {m : World → Out Scalar} {R : Path ℕ} (v : Scalar)
        → Sound z bare m R to plus → Sound z (plus v) (mean.value_after_link s j token left right m v) (way.Linked z.graph facts sites j token left right R) to plus
    linked_ok Both token left right v a = choice_ok z (decided_ok token v) (as_flag_ok a) (push_ok z Int (pos 0))
    linked_ok tree.Either token left right v a = choice_ok z (decided_ok token v) (push_ok z Int (pos 1)) (as_flag_ok a)
    linked_ok (Computes o) token left right v a = seq z (under z (plus v) a) (λ x. operate_ok (operation o left right) v x)
    linked_ok Unjoined token left right v a = stuck_ok z (plus v) to plus

    pub assign_ok : (token : ℕ) (how : Assignment) (b : Bool) (left right : Option ValueType) {m q : Sense} {R S : Emitted}
        → SenseSound z m R → SenseSound z q S
        → Sound z bare (mean.assigned_value s token how b left right m q) (way.Assign z.graph facts sites token how b left right R S) to plus
    assign_ok token Plain b left right a c = seq z a.place (λ p. seq z (under z (plus p) (wanted_ok z b right left c)) (λ x. assigned_ok token p x))
    assign_ok token (By o) b left right a c = seq z a.place (λ p. seq z (under z (plus p) c.value) (λ x. changed_ok token left (operation o left right) p x))

    decides_at_ok : (o : Option ℕ) {m : World → Out Scalar} {R : Path ℕ} {T : Path Ways} → Sound z bare m R to plus
        → Sound z bare (λ w. bind (m w) truth_value) T way none
        → Sound z bare (λ w. bind (m w) (λ v u. bind (visit.sites_visited s (site_list o) v u) truth_value)) (way.DecidesAt z.graph facts sites o R T) way none
    decides_at_ok None a b = b
    decides_at_ok (Some site) a b = seq z a (λ v. seq z (marks_ok (site ∷ []) v) (λ x. fork_ok z x))

    pub decides_ok : (token : ℕ) {m : World → Out Scalar} {R : Path ℕ} {T : Path Ways} → Sound z bare m R to plus
        → Sound z bare (λ w. bind (m w) truth_value) T way none
        → Sound z bare (λ w. bind (m w) (visit.visited_truth s token)) (way.Decides z.graph facts sites token R T) way none
    decides_ok token a b = decides_at_ok (sites.branch_at token) a b

    -- an operator of a chain that leaves its right side alone
    joins : (m : World → Out Scalar) (token : ℕ) (f : Bool → World → Out Bool) (g : Bool → World → Out Scalar)
        → ((b : Bool) (u : World) → f b u ≡ bind (g b u) truth_value) → (w : World)
        → bind (bind (m w) (visit.visited_truth s token)) f ≡ bind (bind (m w) (λ v u. bind (visit.visited_truth s token v u) g)) truth_value
    joins m token f g e w =
        bind_bind (m w) (visit.visited_truth s token) f
        ∙ bind_same (m w) _ _ (λ v u. bind_same (visit.visited_truth s token v u) f _ e ∙ sym (bind_bind (visit.visited_truth s token v u) g truth_value))
        ∙ sym (bind_bind (m w) _ truth_value)

    pub linked_truth_ok : (j : Joint) (token : ℕ) (left right : Option ValueType) {m r : World → Out Scalar} {R S : Path ℕ} {T U : Path Ways}
        → Sound z bare m R to plus → Sound z bare (λ w. bind (m w) truth_value) T way none → Sound z bare r S to plus
        → Sound z bare (λ w. bind (r w) truth_value) U way none
        → Sound z bare (λ w. bind (bind (m w) (mean.value_after_link s j token left right r)) truth_value)
        (way.LinkedTruth z.graph facts sites j token left right R T S U) way none
    linked_truth_ok Both token left right {m = m} {r = r} a b c d = same_meaning z (joins m token _ _ (λ h. both_truth h r))
        (choice_ok z (decides_ok token a b) d (falsely_ok z))
    linked_truth_ok tree.Either token left right {m = m} {r = r} a b c d = same_meaning z (joins m token _ _ (λ h. either_truth h r))
        (choice_ok z (decides_ok token a b) (truly_ok z) d)
    linked_truth_ok (Computes o) token left right a b c d = tests_ok z (seq z a (λ v. linked_ok (Computes o) token left right v c))
    linked_truth_ok Unjoined token left right {m = m} a b c d = same_meaning z (λ w. sym (bind_bind (m w) (λ v. stuck_run) truth_value))
        (seq z a (λ v. stuck_ok z (plus v) way none))

    pub conditional_ok : (token : ℕ) {c : Sense} {C : Emitted} {m q : World → Out Scalar} {R S : Path ℕ} {f g : World → OutDone} {F H : Path ℕ}
        → SenseSound z c C → Sound z bare m R to plus → Sound z bare q S to plus → Sound z bare f F to none → Sound z bare g H to none
        → SenseSound z (mean.conditional s token c m q f g) (way.Conditional z.graph facts sites token C R S F H)
    conditional_ok token {c = t} {m = m} {q = q} {f = f} {g = g} a b c d e =
        let value : Sound z bare (mean.conditional s token t m q f g).value _ to plus =
        same_meaning z (λ w. bind_bind (t.value w) (visit.visited_truth s token) _) (choice_ok z (decides_ok token a.value a.truth) b c)
        in
        record {
          value = value;
          place = stuck_ok z bare to plus;
          effect = same_meaning z (λ w. bind_bind (t.value w) (visit.visited_truth s token) _) (choice_ok z (decides_ok token a.value a.truth) d e);
          truth = tests_ok z value;
        }

    negated_ok : {m : Sense} {R : Emitted} → SenseSound z m R
        → SenseSound z (mean.sense_of_value (λ w. bind (m.value w) (λ v u. answer_or_trap (applied_to_one unary.Not v) u))) (way.Negated z.graph facts sites R)
    negated_ok {m = m} a = record {
      value = seq z a.value (λ v. sole_ok z unary.Not v);
      place = stuck_ok z bare to plus;
      effect = done_ok z (seq z a.value (λ v. sole_ok z unary.Not v));
      truth = one_of_ok z (tests_ok z (seq z a.value (λ v. sole_ok z unary.Not v))) (same_meaning z (λ w. not_truth (m.value w)) (turned_ok z a.truth));
    }

    pub prefixed_ok : (token : ℕ) (o : PrefixOperator) (of : Option ValueType) (cells : Option ℕ) {m : Sense} {R : Emitted} → SenseSound z m R
        → SenseSound z (mean.prefixed_sense s token o of cells m) (way.Prefixed z.graph facts sites token o of cells R)
    prefixed_ok token prefix.Increment of cells a = valued_ok z (seq z a.place (λ p. stepped_ok true token of p))
    prefixed_ok token prefix.Decrement of cells a = valued_ok z (seq z a.place (λ p. stepped_ok false token of p))
    prefixed_ok token prefix.Address of cells a = valued_ok z a.place
    prefixed_ok token prefix.Indirection of cells a = through_ok (facts.type_at token) a.value
    prefixed_ok token prefix.Plus of cells a = valued_ok z (seq z a.value (λ v. handed_ok z (facts.type_at token) v))
    prefixed_ok token prefix.Minus of cells a = valued_ok z (seq z a.value (λ v. one_operand_ok of (facts.type_at token) unary.Neg v))
    prefixed_ok token prefix.Complement of cells a = valued_ok z (seq z a.value (λ v. one_operand_ok of (facts.type_at token) unary.Com v))
    prefixed_ok token prefix.Not of cells a = negated_ok a
    prefixed_ok token prefix.SizeOf of cells a = size_ok cells

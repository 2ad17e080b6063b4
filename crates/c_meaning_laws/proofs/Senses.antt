-- Each operator, with operands that are safe.
use Rattle.std.proofs.Common.{ℕ, refl, Some, None, Bool, true, false}
use Rattle.std.proofs.lemmas.Bool.{false≢true}
use Rattle.std.specs.Prelude.{Option, IsTrue, IsSome, pos}
use Rattle.cbi_base.specs.Words.{Locals, applied_to_one}
use Rattle.cbi_base.specs.declared.operators.Unary.{Unary}
use Rattle.cbi_base.specs.declared.operators.Unary.TheVariants as unary
use Rattle.cbi_base.specs.declared.scalar.Kind.TheVariants.{Int, Unsigned}
use Rattle.cbi_base.specs.declared.scalar.Scalar.{Scalar}
use Rattle.cbi_base.specs.declared.scalar.Scalar.TheVariants.{Number, Null}
use Rattle.c_syntax.specs.declared.expr.PrefixOperator.{PrefixOperator}
use Rattle.c_syntax.specs.declared.expr.PrefixOperator.TheVariants as prefix
use Rattle.c_syntax.specs.ExprTree as e
use Rattle.c_syntax.specs.ExprTree.{ExprTree}
use Rattle.flow.specs.declared.site.Slot.{Slot}
use Rattle.c_meaning.specs.declared.operation.Operation.{Operation}
use Rattle.c_meaning.specs.declared.value_type.ValueType.{ValueType}
use Rattle.c_meaning.specs.declared.value_type.ValueType.TheVariants as type
use Rattle.c_meaning.specs.Words.{is_null_as, load_at, Sense, sense_of_value, sense_of_place, sense_of_effect, is_struct_value, null_or, arm_value, arm_effect, handed_value, cast_sense}
use Rattle.c_meaning.specs.Words.{as_flag, size_value, one_operand, value_after_link, assigned_value, conditional, prefixed_sense, Facts, Setting, flag_value, operation}
use Rattle.c_meaning.specs.Words.{type_given, compound_result_stored, pointed_place, stepped_behind, stepped_value, Assignment, Plain, By, Joint, Both, Either, Computes}
use Rattle.c_meaning.specs.Words.{Unjoined, is_place, one_kind, operand_type, step_of, token_of, type_of, World, Out, OutDone, Caller, chosen_part, value_discarded, no_effect}
use Rattle.c_meaning_laws.specs.Rules.{Arm, Assigns, Casts, Changes, IsNumberType, IsObject, IsPromoted, IsValue, Joins, TakesOrNull}
use Rattle.c_meaning_laws.specs.Typed.{PairsFit, Prefixes, Steps, variable_named}
use Rattle.c_meaning_laws.specs.TypedSource.{SitesFit}
use Rattle.c_meaning_laws.proofs.Safe.{Any, Calm, Safe, answers, chosen, done_safe, gives, seq, weaker}
use Rattle.c_meaning_laws.proofs.Values.{Fits, IsAt, at_fits, com_calm, handed_safe, handed_value_safe, neg_calm, not_calm}
use Rattle.c_meaning_laws.proofs.Values.{number_value, numbers_take, pointing_value, scalar_value, truth_safe, arm_value_safe, wanted_safe, wanted_value_safe}
use Rattle.c_meaning_laws.proofs.Memory.{load_safe, pointed_calm}
use Rattle.c_meaning_laws.proofs.Operations.{operate_safe, operates_value}
use Rattle.c_meaning_laws.proofs.Visits.{Spot, assigned_safe, bare, decided_safe, spot_at}

-- An expression of a type, which is a place or not, and names a variable or not: each of what it means is safe.
pub record SenseSafe (locals : Locals) (t : Option ValueType) (known : Bool) (slot : Option Slot) (m m0 : Sense) : Type 0 where
  pub value : IsValue t → Safe (Fits t) m.value m0.value
  pub place : IsTrue known → Safe (Spot locals slot) m.place m0.place
  pub effect : Safe Any m.effect m0.effect

pub valued_safe : {locals : Locals} {t : Option ValueType} {slot : Option Slot} {m m0 : World → Out Scalar} → Safe (Fits t) m m0
    → SenseSafe locals t false slot (sense_of_value m) (sense_of_value m0)
valued_safe h = record { value = λ _. h; place = λ i. absurd (false≢true i); effect = done_safe h }

pub effected_safe : {locals : Locals} {slot : Option Slot} {m m0 : World → OutDone} (t : Option ValueType) → (IsValue t → ⊥) → Safe Any m m0
    → SenseSafe locals t false slot (sense_of_effect m) (sense_of_effect m0)
effected_safe t n h = record { value = λ l. absurd (n l); place = λ i. absurd (false≢true i); effect = h }

object_effect : (t : Option ValueType) (v : Scalar) → IsObject t → IsAt v
    → Safe Any (chosen_part (is_struct_value t) no_effect (λ u. value_discarded (load_at t v u))) (chosen_part (is_struct_value t) no_effect (λ u. value_discarded (load_at t v u)))
object_effect (Some type.Struct) v h a = record { at = λ w. tt; same = λ w. refl }
object_effect (Some type.Void) v h a = absurd h
object_effect None v h a = absurd h
object_effect t v h a = done_safe (load_safe t v tt a)

pub placed_safe : {locals : Locals} {slot : Option Slot} {p p0 : World → Out Scalar} (t : Option ValueType) → IsObject t → Safe (Spot locals slot) p p0
    → SenseSafe locals t true slot (sense_of_place t p) (sense_of_place t p0)
placed_safe {locals = locals} {slot = slot} t h found = record {
  value = λ l. seq found (λ p spot. load_safe t p l (spot_at locals slot p spot));
  place = λ i. found;
  effect = seq found (λ p spot. object_effect t p h (spot_at locals slot p spot));
}

cast_value : (locals : Locals) (slot : Option Slot) (is_null : Bool) (t u : Option ValueType) (m m0 : Sense) → (IsValue u → Safe (Fits u) m.value m0.value)
    → TakesOrNull is_null t u
    → SenseSafe locals t false slot (sense_of_value (handed_value is_null t m)) (sense_of_value (handed_value is_null t m0))
cast_value locals slot is_null t u m m0 a h = valued_safe (weaker (λ v g. g.0) (handed_value_safe is_null t u m m0 h a))

pub cast_safe : (locals : Locals) (known : Bool) (slot other : Option Slot) (is_null : Bool) (t u : Option ValueType) (m m0 : Sense)
    → SenseSafe locals u known slot m m0 → Casts is_null t u
    → SenseSafe locals t false other (cast_sense is_null t m) (cast_sense is_null t m0)
cast_safe locals known slot other is_null (Some type.Void) u m m0 a h = effected_safe (Some type.Void) (λ v. v) a.effect
cast_safe locals known slot other is_null t u m m0 a h = cast_value locals other is_null t u m m0 a.value h

pub null_or_safe : (is_null : Bool) (t : Option ValueType) (m m0 : Sense) → Safe (Fits t) m.value m0.value
    → Safe (Fits (operand_type is_null t)) (null_or is_null m) (null_or is_null m0)
null_or_safe true t m m0 h = gives Null tt
null_or_safe false t m m0 h = record { at = h.at; same = h.same }

pub size_safe : {locals : Locals} {slot : Option Slot} (o : Option ℕ) → IsSome o → SenseSafe locals (Some (type.Number Unsigned)) false slot (size_value o)
    (size_value o)
size_safe None h = absurd (false≢true h)
size_safe (Some cells) h = valued_safe (gives (Number Unsigned (pos cells)) refl)

-- an arm of `? :`, where the value of the whole is used
pub arm_safe : (facts : Facts) (t : Option ValueType) (x : ExprTree) (m m0 : Sense) → (IsValue (type_of facts x) →
    Safe (Fits (type_of facts x)) m.value m0.value) → Arm facts t x → IsValue t
    → Safe (Fits t) (arm_value (is_null_as t x) (type_of facts x) t m) (arm_value (is_null_as t x) (type_of facts x) t m0)
arm_safe facts (Some type.Void) x m m0 a h l = absurd l
arm_safe facts (Some type.Struct) x m m0 a h l = absurd l
arm_safe facts None x m m0 a h l = absurd l
arm_safe facts t x m m0 a h l = arm_value_safe (is_null_as t x) t (type_of facts x) m m0 h a

no_arm : (b : Bool) (u : Option ValueType) → TakesOrNull b None u → ⊥
no_arm true u h = h
no_arm false u h = h

no_struct_arm : (b : Bool) (u : Option ValueType) → TakesOrNull b (Some type.Struct) u → ⊥
no_struct_arm true u h = h
no_struct_arm false u h = h

-- the same where nothing takes the value
pub arm_effect_safe : (facts : Facts) (t : Option ValueType) (x : ExprTree) (m m0 : Sense) → (IsValue (type_of facts x)
    → Safe (Fits (type_of facts x)) m.value m0.value) → Safe Any m.effect m0.effect → Arm facts t x
    → Safe Any (arm_effect (is_null_as t x) (type_of facts x) t m) (arm_effect (is_null_as t x) (type_of facts x) t m0)
arm_effect_safe facts (Some type.Void) x m m0 a b h = b
arm_effect_safe facts (Some type.Struct) x m m0 a b h = absurd (no_struct_arm (is_null_as (Some type.Struct) x) (type_of facts x) h)
arm_effect_safe facts None x m m0 a b h = absurd (no_arm (is_null_as None x) (type_of facts x) h)
arm_effect_safe facts t x m m0 a b h = done_safe (arm_safe facts t x m m0 a h tt)

flag_safe : (t : Option ValueType) (m m0 : World → Out Scalar) → Safe (Fits t) m m0 → Safe (Fits (Some (type.Number Int))) (as_flag m) (as_flag m0)
flag_safe t m m0 h = seq h (λ x f. seq (truth_safe x) (λ b _. gives (flag_value b) refl))

module _ (s : Setting) (call0 : Caller) (fit : SitesFit s.sites) where
  -- a place that is changed
  changed_safe : (token : ℕ) (slot : Option Slot) (t right : Option ValueType) (o : Operation) (p v : Scalar) → Changes o t right
      → PairsFit s.sites slot t (s.sites.pairs_at token)
      → Spot s.locals slot p → Fits right v → Safe (Fits t) (compound_result_stored s token t o p v) (compound_result_stored (bare s call0) token t o p v)
  changed_safe token slot t right o p v h k spot f =
      seq (load_safe t p (scalar_value t h.0) (spot_at s.locals slot p spot)) (λ old g.
      seq (operate_safe o t right (type_given o t) old v h.1 g f) (λ x q.
      seq (wanted_safe t (type_given o t) x h.2 q) (λ y r. assigned_safe s call0 token slot t p y k spot r)))

  pub stepped_safe : (is_up : Bool) (token : ℕ) (slot : Option Slot) (t : Option ValueType) (p : Scalar) → Steps s.facts s.sites is_up token slot t
      → Spot s.locals slot p
      → Safe (Fits t) (stepped_value s is_up token t p) (stepped_value (bare s call0) is_up token t p)
  stepped_safe is_up token slot t p h spot =
      changed_safe token slot t (Some (type.Number (one_kind t))) (operation (step_of is_up) t (Some (type.Number (one_kind t)))) p
      (Number (one_kind t) (pos 1)) h.0 h.1 spot refl

  pub stepped_behind_safe : (is_up : Bool) (token : ℕ) (slot : Option Slot) (t : Option ValueType) (p : Scalar) → Steps s.facts s.sites is_up token slot t
      → Spot s.locals slot p
      → Safe (Fits t) (stepped_behind s is_up token t p) (stepped_behind (bare s call0) is_up token t p)
  stepped_behind_safe is_up token slot t p h spot =
      let o : Operation = operation (step_of is_up) t (Some (type.Number (one_kind t))) in
      seq (load_safe t p (scalar_value t h.0.0) (spot_at s.locals slot p spot)) (λ old g.
      seq (operate_safe o t (Some (type.Number (one_kind t))) (type_given o t) old (Number (one_kind t) (pos 1)) h.0.1 g refl) (λ x q.
      seq (wanted_safe t (type_given o t) x h.0.2 q) (λ y r. seq (assigned_safe s call0 token slot t p y h.1 spot r) (λ _ _. gives old g))))

  pub assign_safe : (token : ℕ) (a : Assignment) (slot : Option Slot) (t : Option ValueType) (x : ExprTree) (goal goal0 m m0 : Sense)
      → Safe (Spot s.locals slot) goal.place goal0.place → (IsValue (type_of s.facts x) → Safe (Fits (type_of s.facts x)) m.value m0.value)
      → Assigns s.facts a t x → PairsFit s.sites slot t (s.sites.pairs_at token)
      → Safe (Fits t) (assigned_value s token a (is_null_as t x) t (type_of s.facts x) goal m) (assigned_value (bare s call0) token a (is_null_as t x) t
      (type_of s.facts x) goal0 m0)
  assign_safe token Plain slot t x goal goal0 m m0 a b h k =
      seq a (λ p spot. seq (wanted_value_safe (is_null_as t x) t (type_of s.facts x) m m0 h b) (λ v f. assigned_safe s call0 token slot t p v k spot f))
  assign_safe token (By o) slot t x goal goal0 m m0 a b h k =
      seq a (λ p spot. seq (b (operates_value (operation o t (type_of s.facts x)) t (type_of s.facts x)
      (type_given (operation o t (type_of s.facts x)) t) h.1)) (λ v f.
      changed_safe token slot t (type_of s.facts x) (operation o t (type_of s.facts x)) p v h k spot f))

  pub linked_safe : (j : Joint) (token : ℕ) (left right t : Option ValueType) (m m0 : World → Out Scalar) (v : Scalar) → Joins j left right t
      → Safe (Fits right) m m0 → Fits left v
      → Safe (Fits t) (value_after_link s j token left right m v) (value_after_link (bare s call0) j token left right m0 v)
  linked_safe Both token left right t m m0 v h a f = rw h (seq (decided_safe s call0 fit token v)
      (λ b _. chosen b (flag_safe right m m0 a) (gives (flag_value false) refl)))
  linked_safe Either token left right t m m0 v h a f = rw h (seq (decided_safe s call0 fit token v)
      (λ b _. chosen b (gives (flag_value true) refl) (flag_safe right m m0 a)))
  linked_safe (Computes o) token left right t m m0 v h a f = seq a (λ x g. operate_safe (operation o left right) left right t v x h f g)
  linked_safe Unjoined token left right t m m0 v h a f = absurd h

  pub conditional_safe : (token : ℕ) (t : Option ValueType) (slot : Option Slot) (c c0 : Sense) (u : Option ValueType) (x x0 y y0 : World → Out Scalar)
      (a a0 b b0 : World → OutDone)
      → Safe (Fits u) c.value c0.value → (IsValue t → Safe (Fits t) x x0) → (IsValue t → Safe (Fits t) y y0) → Safe Any a a0 → Safe Any b b0
      → SenseSafe s.locals t false slot (conditional s token c x y a b) (conditional (bare s call0) token c0 x0 y0 a0 b0)
  conditional_safe token t slot c c0 u x x0 y y0 a a0 b b0 h i j k l = record {
    value = λ used. seq h (λ v _. seq (decided_safe s call0 fit token v) (λ holds _. chosen holds (i used) (j used)));
    place = λ no. absurd (false≢true no);
    effect = seq h (λ v _. seq (decided_safe s call0 fit token v) (λ holds _. chosen holds k l));
  }

  promoted_number : (t : Option ValueType) → IsPromoted t → IsNumberType t
  promoted_number (Some (type.Number kind)) h = tt
  promoted_number t h = h

  turned_safe : (o : Unary) (t u : Option ValueType) (v : Scalar) → ((x : Scalar) → Fits t x → Calm (Fits t) (applied_to_one o x)) → IsPromoted t → IsNumberType u
      → Fits u v
      → Safe (Fits t) (one_operand u t o v) (one_operand u t o v)
  turned_safe o t u v c h k f =
      seq (wanted_safe t u v (numbers_take t u (promoted_number t h) k) f) (λ x g. answers (λ w. applied_to_one o x) (λ w. refl) (λ w. c x g))

  -- the operators before an operand
  pub prefixed_safe : (token : ℕ) (o : PrefixOperator) (x : ExprTree) (m m0 : Sense) → SenseSafe s.locals (type_of s.facts x) (is_place x)
      (variable_named s.facts x) m m0
      → Prefixes s.facts s.sites s.locals.count token o x (type_of s.facts x) (s.facts.type_at token)
      → SenseSafe s.locals (s.facts.type_at token) (is_place (e.Prefix token o x)) None (prefixed_sense s token o (type_of s.facts x)
      (s.facts.cells_at (token_of x)) m)
      (prefixed_sense (bare s call0) token o (type_of s.facts x) (s.facts.cells_at (token_of x)) m0)
  prefixed_safe token prefix.Increment x m m0 a h = valued_safe (rw h.1.2 (seq (a.place h.0)
      (λ p spot. stepped_safe true token (variable_named s.facts x) (type_of s.facts x) p h.1 spot)))
  prefixed_safe token prefix.Decrement x m m0 a h = valued_safe (rw h.1.2 (seq (a.place h.0)
      (λ p spot. stepped_safe false token (variable_named s.facts x) (type_of s.facts x) p h.1 spot)))
  prefixed_safe token prefix.Address x m m0 a h =
      valued_safe (weaker (λ p spot. at_fits (s.facts.type_at token) p h.1 (spot_at s.locals (variable_named s.facts x) p spot)) (a.place h.0))
  prefixed_safe token prefix.Indirection x m m0 a h =
      placed_safe (s.facts.type_at token) h.1 (seq (a.value (pointing_value (type_of s.facts x) h.0))
      (λ v f. answers (λ w. pointed_place v) (λ w. refl) (λ w. pointed_calm (type_of s.facts x) v h.0 f)))
  prefixed_safe token prefix.Plus x m m0 a h =
      valued_safe (seq (a.value (number_value (type_of s.facts x) h.0)) (λ v f.
      weaker (λ u g. g.0) (handed_safe (s.facts.type_at token) (type_of s.facts x) v (numbers_take (s.facts.type_at token) (type_of s.facts x) h.1 h.0) f)))
  prefixed_safe token prefix.Minus x m m0 a h =
      valued_safe (seq (a.value (number_value (type_of s.facts x) h.0)) (λ v f.
      turned_safe unary.Neg (s.facts.type_at token) (type_of s.facts x) v (λ u g. neg_calm (s.facts.type_at token) u h.1 g) h.1 h.0 f))
  prefixed_safe token prefix.Complement x m m0 a h =
      valued_safe (seq (a.value (number_value (type_of s.facts x) h.0)) (λ v f.
      turned_safe unary.Com (s.facts.type_at token) (type_of s.facts x) v (λ u g. com_calm (s.facts.type_at token) u h.1 g) h.1 h.0 f))
  prefixed_safe token prefix.Not x m m0 a h = valued_safe (seq (a.value h.0) (λ v f. answers (λ w. applied_to_one unary.Not v) (λ w. refl)
      (λ w. rw h.1 (not_calm v))))
  prefixed_safe token prefix.SizeOf x m m0 a h = rw h.1 (size_safe (s.facts.cells_at (token_of x)) h.0)

-- Declarations whose initialisers fit are safe.
use Rattle.std.proofs.Common.{◌≡◌, ℕ, suc, ◌+◌, refl, List, [], ◌∷◌, Some, None}
use Rattle.std.proofs.lemmas.Bool.{false≢true}
use Rattle.std.specs.Prelude.{Option, pos, IsSome}
use Rattle.cbi_base.specs.Words.{local_at, moved_pointer, value_stored, stored_bytes}
use Rattle.cbi_base.specs.declared.scalar.Scalar.{Scalar}
use Rattle.c_syntax.specs.ExprTree as e
use Rattle.c_syntax.specs.Words.{ExprTree, ExprList, InitialTree, StartTree}
use Rattle.c_syntax.specs.StatementTree as tree
use Rattle.flow.specs.declared.program.Text.{Text}
use Rattle.flow.specs.declared.site.Slot.{Slot}
use Rattle.flow.specs.declared.site.Slot.TheVariants as slot
use Rattle.c_meaning.specs.declared.value_type.ValueType.{ValueType}
use Rattle.c_meaning.specs.declared.value_type.ValueType.TheVariants as type
use Rattle.c_meaning.specs.Words.{is_null_as, Setting, all_started, variable_cleared, element_set, elements_set, equals_token, variable_initialised, object_of, on_object}
use Rattle.c_meaning.specs.Words.{scalar_set, string_stored, value_set, want_of, array_zeroed, text_of_string, member_place, store_at, type_of, World, OutDone, Caller}
use Rattle.c_meaning_laws.specs.Rules.{Accepts, IsScalar}
use Rattle.c_meaning_laws.specs.Typed.{HasSlot, PairsFit, Typed}
use Rattle.c_meaning_laws.specs.TypedSource.{SitesFit}
use Rattle.c_meaning_laws.specs.TypedStatements.{IsLocal, TypedElements, TypedInitial, TypedStarts, TypedValue}
use Rattle.c_meaning_laws.proofs.Safe.{Any, Safe, answers, done_safe, gives, seq}
use Rattle.c_meaning_laws.proofs.Values.{IsAt, wanted_value_safe}
use Rattle.c_meaning_laws.proofs.Memory.{moved_at, spelled_calm, stored_calm}
use Rattle.c_meaning_laws.proofs.Visits.{CallsSafe, assigned_safe, bare, spot_at}
use Rattle.c_meaning_laws.proofs.Expressions.{expr_safe, local_known, variable_safe}

clear_safe : (number : ℕ) → Safe Any (variable_cleared number) (variable_cleared number)
clear_safe number = record { at = λ w. tt; same = λ w. refl }

zeroed_safe : (t : Option ValueType) (number : ℕ) → IsScalar t → Safe Any (array_zeroed (want_of t) number) (array_zeroed (want_of t) number)
zeroed_safe (Some (type.Number kind)) number h = record { at = λ w. tt; same = λ w. refl }
zeroed_safe (Some (type.Pointer size)) number h = record { at = λ w. tt; same = λ w. refl }
zeroed_safe t number h = absurd h

spell_safe : (o : Option Text) (number : ℕ) → IsSome o → Safe Any (string_stored o number) (string_stored o number)
spell_safe None number h = absurd (false≢true h)
spell_safe (Some text) number h =
    seq (answers (λ w. stored_bytes number 0 text.bytes w.objects) (λ w. refl) (λ w. spelled_calm number 0 text.bytes w.objects))
    (λ o _. record { at = λ w. tt; same = λ w. refl })

store_safe : (p v : Scalar) → IsAt p → Safe Any (store_at p v) (store_at p v)
store_safe p v h = seq (answers (λ w. value_stored p v w.objects) (λ w. refl) (λ w. stored_calm p v w.objects h)) (λ o _. record { at = λ w. tt; same = λ w. refl })

element_safe : (index : ℕ) (p : Scalar) → IsAt p → Safe IsAt (member_place (Some index) p) (member_place (Some index) p)
element_safe index p h = answers (λ w. moved_pointer p (pos index) w.objects) (λ w. refl) (λ w. moved_at p (pos index) w.objects h)

module _ (s : Setting) (call0 : Caller) (fit : SitesFit s.sites) (calls : CallsSafe s.facts s.call call0) where
  on_local_safe : (o : Option Slot) (act act0 : ℕ → World → OutDone) → IsLocal s.facts s.sites s.locals.count o
      → ((number : ℕ) → Safe Any (act number) (act0 number))
      → Safe Any (on_object (object_of s o) act) (on_object (object_of (bare s call0) o) act0)
  on_local_safe (Some (slot.Local index)) act act0 h a =
      let known : local_at index s.locals ≡ Some (s.locals.first + index) = local_known s.locals index h
      in record { at = λ w. rw known ((a (s.locals.first + index)).at w); same = λ w. rw known ((a (s.locals.first + index)).same w) }
  on_local_safe o act act0 h a = absurd h

  local_slot : (o : Option Slot) → IsLocal s.facts s.sites s.locals.count o → HasSlot s.facts s.sites s.locals.count o
  local_slot (Some (slot.Local index)) h = h
  local_slot o h = absurd h

  scalar_set_safe : (token : ℕ) (x : ExprTree) → HasSlot s.facts s.sites s.locals.count (s.facts.slot_at token) → Typed s.facts s.sites s.locals.count x
      → Accepts s.facts (s.facts.declared_at token) x → PairsFit s.sites (s.facts.slot_at token) (s.facts.declared_at token) (s.sites.pairs_at
      (equals_token token))
      → Safe Any (scalar_set s token x) (scalar_set (bare s call0) token x)
  scalar_set_safe token x l h k p =
      seq (variable_safe s call0 fit calls (s.facts.slot_at token) l) (λ place spot.
      seq (wanted_value_safe (is_null_as (s.facts.declared_at token) x) (s.facts.declared_at token) (type_of s.facts x) _ _ k
      (expr_safe s call0 fit calls x h).value) (λ v f.
      done_safe (assigned_safe s call0 (equals_token token) (s.facts.slot_at token) (s.facts.declared_at token) place v p spot f)))

  element_set_safe : (token index : ℕ) (x : ExprTree) → HasSlot s.facts s.sites s.locals.count (s.facts.slot_at token) →
      Typed s.facts s.sites s.locals.count x
      → Accepts s.facts (s.facts.element_at token) x → Safe Any (element_set s token index x) (element_set (bare s call0) token index x)
  element_set_safe token index x l h k =
      seq (variable_safe s call0 fit calls (s.facts.slot_at token) l) (λ a spot.
      seq (element_safe index a (spot_at s.locals (s.facts.slot_at token) a spot)) (λ p at.
      seq (wanted_value_safe (is_null_as (s.facts.element_at token) x) (s.facts.element_at token) (type_of s.facts x) _ _ k
      (expr_safe s call0 fit calls x h).value) (λ v f.
      done_safe (store_safe p v at))))

  elements_safe : (token index : ℕ) (xs : ExprList) → HasSlot s.facts s.sites s.locals.count (s.facts.slot_at token)
      → TypedElements s.facts s.sites s.locals.count (s.facts.element_at token) xs
      → Safe Any (elements_set s token index xs) (elements_set (bare s call0) token index xs)
  elements_safe token index e.no_exprs l h = gives tt tt
  elements_safe token index (e.more_exprs x rest) l h = seq (element_set_safe token index x l h.0 h.1) (λ _ _. elements_safe token (suc index) rest l h.2)

  text_set_safe : (token : ℕ) (x : ExprTree) → IsLocal s.facts s.sites s.locals.count (s.facts.slot_at token) → IsScalar (s.facts.element_at token)
      → IsSome (text_of_string s.facts x)
      → Safe Any (value_set s token (Some (type.Array 0)) x) (value_set (bare s call0) token (Some (type.Array 0)) x)
  text_set_safe token x l h k =
      seq (on_local_safe (s.facts.slot_at token) (array_zeroed (want_of (s.facts.element_at token))) (array_zeroed (want_of (s.facts.element_at token))) l
      (λ n. zeroed_safe (s.facts.element_at token) n h))
      (λ _ _. on_local_safe (s.facts.slot_at token) (string_stored (text_of_string s.facts x)) (string_stored (text_of_string s.facts x)) l (λ n. spell_safe (text_of_string s.facts x) n k))

  value_set_safe : (token : ℕ) (t : Option ValueType) (x : ExprTree) → IsLocal s.facts s.sites s.locals.count (s.facts.slot_at token)
      → TypedValue s.facts s.sites s.locals.count token t x
      → Safe Any (value_set s token t x) (value_set (bare s call0) token t x)
  value_set_safe token (Some (type.Array size)) x l h = text_set_safe token x l h.0 h.1
  value_set_safe token t x l h = scalar_set_safe token x (local_slot (s.facts.slot_at token) l) h.0 h.1 h.2

  initialised_safe : (token : ℕ) (x : Option InitialTree) → IsLocal s.facts s.sites s.locals.count (s.facts.slot_at token)
      → TypedInitial s.facts s.sites s.locals.count token x
      → Safe Any (variable_initialised s token x) (variable_initialised (bare s call0) token x)
  initialised_safe token None l h = gives tt tt
  initialised_safe token (Some (tree.Value x)) l h = value_set_safe token (s.facts.declared_at token) x l h
  initialised_safe token (Some (tree.Braced at items comma)) l h =
      seq (on_local_safe (s.facts.slot_at token) (array_zeroed (want_of (s.facts.element_at token))) (array_zeroed (want_of (s.facts.element_at token))) l
      (λ n. zeroed_safe (s.facts.element_at token) n h.0))
      (λ _ _. elements_safe token 0 items (local_slot (s.facts.slot_at token) l) h.1)

  pub starts_safe : (xs : List StartTree) → TypedStarts s.facts s.sites s.locals.count xs → Safe Any (all_started s xs) (all_started (bare s call0) xs)
  starts_safe [] h = gives tt tt
  starts_safe (x ∷ xs) h =
      seq (seq (on_local_safe (s.facts.slot_at x.declarator.name_token) variable_cleared variable_cleared h.0 clear_safe)
      (λ _ _. initialised_safe x.declarator.name_token x.initial h.0 h.1))
      (λ _ _. starts_safe xs h.2)

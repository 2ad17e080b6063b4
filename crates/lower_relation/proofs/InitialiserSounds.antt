-- Each declaration does what it means.
use Rattle.std.proofs.Common.{◌≡◌, ℕ, suc, refl, ap, subst, sym, ◌∙◌, List, [], ◌∷◌, Option, Some, None, Ok, Err}
use Rattle.std.specs.Prelude.{Result, slice_get}
use Rattle.std.specs.Option.{option_and_then}
use Rattle.cbi_base.specs.Words.{zero_value, object_filled, local_at, Objects, object_made_undefined, stored_bytes}
use Rattle.cbi_base.specs.declared.scalar.Want.{Want}
use Rattle.cbi_base.specs.declared.trap.Trap.{Trap}
use Rattle.c_syntax.specs.ExprTree as e
use Rattle.c_syntax.specs.Words.{ExprTree, ExprList, InitialTree, StartTree, DeclarationTree}
use Rattle.c_syntax.specs.StatementTree as tree
use Rattle.flow.specs.declared.node.Node.TheVariants as node
use Rattle.flow.specs.declared.program.Text.{Text}
use Rattle.flow.specs.declared.site.Slot.{Slot}
use Rattle.flow.specs.declared.site.Slot.TheVariants as slot
use Rattle.flow.specs.Words.{go_on, step, Goes, with_answer, with_named, with_objects, row_effect}
use Rattle.flow.proofs.Endings.{ends_over, leads_one}
use Rattle.c_meaning.specs.declared.value_type.ValueType.{ValueType}
use Rattle.c_meaning.specs.declared.value_type.ValueType.TheVariants as type
use Rattle.c_meaning.specs.Words.{is_null_as, Facts, Setting, Sites, equals_token, object_of, on_object, want_of, text_of_string, type_of, World, Caller}
use Rattle.c_meaning.specs.Words.{OutDone, answer_or_trap, bind, no_effect, stuck_run}
use Rattle.c_meaning.specs.Initialisers as mean
use Rattle.lower_relation.specs.Expressions.{number_of_text}
use Rattle.lower_relation.specs.Initialisers as way
use Rattle.lower_relation.specs.Paths.{Path}
use Rattle.lower_relation.specs.Stands.{Agrees}
use Rattle.lower_relation.proofs.Reach.{Reach, Stack, le_self}
use Rattle.lower_relation.proofs.Sounds.{CallsSound, Standing, Sound, bare, none, nothing_ok, now, plus, row, same_meaning, seq, setting, state, stuck_ok, to, under}
use Rattle.lower_relation.proofs.ValueSounds.{done_ok, wanted_ok}
use Rattle.lower_relation.proofs.OperatorSounds.{assigned_ok, member_ok, store_ok, variable_ok}
use Rattle.lower_relation.proofs.ExpressionSounds.{expr_ok, text_found}

-- what is stuck on any object
stuck_on : (o : Option ℕ) (w : World) → stuck_run w ≡ on_object o (λ number. stuck_run) w
stuck_on None w = refl
stuck_on (Some number) w = refl

module _ (z : Standing) where
  -- a local variable's object is changed
  sets_on : (i k : ℕ) (xs : Stack) (w : World) (o : Option ℕ) (f : ℕ → Objects → Objects)
      → step z.code (state z i xs w) ≡ go_on (z.ren k) (state z i xs w)
      (with_named o (now z xs w) (λ number. Goes (with_objects (now z xs w) (f number w.objects))))
      → Reach z.code z.watch (state z i xs w) w.turns (on_object o (λ number u. no_effect (record u { objects = f number u.objects })) w) (λ a u. state z k xs u)
  sets_on i k xs w None f e = ends_over z.code _ _ e
  sets_on i k xs w (Some number) f e = (leads_one z.code _ _ e, le_self w.turns)

  clears_ok : (index : ℕ) → Sound z bare (on_object (local_at index z.locals) mean.variable_cleared) (way.Clears z.graph index) to none
  unfolding row_effect
  clears_ok index = record { runs = λ i k xs w le h. sets_on i k xs w (local_at index z.locals) object_made_undefined (row z (node.Clear index 0) i k xs w h) }

  zeroes_ok : (wanted : Option Want) (index : ℕ)
      → Sound z bare (on_object (local_at index z.locals) (mean.array_zeroed wanted)) (way.Zeroes z.graph wanted index) to none
  unfolding row_effect
  zeroes_ok None index = same_meaning z (stuck_on (local_at index z.locals)) (stuck_ok z bare to none)
  zeroes_ok (Some wanted) index = record {
    runs = λ i k xs w le h.
        sets_on i k xs w (local_at index z.locals) (λ number. object_filled number (zero_value wanted)) (row z (node.Zero index wanted 0) i k xs w h);
  }

  spelt : (i k : ℕ) (xs : Stack) (w : World) (r : Result Objects Trap)
      → step z.code (state z i xs w) ≡ go_on (z.ren k) (state z i xs w) (with_answer r (now z xs w) (λ objects. Goes (with_objects (now z xs w) objects)))
      → Reach z.code z.watch (state z i xs w) w.turns (bind (answer_or_trap r w) (λ objects u. no_effect (record u { objects = objects }))) (λ a u. state z k xs u)
  spelt i k xs w (Ok objects) e = (leads_one z.code _ _ e, le_self w.turns)
  spelt i k xs w (Err t) e = ends_over z.code _ _ e

  spells_on : (i k : ℕ) (xs : Stack) (w : World) (o : Option ℕ) (text : Text)
      → step z.code (state z i xs w) ≡ go_on (z.ren k) (state z i xs w) (with_named o (now z xs w) (λ number.
      with_answer (stored_bytes number 0 text.bytes w.objects) (now z xs w) (λ objects. Goes (with_objects (now z xs w) objects))))
      → Reach z.code z.watch (state z i xs w) w.turns (on_object o (mean.string_stored (Some text)) w) (λ a u. state z k xs u)
  spells_on i k xs w None text e = ends_over z.code _ _ e
  spells_on i k xs w (Some number) text e = spelt i k xs w (stored_bytes number 0 text.bytes w.objects) e

  spells_by : (number index : ℕ) (o : Option Text) → slice_get z.code.statics.texts number ≡ o
      → Sound z bare (on_object (local_at index z.locals) (mean.string_stored o)) (way.Spells z.graph (Some number) o index) to none
  unfolding row_effect
  spells_by number index None at = same_meaning z (stuck_on (local_at index z.locals)) (stuck_ok z bare to none)
  spells_by number index (Some text) at = record {
    runs = λ i k xs w le h.
        spells_on i k xs w (local_at index z.locals) text (row z (node.Spell index number 0) i k xs w h
        ∙ ap (λ o. go_on (z.ren k) (state z i xs w) (with_named (local_at index z.locals) (now z xs w) (λ number. with_named o (now z xs w) (λ t.
        with_answer (stored_bytes number 0 t.bytes w.objects) (now z xs w) (λ objects. Goes (with_objects (now z xs w) objects)))))) at);
  }

  module _ (facts : Facts) (sites : Sites) (agrees : Agrees z.code facts sites) (call : Caller) (calls : CallsSound z.code z.watch facts z.turns call) where
    abbrev s : Setting
    s = setting z facts sites call

    on_local_ok : (at : Option Slot) (m : ℕ → World → OutDone) (R : ℕ → Path ℕ)
        → ((index : ℕ) → Sound z bare (on_object (local_at index z.locals) m) (R index) to none)
        → Sound z bare (on_object (object_of s at) m) (way.OnLocal z.graph at R) to none
    on_local_ok None m R a = stuck_ok z bare to none
    on_local_ok (Some (slot.Global index)) m R a = stuck_ok z bare to none
    on_local_ok (Some (slot.Local index)) m R a = a index

    spells_ok : (number : Option ℕ) (index : ℕ)
        → Sound z bare (on_object (local_at index z.locals) (mean.string_stored (option_and_then (slice_get facts.statics.texts) number)))
        (way.Spells z.graph number (option_and_then (slice_get facts.statics.texts) number) index) to none
    spells_ok None index = same_meaning z (stuck_on (local_at index z.locals)) (stuck_ok z bare to none)
    spells_ok (Some number) index = spells_by number index (slice_get facts.statics.texts number) (ap (λ st. slice_get st.texts number) agrees.statics)

    text_ok : (x : ExprTree) (index : ℕ)
        → Sound z bare (on_object (local_at index z.locals) (mean.string_stored (text_of_string facts x)))
        (way.Spells z.graph (number_of_text facts x) (text_of_string facts x) index) to none
    text_ok x index = subst (λ o. Sound z bare (on_object (local_at index z.locals) (mean.string_stored o))
        (way.Spells z.graph (number_of_text facts x) o index) to none)
        (sym (text_found facts x)) (spells_ok (number_of_text facts x) index)

    scalar_ok : (token : ℕ) (value : ExprTree) → Sound z bare (mean.scalar_set s token value) (way.ScalarSet z.graph facts sites token value) to none
    scalar_ok token value =
        seq z (variable_ok z facts sites agrees call (facts.slot_at token)) (λ p.
        seq z (under z (plus p) (wanted_ok z (is_null_as (facts.declared_at token) value) (type_of facts value) (facts.declared_at token)
        (expr_ok z facts sites agrees call calls value)))
        (λ x. done_ok z (assigned_ok z facts sites agrees call (equals_token token) p x)))

    element_ok : (token index : ℕ) (value : ExprTree)
        → Sound z bare (mean.element_set s token index value) (way.ElementSet z.graph facts sites token index value) to none
    element_ok token index value =
        seq z (variable_ok z facts sites agrees call (facts.slot_at token)) (λ a. seq z (member_ok z (Some index) a) (λ p.
        seq z (under z (plus p) (wanted_ok z (is_null_as (facts.element_at token) value) (type_of facts value) (facts.element_at token)
        (expr_ok z facts sites agrees call calls value)))
        (λ x. done_ok z (store_ok z facts sites agrees call p x))))

    elements_ok : (token index : ℕ) (x : ExprList)
        → Sound z bare (mean.elements_set s token index x) (way.ElementsSet z.graph facts sites token index x) to none
    elements_ok token index e.no_exprs = nothing_ok z
    elements_ok token index (e.more_exprs value rest) = seq z (element_ok token index value) (λ _. elements_ok token (suc index) rest)

    zeroed_ok : (token : ℕ) → Sound z bare (mean.on_local s token (mean.array_zeroed (want_of (facts.element_at token))))
        (way.ArrayZeroed z.graph facts sites token) to none
    zeroed_ok token = on_local_ok (facts.slot_at token) _ _ (zeroes_ok (want_of (facts.element_at token)))

    value_ok : (token : ℕ) (of : Option ValueType) (value : ExprTree)
        → Sound z bare (mean.value_set s token of value) (way.ValueSet z.graph facts sites token of value) to none
    value_ok token (Some (type.Array size)) value = seq z (zeroed_ok token) (λ _. on_local_ok (facts.slot_at token) _ _ (text_ok value))
    value_ok token of value = scalar_ok token value

    initialised_ok : (token : ℕ) (x : Option InitialTree) → Sound z bare (mean.variable_initialised s token x) (way.Initialised z.graph facts sites token x) to none
    initialised_ok token None = nothing_ok z
    initialised_ok token (Some (tree.Value value)) = value_ok token (facts.declared_at token) value
    initialised_ok token (Some (tree.Braced at items comma)) = seq z (zeroed_ok token) (λ _. elements_ok token 0 items)

    started_ok : (x : StartTree) → Sound z bare (mean.variable_started s x) (way.VariableStarts z.graph facts sites x) to none
    started_ok x = seq z (on_local_ok (facts.slot_at x.declarator.name_token) _ _ clears_ok) (λ _. initialised_ok x.declarator.name_token x.initial)

    all_started_ok : (xs : List StartTree) → Sound z bare (mean.all_started s xs) (way.VariablesStart z.graph facts sites xs) to none
    all_started_ok [] = nothing_ok z
    all_started_ok (x ∷ xs) = seq z (started_ok x) (λ _. all_started_ok xs)

    pub declares_ok : (d : DeclarationTree) → Sound z bare (mean.declaration_done s d) (way.DeclarationPath z.graph facts sites d) to none
    declares_ok d = all_started_ok d.starts

-- What a declaration leaves of a variable.
use Rattle.std.proofs.Common.{◌≡◌, ℕ, ◌<◌, ◌++◌, Bool, true, false, cond, map, List, [], ◌∷◌, length, Option, Some, None, Ok, Err, refl, ap, ◌∙◌, sym, option_map, slice_get, subst}
use Rattle.std.proofs.lemmas.Option.{slice_get-map}
use Rattle.std.specs.FinMap.{get, get-insert}
use Rattle.std.specs.Cmp.{nat_cmp_total}
use Rattle.std.specs.Ordering.{eq_by_cmp, nat_cmp}
use Rattle.cbi_base.specs.declared.outcome.Outcome.TheVariants.{Trapped}
use Rattle.cbi_base.specs.declared.scalar.Scalar.{Scalar}
use Rattle.cbi_base.specs.declared.scalar.Scalar.TheVariants.{Place, Undefined}
use Rattle.cbi_base.specs.declared.scalar.Want.{Want}
use Rattle.cbi_base.specs.declared.scalar.Want.TheVariants as want
use Rattle.cbi_base.specs.declared.trap.Trap.TheVariants as trap
use Rattle.cbi_base.specs.Objects.{Object, Objects, found_cell, loaded_value, undefined_in}
use Rattle.c_syntax.specs.StatementTree.{InitialTree, StartTree}
use Rattle.c_meaning.specs.declared.value_type.ValueType.{ValueType}
use Rattle.c_meaning.specs.declared.value_type.ValueType.TheVariants as type
use Rattle.c_meaning.specs.Words.{load_at, Setting, all_started, variable_cleared, declaration_done, variable_initialised, object_of, on_object, variable_started, World, Stop, answer_or_trap, bind}
use Rattle.c_meaning_laws.specs.Rules.{IsScalar}
use Rattle.c_meaning_laws.specs.Declared.{AreBare, DeclaredHoldsNothing, HoldsNothing, ReadIsMet}
use Rattle.c_meaning_laws.proofs.Objects.{cell_within, load_found, load_in, put_found}
use Rattle.c_meaning_laws.proofs.Parts.{Ends, anything, bind_go, ends_bind, ends_go}
use Rattle.c_meaning_laws.proofs.Places.{variable_found}

abbrev blank : Scalar → Scalar
blank v = Undefined

-- each cell that it has is undefined
abbrev IsBlank : Option Object → Type 0
IsBlank None = Unit {0}
IsBlank (Some object) = (place : ℕ) → slice_get object.cells place ≡ option_map blank (slice_get object.cells place)

blank_twice : (c : Option Scalar) → option_map blank (option_map blank c) ≡ option_map blank c
blank_twice None = refl
blank_twice (Some v) = refl

all_blank : (object : Object) → IsBlank (Some (record object { cells = map blank object.cells }))
all_blank object place =
    let mapped : slice_get (map blank object.cells) place ≡ option_map blank (slice_get object.cells place) = slice_get-map blank object.cells place in
    mapped ∙ sym (ap (option_map blank) mapped ∙ blank_twice (slice_get object.cells place))

either_blank : (b : Bool) (object : Object) (o : Option Object) → IsBlank o → IsBlank (cond b (Some (record object { cells = map blank object.cells })) o)
either_blank true object o h = all_blank object
either_blank false object o h = h

clear_blank : (o : Objects) (number : ℕ) (at : Option Object) → get o.live number ≡ at → IsBlank (get (undefined_in o number at).live number)
clear_blank o number None e = subst IsBlank (sym e) tt
clear_blank o number (Some object) e =
    subst IsBlank (sym (put_found o number (record object { cells = map blank object.cells }))) (all_blank object)

stays_blank : (o : Objects) (number other : ℕ) (at : Option Object) → IsBlank (get o.live number) → IsBlank (get (undefined_in o other at).live number)
stays_blank o number other None h = h
stays_blank o number other (Some object) h =
    subst IsBlank (sym (get-insert nat_cmp_total o.live other (record object { cells = map blank object.cells }) number))
    (either_blank (eq_by_cmp nat_cmp number other) object (get o.live number) h)

no_cell : (wanted : Want) (c : Option Scalar) (v : Scalar) → found_cell wanted (option_map blank c) ≡ Ok v → ⊥
no_cell wanted None v h = cc
no_cell wanted (Some x) v h = cc

no_load : (wanted : Want) (place : ℕ) (at : Option Object) (v : Scalar) → IsBlank at → load_in wanted place at ≡ Ok v → ⊥
no_load wanted place None v h e = cc
no_load wanted place (Some object) v h e = no_cell wanted (slice_get object.cells place) v (ap (found_cell wanted) (sym (h place)) ∙ e)

load_traps : (wanted : Want) (place : ℕ) (at : Option Object) (object : Object) → IsBlank at → at ≡ Some object → place < length object.cells
    → load_in wanted place at ≡ Err trap.Undefined
load_traps wanted place at object h e within =
    let blanks : IsBlank (Some object) = subst IsBlank e h in
    ap (load_in wanted place) e ∙ ap (found_cell wanted) (blanks place ∙ cell_within Undefined object.cells place within)

blank_holds : (number : ℕ) (o : Objects) → IsBlank (get o.live number) → HoldsNothing number o
blank_holds number o h = record {
  gives_none = λ wanted place v e. no_load wanted place (get o.live number) v h (sym (load_found wanted number place o) ∙ e);
  traps = λ wanted place object e within. load_found wanted number place o ∙ load_traps wanted place (get o.live number) object h e within;
}

module _ (s : Setting) (number : ℕ) where
  abbrev Blank : Unit {0} → World → Type 0
  Blank x w = IsBlank (get w.objects.live number)

  bare_started : (x : StartTree) (w : World) → x.initial ≡ None
      → variable_started s x w ≡ on_object (object_of s (s.facts.slot_at x.declarator.name_token)) variable_cleared w
  bare_started x w bare =
      ap (λ (i : Option InitialTree). bind (on_object (object_of s (s.facts.slot_at x.declarator.name_token)) variable_cleared w)
      (λ _. variable_initialised s x.declarator.name_token i)) bare
      ∙ bind_go (on_object (object_of s (s.facts.slot_at x.declarator.name_token)) variable_cleared w)

  other_clear : (at : Option ℕ) (w : World) → IsBlank (get w.objects.live number) → Ends Blank (on_object at variable_cleared w)
  other_clear None w h = tt
  other_clear (Some other) w h = stays_blank w.objects number other (get w.objects.live other) h

  own_clear : (at : Option ℕ) (w : World) → at ≡ Some number → Ends Blank (on_object at variable_cleared w)
  own_clear at w e = subst (λ (o : Option ℕ). Ends Blank (on_object o variable_cleared w)) (sym e) (clear_blank w.objects number (get w.objects.live number) refl)

  bare_rest : (xs : List StartTree) (w : World) → AreBare xs → IsBlank (get w.objects.live number) → Ends Blank (all_started s xs w)
  bare_rest [] w bare h = h
  bare_rest (x ∷ xs) w bare h =
      ends_bind Blank Blank (variable_started s x w) (λ _. all_started s xs)
      (subst (Ends Blank) (sym (bare_started x w bare.0)) (other_clear (object_of s (s.facts.slot_at x.declarator.name_token)) w h))
      (λ _ u k. bare_rest xs u bare.1 k)

  any_before : (before after : List StartTree) (x : StartTree) (w : World) → AreBare (x ∷ after)
      → object_of s (s.facts.slot_at x.declarator.name_token) ≡ Some number → Ends Blank (all_started s (before ++ x ∷ after) w)
  any_before [] after x w bare own =
      ends_bind Blank Blank (variable_started s x w) (λ _. all_started s after)
      (subst (Ends Blank) (sym (bare_started x w bare.0)) (own_clear (object_of s (s.facts.slot_at x.declarator.name_token)) w own))
      (λ _ u k. bare_rest after u bare.1 k)
  any_before (y ∷ before) after x w bare own =
      ends_bind (λ _ _. Unit {0}) Blank (variable_started s y w) (λ _. all_started s (before ++ x ∷ after)) (anything (variable_started s y w))
      (λ _ u _. any_before before after x u bare own)

pub declared_holds_nothing : DeclaredHoldsNothing
declared_holds_nothing s d before after x number w u starts bare own e =
    blank_holds number u.objects (ends_go (Blank s number) (declaration_done s d w) tt u
    (subst (λ (xs : List StartTree). Ends (Blank s number) (all_started s xs w)) (sym starts) (any_before s number before after x w bare own)) e)

load_met : (of : Option ValueType) (p : Scalar) (w : World) → IsScalar of → ((wanted : Want) → loaded_value wanted p w.objects ≡ Err trap.Undefined)
    → load_at of p w ≡ Stop (Trapped trap.Undefined) w
load_met (Some (type.Number kind)) p w h met = ap (λ r. answer_or_trap r w) (met (want.Number kind))
load_met (Some (type.Pointer size)) p w h met = ap (λ r. answer_or_trap r w) (met want.Pointer)
load_met of p w h met = absurd h

pub read_is_met : ReadIsMet
read_is_met s at name number object w local scalar live within holds =
    ap (λ out. bind out (load_at (s.facts.type_at at))) (variable_found s number (s.facts.slot_at at) w local)
    ∙ load_met (s.facts.type_at at) (Place number 0) w scalar (λ wanted. holds.traps wanted 0 object live within)

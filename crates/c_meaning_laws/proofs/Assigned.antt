-- What a variable holds behind an assignment.
use Rattle.std.proofs.Common.{◌≡◌, ◌⊎◌, ℕ, ℤ, Bool, true, false, cond, List, [], ◌∷◌, Option, Some, None, Result, Ok, Err, slice_get, refl, ap, sym, ◌∙◌}
use Rattle.std.proofs.Common.{subst, inl, inr}
use Rattle.std.specs.FinMap.{get}
use Rattle.cbi_base.specs.Words.{local_at, Object, Objects, found_cell, is_text, live_or, loaded_value, set_in, value_stored, with_object}
use Rattle.cbi_base.specs.declared.observation.Seen.{Seen}
use Rattle.cbi_base.specs.declared.scalar.Kind.{Kind}
use Rattle.cbi_base.specs.declared.scalar.Kind.TheVariants.{Char, Int, Unsigned}
use Rattle.cbi_base.specs.declared.scalar.Scalar.{Scalar}
use Rattle.cbi_base.specs.declared.scalar.Scalar.TheVariants.{Number, Place, Null, Undefined}
use Rattle.cbi_base.specs.declared.scalar.Want.{Want}
use Rattle.cbi_base.specs.declared.scalar.Want.TheVariants as want
use Rattle.cbi_base.specs.declared.trap.Trap.{Trap}
use Rattle.cbi_base.specs.declared.trap.Trap.TheVariants as trap
use Rattle.cbi_base.specs.Objects.{◌>>=◌}
use Rattle.c_syntax.specs.declared.token.Sign.{Sign}
use Rattle.c_syntax.specs.ExprTree as e
use Rattle.c_syntax.specs.ExprTree.{ExprTree}
use Rattle.flow.specs.declared.site.Slot.{Slot}
use Rattle.flow.specs.declared.site.Slot.TheVariants as slot
use Rattle.flow.specs.Truths.{seen_at_site}
use Rattle.c_meaning.specs.declared.operation.Operation.{Operation}
use Rattle.c_meaning.specs.declared.value_type.ValueType.{ValueType}
use Rattle.c_meaning.specs.declared.value_type.ValueType.TheVariants as type
use Rattle.c_meaning.specs.Words.{as_wanted, conversion, is_null_as, load_at, assigned_value, wanted_value, Facts, Setting, expr, operation_result, operation, type_given}
use Rattle.c_meaning.specs.Words.{assigned_at, compound_result_stored, object_place, store_at, variable, call_at, setting_of, Assignment, Plain, By, assignment_of_sign, type_of}
use Rattle.c_meaning.specs.Words.{observed_value, sites_visited, world_with_seen, World, Out, Go, answer_or_trap, bind, stuck_run}
use Rattle.c_meaning_laws.specs.Rules.{Assigns, IsScalar, TakesOrNull}
use Rattle.c_meaning_laws.specs.TypedSource.{without_sites}
use Rattle.c_meaning_laws.proofs.Expressions.{expr_safe}
use Rattle.c_meaning_laws.proofs.Runs.{calls_safe}
use Rattle.c_meaning_laws.proofs.Values.{Fits, scalar_value}
use Rattle.c_meaning_laws.specs.Assigned.{AssignmentIsRead}
use Rattle.c_meaning_laws.proofs.Objects.{load_found, load_in, put_found}
use Rattle.c_meaning_laws.proofs.Parts.{Ends, anything, ends_bind, ends_go}
use Rattle.c_meaning_laws.proofs.Typed.{ending}

-- what an object's first cell holds of this type
abbrev held : Option ValueType → ℕ → Objects → Result Scalar Trap
held (Some (type.Number kind)) n o = loaded_value (want.Number kind) (Place n 0) o
held (Some (type.Pointer size)) n o = loaded_value want.Pointer (Place n 0) o
held of n o = Err trap.Internal

-- a value of the type is what a load of that type wants
found_number : (kind : Kind) (n : ℤ) → found_cell (want.Number kind) (Some (Number kind n)) ≡ Ok (Number kind n)
found_number Char n = refl
found_number Int n = refl
found_number Unsigned n = refl

abbrev wants : Option ValueType → Scalar → Result Scalar Trap
wants (Some (type.Number kind)) v = found_cell (want.Number kind) (Some v)
wants (Some (type.Pointer size)) v = found_cell want.Pointer (Some v)
wants of v = Err trap.Internal

-- it is there
abbrev IsThere : Scalar → Type 0
IsThere Undefined = ⊥
IsThere v = Unit {0}

wanted_there : (of : Option ValueType) (v : Scalar) → IsScalar of → IsThere v → Fits of v → wants of v ≡ Ok v
wanted_there (Some (type.Number kind)) (Number other n) h i f =
    subst (λ k. found_cell (want.Number kind) (Some (Number k n)) ≡ Ok (Number k n)) f (found_number kind n)
wanted_there (Some (type.Number kind)) Undefined h i f = absurd i
wanted_there (Some (type.Number kind)) (Place a j) h i f = absurd f
wanted_there (Some (type.Number kind)) Null h i f = absurd f
wanted_there (Some (type.Pointer size)) (Place a j) h i f = refl
wanted_there (Some (type.Pointer size)) Null h i f = refl
wanted_there (Some (type.Pointer size)) Undefined h i f = absurd i
wanted_there (Some (type.Pointer size)) (Number other n) h i f = absurd f
wanted_there of v h i f = absurd h

put_load : (wanted : Want) (n : ℕ) (o : Objects) (object : Object) (v : Scalar) (cells : List Scalar) → object.cells ≡ v ∷ cells
    → loaded_value wanted (Place n 0) (with_object o n object) ≡ found_cell wanted (Some v)
put_load wanted n o object v cells is =
    load_found wanted n 0 (with_object o n object) ∙ ap (load_in wanted 0) (put_found o n object)
    ∙ ap (λ (xs : List Scalar). found_cell wanted (slice_get xs 0)) is

put_held : (of : Option ValueType) (n : ℕ) (o : Objects) (object : Object) (v : Scalar) (cells : List Scalar) → object.cells ≡ v ∷ cells
    → held of n (with_object o n object) ≡ wants of v
put_held (Some (type.Number kind)) n o object v cells is = put_load (want.Number kind) n o object v cells is
put_held (Some (type.Pointer size)) n o object v cells is = put_load want.Pointer n o object v cells is
put_held of n o object v cells is = refl

module _ (of : Option ValueType) (n : ℕ) (scalar : IsScalar of) where
  -- a value of the type is what the object holds
  abbrev Holds : Scalar → Objects → Type 0
  Holds v o = Fits of v → held of n o ≡ Ok v

  abbrev HeldIn : Scalar → World → Type 0
  HeldIn v w = Holds v w.objects

  abbrev Stores : Scalar → Result Objects Trap → Type 0
  Stores v (Ok o) = Holds v o
  Stores v (Err t) = Unit {0}

  set_holds : (b text : Bool) (v : Scalar) (o : Objects) (object : Object) (cells : List Scalar) → IsThere v
      → Stores v (cond b (cond text (Err trap.ReadOnly) (Ok (with_object o n (record object { cells = v ∷ cells })))) (Err trap.Bounds))
  set_holds true true v o object cells there = tt
  set_holds true false v o object cells there =
      λ fits. put_held of n o (record object { cells = v ∷ cells }) v cells refl ∙ wanted_there of v scalar there fits
  set_holds false text v o object cells there = tt

  cells_hold : (v : Scalar) (o : Objects) (object : Object) (cells : List Scalar) → IsThere v → Stores v (set_in n 0 v o (record object { cells = cells }))
  cells_hold v o object [] there = tt
  cells_hold v o object (c ∷ cells) there = set_holds _ (is_text object.class) v o object cells there

  found_holds : (v : Scalar) (o : Objects) (g : Option Object) → IsThere v → Stores v (live_or g >>= set_in n 0 v o)
  found_holds v o None there = tt
  found_holds v o (Some object) there = cells_hold v o object object.cells there

  stored_holds : (v : Scalar) (o : Objects) → Stores v (value_stored (Place n 0) v o)
  unfolding value_stored
  stored_holds Undefined o = tt
  stored_holds v o = found_holds v o (get o.live n) tt

  answer_holds : (v : Scalar) (r : Result Objects Trap) (w : World) → Stores v r
      → Ends HeldIn (bind (answer_or_trap r w) (λ objects u. Go v (record u { objects = objects })))
  answer_holds v (Ok o) w h = h
  answer_holds v (Err t) w h = tt

  module _ (s : Setting) where
    seen_holds : (site : ℕ) (v : Scalar) (w : World) (r : Result Seen Trap) → Holds v w.objects
        → Ends HeldIn (bind (answer_or_trap r w) (λ seen u. Go v (world_with_seen site seen u)))
    seen_holds site v w (Ok seen) h = h
    seen_holds site v w (Err t) h = tt

    visited_holds : (sites : List ℕ) (v : Scalar) (w : World) → Holds v w.objects → Ends HeldIn (sites_visited s sites v w)
    visited_holds [] v w h = h
    visited_holds (site ∷ more) v w h =
        ends_bind HeldIn HeldIn (observed_value s site v w) (sites_visited s more) (seen_holds site v w (seen_at_site (s.sites.site site) (Some v) s.locals w.objects) h)
        (visited_holds more)

    assigned_holds : (token : ℕ) (p v : Scalar) (w : World) → p ≡ Place n 0 → Ends HeldIn (assigned_at s token p v w)
    assigned_holds token p v w is =
        subst (λ q. Ends HeldIn (assigned_at s token q v w)) (sym is)
        (ends_bind HeldIn HeldIn (store_at (Place n 0) v w) (sites_visited s (s.sites.pairs_at token))
        (answer_holds v (value_stored (Place n 0) v w.objects) w (stored_holds v w.objects)) (visited_holds (s.sites.pairs_at token)))

    changed_holds : (token : ℕ) (t : Option ValueType) (o : Operation) (p right : Scalar) (w : World) → p ≡ Place n 0
        → Ends HeldIn (compound_result_stored s token t o p right w)
    changed_holds token t o p right w is =
        ends_bind (λ _ _. Unit {0}) HeldIn (load_at t p w) _ (anything (load_at t p w)) (λ old u _.
        ends_bind (λ _ _. Unit {0}) HeldIn (answer_or_trap (operation_result o old right u.objects) u) _ (anything (answer_or_trap (operation_result o old right u.objects) u)) (λ x y _.
        ends_bind (λ _ _. Unit {0}) HeldIn (as_wanted (conversion (type_given o t) t) x y) (assigned_at s token p)
        (anything (as_wanted (conversion (type_given o t) t) x y)) (λ z a _. assigned_holds token p z a is)))

    module _ (target value : ExprTree) (w : World) (at : (u : World) → (expr s target).place u ≡ Go (Place n 0) u) where
      abbrev IsAtObject : Scalar → World → Type 0
      IsAtObject p u = p ≡ Place n 0

      place_found : Ends IsAtObject ((expr s target).place w)
      place_found = subst (Ends IsAtObject) (sym (at w)) refl

      assign_holds : (token : ℕ) (a : Assignment) (b : Bool) (left right : Option ValueType)
          → Ends HeldIn (assigned_value s token a b left right (expr s target) (expr s value) w)
      assign_holds token Plain b left right =
          ends_bind IsAtObject HeldIn ((expr s target).place w) _ place_found (λ p u is.
          ends_bind (λ _ _. Unit {0}) HeldIn (wanted_value b right left (expr s value) u) (assigned_at s token p)
          (anything (wanted_value b right left (expr s value) u)) (λ v y _. assigned_holds token p v y is))
      assign_holds token (By o) b left right =
          ends_bind IsAtObject HeldIn ((expr s target).place w) _ place_found (λ p u is.
          ends_bind (λ _ _. Unit {0}) HeldIn ((expr s value).value u) (compound_result_stored s token left (operation o left right) p) (anything ((expr s value).value u))
          (λ v y _. changed_holds token left (operation o left right) p v y is))

-- a name finds one object in each state, or none in any
abbrev Finds : (World → Out Scalar) → Type 0
Finds m = ((n : ℕ) × ((w : World) → m w ≡ Go (Place n 0) w)) ⊎ ((w : World) → m w ≡ stuck_run w)

object_finds : (o : Option ℕ) → Finds (object_place o)
object_finds None = inr (λ w. refl)
object_finds (Some n) = inl (n, λ w. refl)

variable_finds : (s : Setting) (at : Option Slot) → Finds (variable s at)
variable_finds s None = inr (λ w. refl)
variable_finds s (Some (slot.Local index)) = object_finds (local_at index s.locals)
variable_finds s (Some (slot.Global index)) = inl (index, λ w. refl)

-- what is assigned to where types fit is a scalar
pub taken_scalar : (b : Bool) (t u : Option ValueType) → TakesOrNull b t u → IsScalar t
taken_scalar true (Some (type.Pointer size)) u h = tt
taken_scalar true (Some (type.Number kind)) u h = tt
taken_scalar false (Some (type.Pointer size)) u h = tt
taken_scalar false (Some (type.Number kind)) u h = tt
taken_scalar true (Some (type.Array size)) u h = absurd h
taken_scalar true (Some type.Void) u h = absurd h
taken_scalar true (Some type.Struct) u h = absurd h
taken_scalar true None u h = absurd h
taken_scalar false (Some (type.Array size)) u h = absurd h
taken_scalar false (Some type.Void) u h = absurd h
taken_scalar false (Some type.Struct) u h = absurd h
taken_scalar false None u h = absurd h

assigned_scalar : (facts : Facts) (a : Assignment) (t : Option ValueType) (x : ExprTree) → Assigns facts a t x → IsScalar t
assigned_scalar facts Plain t x h = taken_scalar (is_null_as t x) t (type_of facts x) h
assigned_scalar facts (By o) t x h = h.0

held_load : (of : Option ValueType) (n : ℕ) (v : Scalar) (u : World) → IsScalar of → held of n u.objects ≡ Ok v → load_at of (Place n 0) u ≡ Go v u
held_load (Some (type.Number kind)) n v u h is = ap (λ r. answer_or_trap r u) is
held_load (Some (type.Pointer size)) n v u h is = ap (λ r. answer_or_trap r u) is
held_load of n v u h is = absurd h

never_given : {A : Type 0} (out : Out Scalar) (w : World) (next : Scalar → World → Out A) (v : A) (u : World) → out ≡ stuck_run w → bind out next ≡ Go v u → ⊥
never_given out w next v u is given = cc

stuck_assign : (s : Setting) (token : ℕ) (a : Assignment) (b : Bool) (left right : Option ValueType) (target value : ExprTree) (w u : World) (v : Scalar)
    → (expr s target).place w ≡ stuck_run w → assigned_value s token a b left right (expr s target) (expr s value) w ≡ Go v u → ⊥
stuck_assign s token Plain b left right target value w u v is given = never_given ((expr s target).place w) w _ v u is given
stuck_assign s token (By o) b left right target value w u v is given = never_given ((expr s target).place w) w _ v u is given

module _ (s : Setting) (token at : ℕ) (name : List ℕ) (assigns : Sign) (value : ExprTree) (v : Scalar) (w u : World) where
  abbrev of : Option ValueType
  of = s.facts.type_at at

  read_behind : Finds (variable s (s.facts.slot_at at)) → IsScalar of → Fits of v
      → (expr s (e.Assign token assigns (e.Name at name) value)).value w ≡ Go v u → (expr s (e.Name at name)).value u ≡ Go v u
  read_behind (inl found) scalar fits given =
      ap (λ out. bind out (load_at of)) (found.1 u)
      ∙ held_load of found.0 v u scalar (ends_go (HeldIn of found.0 scalar) _ v u
      (assign_holds of found.0 scalar s (e.Name at name) value w found.1 token (assignment_of_sign assigns) (is_null_as of value) of
      (type_of s.facts value)) given fits)
  read_behind (inr none) scalar fits given =
      absurd (stuck_assign s token (assignment_of_sign assigns) (is_null_as of value) of (type_of s.facts value) (e.Name at name) value w u v (none w) given)

pub assignment_is_read : AssignmentIsRead
assignment_is_read src calls locals token at name assigns value v w u fits typed given =
    let s : Setting = setting_of src (call_at src calls) locals in
    let scalar : IsScalar (s.facts.type_at at) = assigned_scalar s.facts (assignment_of_sign assigns) (s.facts.type_at at) value typed.3 in
    let whole : IsScalar (s.facts.type_at token) = subst IsScalar (sym typed.4) scalar in
    read_behind s token at name assigns value v w u (variable_finds s (s.facts.slot_at at)) scalar
    (subst (λ t. Fits t v) typed.4 (ending (Fits (s.facts.type_at token)) ((expr s (e.Assign token assigns (e.Name at name) value)).value w) v u
    (((expr_safe s (call_at (without_sites src) calls) fits.sites (calls_safe src fits calls) (e.Assign token assigns (e.Name at name) value) typed).value
    (scalar_value (s.facts.type_at token) whole)).at w) given)) given

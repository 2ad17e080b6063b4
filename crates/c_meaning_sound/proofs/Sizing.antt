-- The types of declared objects: they are known whole, and pointers move by their sizes.
use Rattle.std.proofs.Common.{◌≡◌, ℕ, ◌≤◌, ◌<◌, refl, ap, subst, sym, ◌∙◌, arith, List, [], ◌∷◌, Some, None, Bool, true, false, length}
use Rattle.std.specs.Prelude.{Option, get_or, ◌*◌, ◌==◌, nat_le, nat_lt, slice_get, ◌&&◌, if◌then◌else◌}
use Rattle.std.proofs.lemmas.Bool.{false≢true, and_parts}
use Rattle.std.proofs.lemmas.Bool.Decides.{nat_tests}
use Rattle.std.proofs.lemmas.Nat.{mul-le}
use Rattle.std.proofs.lemmas.Option.{slice_get-get_or, same_Some}
use Rattle.base_lists.proofs.Lists.{Stays}
use Rattle.base_lists.proofs.Numbers.{is_less, is_most, product_some}
use Rattle.c_syntax.specs.ItemTree.{SourceTree}
use Rattle.c_syntax.specs.declared.parts.Bound.{Bound}
use Rattle.c_syntax.specs.declared.parts.Constant.{Constant}
use Rattle.c_syntax.specs.declared.parts.Declarator.{Declarator}
use Rattle.c_types_rules.specs.declared.layout.StructType.{StructType}
use Rattle.c_types_rules.specs.TypeTree as t
use Rattle.c_types_rules.specs.Words.{TypeTree, cells_of, empty_struct, is_complete, is_object, struct_cells}
use Rattle.c_types_expressions.specs.declared.walk.Walk.{Walk}
use Rattle.c_types_walk.specs.Declarators.{bounded_array, bounded_by, declared_type, first_bounded, is_bound, is_open, unbounded_array, with_bounds}
use Rattle.c_types_expressions.specs.ExprWalk.{with_stars}
use Rattle.c_meaning.specs.Operation.{is_step_size}
use Rattle.c_meaning_laws.specs.Rules.{IsObject}
use Rattle.c_meaning_laws.proofs.Ruled.{known}
use Rattle.c_meaning_sound.proofs.Forming.{small_of}
use Rattle.c_meaning_sound.proofs.Growing.{Grows}
use Rattle.c_meaning_sound.proofs.Noting.{Deep, Whole}

-- the type of an array's innermost elements, or the type itself
abbrev pub core : TypeTree → TypeTree
core (t.Array element size) = core element
core of = of

-- the type of a declarator has the base with its stars as its core
array_core : (b : Bool) (n : ℕ) (v u : TypeTree) → (if b then Some (t.Array v n) else None) ≡ Some u → core u ≡ core v
array_core true n v u h = ap core (sym (same_Some (t.Array v n) u h))
array_core false n v u h = cc

bound_core : (o : Option Constant) (e : Option TypeTree) (of u : TypeTree) → ((v : TypeTree) → e ≡ Some v → core v ≡ core of) → bounded_by o e ≡ Some u
    → core u ≡ core of
bound_core None e of u k h = cc
bound_core (Some c) None of u k h = cc
bound_core (Some c) (Some v) of u k h = array_core (is_bound c) _ v u h ∙ k v refl

bounded_core : (bs : List Bound) (of u : TypeTree) → bounded_array bs of ≡ Some u → core u ≡ core of
bounded_core [] of u h = ap core (sym (same_Some of u h))
bounded_core (b ∷ bs) of u h = bound_core b.length (bounded_array bs of) of u (λ v e. bounded_core bs of v e) h

first_core : (o : Option Constant) (e : Option TypeTree) (of u : TypeTree) → ((v : TypeTree) → e ≡ Some v → core v ≡ core of) → first_bounded o e ≡ Some u
    → core u ≡ core of
first_core None None of u k h = cc
first_core None (Some v) of u k h = ap core (sym (same_Some (unbounded_array v) u h)) ∙ k v refl
first_core (Some c) None of u k h = cc
first_core (Some c) (Some v) of u k h = array_core (is_bound c) _ v u h ∙ k v refl

declared_by : (bs : List Bound) (d : Declarator) (of u : TypeTree) → d.bounds ≡ bs → declared_type d of ≡ Some u → core u ≡ core (with_stars d.stars of)
declared_by [] d of u e h = ap core (sym (same_Some (with_stars d.stars of) u (subst (λ bs. with_bounds bs (with_stars d.stars of) ≡ Some u) e h)))
declared_by (b ∷ bs) d of u e h = first_core b.length (bounded_array bs (with_stars d.stars of)) (with_stars d.stars of) u
    (λ v k. bounded_core bs (with_stars d.stars of) v k) (subst (λ bs. with_bounds bs (with_stars d.stars of) ≡ Some u) e h)

pub declared_core : (d : Declarator) (of u : TypeTree) → declared_type d of ≡ Some u → core u ≡ core (with_stars d.stars of)
declared_core d of u h = declared_by d.bounds d of u refl h

-- where more structs are known, a type that was known whole has the size that it had
struct_same : (old new : List StructType) (tag : ℕ) → Stays old new → tag < length old → struct_cells (slice_get new tag) ≡ struct_cells (slice_get old tag)
struct_same old new tag s h =
    let here : slice_get old tag ≡ Some (get_or old tag empty_struct) = slice_get-get_or old tag empty_struct h in
    ap struct_cells (s tag (get_or old tag empty_struct) here ∙ sym here)

pub cells_same : (old new : List StructType) (of : TypeTree) → Stays old new → is_complete old of ≡ true → cells_of new of ≡ cells_of old of
cells_same old new (t.Array element size) s h = ap (λ n. size * n) (cells_same old new element s (and_parts (nat_lt 0 size) (is_complete old element) h).1)
cells_same old new (t.Struct tag) s h = struct_same old new tag s (is_less tag (length old) h)
cells_same old new of s h = refl

-- a type of objects stays one
pub record Sized (structs : List StructType) (of : TypeTree) : Type 0 where
  pub complete : is_complete structs of ≡ true
  pub most : cells_of structs of ≤ 1048576

pub object_stays : (old new : List StructType) (of : TypeTree) → Grows old new → Stays old new → is_object old of ≡ true → Sized new of
object_stays old new of g s h =
    let parts : (is_complete old of ≡ true) × (nat_le (cells_of old of) 1048576 ≡ true) = and_parts (is_complete old of) (nat_le (cells_of old of) 1048576) h in
    record {
      complete = g of parts.0;
      most = subst (λ n. n ≤ 1048576) (sym (cells_same old new of s parts.0)) (is_most (cells_of old of) 1048576 parts.1);
    }

pub step_by : (n : ℕ) → 1 ≤ n → n ≤ 1048576 → is_step_size n ≡ true
step_by n h k = grind (arith, nat_tests, h, k)

one_by : (n : ℕ) → is_step_size n ≡ true → 1 ≤ n
one_by n h = is_most 1 n (and_parts (nat_le 1 n) (nat_le n 1048576) h).0

less_by : (n c : ℕ) → 1 ≤ n → n * c ≤ 1048576 → c ≤ 1048576
less_by n c h k =
    let more : 1 * c ≤ n * c = mul-le 1 c n c h (omega arith) in
    omega (arith, more, k)

module _ (tree : SourceTree) (z : Walk) where
  pub core_deep : (of : TypeTree) → Deep tree z of → Deep tree z (core of)
  core_deep (t.Array element size) h = core_deep element h.1
  core_deep of h = h

  deep_by : (of : TypeTree) → Deep tree z (core of) → is_complete z.structs of ≡ true → cells_of z.structs of ≤ 1048576 → Deep tree z of
  deep_by (t.Array element size) d h k =
      let parts : (nat_lt 0 size ≡ true) × (is_complete z.structs element ≡ true) = and_parts (nat_lt 0 size) (is_complete z.structs element) h in
      let some : 1 ≤ size = is_less 0 size parts.0 in
      let inner : Deep tree z element = deep_by element d parts.1 (less_by size (cells_of z.structs element) some k) in
      let one : 1 ≤ cells_of z.structs element = one_by (cells_of z.structs element) (small_of tree z element inner parts.1) in
      ((λ e. step_by (size * cells_of z.structs element) (product_some size (cells_of z.structs element) some one) k), inner)
  deep_by of d h k = d

  object_by : (of : TypeTree) → is_complete z.structs of ≡ true → IsObject (known z.structs of)
  object_by t.Void h = absurd (false≢true h)
  object_by of h = tt

  -- a type of objects whose elements are known
  pub whole_by : (of : TypeTree) → Deep tree z (core of) → Sized z.structs of → Whole tree z of
  whole_by of d s = (deep_by of d s.complete s.most, object_by of s.complete)

  -- an array whose length isn't known yet
  pub record Open (of : TypeTree) : Type 0 where
    pub whole : Whole tree z of
    pub part : is_complete z.structs of ≡ false

  empty_open : (structs : List StructType) (element : TypeTree) (size : ℕ) → size ≡ 0 → Grows structs z.structs → Stays structs z.structs
      → is_object structs element ≡ true → Deep tree z (core element) → Open (t.Array element size)
  empty_open structs element size n g s h d =
      let short : nat_lt 0 size ≡ false = grind (arith, nat_tests, n) in
      let part : is_complete z.structs (t.Array element size) ≡ false = ap (λ b. b && is_complete z.structs element) short in
      let whole : Whole tree z element = whole_by element d (object_stays structs z.structs element g s h) in
      record { whole = (((λ e. absurd (false≢true (sym part ∙ e))), whole.0), tt); part = part }

  zero_by : (n : ℕ) → (n == 0) ≡ true → n ≡ 0
  zero_by n h = grind (arith, nat_tests, h)

  pub open_by : (structs : List StructType) (of : TypeTree) → Grows structs z.structs → Stays structs z.structs → is_open structs of ≡ true → Deep tree z
      (core of)
      → Open of
  open_by structs (t.Array element size) g s h d =
      let parts : ((size == 0) ≡ true) × (is_object structs element ≡ true) = and_parts (size == 0) (is_object structs element) h in
      empty_open structs element size (zero_by size parts.0) g s parts.1 d
  open_by structs of g s h d = absurd (false≢true h)

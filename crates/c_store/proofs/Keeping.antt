-- What is always true of the objects that the code keeps stays true.
use Rattle.std.proofs.Common.{◌≡◌, ℕ, ◌+◌, ◌-◌, ◌<◌, ◌≤◌, ◌==◌, Bool, true, false, cond, List, [], ◌∷◌, length, map, sum_by, if◌then◌else◌, nat_lt}
use Rattle.std.proofs.Common.{nat_le, ◌&&◌, IsTrue, IsFalse, Result, Ok, Err, OnErr, length-set, subst, Option, Some, None, refl, ap, sym, ◌∙◌, arith}
use Rattle.std.specs.Ordering.{nat_cmp, eq_by_cmp}
use Rattle.std.specs.Cmp.{nat_cmp_total, unsigned_tied}
use Rattle.std.specs.FinMap.{FinMap, empty, entries, len-entries, len-empty, get-empty, get, insert, remove, get-insert, get-remove}
use Rattle.std.proofs.lemmas.Bool.Decides.{nat_tests}
use Rattle.std.proofs.lemmas.List.{length-map}
use Rattle.base_lists.proofs.Tests.{no_choice, true_both}
use Rattle.base_lists.proofs.Numbers.{more_apart, same_number}
use Rattle.base_lists.proofs.Maps.{sum_insert}
use Rattle.cbi_base.specs.Words.{Object, Objects, live_cells, cell_limit, object_limit, no_objects, has_room, with_object, undefined_in, object_made_undefined, object_killed}
use Rattle.cbi_base.specs.Words.{is_text, object_filled}
use Rattle.cbi_base.specs.declared.scalar.Scalar.{Scalar}
use Rattle.cbi_base.specs.declared.scalar.Scalar.TheVariants.{Undefined}
use Rattle.cbi_base.specs.declared.trap.Trap.{Trap}
use Rattle.cbi_base.specs.declared.trap.Trap.TheVariants as trap
use Rattle.c_store.specs.Written.{with_each, with_cell, put_back, stored_in, filled_map, state_or_trap}
use Rattle.c_store.specs.Kept.{AreObjectsKept}
use Rattle.cbi_base.specs.Frames as frames
use Rattle.c_store.specs.Made.{last_object_undone}
use Rattle.c_store.proofs.Sums.{sum-remove, sum-replace, remove-insert, remove_none, gone}

nothing : (es : List (ℕ × Object)) → length es ≡ 0 → sum_by (λ o. length o.cells) (map (λ e. e.1) es) ≡ 0
nothing [] none = refl
nothing (e ∷ es) none = absurd (omega arith)

pub kept_at_start : AreObjectsKept 0 no_objects
kept_at_start =
    record {
      counted = sym (nothing (entries {R = nat_cmp} empty) (sym (len-entries {R = nat_cmp} empty) ∙ len-empty nat_cmp Object));
      room = omega arith;
      numbers = omega arith;
      fresh = λ q h. get-empty nat_cmp q;
    }

pub kept_by_make : (cells : ℕ) (o : Objects) (k : AreObjectsKept cells o) (object : Object) (n : ℕ) → length object.cells ≡ n → cells + n ≤ cell_limit →
    o.made < object_limit →
    AreObjectsKept (cells + n) (record { made = o.made + 1; live = insert o.live o.made object })
kept_by_make cells o k object n long room more =
    record {
      counted = let sum = sum_insert (λ o. length o.cells) o.live o.made object (k.fresh o.made (omega arith)) in omega (arith, k.counted, sum, long);
      room = room;
      numbers = omega arith;
      fresh = λ q h. get-insert nat_cmp_total o.live o.made object q
          ∙ no_choice (eq_by_cmp nat_cmp q o.made) object (get o.live q) (unsigned_tied q o.made ∙ more_apart q o.made (omega arith)) (k.fresh q (omega arith));
    }

none_left : {A : Type 0} (b : Bool) (o : Option A) → o ≡ None → cond b None o ≡ None
none_left true o none = refl
none_left false o none = none

pub kept_by_kill : (cells : ℕ) (o : Objects) (k : AreObjectsKept cells o) (number : ℕ) (object : Object) → get o.live number ≡ Some object →
    AreObjectsKept (cells - length object.cells) (object_killed number o)
kept_by_kill cells o k number object at =
    record {
      counted = let sum = sum-remove (λ o. length o.cells) o.live number object at in omega (arith, k.counted, sum);
      room = let below = k.room in omega arith;
      numbers = k.numbers;
      fresh = λ q h. get-remove nat_cmp_total o.live number q ∙ none_left (eq_by_cmp nat_cmp q number) (get o.live q) (k.fresh q h);
    }

absent : {A : Type 0} (b : Bool) (x : A) (o : Option A) (p : b ≡ true → o ≡ None → ⊥) → o ≡ None → cond b (Some x) o ≡ None
absent true x o p none = absurd (p refl none)
absent false x o p none = none

-- a live object with as many cells as before
pub kept_by_change : (cells : ℕ) (o : Objects) (k : AreObjectsKept cells o) (number : ℕ) (old object : Object) → get o.live number ≡ Some old →
    length object.cells ≡ length old.cells →
    AreObjectsKept cells (with_object o number object)
kept_by_change cells o k number old object at long =
    record {
      counted = k.counted ∙ sym (sum-replace (λ o. length o.cells) o.live number old object at long);
      room = k.room;
      numbers = k.numbers;
      fresh = λ q h. get-insert nat_cmp_total o.live number object q
          ∙ absent (eq_by_cmp nat_cmp q number) object (get o.live q)
          (λ is none. let same : q ≡ number = same_number q number (sym (unsigned_tied q number) ∙ is) in let true_both : Some old ≡ None = sym at
          ∙ ap (get o.live) (sym same) ∙ none in cc)
          (k.fresh q h);
    }

-- no object has more cells than live
pub within_all : (cells : ℕ) (o : Objects) (k : AreObjectsKept cells o) (number : ℕ) (object : Object) → get o.live number ≡ Some object → length object.cells ≤ cells
within_all cells o k number object at = let sum = sum-remove (λ o. length o.cells) o.live number object at in omega (arith, k.counted, sum)

-- an object that is filled keeps its length
fill_kept : (cells : ℕ) (o : Objects) (k : AreObjectsKept cells o) (number : ℕ) (value : Scalar) (found : Option Object) → get o.live number ≡ found →
    AreObjectsKept cells (record o { live = filled_map number value found o.live })
fill_kept cells o k number value None is = k
fill_kept cells o k number value (Some object) is = kept_by_change cells o k number object (with_each value object) is (length-map object.cells (λ _. value))

pub kept_by_fill : (cells : ℕ) (o : Objects) (k : AreObjectsKept cells o) (number : ℕ) (value : Scalar) →
    AreObjectsKept cells (record o { live = filled_map number value (get o.live number) o.live })
kept_by_fill cells o k number value = fill_kept cells o k number value (get o.live number) refl

changed : {A : Type 0} (cells : ℕ) (o : Objects) (k : AreObjectsKept cells o) (number offset : ℕ) (value : Scalar) (found : Option Object) (r : Result A Trap) (m : FinMap nat_cmp Object) →
    get o.live number ≡ found → stored_in number offset value found o.live ≡ state_or_trap r m → (OnErr r (m ≡ o.live)) → AreObjectsKept cells (record o { live = m })
changed cells o k number offset value found (Err t) m is stored same = subst (λ l. AreObjectsKept cells (record o { live = l })) (sym same) k
changed cells o k number offset value None (Ok done) m is stored same = absurd cc
changed cells o k number offset value (Some object) (Ok done) m is stored same =
    within (nat_lt offset (length object.cells)) (is_text object.class) stored
  where
    within : (b t : Bool) →
        put_back o.live number (if b then (if t then Err trap.ReadOnly else Ok (with_cell offset value object)) else Err trap.Bounds) ≡ Ok m →
        AreObjectsKept cells (record o { live = m })
    within false t stored = absurd cc
    within true true stored = absurd cc
    within true false stored =
        let is_map : insert o.live number (with_cell offset value object) ≡ m = cc in
        subst (λ l. AreObjectsKept cells (record o { live = l })) is_map
        (kept_by_change cells o k number object (with_cell offset value object) is (length-set object.cells offset value))

pub kept_by_store : {A : Type 0} (cells : ℕ) (o : Objects) (k : AreObjectsKept cells o) (number offset : ℕ) (value : Scalar) (r : Result A Trap) (m : FinMap nat_cmp Object) →
    stored_in number offset value (get o.live number) o.live ≡ state_or_trap r m → OnErr r (m ≡ o.live) → AreObjectsKept cells (record o { live = m })
kept_by_store cells o k number offset value r m stored same = changed cells o k number offset value (get o.live number) r m refl stored same

-- the same of a store that may do nothing
pub kept_by_quick_store : (cells : ℕ) (o : Objects) (k : AreObjectsKept cells o) (number offset : ℕ) (value : Scalar) (done : Bool) (m : FinMap nat_cmp Object) →
    (IsTrue done → stored_in number offset value (get o.live number) o.live ≡ Ok m) → (IsFalse done → m ≡ o.live) →
    AreObjectsKept cells (record o { live = m })
kept_by_quick_store cells o k number offset value true m stores same =
    let stands : Result (Unit {0}) Trap = Ok tt in
    kept_by_store cells o k number offset value stands m (stores refl) tt
kept_by_quick_store cells o k number offset value false m stores same = subst (λ l. AreObjectsKept cells (record o { live = l })) (sym (same refl)) k

last_or_fresh : (cells : ℕ) (o : Objects) (k : AreObjectsKept cells o) (q : ℕ) → get o.live (o.made - 1) ≡ None → o.made - 1 ≤ q → get o.live q ≡ None
last_or_fresh cells o k q none least =
    elim (nat_lt q o.made) as (λ (t : Bool). nat_lt q o.made ≡ t → get o.live q ≡ None) [
      | true ↦ λ is. let last : q ≡ o.made - 1 = grind (arith, nat_tests) in ap (get o.live) last ∙ none
      | false ↦ λ is. k.fresh q (grind (arith, nat_tests))
    ] refl

-- without the object that was made last, which is dead
pub kept_by_undo : (cells : ℕ) (o : Objects) (k : AreObjectsKept cells o) → get o.live (o.made - 1) ≡ None → AreObjectsKept cells (record o { made = o.made - 1 })
kept_by_undo cells o k none =
    record {
      counted = k.counted;
      room = k.room;
      numbers = let most = k.numbers in omega arith;
      fresh = λ q least. last_or_fresh cells o k q none least;
    }

-- what room for one more object means
pub room_parts : (cells : ℕ) (o : Objects) → IsTrue (has_room cells o) → (live_cells o + cells ≤ cell_limit) × (o.made < object_limit)
room_parts cells o room =
    let parts = true_both (nat_le (live_cells o + cells) cell_limit) (nat_lt o.made object_limit) room in
    (grind (arith, nat_tests, parts.0), grind (arith, nat_tests, parts.1))

-- an object that was just made is undone
pub undone_made : (o : Objects) (object : Object) (m : FinMap nat_cmp Object) → get o.live o.made ≡ None → m ≡ insert o.live o.made object →
    last_object_undone (record { made = o.made + 1; live = m }) ≡ o
undone_made o object m none is =
    let back : o.made + 1 - 1 ≡ o.made = omega arith in
    ap (λ n. let p : Objects = record { made = n; live = remove m n } in p) back
    ∙ ap (λ l. let p : Objects = record { made = o.made; live = remove l o.made } in p) is
    ∙ ap (λ l. let p : Objects = record { made = o.made; live = l } in p) (remove-insert o.live o.made object none)

-- to kill what doesn't live changes nothing
pub killed_none : (o : Objects) (number : ℕ) → get o.live number ≡ None → o ≡ object_killed number o
killed_none o number none = ap (λ l. let p : Objects = record { made = o.made; live = l } in p) (sym (remove_none o.live number none))

pub kept_without : (cells : ℕ) (o : Objects) (k : AreObjectsKept cells o) (number : ℕ) → get o.live number ≡ None → AreObjectsKept cells (object_killed number o)
kept_without cells o k number none = subst (AreObjectsKept cells) (killed_none o number none) k

undefined_each : (o : Objects) (number : ℕ) (found : Option Object) → frames.filled_in o number Undefined found ≡ undefined_in o number found
undefined_each o number None = refl
undefined_each o number (Some object) = refl

pub filled_undefined : (number : ℕ) (o : Objects) → object_filled number Undefined o ≡ object_made_undefined number o
filled_undefined number o = undefined_each o number (get o.live number)

-- the object of the last number is dead once it was killed
pub undo_is : (cells : ℕ) (o p : Objects) (k : AreObjectsKept cells p) → p ≡ object_killed (o.made - 1) o → AreObjectsKept cells (record { made = o.made - 1; live = p.live })
undo_is cells o p k is =
    let made : p.made ≡ o.made = ap (λ q. q.made) is in
    let live : p.live ≡ remove o.live (o.made - 1) = ap (λ q. q.live) is in
    let none : get p.live (p.made - 1) ≡ None =
    ap (λ l. get l (p.made - 1)) live ∙ ap (λ n. get (remove o.live (o.made - 1)) (n - 1)) made ∙ gone o.live (o.made - 1) in
    subst (λ n. AreObjectsKept cells (record { made = n - 1; live = p.live })) made (kept_by_undo cells p k none)

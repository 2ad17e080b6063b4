-- What is allocated and released of objects.
use Rattle.std.specs.Prelude.{◌&&◌, nat_le, nat_lt, ◌==◌, if◌then◌else◌, replicate}
use Rattle.std.specs.List.{AllByRecursion}
use Rattle.std.specs.Ordering.{eq_by_cmp, nat_cmp}
use Rattle.std.specs.Cmp.{nat_cmp_total, unsigned_tied}
use Rattle.std.specs.FinMap.{get, get-insert, get-remove}
use Rattle.std.proofs.Common.{◌≡◌, ◌≢◌, ◌≤◌, ◌<◌, ◌⊎◌, inl, inr, ℕ, zero, suc, ◌+◌, Bool, true, false, cond, length, Option, Some, None, ap, ◌∙◌, refl, arith, eq-eqb, eqb-true, ne_eqb, leb-false, ltb-false}
use Rattle.std.proofs.lemmas.List.{length-replicate}
use Rattle.cbi_base.specs.declared.scalar.Class.TheVariants.{Heap}
use Rattle.cbi_base.specs.declared.scalar.Scalar.{Scalar}
use Rattle.cbi_base.specs.declared.scalar.Scalar.TheVariants.{Null, Undefined}
use Rattle.cbi_base.specs.Objects.{GivesNull, Object, Objects, cell_limit, has_room, is_heap, is_heap_start, live_cells, new_undefined, object_allocated, object_killed, object_limit, object_released, place_or_null}
use Rattle.c_meaning.specs.World.{Go, Out, World}
use Rattle.c_library_laws.specs.Memory.{Allocates, FreeOfAnotherPlaceTraps, FreeOfNullDoesNothing, FreeReleases, HasNewObject, IsUndefined, MallocAllocates, NumbersAreGiven}

same-key : (q k : ℕ) → q ≡ k → eq_by_cmp nat_cmp q k ≡ true
same-key q k same = unsigned_tied q k ∙ eq-eqb q k same

other-key : (q k : ℕ) → q ≢ k → eq_by_cmp nat_cmp q k ≡ false
other-key q k apart = unsigned_tied q k ∙ ne_eqb q k apart

all-undefined : (n : ℕ) → AllByRecursion IsUndefined (replicate n Undefined)
all-undefined zero = tt
all-undefined (suc n) = (refl, all-undefined n)

-- the object that `malloc` makes
new-object : (cells : ℕ) (o : Objects) → NumbersAreGiven o → HasNewObject cells o (new_undefined cells o) o.made
new-object cells o given = record {
  new = given o.made (omega arith);
  object = record { class = Heap; cells = replicate cells Undefined };
  lives = get-insert nat_cmp_total o.live o.made (record { class = Heap; cells = replicate cells Undefined }) o.made
      ∙ ap (λ same. cond same (Some (record { class = Heap; cells = replicate cells Undefined })) (get o.live o.made)) (same-key o.made o.made refl);
  heap = refl;
  as_many = simp length-replicate;
  indeterminate = all-undefined cells;
  others = λ other apart. get-insert nat_cmp_total o.live o.made (record { class = Heap; cells = replicate cells Undefined }) other
      ∙ ap (λ same. cond same (Some (record { class = Heap; cells = replicate cells Undefined })) (get o.live other)) (other-key other o.made apart);
}

-- it gives null for no cells, and where there is no room
null-of-none : (none room : Bool) (cells : ℕ) (w : World) → NumbersAreGiven w.objects → (none ≡ true → cells ≡ 0)
    → (room ≡ false → (cell_limit < live_cells w.objects + cells) ⊎ (object_limit ≤ w.objects.made))
    → let made = if none then (Null, w.objects) else place_or_null w.objects.made w.objects (if room then Some (new_undefined cells w.objects) else None) in
    let given : Out Scalar = Go made.0 (record w { objects = made.1 }) in
    ((given ≡ Go Null w) × GivesNull cells w.objects) ⊎ Allocates cells w given
null-of-none true room cells w given nil full = inl (refl, inl (nil refl))
null-of-none false false cells w given nil full = inl (refl, inr (full refl))
null-of-none false true cells w given nil full =
    inr (record { number = w.objects.made; after = new_undefined cells w.objects; given_is = refl; has = new-object cells w.objects given })

one-false : (first second : Bool) → (first && second) ≡ false → (first ≡ false) ⊎ (second ≡ false)
one-false false second same = inl refl
one-false true second same = inr same

pub malloc-allocates : MallocAllocates
unfolding object_allocated
malloc-allocates w cells given =
    let asked = length (replicate cells Undefined) in
    null-of-none (cells == 0) (has_room asked w.objects) cells w given (λ none. eqb-true cells 0 none)
    (λ full. elim (one-false (nat_le (live_cells w.objects + asked) cell_limit) (nat_lt w.objects.made object_limit) full) as (λ _. (cell_limit < live_cells w.objects + cells) ⊎ (object_limit ≤ w.objects.made)) [
      | inl past ↦ inl (omega (arith, leb-false (live_cells w.objects + asked) cell_limit past, length-replicate cells Undefined))
      | inr past ↦ inr (ltb-false w.objects.made object_limit past)
    ])

-- the start of an object of `malloc`
at-start : (found : Option Object) (object : Object) → found ≡ Some object → object.class ≡ Heap → is_heap_start 0 found ≡ true
at-start found object is heap = ap (is_heap_start 0) is ∙ ap is_heap heap

not-at-start : (offset : ℕ) (found : Option Object) → (found ≡ None) ⊎ (1 ≤ offset) → is_heap_start offset found ≡ false
not-at-start offset None some = refl
not-at-start offset (Some object) (inl none) = absurd cc
not-at-start offset (Some object) (inr some) = let apart : offset ≢ 0 = λ same. absurd (omega arith) in ap (λ start. start && is_heap object.class) (ne_eqb offset 0 apart)

pub free-releases : FreeReleases
unfolding object_released
free-releases w number object lives heap = record {
  after = object_killed number w.objects;
  given_is = rw (at-start (get w.objects.live number) object lives heap) refl;
  dead = get-remove nat_cmp_total w.objects.live number number ∙ ap (λ same. cond same None (get w.objects.live number)) (same-key number number refl);
  others = λ other apart. get-remove nat_cmp_total w.objects.live number other ∙ ap (λ same. cond same None (get w.objects.live other)) (other-key other number apart);
}

pub free-of-null : FreeOfNullDoesNothing
unfolding object_released
free-of-null w = refl

pub free-traps : FreeOfAnotherPlaceTraps
unfolding object_released
free-traps w number offset some = rw (not-at-start offset (get w.objects.live number) some) refl

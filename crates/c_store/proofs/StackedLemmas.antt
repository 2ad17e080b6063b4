-- What the objects that are kept in order and apart answer, as the finite map of all does.
use Rattle.std.proofs.Common.{◌≡◌, ℕ, zero, suc, ◌+◌, ◌-◌, ◌<◌, ◌≤◌, Bool, true, false, cond, List, [], ◌∷◌, ◌++◌, take, length, get_or, slice_set}
use Rattle.std.proofs.Common.{slice_get, slice_index, Option, Some, None, is_some, Result, Ok, Err, nat_eq, nat_lt, refl, ap, sym, ◌∙◌, subst}
use Rattle.std.proofs.Common.{arith, length-append}
use Rattle.std.specs.List.{zip, remove}
use Rattle.std.specs.Map.{lookup}
use Rattle.std.specs.Ordering.{nat_cmp}
use Rattle.std.specs.List.Sorted.{IsBinarySearchResult}
use Rattle.std.proofs.lemmas.List.Sorted.{searched}
use Rattle.std.specs.FinMap as map
use Rattle.std.proofs.lemmas.Bool.Decides.{nat_tests}
use Rattle.std.proofs.lemmas.List.Edits.{length-remove, get_or-remove_below, get_or-remove_above}
use Rattle.base_lists.proofs.Numbers.{equal_number}
use Rattle.cbi_base.specs.Objects.{Object}
use Rattle.c_store.specs.Stacked.{IsRising, IsBelow, StandsAt, IsMissing, IsApart, IsStacked, map_of}
use Rattle.c_store.specs.Written.{with_each, written_at, put_back, stored_in, filled_map, state_or_trap}
use Rattle.c_store.proofs.Sums.{same_put}
use Rattle.cbi_base.specs.declared.scalar.Scalar.{Scalar}
use Rattle.cbi_base.specs.declared.trap.Trap.{Trap}
use Rattle.cbi_base.specs.declared.trap.Trap.TheVariants as trap
use Rattle.c_store.proofs.Tables.{get_table, inserted, removed}
use Rattle.c_store.proofs.StackLemmas.{or_else, hit, miss, set_there, removed_there, pushed, lookup-append, rising_pushed, rising_removed, old_place, new_place}

behind : (ns : List ℕ) (bs : List Object) (es : List (ℕ × Object)) (q : ℕ) →
    lookup (nat_eq q) (zip ns bs ++ es) ≡ or_else (lookup (nat_eq q) (zip ns bs)) (lookup (nat_eq q) es)
behind ns bs es q = lookup-append q (zip ns bs) es

before_it : (ns : List ℕ) (q i : ℕ) → IsRising ns → StandsAt ns q i → (k : ℕ) → k < i → slice_index ns k ≡ q → ⊥
before_it ns q i rising there k below same = let step = rising.step k i below there.within in omega (arith, step, there.at, same)

alone : (ns : List ℕ) (q i : ℕ) → IsRising ns → StandsAt ns q i → (k : ℕ) → k < length ns → slice_index ns k ≡ q → k ≡ i
alone ns q i rising there k within same =
    elim (nat_lt k i) as (λ (t : Bool). nat_lt k i ≡ t → k ≡ i) [
      | true ↦ λ is. absurd (before_it ns q i rising there k (grind (arith, nat_tests)) same)
      | false ↦ λ is. elim (nat_lt i k) as (λ (t : Bool). nat_lt i k ≡ t → k ≡ i) [
        | true ↦ λ also. absurd (let step = rising.step i k (grind (arith, nat_tests)) within in omega (arith, step, there.at, same))
        | false ↦ λ also. grind (arith, nat_tests)
      ] refl
    ] refl

not_apart : (ns : List ℕ) (es : List (ℕ × Object)) (q i : ℕ) → IsApart ns es → StandsAt ns q i → lookup (nat_eq q) es ≡ None
not_apart ns es q i apart there = subst (λ n. lookup (nat_eq n) es ≡ None) there.at (apart.none i there.within)

some_there : (bs : List Object) (i : ℕ) → i < length bs → (b : Object) × (slice_get bs i ≡ Some b)
some_there [] i within = absurd (omega arith)
some_there (b ∷ bs) zero within = (b, refl)
some_there (b ∷ bs) (suc i) within = some_there bs i (omega arith)

in_order : (ns : List ℕ) (i j : ℕ) → IsRising ns → i ≤ j → j < length ns → get_or ns i 0 ≤ get_or ns j 0
in_order ns i j rising upto within =
    elim (nat_lt i j) as (λ (t : Bool). nat_lt i j ≡ t → get_or ns i 0 ≤ get_or ns j 0) [
      | true ↦ λ is. let step = rising.step i j (grind (arith, nat_tests)) within in omega (arith, step)
      | false ↦ λ is. let same : i ≡ j = grind (arith, nat_tests) in rw same (omega arith)
    ] refl

-- an object that stands in order
pub get_there : (ns : List ℕ) (bs : List Object) (es : List (ℕ × Object)) (q i : ℕ) → IsStacked ns bs es → StandsAt ns q i →
    map.get (map_of ns bs es) q ≡ slice_get bs i
get_there ns bs es q i kept there =
    get_table (zip ns bs ++ es) q
    ∙ behind ns bs es q
    ∙ ap (λ o. or_else o (lookup (nat_eq q) es)) (hit ns bs i q (before_it ns q i kept.rising there) there.within there.at)
    ∙ (let b = some_there bs i (omega (arith, there.within, kept.even)) in ap (λ o. or_else o (lookup (nat_eq q) es)) b.1 ∙ sym b.1)

-- an object that stands apart, or nowhere
pub get_apart : (ns : List ℕ) (bs : List Object) (es : List (ℕ × Object)) (q : ℕ) → IsMissing ns q → map.get (map_of ns bs es) q ≡ lookup (nat_eq q) es
get_apart ns bs es q missing =
    get_table (zip ns bs ++ es) q
    ∙ behind ns bs es q
    ∙ ap (λ o. or_else o (lookup (nat_eq q) es)) (miss ns bs q missing.nowhere)

at_index : (bs : List Object) (i : ℕ) (b : Object) → i < length bs → b ≡ get_or bs i b → slice_get bs i ≡ Some b
at_index [] i b within is = absurd (omega arith)
at_index (c ∷ bs) zero b within is = ap Some (sym is)
at_index (c ∷ bs) (suc i) b within is = at_index bs i b (omega arith) is

pub got_there : (ns : List ℕ) (bs : List Object) (es : List (ℕ × Object)) (q i : ℕ) (b : Object) → IsStacked ns bs es → StandsAt ns q i → b ≡ get_or bs i b →
    map.get (map_of ns bs es) q ≡ Some b
got_there ns bs es q i b kept there is = get_there ns bs es q i kept there ∙ at_index bs i b (omega (arith, there.within, kept.even)) is

first_changes : {X : Type 0} (t : Bool) (w : X) (s h : Option X) → or_else (cond t (Some w) s) h ≡ cond t (Some w) (or_else s h)
first_changes true w s h = refl
first_changes false w s h = refl

first_goes : {X : Type 0} (t : Bool) (s h : Option X) → (t ≡ true → h ≡ None) → or_else (cond t None s) h ≡ cond t None (or_else s h)
first_goes true s h none = none refl
first_goes false s h none = refl

second_changes : {X : Type 0} (t : Bool) (w : Option X) (s h : Option X) → (t ≡ true → s ≡ None) → or_else s (cond t w h) ≡ cond t w (or_else s h)
second_changes true w s h none = ap (λ o. or_else o w) (none refl)
second_changes false w s h none = refl

pub set_in_order : (ns : List ℕ) (bs : List Object) (es : List (ℕ × Object)) (k i : ℕ) (w : Object) → IsStacked ns bs es → StandsAt ns k i →
    map_of ns (slice_set bs i w) es ≡ map.insert (map_of ns bs es) k w
set_in_order ns bs es k i w kept there =
    inserted (zip ns bs ++ es) (zip ns (slice_set bs i w) ++ es) k w (λ q.
    behind ns (slice_set bs i w) es q
    ∙ ap (λ o. or_else o (lookup (nat_eq q) es)) (set_there ns bs i k q w (before_it ns k i kept.rising there) there.within there.at kept.even)
    ∙ first_changes (nat_eq k q) w (lookup (nat_eq q) (zip ns bs)) (lookup (nat_eq q) es)
    ∙ ap (cond (nat_eq k q) (Some w)) (sym (behind ns bs es q)))

pub removed_in_order : (ns : List ℕ) (bs : List Object) (es : List (ℕ × Object)) (k i : ℕ) → IsStacked ns bs es → StandsAt ns k i →
    map_of (remove ns i) (remove bs i) es ≡ map.remove (map_of ns bs es) k
removed_in_order ns bs es k i kept there =
    removed (zip ns bs ++ es) (zip (remove ns i) (remove bs i) ++ es) k (λ q.
    behind (remove ns i) (remove bs i) es q
    ∙ ap (λ o. or_else o (lookup (nat_eq q) es)) (removed_there ns bs i k q (alone ns k i kept.rising there) there.within there.at kept.even)
    ∙ first_goes (nat_eq k q) (lookup (nat_eq q) (zip ns bs)) (lookup (nat_eq q) es)
    (λ is. subst (λ n. lookup (nat_eq n) es ≡ None) (equal_number k q is) (not_apart ns es k i kept.apart there))
    ∙ ap (cond (nat_eq k q) None) (sym (behind ns bs es q)))

left_apart : (ns : List ℕ) (es : List (ℕ × Object)) (i k : ℕ) → IsApart ns es → i < length ns → k + 1 < length ns →
    lookup (nat_eq (slice_index (remove ns i) k)) es ≡ None
left_apart ns es i k apart there within =
    elim (nat_lt k i) as (λ (t : Bool). nat_lt k i ≡ t → lookup (nat_eq (slice_index (remove ns i) k)) es ≡ None) [
      | true ↦ λ is. rw (get_or-remove_below ns i 0 k (grind (arith, nat_tests)) there) (apart.none k (omega arith))
      | false ↦ λ is. rw (get_or-remove_above ns i 0 k (grind (arith, nat_tests)) there) (apart.none (k + 1) within)
    ] refl

pub kept_by_removal : (ns : List ℕ) (bs : List Object) (es : List (ℕ × Object)) (i : ℕ) → IsStacked ns bs es → i < length ns →
    IsStacked (remove ns i) (remove bs i) es
kept_by_removal ns bs es i kept there =
    record {
      even = let less = length-remove ns i there in let more = length-remove bs i (omega (arith, kept.even)) in omega (arith, less, more, kept.even);
      rising = rising_removed ns i there kept.rising;
      apart = record { none = λ k within. left_apart ns es i k kept.apart there (omega (arith, length-remove ns i there)) };
    }

-- a number without an object stands nowhere
nothing_first : {X : Type 0} (s h : Option X) → or_else s h ≡ None → s ≡ None
nothing_first None h none = refl
nothing_first (Some x) h none = none

nothing_behind : {X : Type 0} (s h : Option X) → or_else s h ≡ None → h ≡ None
nothing_behind None h none = none
nothing_behind (Some x) h none = absurd cc

neither : (ns : List ℕ) (bs : List Object) (es : List (ℕ × Object)) (k : ℕ) → map.get (map_of ns bs es) k ≡ None →
    or_else (lookup (nat_eq k) (zip ns bs)) (lookup (nat_eq k) es) ≡ None
neither ns bs es k none = sym (behind ns bs es k) ∙ sym (get_table (zip ns bs ++ es) k) ∙ none

pub push_in_order : (ns : List ℕ) (bs : List Object) (es : List (ℕ × Object)) (k : ℕ) (b : Object) → IsStacked ns bs es → map.get (map_of ns bs es) k ≡ None →
    map_of (ns ++ k ∷ []) (bs ++ b ∷ []) es ≡ map.insert (map_of ns bs es) k b
push_in_order ns bs es k b kept none =
    inserted (zip ns bs ++ es) (zip (ns ++ k ∷ []) (bs ++ b ∷ []) ++ es) k b (λ q.
    behind (ns ++ k ∷ []) (bs ++ b ∷ []) es q
    ∙ ap (λ o. or_else o (lookup (nat_eq q) es)) (pushed ns bs k b q kept.even (nothing_first (lookup (nat_eq k) (zip ns bs)) (lookup (nat_eq k) es) (neither ns bs es k none)))
    ∙ first_changes (nat_eq k q) b (lookup (nat_eq q) (zip ns bs)) (lookup (nat_eq q) es)
    ∙ ap (cond (nat_eq k q) (Some b)) (sym (behind ns bs es q)))

more_apart : (ns : List ℕ) (es : List (ℕ × Object)) (n k : ℕ) → IsApart ns es → lookup (nat_eq n) es ≡ None → k ≤ length ns →
    lookup (nat_eq (slice_index (ns ++ n ∷ []) k)) es ≡ None
more_apart ns es n k apart none within =
    elim (nat_lt k (length ns)) as (λ (t : Bool). nat_lt k (length ns) ≡ t → lookup (nat_eq (slice_index (ns ++ n ∷ []) k)) es ≡ None) [
      | true ↦ λ is. let inside : k < length ns = grind (arith, nat_tests) in rw (old_place ns n k inside) (apart.none k inside)
      | false ↦ λ is. let last : k ≡ length ns = grind (arith, nat_tests) in rw (last, new_place ns n) none
    ] refl

pub kept_by_push : (ns : List ℕ) (bs : List Object) (es : List (ℕ × Object)) (k : ℕ) (b : Object) → IsStacked ns bs es → map.get (map_of ns bs es) k ≡ None →
    IsBelow ns k → IsStacked (ns ++ k ∷ []) (bs ++ b ∷ []) es
kept_by_push ns bs es k b kept none above =
    record {
      even = omega (arith, kept.even, length-append ns (k ∷ []), length-append bs (b ∷ []));
      rising = rising_pushed ns k kept.rising above.all;
      apart = record {
        none =
            λ i within. more_apart ns es k i kept.apart (nothing_behind (lookup (nat_eq k) (zip ns bs)) (lookup (nat_eq k) es) (neither ns bs es k none)) (omega (arith, length-append ns (k ∷ [])));
      };
    }

-- objects apart that differ at one number, which doesn't stand in order
pub set_apart : (ns : List ℕ) (bs : List Object) (es fs : List (ℕ × Object)) (k : ℕ) (w : Object) → IsMissing ns k →
    ((q : ℕ) → lookup (nat_eq q) fs ≡ cond (nat_eq k q) (Some w) (lookup (nat_eq q) es)) → map_of ns bs fs ≡ map.insert (map_of ns bs es) k w
set_apart ns bs es fs k w missing h =
    inserted (zip ns bs ++ es) (zip ns bs ++ fs) k w (λ q.
    behind ns bs fs q
    ∙ ap (or_else (lookup (nat_eq q) (zip ns bs))) (h q)
    ∙ second_changes (nat_eq k q) (Some w) (lookup (nat_eq q) (zip ns bs)) (lookup (nat_eq q) es)
    (λ is. subst (λ n. lookup (nat_eq n) (zip ns bs) ≡ None) (equal_number k q is) (miss ns bs k missing.nowhere))
    ∙ ap (cond (nat_eq k q) (Some w)) (sym (behind ns bs es q)))

pub removed_apart : (ns : List ℕ) (bs : List Object) (es fs : List (ℕ × Object)) (k : ℕ) → IsMissing ns k →
    ((q : ℕ) → lookup (nat_eq q) fs ≡ cond (nat_eq k q) None (lookup (nat_eq q) es)) → map_of ns bs fs ≡ map.remove (map_of ns bs es) k
removed_apart ns bs es fs k missing h =
    removed (zip ns bs ++ es) (zip ns bs ++ fs) k (λ q.
    behind ns bs fs q
    ∙ ap (or_else (lookup (nat_eq q) (zip ns bs))) (h q)
    ∙ second_changes (nat_eq k q) None (lookup (nat_eq q) (zip ns bs)) (lookup (nat_eq q) es)
    (λ is. subst (λ n. lookup (nat_eq n) (zip ns bs) ≡ None) (equal_number k q is) (miss ns bs k missing.nowhere))
    ∙ ap (cond (nat_eq k q) None) (sym (behind ns bs es q)))

still_none : (k n : ℕ) (w : Option Object) (o : Option Object) → (n ≡ k → ⊥) → o ≡ None → cond (nat_eq k n) w o ≡ None
still_none k n w o differ none = let no : nat_eq k n ≡ false = grind (arith, nat_tests) in ap (λ t. cond t w o) no ∙ none

-- what is put apart or taken from there, at a number that doesn't stand in order
pub kept_apart : (ns : List ℕ) (bs : List Object) (es fs : List (ℕ × Object)) (k : ℕ) (w : Option Object) → IsStacked ns bs es → IsMissing ns k →
    ((q : ℕ) → lookup (nat_eq q) fs ≡ cond (nat_eq k q) w (lookup (nat_eq q) es)) → IsStacked ns bs fs
kept_apart ns bs es fs k w kept missing h =
    record {
      even = kept.even;
      rising = kept.rising;
      apart = record {
        none = λ i within. h (slice_index ns i)
            ∙ still_none k (slice_index ns i) w (lookup (nat_eq (slice_index ns i)) es) (missing.nowhere i within) (kept.apart.none i within);
      };
    }

-- a number without an object doesn't stand in order
pub missing_of_none : (ns : List ℕ) (bs : List Object) (es : List (ℕ × Object)) (k : ℕ) → IsStacked ns bs es → map.get (map_of ns bs es) k ≡ None →
    IsMissing ns k
missing_of_none ns bs es k kept none =
    record {
      nowhere = λ i within at.
          let there : StandsAt ns k i = record { within = within; at = at } in
          let b = some_there bs i (omega (arith, within, kept.even)) in
          let both : Some b.0 ≡ None = sym b.1 ∙ sym (get_there ns bs es k i kept there) ∙ none in absurd cc;
    }

is_not : (o : Option Object) → o ≡ None → is_some o ≡ true → ⊥
is_not None none some = absurd cc
is_not (Some b) none some = absurd cc

-- a number of the entries stands nowhere among those in order
pub apart_is_missing : (ns : List ℕ) (es : List (ℕ × Object)) (k : ℕ) → IsApart ns es → is_some (lookup (nat_eq k) es) ≡ true → IsMissing ns k
apart_is_missing ns es k apart some =
    record {
      nowhere = λ i within at. let none : lookup (nat_eq k) es ≡ None = subst (λ n. lookup (nat_eq n) es ≡ None) at (apart.none i within) in
          is_not (lookup (nat_eq k) es) none some;
    }

-- a search that finds a place to insert at, alone
pub missing_of_search : (ns : List ℕ) (q i : ℕ) → IsRising ns → IsBinarySearchResult (λ y. nat_cmp y q) ns (Err i) → IsMissing ns q
missing_of_search ns q i rising found =
    let split = searched ns q (Err i) found (λ j k upto within. in_order ns j k rising upto within) in
    record {
      nowhere = λ k within at.
          elim (nat_lt k i) as (λ (t : Bool). nat_lt k i ≡ t → ⊥) [
            | true ↦ λ is. let below = split.1 k (grind (arith, nat_tests)) in omega (arith, below, at)
            | false ↦ λ is. let above = split.2 k (grind (arith, nat_tests)) within in omega (arith, above, at)
          ] refl;
    }

-- each cell filled in an object that lives
pub filled_some : (m n : map.FinMap nat_cmp Object) (k : ℕ) (value : Scalar) (b w : Object) → map.get m k ≡ Some b → w ≡ with_each value b →
    n ≡ map.insert m k w →
    n ≡ filled_map k value (map.get m k) m
filled_some m n k value b w at is becomes = becomes ∙ ap (map.insert m k) is ∙ sym (ap (λ o. filled_map k value o m) at)

pub filled_none : (m : map.FinMap nat_cmp Object) (k : ℕ) (value : Scalar) → map.get m k ≡ None → m ≡ filled_map k value (map.get m k) m
filled_none m k value at = sym (ap (λ o. filled_map k value o m) at)

-- a value stored in an object that lives
pub stored_some : {A : Type 0} (m n : map.FinMap nat_cmp Object) (k offset : ℕ) (value : Scalar) (b w : Object) (r : Result A Trap) →
    map.get m k ≡ Some b → written_at offset value b ≡ state_or_trap r w → n ≡ map.insert m k w →
    stored_in k offset value (map.get m k) m ≡ state_or_trap r n
stored_some m n k offset value b w (Ok done) at is becomes =
    ap (λ o. stored_in k offset value o m) at ∙ ap (put_back m k) is ∙ ap Ok (sym becomes)
stored_some m n k offset value b w (Err t) at is becomes =
    ap (λ o. stored_in k offset value o m) at ∙ ap (put_back m k) is

pub stored_none : (m : map.FinMap nat_cmp Object) (k offset : ℕ) (value : Scalar) → map.get m k ≡ None →
    stored_in k offset value (map.get m k) m ≡ Err trap.Dead
stored_none m k offset value at = ap (λ o. stored_in k offset value o m) at

-- what is put where it stands already changes nothing
pub unchanged : (m n : map.FinMap nat_cmp Object) (k : ℕ) (b w : Object) → map.get m k ≡ Some b → w ≡ b → n ≡ map.insert m k w → n ≡ m
unchanged m n k b w at same becomes = becomes ∙ ap (map.insert m k) same ∙ same_put m k b at

pub heap_there : (ns : List ℕ) (bs : List Object) (es : List (ℕ × Object)) (q : ℕ) (b : Object) → IsStacked ns bs es →
    lookup (nat_eq q) es ≡ Some b → map.get (map_of ns bs es) q ≡ Some b
heap_there ns bs es q b kept is = get_apart ns bs es q (apart_is_missing ns es q kept.apart (ap is_some is)) ∙ is

pub nothing_there : (ns : List ℕ) (bs : List Object) (es : List (ℕ × Object)) (q : ℕ) → IsMissing ns q → lookup (nat_eq q) es ≡ None →
    map.get (map_of ns bs es) q ≡ None
nothing_there ns bs es q missing none = get_apart ns bs es q missing ∙ none

cut : {X : Type 0} (x : X) (xs : List X) (i : ℕ) → remove xs i ≡ take (length xs - 1) xs → 0 < length xs → x ∷ remove xs i ≡ take (length (x ∷ xs) - 1) (x ∷ xs)
cut x [] i same some = absurd (omega arith)
cut x (y ∷ ys) i same some =
    let long : suc (length (y ∷ ys) - 1) ≡ length (x ∷ y ∷ ys) - 1 = omega arith in
    ap (λ zs. x ∷ zs) same ∙ ap (λ m. take m (x ∷ y ∷ ys)) long

remove-last : {X : Type 0} (xs : List X) (i : ℕ) → i + 1 ≡ length xs → remove xs i ≡ take (length xs - 1) xs
remove-last [] i is = absurd (omega arith)
remove-last (x ∷ []) zero is = refl
remove-last (x ∷ y ∷ xs) zero is = absurd (omega arith)
remove-last (x ∷ xs) (suc i) is = cut x xs i (remove-last xs i (omega arith)) (omega arith)

-- to take off the last one is to take out the one at its place
pub popped : {X : Type 0} (xs ys : List X) (n i : ℕ) → ys ≡ take (n - 1) xs → n ≡ length xs → i + 1 ≡ n → ys ≡ remove xs i
popped xs ys n i is long last = is ∙ ap (λ m. take (m - 1) xs) long ∙ sym (remove-last xs i (last ∙ long))

value_at : (bs : List Object) (i : ℕ) (b d : Object) → slice_get bs i ≡ Some b → get_or bs i d ≡ b
value_at [] i b d is = absurd cc
value_at (c ∷ bs) zero b d is = cc
value_at (c ∷ bs) (suc i) b d is = value_at bs i b d is

pub popped_value : (bs : List Object) (n i : ℕ) (r : Option Object) → ((d : Object) → 0 < n → r ≡ Some (get_or bs (n - 1) d)) → n ≡ length bs →
    i + 1 ≡ n → r ≡ slice_get bs i
popped_value bs n i r value long last =
    let b = some_there bs i (omega (arith, long, last)) in
    let place : n - 1 ≡ i = omega (arith, last) in
    value b.0 (omega (arith, last)) ∙ ap (λ k. Some (get_or bs k b.0)) place ∙ ap Some (value_at bs i b.0 b.0 b.1) ∙ sym b.1

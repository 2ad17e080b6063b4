-- Objects in the order of their numbers, as entries of a map.
use Rattle.std.proofs.Common.{◌≡◌, ℕ, zero, suc, ◌+◌, ◌<◌, ◌≤◌, Bool, true, false, cond, List, [], ◌∷◌, ◌++◌, length, get_or, slice_set, slice_get}
use Rattle.std.proofs.Common.{Option, Some, None, nat_eq, nat_lt, refl, ap, sym, ◌∙◌, arith, length-append}
use Rattle.std.proofs.lemmas.List.Edits.{get_or-remove_below, get_or-remove_above, length-remove}
use Rattle.std.specs.List.{zip, remove}
use Rattle.std.specs.Map.{lookup}
use Rattle.std.proofs.lemmas.Bool.Decides.{nat_tests}
use Rattle.base_lists.proofs.Numbers.{equal_number}
use Rattle.c_store.specs.Stacked.{IsRising}

-- what is there, or else what stands behind it
abbrev pub or_else : {X : Type 0} → Option X → Option X → Option X
or_else None second = second
or_else (Some x) second = Some x

-- the test of a number that is another
differs : (q n : ℕ) → (n ≡ q → ⊥) → nat_eq q n ≡ false
differs q n h = grind (arith, nat_tests)

agrees : (q n : ℕ) → n ≡ q → nat_eq q n ≡ true
agrees q n h = grind (arith, nat_tests)

pub hit : {X : Type 0} (ns : List ℕ) (bs : List X) (i q : ℕ) → ((k : ℕ) → k < i → get_or ns k 0 ≡ q → ⊥) → i < length ns → get_or ns i 0 ≡ q →
    lookup (nat_eq q) (zip ns bs) ≡ slice_get bs i
hit [] bs i q before within at = absurd (omega arith)
hit (n ∷ ns) [] i q before within at = refl
hit (n ∷ ns) (b ∷ bs) zero q before within at = ap (λ t. cond t (Some b) (lookup (nat_eq q) (zip ns bs))) (agrees q n at)
hit (n ∷ ns) (b ∷ bs) (suc i) q before within at =
    ap (λ t. cond t (Some b) (lookup (nat_eq q) (zip ns bs))) (differs q n (before 0 (omega arith)))
    ∙ hit ns bs i q (λ k below. before (suc k) (omega arith)) (omega arith) at

pub miss : {X : Type 0} (ns : List ℕ) (bs : List X) (q : ℕ) → ((k : ℕ) → k < length ns → get_or ns k 0 ≡ q → ⊥) → lookup (nat_eq q) (zip ns bs) ≡ None
miss [] bs q none = refl
miss (n ∷ ns) [] q none = refl
miss (n ∷ ns) (b ∷ bs) q none =
    ap (λ t. cond t (Some b) (lookup (nat_eq q) (zip ns bs))) (differs q n (none 0 (omega arith)))
    ∙ miss ns bs q (λ k below. none (suc k) (omega arith))

hides : {X : Type 0} (t : Bool) (w b : X) (o : Option X) → cond t (Some w) o ≡ cond t (Some w) (cond t (Some b) o)
hides true w b o = refl
hides false w b o = refl

-- of two tests at most one holds, so either may be looked at first
swapped : {X : Type 0} (t u : Bool) (x y z : Option X) → (t ≡ true → u ≡ false) → cond t x (cond u y z) ≡ cond u y (cond t x z)
swapped true true x y z h = absurd (let no : true ≡ false = h refl in cc)
swapped true false x y z h = refl
swapped false u x y z h = refl

apart : (k q n : ℕ) → (n ≡ k → ⊥) → nat_eq q n ≡ true → nat_eq k q ≡ false
apart k q n differ is = grind (arith, nat_tests)

pub set_there : {X : Type 0} (ns : List ℕ) (bs : List X) (i k q : ℕ) (w : X) → ((j : ℕ) → j < i → get_or ns j 0 ≡ k → ⊥) → i < length ns →
    get_or ns i 0 ≡ k → length ns ≡ length bs →
    lookup (nat_eq q) (zip ns (slice_set bs i w)) ≡ cond (nat_eq k q) (Some w) (lookup (nat_eq q) (zip ns bs))
set_there [] bs i k q w before within at even = absurd (omega arith)
set_there (n ∷ ns) [] i k q w before within at even = absurd (omega arith)
set_there (n ∷ ns) (b ∷ bs) zero k q w before within at even =
    hides (nat_eq q n) w b (lookup (nat_eq q) (zip ns bs))
    ∙ ap (λ t. cond t (Some w) (cond (nat_eq q n) (Some b) (lookup (nat_eq q) (zip ns bs)))) (grind (arith, nat_tests))
set_there (n ∷ ns) (b ∷ bs) (suc i) k q w before within at even =
    ap (cond (nat_eq q n) (Some b)) (set_there ns bs i k q w (λ j below. before (suc j) (omega arith)) (omega arith) at (omega arith))
    ∙ swapped (nat_eq q n) (nat_eq k q) (Some b) (Some w) (lookup (nat_eq q) (zip ns bs)) (apart k q n (before 0 (omega arith)))

gone : {X : Type 0} (t u : Bool) (b : X) (o : Option X) → t ≡ u → (u ≡ true → o ≡ None) → o ≡ cond u None (cond t (Some b) o)
gone true true b o same none = none refl
gone false false b o same none = refl
gone true false b o same none = absurd cc
gone false true b o same none = absurd cc

pub removed_there : {X : Type 0} (ns : List ℕ) (bs : List X) (i k q : ℕ) → ((j : ℕ) → j < length ns → get_or ns j 0 ≡ k → j ≡ i) → i < length ns →
    get_or ns i 0 ≡ k → length ns ≡ length bs →
    lookup (nat_eq q) (zip (remove ns i) (remove bs i)) ≡ cond (nat_eq k q) None (lookup (nat_eq q) (zip ns bs))
removed_there [] bs i k q alone within at even = absurd (omega arith)
removed_there (n ∷ ns) [] i k q alone within at even = absurd (omega arith)
removed_there (n ∷ ns) (b ∷ bs) zero k q alone within at even =
    gone (nat_eq q n) (nat_eq k q) b (lookup (nat_eq q) (zip ns bs)) (grind (arith, nat_tests))
    (λ is. miss ns bs q (λ j below same. let there : suc j ≡ 0 = alone (suc j) (omega arith) (same ∙ sym (equal_number k q is)) in omega arith))
removed_there (n ∷ ns) (b ∷ bs) (suc i) k q alone within at even =
    ap (cond (nat_eq q n) (Some b)) (removed_there ns bs i k q (λ j below same. let there : suc j ≡ suc i =
    alone (suc j) (omega arith) same in omega arith) (omega arith) at (omega arith))
    ∙ swapped (nat_eq q n) (nat_eq k q) (Some b) None (lookup (nat_eq q) (zip ns bs))
    (apart k q n (λ same. let there : 0 ≡ suc i = alone 0 (omega arith) same in omega arith))

pub pushed : {X : Type 0} (ns : List ℕ) (bs : List X) (k : ℕ) (b : X) (q : ℕ) → length ns ≡ length bs → lookup (nat_eq k) (zip ns bs) ≡ None →
    lookup (nat_eq q) (zip (ns ++ k ∷ []) (bs ++ b ∷ [])) ≡ cond (nat_eq k q) (Some b) (lookup (nat_eq q) (zip ns bs))
pushed [] [] k b q even none = ap (λ t. cond t (Some b) None) (grind (arith, nat_tests))
pushed [] (c ∷ bs) k b q even none = absurd (omega arith)
pushed (n ∷ ns) [] k b q even none = absurd (omega arith)
pushed (n ∷ ns) (c ∷ bs) k b q even none =
    elim (nat_eq k n) as (λ (t : Bool). nat_eq k n ≡ t → cond t (Some c) (lookup (nat_eq k) (zip ns bs)) ≡ None →
    cond (nat_eq q n) (Some c) (lookup (nat_eq q) (zip (ns ++ k ∷ []) (bs ++ b ∷ []))) ≡ cond (nat_eq k q) (Some b) (cond (nat_eq q n) (Some c) (lookup (nat_eq q) (zip ns bs)))) [
      | true ↦ λ is some. absurd cc
      | false ↦ λ is rest.
          ap (cond (nat_eq q n) (Some c)) (pushed ns bs k b q (omega arith) rest)
          ∙ swapped (nat_eq q n) (nat_eq k q) (Some c) (Some b) (lookup (nat_eq q) (zip ns bs)) (λ same. grind (arith, nat_tests))
    ] refl none

pub lookup-append : {X : Type 0} (q : ℕ) (xs ys : List (ℕ × X)) → lookup (nat_eq q) (xs ++ ys) ≡ or_else (lookup (nat_eq q) xs) (lookup (nat_eq q) ys)
lookup-append q [] ys = refl
lookup-append q (e ∷ xs) ys =
    ap (cond (nat_eq q e.0) (Some e.1)) (lookup-append q xs ys) ∙ chosen (nat_eq q e.0)
  where
    chosen : (t : Bool) → cond t (Some e.1) (or_else (lookup (nat_eq q) xs) (lookup (nat_eq q) ys)) ≡ or_else (cond t (Some e.1) (lookup (nat_eq q) xs)) (lookup (nat_eq q) ys)
    chosen true = refl
    chosen false = refl

pub old_place : (ns : List ℕ) (n i : ℕ) → i < length ns → get_or (ns ++ n ∷ []) i 0 ≡ get_or ns i 0
old_place [] n i within = absurd (omega arith)
old_place (m ∷ ns) n zero within = refl
old_place (m ∷ ns) n (suc i) within = old_place ns n i (omega arith)

pub new_place : (ns : List ℕ) (n : ℕ) → get_or (ns ++ n ∷ []) (length ns) 0 ≡ n
new_place [] n = refl
new_place (m ∷ ns) n = new_place ns n

put : (ns : List ℕ) (n : ℕ) → IsRising ns → ((k : ℕ) → k < length ns → get_or ns k 0 < n) → (i j : ℕ) → i < j → j ≤ length ns →
    get_or (ns ++ n ∷ []) i 0 < get_or (ns ++ n ∷ []) j 0
put ns n rising above i j less within =
    elim (nat_lt j (length ns)) as (λ (t : Bool). nat_lt j (length ns) ≡ t → get_or (ns ++ n ∷ []) i 0 < get_or (ns ++ n ∷ []) j 0) [
      | true ↦ λ is. let inside : j < length ns =
          grind (arith, nat_tests) in rw (old_place ns n i (omega arith), old_place ns n j inside) (rising.step i j less inside)
      | false ↦ λ is. let last : j ≡ length ns = grind (arith, nat_tests) in rw (last, new_place ns n, old_place ns n i (omega arith)) (above i (omega arith))
    ] refl

pub rising_pushed : (ns : List ℕ) (n : ℕ) → IsRising ns → ((k : ℕ) → k < length ns → get_or ns k 0 < n) → IsRising (ns ++ n ∷ [])
rising_pushed ns n rising above = record { step = λ i j less within. put ns n rising above i j less (omega (arith, length-append ns (n ∷ []))) }

left : (ns : List ℕ) (i : ℕ) → i < length ns → IsRising ns → (j k : ℕ) → j < k → k + 1 < length ns → get_or (remove ns i) j 0 < get_or (remove ns i) k 0
left ns i within rising j k less inside =
    elim (nat_lt j i) as (λ (t : Bool). nat_lt j i ≡ t → get_or (remove ns i) j 0 < get_or (remove ns i) k 0) [
      | true ↦ λ is. elim (nat_lt k i) as (λ (t : Bool). nat_lt k i ≡ t → get_or (remove ns i) j 0 < get_or (remove ns i) k 0) [
        | true ↦ λ also. rw (get_or-remove_below ns i 0 j (grind (arith, nat_tests)) within, get_or-remove_below ns i 0 k (grind (arith, nat_tests)) within) (rising.step j k less (omega arith))
        | false ↦ λ not. rw (get_or-remove_below ns i 0 j (grind (arith, nat_tests)) within, get_or-remove_above ns i 0 k (grind (arith, nat_tests)) within) (rising.step j (k + 1) (omega arith) inside)
      ] refl
      | false ↦ λ is. rw (get_or-remove_above ns i 0 j (grind (arith, nat_tests)) within, get_or-remove_above ns i 0 k (grind (arith, nat_tests)) within) (rising.step (j + 1) (k + 1) (omega arith) inside)
    ] refl

pub rising_removed : (ns : List ℕ) (i : ℕ) → i < length ns → IsRising ns → IsRising (remove ns i)
rising_removed ns i within rising = record { step = λ j k less inside. left ns i within rising j k less (omega (arith, length-remove ns i within)) }

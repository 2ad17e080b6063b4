-- The items of a list at the numbers of a part.
use Rattle.std.proofs.Common.{◌≡◌, ℕ, zero, suc, ◌+◌, ◌-◌, ◌*◌, ◌<◌, ◌≤◌, Bool, true, false, if◌then◌else◌, List, [], ◌∷◌, length, Some, None, slice_get, refl, ap, subst, arith}
use Rattle.std.specs.Prelude.{filter_map}
use Rattle.std.specs.List.{All, cons_option, enumerate_from}
use Rattle.std.proofs.Math.Nat.{add-mul, suc-mul}
use Rattle.std.proofs.lemmas.List.Elements.{All-cons, All-head, All-nil, All-tail}
use Rattle.std.proofs.lemmas.Nat.{same_from_place}
use Rattle.flow.specs.Sites.{PartFits}
use Rattle.flow.specs.declared.choice.Part.{Part}
use Rattle.program_parts.specs.Part.{is_site_in_part, item_in, number_in, part_of, whole_number}
use Rattle.program_parts.proofs.Numbers.{has_whole, whole_back}

-- those among the items that have the numbers from this one on
abbrev pub part_from : {A : Type 0} → Part → ℕ → List A → List A
part_from part start items = filter_map (item_in part) (enumerate_from start items)

abbrev pub kept_by : {A : Type 0} → Bool → A → List A → List A
kept_by b x more = cons_option (if b then Some x else None) more

-- the first number in the part of those from this one on
record IsNext (part : Part) (start first : ℕ) : Type 0 where
  least : start ≤ whole_number part first
  near : whole_number part first < start + part.count

next_is : (part : Part) (start first : ℕ) → PartFits part → IsNext part start first → is_site_in_part part start ≡ true → whole_number part first ≡ start
next_is part start first is next h =
    let back : whole_number part (number_in part start) ≡ start = whole_back part start is h in
    let rest = whole_number part first - start in
    let small : rest < part.count = omega (arith, next.least, next.near, is.some) in
    let e : first * part.count + 0 ≡ number_in part start * part.count + rest = omega (arith, next.least, back) in
    let same = same_from_place first 0 (number_in part start) rest part.count (omega (arith, is.some)) small e in
    omega (arith, same.1, next.least)

next_later : (part : Part) (start first : ℕ) → PartFits part → IsNext part start first → is_site_in_part part start ≡ false → start < whole_number part first
next_later part start first is next h =
    let other : whole_number part first ≡ start → ⊥ = λ e. let yes : is_site_in_part part start ≡ true = subst (λ (n : ℕ). is_site_in_part part n ≡ true) e (has_whole part first is) in cc in
    omega (arith, next.least, other)

more_than : (part : Part) (first more : ℕ) → whole_number part (first + more) ≡ whole_number part first + more * part.count
more_than part first more = omega (arith, add-mul first more part.count)

first_more : (part : Part) (first more : ℕ) → whole_number part (first + suc more) ≡ whole_number part (first + 1 + more)
first_more part first more = ap (whole_number part) (omega arith)

-- the items from a number on, as they are found by the numbers of the part
abbrev Found : {A : Type 0} → Part → List A → Type 0
Found part items =
    (start first more place : ℕ) → IsNext part start first → start + place ≡ whole_number part (first + more) →
    slice_get (part_from part start items) more ≡ slice_get items place

found_by : {A : Type 0} (part : Part) (x : A) (items : List A) (b : Bool) (start first more place : ℕ) → PartFits part → Found part items → IsNext part start first →
    is_site_in_part part start ≡ b → start + place ≡ whole_number part (first + more) →
    slice_get (kept_by b x (part_from part (start + 1) items)) more ≡ slice_get (x ∷ items) place
found_by part x items true start first zero zero is rest next h e = refl
found_by part x items true start first zero (suc place) is rest next h e =
    absurd (omega (arith, e, next_is part start first is next h, more_than part first zero))
found_by part x items true start first (suc more) zero is rest next h e =
    absurd (omega (arith, e, next_is part start first is next h, more_than part first (suc more), suc-mul more part.count, is.some))
found_by part x items true start first (suc more) (suc place) is rest next h e =
    let at = next_is part start first is next h in
    let one = more_than part first 1 in
    rest (start + 1) (first + 1) more place (record { least = omega (arith, at, one, is.some); near = omega (arith, at, one) }) (omega (arith, e, first_more part first more))
found_by part x items false start first more zero is rest next h e =
    absurd (omega (arith, e, next_later part start first is next h, more_than part first more))
found_by part x items false start first more (suc place) is rest next h e =
    rest (start + 1) first more place (record { least = omega (arith, next_later part start first is next h); near = omega (arith, next.near) }) (omega (arith, e))

found : {A : Type 0} (part : Part) (items : List A) → PartFits part → Found part items
found part [] is = λ start first more place next e. refl
found part (x ∷ items) is = λ start first more place next e.
    found_by part x items (is_site_in_part part start) start first more place is (found part items is) next refl e

pub item_at : {A : Type 0} (part : Part) (items : List A) (number : ℕ) → PartFits part → slice_get (part_of part items) number ≡ slice_get items (whole_number part number)
item_at part items number is =
    found part items is 0 0 number (whole_number part number)
    (record { least = omega arith; near = omega (arith, is.index) }) (omega arith)

-- what holds of each item holds of each that the part has
all_by : {A : Type 0} (P : A → Type 0) (b : Bool) (x : A) (more : List A) → P x → All P more → All P (kept_by b x more)
all_by P true x more h all = All-cons P x more h all
all_by P false x more h all = all

all_from : {A : Type 0} (P : A → Type 0) (part : Part) (start : ℕ) (items : List A) → All P items → All P (part_from part start items)
all_from P part start [] all = All-nil P
all_from P part start (x ∷ items) all =
    all_by P (is_site_in_part part start) x (part_from part (start + 1) items) (All-head P x items all) (all_from P part (start + 1) items (All-tail P x items all))

pub all_of : {A : Type 0} (P : A → Type 0) (part : Part) (items : List A) → All P items → All P (part_of part items)
all_of P part items all = all_from P part 0 items all

few_by : {A : Type 0} (b : Bool) (x : A) (more : List A) → length (kept_by b x more) ≤ suc (length more)
few_by true x more = omega arith
few_by false x more = omega arith

few_from : {A : Type 0} (part : Part) (start : ℕ) (items : List A) → length (part_from part start items) ≤ length items
few_from part start [] = omega arith
few_from part start (x ∷ items) =
    omega (arith, few_by (is_site_in_part part start) x (part_from part (start + 1) items), few_from part (start + 1) items)

pub few_of : {A : Type 0} (part : Part) (items : List A) → length (part_of part items) ≤ length items
few_of part items = few_from part 0 items

-- Flags that are set.
use Rattle.std.proofs.Common.{◌≡◌, ◌⊎◌, inl, inr, ℕ, zero, suc, ◌+◌, ◌<◌, Bool, true, false, cond, get_or, List, [], ◌∷◌, length, set, replicate, sym, ap, ◌∙◌, arith, get_or-set_other}
use Rattle.std.specs.List.{count_by}
use Rattle.std.proofs.lemmas.Bool.{cases_eq}
use Rattle.std.proofs.lemmas.Grind.{get_or-set_at, common_steps}
use Rattle.std.proofs.lemmas.List.Sums.{sum_by-set}
use Rattle.regions.specs.Flags.{is_in}

pub set_same : (flags : List Bool) (i j : ℕ) → j ≡ i → i < length flags → is_in (set flags i true) j ≡ true
set_same flags i j e l = get_or-set_at flags i j true false e l

pub set_kept : (flags : List Bool) (i j : ℕ) → i < length flags → is_in flags j ≡ true → is_in (set flags i true) j ≡ true
set_kept flags i j l h =
    elim (cases_eq j i) [ inl e ↦ get_or-set_at flags i j true false e l | inr ne ↦ get_or-set_other flags i j true false ne ∙ h ]

pub set_only : (flags : List Bool) (i j : ℕ) → is_in (set flags i true) j ≡ true → (j ≡ i) ⊎ (is_in flags j ≡ true)
set_only flags i j h =
    elim (cases_eq j i) [ inl e ↦ inl e | inr ne ↦ inr (sym (get_or-set_other flags i j true false ne) ∙ h) ]

-- no flag is set at first
pub none_set : (n j : ℕ) → is_in (replicate n false) j ≡ true → ⊥
none_set n j h = grind (arith, common_steps)

-- only a number with a flag is in a set
pub in_within : (flags : List Bool) (j : ℕ) → is_in flags j ≡ true → j < length flags
in_within [] j h = cc
in_within (x ∷ xs) zero h = omega arith
in_within (x ∷ xs) (suc j) h = let r = in_within xs j h in omega arith

-- one more flag is set
pub count_set : (flags : List Bool) (i : ℕ) → i < length flags → is_in flags i ≡ false →
    count_by (λ flag. flag) (set flags i true) ≡ count_by (λ flag. flag) flags + 1
count_set flags i l e =
    let weight : Bool → ℕ = λ flag. cond flag 1 0 in
    let count : List Bool → ℕ = count_by (λ flag. flag) in
    let s : count (set flags i true) + weight (is_in flags i) ≡ count flags + weight true = sum_by-set weight flags i true false l in
    let z : weight (is_in flags i) ≡ 0 = ap weight e in
    omega (arith, s, z)

-- a flag that was read is clear
pub clear_at : (flags : List Bool) (i : ℕ) (flag : Bool) → flag ≡ false → flag ≡ get_or flags i flag → is_in flags i ≡ false
clear_at flags i true n e = cc
clear_at flags i false n e = sym e

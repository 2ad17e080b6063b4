-- Where the labels of a function's nodes stand.
use Rattle.std.proofs.Common.{◌≡◌, ◌⊎◌, inl, inr, ℕ, zero, suc, ◌+◌, ◌*◌, ◌<◌, ◌≤◌, Bool, true, false, if◌then◌else◌, List, [], ◌∷◌, ◌++◌, length, get_or, Some, slice_get, refl, sym, ap, ◌∙◌, subst, arith, length-append}
use Rattle.std.proofs.Math.ListN.{get_or-append}
use Rattle.std.proofs.Math.Seq.{get_or-append_seam}
use Rattle.std.proofs.lemmas.Bool.{cases_eq, cases_lt}
use Rattle.base_lists.proofs.Lists.{get_left}
use Rattle.copied_nodes.specs.declared.label.CopyLabel.{CopyLabel}
use Rattle.copied_nodes.specs.declared.label.CopyLabel.TheVariants.{Enter}
use Rattle.copied_nodes.specs.declared.label.Side.{Side}
use Rattle.copied_nodes.specs.declared.label.Side.TheVariants.{Fast, Slow}
use Rattle.clone_paths.specs.declared.parts.Outlet.{Outlet}
use Rattle.clone_paths.specs.declared.parts.Outlet.TheVariants as outlet
use Rattle.clone_paths.specs.declared.parts.Part.{Part}
use Rattle.clone_paths.specs.Layout.{copy_labels, fast_labels, gate_labels, labels_for, out_labels}
use Rattle.clone_paths.specs.Made.{sheet_at}

pub in_second : {X : Type 0} (xs ys : List X) (k : ℕ) (x : X) → slice_get ys k ≡ Some x → slice_get (xs ++ ys) (length xs + k) ≡ Some x
in_second {X} [] ys k x e = let z : length {A = X} [] + k ≡ k = omega arith in ap (λ (n : ℕ). slice_get ys n) z ∙ e
in_second (z ∷ zs) ys k x e = let s : length (z ∷ zs) + k ≡ suc (length zs + k) = omega arith in ap (λ (n : ℕ). slice_get ((z ∷ zs) ++ ys) n) s ∙ in_second zs ys k x e

pub in_joined : {X : Type 0} (xs ys : List X) (j : ℕ) (x : X) → slice_get (xs ++ ys) j ≡ Some x →
    (slice_get xs j ≡ Some x) ⊎ ((k : ℕ) × (j ≡ length xs + k) × (slice_get ys k ≡ Some x))
in_joined [] ys j x e = inr (j, omega arith, e)
in_joined (z ∷ zs) ys zero x e = inl e
in_joined (z ∷ zs) ys (suc j) x e = elim (in_joined zs ys j x e) [ inl f ↦ inl f | inr r ↦ inr (r.0, omega (arith, r.1), r.2) ]

-- a table that gets one number after another
column : (f : ℕ → List ℕ) (g : ℕ → ℕ) → f 0 ≡ [] → ((i : ℕ) → f (suc i) ≡ f i ++ g i ∷ []) → (n : ℕ) → (length (f n) ≡ n) × ((i : ℕ) → i < n → get_or (f n) i 0 ≡ g i)
column f g e step zero = (ap (λ (xs : List ℕ). length xs) e, λ i l. absurd (omega arith))
column f g e step (suc n) =
    let before = column f g e step n in
    let few : length (f (suc n)) ≡ suc n = ap (λ (xs : List ℕ). length xs) (step n) ∙ length-append (f n) (g n ∷ []) ∙ omega (arith, before.0) in (
      few,
      λ i l. ap (λ (xs : List ℕ). get_or xs i 0) (step n) ∙ elim (cases_lt i n) [
        | inl inside ↦ get_or-append (f n) (g n ∷ []) 0 i (omega (arith, before.0)) ∙ before.1 i inside
        | inr last ↦
            let same : i ≡ n = omega arith in
            let at : i ≡ length (f n) = omega (arith, before.0) in
            ap (λ (k : ℕ). get_or (f n ++ g n ∷ []) k 0) at ∙ get_or-append_seam (f n) (g n) [] 0 ∙ ap g (sym same)
      ],
    )

abbrev pub labels_at : (ℕ → Bool) → (ℕ → Part) → ℕ → List CopyLabel
labels_at header part n = (sheet_at header part n).labels

-- where the labels for a node begin
abbrev pub start_of : (ℕ → Bool) → (ℕ → Part) → ℕ → ℕ
start_of header part n = length (labels_at header part n)

abbrev pub chunk : (ℕ → Bool) → (ℕ → Part) → ℕ → List CopyLabel
chunk header part i = labels_for (header i) i (part i)

-- where its slow copy and its fast copy stand
abbrev pub slow_at : (ℕ → Bool) → (ℕ → Part) → ℕ → ℕ
slow_at header part i = length (labels_at header part i ++ gate_labels (header i) i)

abbrev pub fast_at : (ℕ → Bool) → (ℕ → Part) → ℕ → ℕ
fast_at header part i = length (labels_at header part i ++ gate_labels (header i) i ++ copy_labels Slow i 0 false (part i).outlet)

pub gates_are : (header : ℕ → Bool) (part : ℕ → Part) (n i : ℕ) → i < n → get_or (sheet_at header part n).gates i 0 ≡ start_of header part i
gates_are header part n i l = (column (λ k. (sheet_at header part k).gates) (start_of header part) refl (λ k. refl) n).1 i l

pub slow_are : (header : ℕ → Bool) (part : ℕ → Part) (n i : ℕ) → i < n → get_or (sheet_at header part n).slow i 0 ≡ slow_at header part i
slow_are header part n i l = (column (λ k. (sheet_at header part k).slow) (slow_at header part) refl (λ k. refl) n).1 i l

pub fast_are : (header : ℕ → Bool) (part : ℕ → Part) (n : ℕ) →
    (length (sheet_at header part n).fast ≡ n) × ((i : ℕ) → i < n → get_or (sheet_at header part n).fast i 0 ≡ fast_at header part i)
fast_are header part n = column (λ k. (sheet_at header part k).fast) (fast_at header part) refl (λ k. refl) n

-- labels stay
pub kept : (header : ℕ → Bool) (part : ℕ → Part) (n i j : ℕ) (l : CopyLabel) → i ≤ n → slice_get (labels_at header part i) j ≡ Some l → slice_get (labels_at header part n) j ≡ Some l
kept header part zero i j l le e = let z : i ≡ 0 = omega arith in ap (λ (k : ℕ). slice_get (labels_at header part k) j) (sym z) ∙ e
kept header part (suc n) i j l le e =
    elim (cases_eq i (suc n)) [
      | inl same ↦ ap (λ (k : ℕ). slice_get (labels_at header part k) j) (sym same) ∙ e
      | inr ne ↦ get_left (labels_at header part n) (chunk header part n) j l (kept header part n i j l (omega arith) e)
    ]

-- the labels for a node stand from its place on
pub placed : (header : ℕ → Bool) (part : ℕ → Part) (n i k : ℕ) (l : CopyLabel) → i < n → slice_get (chunk header part i) k ≡ Some l →
    slice_get (labels_at header part n) (start_of header part i + k) ≡ Some l
placed header part n i k l lt e =
    kept header part n (suc i) (start_of header part i + k) l (omega arith) (in_second (labels_at header part i) (chunk header part i) k l e)

-- each label is the entry's, or that of a node
pub owner : (header : ℕ → Bool) (part : ℕ → Part) (n j : ℕ) (l : CopyLabel) → slice_get (labels_at header part n) j ≡ Some l →
    ((j ≡ 0) × (l ≡ Enter)) ⊎ ((i k : ℕ) × (i < n) × (j ≡ start_of header part i + k) × (slice_get (chunk header part i) k ≡ Some l))
owner header part zero zero l e = inl (refl, cc)
owner header part zero (suc j) l e = cc
owner header part (suc n) j l e =
    elim (in_joined (labels_at header part n) (chunk header part n) j l e) [
      | inl f ↦ elim (owner header part n j l f) [ inl x ↦ inl x | inr r ↦ inr (r.0, r.1, omega (arith, r.2), r.3, r.4) ]
      | inr r ↦ inr (n, r.0, omega arith, r.1, r.2)
    ]

-- a node has eight labels at most, and seven where nothing is paid before it
gate_few : (b : Bool) (i : ℕ) → length (gate_labels b i) ≤ 1
gate_few true i = omega arith
gate_few false i = omega arith

out_few : (side : Side) (i : ℕ) (o : Outlet) → length (out_labels side i o) ≤ 2
out_few side i outlet.None = omega arith
out_few side i outlet.Leaves = omega arith
out_few side i (outlet.Calls next) = omega arith

copy_few : (side : Side) (i owed : ℕ) (o : Outlet) → length (copy_labels side i owed false o) ≤ 3
copy_few side i owed o = let l = out_few side i o in omega (arith, l)

copy_most : (side : Side) (i owed : ℕ) (p : Bool) (o : Outlet) → length (copy_labels side i owed p o) ≤ 4
copy_most side i owed true o = let l = out_few side i o in omega (arith, l)
copy_most side i owed false o = let l = out_few side i o in omega (arith, l)

fast_most : (i : ℕ) (inside : Bool) (owed : ℕ) (p : Bool) (o : Outlet) → let none : List CopyLabel = [] in length (if inside then none else copy_labels Fast i owed p o) ≤ 4
fast_most i true owed p o = omega arith
fast_most i false owed p o = copy_most Fast i owed p o

fast_few : (i : ℕ) (inside : Bool) (owed : ℕ) (o : Outlet) → let none : List CopyLabel = [] in length (if inside then none else copy_labels Fast i owed false o) ≤ 3
fast_few i true owed o = omega arith
fast_few i false owed o = copy_few Fast i owed o

pub chunk_length : (h : Bool) (i : ℕ) (part : Part) →
    length (labels_for h i part) ≡ length (gate_labels h i) + length (copy_labels Slow i 0 false part.outlet) + length (fast_labels i part)
chunk_length h i part =
    let a = length-append (gate_labels h i ++ copy_labels Slow i 0 false part.outlet) (fast_labels i part) in
    let b = length-append (gate_labels h i) (copy_labels Slow i 0 false part.outlet) in
    omega (arith, a, b)

chunk_most : (h : Bool) (i : ℕ) (part : Part) → length (labels_for h i part) ≤ 8
chunk_most h i part =
    omega (arith, chunk_length h i part, gate_few h i, copy_few Slow i 0 part.outlet, fast_most i part.inside part.owed part.pays part.outlet)

chunk_few : (h : Bool) (i : ℕ) (part : Part) → part.pays ≡ false → length (labels_for h i part) ≤ 7
chunk_few h i part p =
    let fast : length (fast_labels i part) ≤ 3 = subst (λ (b : Bool). let none : List CopyLabel = [] in length (if part.inside then none else copy_labels Fast i part.owed b part.outlet) ≤ 3) (sym p) (fast_few i part.inside part.owed part.outlet) in
    omega (arith, chunk_length h i part, gate_few h i, copy_few Slow i 0 part.outlet, fast)

-- eight labels a node, and the entry
pub labels_few : (header : ℕ → Bool) (part : ℕ → Part) (n : ℕ) → start_of header part n ≤ 8 * n + 1
labels_few header part zero = omega arith
labels_few header part (suc n) =
    omega (arith, labels_few header part n, chunk_most (header n) n (part n), length-append (labels_at header part n) (chunk header part n))

-- eight labels a node, where nothing is paid before the first
pub labels_most : (header : ℕ → Bool) (part : ℕ → Part) (n : ℕ) → (part 0).pays ≡ false → start_of header part (suc n) ≤ 8 * suc n
labels_most header part zero p =
    let a = length-append (labels_at header part 0) (chunk header part 0) in
    omega (arith, a, chunk_few (header 0) 0 (part 0) p)
labels_most header part (suc n) p =
    omega (arith, labels_most header part n p, chunk_most (header (suc n)) (suc n) (part (suc n)), length-append (labels_at header part (suc n)) (chunk header part (suc n)))

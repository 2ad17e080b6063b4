-- What is in a list, by recursion on it, and what a test of each says.
use Rattle.std.proofs.Common.{◌≡◌, ℕ, zero, suc, ◌+◌, ◌<◌, ◌⊎◌, inl, inr, Bool, true, false, cond, nat_eq, List, [], ◌∷◌, ◌++◌, length, get_or, map, Some, refl, sym, ap, ◌∙◌, arith}
use Rattle.std.specs.Prelude.{Contains, find}
use Rattle.std.specs.List.{list_all, count_by}
use Rattle.std.proofs.lemmas.List.Sums.{sum_by-cons, sum_by-append}
use Rattle.std.proofs.lemmas.Bool.{eq-eqb, ne_eqb, cases_eq, false≢true, and_parts, and_from}
use Rattle.probes.specs.Hottest.{times_of}

abbrev pub IsIn : {X : Type 0} → X → List X → Type 0
IsIn x [] = ⊥
IsIn x (y ∷ ys) = (y ≡ x) ⊎ IsIn x ys

IsIn-at : {X : Type 0} (xs : List X) (x : X) (k : ℕ) → k < length xs → get_or xs k x ≡ x → IsIn x xs
IsIn-at [] x k less is = absurd (omega arith)
IsIn-at (y ∷ ys) x zero less is = inl is
IsIn-at (y ∷ ys) x (suc k) less is = inr (IsIn-at ys x k (omega arith) is)

pub IsIn-from_Contains : {X : Type 0} (xs : List X) (x : X) → Contains xs x → IsIn x xs
IsIn-from_Contains xs x c = IsIn-at xs x c.0 c.1 c.2

pub Contains-from_IsIn : {X : Type 0} (xs : List X) (x : X) → IsIn x xs → Contains xs x
Contains-from_IsIn [] x i = absurd i
Contains-from_IsIn (y ∷ ys) x (inl same) = (0, omega arith, same)
Contains-from_IsIn (y ∷ ys) x (inr rest) = let c = Contains-from_IsIn ys x rest in (suc c.0, omega (arith, c.1), c.2)

pub IsIn-map : {X Y : Type 0} (f : X → Y) (xs : List X) (x : X) → IsIn x xs → IsIn (f x) (map f xs)
IsIn-map f [] x i = i
IsIn-map f (y ∷ ys) x (inl same) = inl (ap f same)
IsIn-map f (y ∷ ys) x (inr rest) = inr (IsIn-map f ys x rest)

pub IsIn-from_map : {X Y : Type 0} (f : X → Y) (xs : List X) (y : Y) → IsIn y (map f xs) → (x : X) × IsIn x xs × (f x ≡ y)
IsIn-from_map f [] y i = absurd i
IsIn-from_map f (x ∷ xs) y (inl same) = (x, inl refl, same)
IsIn-from_map f (x ∷ xs) y (inr rest) = let more = IsIn-from_map f xs y rest in (more.0, inr more.1, more.2)

-- a test that each passes
pub list_all-each : (p : ℕ → Bool) (xs : List ℕ) (x : ℕ) → list_all p xs ≡ true → IsIn x xs → p x ≡ true
list_all-each p [] x all i = absurd i
list_all-each p (y ∷ ys) x all (inl same) = ap p (sym same) ∙ (and_parts (p y) (list_all p ys) all).0
list_all-each p (y ∷ ys) x all (inr rest) = list_all-each p ys x (and_parts (p y) (list_all p ys) all).1 rest

pub list_all-from_each : (p : ℕ → Bool) (xs : List ℕ) → ((x : ℕ) → IsIn x xs → p x ≡ true) → list_all p xs ≡ true
list_all-from_each p [] each = refl
list_all-from_each p (y ∷ ys) each = and_from (p y) (list_all p ys) (each y (inl refl)) (list_all-from_each p ys (λ x i. each x (inr i)))

-- what is found is in the list, and passes
find-is_at : (p : ℕ → Bool) (y : ℕ) (ys : List ℕ) (x : ℕ) (b : Bool) → p y ≡ b → (find p ys ≡ Some x → IsIn x ys × (p x ≡ true)) → cond b (Some y) (find p ys) ≡ Some x → IsIn x (y ∷ ys) × (p x ≡ true)
find-is_at p y ys x true pass later found = let same : y ≡ x = cc in (inl same, ap p (sym same) ∙ pass)
find-is_at p y ys x false pass later found = let rest = later found in (inr rest.0, rest.1)

pub find-is : (p : ℕ → Bool) (xs : List ℕ) (x : ℕ) → find p xs ≡ Some x → IsIn x xs × (p x ≡ true)
find-is p [] x is = cc
find-is p (y ∷ ys) x is = find-is_at p y ys x (p y) refl (find-is p ys x) is

-- where one passes, one is found
find-some_at : (p : ℕ → Bool) (y : ℕ) (ys : List ℕ) (x : ℕ) (b : Bool) → p y ≡ b → p x ≡ true → (IsIn x ys → (z : ℕ) × (find p ys ≡ Some z)) → IsIn x (y ∷ ys) → (z : ℕ) × (find p (y ∷ ys) ≡ Some z)
find-some_at p y ys x true here pass later i = (y, ap (λ b. cond b (Some y) (find p ys)) here)
find-some_at p y ys x false here pass later (inl same) = absurd (false≢true (sym here ∙ ap p same ∙ pass))
find-some_at p y ys x false here pass later (inr rest) = let found = later rest in (found.0, ap (λ b. cond b (Some y) (find p ys)) here ∙ found.1)

pub find-some : (p : ℕ → Bool) (xs : List ℕ) (x : ℕ) → IsIn x xs → p x ≡ true → (y : ℕ) × (find p xs ≡ Some y)
find-some p [] x i pass = absurd i
find-some p (y ∷ ys) x i pass = find-some_at p y ys x (p y) refl pass (λ rest. find-some p ys x rest pass) i

pub once : (a b : Bool) → b ≡ a → cond b 1 zero ≡ cond a 1 zero
once a b is = ap (λ c. cond c 1 zero) is

pub count_by-cons : (x y : ℕ) (ys : List ℕ) → count_by (λ z. nat_eq z x) (y ∷ ys) ≡ cond (nat_eq y x) 1 zero + count_by (λ z. nat_eq z x) ys
count_by-cons x y ys = sum_by-cons (λ z. cond (nat_eq z x) 1 zero) y ys

-- a number that is in a list is counted, and no other
pub count_by-positive : (xs : List ℕ) (x : ℕ) → IsIn x xs → 0 < count_by (λ y. nat_eq y x) xs
count_by-positive [] x i = absurd i
count_by-positive (y ∷ ys) x (inl same) = omega (arith, count_by-cons x y ys, once true (nat_eq y x) (eq-eqb y x same))
count_by-positive (y ∷ ys) x (inr rest) = omega (arith, count_by-cons x y ys, count_by-positive ys x rest)

pub IsIn-from_count_by : (xs : List ℕ) (x : ℕ) → 0 < count_by (λ y. nat_eq y x) xs → IsIn x xs
IsIn-from_count_by [] x some = absurd (omega arith)
IsIn-from_count_by (y ∷ ys) x some =
    elim (cases_eq y x) [
      | inl same ↦ inl same
      | inr apart ↦ inr (IsIn-from_count_by ys x (omega (arith, count_by-cons x y ys, once false (nat_eq y x) (ne_eqb y x apart))))
    ]

-- how often a site was observed, with one more
pub times_of-push : (xs : List ℕ) (x site : ℕ) → times_of (xs ++ x ∷ []) site ≡ times_of xs site + cond (nat_eq x site) 1 0
times_of-push xs x site = sum_by-append (λ other. cond (nat_eq other site) 1 0) xs (x ∷ []) ∙ ap (λ n. times_of xs site + n) (omega arith)

pub times_of-same : (xs : List ℕ) (x site : ℕ) → x ≡ site → times_of (xs ++ x ∷ []) site ≡ times_of xs site + 1
times_of-same xs x site same = times_of-push xs x site ∙ ap (λ n. times_of xs site + n) (once true (nat_eq x site) (eq-eqb x site same))

pub times_of-other : (xs : List ℕ) (x site : ℕ) → (x ≡ site → ⊥) → times_of (xs ++ x ∷ []) site ≡ times_of xs site
times_of-other xs x site apart = omega (arith, times_of-push xs x site, once false (nat_eq x site) (ne_eqb x site apart))

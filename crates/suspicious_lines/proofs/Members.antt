-- Members of lists: of what a filter keeps, of what a function makes, and of ranges.
use Rattle.std.proofs.Common.{◌≡◌, ℕ, zero, suc, ◌+◌, ◌<◌, ◌≤◌, ◌⊎◌, inl, inr, Bool, true, false, cond, List, [], ◌∷◌, ◌++◌, refl, sym, ap, subst, ◌∙◌, arith}
use Rattle.std.specs.Prelude.{Contains, filter, map}
use Rattle.std.specs.List.{range_with_len}
use Rattle.std.proofs.lemmas.Bool.{cases_eq, false≢true}
use Rattle.std.proofs.lemmas.List.Elements.{Contains-append_cases, Contains-append_left, Contains-append_right, Contains-push, Contains-push_cases}

pub no-member : {A : Type 0} (x : A) → Contains {X = A} [] x → ⊥
no-member x has = absurd (omega (arith, has.1))

pub member-cases : {A : Type 0} (x y : A) (more : List A) → Contains (x ∷ more) y → (x ≡ y) ⊎ Contains more y
member-cases x y more has =
    elim (Contains-append_cases (x ∷ []) more y has) [
      | inl first ↦ elim (Contains-push_cases [] x y first) [ inl none ↦ absurd (no-member y none) | inr same ↦ inl same ]
      | inr rest ↦ inr rest
    ]

pub first-member : {A : Type 0} (x : A) (more : List A) → Contains (x ∷ more) x
first-member x more = Contains-append_left (x ∷ []) more x (Contains-push [] x)

pub later-member : {A : Type 0} (x : A) (more : List A) (y : A) → Contains more y → Contains (x ∷ more) y
later-member x more y has = Contains-append_right (x ∷ []) more y has

filter-by : {A : Type 0} (p : A → Bool) (x : A) (xs : List A) (y : A) (b : Bool) → p x ≡ b → (Contains (filter p xs) y → Contains xs y × (p y ≡ true)) → Contains (cond b (x ∷ filter p xs) (filter p xs)) y → Contains (x ∷ xs) y × (p y ≡ true)
filter-by p x xs y true is rest has =
    elim (member-cases x y (filter p xs) has) [
      | inl same ↦ (subst (Contains (x ∷ xs)) same (first-member x xs), ap p (sym same) ∙ is)
      | inr there ↦ (later-member x xs y (rest there).0, (rest there).1)
    ]
filter-by p x xs y false is rest has = (later-member x xs y (rest has).0, (rest has).1)

pub filter-member : {A : Type 0} (p : A → Bool) (xs : List A) (y : A) → Contains (filter p xs) y → Contains xs y × (p y ≡ true)
filter-member p [] y has = absurd (no-member y has)
filter-member p (x ∷ xs) y has = filter-by p x xs y (p x) refl (filter-member p xs y) has

keeps-by : {A : Type 0} (p : A → Bool) (x : A) (xs : List A) (y : A) (b : Bool) → p x ≡ b → (Contains xs y → Contains (filter p xs) y) → Contains (x ∷ xs) y → p y ≡ true → Contains (cond b (x ∷ filter p xs) (filter p xs)) y
keeps-by p x xs y true is rest has passes =
    elim (member-cases x y xs has) [
      | inl same ↦ subst (Contains (x ∷ filter p xs)) same (first-member x (filter p xs))
      | inr there ↦ later-member x (filter p xs) y (rest there)
    ]
keeps-by p x xs y false is rest has passes =
    elim (member-cases x y xs has) [
      | inl same ↦ absurd (false≢true (sym is ∙ ap p same ∙ passes))
      | inr there ↦ rest there
    ]

pub filter-keeps : {A : Type 0} (p : A → Bool) (xs : List A) (y : A) → Contains xs y → p y ≡ true → Contains (filter p xs) y
filter-keeps p [] y has passes = absurd (no-member y has)
filter-keeps p (x ∷ xs) y has passes = keeps-by p x xs y (p x) refl (λ there. filter-keeps p xs y there passes) has passes

pub map-member : {A B : Type 0} (f : A → B) (xs : List A) (y : B) → Contains (map f xs) y → (x : A) × Contains xs x × (f x ≡ y)
map-member f [] y has = absurd (no-member y has)
map-member f (x ∷ xs) y has =
    elim (member-cases (f x) y (map f xs) has) [
      | inl same ↦ (x, first-member x xs, same)
      | inr there ↦
          let rest = map-member f xs y there in
          (rest.0, later-member x xs rest.0 rest.1, rest.2)
    ]

pub member-map : {A B : Type 0} (f : A → B) (xs : List A) (x : A) → Contains xs x → Contains (map f xs) (f x)
member-map f [] x has = absurd (no-member x has)
member-map f (y ∷ ys) x has =
    elim (member-cases y x ys has) [
      | inl same ↦ subst (λ z. Contains (f y ∷ map f ys) (f z)) same (first-member (f y) (map f ys))
      | inr there ↦ later-member (f y) (map f ys) (f x) (member-map f ys x there)
    ]

pub range-member : (first n k : ℕ) → Contains (range_with_len first n) k → (first ≤ k) × (k < first + n)
range-member first zero k has = absurd (no-member k has)
range-member first (suc n) k has =
    elim (member-cases first k (range_with_len (first + 1) n) has) [
      | inl same ↦ (omega (arith, same), omega (arith, same))
      | inr there ↦
          let rest = range-member (first + 1) n k there in
          (omega (arith, rest.0), omega (arith, rest.1))
    ]

pub member-range : (first n k : ℕ) → first ≤ k → k < first + n → Contains (range_with_len first n) k
member-range first zero k least less = absurd (omega (arith, least, less))
member-range first (suc n) k least less =
    elim (cases_eq first k) [
      | inl same ↦ subst (Contains (first ∷ range_with_len (first + 1) n)) same (first-member first (range_with_len (first + 1) n))
      | inr other ↦ later-member first (range_with_len (first + 1) n) k (member-range (first + 1) n k (omega (arith, least, other)) (omega (arith, less)))
    ]

range-suc : (first n : ℕ) → range_with_len first (suc n) ≡ range_with_len first n ++ (first + n) ∷ []
range-suc first zero = ap (λ k. k ∷ []) (omega arith)
range-suc first (suc n) =
    let next : (first + 1) + n ≡ first + suc n = omega arith in
    ap (λ rest. first ∷ rest) (range-suc (first + 1) n ∙ ap (λ k. range_with_len (first + 1) n ++ k ∷ []) next)

pub range-more : (n first : ℕ) → range_with_len first (n + 1) ≡ range_with_len first n ++ (first + n) ∷ []
range-more n first =
    let one : n + 1 ≡ suc n = omega arith in
    ap (range_with_len first) one ∙ range-suc first n

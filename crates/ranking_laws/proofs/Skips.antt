-- Of each pair it can be told whether it is skipped.
use Rattle.std.proofs.Common.{◌≡◌, ℕ, zero, suc, ◌*◌, ◌<◌, ◌⊎◌, inl, inr, Bool, true, false, List, [], ◌∷◌, ◌++◌, length, get_or, take, refl, sym, ap, subst, ◌∙◌, append_assoc, arith}
use Rattle.std.specs.Prelude.{◌↔◌, Any, IsTrue}
use Rattle.std.proofs.lemmas.Bool.{cases_lt, false≢true}
use Rattle.std.proofs.lemmas.List.{append-nil, ext_get_or}
use Rattle.fractions.specs.declared.tally.Tally.{Tally}
use Rattle.fractions.specs.Tally.{importance_of}
use Rattle.affinity.proofs.FallLemmas.{passes-or}
use Rattle.compound.specs.Best.{AreSkips, IsPassedOver, IsSkipped}
use Rattle.compound.specs.Bound.{bound_of}
use Rattle.compound.proofs.OrderLemmas.{not-both}
use Rattle.ranking_laws.specs.Laws.{ThereIsOne}

any-first : {X : Type 0} (P : X → Type 0) (x : X) (more : List X) → P x → Any P (x ∷ more)
any-first P x more is = (0, x, omega arith, refl, is)

any-later : {X : Type 0} (P : X → Type 0) (x : X) (more : List X) → Any P more → Any P (x ∷ more)
any-later P x more any = (suc any.0, any.1, omega (arith, any.2), any.3, any.4)

any-at : {X : Type 0} (P : X → Type 0) (x : X) (more : List X) (k : ℕ) (y : X) → k < length (x ∷ more) → get_or (x ∷ more) k y ≡ y → P y → P x ⊎ Any P more
any-at P x more zero y inside is h = inl (subst P (sym is) h)
any-at P x more (suc k) y inside is h = inr (k, y, omega (arith, inside), is, h)

any-told : {X : Type 0} (P : X → Type 0) → ((x : X) → P x ⊎ (P x → ⊥)) → (xs : List X) → Any P xs ⊎ (Any P xs → ⊥)
any-told P told [] = inr (λ any. omega (arith, any.2))
any-told P told (x ∷ more) =
    elim (told x) [
      | inl is ↦ inl (any-first P x more is)
      | inr not ↦ elim (any-told P told more) [
        | inl any ↦ inl (any-later P x more any)
        | inr none ↦ inr (λ any. elim (any-at P x more any.0 any.1 any.2 any.3 any.4) [ inl is ↦ not is | inr later ↦ none later ])
      ]
    ]

-- a pair is passed over for another one, or it isn't
over-told : (one : ℕ → Tally) (pair : ℕ → ℕ → Tally) (failing : ℕ) (p other : ℕ × ℕ) → IsPassedOver one pair failing p other ⊎ (IsPassedOver one pair failing p other → ⊥)
over-told one pair failing p other =
    let bound = bound_of (one p.0).a (one p.1).a failing in
    let best = importance_of (pair other.0 other.1) failing in
    elim (passes-or (pair other.0 other.1)) [
      | inr not ↦ inr (λ over. not over.passes)
      | inl passes ↦ elim (cases_lt (bound.top * best.bottom) (best.top * bound.bottom)) [
        | inl less ↦ inl (record { passes = passes; less = less })
        | inr most ↦ inr (λ over. not-both bound best over.less most)
      ]
    ]

-- a Boolean that says it
said : {P : Type 0} → P ⊎ (P → ⊥) → (b : Bool) × (IsTrue b ↔ P)
said (inl is) = (true, ((λ _. is), (λ _. refl)))
said (inr not) = (false, ((λ h. absurd (false≢true h)), (λ is. absurd (not is))))

-- those of the pairs behind these
record SkipsBehind (one : ℕ → Tally) (pair : ℕ → ℕ → Tally) (failing : ℕ) (done rest : List (ℕ × ℕ)) : Type 0 where
  skips : List Bool
  as_many : length skips ≡ length rest
  each : (k : ℕ) → k < length rest → IsTrue (get_or skips k false) ↔ IsSkipped one pair failing (done ++ take k rest) (get_or rest k (0, 0))

each-behind : (one : ℕ → Tally) (pair : ℕ → ℕ → Tally) (failing : ℕ) (done : List (ℕ × ℕ)) (p : ℕ × ℕ) (more : List (ℕ × ℕ)) (b : Bool) (skips : List Bool) → IsTrue b ↔ IsSkipped one pair failing done p
    → ((k : ℕ) → k < length more → IsTrue (get_or skips k false) ↔ IsSkipped one pair failing ((done ++ p ∷ []) ++ take k more) (get_or more k (0, 0)))
    → (k : ℕ) → k < length (p ∷ more) → IsTrue (get_or (b ∷ skips) k false) ↔ IsSkipped one pair failing (done ++ take k (p ∷ more)) (get_or (p ∷ more) k (0, 0))
each-behind one pair failing done p more b skips here rest zero inside = subst (λ (xs : List (ℕ × ℕ)). IsTrue b ↔ IsSkipped one pair failing xs p) (sym (append-nil done)) here
each-behind one pair failing done p more b skips here rest (suc k) inside =
    subst (λ (xs : List (ℕ × ℕ)). IsTrue (get_or skips k false) ↔ IsSkipped one pair failing xs (get_or more k (0, 0))) (append_assoc done (p ∷ []) (take k more)) (rest k (omega (arith, inside)))

skips-behind : (one : ℕ → Tally) (pair : ℕ → ℕ → Tally) (failing : ℕ) (done rest : List (ℕ × ℕ)) → SkipsBehind one pair failing done rest
skips-behind one pair failing done [] = record { skips = []; as_many = refl; each = λ k inside. absurd (omega (arith, inside)) }
skips-behind one pair failing done (p ∷ more) =
    let here = said (any-told (IsPassedOver one pair failing p) (over-told one pair failing p) done) in
    let rest = skips-behind one pair failing (done ++ p ∷ []) more in record {
      skips = here.0 ∷ rest.skips;
      as_many = ap suc rest.as_many;
      each = each-behind one pair failing done p more here.0 rest.skips here.1 rest.each;
    }

same-bool : (a b : Bool) → (IsTrue a → IsTrue b) → (IsTrue b → IsTrue a) → a ≡ b
same-bool true b to from = sym (to refl)
same-bool false true to from = from refl
same-bool false false to from = refl

pub one-skip-list : (one : ℕ → Tally) (pair : ℕ → ℕ → Tally) (failing : ℕ) (pairs : List (ℕ × ℕ)) → ThereIsOne (AreSkips one pair failing pairs)
one-skip-list one pair failing pairs =
    let all = skips-behind one pair failing [] pairs in record {
      one = all.skips;
      is = record { as_many = all.as_many; each = all.each };
      only = λ other are. ext_get_or false other all.skips (are.as_many ∙ sym all.as_many)
          (λ k inside.
          let within : k < length pairs = omega (arith, inside, are.as_many, all.as_many) in
          let a = are.each k within in
          let b = all.each k within in
          same-bool (get_or other k false) (get_or all.skips k false) (λ h. b.1 (a.0 h)) (λ h. a.1 (b.0 h)));
    }

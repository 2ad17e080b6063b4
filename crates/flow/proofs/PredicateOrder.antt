-- Predicates are numbered through all sites in order.
use Rattle.std.proofs.Common.{◌≡◌, ℕ, zero, suc, ◌+◌, ◌-◌, ◌<◌, inl, inr, cond, List, [], ◌∷◌, take, Some, refl, sym, ap, ◌∙◌, arith}
use Rattle.std.specs.Prelude.{slice_get}
use Rattle.std.proofs.lemmas.Bool.{cases_lt, lt-ltb, le-ltb}
use Rattle.std.proofs.lemmas.List.Sums.{sum_by-cons}
use Rattle.flow.specs.declared.site.Site.{Site}
use Rattle.flow.specs.Predicates.{predicates_of, predicate_count, predicate_text, text_of_kind, IsPredicate, IsPlaced}

count-cons : (s : Site) (sites : List Site) → predicate_count (s ∷ sites) ≡ predicates_of s.kind + predicate_count sites
count-cons s sites = sum_by-cons (λ (t : Site). predicates_of t.kind) s sites

-- the number among the sites after the first
later-number : (s : Site) (sites : List Site) (predicate place number : ℕ) → predicate ≡ predicate_count (take (suc place) (s ∷ sites)) + number → predicate ≡ predicates_of s.kind + (predicate_count (take place sites) + number)
later-number s sites predicate place number is = omega (arith, is, count-cons s (take place sites))

text-here : (s : Site) (sites : List Site) (predicate : ℕ) → predicate < predicates_of s.kind → predicate_text (s ∷ sites) predicate ≡ text_of_kind s.kind predicate
text-here s sites predicate less =
    ap (λ b. cond b (text_of_kind s.kind predicate) (predicate_text sites (predicate - predicates_of s.kind))) (lt-ltb predicate (predicates_of s.kind) less)

text-later : (s : Site) (sites : List Site) (predicate rest : ℕ) → predicate ≡ predicates_of s.kind + rest → predicate_text (s ∷ sites) predicate ≡ predicate_text sites rest
text-later s sites predicate rest is =
    let left : predicate - predicates_of s.kind ≡ rest = omega arith in
    ap (λ b. cond b (text_of_kind s.kind predicate) (predicate_text sites (predicate - predicates_of s.kind))) (le-ltb predicate (predicates_of s.kind) (omega arith)) ∙ ap (predicate_text sites) left

text-at : (sites : List Site) (predicate place number : ℕ) (site : Site) → slice_get sites place ≡ Some site → number < predicates_of site.kind → predicate ≡ predicate_count (take place sites) + number
    → predicate_text sites predicate ≡ text_of_kind site.kind number
text-at [] predicate place number site stands own is = cc
text-at (s ∷ sites) predicate zero number site stands own is =
    let same : s ≡ site = cc in
    let first : predicate ≡ number = omega arith in
    let less : predicate < predicates_of s.kind = omega (arith, ap (λ (t : Site). predicates_of t.kind) same) in
    text-here s sites predicate less ∙ ap (text_of_kind s.kind) first ∙ ap (λ (t : Site). text_of_kind t.kind number) same
text-at (s ∷ sites) predicate (suc place) number site stands own is =
    text-later s sites predicate (predicate_count (take place sites) + number) (later-number s sites predicate place number is) ∙ text-at sites (predicate_count (take place sites) + number) place number site stands own refl

pub predicate-text : (sites : List Site) (predicate place number : ℕ) (site : Site) → IsPredicate sites predicate place site number → predicate_text sites predicate ≡ text_of_kind site.kind number
predicate-text sites predicate place number site p = text-at sites predicate place number site p.stands p.own p.is

counted-at : (sites : List Site) (place number : ℕ) (site : Site) → slice_get sites place ≡ Some site → number < predicates_of site.kind → predicate_count (take place sites) + number < predicate_count sites
counted-at [] place number site stands own = cc
counted-at (s ∷ sites) zero number site stands own =
    let same : s ≡ site = cc in
    omega (arith, ap (λ (t : Site). predicates_of t.kind) same, count-cons s sites)
counted-at (s ∷ sites) (suc place) number site stands own = omega (arith, counted-at sites place number site stands own, count-cons s sites, count-cons s (take place sites))

pub predicate-counted : (sites : List Site) (predicate place number : ℕ) (site : Site) → IsPredicate sites predicate place site number → predicate < predicate_count sites
predicate-counted sites predicate place number site p = omega (arith, p.is, counted-at sites place number site p.stands p.own)

-- each number below the count is that of a predicate
pub predicate-placed : (sites : List Site) (predicate : ℕ) → predicate < predicate_count sites → IsPlaced sites predicate
predicate-placed [] predicate less = absurd (omega arith)
predicate-placed (s ∷ sites) predicate less =
    elim (cases_lt predicate (predicates_of s.kind)) [
      | inl here ↦ record { place = 0; number = predicate; site = s; is = record { stands = refl; own = here; is = omega arith } }
      | inr rest ↦
          let later = predicate-placed sites (predicate - predicates_of s.kind) (omega (arith, count-cons s sites)) in record {
            place = suc later.place;
            number = later.number;
            site = later.site;
            is = record { stands = later.is.stands; own = later.is.own; is = omega (arith, later.is.is, count-cons s (take later.place sites)) };
          }
    ]

-- and of one
once-at : (sites : List Site) (one other m n : ℕ) (a b : Site) → slice_get sites one ≡ Some a → slice_get sites other ≡ Some b → m < predicates_of a.kind → n < predicates_of b.kind
    → predicate_count (take one sites) + m ≡ predicate_count (take other sites) + n → (one ≡ other) × (m ≡ n)
once-at [] one other m n a b x y p q same = cc
once-at (s ∷ sites) zero zero m n a b x y p q same = (refl, omega arith)
once-at (s ∷ sites) zero (suc other) m n a b x y p q same =
    let is : s ≡ a = cc in
    absurd (omega (arith, ap (λ (t : Site). predicates_of t.kind) is, count-cons s (take other sites)))
once-at (s ∷ sites) (suc one) zero m n a b x y p q same =
    let is : s ≡ b = cc in
    absurd (omega (arith, ap (λ (t : Site). predicates_of t.kind) is, count-cons s (take one sites)))
once-at (s ∷ sites) (suc one) (suc other) m n a b x y p q same =
    let rest = once-at sites one other m n a b x y p q (omega (arith, count-cons s (take one sites), count-cons s (take other sites))) in
    (ap suc rest.0, rest.1)

pub predicate-once : (sites : List Site) (predicate one other m n : ℕ) (a b : Site) → IsPredicate sites predicate one a m → IsPredicate sites predicate other b n → (one ≡ other) × (m ≡ n)
predicate-once sites predicate one other m n a b x y = once-at sites one other m n a b x.stands y.stands x.own y.own (sym x.is ∙ y.is)

-- The suspects: how they are gathered, which they are, and that there is one for each predicate at most.
use Rattle.std.proofs.Common.{◌≡◌, ℕ, zero, suc, ◌+◌, ◌-◌, ◌<◌, ◌≤◌, inl, inr, List, [], ◌∷◌, ◌++◌, take, Some, refl, sym, ap, subst, ◌∙◌, append_assoc, arith}
use Rattle.std.specs.Prelude.{Contains, filter, map, slice_get}
use Rattle.std.specs.List.{range_with_len}
use Rattle.std.proofs.lemmas.List.{map-append}
use Rattle.std.proofs.lemmas.List.Elements.{Contains-append_cases, Contains-append_left, Contains-append_right, filter-append}
use Rattle.std.proofs.lemmas.List.Sums.{sum_by-cons}
use Rattle.base_lists.proofs.Numbers.{is_less, less_is}
use Rattle.base_lists.proofs.Options.{some_is}
use Rattle.fractions.specs.declared.tally.Tally.{Tally}
use Rattle.flow.specs.declared.site.Site.{Site}
use Rattle.flow.specs.Predicates.{predicate_count, predicates_of}
use Rattle.flow.proofs.PredicateOrder.{predicate-once}
use Rattle.association.specs.declared.suspect.Suspect.{Suspect}
use Rattle.suspicious_lines.specs.Suspects.{is_true_in_failing, suspect_at, suspects_at, suspects_from}
use Rattle.suspicious_lines.proofs.Members.{filter-keeps, filter-member, map-member, member-map, member-range, no-member, range-member, range-more}

-- one more predicate of a site
pub site-more : (numbers : ℕ → Tally) (site : Site) (first number : ℕ) (start before after : List Suspect) (s : Suspect) → before ≡ start ++ filter is_true_in_failing (map (suspect_at numbers site) (range_with_len first number)) → s ≡ suspect_at numbers site (first + number)
    → after ≡ before ++ filter is_true_in_failing (s ∷ []) → after ≡ start ++ filter is_true_in_failing (map (suspect_at numbers site) (range_with_len first (number + 1)))
site-more numbers site first number start before after s so_far is now =
    let old = map (suspect_at numbers site) (range_with_len first number) in
    let more : map (suspect_at numbers site) (range_with_len first (number + 1)) ≡ old ++ suspect_at numbers site (first + number) ∷ [] =
    ap (map (suspect_at numbers site)) (range-more number first) ∙ map-append (suspect_at numbers site) (range_with_len first number) ((first + number) ∷ []) in
    now ∙ ap (λ (xs : List Suspect). xs ++ filter is_true_in_failing (s ∷ [])) so_far ∙ ap (λ (x : Suspect). (start ++ filter is_true_in_failing old) ++ filter is_true_in_failing (x ∷ [])) is
    ∙ append_assoc start (filter is_true_in_failing old) (filter is_true_in_failing (suspect_at numbers site (first + number) ∷ []))
    ∙ ap (λ (xs : List Suspect). start ++ xs) (sym (ap (filter is_true_in_failing) more ∙ filter-append is_true_in_failing old (suspect_at numbers site (first + number) ∷ [])))

count-first : (s : Site) (sites : List Site) → predicates_of s.kind + predicate_count sites ≡ predicate_count (s ∷ sites)
count-first s sites = sym (sum_by-cons (λ (t : Site). predicates_of t.kind) s sites)

-- one more site
pub sites-more : (numbers : ℕ → Tally) (rest : List Site) (later : List Site) (site : Site) (first : ℕ) (all before after : List Suspect) → rest ≡ site ∷ later → before ++ suspects_from numbers first rest ≡ all → after ≡ before ++ suspects_at numbers first site
    → after ++ suspects_from numbers (first + predicates_of site.kind) later ≡ all
sites-more numbers rest later site first all before after cut so_far now =
    ap (λ (xs : List Suspect). xs ++ suspects_from numbers (first + predicates_of site.kind) later) now
    ∙ append_assoc before (suspects_at numbers first site) (suspects_from numbers (first + predicates_of site.kind) later)
    ∙ ap (λ (ss : List Site). before ++ suspects_from numbers first ss) (sym cut) ∙ so_far

-- what is known of a suspect of sites, of which the first predicate has this number
pub record IsSuspectOf (numbers : ℕ → Tally) (first : ℕ) (sites : List Site) (s : Suspect) : Type 0 where
  pub place : ℕ
  pub number : ℕ
  pub site : Site
  pub stands : slice_get sites place ≡ Some site
  pub own : number < predicates_of site.kind
  pub predicate : s.predicate ≡ first + (predicate_count (take place sites) + number)
  pub is : s ≡ suspect_at numbers site s.predicate
  pub some : 0 < s.tally.a

record IsHere (numbers : ℕ → Tally) (first : ℕ) (site : Site) (s : Suspect) : Type 0 where
  pub least : first ≤ s.predicate
  pub less : s.predicate < first + predicates_of site.kind
  pub is : s ≡ suspect_at numbers site s.predicate
  pub some : 0 < s.tally.a

suspect-here : (numbers : ℕ → Tally) (first : ℕ) (site : Site) (s : Suspect) → Contains (suspects_at numbers first site) s → IsHere numbers first site s
suspect-here numbers first site s has =
    let kept = filter-member is_true_in_failing (map (suspect_at numbers site) (range_with_len first (predicates_of site.kind))) s has in
    let made = map-member (suspect_at numbers site) (range_with_len first (predicates_of site.kind)) s kept.0 in
    let same : made.0 ≡ s.predicate = ap (λ (x : Suspect). x.predicate) made.2 in
    let within = range-member first (predicates_of site.kind) made.0 made.1 in record {
      least = omega (arith, within.0, same);
      less = omega (arith, within.1, same);
      is = sym made.2 ∙ ap (suspect_at numbers site) same;
      some = is_less 0 s.tally.a kept.1;
    }

pub suspect-of : (numbers : ℕ → Tally) (first : ℕ) (sites : List Site) (s : Suspect) → Contains (suspects_from numbers first sites) s → IsSuspectOf numbers first sites s
suspect-of numbers first [] s has = absurd (no-member s has)
suspect-of numbers first (x ∷ more) s has =
    elim (Contains-append_cases (suspects_at numbers first x) (suspects_from numbers (first + predicates_of x.kind) more) s has) [
      | inl here ↦
          let it = suspect-here numbers first x s here in record {
            place = 0;
            number = s.predicate - first;
            site = x;
            stands = refl;
            own = omega (arith, it.least, it.less);
            predicate = omega (arith, it.least);
            is = it.is;
            some = it.some;
          }
      | inr there ↦
          let it = suspect-of numbers (first + predicates_of x.kind) more s there in record {
            place = suc it.place;
            number = it.number;
            site = it.site;
            stands = it.stands;
            own = it.own;
            predicate = omega (arith, it.predicate, count-first x (take it.place more));
            is = it.is;
            some = it.some;
          }
    ]

-- suspects with one number are one
pub one-suspect : (numbers : ℕ → Tally) (first : ℕ) (sites : List Site) (s t : Suspect) → IsSuspectOf numbers first sites s → IsSuspectOf numbers first sites t → s.predicate ≡ t.predicate → s ≡ t
one-suspect numbers first sites s t a b same =
    let q = predicate_count (take a.place sites) + a.number in
    let there : q ≡ predicate_count (take b.place sites) + b.number = omega (arith, a.predicate, b.predicate, same) in
    let once = predicate-once sites q a.place b.place a.number b.number a.site b.site (record { stands = a.stands; own = a.own; is = refl }) (record { stands = b.stands; own = b.own; is = there }) in
    let site : a.site ≡ b.site = some_is (sym a.stands ∙ ap (slice_get sites) once.0 ∙ b.stands) in
    a.is ∙ ap (λ (x : Site). suspect_at numbers x s.predicate) site ∙ ap (suspect_at numbers b.site) same ∙ sym b.is

-- no two members have one number
pub record AreDistinct (suspects : List Suspect) : Type 0 where
  pub same : (s t : Suspect) → Contains suspects s → Contains suspects t → s.predicate ≡ t.predicate → s ≡ t

pub suspects-distinct : (numbers : ℕ → Tally) (first : ℕ) (sites : List Site) → AreDistinct (suspects_from numbers first sites)
suspects-distinct numbers first sites = record { same = λ s t a b same. one-suspect numbers first sites s t (suspect-of numbers first sites s a) (suspect-of numbers first sites t b) same }

-- each predicate that is true in a failing run is one
pub suspects-all : (numbers : ℕ → Tally) (first : ℕ) (sites : List Site) (place number predicate : ℕ) (site : Site) → slice_get sites place ≡ Some site → number < predicates_of site.kind → predicate ≡ first + (predicate_count (take place sites) + number)
    → 0 < (numbers predicate).a → Contains (suspects_from numbers first sites) (suspect_at numbers site predicate)
suspects-all numbers first [] place number predicate site stands own is some = cc
suspects-all numbers first (x ∷ more) zero number predicate site stands own is some =
    let same : x ≡ site = some_is stands in
    let at : number < predicates_of x.kind = subst (λ (y : Site). number < predicates_of y.kind) (sym same) own in
    let range = member-range first (predicates_of x.kind) predicate (omega (arith, is)) (omega (arith, is, at)) in
    let made = member-map (suspect_at numbers x) (range_with_len first (predicates_of x.kind)) predicate range in
    let kept = filter-keeps is_true_in_failing (map (suspect_at numbers x) (range_with_len first (predicates_of x.kind))) (suspect_at numbers x predicate) made (less_is 0 (numbers predicate).a some) in
    subst (λ (y : Site). Contains (suspects_at numbers first x ++ suspects_from numbers (first + predicates_of x.kind) more) (suspect_at numbers y predicate)) same
    (Contains-append_left (suspects_at numbers first x) (suspects_from numbers (first + predicates_of x.kind) more) (suspect_at numbers x predicate) kept)
suspects-all numbers first (x ∷ more) (suc place) number predicate site stands own is some =
    Contains-append_right (suspects_at numbers first x) (suspects_from numbers (first + predicates_of x.kind) more) (suspect_at numbers site predicate)
    (suspects-all numbers (first + predicates_of x.kind) more place number predicate site stands own (omega (arith, is, count-first x (take place more))) some)

-- the same numbers have the same suspects
maps-same : (f g : ℕ → Suspect) (first n : ℕ) → ((p : ℕ) → p < first + n → f p ≡ g p) → map f (range_with_len first n) ≡ map g (range_with_len first n)
maps-same f g first zero same = refl
maps-same f g first (suc n) same =
    ap (λ (x : Suspect). x ∷ map f (range_with_len (first + 1) n)) (same first (omega arith))
    ∙ ap (λ (xs : List Suspect). g first ∷ xs) (maps-same f g (first + 1) n (λ p less. same p (omega (arith, less))))

tally-at : (numbers others : ℕ → Tally) (site : Site) (p : ℕ) → numbers p ≡ others p → suspect_at numbers site p ≡ suspect_at others site p
tally-at numbers others site p same =
    ap (λ (t : Tally). suspect_at (λ _. t) site p) same

pub suspects-same : (numbers others : ℕ → Tally) (first : ℕ) (sites : List Site) → ((p : ℕ) → p < first + predicate_count sites → numbers p ≡ others p) → suspects_from numbers first sites ≡ suspects_from others first sites
suspects-same numbers others first [] same = refl
suspects-same numbers others first (x ∷ more) same =
    let count = count-first x more in
    let here : suspects_at numbers first x ≡ suspects_at others first x =
    ap (filter is_true_in_failing) (maps-same (suspect_at numbers x) (suspect_at others x) first (predicates_of x.kind) (λ p less. tally-at numbers others x p (same p (omega (arith, less, count))))) in
    ap (λ (xs : List Suspect). xs ++ suspects_from numbers (first + predicates_of x.kind) more) here
    ∙ ap (λ (xs : List Suspect). suspects_at others first x ++ xs) (suspects-same numbers others (first + predicates_of x.kind) more (λ p less. same p (omega (arith, less, count))))

-- Which predicates a site has, and what an entry says of them.
use Rattle.std.proofs.Common.{◌≡◌, ℕ, zero, suc, ◌+◌, ◌-◌, ◌*◌, ◌<◌, ◌≤◌, Bool, true, false, ◌&&◌, ◌||◌, inl, inr, List, [], ◌∷◌, take, length, get_or, ap, ◌∙◌, arith}
use Rattle.std.specs.Prelude.{nat_lt, nat_le}
use Rattle.std.proofs.lemmas.Bool.{and_parts, and_from, and_left, and_right, leb-true, ltb-true, le-leb, lt-leb, le-ltb, lt-ltb, cases_order, cases_lt, or_left, or_right, or_cases}
use Rattle.std.proofs.lemmas.List.{take-take, take_all}
use Rattle.std.proofs.lemmas.List.Sums.{sum_by-cons, sum_by_more, sum_by-take-le}
use Rattle.cbi_base.specs.declared.outcome.Counts.{Counts}
use Rattle.report_file.specs.declared.report.Entry.{Entry}
use Rattle.report_file.specs.Report.{is_positive}
use Rattle.elimination_tallies.specs.Predicates.{first_predicate, is_of, makes_true, is_observed_in_entry, predicates_in, is_true_in_entry, width_of}

pub width-most : (b : Bool) → width_of b ≤ 6
width-most true = omega arith
width-most false = omega arith

pub predicates-few : (branches : List Bool) → predicates_in branches ≤ 6 * length branches
predicates-few [] = omega arith
predicates-few (b ∷ more) = omega (arith, sum_by-cons width_of b more, width-most b, predicates-few more)

pub first-next : (branches : List Bool) (site : ℕ) → site < length branches → first_predicate branches (site + 1) ≡ first_predicate branches site + width_of (get_or branches site false)
first-next branches site h = sum_by_more width_of branches site false h

pub first-mono : (branches : List Bool) (i j : ℕ) → i ≤ j → first_predicate branches i ≤ first_predicate branches j
first-mono branches i j h = omega (arith, ap predicates_in (take-take i j branches h), sum_by-take-le width_of (take j branches) i)

pub first-within : (branches : List Bool) (site : ℕ) → first_predicate branches site ≤ predicates_in branches
first-within branches site = sum_by-take-le width_of branches site

pub first-past : (branches : List Bool) (site : ℕ) → length branches ≤ site → first_predicate branches site ≡ predicates_in branches
first-past branches site h = ap predicates_in (take_all site branches h)

pub of-true : (branches : List Bool) (site p : ℕ) → is_of branches site p ≡ true → (first_predicate branches site ≤ p) × (p < first_predicate branches (site + 1))
of-true branches site p h =
    let parts = and_parts (nat_le (first_predicate branches site) p) (nat_lt p (first_predicate branches (site + 1))) h in
    (leb-true (first_predicate branches site) p parts.0, ltb-true p (first_predicate branches (site + 1)) parts.1)

pub of-from : (branches : List Bool) (site p : ℕ) → first_predicate branches site ≤ p → p < first_predicate branches (site + 1) → is_of branches site p ≡ true
of-from branches site p low high = and_from (nat_le (first_predicate branches site) p) (nat_lt p (first_predicate branches (site + 1))) (le-leb (first_predicate branches site) p low) (lt-ltb p (first_predicate branches (site + 1)) high)

pub of-not-before : (branches : List Bool) (site p : ℕ) → p < first_predicate branches site → is_of branches site p ≡ false
of-not-before branches site p h = and_left (nat_le (first_predicate branches site) p) (nat_lt p (first_predicate branches (site + 1))) (lt-leb (first_predicate branches site) p h)

pub of-not-behind : (branches : List Bool) (site p : ℕ) → first_predicate branches (site + 1) ≤ p → is_of branches site p ≡ false
of-not-behind branches site p h = and_right (nat_le (first_predicate branches site) p) (nat_lt p (first_predicate branches (site + 1))) (le-ltb p (first_predicate branches (site + 1)) h)

pub of-not-past : (branches : List Bool) (site p : ℕ) → length branches ≤ site → is_of branches site p ≡ false
of-not-past branches site p h =
    elim (cases_lt p (first_predicate branches site)) [
      | inl before ↦ of-not-before branches site p before
      | inr behind ↦ of-not-behind branches site p (omega (arith, behind, first-past branches site h, first-past branches (site + 1) (omega arith)))
    ]

-- a predicate is one site's
pub of-once : (branches : List Bool) (i j p : ℕ) → is_of branches i p ≡ true → is_of branches j p ≡ true → i ≡ j
of-once branches i j p one other =
    let a = of-true branches i p one in
    let b = of-true branches j p other in
    elim (cases_order i j) [
      | inl same ↦ same
      | inr (inl less) ↦ absurd (omega (arith, a, b, first-mono branches (i + 1) j (omega arith)))
      | inr (inr more) ↦ absurd (omega (arith, a, b, first-mono branches (j + 1) i (omega arith)))
    ]

-- what an entry says of the predicates of its site
pub shows-own : (branches : List Bool) (p number : ℕ) (e : Entry) → e.site < length branches → p ≡ first_predicate branches e.site + number → number < width_of (get_or branches e.site false) → is_true_in_entry branches p e ≡ makes_true (get_or branches e.site false) number e.counts
unfolding is_true_in_entry
shows-own branches p number e inside is own =
    ap (λ b. b && makes_true (get_or branches e.site false) (p - first_predicate branches e.site) e.counts) (of-from branches e.site p (omega arith) (omega (arith, first-next branches e.site inside)))
    ∙ ap (λ n. makes_true (get_or branches e.site false) n e.counts) (omega arith)

pub observes-own : (branches : List Bool) (p number : ℕ) (e : Entry) → e.site < length branches → p ≡ first_predicate branches e.site + number → number < width_of (get_or branches e.site false) → is_observed_in_entry branches p e ≡ is_positive e.counts
unfolding is_observed_in_entry
observes-own branches p number e inside is own =
    ap (λ b. b && is_positive e.counts) (of-from branches e.site p (omega arith) (omega (arith, first-next branches e.site inside)))

pub shows-not : (branches : List Bool) (p : ℕ) (e : Entry) → is_of branches e.site p ≡ false → is_true_in_entry branches p e ≡ false
unfolding is_true_in_entry
shows-not branches p e h = and_left (is_of branches e.site p) (makes_true (get_or branches e.site false) (p - first_predicate branches e.site) e.counts) h

pub observes-not : (branches : List Bool) (p : ℕ) (e : Entry) → is_of branches e.site p ≡ false → is_observed_in_entry branches p e ≡ false
unfolding is_observed_in_entry
observes-not branches p e h = and_left (is_of branches e.site p) (is_positive e.counts) h

pub shows-of : (branches : List Bool) (p : ℕ) (e : Entry) → is_true_in_entry branches p e ≡ true → is_of branches e.site p ≡ true
unfolding is_true_in_entry
shows-of branches p e h = (and_parts (is_of branches e.site p) (makes_true (get_or branches e.site false) (p - first_predicate branches e.site) e.counts) h).0

pub observes-of : (branches : List Bool) (p : ℕ) (e : Entry) → is_observed_in_entry branches p e ≡ true → is_of branches e.site p ≡ true
unfolding is_observed_in_entry
observes-of branches p e h = (and_parts (is_of branches e.site p) (is_positive e.counts) h).0

first-positive : (x y z : Bool) → x ≡ true → (x || (y || z)) ≡ true
first-positive x y z h = or_left x (y || z) h

second-positive : (x y z : Bool) → y ≡ true → (x || (y || z)) ≡ true
second-positive x y z h = or_right x (y || z) (or_left y z h)

third-positive : (x y z : Bool) → z ≡ true → (x || (y || z)) ≡ true
third-positive x y z h = or_right x (y || z) (or_right y z h)

-- a predicate that is true has a positive counter
pub makes-positive : (branch : Bool) (n : ℕ) (c : Counts) → makes_true branch n c ≡ true → is_positive c ≡ true
makes-positive true zero c h = first-positive (nat_lt 0 c.first) (nat_lt 0 c.second) (nat_lt 0 c.third) h
makes-positive true (suc n) c h = second-positive (nat_lt 0 c.first) (nat_lt 0 c.second) (nat_lt 0 c.third) h
makes-positive false zero c h = first-positive (nat_lt 0 c.first) (nat_lt 0 c.second) (nat_lt 0 c.third) h
makes-positive false (suc zero) c h =
    elim (or_cases (nat_lt 0 c.first) (nat_lt 0 c.second) h) [
      | inl one ↦ first-positive (nat_lt 0 c.first) (nat_lt 0 c.second) (nat_lt 0 c.third) one
      | inr other ↦ second-positive (nat_lt 0 c.first) (nat_lt 0 c.second) (nat_lt 0 c.third) other
    ]
makes-positive false (suc (suc zero)) c h = third-positive (nat_lt 0 c.first) (nat_lt 0 c.second) (nat_lt 0 c.third) h
makes-positive false (suc (suc (suc zero))) c h = or_right (nat_lt 0 c.first) (nat_lt 0 c.second || nat_lt 0 c.third) h
makes-positive false (suc (suc (suc (suc zero)))) c h = second-positive (nat_lt 0 c.first) (nat_lt 0 c.second) (nat_lt 0 c.third) h
makes-positive false (suc (suc (suc (suc (suc n))))) c h =
    elim (or_cases (nat_lt 0 c.first) (nat_lt 0 c.third) h) [
      | inl one ↦ first-positive (nat_lt 0 c.first) (nat_lt 0 c.second) (nat_lt 0 c.third) one
      | inr other ↦ third-positive (nat_lt 0 c.first) (nat_lt 0 c.second) (nat_lt 0 c.third) other
    ]

pub shows-observes : (branches : List Bool) (p : ℕ) (e : Entry) → is_true_in_entry branches p e ≡ true → is_observed_in_entry branches p e ≡ true
unfolding is_true_in_entry is_observed_in_entry
shows-observes branches p e h =
    let parts = and_parts (is_of branches e.site p) (makes_true (get_or branches e.site false) (p - first_predicate branches e.site) e.counts) h in
    and_from (is_of branches e.site p) (is_positive e.counts) parts.0 (makes-positive (get_or branches e.site false) (p - first_predicate branches e.site) e.counts parts.1)

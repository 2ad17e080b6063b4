-- Counts over rows are counts over runs, and the numbers of predicates and of pairs are tallies.
use Rattle.std.proofs.Common.{◌≡◌, ℕ, zero, suc, ◌+◌, Bool, true, false, ◌&&◌, ◌||◌, cond, List, [], ◌∷◌, ◌++◌, map, refl, sym, ap, ◌∙◌, arith}
use Rattle.std.specs.Prelude.{count_by, filter, replicate, zip}
use Rattle.std.proofs.lemmas.List.Sums.{sum_by-cons}
use Rattle.fractions.specs.declared.tally.Tally.{Tally}
use Rattle.compound_bits.specs.Facts.{Fact, both_hold, decided_count, both_hold_count, no_fact, one_is_refuted}
use Rattle.elimination_tallies.specs.declared.labelled.LabelledRun.{LabelledRun}
use Rattle.compound_counts.specs.Rows.{IsRow, fact_of}
use Rattle.compound_counts.specs.Runs.{counted_runs, is_counted_label}
use Rattle.compound_counts.specs.Numbers.{numbers_by, row_at}
use Rattle.compound_counts.specs.Truth.{pair_recount}

-- ---- over the runs that are counted

filter-step : (t p : LabelledRun → Bool) (r : LabelledRun) (more : List LabelledRun) (b : Bool) → count_by p (filter t more) ≡ count_by (λ x. t x && p x) more
    → count_by p (cond b (r ∷ filter t more) (filter t more)) ≡ cond (b && p r) 1 0 + count_by (λ x. t x && p x) more
filter-step t p r more true rest = sum_by-cons (λ x. cond (p x) 1 0) r (filter t more) ∙ ap (λ n. cond (p r) 1 0 + n) rest
filter-step t p r more false rest = omega (arith, rest)

pub count-filter : (t p : LabelledRun → Bool) (runs : List LabelledRun) → count_by p (filter t runs) ≡ count_by (λ r. t r && p r) runs
count-filter t p [] = refl
count-filter t p (r ∷ more) = filter-step t p r more (t r) (count-filter t p more) ∙ sym (sum_by-cons (λ x. cond (t x && p x) 1 0) r more)

-- ---- places without facts count for nothing

none-left : (test : Fact × Fact → Bool) (m n : ℕ) → test (no_fact, no_fact) ≡ false → count_by test (zip (replicate m no_fact) (replicate n no_fact)) ≡ 0
none-left test zero n none = refl
none-left test (suc m) zero none = refl
none-left test (suc m) (suc n) none =
    sum_by-cons (λ (p : Fact × Fact). cond (test p) 1 0) (no_fact, no_fact) (zip (replicate m no_fact) (replicate n no_fact))
    ∙ ap (λ b. cond b 1 0 + count_by test (zip (replicate m no_fact) (replicate n no_fact))) none
    ∙ ap (λ k. 0 + k) (none-left test m n none)

count-padded : (test : Fact × Fact → Bool) (f g : LabelledRun → Fact) (runs : List LabelledRun) (m n : ℕ) → test (no_fact, no_fact) ≡ false
    → count_by test (zip (map f runs ++ replicate m no_fact) (map g runs ++ replicate n no_fact)) ≡ count_by (λ r. test (f r, g r)) runs
count-padded test f g [] m n none = none-left test m n none
count-padded test f g (r ∷ more) m n none =
    sum_by-cons (λ (p : Fact × Fact). cond (test p) 1 0) (f r, g r) (zip (map f more ++ replicate m no_fact) (map g more ++ replicate n no_fact))
    ∙ ap (λ k. cond (test (f r, g r)) 1 0 + k) (count-padded test f g more m n none)
    ∙ sym (sum_by-cons (λ (x : LabelledRun). cond (test (f x, g x)) 1 0) r more)

pub holding-rows : (f g : LabelledRun → Fact) (runs : List LabelledRun) (left right : List Fact) → IsRow (map f runs) left → IsRow (map g runs) right → both_hold_count left right ≡ count_by (λ r. both_hold (f r) (g r)) runs
holding-rows f g runs left right one other =
    ap (λ (xs : List Fact). both_hold_count xs right) one.is ∙ ap (both_hold_count (map f runs ++ replicate one.more no_fact)) other.is
    ∙ count-padded (λ (p : Fact × Fact). both_hold p.0 p.1) f g runs one.more other.more refl

pub decided-rows : (f g : LabelledRun → Fact) (runs : List LabelledRun) (left right : List Fact) → IsRow (map f runs) left → IsRow (map g runs) right
    → decided_count left right ≡ count_by (λ r. both_hold (f r) (g r) || one_is_refuted (f r) (g r)) runs
decided-rows f g runs left right one other =
    ap (λ (xs : List Fact). decided_count xs right) one.is ∙ ap (decided_count (map f runs ++ replicate one.more no_fact)) other.is
    ∙ count-padded (λ (p : Fact × Fact). both_hold p.0 p.1 || one_is_refuted p.0 p.1) f g runs one.more other.more refl

-- ---- the numbers of a pair

pub tally-same : (s t : Tally) → s.a ≡ t.a → s.b ≡ t.b → s.c ≡ t.c → s.d ≡ t.d → s ≡ t
tally-same s t a b c d =
    let make : ℕ → ℕ → ℕ → ℕ → Tally = λ w x y z. record { a = w; b = x; c = y; d = z } in
    ap (λ n. make n s.b s.c s.d) a ∙ ap (λ n. make t.a n s.c s.d) b ∙ ap (λ n. make t.a t.b n s.d) c ∙ ap (λ n. make t.a t.b t.c n) d

pub numbers-are : (branches : List Bool) (runs : List LabelledRun) (p q i j : ℕ) (failing successful : List (List Fact))
    → IsRow (map (fact_of branches p) (counted_runs true runs)) (row_at failing i) → IsRow (map (fact_of branches q) (counted_runs true runs)) (row_at failing j)
    → IsRow (map (fact_of branches p) (counted_runs false runs)) (row_at successful i) → IsRow (map (fact_of branches q) (counted_runs false runs)) (row_at successful j)
    → numbers_by failing successful i j ≡ pair_recount branches runs p q
numbers-are branches runs p q i j failing successful one other third fourth =
    let f = fact_of branches p in
    let g = fact_of branches q in
    let true_count = λ (b : Bool). count-filter (λ (r : LabelledRun). is_counted_label b r.label) (λ (r : LabelledRun). both_hold (f r) (g r)) runs in
    let known_count = λ (b : Bool). count-filter (λ (r : LabelledRun). is_counted_label b r.label) (λ (r : LabelledRun). both_hold (f r) (g r) || one_is_refuted (f r) (g r)) runs in
    tally-same (numbers_by failing successful i j) (pair_recount branches runs p q)
    (holding-rows f g (counted_runs true runs) (row_at failing i) (row_at failing j) one other ∙ true_count true)
    (holding-rows f g (counted_runs false runs) (row_at successful i) (row_at successful j) third fourth ∙ true_count false)
    (decided-rows f g (counted_runs true runs) (row_at failing i) (row_at failing j) one other ∙ known_count true)
    (decided-rows f g (counted_runs false runs) (row_at successful i) (row_at successful j) third fourth ∙ known_count false)

-- Numbers of predicates as sums over the entries of runs.
use Rattle.std.proofs.Common.{◌≡◌, ℕ, ◌+◌, ◌-◌, ◌<◌, ◌≤◌, ◌^◌, inl, inr, Bool, true, false, ◌&&◌, ◌||◌, cond, List, [], ◌∷◌, ◌++◌, length, get_or, Some, refl, sym, ap, subst, ◌∙◌, arith}
use Rattle.std.specs.Prelude.{sum_by, count_by, slice_get}
use Rattle.std.specs.List.{list_any}
use Rattle.std.proofs.lemmas.Bool.{cases_Bool, false_from_ne_true}
use Rattle.std.proofs.lemmas.List.Sums.{sum_by-append, sum_by-cons, count_by-le-length}
use Rattle.std.proofs.lemmas.List.Elements.{All-cons, All-head, All-nil, All-tail}
use Rattle.fractions.specs.declared.tally.Tally.{Tally}
use Rattle.report_file.specs.declared.label.Label.{Label}
use Rattle.report_file.specs.declared.label.Label.TheVariants.{Fail, Pass, Uncounted}
use Rattle.report_file.specs.declared.report.Entry.{Entry}
use Rattle.report_file.specs.Report.{RiseFrom}
use Rattle.elimination_tallies.specs.declared.labelled.LabelledRun.{LabelledRun}
use Rattle.elimination_tallies.specs.declared.numbers.Counted.{Counted}
use Rattle.elimination_tallies.specs.declared.numbers.Counted.TheVariants as counted
use Rattle.elimination_tallies.specs.declared.numbers.Change.TheVariants.{PutIn, TakeOut, MoveOver}
use Rattle.elimination_tallies.specs.Predicates.{is_observed_in_entry, predicates_in, is_true_in_entry}
use Rattle.elimination_tallies.specs.Recount.{is_failing, is_successful, recount}
use Rattle.elimination_tallies.specs.Runs.{AreEntriesOf, AreRunsOf}
use Rattle.elimination_tallies.specs.Tallies.{Allows, AllowsEntries, AreRecounts, ChangedByAll, IsAllowed, IsMade, Tallies, tally_changed, counted_as, one_if}
use Rattle.elimination_tallies.proofs.ChangeLemmas.{old-tally, tally-is}
use Rattle.std.proofs.lemmas.Option.{same_Some, slice_get-get_or, slice_get_within}
use Rattle.elimination_tallies.proofs.PredicateLemmas.{observes-of, of-once, shows-of}

-- the entries of a run that pass, where it has the label
abbrev pub part : (Label → Bool) → (Entry → Bool) → LabelledRun → ℕ
part label test r = cond (label r.label) (count_by test r.entries) 0

abbrev pub total : (Label → Bool) → (Entry → Bool) → List LabelledRun → ℕ
total label test runs = sum_by (part label test) runs

unfoldable pub totals : List Bool → List LabelledRun → ℕ → Tally
totals branches runs p = record {
  a = total is_failing (is_true_in_entry branches p) runs;
  b = total is_successful (is_true_in_entry branches p) runs;
  c = total is_failing (is_observed_in_entry branches p) runs;
  d = total is_successful (is_observed_in_entry branches p) runs;
}

-- rising entries of which those that pass have one site pass once at most
none-later : (test : Entry → Bool) (site from : ℕ) (entries : List Entry) → ((x : Entry) → test x ≡ true → x.site ≡ site) → site < from → RiseFrom from entries → (count_by test entries ≡ 0) × (list_any test entries ≡ false)
none-later test site from [] one less rising = (refl, refl)
none-later test site from (e ∷ more) one less rising =
    let fails_here : test e ≡ false = false_from_ne_true (test e) (λ passes. omega (arith, one e passes, rising.0)) in
    let rest = none-later test site (e.site + 1) more one (omega (arith, rising.0)) rising.1 in (
      sum_by-cons (λ (x : Entry). cond (test x) 1 0) e more ∙ ap (λ b. cond b 1 0 + count_by test more) fails_here ∙ omega (arith, rest.0),
      ap (λ b. b || list_any test more) fails_here ∙ rest.1,
    )

once-cases : (test : Entry → Bool) (e : Entry) (more : List Entry) (b : Bool) → test e ≡ b → (b ≡ true → (count_by test more ≡ 0) × (list_any test more ≡ false)) → (b ≡ false → count_by test more ≡ one_if (list_any test more)) → count_by test (e ∷ more) ≡ one_if (list_any test (e ∷ more))
once-cases test e more true is passes fails =
    sum_by-cons (λ (x : Entry). cond (test x) 1 0) e more ∙ ap (λ b. cond b 1 0 + count_by test more) is ∙ omega (arith, (passes refl).0)
    ∙ ap one_if (sym (ap (λ b. b || list_any test more) is))
once-cases test e more false is passes fails =
    sum_by-cons (λ (x : Entry). cond (test x) 1 0) e more ∙ ap (λ b. cond b 1 0 + count_by test more) is ∙ omega (arith, fails refl)
    ∙ ap one_if (sym (ap (λ b. b || list_any test more) is))

pub count-once : (test : Entry → Bool) (from : ℕ) (entries : List Entry) → ((x y : Entry) → test x ≡ true → test y ≡ true → x.site ≡ y.site) → RiseFrom from entries → count_by test entries ≡ one_if (list_any test entries)
count-once test from [] one rising = refl
count-once test from (e ∷ more) one rising =
    once-cases test e more (test e) refl (λ passes. none-later test e.site (e.site + 1) more (λ x other. one x e other passes) (omega arith) rising.1) (λ _. count-once test (e.site + 1) more one rising.1)

part-is : (label : Label → Bool) (test : Entry → Bool) (r : LabelledRun) → count_by test r.entries ≡ one_if (list_any test r.entries) → part label test r ≡ cond (label r.label && list_any test r.entries) 1 0
part-is label test r once =
    elim (cases_Bool (label r.label)) [
      | inl has ↦ ap (λ b. cond b (count_by test r.entries) 0) has ∙ once ∙ sym (ap (λ b. cond (b && list_any test r.entries) 1 0) has)
      | inr lacks ↦ ap (λ b. cond b (count_by test r.entries) 0) lacks ∙ sym (ap (λ b. cond (b && list_any test r.entries) 1 0) lacks)
    ]

total-is : (branches : List Bool) (label : Label → Bool) (test : Entry → Bool) (runs : List LabelledRun) → ((x y : Entry) → test x ≡ true → test y ≡ true → x.site ≡ y.site) → AreRunsOf branches runs
    → total label test runs ≡ count_by (λ (r : LabelledRun). label r.label && list_any test r.entries) runs
total-is branches label test [] one are = refl
total-is branches label test (r ∷ more) one are =
    let here = part-is label test r (count-once test 0 r.entries one (All-head (λ (x : LabelledRun). AreEntriesOf branches x.entries) r more are).rising) in
    let rest = total-is branches label test more one (All-tail (λ (x : LabelledRun). AreEntriesOf branches x.entries) r more are) in
    sum_by-cons (part label test) r more ∙ omega (arith, here, rest) ∙ sym (sum_by-cons (λ (x : LabelledRun). cond (label x.label && list_any test x.entries) 1 0) r more)

-- the sums are the recount
pub totals-recount : (branches : List Bool) (runs : List LabelledRun) (p : ℕ) → AreRunsOf branches runs → totals branches runs p ≡ recount branches runs p
unfolding totals
totals-recount branches runs p are =
    let shown : (x y : Entry) → is_true_in_entry branches p x ≡ true → is_true_in_entry branches p y ≡ true → x.site ≡ y.site = λ x y a b. of-once branches x.site y.site p (shows-of branches p x a) (shows-of branches p y b) in
    let observed : (x y : Entry) → is_observed_in_entry branches p x ≡ true → is_observed_in_entry branches p y ≡ true → x.site ≡ y.site = λ x y a b. of-once branches x.site y.site p (observes-of branches p x a) (observes-of branches p y b) in
    tally-is (recount branches runs p) (total is_failing (is_true_in_entry branches p) runs) (total is_successful (is_true_in_entry branches p) runs) (total is_failing (is_observed_in_entry branches p) runs) (total is_successful (is_observed_in_entry branches p) runs)
    (total-is branches is_failing (is_true_in_entry branches p) runs shown are) (total-is branches is_successful (is_true_in_entry branches p) runs shown are) (total-is branches is_failing (is_observed_in_entry branches p) runs observed are) (total-is branches is_successful (is_observed_in_entry branches p) runs observed are)

total-middle : (label : Label → Bool) (test : Entry → Bool) (xs ys : List LabelledRun) (r : LabelledRun) → total label test (xs ++ r ∷ ys) ≡ total label test (xs ++ ys) + part label test r
total-middle label test xs ys r = omega (arith, sum_by-append (part label test) xs (r ∷ ys), sum_by-append (part label test) xs ys, sum_by-cons (part label test) r ys)

by-label : (l : Label) (m n : ℕ) (t : Tally) (u : Tally)
    → t.a ≡ u.a + cond (is_failing l) n 0 → t.b ≡ u.b + cond (is_successful l) n 0 → t.c ≡ u.c + cond (is_failing l) m 0 → t.d ≡ u.d + cond (is_successful l) m 0 → t ≡ tally_changed (PutIn (counted_as l)) m n u
by-label Fail m n t u a b c d = tally-is (tally_changed (PutIn counted.Failing) m n u) t.a t.b t.c t.d a (omega (arith, b)) c (omega (arith, d))
by-label Pass m n t u a b c d = tally-is (tally_changed (PutIn counted.Successful) m n u) t.a t.b t.c t.d (omega (arith, a)) b (omega (arith, c)) d
by-label Uncounted m n t u a b c d = tally-is u t.a t.b t.c t.d (omega (arith, a)) (omega (arith, b)) (omega (arith, c)) (omega (arith, d))

-- one more run among others
pub totals-middle : (branches : List Bool) (xs ys : List LabelledRun) (r : LabelledRun) (p : ℕ) → totals branches (xs ++ r ∷ ys) p ≡ tally_changed (PutIn (counted_as r.label)) (count_by (is_observed_in_entry branches p) r.entries) (count_by (is_true_in_entry branches p) r.entries) (totals branches (xs ++ ys) p)
unfolding totals
totals-middle branches xs ys r p =
    by-label r.label (count_by (is_observed_in_entry branches p) r.entries) (count_by (is_true_in_entry branches p) r.entries) (totals branches (xs ++ r ∷ ys) p) (totals branches (xs ++ ys) p)
    (total-middle is_failing (is_true_in_entry branches p) xs ys r) (total-middle is_successful (is_true_in_entry branches p) xs ys r) (total-middle is_failing (is_observed_in_entry branches p) xs ys r) (total-middle is_successful (is_observed_in_entry branches p) xs ys r)

-- the first two together are the third
pub record IsSum (t u v : Tally) : Type 0 where
  pub a : t.a + u.a ≡ v.a
  pub b : t.b + u.b ≡ v.b
  pub c : t.c + u.c ≡ v.c
  pub d : t.d + u.d ≡ v.d

pub sum-moves : (k : Counted) (m n : ℕ) (t u v : Tally) → IsSum t (tally_changed (PutIn k) m n u) v → IsSum (tally_changed (PutIn k) m n t) u v
sum-moves counted.Failing m n t u v s = record { a = omega (arith, s.a); b = s.b; c = omega (arith, s.c); d = s.d }
sum-moves counted.Successful m n t u v s = record { a = s.a; b = omega (arith, s.b); c = s.c; d = omega (arith, s.d) }
sum-moves counted.Neither m n t u v s = s

-- the numbers are below a bound
pub record Below (bound : ℕ) (t : Tally) : Type 0 where
  pub a : t.a < bound
  pub b : t.b < bound
  pub c : t.c < bound
  pub d : t.d < bound

pub recount-below : (branches : List Bool) (runs : List LabelledRun) (p : ℕ) → length runs ≤ 100000 → Below 100001 (recount branches runs p)
recount-below branches runs p few = record {
  a = omega (arith, count_by-le-length (λ (r : LabelledRun). is_failing r.label && list_any (is_true_in_entry branches p) r.entries) runs);
  b = omega (arith, count_by-le-length (λ (r : LabelledRun). is_successful r.label && list_any (is_true_in_entry branches p) r.entries) runs);
  c = omega (arith, count_by-le-length (λ (r : LabelledRun). is_failing r.label && list_any (is_observed_in_entry branches p) r.entries) runs);
  d = omega (arith, count_by-le-length (λ (r : LabelledRun). is_successful r.label && list_any (is_observed_in_entry branches p) r.entries) runs);
}

-- what was put in is taken out
pub take-undoes : (k : Counted) (m n : ℕ) (t : Tally) → tally_changed (TakeOut k) m n (tally_changed (PutIn k) m n t) ≡ t
take-undoes counted.Failing m n t = tally-is t (t.a + n - n) t.b (t.c + m - m) t.d (omega arith) refl (omega arith) refl
take-undoes counted.Successful m n t = tally-is t t.a (t.b + n - n) t.c (t.d + m - m) refl (omega arith) refl (omega arith)
take-undoes counted.Neither m n t = refl

pub take-allowed : (k : Counted) (m n : ℕ) (t : Tally) → Allows (TakeOut k) m n (tally_changed (PutIn k) m n t)
take-allowed counted.Failing m n t = (omega arith, omega arith)
take-allowed counted.Successful m n t = (omega arith, omega arith)
take-allowed counted.Neither m n t = tt

-- what was put in as failing is moved over
pub move-moves : (m n : ℕ) (t : Tally) → tally_changed MoveOver m n (tally_changed (PutIn counted.Failing) m n t) ≡ tally_changed (PutIn counted.Successful) m n t
move-moves m n t = tally-is (tally_changed (PutIn counted.Successful) m n t) (t.a + n - n) (t.b + n) (t.c + m - m) (t.d + m) (omega arith) refl (omega arith) refl

pub move-allowed : (m n : ℕ) (t : Tally) → t.b + n ≤ 100000 → t.d + m ≤ 100000 → Allows MoveOver m n (tally_changed (PutIn counted.Failing) m n t)
move-allowed m n t b d = (omega arith, omega arith, b, d)

-- a number of runs is added to each of the numbers
pub record IsWithin (more bound : ℕ) (t : Tally) : Type 0 where
  pub a : t.a + more ≤ bound
  pub b : t.b + more ≤ bound
  pub c : t.c + more ≤ bound
  pub d : t.d + more ≤ bound

within-more : (k : Counted) (m n more bound : ℕ) (t : Tally) → m ≤ 1 → n ≤ 1 → IsWithin (more + 1) bound t → IsWithin more bound (tally_changed (PutIn k) m n t)
within-more counted.Failing m n more bound t ms ns w = record { a = omega (arith, w.a); b = omega (arith, w.b); c = omega (arith, w.c); d = omega (arith, w.d) }
within-more counted.Successful m n more bound t ms ns w = record { a = omega (arith, w.a); b = omega (arith, w.b); c = omega (arith, w.c); d = omega (arith, w.d) }
within-more counted.Neither m n more bound t ms ns w = record { a = omega (arith, w.a); b = omega (arith, w.b); c = omega (arith, w.c); d = omega (arith, w.d) }

within-allows : (k : Counted) (m n more bound : ℕ) (t : Tally) → bound ≤ 100000 → m ≤ 1 → n ≤ 1 → IsWithin (more + 1) bound t → Allows (PutIn k) m n t
within-allows counted.Failing m n more bound t few ms ns w = (omega (arith, w.a), omega (arith, w.c))
within-allows counted.Successful m n more bound t few ms ns w = (omega (arith, w.b), omega (arith, w.d))
within-allows counted.Neither m n more bound t few ms ns w = tt

pub one-most : (b : Bool) → one_if b ≤ 1
one-most true = omega arith
one-most false = omega arith

pub shown-once : (branches : List Bool) (entries : List Entry) (p : ℕ) → AreEntriesOf branches entries → count_by (is_true_in_entry branches p) entries ≤ 1
shown-once branches entries p are = omega (arith, count-once (is_true_in_entry branches p) 0 entries (λ x y a b. of-once branches x.site y.site p (shows-of branches p x a) (shows-of branches p y b)) are.rising, one-most (list_any (is_true_in_entry branches p) entries))

pub observed-once : (branches : List Bool) (entries : List Entry) (p : ℕ) → AreEntriesOf branches entries → count_by (is_observed_in_entry branches p) entries ≤ 1
observed-once branches entries p are = omega (arith, count-once (is_observed_in_entry branches p) 0 entries (λ x y a b. of-once branches x.site y.site p (observes-of branches p x a) (observes-of branches p y b)) are.rising, one-most (list_any (is_observed_in_entry branches p) entries))

-- a table has the numbers of some runs, which with those of the runs left are those of all
pub record AreSummed (branches : List Bool) (rest all : List LabelledRun) (table : Tallies) : Type 0 where
  pub branches_are : table.branches ≡ branches
  pub as_many : length table.tallies ≡ predicates_in branches
  pub sums : (p : ℕ) (t : Tally) → slice_get table.tallies p ≡ Some t → IsSum t (totals branches rest p) (totals branches all p)
  pub bounds : (p : ℕ) (t : Tally) → slice_get table.tallies p ≡ Some t → IsWithin (length rest) (length all) t
  pub entries : AreRunsOf branches rest → AreRunsOf branches all

zero-tally : (branches : List Bool) (table : Tallies) (p : ℕ) (t : Tally) → AreRecounts branches [] table → slice_get table.tallies p ≡ Some t → recount branches [] p ≡ t
zero-tally branches table p t are is =
    let less : p < predicates_in branches = omega (arith, slice_get_within table.tallies p t is, are.as_many) in
    same_Some (recount branches [] p) t (sym (are.numbers p less) ∙ is)

pub summed-start : (branches : List Bool) (all : List LabelledRun) (table : Tallies) → AreRecounts branches [] table → AreSummed branches all all table
summed-start branches all table are = record {
  branches_are = are.branches_are;
  as_many = are.as_many;
  sums = λ p t is. subst (λ (x : Tally). IsSum x (totals branches all p) (totals branches all p)) (zero-tally branches table p t are is) (record { a = omega arith; b = omega arith; c = omega arith; d = omega arith });
  bounds = λ p t is. subst (λ (x : Tally). IsWithin (length all) (length all) x) (zero-tally branches table p t are is) (record { a = omega arith; b = omega arith; c = omega arith; d = omega arith });
  entries = λ each. each;
}

pub summed-allows : (branches : List Bool) (r : LabelledRun) (rest all : List LabelledRun) (table : Tallies) → AreSummed branches (r ∷ rest) all table → AreEntriesOf branches r.entries → length all ≤ 100000 → AllowsEntries (PutIn (counted_as r.label)) r.entries table
summed-allows branches r rest all table summed are few =
    subst (λ (bs : List Bool). IsAllowed (PutIn (counted_as r.label)) (λ p. count_by (is_observed_in_entry bs p) r.entries) (λ p. count_by (is_true_in_entry bs p) r.entries) table) (sym summed.branches_are)
    (λ p t is. within-allows (counted_as r.label) (count_by (is_observed_in_entry branches p) r.entries) (count_by (is_true_in_entry branches p) r.entries) (length rest) (length all) t few (observed-once branches r.entries p are) (shown-once branches r.entries p are)
    (subst (λ (k : ℕ). IsWithin k (length all) t) (omega arith) (summed.bounds p t is)))

stepped-tally : (branches : List Bool) (r : LabelledRun) (table new : Tallies) → IsMade (PutIn (counted_as r.label)) (λ p. count_by (is_observed_in_entry branches p) r.entries) (λ p. count_by (is_true_in_entry branches p) r.entries) table new → (p : ℕ) (t : Tally) → slice_get new.tallies p ≡ Some t
    → ◌≡◌ {A = Tally} (tally_changed (PutIn (counted_as r.label)) (count_by (is_observed_in_entry branches p) r.entries) (count_by (is_true_in_entry branches p) r.entries) (get_or table.tallies p t)) t
stepped-tally branches r table new made p t is =
    same_Some (tally_changed (PutIn (counted_as r.label)) (count_by (is_observed_in_entry branches p) r.entries) (count_by (is_true_in_entry branches p) r.entries) (get_or table.tallies p t)) t
    (sym (made.numbers p (get_or table.tallies p t) (old-tally table new p t made.as_many is)) ∙ is)

pub summed-step : (branches : List Bool) (r : LabelledRun) (rest all : List LabelledRun) (table new : Tallies) → AreSummed branches (r ∷ rest) all table → AreEntriesOf branches r.entries → ChangedByAll (PutIn (counted_as r.label)) r.entries table new → AreSummed branches rest all new
summed-step branches r rest all table new summed are change =
    let made = subst (λ (bs : List Bool). IsMade (PutIn (counted_as r.label)) (λ p. count_by (is_observed_in_entry bs p) r.entries) (λ p. count_by (is_true_in_entry bs p) r.entries) table new) summed.branches_are change in record {
      branches_are = change.branches_stay ∙ summed.branches_are;
      as_many = change.as_many ∙ summed.as_many;
      sums = λ p t is.
          let before = old-tally table new p t made.as_many is in
          subst (λ (x : Tally). IsSum x (totals branches rest p) (totals branches all p)) (stepped-tally branches r table new made p t is)
          (sum-moves (counted_as r.label) (count_by (is_observed_in_entry branches p) r.entries) (count_by (is_true_in_entry branches p) r.entries) (get_or table.tallies p t) (totals branches rest p) (totals branches all p)
          (subst (λ (x : Tally). IsSum (get_or table.tallies p t) x (totals branches all p)) (totals-middle branches [] rest r p) (summed.sums p (get_or table.tallies p t) before)));
      bounds = λ p t is.
          let before = old-tally table new p t made.as_many is in
          subst (λ (x : Tally). IsWithin (length rest) (length all) x) (stepped-tally branches r table new made p t is)
          (within-more (counted_as r.label) (count_by (is_observed_in_entry branches p) r.entries) (count_by (is_true_in_entry branches p) r.entries) (length rest) (length all) (get_or table.tallies p t) (observed-once branches r.entries p are) (shown-once branches r.entries p are)
          (subst (λ (k : ℕ). IsWithin k (length all) (get_or table.tallies p t)) (omega arith) (summed.bounds p (get_or table.tallies p t) before)));
      entries = λ each. summed.entries (All-cons (λ (x : LabelledRun). AreEntriesOf branches x.entries) r rest are each);
    }

sum-ended : (t v : Tally) (u : Tally) → u.a ≡ 0 → u.b ≡ 0 → u.c ≡ 0 → u.d ≡ 0 → IsSum t u v → t ≡ v
sum-ended t v u a b c d s = tally-is v t.a t.b t.c t.d (omega (arith, s.a)) (omega (arith, s.b)) (omega (arith, s.c)) (omega (arith, s.d))

no-totals : (branches : List Bool) (p : ℕ) (t v : Tally) → IsSum t (totals branches [] p) v → t ≡ v
unfolding totals
no-totals branches p t v s = sum-ended t v (totals branches [] p) refl refl refl refl s

pub summed-end : (branches : List Bool) (all : List LabelledRun) (table : Tallies) → AreSummed branches [] all table → AreRecounts branches all table
summed-end branches all table summed = record {
  branches_are = summed.branches_are;
  as_many = summed.as_many;
  numbers = λ p less.
      let zero_tally : Tally = record { a = 0; b = 0; c = 0; d = 0 } in
      let t = get_or table.tallies p zero_tally in
      let is = slice_get-get_or table.tallies p zero_tally (omega (arith, less, summed.as_many)) in
      is ∙ ap Some (no-totals branches p t (totals branches all p) (summed.sums p t is))
      ∙ ap Some (totals-recount branches all p (summed.entries (All-nil (λ (x : LabelledRun). AreEntriesOf branches x.entries))));
}

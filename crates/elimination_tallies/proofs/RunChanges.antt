-- The numbers over runs when one of them comes, goes or changes its label, and in whatever order they stand.
use Rattle.std.proofs.Common.{◌≡◌, ℕ, ◌+◌, ◌≤◌, Bool, cond, ◌&&◌, List, [], ◌∷◌, ◌++◌, length, Some, refl, sym, ap, subst, ◌∙◌, arith}
use Rattle.std.specs.Prelude.{IsPermutation, count_by, slice_get, sum_by}
use Rattle.std.proofs.lemmas.List.{length-append}
use Rattle.std.proofs.lemmas.List.Elements.{All-cons, All-head, All-tail}
use Rattle.std.proofs.lemmas.List.Sorted.{sum_by-IsPermutation}
use Rattle.std.proofs.lemmas.List.Sums.{sum_by-append, sum_by-cons}
use Rattle.std.proofs.lemmas.Option.{same_Some, slice_get_within}
use Rattle.fractions.specs.declared.tally.Tally.{Tally}
use Rattle.report_file.specs.declared.label.Label.{Label}
use Rattle.report_file.specs.declared.label.Label.TheVariants.{Fail, Pass}
use Rattle.report_file.specs.declared.report.Entry.{Entry}
use Rattle.elimination_tallies.specs.declared.labelled.LabelledRun.{LabelledRun}
use Rattle.elimination_tallies.specs.declared.numbers.Change.{Change}
use Rattle.elimination_tallies.specs.declared.numbers.Change.TheVariants.{PutIn, TakeOut, MoveOver}
use Rattle.elimination_tallies.specs.declared.numbers.Counted.{Counted}
use Rattle.elimination_tallies.specs.declared.numbers.Counted.TheVariants as counted
use Rattle.elimination_tallies.specs.Predicates.{is_observed_in_entry, is_true_in_entry}
use Rattle.elimination_tallies.specs.Recount.{failing_runs, is_failing, is_observed, is_true, recount, is_successful}
use Rattle.elimination_tallies.specs.Runs.{AreEntriesOf, AreRunsOf}
use Rattle.elimination_tallies.specs.Tallies.{Allows, AllowsEntries, AreRecounts, ChangedByAll, IsAllowed, IsMade, Tallies, tally_changed, counted_as, one_if}
use Rattle.elimination_tallies.proofs.ChangeLemmas.{tally-is}
use Rattle.elimination_tallies.proofs.TotalLemmas.{Below, move-allowed, move-moves, recount-below, take-allowed, take-undoes, totals-middle, totals-recount}

abbrev pub AreWell : List Bool → LabelledRun → Type 0
AreWell branches r = AreEntriesOf branches r.entries

pub well-rest : (branches : List Bool) (xs ys : List LabelledRun) (r q : LabelledRun) → q.entries ≡ r.entries → AreRunsOf branches (xs ++ r ∷ ys) → AreRunsOf branches (xs ++ q ∷ ys)
well-rest branches [] ys r q same are = All-cons (AreWell branches) q ys (subst (AreEntriesOf branches) (sym same) (All-head (AreWell branches) r ys are)) (All-tail (AreWell branches) r ys are)
well-rest branches (x ∷ xs) ys r q same are = All-cons (AreWell branches) x (xs ++ q ∷ ys) (All-head (AreWell branches) x (xs ++ r ∷ ys) are) (well-rest branches xs ys r q same (All-tail (AreWell branches) x (xs ++ r ∷ ys) are))

pub well-without : (branches : List Bool) (xs ys : List LabelledRun) (r : LabelledRun) → AreRunsOf branches (xs ++ r ∷ ys) → AreRunsOf branches (xs ++ ys)
well-without branches [] ys r are = All-tail (AreWell branches) r ys are
well-without branches (x ∷ xs) ys r are = All-cons (AreWell branches) x (xs ++ ys) (All-head (AreWell branches) x (xs ++ r ∷ ys) are) (well-without branches xs ys r (All-tail (AreWell branches) x (xs ++ r ∷ ys) are))

-- the numbers with a run are those without it, and the run put in
pub put-back : (branches : List Bool) (xs ys : List LabelledRun) (r : LabelledRun) (p : ℕ) → AreRunsOf branches (xs ++ r ∷ ys)
    → recount branches (xs ++ r ∷ ys) p ≡ tally_changed (PutIn (counted_as r.label)) (count_by (is_observed_in_entry branches p) r.entries) (count_by (is_true_in_entry branches p) r.entries) (recount branches (xs ++ ys) p)
put-back branches xs ys r p are =
    sym (totals-recount branches (xs ++ r ∷ ys) p are) ∙ totals-middle branches xs ys r p
    ∙ ap (tally_changed (PutIn (counted_as r.label)) (count_by (is_observed_in_entry branches p) r.entries) (count_by (is_true_in_entry branches p) r.entries)) (totals-recount branches (xs ++ ys) p (well-without branches xs ys r are))

pub recount-at : (branches : List Bool) (runs : List LabelledRun) (table : Tallies) (p : ℕ) (t : Tally) → AreRecounts branches runs table → slice_get table.tallies p ≡ Some t → ◌≡◌ {A = Tally} (recount branches runs p) t
recount-at branches runs table p t are is =
    same_Some (recount branches runs p) t (sym (are.numbers p (omega (arith, slice_get_within table.tallies p t is, are.as_many))) ∙ is)

-- a change that each predicate's numbers over these runs allow
pub recounts-allow : (branches : List Bool) (runs : List LabelledRun) (change : Change) (entries : List Entry) (table : Tallies)
    → ((p : ℕ) → Allows change (count_by (is_observed_in_entry branches p) entries) (count_by (is_true_in_entry branches p) entries) (recount branches runs p)) → AreRecounts branches runs table → AllowsEntries change entries table
recounts-allow branches runs change entries table each recounts =
    subst (λ (bs : List Bool). IsAllowed change (λ p. count_by (is_observed_in_entry bs p) entries) (λ p. count_by (is_true_in_entry bs p) entries) table) (sym recounts.branches_are)
    (λ p t is. subst (Allows change (count_by (is_observed_in_entry branches p) entries) (count_by (is_true_in_entry branches p) entries)) (recount-at branches runs table p t recounts is) (each p))

-- one that makes each of them the number over other runs
pub recounts-made : (branches : List Bool) (runs others : List LabelledRun) (change : Change) (entries : List Entry) (table new : Tallies)
    → ((p : ℕ) → tally_changed change (count_by (is_observed_in_entry branches p) entries) (count_by (is_true_in_entry branches p) entries) (recount branches runs p) ≡ recount branches others p)
    → AreRecounts branches runs table → ChangedByAll change entries table new → AreRecounts branches others new
recounts-made branches runs others change entries table new each recounts changes =
    let made = subst (λ (bs : List Bool). IsMade change (λ p. count_by (is_observed_in_entry bs p) entries) (λ p. count_by (is_true_in_entry bs p) entries) table new) recounts.branches_are changes in record {
      branches_are = changes.branches_stay ∙ recounts.branches_are;
      as_many = changes.as_many ∙ recounts.as_many;
      numbers = λ p less. made.numbers p (recount branches runs p) (recounts.numbers p less) ∙ ap Some (each p);
    }

put-allowed : (k : Counted) (m n : ℕ) (t : Tally) → Below 100001 (tally_changed (PutIn k) m n t) → Allows (PutIn k) m n t
put-allowed counted.Failing m n t below = (omega (arith, below.a), omega (arith, below.c))
put-allowed counted.Successful m n t below = (omega (arith, below.b), omega (arith, below.d))
put-allowed counted.Neither m n t below = tt

-- a run that comes
pub put-in-allowed : (branches : List Bool) (xs ys : List LabelledRun) (r : LabelledRun) (table : Tallies) → AreRunsOf branches (xs ++ r ∷ ys) → length (xs ++ r ∷ ys) ≤ 100000 → AreRecounts branches (xs ++ ys) table → AllowsEntries (PutIn (counted_as r.label)) r.entries table
put-in-allowed branches xs ys r table are few recounts =
    recounts-allow branches (xs ++ ys) (PutIn (counted_as r.label)) r.entries table
    (λ p. put-allowed (counted_as r.label) (count_by (is_observed_in_entry branches p) r.entries) (count_by (is_true_in_entry branches p) r.entries) (recount branches (xs ++ ys) p)
    (subst (Below 100001) (put-back branches xs ys r p are) (recount-below branches (xs ++ r ∷ ys) p few)))
    recounts

pub put-in-recounts : (branches : List Bool) (xs ys : List LabelledRun) (r : LabelledRun) (table new : Tallies) → AreRunsOf branches (xs ++ r ∷ ys) → AreRecounts branches (xs ++ ys) table → ChangedByAll (PutIn (counted_as r.label)) r.entries table new
    → AreRecounts branches (xs ++ r ∷ ys) new
put-in-recounts branches xs ys r table new are recounts change =
    recounts-made branches (xs ++ ys) (xs ++ r ∷ ys) (PutIn (counted_as r.label)) r.entries table new (λ p. sym (put-back branches xs ys r p are)) recounts change

-- a run that goes
pub take-out-allowed : (branches : List Bool) (xs ys : List LabelledRun) (r : LabelledRun) (table : Tallies) → AreRunsOf branches (xs ++ r ∷ ys) → AreRecounts branches (xs ++ r ∷ ys) table → AllowsEntries (TakeOut (counted_as r.label)) r.entries table
take-out-allowed branches xs ys r table are recounts =
    recounts-allow branches (xs ++ r ∷ ys) (TakeOut (counted_as r.label)) r.entries table
    (λ p. subst (Allows (TakeOut (counted_as r.label)) (count_by (is_observed_in_entry branches p) r.entries) (count_by (is_true_in_entry branches p) r.entries)) (sym (put-back branches xs ys r p are))
    (take-allowed (counted_as r.label) (count_by (is_observed_in_entry branches p) r.entries) (count_by (is_true_in_entry branches p) r.entries) (recount branches (xs ++ ys) p)))
    recounts

pub take-out-recounts : (branches : List Bool) (xs ys : List LabelledRun) (r : LabelledRun) (table new : Tallies) → AreRunsOf branches (xs ++ r ∷ ys) → AreRecounts branches (xs ++ r ∷ ys) table → ChangedByAll (TakeOut (counted_as r.label)) r.entries table new
    → AreRecounts branches (xs ++ ys) new
take-out-recounts branches xs ys r table new are recounts change =
    recounts-made branches (xs ++ r ∷ ys) (xs ++ ys) (TakeOut (counted_as r.label)) r.entries table new
    (λ p. ap (tally_changed (TakeOut (counted_as r.label)) (count_by (is_observed_in_entry branches p) r.entries) (count_by (is_true_in_entry branches p) r.entries)) (put-back branches xs ys r p are)
    ∙ take-undoes (counted_as r.label) (count_by (is_observed_in_entry branches p) r.entries) (count_by (is_true_in_entry branches p) r.entries) (recount branches (xs ++ ys) p))
    recounts change

-- a failing run that passes from then on
failing-back : (branches : List Bool) (xs ys : List LabelledRun) (r : LabelledRun) (p : ℕ) → r.label ≡ Fail → AreRunsOf branches (xs ++ r ∷ ys)
    → recount branches (xs ++ r ∷ ys) p ≡ tally_changed (PutIn counted.Failing) (count_by (is_observed_in_entry branches p) r.entries) (count_by (is_true_in_entry branches p) r.entries) (recount branches (xs ++ ys) p)
failing-back branches xs ys r p fails_it are =
    put-back branches xs ys r p are ∙ ap (λ (l : Label). tally_changed (PutIn (counted_as l)) (count_by (is_observed_in_entry branches p) r.entries) (count_by (is_true_in_entry branches p) r.entries) (recount branches (xs ++ ys) p)) fails_it

passing-back : (branches : List Bool) (xs ys : List LabelledRun) (r : LabelledRun) (p : ℕ) → AreRunsOf branches (xs ++ r ∷ ys)
    → recount branches (xs ++ record r { label = Pass } ∷ ys) p ≡ tally_changed (PutIn counted.Successful) (count_by (is_observed_in_entry branches p) r.entries) (count_by (is_true_in_entry branches p) r.entries) (recount branches (xs ++ ys) p)
passing-back branches xs ys r p are = put-back branches xs ys (record r { label = Pass }) p (well-rest branches xs ys r (record r { label = Pass }) refl are)

pub move-over-allowed : (branches : List Bool) (xs ys : List LabelledRun) (r : LabelledRun) (table : Tallies) → r.label ≡ Fail → AreRunsOf branches (xs ++ r ∷ ys) → length (xs ++ r ∷ ys) ≤ 100000 → AreRecounts branches (xs ++ r ∷ ys) table → AllowsEntries MoveOver r.entries table
move-over-allowed branches xs ys r table fails_it are few recounts =
    recounts-allow branches (xs ++ r ∷ ys) MoveOver r.entries table (λ p.
    let m = count_by (is_observed_in_entry branches p) r.entries in
    let n = count_by (is_true_in_entry branches p) r.entries in
    let moved = passing-back branches xs ys r p are in
    let below = recount-below branches (xs ++ record r { label = Pass } ∷ ys) p (omega (arith, few, length-append xs (r ∷ ys), length-append xs (record r { label = Pass } ∷ ys))) in
    subst (Allows MoveOver m n) (sym (failing-back branches xs ys r p fails_it are))
    (move-allowed m n (recount branches (xs ++ ys) p) (omega (arith, below.b, ap (λ (t : Tally). t.b) moved)) (omega (arith, below.d, ap (λ (t : Tally). t.d) moved)))) recounts

pub move-over-recounts : (branches : List Bool) (xs ys : List LabelledRun) (r : LabelledRun) (table new : Tallies) → r.label ≡ Fail → AreRunsOf branches (xs ++ r ∷ ys) → AreRecounts branches (xs ++ r ∷ ys) table → ChangedByAll MoveOver r.entries table new
    → AreRecounts branches (xs ++ record r { label = Pass } ∷ ys) new
move-over-recounts branches xs ys r table new fails_it are recounts change =
    recounts-made branches (xs ++ r ∷ ys) (xs ++ record r { label = Pass } ∷ ys) MoveOver r.entries table new (λ p.
    let m = count_by (is_observed_in_entry branches p) r.entries in
    let n = count_by (is_true_in_entry branches p) r.entries in
    ap (tally_changed MoveOver m n) (failing-back branches xs ys r p fails_it are) ∙ move-moves m n (recount branches (xs ++ ys) p) ∙ sym (passing-back branches xs ys r p are)) recounts change

-- how many fail
pub fails-middle : (xs ys : List LabelledRun) (r : LabelledRun) → failing_runs (xs ++ r ∷ ys) ≡ failing_runs (xs ++ ys) + one_if (is_failing r.label)
fails-middle xs ys r =
    let f : LabelledRun → ℕ = λ x. cond (is_failing x.label) 1 0 in
    omega (arith, sum_by-append f xs (r ∷ ys), sum_by-append f xs ys, sum_by-cons f r ys)

-- runs over which every sum is the same
pub record SameSums (xs ys : List LabelledRun) : Type 0 where
  pub sums : (f : LabelledRun → ℕ) → sum_by f xs ≡ sum_by f ys

pub same-recount : (branches : List Bool) (xs ys : List LabelledRun) (p : ℕ) → SameSums xs ys → recount branches xs p ≡ recount branches ys p
same-recount branches xs ys p same =
    tally-is (recount branches ys p) (recount branches xs p).a (recount branches xs p).b (recount branches xs p).c (recount branches xs p).d
    (same.sums (λ (r : LabelledRun). cond (is_failing r.label && is_true branches p r) 1 0)) (same.sums (λ (r : LabelledRun). cond (is_successful r.label && is_true branches p r) 1 0))
    (same.sums (λ (r : LabelledRun). cond (is_failing r.label && is_observed branches p r) 1 0)) (same.sums (λ (r : LabelledRun). cond (is_successful r.label && is_observed branches p r) 1 0))

pub same-failing : (xs ys : List LabelledRun) → SameSums xs ys → failing_runs xs ≡ failing_runs ys
same-failing xs ys same = same.sums (λ (r : LabelledRun). cond (is_failing r.label) 1 0)

-- the order of the runs is free
pub any-order-sums : (xs ys : List LabelledRun) → IsPermutation xs ys → SameSums xs ys
any-order-sums xs ys order = record { sums = λ f. sym (sum_by-IsPermutation f xs ys order) }

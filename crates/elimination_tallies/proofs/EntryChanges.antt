-- A change by an entry, from the change of its site's predicates; and changes by several.
use Rattle.std.proofs.Common.{◌≡◌, ℕ, ◌+◌, ◌-◌, ◌<◌, ◌≤◌, inl, inr, Bool, false, List, length, get_or, take, Some, refl, sym, ap, subst, ◌∙◌, arith}
use Rattle.std.specs.Prelude.{slice_get, count_by, IsTrue}
use Rattle.std.proofs.lemmas.Bool.{cases_lt}
use Rattle.fractions.specs.declared.tally.Tally.{Tally}
use Rattle.report_file.specs.declared.report.Entry.{Entry}
use Rattle.report_file.specs.Report.{is_positive}
use Rattle.elimination_tallies.specs.declared.numbers.Change.{Change}
use Rattle.elimination_tallies.specs.Predicates.{first_predicate, is_of, makes_true, is_observed_in_entry, is_true_in_entry, width_of}
use Rattle.elimination_tallies.specs.Tallies.{Allows, AllowsEntries, AllowsEntry, ChangedBy, IsAllowed, IsMade, Tallies, tally_changed, one_if}
use Rattle.elimination_tallies.proofs.ChangeLemmas.{allowed-more, changed-none, count-more, count-more-le, made-more}
use Rattle.elimination_tallies.proofs.PredicateLemmas.{first-next, observes-not, observes-own, of-not-before, of-not-behind, shows-not, shows-own}

abbrev branch_at : List Bool → Entry → Bool
branch_at branches e = get_or branches e.site false

-- what is allowed of an entry is allowed of its site's predicates
pub own-allowed : (table : Tallies) (change : Change) (e : Entry) → e.site < length table.branches → IsTrue (is_positive e.counts) → AllowsEntry change e table → (n : ℕ) (t : Tally) → n < width_of (branch_at table.branches e)
    → slice_get table.tallies (first_predicate table.branches e.site + n) ≡ Some t → Allows change 1 (one_if (makes_true (branch_at table.branches e) n e.counts)) t
own-allowed table change e inside positive allowed n t own is =
    let p = first_predicate table.branches e.site + n in
    let observed : one_if (is_observed_in_entry table.branches p e) ≡ 1 = ap one_if (observes-own table.branches p n e inside refl own ∙ positive) in
    let shown : one_if (is_true_in_entry table.branches p e) ≡ one_if (makes_true (branch_at table.branches e) n e.counts) = ap one_if (shows-own table.branches p n e inside refl own) in
    subst (λ (k : ℕ). Allows change k (one_if (makes_true (branch_at table.branches e) n e.counts)) t) observed
    (subst (λ (k : ℕ). Allows change (one_if (is_observed_in_entry table.branches p e)) k t) shown (allowed p t is))

other-changed : (branches : List Bool) (change : Change) (e : Entry) (p : ℕ) (t : Tally) → is_of branches e.site p ≡ false → t ≡ tally_changed change (one_if (is_observed_in_entry branches p e)) (one_if (is_true_in_entry branches p e)) t
other-changed branches change e p t other =
    sym (changed-none change t)
    ∙ ap (λ k. tally_changed change k 0 t) (sym (ap one_if (observes-not branches p e other)))
    ∙ ap (λ k. tally_changed change (one_if (is_observed_in_entry branches p e)) k t) (sym (ap one_if (shows-not branches p e other)))

own-changed : (branches : List Bool) (change : Change) (e : Entry) (p n : ℕ) (t : Tally) → e.site < length branches → IsTrue (is_positive e.counts) → p ≡ first_predicate branches e.site + n → n < width_of (branch_at branches e)
    → tally_changed change 1 (one_if (makes_true (branch_at branches e) n e.counts)) t ≡ tally_changed change (one_if (is_observed_in_entry branches p e)) (one_if (is_true_in_entry branches p e)) t
own-changed branches change e p n t inside positive is own =
    ap (λ k. tally_changed change k (one_if (makes_true (branch_at branches e) n e.counts)) t) (sym (ap one_if (observes-own branches p n e inside is own ∙ positive)))
    ∙ ap (λ k. tally_changed change (one_if (is_observed_in_entry branches p e)) k t) (sym (ap one_if (shows-own branches p n e inside is own)))

-- where the predicates of the entry's site have changed and no other one has, the change by the entry is made
pub entry-made : (table : Tallies) (change : Change) (e : Entry) (new : List Tally) → e.site < length table.branches → IsTrue (is_positive e.counts) → length new ≡ length table.tallies
    → ((n : ℕ) (t : Tally) → n < width_of (branch_at table.branches e) → slice_get table.tallies (first_predicate table.branches e.site + n) ≡ Some t → slice_get new (first_predicate table.branches e.site + n) ≡ Some (tally_changed change 1 (one_if (makes_true (branch_at table.branches e) n e.counts)) t))
    → ((p : ℕ) → p < first_predicate table.branches e.site → slice_get new p ≡ slice_get table.tallies p)
    → ((p : ℕ) → first_predicate table.branches e.site + width_of (branch_at table.branches e) ≤ p → slice_get new p ≡ slice_get table.tallies p)
    → ChangedBy change e table (record { branches = table.branches; tallies = new })
entry-made table change e new inside positive as_many own before behind = record {
  branches_stay = refl;
  as_many = as_many;
  numbers = λ p t is. elim (cases_lt p (first_predicate table.branches e.site)) [
    | inl less ↦ before p less ∙ is ∙ ap Some (other-changed table.branches change e p t (of-not-before table.branches e.site p less))
    | inr more ↦ elim (cases_lt p (first_predicate table.branches e.site + width_of (branch_at table.branches e))) [
      | inl below ↦
          let n = p - first_predicate table.branches e.site in
          let here : first_predicate table.branches e.site + n ≡ p = omega arith in
          let own_number : n < width_of (branch_at table.branches e) = omega arith in
          sym (ap (slice_get new) here) ∙ own n t own_number (ap (slice_get table.tallies) here ∙ is) ∙ ap Some (own-changed table.branches change e p n t inside positive (sym here) own_number)
      | inr past ↦ behind p past ∙ is ∙ ap Some (other-changed table.branches change e p t (of-not-behind table.branches e.site p (omega (arith, past, first-next table.branches e.site inside))))
    ]
  ];
}

-- so far the entries below j
abbrev pub MadeUpTo : Change → List Entry → ℕ → Tallies → Tallies → Type 0
MadeUpTo change entries j old now = IsMade change (λ p. count_by (is_observed_in_entry old.branches p) (take j entries)) (λ p. count_by (is_true_in_entry old.branches p) (take j entries)) old now

pub entries-allowed : (change : Change) (entries : List Entry) (j : ℕ) (d : Entry) (old now : Tallies) → j < length entries → MadeUpTo change entries j old now → AllowsEntries change entries old → AllowsEntry change (get_or entries j d) now
entries-allowed change entries j d old now less made allowed =
    let e = get_or entries j d in
    subst (λ (bs : List Bool). IsAllowed change (λ p. one_if (is_observed_in_entry bs p e)) (λ p. one_if (is_true_in_entry bs p e)) now) (sym made.branches_stay)
    (allowed-more change (λ p. count_by (is_observed_in_entry old.branches p) (take j entries)) (λ p. count_by (is_true_in_entry old.branches p) (take j entries)) (λ p. one_if (is_observed_in_entry old.branches p e)) (λ p. one_if (is_true_in_entry old.branches p e)) (λ p. count_by (is_observed_in_entry old.branches p) entries) (λ p. count_by (is_true_in_entry old.branches p) entries) old now
    (λ p. count-more-le (is_observed_in_entry old.branches p) entries j d less) (λ p. count-more-le (is_true_in_entry old.branches p) entries j d less) made allowed)

pub entries-made : (change : Change) (entries : List Entry) (j : ℕ) (d : Entry) (old now new : Tallies) → j < length entries → MadeUpTo change entries j old now → ChangedBy change (get_or entries j d) now new → MadeUpTo change entries (j + 1) old new
entries-made change entries j d old now new less made next =
    let e = get_or entries j d in
    made-more change (λ p. count_by (is_observed_in_entry old.branches p) (take j entries)) (λ p. count_by (is_true_in_entry old.branches p) (take j entries)) (λ p. one_if (is_observed_in_entry old.branches p e)) (λ p. one_if (is_true_in_entry old.branches p e)) (λ p. count_by (is_observed_in_entry old.branches p) (take (j + 1) entries)) (λ p. count_by (is_true_in_entry old.branches p) (take (j + 1) entries)) old now new
    (λ p. count-more (is_observed_in_entry old.branches p) entries j d less) (λ p. count-more (is_true_in_entry old.branches p) entries j d less) made
    (subst (λ (bs : List Bool). IsMade change (λ p. one_if (is_observed_in_entry bs p e)) (λ p. one_if (is_true_in_entry bs p e)) now new) made.branches_stay next)

-- the same for parts that are equal to those of a table
pub allowed-there : (old : Tallies) (branches : List Bool) (tallies : List Tally) (start : ℕ) (change : Change) (e : Entry) → branches ≡ old.branches → tallies ≡ old.tallies → start ≡ first_predicate old.branches e.site
    → e.site < length old.branches → IsTrue (is_positive e.counts) → AllowsEntry change e old → (n : ℕ) (t : Tally) → n < width_of (branch_at branches e) → slice_get tallies (start + n) ≡ Some t → Allows change 1 (one_if (makes_true (branch_at branches e) n e.counts)) t
allowed-there old branches tallies start change e b ts s inside positive allowed n t own is =
    let same : branch_at branches e ≡ branch_at old.branches e = ap (λ (xs : List Bool). branch_at xs e) b in
    let there : slice_get old.tallies (first_predicate old.branches e.site + n) ≡ Some t = sym (ap (λ (xs : List Tally). slice_get xs (first_predicate old.branches e.site + n)) ts) ∙ sym (ap (λ k. slice_get tallies (k + n)) s) ∙ is in
    subst (λ (k : Bool). Allows change 1 (one_if (makes_true k n e.counts)) t) (sym same) (own-allowed old change e inside positive allowed n t (subst (λ (k : Bool). n < width_of k) same own) there)

pub made-there : (old : Tallies) (branches : List Bool) (tallies new : List Tally) (start : ℕ) (change : Change) (e : Entry) → branches ≡ old.branches → tallies ≡ old.tallies → start ≡ first_predicate old.branches e.site
    → e.site < length old.branches → IsTrue (is_positive e.counts) → length new ≡ length tallies
    → ((n : ℕ) (t : Tally) → n < width_of (branch_at branches e) → slice_get tallies (start + n) ≡ Some t → slice_get new (start + n) ≡ Some (tally_changed change 1 (one_if (makes_true (branch_at branches e) n e.counts)) t))
    → ((p : ℕ) → p < start → slice_get new p ≡ slice_get tallies p)
    → ((p : ℕ) → start + width_of (branch_at branches e) ≤ p → slice_get new p ≡ slice_get tallies p)
    → ChangedBy change e old (record { branches = old.branches; tallies = new })
made-there old branches tallies new start change e b ts s inside positive as_many own before behind =
    let P : List Bool → List Tally → ℕ → Type 0 = λ bs old_tallies k. (length new ≡ length old_tallies)
    × ((n : ℕ) (t : Tally) → n < width_of (branch_at bs e) → slice_get old_tallies (k + n) ≡ Some t → slice_get new (k + n) ≡ Some (tally_changed change 1 (one_if (makes_true (branch_at bs e) n e.counts)) t))
    × ((p : ℕ) → p < k → slice_get new p ≡ slice_get old_tallies p) × ((p : ℕ) → k + width_of (branch_at bs e) ≤ p → slice_get new p ≡ slice_get old_tallies p) in
    let all : P branches tallies start = (as_many, own, before, behind) in
    let there = subst (λ (k : ℕ). P old.branches old.tallies k) s (subst (λ (xs : List Tally). P old.branches xs start) ts (subst (λ (xs : List Bool). P xs tallies start) b all)) in
    entry-made old change e new inside positive there.0 there.1 there.2 there.3

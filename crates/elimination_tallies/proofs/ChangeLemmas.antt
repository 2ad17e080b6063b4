-- Changes of tallies, one after another.
use Rattle.std.proofs.Common.{◌≡◌, ℕ, ◌+◌, ◌-◌, ◌<◌, ◌≤◌, Bool, List, length, get_or, take, Some, refl, sym, ap, subst, ◌∙◌, arith, cond}
use Rattle.std.specs.Prelude.{slice_get, count_by}
use Rattle.std.proofs.lemmas.List.Sums.{sum_by_more, sum_by_more_le}
use Rattle.std.proofs.lemmas.Option.{slice_get-get_or, slice_get_within}
use Rattle.fractions.specs.declared.tally.Tally.{Tally}
use Rattle.report_file.specs.declared.report.Entry.{Entry}
use Rattle.elimination_tallies.specs.declared.numbers.Counted.TheVariants as counted
use Rattle.elimination_tallies.specs.declared.numbers.Change.{Change}
use Rattle.elimination_tallies.specs.declared.numbers.Change.TheVariants.{PutIn, TakeOut, MoveOver}
use Rattle.elimination_tallies.specs.Tallies.{Allows, IsAllowed, IsMade, Tallies, tally_changed, one_if}

abbrev tally_of : ℕ → ℕ → ℕ → ℕ → Tally
tally_of a b c d = record { a = a; b = b; c = c; d = d }

pub tally-is : (t : Tally) (a b c d : ℕ) → a ≡ t.a → b ≡ t.b → c ≡ t.c → d ≡ t.d → ◌≡◌ {A = Tally} (record { a = a; b = b; c = c; d = d }) t
tally-is t a b c d p q r s = ap (λ x. tally_of x b c d) p ∙ ap (λ x. tally_of t.a x c d) q ∙ ap (λ x. tally_of t.a t.b x d) r ∙ ap (λ x. tally_of t.a t.b t.c x) s

-- entries that say nothing of a predicate change nothing
pub changed-none : (change : Change) (t : Tally) → tally_changed change 0 0 t ≡ t
changed-none (PutIn counted.Failing) t = tally-is t (t.a + 0) t.b (t.c + 0) t.d (omega arith) refl (omega arith) refl
changed-none (PutIn counted.Successful) t = tally-is t t.a (t.b + 0) t.c (t.d + 0) refl (omega arith) refl (omega arith)
changed-none (PutIn counted.Neither) t = refl
changed-none (TakeOut counted.Failing) t = tally-is t (t.a - 0) t.b (t.c - 0) t.d (omega arith) refl (omega arith) refl
changed-none (TakeOut counted.Successful) t = tally-is t t.a (t.b - 0) t.c (t.d - 0) refl (omega arith) refl (omega arith)
changed-none (TakeOut counted.Neither) t = refl
changed-none MoveOver t = tally-is t (t.a - 0) (t.b + 0) (t.c - 0) (t.d + 0) (omega arith) (omega arith) (omega arith) (omega arith)

-- one change after another
pub changed-add : (change : Change) (m n i j : ℕ) (t : Tally) → tally_changed change n j (tally_changed change m i t) ≡ tally_changed change (m + n) (i + j) t
changed-add (PutIn counted.Failing) m n i j t = tally-is (tally_changed (PutIn counted.Failing) (m + n) (i + j) t) (t.a + i + j) t.b (t.c + m + n) t.d (omega arith) refl (omega arith) refl
changed-add (PutIn counted.Successful) m n i j t = tally-is (tally_changed (PutIn counted.Successful) (m + n) (i + j) t) t.a (t.b + i + j) t.c (t.d + m + n) refl (omega arith) refl (omega arith)
changed-add (PutIn counted.Neither) m n i j t = refl
changed-add (TakeOut counted.Failing) m n i j t = tally-is (tally_changed (TakeOut counted.Failing) (m + n) (i + j) t) (t.a - i - j) t.b (t.c - m - n) t.d (omega arith) refl (omega arith) refl
changed-add (TakeOut counted.Successful) m n i j t = tally-is (tally_changed (TakeOut counted.Successful) (m + n) (i + j) t) t.a (t.b - i - j) t.c (t.d - m - n) refl (omega arith) refl (omega arith)
changed-add (TakeOut counted.Neither) m n i j t = refl
changed-add MoveOver m n i j t = tally-is (tally_changed MoveOver (m + n) (i + j) t) (t.a - i - j) (t.b + i + j) (t.c - m - n) (t.d + m + n) (omega arith) (omega arith) (omega arith) (omega arith)

-- what is left of an allowed change is allowed after a part of it
pub allowed-rest : (change : Change) (m n all i j every : ℕ) (t : Tally) → m + n ≤ all → i + j ≤ every → Allows change all every t → Allows change n j (tally_changed change m i t)
allowed-rest (PutIn counted.Neither) m n all i j every t a b h = tt
allowed-rest (TakeOut counted.Neither) m n all i j every t a b h = tt
allowed-rest MoveOver m n all i j every t a b h = (omega (arith, h), omega (arith, h), omega (arith, h), omega (arith, h))
allowed-rest change m n all i j every t a b h = (omega (arith, h), omega (arith, h))

-- a predicate's numbers before a change, from those after it
pub old-tally : (old new : Tallies) (p : ℕ) (t : Tally) → length new.tallies ≡ length old.tallies → slice_get new.tallies p ≡ Some t → slice_get old.tallies p ≡ Some (get_or old.tallies p t)
old-tally old new p t as_many is = slice_get-get_or old.tallies p t (omega (arith, slice_get_within new.tallies p t is))

-- two changes are one
pub made-more : (change : Change) (f g h i m n : ℕ → ℕ) (old mid new : Tallies) → ((p : ℕ) → m p ≡ f p + h p) → ((p : ℕ) → n p ≡ g p + i p) → IsMade change f g old mid → IsMade change h i mid new → IsMade change m n old new
made-more change f g h i m n old mid new ms ns first next = record {
  branches_stay = next.branches_stay ∙ first.branches_stay;
  as_many = next.as_many ∙ first.as_many;
  numbers = λ p t is.
      next.numbers p (tally_changed change (f p) (g p) t) (first.numbers p t is)
      ∙ ap Some (changed-add change (f p) (h p) (g p) (i p) t)
      ∙ ap Some (ap (λ k. tally_changed change k (g p + i p) t) (sym (ms p)))
      ∙ ap Some (ap (λ k. tally_changed change (m p) k t) (sym (ns p)));
}

-- after a part of an allowed change the rest is allowed
pub allowed-more : (change : Change) (f g h i m n : ℕ → ℕ) (old mid : Tallies) → ((p : ℕ) → f p + h p ≤ m p) → ((p : ℕ) → g p + i p ≤ n p) → IsMade change f g old mid → IsAllowed change m n old → IsAllowed change h i mid
allowed-more change f g h i m n old mid ms ns made allowed p t is =
    let before = old-tally old mid p t made.as_many is in
    let now = made.numbers p (get_or old.tallies p t) before in
    let same : ◌≡◌ {A = Tally} (tally_changed change (f p) (g p) (get_or old.tallies p t)) t = cc in
    let ok = allowed-rest change (f p) (h p) (m p) (g p) (i p) (n p) (get_or old.tallies p t) (ms p) (ns p) (allowed p (get_or old.tallies p t) before) in
    subst (λ (x : Tally). Allows change (h p) (i p) x) same ok

pub count-more : (test : Entry → Bool) (entries : List Entry) (j : ℕ) (e : Entry) → j < length entries → count_by test (take (j + 1) entries) ≡ count_by test (take j entries) + one_if (test (get_or entries j e))
count-more test entries j e h = sum_by_more (λ (x : Entry). cond (test x) 1 0) entries j e h

pub count-more-le : (test : Entry → Bool) (entries : List Entry) (j : ℕ) (e : Entry) → j < length entries → count_by test (take j entries) + one_if (test (get_or entries j e)) ≤ count_by test entries
count-more-le test entries j e h = sum_by_more_le (λ (x : Entry). cond (test x) 1 0) entries j e h

-- There is a best pair, or none passes; so one thing is found.
use Rattle.std.proofs.Common.{◌≡◌, ℕ, ◌*◌, ◌⊎◌, inl, inr, not, List, [], ◌∷◌, ◌++◌, length, Option, None, Some, refl, sym, ap, subst, ◌∙◌, arith}
use Rattle.std.specs.Prelude.{All, MatchOption, count_by}
use Rattle.std.proofs.lemmas.Bool.{cases_lt}
use Rattle.std.proofs.lemmas.List.Elements.{All-append, All-cons, All-head, All-nil, All-tail, All-weaker}
use Rattle.base_lists.proofs.Every.{at_split}
use Rattle.fractions.specs.declared.fraction.Fraction.{Fraction}
use Rattle.fractions.specs.declared.tally.Tally.{Tally}
use Rattle.fractions.specs.Fraction.{IsAtMost}
use Rattle.fractions.specs.Tally.{importance_of}
use Rattle.elimination_tallies.specs.Predicates.{predicates_in}
use Rattle.elimination_tallies.specs.Recount.{failing_runs, recount}
use Rattle.compound_counts.specs.Truth.{pair_recount}
use Rattle.affinity.proofs.FallLemmas.{passes-or}
use Rattle.compound.specs.declared.chosen.Chosen.{Chosen}
use Rattle.compound.specs.declared.chosen.PairResult.{PairResult}
use Rattle.compound.specs.Best.{LeadsPairs, NoPairPasses, PairPasses}
use Rattle.compound.specs.Bound.{IsLess}
use Rattle.compound.specs.Found.{ArePairsScanned, IsChosen, IsFoundBy}
use Rattle.compound.specs.Pairs.{pairs_of}
use Rattle.compound.proofs.OrderLemmas.{at-most-trans, importance-positive, less-at-most, not-both}
use Rattle.ranking_laws.specs.Laws.{RunsHaveOneFound, ThereIsOne}
use Rattle.ranking_laws.proofs.CandidateLists.{one-candidate-list}
use Rattle.ranking_laws.proofs.Skips.{one-skip-list}

abbrev value : (ℕ → ℕ → Tally) → ℕ → ℕ × ℕ → Fraction
value pair failing p = importance_of (pair p.0 p.1) failing

-- those that pass are less important, or not more
abbrev Below : (ℕ → ℕ → Tally) → ℕ → ℕ × ℕ → ℕ × ℕ → Type 0
Below pair failing best p = PairPasses pair p → IsLess (value pair failing p) (value pair failing best)

abbrev AtMost : (ℕ → ℕ → Tally) → ℕ → ℕ × ℕ → ℕ × ℕ → Type 0
AtMost pair failing best p = PairPasses pair p → IsAtMost (value pair failing p) (value pair failing best)

-- ---- there is a leader, or none passes

abbrev LeaderOrNone : (ℕ → ℕ → Tally) → ℕ → List (ℕ × ℕ) → Type 0
LeaderOrNone pair failing pairs = ((best : ℕ × ℕ) × LeadsPairs pair failing pairs best) ⊎ NoPairPasses pair pairs

-- none of the pairs is more important than their leader
all-at-most : (pair : ℕ → ℕ → Tally) (failing : ℕ) (pairs : List (ℕ × ℕ)) (best : ℕ × ℕ) → LeadsPairs pair failing pairs best → All (AtMost pair failing best) pairs
all-at-most pair failing pairs best leads =
    subst (All (AtMost pair failing best)) (sym leads.stands)
    (All-append (AtMost pair failing best) leads.before (best ∷ leads.after)
    (All-weaker (Below pair failing best) (AtMost pair failing best) (λ p below passes. less-at-most (value pair failing p) (value pair failing best) (below passes)) leads.before leads.earlier)
    (All-cons (AtMost pair failing best) best leads.after (λ _. omega arith) leads.later))

first-leads : (pair : ℕ → ℕ → Tally) (failing : ℕ) (p : ℕ × ℕ) (more : List (ℕ × ℕ)) → PairPasses pair p → All (AtMost pair failing p) more → LeadsPairs pair failing (p ∷ more) p
first-leads pair failing p more passes all = record { before = []; after = more; stands = refl; passes = passes; earlier = All-nil (Below pair failing p); later = all }

later-leads : (pair : ℕ → ℕ → Tally) (failing : ℕ) (p best : ℕ × ℕ) (more : List (ℕ × ℕ)) → LeadsPairs pair failing more best → Below pair failing best p → LeadsPairs pair failing (p ∷ more) best
later-leads pair failing p best more leads below = record {
  before = p ∷ leads.before;
  after = leads.after;
  stands = ap (λ (xs : List (ℕ × ℕ)). p ∷ xs) leads.stands;
  passes = leads.passes;
  earlier = All-cons (Below pair failing best) p leads.before below leads.earlier;
  later = leads.later;
}

one-before : (pair : ℕ → ℕ → Tally) (failing : ℕ) (p : ℕ × ℕ) (more : List (ℕ × ℕ)) → PairPasses pair p ⊎ (PairPasses pair p → ⊥) → LeaderOrNone pair failing more → LeaderOrNone pair failing (p ∷ more)
one-before pair failing p more (inr not) (inr none) = inr (All-cons (λ (q : ℕ × ℕ). PairPasses pair q → ⊥) p more not none)
one-before pair failing p more (inr not) (inl led) = inl (led.0, later-leads pair failing p led.0 more led.1 (λ passes. absurd (not passes)))
one-before pair failing p more (inl passes) (inr none) =
    inl (p, first-leads pair failing p more passes (All-weaker (λ (q : ℕ × ℕ). PairPasses pair q → ⊥) (AtMost pair failing p) (λ q not h. absurd (not h)) more none))
one-before pair failing p more (inl passes) (inl led) =
    let here = value pair failing p in
    let best = value pair failing led.0 in
    elim (cases_lt (here.top * best.bottom) (best.top * here.bottom)) [
      | inl less ↦ inl (led.0, later-leads pair failing p led.0 more led.1 (λ _. less))
      | inr most ↦ inl (
        p,
        first-leads pair failing p more passes
            (All-weaker (AtMost pair failing led.0) (AtMost pair failing p) (λ q below h. at-most-trans (value pair failing q) best here (importance-positive (pair led.0.0 led.0.1) failing led.1.passes) (below h) most) more (all-at-most pair failing more led.0 led.1)),
      )
    ]

leader-or-none : (pair : ℕ → ℕ → Tally) (failing : ℕ) (pairs : List (ℕ × ℕ)) → LeaderOrNone pair failing pairs
leader-or-none pair failing [] = inr (All-nil (λ (q : ℕ × ℕ). PairPasses pair q → ⊥))
leader-or-none pair failing (p ∷ more) = one-before pair failing p more (passes-or (pair p.0 p.1)) (leader-or-none pair failing more)

-- ---- and it is one

tail-is : {X : Type 0} {x y : X} {xs ys : List X} → x ∷ xs ≡ y ∷ ys → xs ≡ ys
tail-is e = cc

head-is : {X : Type 0} {x y : X} {xs ys : List X} → x ∷ xs ≡ y ∷ ys → x ≡ y
head-is e = cc

-- of two leaders the one that stands first isn't less important, and is less important
not-later : (pair : ℕ → ℕ → Tally) (failing : ℕ) (a b : ℕ × ℕ) (after more rest : List (ℕ × ℕ)) → PairPasses pair a → PairPasses pair b → All (AtMost pair failing a) after → after ≡ more ++ b ∷ rest → Below pair failing b a → ⊥
not-later pair failing a b after more rest pass_a pass_b later stands below =
    not-both (value pair failing a) (value pair failing b) (below pass_a) (at_split (AtMost pair failing a) after more rest b stands later pass_b)

same-leader : (pair : ℕ → ℕ → Tally) (failing : ℕ) (a b : ℕ × ℕ) (xs ys after rest : List (ℕ × ℕ)) → xs ++ a ∷ after ≡ ys ++ b ∷ rest → PairPasses pair a → PairPasses pair b → All (Below pair failing a) xs → All (Below pair failing b) ys
    → All (AtMost pair failing a) after → All (AtMost pair failing b) rest → a ≡ b
same-leader pair failing a b [] [] after rest is pass_a pass_b in_a in_b later_a later_b = head-is is
same-leader pair failing a b [] (y ∷ ys) after rest is pass_a pass_b in_a in_b later_a later_b =
    absurd (not-later pair failing a b after ys rest pass_a pass_b later_a (tail-is is) (subst (Below pair failing b) (sym (head-is is)) (All-head (Below pair failing b) y ys in_b)))
same-leader pair failing a b (x ∷ xs) [] after rest is pass_a pass_b in_a in_b later_a later_b =
    absurd (not-later pair failing b a rest xs after pass_b pass_a later_b (sym (tail-is is)) (subst (Below pair failing a) (head-is is) (All-head (Below pair failing a) x xs in_a)))
same-leader pair failing a b (x ∷ xs) (y ∷ ys) after rest is pass_a pass_b in_a in_b later_a later_b =
    same-leader pair failing a b xs ys after rest (tail-is is) pass_a pass_b (All-tail (Below pair failing a) x xs in_a) (All-tail (Below pair failing b) y ys in_b) later_a later_b

chosen-is : (a b : Chosen) → a.left ≡ b.left → a.right ≡ b.right → a.tally ≡ b.tally → a.failing ≡ b.failing → a ≡ b
chosen-is a b left right tally failing =
    let make : ℕ → ℕ → Tally → ℕ → Chosen = λ l r t f. record { left = l; right = r; tally = t; failing = f } in
    ap (λ l. make l a.right a.tally a.failing) left ∙ ap (λ r. make b.left r a.tally a.failing) right ∙ ap (λ (t : Tally). make b.left b.right t a.failing) tally ∙ ap (λ f. make b.left b.right b.tally f) failing

one-chosen : (pair : ℕ → ℕ → Tally) (failing : ℕ) (pairs : List (ℕ × ℕ)) (a b : Chosen) → IsChosen pair failing pairs a → IsChosen pair failing pairs b → a ≡ b
one-chosen pair failing pairs a b x y =
    let one = x.leads in
    let other = y.leads in
    let same = same-leader pair failing (a.left, a.right) (b.left, b.right) one.before other.before one.after other.after (sym one.stands ∙ other.stands) one.passes other.passes one.earlier other.earlier one.later other.later in
    let left : a.left ≡ b.left = ap (λ (p : ℕ × ℕ). p.0) same in
    let right : a.right ≡ b.right = ap (λ (p : ℕ × ℕ). p.1) same in
    chosen-is a b left right (x.tally ∙ ap (λ l. pair l a.right) left ∙ ap (pair b.left) right ∙ sym y.tally) (x.failing_is ∙ sym y.failing_is)

abbrev IsBestOf : (ℕ → ℕ → Tally) → ℕ → List (ℕ × ℕ) → Option Chosen → Type 0
IsBestOf pair failing pairs best = MatchOption best (NoPairPasses pair pairs) (IsChosen pair failing pairs)

not-none : (pair : ℕ → ℕ → Tally) (failing : ℕ) (pairs : List (ℕ × ℕ)) (c : Chosen) → NoPairPasses pair pairs → IsChosen pair failing pairs c → ⊥
not-none pair failing pairs c none is =
    at_split (λ (p : ℕ × ℕ). PairPasses pair p → ⊥) pairs is.leads.before is.leads.after (c.left, c.right) is.leads.stands none is.leads.passes

same-best : (pair : ℕ → ℕ → Tally) (failing : ℕ) (pairs : List (ℕ × ℕ)) (a b : Option Chosen) → IsBestOf pair failing pairs a → IsBestOf pair failing pairs b → a ≡ b
same-best pair failing pairs None None x y = refl
same-best pair failing pairs None (Some b) x y = absurd (not-none pair failing pairs b x y)
same-best pair failing pairs (Some a) None x y = absurd (not-none pair failing pairs a y x)
same-best pair failing pairs (Some a) (Some b) x y = ap Some (one-chosen pair failing pairs a b x y)

one-best : (pair : ℕ → ℕ → Tally) (failing : ℕ) (pairs : List (ℕ × ℕ)) → ThereIsOne (IsBestOf pair failing pairs)
one-best pair failing pairs =
    elim (leader-or-none pair failing pairs) [
      | inr none ↦ record { one = None; is = none; only = λ other is. same-best pair failing pairs other None is none }
      | inl led ↦
          let c : Chosen = record { left = led.0.0; right = led.0.1; tally = pair led.0.0 led.0.1; failing = failing } in
          let is : IsChosen pair failing pairs c = record { leads = led.1; tally = refl; failing_is = refl } in
          record { one = Some c; is = is; only = λ other are. same-best pair failing pairs other (Some c) are is }
    ]

-- ---- what is found

result-is : (a b : PairResult) → a.pairs ≡ b.pairs → a.counted ≡ b.counted → a.skipped ≡ b.skipped → a.best ≡ b.best → a ≡ b
result-is a b pairs counted skipped best =
    let make : ℕ → ℕ → ℕ → Option Chosen → PairResult = λ p c s o. record { pairs = p; counted = c; skipped = s; best = o } in
    ap (λ p. make p a.counted a.skipped a.best) pairs ∙ ap (λ c. make b.pairs c a.skipped a.best) counted ∙ ap (λ s. make b.pairs b.counted s a.best) skipped ∙ ap (λ (o : Option Chosen). make b.pairs b.counted b.skipped o) best

one-scan : (one : ℕ → Tally) (pair : ℕ → ℕ → Tally) (failing : ℕ) (pairs : List (ℕ × ℕ)) → ThereIsOne (ArePairsScanned one pair failing pairs)
one-scan one pair failing pairs =
    let skips = one-skip-list one pair failing pairs in
    let best = one-best pair failing pairs in
    let found : PairResult = record { pairs = length pairs; counted = count_by not skips.one; skipped = count_by (λ skip. skip) skips.one; best = best.one } in record {
      one = found;
      is = record { skips = skips.one; are_skips = skips.is; as_many = refl; counted = refl; skipped = refl; best = best.is };
      only = λ other is.
          let same = skips.only is.skips is.are_skips in
          result-is other found is.as_many (is.counted ∙ ap (count_by not) same) (is.skipped ∙ ap (count_by (λ skip. skip)) same) (best.only other.best is.best);
    }

one-found : (one : ℕ → Tally) (count : ℕ) (pair : ℕ → ℕ → Tally) (failing : ℕ) → ThereIsOne (IsFoundBy one count pair failing)
one-found one count pair failing =
    let candidates = one-candidate-list one count failing in
    let scan = one-scan one pair failing (pairs_of candidates.one) in record {
      one = scan.one;
      is = record { candidates = candidates.one; are_candidates = candidates.is; are_scanned = scan.is };
      only = λ other is. scan.only other (subst (λ (xs : List ℕ). ArePairsScanned one pair failing (pairs_of xs) other) (candidates.only is.candidates is.are_candidates) is.are_scanned);
    }

pub runs_have_one_found : RunsHaveOneFound
runs_have_one_found branches runs = one-found (recount branches runs) (predicates_in branches) (pair_recount branches runs) (failing_runs runs)

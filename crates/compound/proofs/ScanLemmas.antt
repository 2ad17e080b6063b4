-- The scan of the pairs, one pair on.
use Rattle.std.proofs.Common.{◌≡◌, ℕ, ◌+◌, ◌*◌, ◌<◌, inl, inr, Bool, true, false, not, cond, List, [], ◌∷◌, ◌++◌, length, get_or, Option, None, Some, refl, sym, ap, subst, ◌∙◌, append_assoc, arith}
use Rattle.std.specs.Prelude.{◌↔◌, All, IsTrue, MatchOption, IfSome}
use Rattle.std.proofs.lemmas.Bool.{cases_lt, false≢true, ltb-false, ltb-true}
use Rattle.std.proofs.lemmas.List.{get_or_append_left, get_or_at, get_or_push, length-append, length_push, take-append-le, take_at}
use Rattle.std.proofs.lemmas.List.Elements.{All-append, All-cons, All-nil, All-push, All-weaker}
use Rattle.std.proofs.lemmas.List.Sums.{sum_by_push}
use Rattle.elimination_tallies.proofs.ScanLemmas.{at-most-refl}
use Rattle.fractions.specs.declared.fraction.Fraction.{Fraction}
use Rattle.fractions.specs.declared.tally.Tally.{Tally}
use Rattle.fractions.specs.Fraction.{IsAtMost, IsFraction}
use Rattle.fractions.specs.Tally.{Passes, importance_of}
use Rattle.compound.specs.declared.chosen.Chosen.{Chosen}
use Rattle.compound.specs.declared.scanning.Best.{Best}
use Rattle.compound.specs.declared.scanning.Scan.{Scan}
use Rattle.compound.specs.Best.{AreSkips, IsSkipped, LeadsPairs, NoPairPasses, PairPasses}
use Rattle.compound.specs.Bound.{IsLess, bound_of}
use Rattle.compound.specs.Listing.{IsRating, is_less}
use Rattle.compound.specs.Scanning.{IsBest, IsScan}
use Rattle.compound.specs.Steps.{IsWeight, IsWeighed, better_pair, is_passed_over}
use Rattle.compound.proofs.OrderLemmas.{at-most-less, at-most-trans, importance-positive, less-at-most, not-both}

-- the importance of a pair
abbrev importance_at : (ℕ → ℕ → Tally) → ℕ → ℕ × ℕ → Fraction
importance_at pair failing p = importance_of (pair p.0 p.1) failing

-- the best so far
abbrev pub BestOf : (ℕ → ℕ → Tally) → ℕ → List (ℕ × ℕ) → Option Best → Type 0
BestOf pair failing done best = MatchOption best (NoPairPasses pair done) (IsBest pair failing done)

-- ---- the leader, one pair on

leads-on : (pair : ℕ → ℕ → Tally) (failing : ℕ) (done : List (ℕ × ℕ)) (best p : ℕ × ℕ) → LeadsPairs pair failing done best
    → (PairPasses pair p → IsAtMost (importance_at pair failing p) (importance_at pair failing best)) → LeadsPairs pair failing (done ++ p ∷ []) best
leads-on pair failing done best p leads here = record {
  before = leads.before;
  after = leads.after ++ p ∷ [];
  stands = ap (λ xs. xs ++ p ∷ []) leads.stands ∙ append_assoc leads.before (best ∷ leads.after) (p ∷ []);
  passes = leads.passes;
  earlier = leads.earlier;
  later = All-push (λ (q : ℕ × ℕ). PairPasses pair q → IsAtMost (importance_at pair failing q) (importance_at pair failing best)) leads.after p leads.later here;
}

leads-first : (pair : ℕ → ℕ → Tally) (failing : ℕ) (done : List (ℕ × ℕ)) (p : ℕ × ℕ) → NoPairPasses pair done → PairPasses pair p → LeadsPairs pair failing (done ++ p ∷ []) p
leads-first pair failing done p none passes = record {
  before = done;
  after = [];
  stands = refl;
  passes = passes;
  earlier = All-weaker (λ (q : ℕ × ℕ). PairPasses pair q → ⊥) (λ (q : ℕ × ℕ). PairPasses pair q → IsLess (importance_at pair failing q) (importance_at pair failing p)) (λ q not h. absurd (not h)) done none;
  later = All-nil (λ (q : ℕ × ℕ). PairPasses pair q → IsAtMost (importance_at pair failing q) (importance_at pair failing p));
}

-- none that passes is more important than the leader
leads-all : (pair : ℕ → ℕ → Tally) (failing : ℕ) (done : List (ℕ × ℕ)) (best : ℕ × ℕ) → LeadsPairs pair failing done best
    → All (λ (q : ℕ × ℕ). PairPasses pair q → IsAtMost (importance_at pair failing q) (importance_at pair failing best)) done
leads-all pair failing done best leads =
    let P : ℕ × ℕ → Type 0 = λ (q : ℕ × ℕ). PairPasses pair q → IsAtMost (importance_at pair failing q) (importance_at pair failing best) in
    subst (All P) (sym leads.stands)
    (All-append P leads.before (best ∷ leads.after)
    (All-weaker (λ (q : ℕ × ℕ). PairPasses pair q → IsLess (importance_at pair failing q) (importance_at pair failing best)) P
    (λ q less h. less-at-most (importance_at pair failing q) (importance_at pair failing best) (less h)) leads.before leads.earlier)
    (All-cons P best leads.after (λ _. at-most-refl (importance_at pair failing best)) leads.later))

leads-instead : (pair : ℕ → ℕ → Tally) (failing : ℕ) (done : List (ℕ × ℕ)) (best p : ℕ × ℕ) → LeadsPairs pair failing done best → PairPasses pair p
    → IsLess (importance_at pair failing best) (importance_at pair failing p) → LeadsPairs pair failing (done ++ p ∷ []) p
leads-instead pair failing done best p leads passes less = record {
  before = done;
  after = [];
  stands = refl;
  passes = passes;
  earlier = All-weaker (λ (q : ℕ × ℕ). PairPasses pair q → IsAtMost (importance_at pair failing q) (importance_at pair failing best)) (λ (q : ℕ × ℕ). PairPasses pair q → IsLess (importance_at pair failing q) (importance_at pair failing p))
      (λ q most h. at-most-less (importance_at pair failing q) (importance_at pair failing best) (importance_at pair failing p) (importance-positive (pair q.0 q.1) failing h) (most h) less) done (leads-all pair failing done best leads);
  later = All-nil (λ (q : ℕ × ℕ). PairPasses pair q → IsAtMost (importance_at pair failing q) (importance_at pair failing p));
}

-- ---- which pairs are skipped

skip-same : (one : ℕ → Tally) (pair : ℕ → ℕ → Tally) (failing : ℕ) {b c : Bool} {xs ys : List (ℕ × ℕ)} {q r : ℕ × ℕ} → b ≡ c → xs ≡ ys → q ≡ r
    → IsTrue b ↔ IsSkipped one pair failing xs q → IsTrue c ↔ IsSkipped one pair failing ys r
skip-same one pair failing {b} {c} {xs} {ys} {q} {r} flag list last h =
    subst (λ (x : Bool). IsTrue x ↔ IsSkipped one pair failing ys r) flag
    (subst (λ (zs : List (ℕ × ℕ)). IsTrue b ↔ IsSkipped one pair failing zs r) list (subst (λ (s : ℕ × ℕ). IsTrue b ↔ IsSkipped one pair failing xs s) last h))

skips-push : (one : ℕ → Tally) (pair : ℕ → ℕ → Tally) (failing : ℕ) (done : List (ℕ × ℕ)) (skips : List Bool) (p : ℕ × ℕ) (skip : Bool) → AreSkips one pair failing done skips
    → IsTrue skip ↔ IsSkipped one pair failing done p → AreSkips one pair failing (done ++ p ∷ []) (skips ++ skip ∷ [])
skips-push one pair failing done skips p skip are here = record {
  as_many = length_push skips skip ∙ ap (λ n. n + 1) are.as_many ∙ sym (length_push done p);
  each = λ k inside. elim (cases_lt k (length done)) [
    | inl less ↦
        skip-same one pair failing (sym (get_or_append_left skips (skip ∷ []) false k (omega (arith, less, are.as_many)))) (sym (take-append-le k done (p ∷ []) (omega (arith, less)))) (sym (get_or_append_left done (p ∷ []) (0, 0) k less)) (are.each k less)
    | inr last ↦
        let this : length done ≡ k = omega (arith, last, inside, length_push done p) in
        skip-same one pair failing (sym (get_or_push skips skip false k (are.as_many ∙ this))) (sym (take_at done (p ∷ []) k this)) (sym (get_or_push done p (0, 0) k this)) here
  ];
}

passed-over : (one : ℕ → Tally) (pair : ℕ → ℕ → Tally) (failing : ℕ) (done : List (ℕ × ℕ)) (best : Option Best) (p : ℕ × ℕ) (bound : Fraction) → bound ≡ bound_of (one p.0).a (one p.1).a failing
    → is_passed_over best bound ≡ true → BestOf pair failing done best → IsSkipped one pair failing done p
passed-over one pair failing done None p bound bound_is is so_far = absurd (false≢true is)
passed-over one pair failing done (Some b) p bound bound_is is so_far =
    let best : ℕ × ℕ = (b.chosen.left, b.chosen.right) in
    let leads = so_far.leads in
    let plain : IsLess bound b.importance = ltb-true (bound.top * b.importance.bottom) (b.importance.top * bound.bottom) is in
    let less : IsLess (bound_of (one p.0).a (one p.1).a failing) (importance_at pair failing best) =
    subst (λ (x : Fraction). IsLess x (importance_at pair failing best)) bound_is (subst (λ (x : Fraction). IsLess bound x) so_far.importance plain) in
    let there : get_or done (length leads.before) best ≡ best = ap (λ xs. get_or xs (length leads.before) best) leads.stands ∙ get_or_at leads.before best leads.after best (length leads.before) refl in
    (length leads.before, best, omega (arith, ap length leads.stands, length-append leads.before (best ∷ leads.after)), there, record { passes = leads.passes; less = less })

not-passed-over : (one : ℕ → Tally) (pair : ℕ → ℕ → Tally) (failing : ℕ) (done : List (ℕ × ℕ)) (best : Option Best) (p : ℕ × ℕ) (bound : Fraction) → bound ≡ bound_of (one p.0).a (one p.1).a failing
    → is_passed_over best bound ≡ false → BestOf pair failing done best → IsSkipped one pair failing done p → ⊥
not-passed-over one pair failing done None p bound bound_is is none skipped =
    none skipped.0 skipped.1 skipped.2 (subst (PairPasses pair) (sym skipped.3) skipped.4.passes)
not-passed-over one pair failing done (Some b) p bound bound_is is so_far skipped =
    let best : ℕ × ℕ = (b.chosen.left, b.chosen.right) in
    let other = skipped.1 in
    let plain : IsAtMost b.importance bound = ltb-false (bound.top * b.importance.bottom) (b.importance.top * bound.bottom) is in
    let most : IsAtMost (importance_at pair failing best) (bound_of (one p.0).a (one p.1).a failing) =
    subst (λ (x : Fraction). IsAtMost (importance_at pair failing best) x) bound_is (subst (λ (x : Fraction). IsAtMost x bound) so_far.importance plain) in
    let first : IsAtMost (importance_at pair failing other) (importance_at pair failing best) =
    subst (λ (q : ℕ × ℕ). PairPasses pair q → IsAtMost (importance_at pair failing q) (importance_at pair failing best)) skipped.3 (leads-all pair failing done best so_far.leads skipped.0 other skipped.2) skipped.4.passes in
    not-both (bound_of (one p.0).a (one p.1).a failing) (importance_at pair failing other) skipped.4.less
    (at-most-trans (importance_at pair failing other) (importance_at pair failing best) (bound_of (one p.0).a (one p.1).a failing) (importance-positive (pair best.0 best.1) failing so_far.leads.passes) first most)

-- ---- the best, one pair on

best-skipped : (pair : ℕ → ℕ → Tally) (failing : ℕ) (done : List (ℕ × ℕ)) (best : Option Best) (p : ℕ × ℕ) (bound : Fraction) → 0 < bound.bottom
    → (PairPasses pair p → IsAtMost (importance_at pair failing p) bound) → is_passed_over best bound ≡ true → BestOf pair failing done best → BestOf pair failing (done ++ p ∷ []) best
best-skipped pair failing done None p bound positive bounded is so_far = absurd (false≢true is)
best-skipped pair failing done (Some b) p bound positive bounded is so_far =
    let best : ℕ × ℕ = (b.chosen.left, b.chosen.right) in
    let plain : IsLess bound b.importance = ltb-true (bound.top * b.importance.bottom) (b.importance.top * bound.bottom) is in
    let most : IsAtMost bound (importance_at pair failing best) = less-at-most bound (importance_at pair failing best) (subst (λ (x : Fraction). IsLess bound x) so_far.importance plain) in record {
      leads = leads-on pair failing done best p so_far.leads (λ h. at-most-trans (importance_at pair failing p) bound (importance_at pair failing best) positive (bounded h) most);
      tally = so_far.tally;
      failing_is = so_far.failing_is;
      importance = so_far.importance;
      fraction = so_far.fraction;
    }

best-stays : (pair : ℕ → ℕ → Tally) (failing : ℕ) (done : List (ℕ × ℕ)) (best : Option Best) (p : ℕ × ℕ) → (PairPasses pair p → ⊥) → BestOf pair failing done best → BestOf pair failing (done ++ p ∷ []) best
best-stays pair failing done None p not so_far = All-push (λ (q : ℕ × ℕ). PairPasses pair q → ⊥) done p so_far not
best-stays pair failing done (Some b) p not so_far = record {
  leads = leads-on pair failing done (b.chosen.left, b.chosen.right) p so_far.leads (λ h. absurd (not h));
  tally = so_far.tally;
  failing_is = so_far.failing_is;
  importance = so_far.importance;
  fraction = so_far.fraction;
}

-- a weighed pair as the best
best-is : (pair : ℕ → ℕ → Tally) (failing : ℕ) (done : List (ℕ × ℕ)) (left right : ℕ) (n : Best) → n.chosen ≡ record { left = left; right = right; tally = pair left right; failing = failing }
    → IsRating (pair left right) failing n.importance → LeadsPairs pair failing (done ++ (left, right) ∷ []) (left, right) → IsBest pair failing (done ++ (left, right) ∷ []) n
best-is pair failing done left right n is rating leads =
    let l : n.chosen.left ≡ left = ap (λ (c : Chosen). c.left) is in
    let r : n.chosen.right ≡ right = ap (λ (c : Chosen). c.right) is in
    let both : pair n.chosen.left n.chosen.right ≡ pair left right = ap (λ x. pair x n.chosen.right) l ∙ ap (pair left) r in record {
      leads = subst (λ x. LeadsPairs pair failing (done ++ (left, right) ∷ []) (x, n.chosen.right)) (sym l) (subst (λ x. LeadsPairs pair failing (done ++ (left, right) ∷ []) (left, x)) (sym r) leads);
      tally = ap (λ (c : Chosen). c.tally) is ∙ sym both;
      failing_is = ap (λ (c : Chosen). c.failing) is;
      importance = rating.is ∙ ap (λ (t : Tally). importance_of t failing) (sym both);
      fraction = rating.fraction;
    }

best-picked : (pair : ℕ → ℕ → Tally) (failing : ℕ) (done : List (ℕ × ℕ)) (left right : ℕ) (b n : Best) (t : Bool) → is_less b.importance n.importance ≡ t
    → n.chosen ≡ record { left = left; right = right; tally = pair left right; failing = failing } → IsRating (pair left right) failing n.importance
    → IsBest pair failing done b → BestOf pair failing (done ++ (left, right) ∷ []) (cond t (Some n) (Some b))
best-picked pair failing done left right b n true is made rating so_far =
    let best : ℕ × ℕ = (b.chosen.left, b.chosen.right) in
    let plain : IsLess b.importance n.importance = ltb-true (b.importance.top * n.importance.bottom) (n.importance.top * b.importance.bottom) is in
    let less : IsLess (importance_at pair failing best) (importance_at pair failing (left, right)) =
    subst (λ (x : Fraction). IsLess x (importance_at pair failing (left, right))) so_far.importance (subst (λ (x : Fraction). IsLess b.importance x) rating.is plain) in
    best-is pair failing done left right n made rating (leads-instead pair failing done best (left, right) so_far.leads rating.passes less)
best-picked pair failing done left right b n false is made rating so_far =
    let best : ℕ × ℕ = (b.chosen.left, b.chosen.right) in
    let plain : IsAtMost n.importance b.importance = ltb-false (b.importance.top * n.importance.bottom) (n.importance.top * b.importance.bottom) is in
    let most : IsAtMost (importance_at pair failing (left, right)) (importance_at pair failing best) =
    subst (λ (x : Fraction). IsAtMost x (importance_at pair failing best)) rating.is (subst (λ (x : Fraction). IsAtMost n.importance x) so_far.importance plain) in record {
      leads = leads-on pair failing done best (left, right) so_far.leads (λ _. most);
      tally = so_far.tally;
      failing_is = so_far.failing_is;
      importance = so_far.importance;
      fraction = so_far.fraction;
    }

rating-is : {left right failing : ℕ} {tally : Tally} (chosen : Chosen) (n : Best) → chosen ≡ record { left = left; right = right; tally = tally; failing = failing } → IsWeight chosen n → IsRating tally failing n.importance
rating-is {left} {right} {failing} {tally} chosen n is weight = subst (λ (c : Chosen). IsRating c.tally c.failing n.importance) is weight.rating

best-counted : (pair : ℕ → ℕ → Tally) (failing : ℕ) (done : List (ℕ × ℕ)) (left right : ℕ) (chosen : Chosen) (best next : Option Best) → chosen ≡ record { left = left; right = right; tally = pair left right; failing = failing }
    → IsWeighed chosen next → BestOf pair failing done best → BestOf pair failing (done ++ (left, right) ∷ []) (better_pair best next)
best-counted pair failing done left right chosen None None is weighed so_far =
    best-stays pair failing done None (left, right) (λ h. weighed (subst Passes (sym (ap (λ (c : Chosen). c.tally) is)) h)) so_far
best-counted pair failing done left right chosen (Some b) None is weighed so_far =
    best-stays pair failing done (Some b) (left, right) (λ h. weighed (subst Passes (sym (ap (λ (c : Chosen). c.tally) is)) h)) so_far
best-counted pair failing done left right chosen None (Some n) is weighed none =
    let rating = rating-is chosen n is weighed in
    best-is pair failing done left right n (weighed.chosen_is ∙ is) rating (leads-first pair failing done (left, right) none rating.passes)
best-counted pair failing done left right chosen (Some b) (Some n) is weighed so_far =
    best-picked pair failing done left right b n (is_less b.importance n.importance) refl (weighed.chosen_is ∙ is) (rating-is chosen n is weighed) so_far

pub weighed-fraction : (chosen : Chosen) (next : Option Best) → IsWeighed chosen next → IfSome next (λ (b : Best). IsFraction b.importance)
weighed-fraction chosen None none = tt
weighed-fraction chosen (Some n) weight = weight.rating.fraction

-- ---- the scan, one pair on

pub scan-skip : (one : ℕ → Tally) (pair : ℕ → ℕ → Tally) (failing : ℕ) (done : List (ℕ × ℕ)) (scan new : Scan) (p : ℕ × ℕ) (bound : Fraction) → bound ≡ bound_of (one p.0).a (one p.1).a failing → 0 < bound.bottom
    → (PairPasses pair p → IsAtMost (importance_at pair failing p) bound) → is_passed_over scan.best bound ≡ true
    → new.counted ≡ scan.counted → new.skipped ≡ scan.skipped + 1 → new.best ≡ scan.best → IsScan one pair failing done scan → IsScan one pair failing (done ++ p ∷ []) new
scan-skip one pair failing done scan new p bound bound_is positive bounded is counted skipped best so_far =
    let skip = passed-over one pair failing done scan.best p bound bound_is is so_far.best in record {
      skips = so_far.skips ++ true ∷ [];
      are_skips = skips-push one pair failing done so_far.skips p true so_far.are_skips ((λ _. skip), (λ _. refl));
      counted = omega (arith, counted, so_far.counted, sum_by_push (λ (b : Bool). cond (not b) 1 0) so_far.skips true);
      skipped = omega (arith, skipped, so_far.skipped, sum_by_push (λ (b : Bool). cond b 1 0) so_far.skips true);
      best = subst (BestOf pair failing (done ++ p ∷ [])) (sym best) (best-skipped pair failing done scan.best p bound positive bounded is so_far.best);
    }

pub scan-count : (one : ℕ → Tally) (pair : ℕ → ℕ → Tally) (failing : ℕ) (done : List (ℕ × ℕ)) (scan new : Scan) (left right : ℕ) (chosen : Chosen) (next : Option Best) (bound : Fraction)
    → bound ≡ bound_of (one left).a (one right).a failing → is_passed_over scan.best bound ≡ false → chosen ≡ record { left = left; right = right; tally = pair left right; failing = failing } → IsWeighed chosen next
    → new.counted ≡ scan.counted + 1 → new.skipped ≡ scan.skipped → new.best ≡ better_pair scan.best next → IsScan one pair failing done scan → IsScan one pair failing (done ++ (left, right) ∷ []) new
scan-count one pair failing done scan new left right chosen next bound bound_is is made weighed counted skipped best so_far =
    let not_skipped = not-passed-over one pair failing done scan.best (left, right) bound bound_is is so_far.best in record {
      skips = so_far.skips ++ false ∷ [];
      are_skips = skips-push one pair failing done so_far.skips (left, right) false so_far.are_skips ((λ h. absurd (false≢true h)), (λ h. absurd (not_skipped h)));
      counted = omega (arith, counted, so_far.counted, sum_by_push (λ (b : Bool). cond (not b) 1 0) so_far.skips false);
      skipped = omega (arith, skipped, so_far.skipped, sum_by_push (λ (b : Bool). cond b 1 0) so_far.skips false);
      best = subst (BestOf pair failing (done ++ (left, right) ∷ [])) (sym best) (best-counted pair failing done left right chosen scan.best next made weighed so_far.best);
    }

-- What is held after bundles are taken is the map of their reports.
use Rattle.std.specs.Prelude.{nat_lt, is_err}
use Rattle.std.specs.Option.{unwrap_or}
use Rattle.std.proofs.Common.{◌≡◌, ◌⊎◌, ◌↔◌, inl, inr, ⊎_elim, ℕ, suc, ◌≤◌, Bool, true, false, cond, ◌==◌, List, [], ◌∷◌, ◌++◌, length, Ok, Err, Option, Some, None, is_some, refl, ap, sym, subst, ◌∙◌, arith}
use Rattle.std.proofs.lemmas.Bool.{false≢true, eq-eqb}
use Rattle.collector.proofs.Taking.{either}
use Rattle.report_file.specs.declared.report.Report.{Report}
use Rattle.collector.specs.declared.answers.Added.TheVariants.{New, Repeated}
use Rattle.collector.specs.declared.answers.Merged.{Merged}
use Rattle.collector.specs.declared.collection.Bundle.{Bundle}
use Rattle.collector.specs.declared.collection.Held.{Held}
use Rattle.collector.specs.Collected.{report_at, with_report}
use Rattle.collector.specs.Merging.{AddsAll, Merges, OfAnother, OfThis}
use Rattle.collector.specs.Order.{AreAlike, IsOneOfReports, map_of}
use Rattle.collector.proofs.Ordering.{map-members, map-same}
use Rattle.command_collect.specs.Collect.{TakesAll, reports_in}

-- the collection is this one with the map of some reports, each run of which has one; they are those of which P holds
record Holds (begun c : Held) (P : Report → Type 0) : Type 0 where
  pub reports : List Report
  pub held_is : c ≡ record begun { reports = map_of reports }
  pub alike : AreAlike reports
  pub are : (r : Report) → IsOneOfReports r reports ↔ P r

holds-as : (begun c : Held) (P Q : Report → Type 0) → Holds begun c P → ((r : Report) → P r → Q r) → ((r : Report) → Q r → P r) → Holds begun c Q
holds-as begun c P Q h to from = record {
  reports = h.reports;
  held_is = h.held_is;
  alike = h.alike;
  are = λ r. (λ is. to r ((h.are r).0 is), λ q. (h.are r).1 (from r q));
}

-- a member of a list is found, if it isn't another one of its run
found-by : (b : Bool) (x : Report) (rest : Option Report) → is_some rest ≡ true → is_some (cond b (Some x) rest) ≡ true
found-by true x rest h = refl
found-by false x rest h = h

same-found : (b : Bool) (x : Report) (rest : Option Report) → b ≡ true → is_some (cond b (Some x) rest) ≡ true
same-found true x rest h = refl
same-found false x rest h = absurd (false≢true h)

found : (r : Report) (reports : List Report) → IsOneOfReports r reports → is_some (report_at r.run reports) ≡ true
found r [] is = absurd is
found r (x ∷ more) (inl same) = same-found (r.run == x.run) x (report_at r.run more) (eq-eqb r.run x.run (ap (λ (y : Report). y.run) same))
found r (x ∷ more) (inr is) = found-by (r.run == x.run) x (report_at r.run more) (found r more is)

-- one that is found is a member
member-by : (b : Bool) (r x : Report) (more : List Report) → cond b (Some x) (report_at r.run more) ≡ Some r → (report_at r.run more ≡ Some r → IsOneOfReports r more) → (r ≡ x) ⊎ IsOneOfReports r more
member-by true r x more h go = inl (ap (λ o. unwrap_or o r) (sym h))
member-by false r x more h go = inr (go h)

member : (r : Report) (reports : List Report) → report_at r.run reports ≡ Some r → IsOneOfReports r reports
member r [] h = absurd (false≢true (ap is_some h))
member r (x ∷ more) h = member-by (r.run == x.run) r x more h (member r more)

-- a report of a run that isn't held is like none before it
absent : (r : Report) (reports : List Report) (x : Report) → AreAlike reports → report_at r.run (map_of reports) ≡ None → IsOneOfReports x reports → x.run ≡ r.run → ⊥
absent r reports x alike none is run =
    false≢true (sym (ap is_some (subst (λ k. report_at k (map_of reports) ≡ None) (sym run) none)) ∙ found x (map_of reports) ((map-members reports alike x).1 is))

alike-with : (r : Report) (reports : List Report) → AreAlike reports → report_at r.run (map_of reports) ≡ None → AreAlike (r ∷ reports)
alike-with r reports alike none a b (inl p) (inl q) same = p ∙ sym q
alike-with r reports alike none a b (inr p) (inr q) same = alike a b p q same
alike-with r reports alike none a b (inl p) (inr q) same =
    absurd (absent r reports b alike none q (sym same ∙ ap (λ (y : Report). y.run) p))
alike-with r reports alike none a b (inr p) (inl q) same =
    absurd (absent r reports a alike none p (same ∙ ap (λ (y : Report). y.run) q))

-- one more report
holds-new : (begun c next : Held) (r : Report) (P : Report → Type 0) → Holds begun c P → report_at r.run c.reports ≡ None → next ≡ record c { reports = with_report r c.reports }
    → Holds begun next (λ x. P x ⊎ (x ≡ r))
holds-new begun c next r P h none next_is = record {
  reports = r ∷ h.reports;
  held_is = next_is ∙ ap (λ (d : Held). record d { reports = with_report r d.reports }) h.held_is;
  alike = alike-with r h.reports h.alike (ap (λ (d : Held). report_at r.run d.reports) (sym h.held_is) ∙ none);
  are = λ x. (λ is. ⊎_elim (λ p. inr p) (λ q. inl ((h.are x).0 q)) is, λ is. ⊎_elim (λ p. inr ((h.are x).1 p)) (λ q. inl q) is);
}

-- one that is held already
holds-again : (begun c next : Held) (r : Report) (P : Report → Type 0) → Holds begun c P → report_at r.run c.reports ≡ Some r → next ≡ c → Holds begun next (λ x. P x ⊎ (x ≡ r))
holds-again begun c next r P h some next_is = subst (λ d. Holds begun d (λ x. P x ⊎ (x ≡ r))) (sym next_is)
    (holds-as begun c P (λ x. P x ⊎ (x ≡ r)) h (λ x p. inl p) (λ x q. ⊎_elim (λ p. p) (λ same. subst P (sym same) is) q))
  where
    is : P r
    is = (h.are r).0 ((map-members h.reports h.alike r).0 (member r (map_of h.reports) (ap (λ (d : Held). report_at r.run d.reports) (sym h.held_is) ∙ some)))

to-right : {A B C : Type 0} → (A ⊎ B) ⊎ C → A ⊎ (B ⊎ C)
to-right (inl (inl a)) = inl a
to-right (inl (inr b)) = inr (inl b)
to-right (inr c) = inr (inr c)

to-left : {A B C : Type 0} → A ⊎ (B ⊎ C) → (A ⊎ B) ⊎ C
to-left (inl a) = inl (inl a)
to-left (inr (inl b)) = inl (inr b)
to-left (inr (inr c)) = inr c

-- all of a list
holds-all : (begun c after : Held) (reports : List Report) (a p : ℕ) (m : Merged) (P : Report → Type 0) → Holds begun c P → AddsAll c reports a p (Ok m) after → Holds begun after (λ x. P x ⊎ IsOneOfReports x reports)
holds-all begun c after [] a p m P h adds =
    subst (λ d. Holds begun d (λ x. P x ⊎ ⊥)) (sym adds.1) (holds-as begun c P (λ x. P x ⊎ ⊥) h (λ x q. inl q) (λ x q. ⊎_elim (λ y. y) (λ no. absurd no) q))
holds-all begun c after (r ∷ more) a p m P h (Err f, next, adds, rest) = absurd (false≢true (ap is_err rest.0))
holds-all begun c after (r ∷ more) a p m P h (Ok New, next, adds, rest) =
    holds-as begun after (λ x. (P x ⊎ (x ≡ r)) ⊎ IsOneOfReports x more) (λ x. P x ⊎ IsOneOfReports x (r ∷ more))
    (holds-all begun next after more _ _ m (λ x. P x ⊎ (x ≡ r)) (holds-new begun c next r P h adds.1 adds.4) rest) (λ x q. to-right q) (λ x q. to-left q)
holds-all begun c after (r ∷ more) a p m P h (Ok Repeated, next, adds, rest) =
    holds-as begun after (λ x. (P x ⊎ (x ≡ r)) ⊎ IsOneOfReports x more) (λ x. P x ⊎ IsOneOfReports x (r ∷ more))
    (holds-all begun next after more _ _ m (λ x. P x ⊎ (x ≡ r)) (holds-again begun c next r P h adds.1 adds.2) rest) (λ x q. to-right q) (λ x q. to-left q)

-- a bundle that is taken
holds-bundle : (begun c after : Held) (bundle : Bundle) (m : Merged) (P : Report → Type 0) → Holds begun c P → Merges c bundle (Ok m) after → Holds begun after (λ x. P x ⊎ IsOneOfReports x bundle.reports)
holds-bundle begun c after bundle m P h (OfAnother f) = absurd (false≢true (ap is_err f.result_is))
holds-bundle begun c after bundle m P h (OfThis of adds) = holds-all begun c after bundle.reports 0 0 m P h adds

member-of-both : (r : Report) (xs ys : List Report) → IsOneOfReports r xs ⊎ IsOneOfReports r ys → IsOneOfReports r (xs ++ ys)
member-of-both r [] ys (inl is) = absurd is
member-of-both r [] ys (inr is) = is
member-of-both r (x ∷ xs) ys (inl (inl same)) = inl same
member-of-both r (x ∷ xs) ys (inl (inr is)) = inr (member-of-both r xs ys (inl is))
member-of-both r (x ∷ xs) ys (inr is) = inr (member-of-both r xs ys (inr is))

holds-bundles : (begun c after : Held) (bundles : List Bundle) (P : Report → Type 0) → Holds begun c P → TakesAll c bundles after → Holds begun after (λ x. P x ⊎ IsOneOfReports x (reports_in bundles))
holds-bundles begun c after [] P h takes =
    subst (λ d. Holds begun d (λ x. P x ⊎ ⊥)) (sym takes) (holds-as begun c P (λ x. P x ⊎ ⊥) h (λ x q. inl q) (λ x q. ⊎_elim (λ y. y) (λ no. absurd no) q))
holds-bundles begun c after (bundle ∷ more) P h (m, next, merges, rest) =
    holds-as begun after (λ x. (P x ⊎ IsOneOfReports x bundle.reports) ⊎ IsOneOfReports x (reports_in more)) (λ x. P x ⊎ IsOneOfReports x (bundle.reports ++ reports_in more))
    (holds-bundles begun next after more (λ x. P x ⊎ IsOneOfReports x bundle.reports) (holds-bundle begun c next bundle m P h merges) rest)
    (λ x q. ⊎_elim (λ p. inl p) (λ is. inr (member-of-both x bundle.reports (reports_in more) is)) (to-right q))
    (λ x q. to-left (⊎_elim (λ p. inl p) (λ is. inr (either x bundle.reports (reports_in more) is)) q))

-- bundles that are taken where nothing was held
pub record TakenWhole (begun after : Held) (reports : List Report) : Type 0 where
  pub alike : AreAlike reports
  pub held_is : after ≡ record begun { reports = map_of reports }

pub taken-whole : (begun after : Held) (bundles : List Bundle) → begun.reports ≡ [] → TakesAll begun bundles after → TakenWhole begun after (reports_in bundles)
taken-whole begun after bundles nothing takes =
    let h = holds-bundles begun begun after bundles (λ x. ⊥) start takes in
    let alike : AreAlike (reports_in bundles) = λ a b p q same. h.alike a b ((h.are a).1 (inr p)) ((h.are b).1 (inr q)) same in
    record { alike = alike; held_is = h.held_is ∙ ap (λ xs. record begun { reports = xs }) (map-same h.reports (reports_in bundles) h.alike (λ r. (λ is. ⊎_elim (λ no. absurd no) (λ q. q) ((h.are r).0 is), λ is. (h.are r).1 (inr is)))) }
  where
    start : Holds begun begun (λ x. ⊥)
    start = record {
      reports = [];
      held_is = ap (λ xs. record begun { reports = xs }) nothing;
      alike = λ a b p q same. absurd p;
      are = λ r. (λ no. no, λ no. no);
    }

-- a map has at most as many reports as the list
length-with : (r : Report) (reports : List Report) → length (with_report r reports) ≤ suc (length reports)
length-with r [] = omega arith
length-with r (x ∷ more) = length-with-by (nat_lt r.run x.run) (r.run == x.run) r x more (length-with r more)
  where
    length-with-by : (p q : Bool) (r x : Report) (more : List Report) → length (with_report r more) ≤ suc (length more)
        → length (cond p (r ∷ x ∷ more) (cond q (r ∷ more) (x ∷ with_report r more))) ≤ suc (suc (length more))
    length-with-by true q r x more h = omega arith
    length-with-by false true r x more h = omega arith
    length-with-by false false r x more h = omega (arith, h)

pub length-map : (reports : List Report) → length (map_of reports) ≤ length reports
length-map [] = omega arith
length-map (r ∷ more) = omega (arith, length-with r (map_of more), length-map more)

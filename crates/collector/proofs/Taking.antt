-- What a list of reports that is added leaves, and when it is taken whole.
use Rattle.std.proofs.Common.{◌≡◌, ◌≢◌, ◌⊎◌, ◌+◌, ◌≤◌, ℕ, Bool, true, false, cond, ◌==◌, inl, inr, ⊎_elim, List, [], ◌∷◌, ◌++◌, length, None, Some, Result, Ok, Err, ap, sym, subst, ◌∙◌, refl, arith}
use Rattle.std.specs.Prelude.{nat_lt}
use Rattle.std.proofs.lemmas.Bool.{eqb-true}
use Rattle.base_lists.proofs.Options.{none_some, some_is}
use Rattle.base_lists.proofs.Numbers.{not_number}
use Rattle.report_file.specs.declared.report.Report.{Report}
use Rattle.collector.specs.declared.answers.Added.{Added}
use Rattle.collector.specs.declared.answers.Added.TheVariants.{New, Repeated}
use Rattle.collector.specs.declared.answers.AddFault.{AddFault}
use Rattle.collector.specs.declared.answers.AddFault.TheVariants.{Foreign, NoSite, Conflict, TooManyReports, TooManyMarks, Memory}
use Rattle.collector.specs.declared.answers.Merged.{Merged}
use Rattle.collector.specs.declared.collection.Held.{Held}
use Rattle.collector.specs.Collected.{Adds, IsOfCollection, mark_limit, marks_of, report_at, report_limit, with_report}
use Rattle.collector.specs.Collecting.{AreOfCollection, IsCollection, MayTake, counts_of_both, with_reports}
use Rattle.collector.specs.Merging.{AddsAll}
use Rattle.collector.specs.Order.{AreAlike, IsOneOfReports, SameReports, map_of}
use Rattle.collector.proofs.Keeping.{marks-with}
use Rattle.collector.proofs.Ordering.{AreRising, alike-same, here-with, map-members, map-same, member-with, rising-alike, rising-fewer, rising-map, rising-once, rising-with, stays-with}

-- the reports of two lists
pub either : (r : Report) (xs ys : List Report) → IsOneOfReports r (xs ++ ys) → IsOneOfReports r xs ⊎ IsOneOfReports r ys
either r [] ys is = inr is
either r (x ∷ xs) ys is =
    ⊎_elim (λ (same : r ≡ x). inl (inl same)) (λ (other : IsOneOfReports r (xs ++ ys)). ⊎_elim (λ (front : IsOneOfReports r xs). inl (inr front)) (λ (back : IsOneOfReports r ys). inr back) (either r xs ys other)) is

pub in-front : (r : Report) (xs ys : List Report) → IsOneOfReports r xs → IsOneOfReports r (xs ++ ys)
in-front r [] ys is = absurd is
in-front r (x ∷ xs) ys is = ⊎_elim (λ (same : r ≡ x). inl same) (λ (other : IsOneOfReports r xs). inr (in-front r xs ys other)) is

pub in-back : (r : Report) (xs ys : List Report) → IsOneOfReports r ys → IsOneOfReports r (xs ++ ys)
in-back r [] ys is = is
in-back r (x ∷ xs) ys is = inr (in-back r xs ys is)

ok-is : (x y : Merged) → ◌≡◌ {A = Result Merged AddFault} (Ok x) (Ok y) → x ≡ y
ok-is x y e = cc

abbrev ok_of : Merged → Result Merged AddFault
ok_of m = Ok m

pub err-is : (x y : AddFault) → ◌≡◌ {A = Result Merged AddFault} (Err x) (Err y) → x ≡ y
err-is x y e = cc

ok-no-err : (x : Merged) (y : AddFault) → ◌≡◌ {A = Result Merged AddFault} (Ok x) (Err y) → ⊥
ok-no-err x y e = cc

-- a report that is found is one of them, and one of a run that isn't held is none
found-tests : (b : Bool) (run : ℕ) (x r : Report) (more : List Report) → cond b (Some x) (report_at run more) ≡ Some r → (report_at run more ≡ Some r → IsOneOfReports r more) → IsOneOfReports r (x ∷ more)
found-tests true run x r more found rest = inl (sym (some_is found))
found-tests false run x r more found rest = inr (rest found)

pub found-member : (run : ℕ) (reports : List Report) (r : Report) → report_at run reports ≡ Some r → IsOneOfReports r reports
found-member run [] r found = absurd (none_some found)
found-member run (x ∷ more) r found = found-tests (run == x.run) run x r more found (found-member run more r)

absent-tests : (b : Bool) (run : ℕ) (x r : Report) (more : List Report) → (run == x.run) ≡ b → cond b (Some x) (report_at run more) ≡ None → (report_at run more ≡ None → IsOneOfReports r more → run ≢ r.run) → IsOneOfReports r (x ∷ more) → run ≢ r.run
absent-tests true run x r more test none rest is = absurd (none_some (sym none))
absent-tests false run x r more test none rest is =
    ⊎_elim (λ (same : r ≡ x). λ (e : run ≡ r.run). let number = ap (λ (y : Report). y.run) same in not_number run x.run test (e ∙ number)) (λ (other : IsOneOfReports r more). rest none other) is

pub absent-member : (run : ℕ) (reports : List Report) (r : Report) → report_at run reports ≡ None → IsOneOfReports r reports → run ≢ r.run
absent-member run [] r none is = absurd is
absent-member run (x ∷ more) r none is = absent-tests (run == x.run) run x r more refl none (absent-member run more r) is

found-run-tests : (b : Bool) (run : ℕ) (x r : Report) (more : List Report) → (run == x.run) ≡ b → cond b (Some x) (report_at run more) ≡ Some r → (report_at run more ≡ Some r → r.run ≡ run) → r.run ≡ run
found-run-tests true run x r more test found rest = ap (λ (z : Report). z.run) (sym (some_is found)) ∙ sym (eqb-true run x.run test)
found-run-tests false run x r more test found rest = rest found

pub found-run : (run : ℕ) (reports : List Report) (r : Report) → report_at run reports ≡ Some r → r.run ≡ run
found-run run [] r found = absurd (none_some found)
found-run run (x ∷ more) r found = found-run-tests (run == x.run) run x r more refl found (found-run run more r)

-- one report more
length-tests : (p q : Bool) (r x : Report) (more : List Report) → cond q (Some x) (report_at r.run more) ≡ None → (report_at r.run more ≡ None → length (with_report r more) ≡ length more + 1) → length (cond p (r ∷ x ∷ more) (cond q (r ∷ more) (x ∷ with_report r more))) ≡ length (x ∷ more) + 1
length-tests true q r x more none rest = omega arith
length-tests false true r x more none rest = absurd (none_some (sym none))
length-tests false false r x more none rest = omega (arith, rest none)

pub length-with : (r : Report) (reports : List Report) → report_at r.run reports ≡ None → length (with_report r reports) ≡ length reports + 1
length-with r [] none = omega arith
length-with r (x ∷ more) none = length-tests (nat_lt r.run x.run) (r.run == x.run) r x more none (length-with r more)

-- what is held after a report was added
record IsAfter (c : Held) (r : Report) (next : Held) : Type 0 where
  rising : AreRising next.reports
  to : (y : Report) → IsOneOfReports y next.reports → (y ≡ r) ⊎ IsOneOfReports y c.reports
  here : IsOneOfReports r next.reports
  stays : (y : Report) → IsOneOfReports y c.reports → IsOneOfReports y next.reports
  same : next ≡ record c { reports = next.reports }

after-same : (c next : Held) (r : Report) → next ≡ c → IsAfter c r c → IsAfter c r next
after-same c next r is after = subst (IsAfter c r) (sym is) after

with-after : (c : Held) (r : Report) → AreRising c.reports → report_at r.run c.reports ≡ None → IsAfter c r (record c { reports = with_report r c.reports })
with-after c r rising none = record {
  rising = rising-with r c.reports rising;
  to = λ y is. member-with r y c.reports is;
  here = here-with r c.reports;
  stays = λ y is. stays-with r y c.reports (λ e. absurd (absent-member r.run c.reports y none is (sym e))) is;
  same = refl;
}

is-after : (c : Held) (r : Report) (what : Added) (next : Held) → AreRising c.reports → Adds c r (Ok what) next → IsAfter c r next
is-after c r New next rising adds = subst (IsAfter c r) (sym adds.4) (with-after c r rising adds.1)
is-after c r Repeated next rising adds = subst (IsAfter c r) (sym adds.2) (record {
  rising = rising;
  to = λ y is. inr is;
  here = found-member r.run c.reports r adds.1;
  stays = λ y is. is;
  same = refl;
})

-- what is held after all were added
pub record AreTaken (c : Held) (reports : List Report) (added repeated : ℕ) (merged : Merged) (after : Held) : Type 0 where
  pub rising : AreRising after.reports
  pub to : (y : Report) → IsOneOfReports y after.reports → IsOneOfReports y (reports ++ c.reports)
  pub from : (y : Report) → IsOneOfReports y (reports ++ c.reports) → IsOneOfReports y after.reports
  pub ours : AreOfCollection c reports
  pub same : after ≡ record c { reports = after.reports }
  pub new : merged.added + length c.reports ≡ added + length after.reports
  pub old : merged.added + merged.repeated ≡ (added + repeated) + length reports
  pub few : length c.reports ≤ report_limit → length after.reports ≤ report_limit
  pub few_marks : marks_of c.reports ≤ mark_limit → marks_of after.reports ≤ mark_limit

taken-none : (c : Held) (added repeated : ℕ) (merged : Merged) (after : Held) → AreRising c.reports → AddsAll c [] added repeated (Ok merged) after → AreTaken c [] added repeated merged after
taken-none c added repeated merged after rising adds =
    let m : Merged = record { added = added; repeated = repeated } in
    let is_merged : merged ≡ m = ok-is merged m adds.0 in
    subst (λ x. AreTaken c [] added repeated x after) (sym is_merged) (subst (AreTaken c [] added repeated m) (sym adds.1) (record {
      rising = rising;
      to = λ y is. is;
      from = λ y is. is;
      ours = λ r is. absurd is;
      same = refl;
      new = refl;
      old = omega arith;
      few = λ h. h;
      few_marks = λ h. h;
    }))

ours-before : (c : Held) (reports : List Report) (r : Report) → IsOfCollection (record c { reports = reports }) r → IsOfCollection c r
ours-before c reports r is = record { program = is.program; sites = is.sites }

to-front : (c next : Held) (r y : Report) (more : List Report) → IsAfter c r next → IsOneOfReports y (more ++ next.reports) → IsOneOfReports y ((r ∷ more) ++ c.reports)
to-front c next r y more a is =
    ⊎_elim (λ (front : IsOneOfReports y more). inr (in-front y more c.reports front))
    (λ (back : IsOneOfReports y next.reports). ⊎_elim (λ (same : y ≡ r). inl same) (λ (held : IsOneOfReports y c.reports). inr (in-back y more c.reports held)) (a.to y back)) (either y more next.reports is)

from-front : (c next : Held) (r y : Report) (more : List Report) → IsAfter c r next → IsOneOfReports y ((r ∷ more) ++ c.reports) → IsOneOfReports y (more ++ next.reports)
from-front c next r y more a is =
    ⊎_elim (λ (same : y ≡ r). subst (λ z. IsOneOfReports z (more ++ next.reports)) (sym same) (in-back r more next.reports a.here))
    (λ (other : IsOneOfReports y (more ++ c.reports)). ⊎_elim (λ (front : IsOneOfReports y more). in-front y more next.reports front) (λ (back : IsOneOfReports y c.reports). in-back y more next.reports (a.stays y back)) (either y more c.reports other)) is

ours-front : (c next : Held) (r : Report) (more : List Report) → IsAfter c r next → IsOfCollection c r → AreOfCollection next more → AreOfCollection c (r ∷ more)
ours-front c next r more a is others = λ y one.
    ⊎_elim (λ (same : y ≡ r). subst (IsOfCollection c) (sym same) is) (λ (other : IsOneOfReports y more). ours-before c next.reports y (subst (λ h. IsOfCollection h y) a.same (others y other))) one

same-front : (c next after : Held) (r : Report) → IsAfter c r next → after ≡ record next { reports = after.reports } → after ≡ record c { reports = after.reports }
same-front c next after r a same = same ∙ ap (λ (h : Held). record h { reports = after.reports }) a.same

taken-new : (c : Held) (r : Report) (more : List Report) (added repeated : ℕ) (merged : Merged) (after next : Held) → AreRising c.reports → Adds c r (Ok New) next → AreTaken next more (added + 1) repeated merged after → AreTaken c (r ∷ more) added repeated merged after
taken-new c r more added repeated merged after next rising adds rest =
    let a = is-after c r New next rising adds in
    let long : length next.reports ≡ length c.reports + 1 = ap (λ (h : Held). length h.reports) adds.4 ∙ length-with r c.reports adds.1 in
    let marks : marks_of next.reports ≡ marks_of c.reports + length r.entries = ap (λ (h : Held). marks_of h.reports) adds.4 ∙ marks-with r c.reports adds.1 in
    let room = adds.2 in
    let fits = adds.3 in record {
      rising = rest.rising;
      to = λ y is. to-front c next r y more a (rest.to y is);
      from = λ y is. rest.from y (from-front c next r y more a is);
      ours = ours-front c next r more a adds.0 rest.ours;
      same = same-front c next after r a rest.same;
      new = omega (arith, rest.new);
      old = omega (arith, rest.old);
      few = λ h. rest.few (omega arith);
      few_marks = λ h. rest.few_marks (omega arith);
    }

taken-repeated : (c : Held) (r : Report) (more : List Report) (added repeated : ℕ) (merged : Merged) (after next : Held) → AreRising c.reports → Adds c r (Ok Repeated) next → AreTaken next more added (repeated + 1) merged after → AreTaken c (r ∷ more) added repeated merged after
taken-repeated c r more added repeated merged after next rising adds rest =
    let a = is-after c r Repeated next rising adds in
    let long = ap (λ (h : Held). length h.reports) adds.2 in
    let marks = ap (λ (h : Held). marks_of h.reports) adds.2 in record {
      rising = rest.rising;
      to = λ y is. to-front c next r y more a (rest.to y is);
      from = λ y is. rest.from y (from-front c next r y more a is);
      ours = ours-front c next r more a adds.0 rest.ours;
      same = same-front c next after r a rest.same;
      new = omega (arith, rest.new);
      old = omega (arith, rest.old);
      few = λ h. rest.few (omega arith);
      few_marks = λ h. rest.few_marks (omega arith);
    }

-- how an addition goes on
abbrev Goes : Result Added AddFault → Held → List Report → ℕ → ℕ → Result Merged AddFault → Held → Type 0
Goes answer next more added repeated result after = elim answer [
  | Ok what ↦ elim what [
    | New ↦ AddsAll next more (added + 1) repeated result after
    | Repeated ↦ AddsAll next more added (repeated + 1) result after
  ]
  | Err fault ↦ (result ≡ Err fault) × (after ≡ next)
]

taken-step : (c : Held) (r : Report) (more : List Report) (added repeated : ℕ) (merged : Merged) (after next : Held) (answer : Result Added AddFault) → AreRising c.reports → Adds c r answer next → ((via : Held) (a b : ℕ) → AreRising via.reports → AddsAll via more a b (Ok merged) after → AreTaken via more a b merged after) → Goes answer next more added repeated (Ok merged) after → AreTaken c (r ∷ more) added repeated merged after
taken-step c r more added repeated merged after next (Ok New) rising adds rest goes =
    taken-new c r more added repeated merged after next rising adds (rest next (added + 1) repeated (is-after c r New next rising adds).rising goes)
taken-step c r more added repeated merged after next (Ok Repeated) rising adds rest goes =
    taken-repeated c r more added repeated merged after next rising adds (rest next added (repeated + 1) (is-after c r Repeated next rising adds).rising goes)
taken-step c r more added repeated merged after next (Err why) rising adds rest goes = absurd (ok-no-err merged why goes.0)

pub are-taken : (reports : List Report) (c after : Held) (added repeated : ℕ) (merged : Merged) → AreRising c.reports → AddsAll c reports added repeated (Ok merged) after → AreTaken c reports added repeated merged after
are-taken [] c after added repeated merged rising adds = taken-none c added repeated merged after rising adds
are-taken (r ∷ more) c after added repeated merged rising adds =
    taken-step c r more added repeated merged after adds.1 adds.0 rising adds.2 (λ via a b rises goes. are-taken more via after a b merged rises goes) adds.3

pub taken-alike : (c : Held) (reports : List Report) (a b : ℕ) (m : Merged) (after : Held) → AreTaken c reports a b m after → AreAlike (reports ++ c.reports)
taken-alike c reports a b m after t = λ x y is_x is_y e. rising-alike after.reports t.rising x y (t.from x is_x) (t.from y is_y) e

pub taken-map : (c : Held) (reports : List Report) (a b : ℕ) (m : Merged) (after : Held) → AreTaken c reports a b m after → after.reports ≡ map_of (reports ++ c.reports)
taken-map c reports a b m after t =
    let all = reports ++ c.reports in
    let alike = taken-alike c reports a b m after t in
    rising-once after.reports (map_of all) t.rising (rising-map all) (λ r is. (map-members all alike r).1 (t.to r is)) (λ r is. t.from r ((map-members all alike r).0 is))

pub taken-with : (c : Held) (reports : List Report) (a b : ℕ) (m : Merged) (after : Held) → AreTaken c reports a b m after → after ≡ with_reports reports c
taken-with c reports a b m after t = t.same ∙ ap (λ rs. record c { reports = rs }) (taken-map c reports a b m after t)

pub taken-may : (c : Held) (reports : List Report) (a b : ℕ) (m : Merged) (after : Held) → IsCollection c → AreTaken c reports a b m after → MayTake c reports
taken-may c reports a b m after is t =
    let map = taken-map c reports a b m after t in record {
      ours = t.ours;
      alike = taken-alike c reports a b m after t;
      few = subst (λ rs. length rs ≤ report_limit) map (t.few is.few);
      few_marks = subst (λ rs. marks_of rs ≤ mark_limit) map (t.few_marks is.few_marks);
    }

-- two lists with the same reports
pub orders-same : (c a b : Held) (xs ys : List Report) (m n : Merged) → AreRising c.reports → SameReports xs ys → AddsAll c xs 0 0 (Ok m) a → AddsAll c ys 0 0 (Ok n) b → a ≡ b
orders-same c a b xs ys m n rising same first second =
    let s = are-taken xs c a 0 0 m rising first in
    let t = are-taken ys c b 0 0 n rising second in
    let to : (r : Report) → IsOneOfReports r (xs ++ c.reports) → IsOneOfReports r (ys ++ c.reports) = λ r is. ⊎_elim (λ (front : IsOneOfReports r xs). in-front r ys c.reports ((same r).0 front)) (λ (back : IsOneOfReports r c.reports). in-back r ys c.reports back) (either r xs c.reports is) in
    let from : (r : Report) → IsOneOfReports r (ys ++ c.reports) → IsOneOfReports r (xs ++ c.reports) = λ r is. ⊎_elim (λ (front : IsOneOfReports r ys). in-front r xs c.reports ((same r).1 front)) (λ (back : IsOneOfReports r c.reports). in-back r xs c.reports back) (either r ys c.reports is) in
    taken-with c xs 0 0 m a s ∙ ap (λ rs. record c { reports = rs }) (map-same (xs ++ c.reports) (ys ++ c.reports) (taken-alike c xs 0 0 m a s) (λ r. (to r, from r))) ∙ sym (taken-with c ys 0 0 n b t)

-- what may be taken stays so, one report after another
may-more : (c next : Held) (r : Report) (more : List Report) → IsAfter c r next → MayTake c (r ∷ more) → MayTake next more
may-more c next r more a may =
    let all = (r ∷ more) ++ c.reports in
    let left = more ++ next.reports in
    let same : SameReports all left = λ y. (from-front c next r y more a, to-front c next r y more a) in
    let map : map_of all ≡ map_of left = map-same all left may.alike same in record {
      ours = λ y is. let old = may.ours y (inr is) in subst (λ h. IsOfCollection h y) (sym a.same) (record { program = old.program; sites = old.sites });
      alike = alike-same all left may.alike same;
      few = subst (λ rs. length rs ≤ report_limit) map may.few;
      few_marks = subst (λ rs. marks_of rs ≤ mark_limit) map may.few_marks;
    }

-- with a new report there are no more than in the whole map
fewer-with : (c : Held) (r : Report) (more : List Report) → AreRising c.reports → report_at r.run c.reports ≡ None → MayTake c (r ∷ more) → (length c.reports + 1 ≤ report_limit) × (marks_of c.reports + length r.entries ≤ mark_limit)
fewer-with c r more rising none may =
    let all = (r ∷ more) ++ c.reports in
    let a = with-after c r rising none in
    let into : (y : Report) → IsOneOfReports y (with_report r c.reports) → IsOneOfReports y (map_of all) = λ y is. (map-members all may.alike y).1 (⊎_elim (λ (same : y ≡ r). inl same) (λ (held : IsOneOfReports y c.reports). inr (in-back y more c.reports held)) (a.to y is)) in
    let fewer = rising-fewer (with_report r c.reports) (map_of all) a.rising (rising-map all) into in
    let few = may.few in
    let few_marks = may.few_marks in
    (omega (arith, fewer.0, length-with r c.reports none), omega (arith, fewer.1, marks-with r c.reports none))

fault-step : (c : Held) (r : Report) (more : List Report) (added repeated : ℕ) (why : AddFault) (after next : Held) (answer : Result Added AddFault) → AreRising c.reports → MayTake c (r ∷ more) → Adds c r answer next → ((via : Held) (a b : ℕ) → AreRising via.reports → MayTake via more → AddsAll via more a b (Err why) after → why ≡ Memory) → Goes answer next more added repeated (Err why) after → why ≡ Memory
fault-step c r more added repeated why after next (Ok New) rising may adds rest goes =
    let a = is-after c r New next rising adds in
    rest next (added + 1) repeated a.rising (may-more c next r more a may) goes
fault-step c r more added repeated why after next (Ok Repeated) rising may adds rest goes =
    let a = is-after c r Repeated next rising adds in
    rest next added (repeated + 1) a.rising (may-more c next r more a may) goes
fault-step c r more added repeated why after next (Err (Foreign ours theirs)) rising may adds rest goes =
    absurd (adds.2 (adds.0 ∙ sym (may.ours r (inl refl)).program ∙ sym adds.1))
fault-step c r more added repeated why after next (Err (NoSite run site)) rising may adds rest goes =
    absurd (none_some (sym (may.ours r (inl refl)).sites ∙ adds.2))
fault-step c r more added repeated why after next (Err (Conflict run)) rising may adds rest goes =
    let held = adds.2.0 in
    let at = subst (λ n. report_at n c.reports ≡ Some held) adds.1 adds.2.1 in
    absurd (adds.2.2 (may.alike held r (inr (in-back held more c.reports (found-member r.run c.reports held at))) (inl refl) (found-run r.run c.reports held at)))
fault-step c r more added repeated why after next (Err (TooManyReports run)) rising may adds rest goes =
    let none = subst (λ n. report_at n c.reports ≡ None) adds.1 adds.2 in
    let full = adds.3 in
    absurd (omega (arith, (fewer-with c r more rising none may).0))
fault-step c r more added repeated why after next (Err (TooManyMarks run)) rising may adds rest goes =
    let none = subst (λ n. report_at n c.reports ≡ None) adds.1 adds.2 in
    let full = adds.4 in
    absurd (omega (arith, (fewer-with c r more rising none may).1))
fault-step c r more added repeated why after next (Err Memory) rising may adds rest goes = err-is why Memory goes.0

pub taken-fault : (reports : List Report) (c after : Held) (added repeated : ℕ) (why : AddFault) → AreRising c.reports → MayTake c reports → AddsAll c reports added repeated (Err why) after → why ≡ Memory
taken-fault [] c after added repeated why rising may adds = absurd (ok-no-err _ why (sym adds.0))
taken-fault (r ∷ more) c after added repeated why rising may adds =
    fault-step c r more added repeated why after adds.1 adds.0 rising may adds.2 (λ via a b rises may_more goes. taken-fault more via after a b why rises may_more goes) adds.3

-- what was counted before is added to the counts
counted-step : (a b : ℕ) (next : Held) (more : List Report) (x y : ℕ) (m n : Merged) (after : Held) (answer : Result Added AddFault) → ((via : Held) (s t : ℕ) → AddsAll via more s t (Ok m) after → AddsAll via more (a + s) (b + t) (Ok n) after) → Goes answer next more x y (Ok m) after → Goes answer next more (a + x) (b + y) (Ok n) after
counted-step a b next more x y m n after (Ok New) rest goes = subst (λ k. AddsAll next more k (b + y) (Ok n) after) (omega arith) (rest next (x + 1) y goes)
counted-step a b next more x y m n after (Ok Repeated) rest goes = subst (λ k. AddsAll next more (a + x) k (Ok n) after) (omega arith) (rest next x (y + 1) goes)
counted-step a b next more x y m n after (Err why) rest goes = absurd (ok-no-err m why goes.0)

abbrev plus : ℕ → ℕ → Merged → Merged
plus a b m = record { added = a + m.added; repeated = b + m.repeated }

counted : (reports : List Report) (c after : Held) (a b x y : ℕ) (m : Merged) → AddsAll c reports x y (Ok m) after → AddsAll c reports (a + x) (b + y) (Ok (plus a b m)) after
counted [] c after a b x y m adds = (ap (λ z. ok_of (plus a b z)) (ok-is m (record { added = x; repeated = y }) adds.0), adds.1)
counted (r ∷ more) c after a b x y m adds =
    (adds.0, adds.1, adds.2, counted-step a b adds.1 more x y m (plus a b m) after adds.0 (λ via s t goes. counted more via after a b s t m goes) adds.3)

-- a fault comes whatever was counted before
fault-counted-step : (next : Held) (more : List Report) (a b x y : ℕ) (why : AddFault) (after : Held) (answer : Result Added AddFault) → ((via : Held) (s t u v : ℕ) → AddsAll via more s t (Err why) after → AddsAll via more u v (Err why) after) → Goes answer next more x y (Err why) after → Goes answer next more a b (Err why) after
fault-counted-step next more a b x y why after (Ok New) rest goes = rest next (x + 1) y (a + 1) b goes
fault-counted-step next more a b x y why after (Ok Repeated) rest goes = rest next x (y + 1) a (b + 1) goes
fault-counted-step next more a b x y why after (Err fault) rest goes = goes

fault-counted : (reports : List Report) (c after : Held) (a b x y : ℕ) (why : AddFault) → AddsAll c reports x y (Err why) after → AddsAll c reports a b (Err why) after
fault-counted [] c after a b x y why adds = absurd (ok-no-err _ why (sym adds.0))
fault-counted (r ∷ more) c after a b x y why adds =
    (adds.0, adds.1, adds.2, fault-counted-step adds.1 more a b x y why after adds.0 (λ via s t u v goes. fault-counted more via after u v s t why goes) adds.3)

-- two groups
joined-step : (next via : Held) (xs all : List Report) (a b : ℕ) (first : Merged) (result : Result Merged AddFault) (after : Held) (answer : Result Added AddFault) → ((from : Held) (s t : ℕ) → AddsAll from xs s t (Ok first) via → AddsAll from all s t result after) → Goes answer next xs a b (Ok first) via → Goes answer next all a b result after
joined-step next via xs all a b first result after (Ok New) rest goes = rest next (a + 1) b goes
joined-step next via xs all a b first result after (Ok Repeated) rest goes = rest next a (b + 1) goes
joined-step next via xs all a b first result after (Err why) rest goes = absurd (ok-no-err first why goes.0)

-- where the second group goes on as it would behind the first one
joined : (xs ys : List Report) (c via after : Held) (a b : ℕ) (first : Merged) (result : Result Merged AddFault) → AddsAll c xs a b (Ok first) via → AddsAll via ys first.added first.repeated result after → AddsAll c (xs ++ ys) a b result after
joined [] ys c via after a b first result adds behind =
    let counts : first ≡ record { added = a; repeated = b } = ok-is first (record { added = a; repeated = b }) adds.0 in
    subst (λ h. AddsAll h ys a b result after) adds.1 (subst (λ (m : Merged). AddsAll via ys m.added m.repeated result after) counts behind)
joined (r ∷ xs) ys c via after a b first result adds behind =
    (adds.0, adds.1, adds.2, joined-step adds.1 via xs (xs ++ ys) a b first result after adds.0 (λ from s t goes. joined xs ys from via after s t first result goes behind) adds.3)

pub groups-taken : (c via after : Held) (xs ys : List Report) (first second : Merged) → AddsAll c xs 0 0 (Ok first) via → AddsAll via ys 0 0 (Ok second) after → AddsAll c (xs ++ ys) 0 0 (Ok (counts_of_both first second)) after
groups-taken c via after xs ys first second adds more =
    let shifted = counted ys via after first.added first.repeated 0 0 second more in
    let added : AddsAll via ys first.added (first.repeated + 0) (Ok (counts_of_both first second)) after = subst (λ k. AddsAll via ys k (first.repeated + 0) (Ok (counts_of_both first second)) after) (omega arith) shifted in
    joined xs ys c via after 0 0 first (Ok (counts_of_both first second)) adds (subst (λ k. AddsAll via ys first.added k (Ok (counts_of_both first second)) after) (omega arith) added)

pub groups-refused : (c via after : Held) (xs ys : List Report) (first : Merged) (why : AddFault) → AddsAll c xs 0 0 (Ok first) via → AddsAll via ys 0 0 (Err why) after → AddsAll c (xs ++ ys) 0 0 (Err why) after
groups-refused c via after xs ys first why adds more =
    joined xs ys c via after 0 0 first (Err why) adds (fault-counted ys via after first.added first.repeated 0 0 why more)

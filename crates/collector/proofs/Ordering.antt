-- Reports under rising runs are determined by which they are.
use Rattle.std.proofs.Common.{◌≡◌, ◌⊎◌, ◌↔◌, ◌+◌, ◌<◌, ◌≤◌, ℕ, Bool, true, false, cond, ◌==◌, inl, inr, ⊎_elim, List, [], ◌∷◌, length, ap, sym, subst, ◌∙◌, refl, arith}
use Rattle.std.specs.Prelude.{nat_lt}
use Rattle.std.proofs.lemmas.Bool.{eqb-true, ltb-true}
use Rattle.std.proofs.lemmas.Bool.Decides.{nat_tests}
use Rattle.report_file.specs.declared.report.Report.{Report}
use Rattle.collector.specs.Collected.{marks_of, with_report}
use Rattle.collector.specs.Order.{AreAlike, IsOneOfReports, SameReports, map_of}
use Rattle.collector.specs.Spelling.{RunsFrom}

abbrev pub AreAbove : ℕ → List Report → Type 0
AreAbove run [] = Unit {0}
AreAbove run (x ∷ more) = (run < x.run) × AreAbove run more

abbrev pub AreRising : List Report → Type 0
AreRising [] = Unit {0}
AreRising (x ∷ more) = AreAbove x.run more × AreRising more

above-less : (low run : ℕ) (reports : List Report) → low < run → AreAbove run reports → AreAbove low reports
above-less low run [] h above = tt
above-less low run (x ∷ more) h above = (omega (arith, above.0), above-less low run more h above.1)

pub above-member : (run : ℕ) (reports : List Report) (r : Report) → AreAbove run reports → IsOneOfReports r reports → run < r.run
above-member run [] r above is = absurd is
above-member run (x ∷ more) r above is =
    ⊎_elim (λ (same : r ≡ x). subst (λ (y : Report). run < y.run) (sym same) above.0) (λ (other : IsOneOfReports r more). above-member run more r above.1 other) is

abbrev pub with_by : Bool → Bool → Report → Report → List Report → List Report → List Report
with_by p q r x more rest = cond p (r ∷ x ∷ more) (cond q (r ∷ more) (x ∷ rest))

-- a report in its place keeps the runs rising
above-with-by : (p q : Bool) (low : ℕ) (r x : Report) (more rest : List Report) → low < r.run → AreAbove low (x ∷ more) → AreAbove low rest → AreAbove low (with_by p q r x more rest)
above-with-by true q low r x more rest h above others = (h, above)
above-with-by false true low r x more rest h above others = (h, above.1)
above-with-by false false low r x more rest h above others = (above.0, others)

above-with : (low : ℕ) (r : Report) (reports : List Report) → low < r.run → AreAbove low reports → AreAbove low (with_report r reports)
above-with low r [] h above = (h, tt)
above-with low r (x ∷ more) h above =
    above-with-by (nat_lt r.run x.run) (r.run == x.run) low r x more (with_report r more) h above (above-with low r more h above.1)

greater : (a b : ℕ) → nat_lt a b ≡ false → (a == b) ≡ false → b < a
greater a b p q = grind (arith, nat_tests)

rising-with-by : (p q : Bool) (r x : Report) (more : List Report) → nat_lt r.run x.run ≡ p → (r.run == x.run) ≡ q → AreRising (x ∷ more) → AreRising (with_report r more) → AreRising (with_by p q r x more (with_report r more))
rising-with-by true q r x more is_p is_q rising others =
    let less = ltb-true r.run x.run is_p in ((less, above-less r.run x.run more less rising.0), rising)
rising-with-by false true r x more is_p is_q rising others =
    (subst (λ k. AreAbove k more) (sym (eqb-true r.run x.run is_q)) rising.0, rising.1)
rising-with-by false false r x more is_p is_q rising others = (above-with x.run r more (greater r.run x.run is_p is_q) rising.0, others)

pub rising-with : (r : Report) (reports : List Report) → AreRising reports → AreRising (with_report r reports)
rising-with r [] rising = (tt, tt)
rising-with r (x ∷ more) rising = rising-with-by (nat_lt r.run x.run) (r.run == x.run) r x more refl refl rising (rising-with r more rising.1)

pub rising-map : (reports : List Report) → AreRising (map_of reports)
rising-map [] = tt
rising-map (r ∷ more) = rising-with r (map_of more) (rising-map more)

-- what is in the list with a report: the report, or one that was there
member-with-by : (p q : Bool) (r x y : Report) (more : List Report) → IsOneOfReports y (with_by p q r x more (with_report r more)) → (IsOneOfReports y (with_report r more) → (y ≡ r) ⊎ IsOneOfReports y more) → (y ≡ r) ⊎ IsOneOfReports y (x ∷ more)
member-with-by true q r x y more is rest = is
member-with-by false true r x y more is rest = ⊎_elim (λ (same : y ≡ r). inl same) (λ (other : IsOneOfReports y more). inr (inr other)) is
member-with-by false false r x y more is rest =
    ⊎_elim (λ (same : y ≡ x). inr (inl same)) (λ (other : IsOneOfReports y (with_report r more)). ⊎_elim (λ (here : y ≡ r). inl here) (λ (there : IsOneOfReports y more). inr (inr there)) (rest other)) is

pub member-with : (r y : Report) (reports : List Report) → IsOneOfReports y (with_report r reports) → (y ≡ r) ⊎ IsOneOfReports y reports
member-with r y [] is = is
member-with r y (x ∷ more) is = member-with-by (nat_lt r.run x.run) (r.run == x.run) r x y more is (member-with r y more)

here-with-by : (p q : Bool) (r x : Report) (more : List Report) → IsOneOfReports r (with_report r more) → IsOneOfReports r (with_by p q r x more (with_report r more))
here-with-by true q r x more rest = inl refl
here-with-by false true r x more rest = inl refl
here-with-by false false r x more rest = inr rest

pub here-with : (r : Report) (reports : List Report) → IsOneOfReports r (with_report r reports)
here-with r [] = inl refl
here-with r (x ∷ more) = here-with-by (nat_lt r.run x.run) (r.run == x.run) r x more (here-with r more)

-- what was there stays, unless it has the run
stays-with-by : (p q : Bool) (r x y : Report) (more : List Report) → (r.run == x.run) ≡ q → (y.run ≡ r.run → y ≡ r) → IsOneOfReports y (x ∷ more) → (IsOneOfReports y more → IsOneOfReports y (with_report r more)) → IsOneOfReports y (with_by p q r x more (with_report r more))
stays-with-by true q r x y more is_q alike is rest = inr is
stays-with-by false true r x y more is_q alike is rest =
    ⊎_elim (λ (same : y ≡ x). inl (alike (ap (λ (z : Report). z.run) same ∙ sym (eqb-true r.run x.run is_q)))) (λ (other : IsOneOfReports y more). inr other) is
stays-with-by false false r x y more is_q alike is rest = ⊎_elim (λ (same : y ≡ x). inl same) (λ (other : IsOneOfReports y more). inr (rest other)) is

pub stays-with : (r y : Report) (reports : List Report) → (y.run ≡ r.run → y ≡ r) → IsOneOfReports y reports → IsOneOfReports y (with_report r reports)
stays-with r y [] alike is = absurd is
stays-with r y (x ∷ more) alike is = stays-with-by (nat_lt r.run x.run) (r.run == x.run) r x y more refl alike is (stays-with r y more alike)

alike-rest : (r : Report) (more : List Report) → AreAlike (r ∷ more) → AreAlike more
alike-rest r more alike = λ a b is_a is_b. alike a b (inr is_a) (inr is_b)

pub map-members : (reports : List Report) → AreAlike reports → (y : Report) → IsOneOfReports y (map_of reports) ↔ IsOneOfReports y reports
map-members [] alike y = (λ is. is, λ is. is)
map-members (r ∷ more) alike y =
    let rest = map-members more (alike-rest r more alike) y in (
      λ is. ⊎_elim (λ (same : y ≡ r). inl same) (λ (other : IsOneOfReports y (map_of more)). inr (rest.0 other)) (member-with r y (map_of more) is),
      λ is. ⊎_elim (λ (same : y ≡ r). subst (λ z. IsOneOfReports z (with_report r (map_of more))) (sym same) (here-with r (map_of more))) (λ (other : IsOneOfReports y more). stays-with r y (map_of more) (alike y r (inr other) (inl refl)) (rest.1 other)) is,
    )

-- two lists of rising runs with the same reports are equal
same-head : (x y : Report) (xs ys : List Report) → AreAbove x.run xs → AreAbove y.run ys → IsOneOfReports x (y ∷ ys) → IsOneOfReports y (x ∷ xs) → x ≡ y
same-head x y xs ys above_x above_y x_is y_is =
    ⊎_elim (λ (same : x ≡ y). same) (λ (later : IsOneOfReports x ys). ⊎_elim (λ (same : y ≡ x). sym same) (λ (other : IsOneOfReports y xs).
    let a = above-member y.run ys x above_y later in let b = above-member x.run xs y above_x other in absurd (omega arith)) y_is) x_is

drop-head : (x : Report) (xs ys : List Report) (r : Report) → AreAbove x.run xs → IsOneOfReports r xs → (IsOneOfReports r (x ∷ xs) → IsOneOfReports r (x ∷ ys)) → IsOneOfReports r ys
drop-head x xs ys r above is step =
    ⊎_elim (λ (same : r ≡ x). let a = above-member x.run xs r above is in let e = ap (λ (z : Report). z.run) same in absurd (omega arith)) (λ (other : IsOneOfReports r ys). other) (step (inr is))

pub rising-once : (xs ys : List Report) → AreRising xs → AreRising ys → ((r : Report) → IsOneOfReports r xs → IsOneOfReports r ys) → ((r : Report) → IsOneOfReports r ys → IsOneOfReports r xs) → xs ≡ ys
rising-once [] [] rx ry to from = refl
rising-once [] (y ∷ ys) rx ry to from = absurd (from y (inl refl))
rising-once (x ∷ xs) [] rx ry to from = absurd (to x (inl refl))
rising-once (x ∷ xs) (y ∷ ys) rx ry to from =
    let head : x ≡ y = same-head x y xs ys rx.0 ry.0 (to x (inl refl)) (from y (inl refl)) in
    let above_x : AreAbove x.run ys = subst (λ (z : Report). AreAbove z.run ys) (sym head) ry.0 in
    let to_x : (r : Report) → IsOneOfReports r (x ∷ xs) → IsOneOfReports r (x ∷ ys) = λ r is. subst (λ z. IsOneOfReports r (z ∷ ys)) (sym head) (to r is) in
    let from_x : (r : Report) → IsOneOfReports r (x ∷ ys) → IsOneOfReports r (x ∷ xs) = λ r is. from r (subst (λ z. IsOneOfReports r (z ∷ ys)) head is) in
    let rest = rising-once xs ys rx.1 ry.1 (λ r is. drop-head x xs ys r rx.0 is (to_x r)) (λ r is. drop-head x ys xs r above_x is (from_x r)) in
    ap (λ z. z ∷ xs) head ∙ ap (λ zs. y ∷ zs) rest

pub alike-same : (xs ys : List Report) → AreAlike xs → SameReports xs ys → AreAlike ys
alike-same xs ys alike same = λ a b is_a is_b run. alike a b ((same a).1 is_a) ((same b).1 is_b) run

pub map-same : (xs ys : List Report) → AreAlike xs → SameReports xs ys → map_of xs ≡ map_of ys
map-same xs ys alike same =
    rising-once (map_of xs) (map_of ys) (rising-map xs) (rising-map ys)
    (λ r is. (map-members ys (alike-same xs ys alike same) r).1 ((same r).0 ((map-members xs alike r).0 is)))
    (λ r is. (map-members xs alike r).1 ((same r).1 ((map-members ys (alike-same xs ys alike same) r).0 is)))

-- rising runs, as texts have them
above-from : (low run : ℕ) (reports : List Report) → RunsFrom run reports → low < run → AreAbove low reports
above-from low run [] rise h = tt
above-from low run (x ∷ more) rise h = (omega (arith, rise.0), above-from low (x.run + 1) more rise.1 (omega (arith, rise.0)))

pub from-rising : (run : ℕ) (reports : List Report) → RunsFrom run reports → AreRising reports
from-rising run [] rise = tt
from-rising run (x ∷ more) rise = (above-from x.run (x.run + 1) more rise.1 (omega arith), from-rising (x.run + 1) more rise.1)

rising-above : (low : ℕ) (reports : List Report) → AreAbove low reports → AreRising reports → RunsFrom (low + 1) reports
rising-above low [] above rising = tt
rising-above low (x ∷ more) above rising = (omega (arith, above.0), rising-above x.run more rising.0 rising.1)

pub rising-from : (reports : List Report) → AreRising reports → RunsFrom 0 reports
rising-from [] rising = tt
rising-from (x ∷ more) rising = (omega arith, rising-above x.run more rising.0 rising.1)

-- each run has one report there
pub rising-alike : (reports : List Report) → AreRising reports → AreAlike reports
rising-alike [] rising = λ a b is_a is_b e. absurd is_a
rising-alike (x ∷ more) rising = λ a b is_a is_b e.
    ⊎_elim (λ (a_x : a ≡ x). ⊎_elim (λ (b_x : b ≡ x). a_x ∙ sym b_x) (λ (b_more : IsOneOfReports b more).
    let less = above-member x.run more b rising.0 b_more in let n = ap (λ (z : Report). z.run) a_x in absurd (omega (arith, e))) is_b)
    (λ (a_more : IsOneOfReports a more). ⊎_elim (λ (b_x : b ≡ x). let less = above-member x.run more a rising.0 a_more in let n = ap (λ (z : Report). z.run) b_x in absurd (omega (arith, e)))
    (λ (b_more : IsOneOfReports b more). rising-alike more rising.1 a b a_more b_more e) is_b) is_a

-- a list with no other reports is no longer, and has no more entries
head-fewer : (x y : Report) (xs ys : List Report) → x ≡ y → (length xs ≤ length ys) × (marks_of xs ≤ marks_of ys) → (length (x ∷ xs) ≤ length (y ∷ ys)) × (marks_of (x ∷ xs) ≤ marks_of (y ∷ ys))
head-fewer x y xs ys same rest =
    let e = ap (λ (z : Report). length z.entries) same in (omega (arith, rest.0), omega (arith, rest.1, e))

later-fewer : (y : Report) (xs ys : List Report) → (length xs ≤ length ys) × (marks_of xs ≤ marks_of ys) → (length xs ≤ length (y ∷ ys)) × (marks_of xs ≤ marks_of (y ∷ ys))
later-fewer y xs ys rest = (omega (arith, rest.0), omega (arith, rest.1))

at-or-above : (x r : Report) (xs : List Report) → AreAbove x.run xs → IsOneOfReports r (x ∷ xs) → x.run ≤ r.run
at-or-above x r xs above is =
    ⊎_elim (λ (same : r ≡ x). let n = ap (λ (z : Report). z.run) same in omega arith) (λ (other : IsOneOfReports r xs). let less = above-member x.run xs r above other in omega arith) is

behind-head : (x y r : Report) (xs ys : List Report) → AreAbove x.run xs → AreAbove y.run ys → IsOneOfReports x ys → IsOneOfReports r (x ∷ xs) → IsOneOfReports r (y ∷ ys) → IsOneOfReports r ys
behind-head x y r xs ys above_x above_y later is to =
    ⊎_elim (λ (same : r ≡ y). let n = ap (λ (z : Report). z.run) same in let low = at-or-above x r xs above_x is in let high = above-member y.run ys x above_y later in absurd (omega arith)) (λ (other : IsOneOfReports r ys). other) to

pub rising-fewer : (xs ys : List Report) → AreRising xs → AreRising ys → ((r : Report) → IsOneOfReports r xs → IsOneOfReports r ys) → (length xs ≤ length ys) × (marks_of xs ≤ marks_of ys)
rising-fewer [] ys rx ry to = (omega arith, omega arith)
rising-fewer (x ∷ xs) [] rx ry to = absurd (to x (inl refl))
rising-fewer (x ∷ xs) (y ∷ ys) rx ry to =
    ⊎_elim (λ (same : x ≡ y). head-fewer x y xs ys same (rising-fewer xs ys rx.1 ry.1 (λ r is. drop-head x xs ys r rx.0 is (λ all. subst (λ z. IsOneOfReports r (z ∷ ys)) (sym same) (to r all)))))
    (λ (later : IsOneOfReports x ys). later-fewer y (x ∷ xs) ys (rising-fewer (x ∷ xs) ys rx ry.1 (λ r is. behind-head x y r xs ys rx.0 ry.0 later is (to r is)))) (to x (inl refl))

-- A list of reports by rising run, read as a map.
use Rattle.std.proofs.Common.{◌≡◌, ◌≢◌, ◌<◌, ◌≤◌, ℕ, Bool, true, false, cond, ◌==◌, inl, inr, ⊎_elim, List, [], ◌∷◌, None, Some, ap, sym, subst, ◌∙◌, refl, arith}
use Rattle.std.specs.Prelude.{nat_lt, option_map}
use Rattle.std.proofs.lemmas.Bool.{eqb-true, ltb-true}
use Rattle.base_lists.proofs.Options.{none_some, some_is}
use Rattle.base_lists.proofs.Numbers.{not_less, number_itself, other_number}
use Rattle.report_file.specs.declared.label.Label.{Label}
use Rattle.report_file.specs.declared.report.Report.{Report}
use Rattle.collector.specs.Collected.{next_after, report_relabelled, report_at, with_report, without_report}
use Rattle.collector.specs.Order.{IsOneOfReports}
use Rattle.collector.proofs.Ordering.{AreAbove, AreRising, above-member, with_by}

-- the report that was put in its place
with-tests : (p q : Bool) (r x : Report) (more : List Report) → (r.run == x.run) ≡ q → report_at r.run (with_report r more) ≡ Some r → report_at r.run (with_by p q r x more (with_report r more)) ≡ Some r
with-tests true q r x more test rest = ap (λ b. cond b (Some r) (report_at r.run (x ∷ more))) (number_itself r.run)
with-tests false true r x more test rest = ap (λ b. cond b (Some r) (report_at r.run more)) (number_itself r.run)
with-tests false false r x more test rest = ap (λ b. cond b (Some x) (report_at r.run (with_report r more))) test ∙ rest

pub at-with : (r : Report) (reports : List Report) → report_at r.run (with_report r reports) ≡ Some r
at-with r [] = ap (λ b. cond b (Some r) None) (number_itself r.run)
at-with r (x ∷ more) = with-tests (nat_lt r.run x.run) (r.run == x.run) r x more refl (at-with r more)

other-tests : (p q : Bool) (run : ℕ) (r x : Report) (more : List Report) → (r.run == x.run) ≡ q → run ≢ r.run → report_at run (with_report r more) ≡ report_at run more → report_at run (with_by p q r x more (with_report r more)) ≡ report_at run (x ∷ more)
other-tests true q run r x more test other rest = ap (λ b. cond b (Some r) (report_at run (x ∷ more))) (other_number run r.run other)
other-tests false true run r x more test other rest =
    ap (λ b. cond b (Some r) (report_at run more)) (other_number run r.run other)
    ∙ ap (λ b. cond b (Some x) (report_at run more)) (sym (other_number run x.run (λ e. other (e ∙ sym (eqb-true r.run x.run test)))))
other-tests false false run r x more test other rest = ap (λ o. cond (run == x.run) (Some x) o) rest

pub at-with-other : (run : ℕ) (r : Report) (reports : List Report) → run ≢ r.run → report_at run (with_report r reports) ≡ report_at run reports
at-with-other run r [] other = ap (λ b. cond b (Some r) None) (other_number run r.run other)
at-with-other run r (x ∷ more) other = other-tests (nat_lt r.run x.run) (r.run == x.run) run r x more refl other (at-with-other run r more other)

-- the report that was taken away
above-none : (run : ℕ) (reports : List Report) → AreAbove run reports → report_at run reports ≡ None
above-none run [] above = refl
above-none run (x ∷ more) above = ap (λ b. cond b (Some x) (report_at run more)) (other_number run x.run (λ e. let h = above.0 in omega arith)) ∙ above-none run more above.1

without-tests : (b : Bool) (run : ℕ) (x : Report) (more : List Report) → (run == x.run) ≡ b → AreAbove x.run more → report_at run (without_report run more) ≡ None → report_at run (cond b more (x ∷ without_report run more)) ≡ None
without-tests true run x more test above rest = above-none run more (subst (λ n. AreAbove n more) (sym (eqb-true run x.run test)) above)
without-tests false run x more test above rest = ap (λ b. cond b (Some x) (report_at run (without_report run more))) test ∙ rest

pub at-without : (run : ℕ) (reports : List Report) → AreRising reports → report_at run (without_report run reports) ≡ None
at-without run [] rising = refl
at-without run (x ∷ more) rising = without-tests (run == x.run) run x more refl rising.0 (at-without run more rising.1)

stays-tests : (b : Bool) (run gone : ℕ) (x : Report) (more : List Report) → (gone == x.run) ≡ b → run ≢ gone → report_at run (without_report gone more) ≡ report_at run more → report_at run (cond b more (x ∷ without_report gone more)) ≡ report_at run (x ∷ more)
stays-tests true run gone x more test other rest = ap (λ b. cond b (Some x) (report_at run more)) (sym (other_number run x.run (λ e. other (e ∙ sym (eqb-true gone x.run test)))))
stays-tests false run gone x more test other rest = ap (λ o. cond (run == x.run) (Some x) o) rest

pub at-without-other : (run gone : ℕ) (reports : List Report) → run ≢ gone → report_at run (without_report gone reports) ≡ report_at run reports
at-without-other run gone [] other = refl
at-without-other run gone (x ∷ more) other = stays-tests (gone == x.run) run gone x more refl other (at-without-other run gone more other)

-- the report with another label
abbrev pub labelled : Label → Report → Report
labelled label r = record r { label = label }

label-tests : (b : Bool) (run : ℕ) (label : Label) (x : Report) (more : List Report) → (run == x.run) ≡ b → report_at run (report_relabelled run label more) ≡ option_map (labelled label) (report_at run more) → report_at run (cond b (labelled label x ∷ more) (x ∷ report_relabelled run label more)) ≡ option_map (labelled label) (cond b (Some x) (report_at run more))
label-tests true run label x more test rest = ap (λ b. cond b (Some (labelled label x)) (report_at run more)) test
label-tests false run label x more test rest = ap (λ b. cond b (Some x) (report_at run (report_relabelled run label more))) test ∙ rest

pub at-relabelled : (run : ℕ) (label : Label) (reports : List Report) → report_at run (report_relabelled run label reports) ≡ option_map (labelled label) (report_at run reports)
at-relabelled run label [] = refl
at-relabelled run label (x ∷ more) = label-tests (run == x.run) run label x more refl (at-relabelled run label more)

keeps-tests : (b : Bool) (run other : ℕ) (label : Label) (x : Report) (more : List Report) → (other == x.run) ≡ b → run ≢ other → report_at run (report_relabelled other label more) ≡ report_at run more → report_at run (cond b (labelled label x ∷ more) (x ∷ report_relabelled other label more)) ≡ report_at run (x ∷ more)
keeps-tests true run other label x more test apart rest =
    let here = other_number run x.run (λ e. apart (e ∙ sym (eqb-true other x.run test))) in
    ap (λ b. cond b (Some (labelled label x)) (report_at run more)) here ∙ ap (λ b. cond b (Some x) (report_at run more)) (sym here)
keeps-tests false run other label x more test apart rest = ap (λ o. cond (run == x.run) (Some x) o) rest

pub at-relabelled-other : (run other : ℕ) (label : Label) (reports : List Report) → run ≢ other → report_at run (report_relabelled other label reports) ≡ report_at run reports
at-relabelled-other run other label [] apart = refl
at-relabelled-other run other label (x ∷ more) apart = keeps-tests (other == x.run) run other label x more refl apart (at-relabelled-other run other label more apart)

-- the report with the least run above another one
abbrev pub IsLeastAbove : ℕ → List Report → Report → Type 0
IsLeastAbove run reports next = IsOneOfReports next reports × (run < next.run) × ((other : Report) → IsOneOfReports other reports → run < other.run → next.run ≤ other.run)

least-here : (run : ℕ) (x : Report) (more : List Report) → nat_lt run x.run ≡ true → AreAbove x.run more → IsLeastAbove run (x ∷ more) x
least-here run x more test above = (
  inl refl,
  ltb-true run x.run test,
  λ other is h. ⊎_elim (λ (same : other ≡ x). let n = ap (λ (z : Report). z.run) same in omega arith) (λ (behind : IsOneOfReports other more). let less = above-member x.run more other above behind in omega arith) is,
)

least-later : (run : ℕ) (x : Report) (more : List Report) (next : Report) → nat_lt run x.run ≡ false → IsLeastAbove run more next → IsLeastAbove run (x ∷ more) next
least-later run x more next test rest = (
  inr rest.0,
  rest.1,
  λ other is h. ⊎_elim (λ (same : other ≡ x). let n = ap (λ (z : Report). z.run) same in let low = not_less run x.run test in absurd (omega arith)) (λ (behind : IsOneOfReports other more). rest.2 other behind h) is,
)

next-tests : (b : Bool) (run : ℕ) (x next : Report) (more : List Report) → nat_lt run x.run ≡ b → AreAbove x.run more → (next_after run more ≡ Some next → IsLeastAbove run more next) → cond b (Some x) (next_after run more) ≡ Some next → IsLeastAbove run (x ∷ more) next
next-tests true run x next more test above rest found = subst (IsLeastAbove run (x ∷ more)) (some_is found) (least-here run x more test above)
next-tests false run x next more test above rest found = least-later run x more next test (rest found)

pub next-least : (run : ℕ) (reports : List Report) (next : Report) → AreRising reports → next_after run reports ≡ Some next → IsLeastAbove run reports next
next-least run [] next rising found = absurd (none_some found)
next-least run (x ∷ more) next rising found = next-tests (nat_lt run x.run) run x next more refl rising.0 (next-least run more next rising.1) found

none-tests : (b : Bool) (run : ℕ) (x other : Report) (more : List Report) → nat_lt run x.run ≡ b → (next_after run more ≡ None → IsOneOfReports other more → other.run ≤ run) → cond b (Some x) (next_after run more) ≡ None → IsOneOfReports other (x ∷ more) → other.run ≤ run
none-tests true run x other more test rest none is = absurd (none_some (sym none))
none-tests false run x other more test rest none is =
    ⊎_elim (λ (same : other ≡ x). let n = ap (λ (z : Report). z.run) same in let low = not_less run x.run test in omega arith) (λ (behind : IsOneOfReports other more). rest none behind) is

pub next-no : (run : ℕ) (reports : List Report) (other : Report) → next_after run reports ≡ None → IsOneOfReports other reports → other.run ≤ run
next-no run [] other none is = absurd is
next-no run (x ∷ more) other none is = none-tests (nat_lt run x.run) run x other more refl (next-no run more other) none is

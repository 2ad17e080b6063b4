-- Accepted edits leave of each run what the list of them says.
use Rattle.std.proofs.Common.{◌≡◌, ◌≢◌, ◌⊎◌, ⊎_elim, ℕ, Bool, true, false, cond, ◌==◌, List, [], ◌∷◌, ◌++◌, None, Some, Ok, ap, sym, subst, ◌∙◌, refl, append_assoc, arith}
use Rattle.std.specs.Option.{option_map}
use Rattle.std.proofs.lemmas.Bool.Decides.{nat_tests}
use Rattle.std.proofs.lemmas.List.{append-nil}
use Rattle.base_lists.proofs.Numbers.{number_itself, other_number}
use Rattle.report_file.specs.declared.label.Label.{Label}
use Rattle.report_file.specs.declared.report.Report.{Report}
use Rattle.collector.specs.Collected.{Adds, report_relabelled, report_at, with_report, without_report}
use Rattle.collector.specs.Order.{IsOneOfReports}
use Rattle.collector.specs.declared.answers.Added.{Added}
use Rattle.collector.specs.declared.answers.Added.TheVariants.{New, Repeated}
use Rattle.collector.specs.declared.collection.Held.{Held}
use Rattle.collector.proofs.Maps.{at-relabelled, at-relabelled-other, at-with, at-with-other, at-without, at-without-other}
use Rattle.collector.proofs.Ordering.{AreAbove, AreRising, above-member, from-rising, rising-from, rising-once, rising-with}
use Rattle.collector.proofs.Taking.{found-member}
use Rattle.session_edits.specs.declared.edit.Edit.{Edit}
use Rattle.session_edits.specs.declared.edit.Edit.TheVariants.{Add, Remove, Relabel, Rank}
use Rattle.session_laws.specs.Accepted.{Accepts, AreHeldOf, TakesEdit}
use Rattle.session_laws.proofs.Steps.{held-step, is-of, step, step-other, with_label}

-- the runs rise on
above-without-by : (b : Bool) (low : ℕ) (x : Report) (more rest : List Report) → AreAbove low (x ∷ more) → AreAbove low rest → AreAbove low (cond b more (x ∷ rest))
above-without-by true low x more rest above others = above.1
above-without-by false low x more rest above others = (above.0, others)

above-without : (low run : ℕ) (reports : List Report) → AreAbove low reports → AreAbove low (without_report run reports)
above-without low run [] above = tt
above-without low run (x ∷ more) above = above-without-by (run == x.run) low x more (without_report run more) above (above-without low run more above.1)

rising-without-by : (b : Bool) (x : Report) (more rest : List Report) → AreRising more → AreAbove x.run rest → AreRising rest → AreRising (cond b more (x ∷ rest))
rising-without-by true x more rest rising above others = rising
rising-without-by false x more rest rising above others = (above, others)

rising-without : (run : ℕ) (reports : List Report) → AreRising reports → AreRising (without_report run reports)
rising-without run [] rising = tt
rising-without run (x ∷ more) rising =
    rising-without-by (run == x.run) x more (without_report run more) rising.1 (above-without x.run run more rising.0) (rising-without run more rising.1)

above-relabelled-by : (b : Bool) (low : ℕ) (label : Label) (x : Report) (more rest : List Report) → AreAbove low (x ∷ more) → AreAbove low rest → AreAbove low (cond b (with_label label x ∷ more) (x ∷ rest))
above-relabelled-by true low label x more rest above others = above
above-relabelled-by false low label x more rest above others = (above.0, others)

above-relabelled : (low run : ℕ) (label : Label) (reports : List Report) → AreAbove low reports → AreAbove low (report_relabelled run label reports)
above-relabelled low run label [] above = tt
above-relabelled low run label (x ∷ more) above = above-relabelled-by (run == x.run) low label x more (report_relabelled run label more) above (above-relabelled low run label more above.1)

rising-relabelled-by : (b : Bool) (label : Label) (x : Report) (more rest : List Report) → AreRising (x ∷ more) → AreAbove x.run rest → AreRising rest → AreRising (cond b (with_label label x ∷ more) (x ∷ rest))
rising-relabelled-by true label x more rest rising above others = rising
rising-relabelled-by false label x more rest rising above others = (above, others)

rising-relabelled : (run : ℕ) (label : Label) (reports : List Report) → AreRising reports → AreRising (report_relabelled run label reports)
rising-relabelled run label [] rising = tt
rising-relabelled run label (x ∷ more) rising =
    rising-relabelled-by (run == x.run) label x more (report_relabelled run label more) rising (above-relabelled x.run run label more rising.0) (rising-relabelled run label more rising.1)

abbrev reports_of : Held → List Report
reports_of c = c.reports

added-rising : (c next : Held) (r : Report) (what : Added) → Adds c r (Ok what) next → AreRising c.reports → AreRising next.reports
added-rising c next r New t rising = subst AreRising (sym (ap reports_of t.4)) (rising-with r c.reports rising)
added-rising c next r Repeated t rising = subst AreRising (sym (ap reports_of t.2)) rising

taken-rising : (c next : Held) (e : Edit) → TakesEdit c e next → AreRising c.reports → AreRising next.reports
taken-rising c next (Add r) t rising = added-rising c next r t.0 t.1 rising
taken-rising c next (Remove run) t rising = subst AreRising (sym (ap reports_of t.1)) (rising-without run c.reports rising)
taken-rising c next (Relabel run label) t rising = subst AreRising (sym (ap reports_of t.1)) (rising-relabelled run label c.reports rising)
taken-rising c next Rank t rising = subst AreRising (sym (ap reports_of t)) rising

-- what is held of each run goes on by the edit
new-step : (c : Held) (r : Report) (run : ℕ) → report_at r.run c.reports ≡ None → (run ≡ r.run) ⊎ (run ≢ r.run) → report_at run (with_report r c.reports) ≡ step run (Add r) (report_at run c.reports)
new-step c r run absent which =
    ⊎_elim (λ (same : run ≡ r.run).
    let none : report_at run c.reports ≡ None = ap (λ n. report_at n c.reports) same ∙ absent in
    let here : (run == r.run) ≡ true = grind (arith, nat_tests) in
    ap (λ n. report_at n (with_report r c.reports)) same ∙ at-with r c.reports ∙ sym (ap (step run (Add r)) none ∙ ap (λ b. cond b (Some r) None) here))
    (λ (other : run ≢ r.run). at-with-other run r c.reports other ∙ sym (step-other run (Add r) (report_at run c.reports) other)) which

repeated-step : (c : Held) (r : Report) (run : ℕ) → report_at r.run c.reports ≡ Some r → (run ≡ r.run) ⊎ (run ≢ r.run) → report_at run c.reports ≡ step run (Add r) (report_at run c.reports)
repeated-step c r run held which =
    ⊎_elim (λ (same : run ≡ r.run).
    let some : report_at run c.reports ≡ Some r = ap (λ n. report_at n c.reports) same ∙ held in
    some ∙ sym (ap (step run (Add r)) some))
    (λ (other : run ≢ r.run). sym (step-other run (Add r) (report_at run c.reports) other)) which

added-step : (c next : Held) (r : Report) (run : ℕ) (what : Added) → Adds c r (Ok what) next → report_at run next.reports ≡ step run (Add r) (report_at run c.reports)
added-step c next r run New t = ap (λ (h : Held). report_at run h.reports) t.4 ∙ new-step c r run t.1 (is-of run (Add r))
added-step c next r run Repeated t = ap (λ (h : Held). report_at run h.reports) t.2 ∙ repeated-step c r run t.1 (is-of run (Add r))

removed-step : (run gone : ℕ) (reports : List Report) → AreRising reports → (run ≡ gone) ⊎ (run ≢ gone) → report_at run (without_report gone reports) ≡ step run (Remove gone) (report_at run reports)
removed-step run gone reports rising which =
    ⊎_elim (λ (same : run ≡ gone).
    let here : (run == gone) ≡ true = grind (arith, nat_tests) in
    ap (λ n. report_at run (without_report n reports)) (sym same) ∙ at-without run reports rising ∙ sym (ap (λ b. cond b None (report_at run reports)) here))
    (λ (other : run ≢ gone). at-without-other run gone reports other ∙ sym (step-other run (Remove gone) (report_at run reports) other)) which

relabelled-step : (run other : ℕ) (label : Label) (reports : List Report) → (run ≡ other) ⊎ (run ≢ other) → report_at run (report_relabelled other label reports) ≡ step run (Relabel other label) (report_at run reports)
relabelled-step run other label reports which =
    ⊎_elim (λ (same : run ≡ other).
    let here : (run == other) ≡ true = grind (arith, nat_tests) in
    ap (λ n. report_at run (report_relabelled n label reports)) (sym same) ∙ at-relabelled run label reports ∙ sym (ap (λ b. cond b (option_map (with_label label) (report_at run reports)) (report_at run reports)) here))
    (λ (apart : run ≢ other). at-relabelled-other run other label reports apart ∙ sym (step-other run (Relabel other label) (report_at run reports) apart)) which

taken-step : (c next : Held) (e : Edit) (run : ℕ) → TakesEdit c e next → AreRising c.reports → report_at run next.reports ≡ step run e (report_at run c.reports)
taken-step c next (Add r) run t rising = added-step c next r run t.0 t.1
taken-step c next (Remove gone) run t rising = ap (λ (h : Held). report_at run h.reports) t.1 ∙ removed-step run gone c.reports rising (is-of run (Remove gone))
taken-step c next (Relabel other label) run t rising = ap (λ (h : Held). report_at run h.reports) t.1 ∙ relabelled-step run other label c.reports (is-of run (Relabel other label))
taken-step c next Rank run t rising = ap (λ (h : Held). report_at run h.reports) t

-- one edit more
pub held-more : (c next : Held) (before : List Edit) (e : Edit) → AreHeldOf before c.reports → TakesEdit c e next → AreHeldOf (before ++ e ∷ []) next.reports
held-more c next before e held t =
    let rising = from-rising 0 c.reports held.rising in record {
      rising = rising-from next.reports (taken-rising c next e t rising);
      each = λ run. taken-step c next e run t rising ∙ ap (step run e) (held.each run) ∙ sym (held-step run before e);
    }

held-all : (edits before : List Edit) (c after : Held) → AreHeldOf before c.reports → Accepts c edits after → AreHeldOf (before ++ edits) after.reports
held-all [] before c after held accepts =
    subst (λ xs. AreHeldOf xs after.reports) (sym (append-nil before)) (subst (λ (h : Held). AreHeldOf before h.reports) (sym accepts) held)
held-all (e ∷ more) before c after held accepts =
    subst (λ xs. AreHeldOf xs after.reports) (append_assoc before (e ∷ []) more) (held-all more (before ++ e ∷ []) accepts.0 after (held-more c accepts.0 before e held accepts.1) accepts.2)

-- no edits leave nothing
pub held-none : AreHeldOf [] []
held-none = record { rising = tt; each = λ run. refl }

pub accepted-hold : (c after : Held) (edits : List Edit) → c.reports ≡ [] → Accepts c edits after → AreHeldOf edits after.reports
accepted-hold c after edits none accepts = held-all edits [] c after (subst (AreHeldOf []) (sym none) held-none) accepts

-- who is one of the reports is that of its run
member-at : (reports : List Report) (r : Report) → AreRising reports → IsOneOfReports r reports → report_at r.run reports ≡ Some r
member-at [] r rising is = absurd is
member-at (x ∷ more) r rising is =
    ⊎_elim (λ (same : r ≡ x). let here : (r.run == x.run) ≡ true = ap (λ (y : Report). r.run == y.run) (sym same) ∙ number_itself r.run in ap (λ b. cond b (Some x) (report_at r.run more)) here ∙ ap Some (sym same))
    (λ (behind : IsOneOfReports r more).
    let less = above-member x.run more r rising.0 behind in
    let other : (r.run == x.run) ≡ false = other_number r.run x.run (λ e. omega arith) in
    ap (λ b. cond b (Some x) (report_at r.run more)) other ∙ member-at more r rising.1 behind) is

-- two lists that hold the same are one
pub held-once : (edits : List Edit) (a b : List Report) → AreHeldOf edits a → AreHeldOf edits b → a ≡ b
held-once edits a b held_a held_b =
    let rising_a = from-rising 0 a held_a.rising in
    let rising_b = from-rising 0 b held_b.rising in
    rising-once a b rising_a rising_b
    (λ r is. found-member r.run b r (held_b.each r.run ∙ sym (held_a.each r.run) ∙ member-at a r rising_a is))
    (λ r is. found-member r.run a r (held_a.each r.run ∙ sym (held_b.each r.run) ∙ member-at b r rising_b is))

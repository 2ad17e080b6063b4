-- The runs of a study are runs by a plan that reads nothing and says nothing of outputs.
use Rattle.std.proofs.Common.{◌≡◌, ◌<◌, ◌+◌, inl, inr, ℕ, suc, true, List, [], ◌∷◌, ◌++◌, length, None, ap, sym, refl, subst, ◌∙◌, arith}
use Rattle.std.proofs.lemmas.List.{length-map}
use Rattle.cbi_base.specs.declared.observation.Observation.{Observation}
use Rattle.cbi_base.specs.declared.refusal.Refusal.{Refusal}
use Rattle.cbi_base.specs.declared.refusal.Refusal.TheVariants.{TooManyMarks}
use Rattle.collector.specs.Collected.{mark_limit}
use Rattle.command_base.specs.declared.fault.Fault.{Fault}
use Rattle.command_base.specs.declared.fault.Fault.TheVariants as fault
use Rattle.expected.specs.Expected.{is_expected_output}
use Rattle.flow.specs.declared.program.ProgramParts.{ProgramParts}
use Rattle.probes.specs.Told.{AllGrew}
use Rattle.planned_runs.specs.declared.input.RunInput.{RunInput}
use Rattle.planned_runs.specs.declared.runs.PlannedRuns.{PlannedRuns}
use Rattle.planned_runs.specs.Left.{HasPlanStopped, HavePlannedRun, LeftByPlan, PlanStoppedAfter, ToldWithCrowding}
use Rattle.planned_runs.specs.Runs.{ArePlannedRuns, IsPlannedRun, JudgedRun, endings_of, planned_report, planned_reports}
use Rattle.planned_runs.proofs.Lists.{endings_more}
use Rattle.study_runs.specs.declared.fault.RunsFault.{RunsFault}
use Rattle.study_runs.specs.declared.fault.RunsFault.TheVariants as faults
use Rattle.study_runs.specs.declared.plan.StudyPlan.{StudyPlan}
use Rattle.study_runs.specs.declared.runs.StudyRuns.{StudyRuns}
use Rattle.study_runs.specs.Faults.{IsOfStudy, IsSameFault}
use Rattle.study_runs.specs.Left.{AreCrowdedAt, HaveRun, HaveStopped, RunsLeftByFault, StoppedAfter}
use Rattle.study_runs.specs.MadeRun.{IsMadeRun}
use Rattle.study_runs.specs.Runs.{AreRunsFrom, IsRunOf, all_seen, marks_in, no_identity, report_of, reports_from}

-- what the plan of a study gives, reads and refuses
abbrev pub made : StudyPlan → ℕ → RunInput → Type 0
made plan number on = IsMadeRun plan.seed plan.rate number on.bank on.input × (on.expect ≡ None)

abbrev pub nothing_read : ℕ → List (List ℕ)
nothing_read number = []

abbrev pub nothing_refused : ℕ → Refusal → Type 0
nothing_refused number refusal = ⊥

-- the number of a run that was refused
marks_once : (refusal : Refusal) (a b : ℕ) → refusal ≡ TooManyMarks a → refusal ≡ TooManyMarks b → a ≡ b
marks_once refusal a b x y = let same : TooManyMarks a ≡ TooManyMarks b = sym x ∙ y in cc

module _ (p : ProgramParts) (plan : StudyPlan) where
  run_is : (number : ℕ) (r : JudgedRun) → IsPlannedRun p (made plan) plan.turns number r → IsRunOf p plan number r.ending
  run_is number r h = record { bank = h.on.bank; input = h.on.input; made = h.given.0; ends = h.ends }

  runs_are : (number : ℕ) (rs : List JudgedRun) → ArePlannedRuns p (made plan) plan.turns number rs → AreRunsFrom p plan number (endings_of rs)
  runs_are number [] are = tt
  runs_are number (r ∷ rs) are = (run_is number r are.0, runs_are (suc number) rs are.1)

  -- nothing says what the output should be
  right : (number : ℕ) (r : JudgedRun) → IsPlannedRun p (made plan) plan.turns number r → r.is_right ≡ true
  right number r h = h.right_is ∙ ap (λ e. is_expected_output e r.ending.output) h.given.1

  reports_are : (number : ℕ) (rs : List JudgedRun) → ArePlannedRuns p (made plan) plan.turns number rs → planned_reports p no_identity number rs ≡ reports_from p number (endings_of rs)
  reports_are number [] are = refl
  reports_are number (r ∷ rs) are =
      ap (λ b. planned_report p no_identity number (record { ending = r.ending; is_right = b }) ∷ planned_reports p no_identity (suc number) rs) (right number r are.0)
      ∙ ap (λ more. report_of p number r.ending ∷ more) (reports_are (suc number) rs are.1)

  module _ {B : Type 0} (told : B → List Observation) (before after : List B) where
    pub have_run : (r : PlannedRuns) (s : StudyRuns) → s.collection ≡ r.collection → s.sums ≡ r.sums → HavePlannedRun p (made plan) 1 plan.runs plan.turns told before after no_identity r
        → HaveRun p plan told before after s
    have_run r s collection_is sums_are h = record {
      endings = endings_of h.runs;
      as_many = length-map h.runs (λ (r : JudgedRun). r.ending) ∙ h.as_many;
      are = runs_are 1 h.runs h.are;
      branches = ap (λ c. c.branches) collection_is ∙ h.branches;
      reports = ap (λ c. c.reports) collection_is ∙ h.reports ∙ reports_are 1 h.runs h.are;
      sums = sums_are ∙ h.sums;
      few = h.few;
      grew = h.grew;
    }

    crowded : (refusal : Refusal) (run : ℕ) → refusal ≡ TooManyMarks run → ToldWithCrowding p (made plan) 1 plan.runs plan.turns told before after refusal → AreCrowdedAt p plan told before after run
    crowded refusal run is h =
        let c = h.is in
        let both = endings_more c.earlier c.last in
        let number : run ≡ 1 + length c.earlier = marks_once refusal run (1 + length c.earlier) is c.refusal_is in
        record {
          earlier = endings_of c.earlier;
          last = c.last.ending;
          number = omega (arith, number, length-map c.earlier (λ (r : JudgedRun). r.ending));
          within = omega (arith, number, c.within);
          are = subst (AreRunsFrom p plan 1) both (runs_are 1 (c.earlier ++ c.last ∷ []) c.are);
          few = c.few;
          many = subst (λ es. mark_limit < marks_in p es) both c.many;
          grew = subst (λ es. AllGrew told (all_seen es) before after) both h.grew;
        }

    stopped-after : (done : List JudgedRun) → PlanStoppedAfter p (made plan) 1 plan.runs plan.turns told before after done → StoppedAfter p plan told before after (endings_of done)
    stopped-after done h =
        let many = length-map done (λ (r : JudgedRun). r.ending) in
        let number : 1 + length done ≡ suc (length (endings_of done)) = omega (arith, many) in
        record {
          within = omega (arith, h.within, many);
          bank = h.on.bank;
          input = h.on.input;
          made = subst (λ n. IsMadeRun plan.seed plan.rate n h.on.bank h.on.input) number h.given.0;
          grew = h.grew;
        }

    stopped : HasPlanStopped p (made plan) 1 plan.runs plan.turns told before after → HaveStopped p plan told before after
    stopped h = record {
      done = endings_of h.done;
      few = omega (arith, h.few, length-map h.done (λ (r : JudgedRun). r.ending));
      are = runs_are 1 h.done h.are;
      left = elim h.left [ inl all ↦ inl all | inr one ↦ inr (stopped-after h.done one) ];
    }

    -- which faults there are
    pub of_study : (e : Fault) → LeftByPlan p (made plan) 1 plan.runs plan.turns told before after nothing_read nothing_refused e → IsOfStudy e
    of_study (fault.Read name) h = h.is
    of_study fault.Write h = h
    of_study (fault.Refused refusal) (inl h) = absurd h.is.refused
    of_study (fault.Refused refusal) (inr h) = (1 + length h.is.earlier, h.is.refusal_is)
    of_study fault.Memory h = tt

    pub left : (e : Fault) (f : RunsFault) → IsSameFault e f → LeftByPlan p (made plan) 1 plan.runs plan.turns told before after nothing_read nothing_refused e
        → RunsLeftByFault p plan told before after f
    left (fault.Refused refusal) (faults.TooManyMarks run) same (inl h) = absurd h.is.refused
    left (fault.Refused refusal) (faults.TooManyMarks run) same (inr h) = crowded refusal run same h
    left fault.Memory faults.Memory same h = stopped h
    left (fault.Read name) f same h = absurd same
    left fault.Write f same h = absurd same
    left (fault.Refused refusal) faults.Memory same h = absurd same
    left fault.Memory (faults.TooManyMarks run) same h = absurd same

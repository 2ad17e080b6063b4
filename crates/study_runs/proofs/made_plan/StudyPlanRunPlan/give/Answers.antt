use Rattle.std.proofs.Common.{◌≤◌, length, refl, subst, sym}
use Rattle.study_runs.specs.MadeRun.{IsMadeRun}
use Rattle.study_runs.proofs.Lines.{short}
use Rattle.study_runs.proofs.made_plan.StudyPlanRunPlan.give.Goals as goal

pub returns-clause-given : goal.returns-clause-given
returns-clause-given g c =
    (subst (λ i. IsMadeRun c.args.self.now.seed c.args.self.now.rate c.args.number c.in_ok-bank.field-0.bank i) (sym c.from_vec.ensures) c.in_ok-bank.ensures, refl)

pub returns-clause-fits : goal.returns-clause-fits
returns-clause-fits g c = subst (λ i. length i ≤ 16777216) (sym c.from_vec.ensures) (short c.made_lines_are_printable.ensures _ _ _ _ _ c.in_ok-bank.ensures)

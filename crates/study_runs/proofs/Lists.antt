-- Lists of runs with one more run.
use Rattle.std.proofs.Common.{ℕ, suc, List, [], ◌∷◌, ◌++◌, length, ◌+◌, subst, arith}
use Rattle.flow.specs.declared.program.ProgramParts.{ProgramParts}
use Rattle.flow.specs.State.{Ending}
use Rattle.study_runs.specs.declared.plan.StudyPlan.{StudyPlan}
use Rattle.study_runs.specs.Runs.{AreRunsFrom, IsRunOf}
pub use Rattle.planned_runs.proofs.Lists.{seen_more}

pub runs_more : (p : ProgramParts) (plan : StudyPlan) (number : ℕ) (es : List Ending) (e : Ending) → AreRunsFrom p plan number es → IsRunOf p plan (number + length es) e
    → AreRunsFrom p plan number (es ++ e ∷ [])
runs_more p plan number [] e are is = (subst (λ n. IsRunOf p plan n e) (omega arith) is, tt)
runs_more p plan number (x ∷ es) e are is = (are.0, runs_more p plan (suc number) es e are.1 (subst (λ n. IsRunOf p plan n e) (omega arith) is))

use Rattle.std.proofs.Common.{inr, refl, subst}
use Rattle.flow.specs.declared.site.TableParts.{TableParts}
use Rattle.elimination_tallies.specs.Recount.{runs_of}
use Rattle.ranking.specs.Ranked.{IsRankingOf}
use Rattle.study.proofs.StudyEnds.{crowded, crowded_told, never_refused, ranked, ran_told, stopped}
use Rattle.study.proofs.ranked.study.Goals as goal

pub returns-in-Err-TooManyMarks-clause-refused : goal.returns-in-Err-TooManyMarks-clause-refused
returns-in-Err-TooManyMarks-clause-refused g c =
    rw c.in-Err-TooManyMarks.field-0-is (crowded c.one_ending.ensures c.args.text.now c.args.plan c.in-Ok.program c.in-Ok.ensures.compiled _ _ _ c.in-Err-TooManyMarks.run'
    (rw c.in-Err-TooManyMarks.field-0-is at c.in-Err-TooManyMarks.ensures.left))

pub returns-in-Err-TooManyMarks-clause-left : goal.returns-in-Err-TooManyMarks-clause-left
returns-in-Err-TooManyMarks-clause-left g c =
    crowded_told c.one_ending.ensures c.args.text.now c.args.plan c.in-Ok.program c.in-Ok.ensures.compiled _ _ _ c.in-Err-TooManyMarks.run'
    (rw c.in-Err-TooManyMarks.field-0-is at c.in-Err-TooManyMarks.ensures.left)

pub returns-in-Err-Memory-run_all-clause-left : goal.returns-in-Err-Memory-run_all-clause-left
returns-in-Err-Memory-run_all-clause-left g c =
    inr (stopped c.one_ending.ensures c.args.text.now c.args.plan c.in-Ok.program c.in-Ok.ensures.compiled _ _ _
    (rw c.in-Err-Memory-run_all.field-0-is at c.in-Err-Memory-run_all.ensures.left))

pub returns-in-Err-clause-left : goal.returns-in-Err-clause-left
returns-in-Err-clause-left g c =
    inr (ran_told c.one_ending.ensures c.args.text.now c.args.plan c.in-Ok.program c.in-Ok.ensures.compiled _ _ _ c.in-Ok-run_all.ran c.in-Ok-run_all.ensures.ran)

pub returns-clause-studied : goal.returns-clause-studied
returns-clause-studied g c =
    ranked c.one_ending.ensures c.args.text.now c.args.plan c.in-Ok.program c.in-Ok.ensures.compiled _ _ _ c.in-Ok-run_all.ran _ c.in-Ok-run_all.ensures.ran
    (subst (λ (t : TableParts). IsRankingOf t c.args.plan.policy (runs_of c.in-Ok-run_all.ran.collection.reports) c.in-Ok-ranking_of.ranking.items) c.table.ensures.value c.in-Ok-ranking_of.ensures)
    refl

pub returns-clause-refused_only : goal.returns-clause-refused_only
returns-clause-refused_only g c = λ refused.
    absurd (never_refused c.one_ending.ensures c.args.text.now c.args.plan c.in-Ok.program c.in-Ok.ensures.compiled _ _ _ c.one_accepted_text.ensures.tree c.one_accepted_text.ensures.known
    c.one_made_run.ensures.bank c.one_made_run.ensures.input c.in-Ok-run_all.ran c.in-Ok-run_all.ensures.ran refused)

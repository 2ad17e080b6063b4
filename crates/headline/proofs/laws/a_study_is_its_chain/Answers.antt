use Rattle.std.proofs.Common.{map, subst, sym, ◌∙◌}
use Rattle.study.proofs.StudyEnds.{ranking_once}
use Rattle.ranking.specs.Ranked.{IsRankingOf}
use Rattle.collector.specs.Spelling.{SpellsBundle}
use Rattle.study.specs.Study.{labelled_run}
use Rattle.study.specs.Studied.{run_of, study_form}
use Rattle.headline.specs.Chain.{AreReportsOf, meant_run, meant_table}
use Rattle.headline.proofs.Ranking.{has-table}
use Rattle.headline.proofs.Studies.{all-made, by-rising, length-runs}
use Rattle.headline.proofs.laws.a_study_is_its_chain.Goals as goal

pub returns : goal.returns
returns c = λ words text file collection plan result held r ranking made study form is collected ranked program_is collection_is policy for many.
    let are : AreReportsOf file made ranked.bundle.reports =
    subst (λ runs. AreReportsOf file runs ranked.bundle.reports) (by-rising plan 1 made for)
    (c.collections_hold_their_runs.ensures file collection made ranked.bundle collected (subst (λ bytes. SpellsBundle bytes ranked.bundle) collection_is ranked.spell.spell.collection)) in
    let tree = study.compiled.tree in
    let known = study.compiled.known in
    let chain = c.a_ranking_of_runs_is_the_elimination.ensures words text file held r ranking made tree known is study.compiled.accepted ranked program_is are in
    let chained : IsRankingOf (meant_table tree known study_form) plan.policy (map (meant_run tree known study_form) made) ranking =
    subst (λ q. IsRankingOf (meant_table tree known study_form) q (map (meant_run tree known study_form) made) ranking) policy
    (subst (λ by. IsRankingOf (meant_table tree known by) r.policy (map (meant_run tree known by) made) ranking) form chain) in
    let table = has-table text study_form tree known study.program study.compiled.names study.compiled.does in
    let runs = all-made c.one_made_run.ensures.bank c.one_made_run.ensures.input tree known plan 1 (map run_of study.endings) made study.meant for
    (many ∙ sym study.as_many ∙ sym (length-runs study.endings)) in
    let studied : IsRankingOf (meant_table tree known study_form) plan.policy (map (meant_run tree known study_form) made) result.ranking.items =
    subst (λ rs. IsRankingOf (meant_table tree known study_form) plan.policy rs result.ranking.items) runs
    (subst (λ t. IsRankingOf t plan.policy (map (labelled_run t.sites) (map run_of study.endings)) result.ranking.items) table study.ranking) in
    ranking_once c.one_elimination.ensures.one (meant_table tree known study_form) plan.policy (map (meant_run tree known study_form) made) ranking result.ranking.items chained studied

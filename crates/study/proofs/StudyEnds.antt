-- What a study comes to, and what is left of one that comes to nothing.
use Rattle.std.proofs.Common.{◌≡◌, ◌≤◌, ◌<◌, ◌+◌, inl, inr, ⊎_elim, ℕ, suc, List, [], ◌∷◌, ◌++◌, length, map, ap, ap₂, sym, subst, ◌∙◌, arith, length-append}
use Rattle.std.proofs.lemmas.List.{length-map}
use Rattle.cbi_base.specs.declared.observation.Observation.{Observation}
use Rattle.c_syntax.specs.ItemTree.{SourceTree}
use Rattle.c_types_expressions.specs.declared.walk.Walk.{Walk}
use Rattle.collector.specs.Collected.{mark_limit}
use Rattle.collector.specs.Sites.{branches_of}
use Rattle.cbi_base.specs.declared.policy.Policy.{Policy}
use Rattle.elimination_tallies.specs.declared.labelled.LabelledRun.{LabelledRun}
use Rattle.elimination.specs.Laws.{OneElimination}
use Rattle.elimination_tallies.specs.Recount.{runs_of}
use Rattle.flow.specs.declared.program.ProgramParts.{ProgramParts}
use Rattle.flow.specs.declared.site.Site.{Site}
use Rattle.flow.specs.declared.site.TableParts.{TableParts}
use Rattle.flow.specs.Words.{OneEnding, table_of, Ending}
use Rattle.probes.specs.Told.{AllGrew, AllGrewByPrefix}
use Rattle.probes.proofs.Growing.{AllGrewByPrefix-whole}
use Rattle.ranking.specs.Ranked.{IsRankingOf}
use Rattle.ranking.specs.Ranking.{ranking_text}
use Rattle.report_file.specs.declared.report.Report.{Report}
use Rattle.defined_functions.specs.Functions.{functions_of}
use Rattle.sites.specs.Table.{sites_of}
use Rattle.sites.specs.Wanted.{all_schemes}
use Rattle.study_runs.specs.declared.plan.StudyPlan.{StudyPlan}
use Rattle.study_runs.specs.declared.runs.StudyRuns.{StudyRuns}
use Rattle.study_runs.specs.Left.{AreCrowdedAt, HaveRun, HaveStopped, StoppedAfter}
use Rattle.study_runs.specs.Runs.{AreRunsFrom, IsRunOf}
use Rattle.study_runs.specs.Runs as runs
use Rattle.study_runs.proofs.Lists.{runs_more, seen_more}
use Rattle.study.specs.declared.ranked.StudyResult.{StudyResult}
use Rattle.compiler.specs.Compiled.{IsCompiled}
use Rattle.study.specs.Study.{AreCrowded, AreStudyRuns, StudyRun, labelled_run, marks_in, study_sites}
use Rattle.study.specs.Studied.{AreCrowdedRuns, AreToldInPart, IsRefusedStudy, IsStudied, IsStudy, run_of, study_form}
use Rattle.compiler.proofs.Refusing.{OneKnown, OneTree, moved}
use Rattle.study.proofs.Studying.{OneBank, OneInput, labels_same, marks_grow, marks_same, mean, next, one_list, runs_snoc, seen_same}

module _ (one_ending : OneEnding) (text : List ℕ) (plan : StudyPlan) (p : ProgramParts) (c : IsCompiled text study_form p) where
  means : (number : ℕ) (endings : List Ending) → AreRunsFrom p plan number endings → AreStudyRuns c.tree c.known plan number (map run_of endings)
  means = mean one_ending c.tree c.known plan p c.does

  -- the entries of the machine's runs are those of the study's
  marks_are : (endings : List Ending) → runs.marks_in p endings ≡ marks_in (study_sites c.tree c.known plan) (map run_of endings)
  marks_are endings = marks_same p endings ∙ ap (λ (t : List Site). marks_in t (map run_of endings)) c.does.sites

  module _ {B : Type 0} (told : B → List Observation) (before after : List B) where
    pub crowded : (run : ℕ) → AreCrowdedAt p plan told before after run → AreCrowdedRuns text plan run
    crowded run h = record {
      tree = c.tree;
      known = c.known;
      accepted = c.accepted;
      fits = c.fits;
      crowded = record {
        earlier = map run_of h.earlier;
        last = run_of h.last;
        number = h.number ∙ ap suc (sym (length-map h.earlier run_of));
        within = h.within;
        are = subst (AreStudyRuns c.tree c.known plan 1) (runs_snoc h.earlier h.last) (means 1 (h.earlier ++ h.last ∷ []) h.are);
        few = subst (λ n. n ≤ mark_limit) (marks_are h.earlier) h.few;
        many = subst (λ n. mark_limit < n) (marks_are (h.earlier ++ h.last ∷ []) ∙ ap (marks_in (study_sites c.tree c.known plan)) (runs_snoc h.earlier h.last)) h.many;
      };
    }

    -- runs that ended, of which each watcher was told a prefix at least
    in_part : (endings : List Ending) → AreRunsFrom p plan 1 endings → length endings ≤ plan.runs → AllGrewByPrefix told (runs.all_seen endings) before after → AreToldInPart text plan told before after
    in_part endings are few grew = record {
      tree = c.tree;
      known = c.known;
      accepted = c.accepted;
      runs = map run_of endings;
      few = omega (arith, few, length-map endings run_of);
      are = means 1 endings are;
      grew = subst (λ l. AllGrewByPrefix told l before after) (seen_same endings) grew;
    }

    told_whole : (endings : List Ending) → AreRunsFrom p plan 1 endings → length endings ≤ plan.runs → AllGrew told (runs.all_seen endings) before after → AreToldInPart text plan told before after
    told_whole endings are few grew = in_part endings are few (AllGrewByPrefix-whole told (runs.all_seen endings) before after grew)

    pub ran_told : (r : StudyRuns) → HaveRun p plan told before after r → AreToldInPart text plan told before after
    ran_told r h = told_whole h.endings h.are (omega (arith, h.as_many)) h.grew

    pub crowded_told : (run : ℕ) → AreCrowdedAt p plan told before after run → AreToldInPart text plan told before after
    crowded_told run h =
        told_whole (h.earlier ++ h.last ∷ []) h.are (omega (arith, length-append h.earlier (h.last ∷ []), h.number, h.within)) h.grew

    stopped_in : (done : List Ending) → AreRunsFrom p plan 1 done → StoppedAfter p plan told before after done → AreToldInPart text plan told before after
    stopped_in done are s =
        let n = next one_ending c.tree c.known plan p c.does (suc (length done)) s.bank s.input s.made in
        let is : IsRunOf p plan (1 + length done) n.0 = subst (λ k. IsRunOf p plan k n.0) (omega arith) (record { bank = s.bank; input = s.input; made = s.made; ends = n.1 }) in
        in_part (done ++ n.0 ∷ []) (runs_more p plan 1 done n.0 are is) (omega (arith, length-append done (n.0 ∷ []), s.within))
        (subst (λ l. AllGrewByPrefix told l before after) (sym (seen_more done n.0)) (s.grew n.0 n.1))

    pub stopped : HaveStopped p plan told before after → AreToldInPart text plan told before after
    stopped h = ⊎_elim (λ grew. told_whole h.done h.are h.few grew) (λ s. stopped_in h.done h.are s) h.left

    pub ranked : (r : StudyRuns) (result : StudyResult) → HaveRun p plan told before after r → IsRankingOf (table_of p) plan.policy (runs_of r.collection.reports) result.ranking.items
        → result.sums ≡ r.sums → IsStudied text plan told before after result
    ranked r result h ranking sums = record {
      study = record {
        program = p;
        compiled = c;
        endings = h.endings;
        as_many = h.as_many;
        ran = h.are;
        meant = means 1 h.endings h.are;
        few = subst (λ n. n ≤ mark_limit) (marks_same p h.endings) h.few;
        ranking = subst (λ (l : List LabelledRun). IsRankingOf (table_of p) plan.policy l result.ranking.items)
            (ap (λ (l : List Report). runs_of l) h.reports ∙ labels_same p 1 h.endings) ranking;
        sums = sums ∙ h.sums;
      };
      grew = subst (λ l. AllGrew told l before after) (seen_same h.endings) h.grew;
    }

    -- a study that ran isn't refused
    pub never_refused : OneTree → OneKnown → OneBank → OneInput → (r : StudyRuns) → HaveRun p plan told before after r → IsRefusedStudy text plan → ⊥
    never_refused one_tree one_known one_bank one_input r h (inl refused) = refused c.tree c.known c.accepted c.fits
    never_refused one_tree one_known one_bank one_input r h (inr (run, x)) =
        let crowds : AreCrowded c.tree c.known plan run = moved one_tree one_known text (λ t v. AreCrowded t v plan run) x.tree c.tree x.known c.known x.accepted c.accepted x.crowded in
        let table = study_sites c.tree c.known plan in
        let all = map run_of h.endings in
        let some = crowds.earlier ++ crowds.last ∷ [] in
        let grows : marks_in table some ≤ marks_in table all = marks_grow one_bank one_input c.tree c.known plan table 1 some all crowds.are (means 1 h.endings h.are)
        (omega (arith, length-append crowds.earlier (crowds.last ∷ []), crowds.number, crowds.within, h.as_many, length-map h.endings run_of)) in
        omega (arith, grows, crowds.many, marks_are h.endings, h.few)

-- runs have one ranking
pub ranking_once : OneElimination → (table : TableParts) (policy : Policy) (runs : List LabelledRun) (a b : List ℕ) → IsRankingOf table policy runs a → IsRankingOf table policy runs b → a ≡ b
ranking_once one table policy runs a b x y = x.text_is ∙ ap (ranking_text table) (one (branches_of table.sites) policy runs x.rows y.rows x.ranked y.ranked) ∙ sym y.text_is

-- studies of one text with one plan have the same runs, the same table and the same ranking
module _ (one : OneElimination) (one_tree : OneTree) (one_known : OneKnown) (one_bank : OneBank) (one_input : OneInput) (text : List ℕ) (plan : StudyPlan) (r s : StudyResult)
    (x : IsStudy text plan r) (y : IsStudy text plan s) where
  across : (P : SourceTree → Walk → Type 0) → P y.compiled.tree y.compiled.known → P x.compiled.tree x.compiled.known
  across P h = moved one_tree one_known text P y.compiled.tree x.compiled.tree y.compiled.known x.compiled.known y.compiled.accepted x.compiled.accepted h

  same_runs : map run_of x.endings ≡ map run_of y.endings
  same_runs =
      one_list one_bank one_input x.compiled.tree x.compiled.known plan 1 (map run_of x.endings) (map run_of y.endings) x.meant
      (across (λ t v. AreStudyRuns t v plan 1 (map run_of y.endings)) y.meant)
      (length-map x.endings run_of ∙ x.as_many ∙ sym y.as_many ∙ sym (length-map y.endings run_of))

  same_table : table_of x.program ≡ table_of y.program
  same_table =
      let sites : x.program.sites ≡ y.program.sites = x.compiled.does.sites ∙ sym (across (λ t v. y.program.sites ≡ sites_of t v all_schemes) y.compiled.does.sites) in
      let names : (table_of x.program).functions ≡ (table_of y.program).functions =
      x.compiled.names ∙ sym (across (λ t v. (table_of y.program).functions ≡ functions_of t) y.compiled.names) in
      ap₂ (λ l ns. let t : TableParts = record { sites = l; functions = ns } in t) sites names

  pub same_ranking : r.ranking.items ≡ s.ranking.items
  same_ranking =
      ranking_once one (table_of y.program) plan.policy (map (labelled_run y.program.sites) (map run_of y.endings)) r.ranking.items s.ranking.items
      (subst (λ (t : TableParts). IsRankingOf t plan.policy (map (labelled_run t.sites) (map run_of y.endings)) r.ranking.items) same_table
      (subst (λ (l : List StudyRun). IsRankingOf (table_of x.program) plan.policy (map (labelled_run x.program.sites) l) r.ranking.items) same_runs x.ranking))
      y.ranking

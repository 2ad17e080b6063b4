-- What a study of a text comes to, and the texts and plans that are refused. `told` is what one watcher was told.
use Rattle.std.specs.Prelude.{◌≡◌, ◌⊎◌, ℕ, ◌≤◌, List, length, map, None}
use Rattle.cbi_base.specs.declared.observation.Observation.{Observation}
use Rattle.cbi_base.specs.declared.refusal.Refusal.{Refusal}
use Rattle.cbi_base.specs.declared.refusal.Refusal.TheVariants.{TooManyMarks}
use Rattle.c_syntax.specs.ItemTree.{SourceTree}
use Rattle.c_types_expressions.specs.declared.walk.Walk.{Walk}
use Rattle.collector.specs.Collected.{mark_limit}
use Rattle.flow.specs.declared.program.ProgramParts.{ProgramParts}
use Rattle.flow.specs.Words.{table_of, Ending}
use Rattle.probes.specs.Told.{AllGrew, AllGrewByPrefix}
use Rattle.ranking.specs.Ranked.{IsRankingOf}
use Rattle.sites.specs.Wanted.{all_schemes}
use Rattle.study_runs.specs.declared.plan.StudyPlan.{StudyPlan}
use Rattle.study_runs.specs.Runs.{AreRunsFrom}
use Rattle.study_runs.specs.Sums.{sums_of}
use Rattle.compiler.specs.Accepted.{IsAccepted}
use Rattle.compiler.specs.declared.plan.Plan.{Plan}
use Rattle.compiler.specs.declared.plan.Plan.TheVariants.{Sampled}
use Rattle.study.specs.declared.ranked.StudyFault.{StudyFault}
use Rattle.study.specs.declared.ranked.StudyFault.TheVariants as faults
use Rattle.study.specs.declared.ranked.StudyResult.{StudyResult}
use Rattle.compiler.specs.Compiled.{IsCompiled}
use Rattle.compiler.specs.Planned.{FitsPlan}
use Rattle.compiler.specs.Refused.{IsRefusedText, RefusesText}
use Rattle.study.specs.Study.{AreCrowded, AreStudyRuns, StudyRun, all_seen, labelled_run, marks_in}

-- what a text is compiled to for a study
abbrev pub study_form : Plan
study_form = Sampled all_schemes None

-- a run of the machine, as a study sees it
abbrev pub run_of : Ending → StudyRun
run_of ending = record { outcome = ending.outcome; seen = ending.seen }

-- a text is compiled for a study, but the runs up to this one have too many entries
pub record AreCrowdedRuns (text : List ℕ) (plan : StudyPlan) (run : ℕ) : Type 0 where
  pub tree : SourceTree
  pub known : Walk
  pub accepted : IsAccepted text tree known
  pub fits : FitsPlan study_form tree known
  pub crowded : AreCrowded tree known plan run

-- which refusal it is
abbrev pub RefusesStudy : List ℕ → StudyPlan → Refusal → Type 0
RefusesStudy text plan (TooManyMarks run) = AreCrowdedRuns text plan run
RefusesStudy text plan refusal = RefusesText study_form refusal text

-- the text is refused, or its runs are
abbrev pub IsRefusedStudy : List ℕ → StudyPlan → Type 0
IsRefusedStudy text plan = IsRefusedText study_form text ⊎ ((run : ℕ) × AreCrowdedRuns text plan run)

-- it is refused by this refusal, or memory is wanting
abbrev pub StudyRefusedWith : List ℕ → StudyPlan → StudyFault → Type 0
StudyRefusedWith text plan (faults.Refused refusal) = RefusesStudy text plan refusal
StudyRefusedWith text plan faults.Memory = Unit {0}

-- The text is compiled to a program, which samples its visits. The runs by the machine are the study's, as the text means them: the ranking is that of
-- their elimination, and the sums are those of their outcomes and of the machine's work.
pub record IsStudy (text : List ℕ) (plan : StudyPlan) (result : StudyResult) : Type 0 where
  pub program : ProgramParts
  pub compiled : IsCompiled text study_form program
  pub endings : List Ending
  pub as_many : length endings ≡ plan.runs
  pub ran : AreRunsFrom program plan 1 endings
  pub meant : AreStudyRuns compiled.tree compiled.known plan 1 (map run_of endings)
  pub few : marks_in program.sites (map run_of endings) ≤ mark_limit
  pub ranking : IsRankingOf (table_of program) plan.policy (map (labelled_run program.sites) (map run_of endings)) result.ranking.items
  pub sums : result.sums ≡ sums_of endings

module _ (text : List ℕ) (plan : StudyPlan) {B : Type 0} (told : B → List Observation) (before after : List B) where
  -- so it is, and each watcher was told what the runs saw, one after another
  pub record IsStudied (result : StudyResult) : Type 0 where
    pub study : IsStudy text plan result
    pub grew : AllGrew told (all_seen (map run_of study.endings)) before after

  -- each watcher was told a prefix of what runs of the study from the first on see
  pub record AreToldInPart : Type 0 where
    pub tree : SourceTree
    pub known : Walk
    pub accepted : IsAccepted text tree known
    pub runs : List StudyRun
    pub few : length runs ≤ plan.runs
    pub are : AreStudyRuns tree known plan 1 runs
    pub grew : AllGrewByPrefix told (all_seen runs) before after

  -- what watchers were told before a fault: nothing of a text that is refused
  abbrev pub LeftByStudy : StudyFault → Type 0
  LeftByStudy (faults.Refused (TooManyMarks run)) = AreToldInPart
  LeftByStudy (faults.Refused refusal) = after ≡ before
  LeftByStudy faults.Memory = (after ≡ before) ⊎ AreToldInPart

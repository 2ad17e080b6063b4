-- A study of a text: runs that are made by their numbers, each as the text means it.
use Rattle.std.specs.Prelude.{◌≡◌, ◌<◌, ◌≤◌, ℕ, suc, true, List, [], ◌∷◌, ◌++◌, length, flat_map, sum_by}
use Rattle.cbi_base.specs.declared.observation.Observation.{Observation}
use Rattle.cbi_base.specs.declared.outcome.Outcome.{Outcome}
use Rattle.c_syntax.specs.ItemTree.{SourceTree}
use Rattle.c_types_expressions.specs.declared.walk.Walk.{Walk}
use Rattle.c_meaning.specs.Words.{Behaviour, text_meaning}
use Rattle.collector.specs.Collected.{mark_limit}
use Rattle.countdown_bank.specs.Bank.{BankState, number_after}
use Rattle.elimination_tallies.specs.declared.labelled.LabelledRun.{LabelledRun}
use Rattle.flow.specs.declared.site.Site.{Site}
use Rattle.flow.specs.Words.{counts_of, samples}
use Rattle.study_runs.specs.MadeRun.{IsMadeRun}
use Rattle.report_file.specs.declared.report.Entry.{Entry}
use Rattle.report_file.specs.Label.{label_of}
use Rattle.report_file.specs.Report.{entries_of}
use Rattle.sites.specs.Table.{sites_of}
use Rattle.sites.specs.Wanted.{all_schemes}
use Rattle.study_runs.specs.declared.plan.StudyPlan.{StudyPlan}

-- how a run ends, and what its sites see
pub record StudyRun : Type 0 where
  pub outcome : Outcome
  pub seen : List Observation

-- all that runs see, one after another
abbrev pub all_seen : List StudyRun → List Observation
all_seen runs = flat_map (λ (r : StudyRun). r.seen) runs

-- the entries of a run: the sites of the table that saw something, with their counters
abbrev pub run_entries : List Site → StudyRun → List Entry
run_entries table r = entries_of (counts_of table r.seen)

-- how many entries runs have
abbrev pub marks_in : List Site → List StudyRun → ℕ
marks_in table runs = sum_by (λ (r : StudyRun). length (run_entries table r)) runs

-- A run as a ranking sees it. Nothing says what its output should be, so that a run that ended succeeds.
abbrev pub labelled_run : List Site → StudyRun → LabelledRun
labelled_run table r = record { label = label_of r.outcome true; entries = run_entries table r }

module _ (tree : SourceTree) (known : Walk) (plan : StudyPlan) where
  -- the sites of all schemes
  abbrev pub study_sites : List Site
  study_sites = sites_of tree known all_schemes

  -- what the text means on an input
  abbrev pub study_meaning : List ℕ → Behaviour
  study_meaning input = text_meaning tree known study_sites input plan.turns

  -- The run with this number, on the bank and the line that are made for it: it ends as the text means, and its sites see the samples of the text's
  -- visits.
  pub record IsStudyRun (number : ℕ) (r : StudyRun) : Type 0 where
    pub bank : BankState
    pub input : List ℕ
    pub made : IsMadeRun plan.seed plan.rate number bank input
    pub outcome : r.outcome ≡ (study_meaning input).outcome
    pub seen : r.seen ≡ samples (number_after bank) (study_meaning input).seen

  -- the runs from this number on
  abbrev pub AreStudyRuns : ℕ → List StudyRun → Type 0
  AreStudyRuns number [] = Unit {0}
  AreStudyRuns number (r ∷ more) = IsStudyRun number r × AreStudyRuns (suc number) more

  -- The entries of the runs up to this one are more than a collection holds, and those of the runs before it aren't.
  pub record AreCrowded (run : ℕ) : Type 0 where
    pub earlier : List StudyRun
    pub last : StudyRun
    pub number : run ≡ suc (length earlier)
    pub within : run ≤ plan.runs
    pub are : AreStudyRuns 1 (earlier ++ last ∷ [])
    pub few : marks_in study_sites earlier ≤ mark_limit
    pub many : mark_limit < marks_in study_sites (earlier ++ last ∷ [])

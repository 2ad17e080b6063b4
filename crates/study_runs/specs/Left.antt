-- What the runs of a study come to, and what is left where not all of them are collected. `told` is what one watcher was told.
use Rattle.std.specs.Prelude.{◌≡◌, ◌⊎◌, ℕ, suc, ◌<◌, ◌≤◌, List, [], ◌∷◌, ◌++◌, length}
use Rattle.cbi_base.specs.declared.observation.Observation.{Observation}
use Rattle.collector.specs.Collected.{mark_limit}
use Rattle.collector.specs.Sites.{branches_of}
use Rattle.countdown_bank.specs.Bank.{BankState, number_after}
use Rattle.flow.specs.declared.program.ProgramParts.{ProgramParts}
use Rattle.flow.specs.Words.{MachineEnds, Ending}
use Rattle.study_runs.specs.MadeRun.{IsMadeRun}
use Rattle.probes.specs.Told.{AllGrew, AllGrewByPrefix}
use Rattle.study_runs.specs.declared.fault.RunsFault.{RunsFault}
use Rattle.study_runs.specs.declared.fault.RunsFault.TheVariants as faults
use Rattle.study_runs.specs.declared.plan.StudyPlan.{StudyPlan}
use Rattle.study_runs.specs.declared.runs.StudyRuns.{StudyRuns}
use Rattle.study_runs.specs.Runs.{AreRunsFrom, all_seen, marks_in, reports_from}
use Rattle.study_runs.specs.Sums.{sums_of}

module _ {B : Type 0} (p : ProgramParts) (plan : StudyPlan) (told : B → List Observation) (before after : List B) where
  -- all runs ended so: their reports are collected and summed up, and each watcher was told what they observed, one after another
  pub record HaveRun (r : StudyRuns) : Type 0 where
    pub endings : List Ending
    pub as_many : length endings ≡ plan.runs
    pub are : AreRunsFrom p plan 1 endings
    pub branches : r.collection.branches ≡ branches_of p.sites
    pub reports : r.collection.reports ≡ reports_from p 1 endings
    pub sums : r.sums ≡ sums_of endings
    pub few : marks_in p endings ≤ mark_limit
    pub grew : AllGrew told (all_seen endings) before after

  -- the entries of the runs up to this one are more than a collection holds, and those of the runs before it aren't
  pub record AreCrowdedAt (run : ℕ) : Type 0 where
    pub earlier : List Ending
    pub last : Ending
    pub number : run ≡ suc (length earlier)
    pub within : run ≤ plan.runs
    pub are : AreRunsFrom p plan 1 (earlier ++ last ∷ [])
    pub few : marks_in p earlier ≤ mark_limit
    pub many : mark_limit < marks_in p (earlier ++ last ∷ [])
    pub grew : AllGrew told (all_seen (earlier ++ last ∷ [])) before after

  -- the run after these stopped before its end
  pub record StoppedAfter (done : List Ending) : Type 0 where
    pub within : length done < plan.runs
    pub bank : BankState
    pub input : List ℕ
    pub made : IsMadeRun plan.seed plan.rate (suc (length done)) bank input
    pub grew : (ending : Ending) → MachineEnds p input (number_after bank) plan.turns ending → AllGrewByPrefix told (all_seen done ++ ending.seen) before after

  -- So many runs ended: each watcher was told what they observed, and maybe a prefix of what the next run observes.
  pub record HaveStopped : Type 0 where
    pub done : List Ending
    pub few : length done ≤ plan.runs
    pub are : AreRunsFrom p plan 1 done
    pub left : AllGrew told (all_seen done) before after ⊎ StoppedAfter done

  -- what is left by each fault
  abbrev pub RunsLeftByFault : RunsFault → Type 0
  RunsLeftByFault (faults.TooManyMarks run) = AreCrowdedAt run
  RunsLeftByFault faults.Memory = HaveStopped

-- What runs by a plan come to, why they stop, and what is left where not all of them are collected. `gives` says what a run is made on, by its number,
-- `refuses` why there is none, `names` what is read for it, and `told` what one watcher was told.
use Rattle.std.specs.Prelude.{◌≡◌, ◌⊎◌, ℕ, ◌+◌, ◌<◌, ◌≤◌, List, [], ◌∷◌, ◌++◌, length}
use Rattle.cbi_base.specs.declared.identity.ProgramId.{ProgramId}
use Rattle.cbi_base.specs.declared.observation.Observation.{Observation}
use Rattle.cbi_base.specs.declared.refusal.Refusal.{Refusal}
use Rattle.cbi_base.specs.declared.refusal.Refusal.TheVariants.{TooManyMarks}
use Rattle.collector.specs.Collected.{mark_limit}
use Rattle.collector.specs.Sites.{branches_of}
use Rattle.command_base.specs.declared.fault.Fault.{Fault}
use Rattle.command_base.specs.declared.fault.Fault.TheVariants as fault
use Rattle.command_base.specs.Names.{IsOneOf}
use Rattle.countdown_bank.specs.Bank.{number_after}
use Rattle.flow.specs.declared.program.ProgramParts.{ProgramParts}
use Rattle.flow.specs.Words.{MachineEnds, Ending}
use Rattle.probes.specs.Told.{AllGrew, AllGrewByPrefix}
use Rattle.planned_runs.specs.declared.input.RunInput.{RunInput}
use Rattle.planned_runs.specs.declared.runs.PlannedRuns.{PlannedRuns}
use Rattle.planned_runs.specs.Labels.{labels_of}
use Rattle.planned_runs.specs.Runs.{ArePlannedRuns, JudgedRun, all_seen, endings_of, marks_in, planned_reports}
use Rattle.planned_runs.specs.Sums.{sums_of}

-- so many runs of a program, from the first number on
module _ (p : ProgramParts) (gives : ℕ → RunInput → Type 0) (first count turns : ℕ) where
  module _ (refuses : ℕ → Refusal → Type 0) where
    -- the runs before it ended so, with few enough entries, and the plan refuses the next
    pub record IsNextRefused (refusal : Refusal) : Type 0 where
      pub earlier : List JudgedRun
      pub within : length earlier < count
      pub are : ArePlannedRuns p gives turns first earlier
      pub few : marks_in p (endings_of earlier) ≤ mark_limit
      pub refused : refuses (first + length earlier) refusal

  -- the entries of the runs up to this one are more than a collection holds, and those of the runs before it aren't
  pub record IsNextCrowding (refusal : Refusal) : Type 0 where
    pub earlier : List JudgedRun
    pub last : JudgedRun
    pub within : length earlier < count
    pub are : ArePlannedRuns p gives turns first (earlier ++ last ∷ [])
    pub few : marks_in p (endings_of earlier) ≤ mark_limit
    pub many : mark_limit < marks_in p (endings_of (earlier ++ last ∷ []))
    pub refusal_is : refusal ≡ TooManyMarks (first + length earlier)

  -- the runs are refused by this refusal
  abbrev pub PlanRefusedBy : (refuses : ℕ → Refusal → Type 0) → Refusal → Type 0
  PlanRefusedBy refuses refusal = IsNextRefused refuses refusal ⊎ IsNextCrowding refusal

  module _ {B : Type 0} (told : B → List Observation) (before after : List B) where
    -- all runs ended so: their reports are collected, summed up and counted, and each watcher was told what they observed, one after another
    pub record HavePlannedRun (id : ProgramId) (r : PlannedRuns) : Type 0 where
      pub runs : List JudgedRun
      pub as_many : length runs ≡ count
      pub are : ArePlannedRuns p gives turns first runs
      pub program : r.collection.program ≡ id
      pub branches : r.collection.branches ≡ branches_of p.sites
      pub reports : r.collection.reports ≡ planned_reports p id first runs
      pub sums : r.sums ≡ sums_of (endings_of runs)
      pub labels : r.labels ≡ labels_of runs
      pub few : marks_in p (endings_of runs) ≤ mark_limit
      pub grew : AllGrew told (all_seen (endings_of runs)) before after

    -- the next run wasn't made, since one of its names wasn't read: each watcher was told what the runs before it observed
    pub record IsNextUnread (names : ℕ → List (List ℕ)) (name : List ℕ) : Type 0 where
      pub earlier : List JudgedRun
      pub within : length earlier < count
      pub are : ArePlannedRuns p gives turns first earlier
      pub few : marks_in p (endings_of earlier) ≤ mark_limit
      pub is : IsOneOf (names (first + length earlier)) name
      pub grew : AllGrew told (all_seen (endings_of earlier)) before after

    -- the plan refused the next run: so was it
    pub record ToldBeforeRefused (refuses : ℕ → Refusal → Type 0) (refusal : Refusal) : Type 0 where
      pub is : IsNextRefused refuses refusal
      pub grew : AllGrew told (all_seen (endings_of is.earlier)) before after

    -- the next run had too many entries: each was told what the runs up to it observed
    pub record ToldWithCrowding (refusal : Refusal) : Type 0 where
      pub is : IsNextCrowding refusal
      pub grew : AllGrew told (all_seen (endings_of (is.earlier ++ is.last ∷ []))) before after

    -- the run after these stopped before its end
    pub record PlanStoppedAfter (done : List JudgedRun) : Type 0 where
      pub within : length done < count
      pub on : RunInput
      pub given : gives (first + length done) on
      pub grew : (ending : Ending) → MachineEnds p on.input (number_after on.bank) turns ending
          → AllGrewByPrefix told (all_seen (endings_of done) ++ ending.seen) before after

    -- So many runs ended: each watcher was told what they observed, and maybe a prefix of what the next run observes.
    pub record HasPlanStopped : Type 0 where
      pub done : List JudgedRun
      pub few : length done ≤ count
      pub are : ArePlannedRuns p gives turns first done
      pub left : AllGrew told (all_seen (endings_of done)) before after ⊎ PlanStoppedAfter done

    -- what is left by each fault
    abbrev pub LeftByPlan : (names : ℕ → List (List ℕ)) (refuses : ℕ → Refusal → Type 0) → Fault → Type 0
    LeftByPlan names refuses (fault.Read name) = IsNextUnread names name
    LeftByPlan names refuses fault.Write = ⊥
    LeftByPlan names refuses (fault.Refused refusal) = ToldBeforeRefused refuses refusal ⊎ ToldWithCrowding refusal
    LeftByPlan names refuses fault.Memory = HasPlanStopped

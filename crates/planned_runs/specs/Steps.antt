-- What one more run does. `told` is what one watcher was told.
use Rattle.std.specs.Prelude.{◌≡◌, ◌⊎◌, ℕ, ◌+◌, ◌<◌, ◌≤◌, List, length}
use Rattle.cbi_base.specs.declared.identity.ProgramId.{ProgramId}
use Rattle.cbi_base.specs.declared.observation.Observation.{Observation}
use Rattle.cbi_base.specs.declared.refusal.Refusal.{Refusal}
use Rattle.cbi_base.specs.declared.refusal.Refusal.TheVariants.{TooManyMarks}
use Rattle.collector.specs.declared.collection.Held.{Held}
use Rattle.collector.specs.Collected.{mark_limit, marks_of, with_report}
use Rattle.collector.specs.Sites.{branches_of}
use Rattle.command_base.specs.declared.fault.Fault.{Fault}
use Rattle.command_base.specs.declared.fault.Fault.TheVariants as fault
use Rattle.command_base.specs.Names.{IsOneOf}
use Rattle.countdown_bank.specs.Bank.{number_after}
use Rattle.expected.specs.Expected.{is_expected_output}
use Rattle.flow.specs.declared.program.ProgramParts.{ProgramParts}
use Rattle.flow.specs.Words.{MachineEnds, Ending}
use Rattle.probes.specs.Told.{AllGrew, AllGrewByPrefix}
use Rattle.report_file.specs.declared.report.Report.{Report}
use Rattle.report_file.specs.Report.{IsWork}
use Rattle.planned_runs.specs.declared.input.RunInput.{RunInput}
use Rattle.planned_runs.specs.declared.one_run.Ran.{Ran}
use Rattle.planned_runs.specs.Labels.{judged_label}
use Rattle.planned_runs.specs.Runs.{JudgedRun, planned_report}

-- the collection is one of reports of the program with this identity, with the program's sites
pub record IsOfProgram (p : ProgramParts) (id : ProgramId) (c : Held) : Type 0 where
  pub program : c.program ≡ id
  pub branches : c.branches ≡ branches_of p.sites

-- the report is held, under its run
pub record Holds (r : Report) (c held : Held) : Type 0 where
  pub few : marks_of c.reports + length r.entries ≤ mark_limit
  pub held_is : held ≡ record c { reports = with_report r c.reports }

-- with the entries of the report there would be too many
pub record IsOverfull (r : Report) (c : Held) (refusal : Refusal) : Type 0 where
  pub refusal_is : refusal ≡ TooManyMarks r.run
  pub many : mark_limit < marks_of c.reports + length r.entries

module _ {B : Type 0} (p : ProgramParts) (id : ProgramId) (number turns : ℕ) (told : B → List Observation) (before after : List B) where
  -- the run on this ended, and each watcher was told what it observed
  pub record HasEnded (on : RunInput) (run : JudgedRun) : Type 0 where
    pub ends : MachineEnds p on.input (number_after on.bank) turns run.ending
    pub right_is : run.is_right ≡ is_expected_output on.expect run.ending.output
    pub grew : AllGrew told run.ending.seen before after

  -- it ended, and its report is held
  pub record IsRunHeld (on : RunInput) (ran : Ran) (c held : Held) : Type 0 where
    pub run : JudgedRun
    pub ended : HasEnded on run
    pub outcome : ran.outcome ≡ run.ending.outcome
    pub work : ran.work ≡ run.ending.work
    pub label : ran.label ≡ judged_label run
    pub is_work : IsWork ran.work
    pub holds : Holds (planned_report p id number run) c held

  -- it ended, and its report has too many entries
  pub record IsCrowding (on : RunInput) (c : Held) (refusal : Refusal) : Type 0 where
    pub run : JudgedRun
    pub ended : HasEnded on run
    pub refusal_is : refusal ≡ TooManyMarks number
    pub many : mark_limit < marks_of c.reports + length (planned_report p id number run).entries

  -- it stopped before its end, and each watcher was told a prefix of what it observes
  pub record RunBrokeOff (on : RunInput) : Type 0 where
    pub grew : (ending : Ending) → MachineEnds p on.input (number_after on.bank) turns ending → AllGrewByPrefix told ending.seen before after

  -- it stopped before its end, or ended
  abbrev pub RunStopped : RunInput → Type 0
  RunStopped on = RunBrokeOff on ⊎ ((run : JudgedRun) × HasEnded on run)

  -- what is left by each fault
  abbrev pub RunFailed : RunInput → Held → Fault → Type 0
  RunFailed on c (fault.Read name) = ⊥
  RunFailed on c fault.Write = ⊥
  RunFailed on c (fault.Refused refusal) = IsCrowding on c refusal
  RunFailed on c fault.Memory = RunStopped on

  module _ (gives : ℕ → RunInput → Type 0) where
    -- the run was made on what is given, and its report is held
    pub record IsNextHeld (ran : Ran) (c held : Held) : Type 0 where
      pub on : RunInput
      pub given : gives number on
      pub is : IsRunHeld on ran c held

    -- it was made, and has too many entries
    pub record IsGivenCrowding (c : Held) (refusal : Refusal) : Type 0 where
      pub on : RunInput
      pub given : gives number on
      pub is : IsCrowding on c refusal

    -- it was begun, and stopped
    pub record IsGivenStopped : Type 0 where
      pub on : RunInput
      pub given : gives number on
      pub is : RunStopped on

    -- The plan refuses the run, and no watcher was told anything.
    pub record IsNotGiven (refuses : ℕ → Refusal → Type 0) (refusal : Refusal) : Type 0 where
      pub refused : refuses number refusal
      pub same : after ≡ before

    -- One of its names wasn't read, and no watcher was told anything.
    pub record IsNotRead (names : ℕ → List (List ℕ)) (name : List ℕ) : Type 0 where
      pub is : IsOneOf (names number) name
      pub same : after ≡ before

    -- what is left by each fault
    abbrev pub NextFailed : (names : ℕ → List (List ℕ)) (refuses : ℕ → Refusal → Type 0) → Held → Fault → Type 0
    NextFailed names refuses c (fault.Read name) = IsNotRead names name
    NextFailed names refuses c fault.Write = ⊥
    NextFailed names refuses c (fault.Refused refusal) = IsNotGiven refuses refusal ⊎ IsGivenCrowding c refusal
    NextFailed names refuses c fault.Memory = (after ≡ before) ⊎ IsGivenStopped

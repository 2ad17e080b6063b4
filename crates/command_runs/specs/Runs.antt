-- What the command `runs` does: out takes the text of the collection of the runs on the lines of a list, and the watchers are told what the runs observe.
-- `told` is what one watcher was told.
use Rattle.std.specs.Prelude.{◌≡◌, ◌⊎◌, ◌≤◌, ℕ, List, length, Option}
use Rattle.sha2.specs.Sha256.{sha256}
use Rattle.cbi_base.specs.declared.observation.Observation.{Observation}
use Rattle.cbi_base.specs.declared.refusal.Refusal.{Refusal}
use Rattle.cbi_base.specs.Store.{Held}
use Rattle.flow.specs.declared.program.ProgramParts.{ProgramParts}
use Rattle.probes.specs.Told.{AllGrew}
use Rattle.collector.specs.declared.collection.Held.{Held as Collected}
use Rattle.collector.specs.Collected.{mark_limit}
use Rattle.collector.specs.Collecting.{IsCollection}
use Rattle.collector.specs.Sites.{branches_of}
use Rattle.collector.specs.Spelling.{collection_text}
use Rattle.planned_runs.specs.Labels.{labels_of}
use Rattle.planned_runs.specs.Left.{LeftByPlan, PlanRefusedBy}
use Rattle.planned_runs.specs.Runs.{ArePlannedRuns, JudgedRun, all_seen, endings_of, marks_in, names_from, planned_reports}
use Rattle.command_base.specs.declared.done.Done.{Done}
use Rattle.command_base.specs.declared.done.Done.TheVariants.{Counted}
use Rattle.command_base.specs.declared.fault.Fault.{Fault}
use Rattle.command_base.specs.declared.fault.Fault.TheVariants.{Read, Write, Refused, Memory}
use Rattle.command_base.specs.Names.{AreHeld, IsFirstMissing, IsOneOf}
use Rattle.command_base.specs.Outside.{IsUnmoved, Outside, TookDue, TookWithin}
use Rattle.command_runs.specs.Line.{IsMadeOn, RefusesLine, names_of_line}
use Rattle.command_runs.specs.Lists.{AreBadTexts, AreListTexts, IsLinesPlan, RefusesFirst, first_names}
use Rattle.command_runs.specs.declared.plan.ListedPlan.{ListedPlan}
use Rattle.command_runs.specs.declared.texts.ListTexts.{ListTexts}
use Rattle.cbi_options.specs.declared.words.RunsWords.{RunsWords}

-- the collection of the reports of these runs, from the first number on
abbrev pub runs_collection : ListTexts → ProgramParts → (first : ℕ) → List JudgedRun → Collected
runs_collection texts parts first runs = record {
  program = record { bytes = sha256 texts.program };
  branches = branches_of parts.sites;
  reports = planned_reports parts (record { bytes = sha256 texts.program }) first runs;
}

-- what is said of them: how many there are, and how many failed, succeeded and did neither
abbrev pub said_of : List JudgedRun → Done
said_of runs = Counted (length runs) (labels_of runs).failed (labels_of runs).succeeded (labels_of runs).neither

-- what is read gives a run to each line of the lists, and these runs end so
pub record AreListedRuns (held : Option Held) (r : RunsWords) (texts : ListTexts) (p : ProgramParts) (plan : ListedPlan) (runs : List JudgedRun) : Type 0 where
  pub is_plan : IsLinesPlan held r texts p plan
  pub as_many : length runs ≡ length plan.inputs
  pub are : ArePlannedRuns p (IsMadeOn plan held) r.turns plan.first runs
  pub few : marks_in p (endings_of runs) ≤ mark_limit

-- the names that are read for the lines, in this order
abbrev pub names_of_lines : ListedPlan → List (List ℕ)
names_of_lines plan = names_from (names_of_line plan) plan.first (length plan.inputs)

-- the first texts are read, and spell a program and the lists of this plan
pub record GivesPlan (r : RunsWords) (held : Option Held) (plan : ListedPlan) : Type 0 where
  pub texts : ListTexts
  pub parts : ProgramParts
  pub is_plan : IsLinesPlan held r texts parts plan

-- a name that is read for a line
pub record IsLineName (r : RunsWords) (held : Option Held) (name : List ℕ) : Type 0 where
  pub plan : ListedPlan
  pub gives : GivesPlan r held plan
  pub is : IsOneOf (names_of_lines plan) name

-- a name that is read: before any run is made, or for a line
abbrev pub IsRunsName : RunsWords → Option Held → List ℕ → Type 0
IsRunsName r held name = IsOneOf (first_names r) name ⊎ IsLineName r held name

-- each of those names is held
pub record AreRunsHeld (r : RunsWords) (held : Option Held) : Type 0 where
  pub first : AreHeld held (first_names r)
  pub lines : (plan : ListedPlan) → GivesPlan r held plan → AreHeld held (names_of_lines plan)

-- the first of the lines' names that isn't held, where those before them are
pub record IsLineMissing (r : RunsWords) (held : Option Held) (name : List ℕ) : Type 0 where
  pub first : AreHeld held (first_names r)
  pub plan : ListedPlan
  pub gives : GivesPlan r held plan
  pub missing : IsFirstMissing held (names_of_lines plan) name

-- the first of all those names that isn't held
abbrev pub IsRunsMissing : RunsWords → Option Held → List ℕ → Type 0
IsRunsMissing r held name = IsFirstMissing held (first_names r) name ⊎ IsLineMissing r held name

-- before any run is made the bytes read are refused
pub record AreRefusedFirst (r : RunsWords) (held : Option Held) : Type 0 where
  pub texts : ListTexts
  pub are_texts : AreListTexts held r texts
  pub bad : AreBadTexts r texts

-- by this refusal
pub record IsRefusedFirst (r : RunsWords) (held : Option Held) (refusal : Refusal) : Type 0 where
  pub texts : ListTexts
  pub are_texts : AreListTexts held r texts
  pub refused : RefusesFirst r texts refusal

-- A run is refused: its input is too large, or with its entries there are too many.
pub record IsRefusedLater (r : RunsWords) (held : Option Held) (refusal : Refusal) : Type 0 where
  pub texts : ListTexts
  pub parts : ProgramParts
  pub plan : ListedPlan
  pub is_plan : IsLinesPlan held r texts parts plan
  pub refused : PlanRefusedBy parts (IsMadeOn plan held) plan.first (length plan.inputs) r.turns (RefusesLine plan held) refusal

-- the bytes read are refused, and by which refusal
abbrev pub ListedRefused : RunsWords → Option Held → Type 0
ListedRefused r held = AreRefusedFirst r held ⊎ ((refusal : Refusal) × IsRefusedLater r held refusal)

abbrev pub ListedRefusedBy : RunsWords → Option Held → Refusal → Type 0
ListedRefusedBy r held refusal = IsRefusedFirst r held refusal ⊎ IsRefusedLater r held refusal

module _ {B : Type 0} (told : B → List Observation) (r : RunsWords) (before after : Outside B) where
  -- All runs ended, and each watcher was told what they observed, one after another. This text of their collection is due, and so is this said of them.
  pub record HaveAllRun (said : Done) (text : List ℕ) : Type 0 where
    pub texts : ListTexts
    pub parts : ProgramParts
    pub plan : ListedPlan
    pub runs : List JudgedRun
    pub are : AreListedRuns before.held r texts parts plan runs
    pub grew : AllGrew told (all_seen (endings_of runs)) before.boxes after.boxes
    pub fits : IsCollection (runs_collection texts parts plan.first runs)
    pub text_is : text ≡ collection_text (runs_collection texts parts plan.first runs)
    pub said_is : said ≡ said_of runs

  -- out took that text, and no name holds anything else
  pub record RunsDone (said : Done) : Type 0 where
    pub out : TookDue (HaveAllRun said) before.out after.out
    pub held : after.held ≡ before.held

  -- out took a prefix of it
  pub record RunsTaken : Type 0 where
    pub said : Done
    pub out : TookWithin (HaveAllRun said) before.out after.out
    pub held : after.held ≡ before.held

  -- Not all runs were made: out took nothing, and each watcher was told what is told before this fault.
  pub record RunsStopped (fault : Fault) : Type 0 where
    pub texts : ListTexts
    pub parts : ProgramParts
    pub plan : ListedPlan
    pub is_plan : IsLinesPlan before.held r texts parts plan
    pub out : after.out ≡ before.out
    pub held : after.held ≡ before.held
    pub boxes : LeftByPlan parts (IsMadeOn plan before.held) plan.first (length plan.inputs) r.turns told before.boxes after.boxes
        (names_of_line plan) (RefusesLine plan before.held) fault

  -- what a fault of the command leaves
  abbrev pub LeftByRuns : Fault → Type 0
  LeftByRuns (Read name) = (IsUnmoved before after × IsOneOf (first_names r) name) ⊎ RunsStopped (Read name)
  LeftByRuns Write = RunsTaken
  LeftByRuns (Refused refusal) = (IsUnmoved before after × IsRefusedFirst r before.held refusal) ⊎ RunsStopped (Refused refusal)
  LeftByRuns Memory = IsUnmoved before after ⊎ (RunsStopped Memory ⊎ RunsTaken)

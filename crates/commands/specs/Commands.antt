-- What each command reads, does, leaves, tells and refuses. Where the words read as none, nothing is done, left, told or refused.
-- `told` is what one watcher was told.
use Rattle.std.specs.Prelude.{◌≡◌, ◌⊎◌, ℕ, List, [], Option, Some, None}
use Rattle.cbi_base.specs.declared.observation.Observation.{Observation}
use Rattle.cbi_base.specs.Store.{Held}
use Rattle.cbi_base.specs.declared.refusal.Refusal.{Refusal}
use Rattle.cbi_words.specs.declared.command.Command.{Command}
use Rattle.cbi_words.specs.declared.command.Command.TheVariants.{Transform, Run, Bank, Collect, Rank, Study, Session, Widen, Cards, Pairs, Lines, Bugs, Runs}
use Rattle.study.specs.declared.ranked.StudyFault.TheVariants as faults
use Rattle.command_base.specs.declared.fault.Fault.{Fault}
use Rattle.command_base.specs.declared.fault.Fault.TheVariants as command_fault
use Rattle.command_base.specs.declared.done.Done.{Done}
use Rattle.command_base.specs.declared.done.Done.TheVariants as done
use Rattle.command_base.specs.declared.done.Done.TheVariants.{Nothing}
use Rattle.command_base.specs.Faults.{WriteFaultOf}
use Rattle.command_base.specs.Names.{AreHeld, IsFirstMissing, IsOneOf}
use Rattle.command_base.specs.Outside.{IsUnmoved, Outside, Wrote, WroteWithin}
use Rattle.command_bank.specs.MadeBank.{IsMadeText}
use Rattle.command_run.specs.Files.{run_names}
use Rattle.command_run.specs.Run.{Ran, StoppedWithin, BrokeOff, RunRefused, RunRefusedBy}
use Rattle.command_collect.specs.Collect.{CollectRefused, CollectRefusedBy, IsCollected, IsCollectedText, collect_names}
use Rattle.command_rank.specs.Rank.{IsRanked, RankRefused, RankRefusedBy, rank_names}
use Rattle.command_transform.specs.Transform.{IsTransformed, TransformRefused, TransformRefusedBy, transform_names}
use Rattle.command_study.specs.Study.{StudyDone, StudyLeft, StudyRefused, StudyRefusedBy, StudyTaken, study_names}
use Rattle.command_session.specs.Session.{IsReplayed, SessionRefused, SessionRefusedBy, session_names}
use Rattle.command_widen.specs.Widen.{IsWidened, WidenRefused, WidenRefusedBy, widen_names}
use Rattle.command_cards.specs.Cards.{CardsRefused, CardsRefusedBy, IsDealt, cards_names}
use Rattle.command_pairs.specs.Pairs.{IsPaired, PairsRefused, PairsRefusedBy, pairs_names}
use Rattle.command_lines.specs.Lines.{AreLinesListed, LinesRefused, LinesRefusedBy, lines_names}
use Rattle.command_bugs.specs.Bugs.{AreBugsListed, BugsRefused, BugsRefusedBy, bugs_names}
use Rattle.command_runs.specs.Lists.{first_names}
use Rattle.command_runs.specs.Runs.{AreRunsHeld, IsRunsMissing, IsRunsName, LeftByRuns, ListedRefused, ListedRefusedBy, RunsDone, RunsStopped, RunsTaken}

-- the names that its words give to be read, in the order of its reads
abbrev pub command_names : Option Command → List (List ℕ)
command_names None = []
command_names (Some (Transform words)) = transform_names words
command_names (Some (Run words)) = run_names words
command_names (Some (Bank words)) = []
command_names (Some (Collect words)) = collect_names words
command_names (Some (Rank words)) = rank_names words
command_names (Some (Study words)) = study_names words
command_names (Some (Session words)) = session_names words
command_names (Some (Widen words)) = widen_names words
command_names (Some (Cards words)) = cards_names words
command_names (Some (Pairs words)) = pairs_names words
command_names (Some (Lines words)) = lines_names words
command_names (Some (Bugs words)) = bugs_names words
command_names (Some (Runs words)) = first_names words

-- It reads this name: one that its words give, or for `runs` one that its lists give.
abbrev pub IsReadName : Option Command → Option Held → (name : List ℕ) → Type 0
IsReadName (Some (Runs words)) held name = IsRunsName words held name
IsReadName command held name = IsOneOf (command_names command) name

-- all names that it reads are held
abbrev pub AreReadHeld : Option Command → Option Held → Type 0
AreReadHeld (Some (Runs words)) held = AreRunsHeld words held
AreReadHeld command held = AreHeld held (command_names command)

-- the first of them that isn't held
abbrev pub IsReadMissing : Option Command → Option Held → (name : List ℕ) → Type 0
IsReadMissing (Some (Runs words)) held name = IsRunsMissing words held name
IsReadMissing command held name = IsFirstMissing held (command_names command) name

-- the name that it writes, where there is one
abbrev pub written_by : Option Command → Option (List ℕ)
written_by (Some (Run words)) = words.report
written_by command = None

-- what it does where nothing goes wrong, and what it says of it
abbrev pub Did : {B : Type 0} → (told : B → List Observation) → Option Command → (before after : Outside B) → (said : Done) → Type 0
Did told None before after said = ⊥
Did told (Some (Transform words)) before after said = Wrote (IsTransformed before.held words) before after × (said ≡ Nothing)
Did told (Some (Run words)) before after said = Ran told words before after × (said ≡ done.Lines)
Did told (Some (Bank words)) before after said = Wrote (IsMadeText words) before after × (said ≡ Nothing)
Did told (Some (Collect words)) before after said = Wrote (IsCollected before.held words said) before after
Did told (Some (Rank words)) before after said = Wrote (IsRanked before.held words) before after × (said ≡ Nothing)
Did told (Some (Study words)) before after said = StudyDone told words before after × (said ≡ done.Lines)
Did told (Some (Session words)) before after said = Wrote (IsReplayed before.held words) before after × (said ≡ Nothing)
Did told (Some (Widen words)) before after said = Wrote (IsWidened before.held words) before after × (said ≡ Nothing)
Did told (Some (Cards words)) before after said = Wrote (IsDealt before.held words) before after × (said ≡ Nothing)
Did told (Some (Pairs words)) before after said = Wrote (IsPaired before.held words) before after × (said ≡ Nothing)
Did told (Some (Lines words)) before after said = Wrote (AreLinesListed before.held words) before after × (said ≡ Nothing)
Did told (Some (Bugs words)) before after said = Wrote (AreBugsListed before.held words) before after × (said ≡ Nothing)
Did told (Some (Runs words)) before after said = RunsDone told words before after said

-- what it leaves where out or the store doesn't take all that is written
abbrev pub LeftOn : {B : Type 0} → (told : B → List Observation) → Option Command → (before after : Outside B) → Type 0
LeftOn told None before after = ⊥
LeftOn told (Some (Transform words)) before after = WroteWithin (IsTransformed before.held words) before after
LeftOn told (Some (Run words)) before after = StoppedWithin told words before after
LeftOn told (Some (Bank words)) before after = WroteWithin (IsMadeText words) before after
LeftOn told (Some (Collect words)) before after = WroteWithin (IsCollectedText before.held words) before after
LeftOn told (Some (Rank words)) before after = WroteWithin (IsRanked before.held words) before after
LeftOn told (Some (Study words)) before after = StudyTaken told words before after
LeftOn told (Some (Session words)) before after = WroteWithin (IsReplayed before.held words) before after
LeftOn told (Some (Widen words)) before after = WroteWithin (IsWidened before.held words) before after
LeftOn told (Some (Cards words)) before after = WroteWithin (IsDealt before.held words) before after
LeftOn told (Some (Pairs words)) before after = WroteWithin (IsPaired before.held words) before after
LeftOn told (Some (Lines words)) before after = WroteWithin (AreLinesListed before.held words) before after
LeftOn told (Some (Bugs words)) before after = WroteWithin (AreBugsListed before.held words) before after
LeftOn told (Some (Runs words)) before after = RunsTaken told words before after

-- what it leaves where memory is wanting before it is done
abbrev pub LeftWithin : {B : Type 0} → (told : B → List Observation) → Option Command → (before after : Outside B) → Type 0
LeftWithin told (Some (Run words)) before after =
    BrokeOff told words before after
    ⊎ StoppedWithin told words before after
LeftWithin told (Some (Study words)) before after =
    StudyLeft told words faults.Memory before after
    ⊎ StudyTaken told words before after
LeftWithin told (Some (Runs words)) before after =
    RunsStopped told words before after command_fault.Memory
    ⊎ RunsTaken told words before after
LeftWithin told command before after = ⊥

-- what it leaves where memory is wanting before it is done, or when what came of it is to be told
abbrev pub LeftWanting : {B : Type 0} → (told : B → List Observation) → Option Command → (before after : Outside B) → Type 0
LeftWanting told command before after =
    LeftWithin told command before after ⊎ (LeftOn told command before after ⊎ ((said : Done) × Did told command before after said))

-- What it leaves where a file isn't read: `runs` may have made runs before, and any other command leaves what was there.
abbrev pub LeftUnread : {B : Type 0} → (told : B → List Observation) → Option Command → (name : List ℕ) → (before after : Outside B) → Type 0
LeftUnread told (Some (Runs words)) name before after = LeftByRuns told words before after (command_fault.Read name)
LeftUnread told command name before after = IsUnmoved before after

-- What it leaves by a refusal: `study` and `runs` may have made runs before they are refused, and any other command leaves what was there.
abbrev pub LeftRefused : {B : Type 0} → (told : B → List Observation) → Option Command → Refusal → (before after : Outside B) → Type 0
LeftRefused told None refusal before after = ⊥
LeftRefused told (Some (Study words)) refusal before after = StudyLeft told words (faults.Refused refusal) before after
LeftRefused told (Some (Runs words)) refusal before after = LeftByRuns told words before after (command_fault.Refused refusal)
LeftRefused told (Some command) refusal before after = IsUnmoved before after

-- what a fault of it leaves
abbrev pub LeftByFault : {B : Type 0} → (told : B → List Observation) → Option Command → Fault → (before after : Outside B) → Type 0
LeftByFault told command (command_fault.Read name) before after = LeftUnread told command name before after
LeftByFault told command command_fault.Write before after = LeftOn told command before after
LeftByFault told command (command_fault.Refused refusal) before after = LeftRefused told command refusal before after
LeftByFault told command command_fault.Memory before after = IsUnmoved before after ⊎ LeftWithin told command before after

-- the bytes read are refused
abbrev pub IsRefused : Option Command → Option Held → Type 0
IsRefused (Some (Transform words)) held = TransformRefused words held
IsRefused (Some (Run words)) held = RunRefused words held
IsRefused (Some (Collect words)) held = CollectRefused words held
IsRefused (Some (Rank words)) held = RankRefused words held
IsRefused (Some (Study words)) held = StudyRefused words held
IsRefused (Some (Session words)) held = SessionRefused words held
IsRefused (Some (Widen words)) held = WidenRefused words held
IsRefused (Some (Cards words)) held = CardsRefused words held
IsRefused (Some (Pairs words)) held = PairsRefused words held
IsRefused (Some (Lines words)) held = LinesRefused words held
IsRefused (Some (Bugs words)) held = BugsRefused words held
IsRefused (Some (Runs words)) held = ListedRefused words held
IsRefused command held = ⊥

-- the refusal that is told of them
abbrev pub IsRefusedBy : Option Command → Option Held → Refusal → Type 0
IsRefusedBy (Some (Transform words)) held refusal = TransformRefusedBy words held refusal
IsRefusedBy (Some (Run words)) held refusal = RunRefusedBy words held refusal
IsRefusedBy (Some (Collect words)) held refusal = CollectRefusedBy words held refusal
IsRefusedBy (Some (Rank words)) held refusal = RankRefusedBy words held refusal
IsRefusedBy (Some (Study words)) held refusal = StudyRefusedBy words held refusal
IsRefusedBy (Some (Session words)) held refusal = SessionRefusedBy words held refusal
IsRefusedBy (Some (Widen words)) held refusal = WidenRefusedBy words held refusal
IsRefusedBy (Some (Cards words)) held refusal = CardsRefusedBy words held refusal
IsRefusedBy (Some (Pairs words)) held refusal = PairsRefusedBy words held refusal
IsRefusedBy (Some (Lines words)) held refusal = LinesRefusedBy words held refusal
IsRefusedBy (Some (Bugs words)) held refusal = BugsRefusedBy words held refusal
IsRefusedBy (Some (Runs words)) held refusal = ListedRefusedBy words held refusal
IsRefusedBy command held refusal = ⊥

-- a write met a fault: one to out, or one to the store of a command that writes there
abbrev pub WriteFault : Option Command → (out store : Type 0) → Type 0
WriteFault command out store = WriteFaultOf (written_by command) out store

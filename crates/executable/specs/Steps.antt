-- Calls one after another, each with status 0: what the files hold under the names that a call reads is what an earlier call put out or left.
use Rattle.std.specs.Prelude.{◌≡◌, ◌≤◌, ℕ, List, [], ◌∷◌, ◌++◌, length, Some}
use Rattle.std.specs.FinMap.{get}
use Rattle.cbi_base.specs.Store.{Held}
use Rattle.cbi_options.specs.declared.words.TransformWords.{TransformWords}
use Rattle.cbi_options.specs.declared.words.RunWords.{RunWords}
use Rattle.cbi_options.specs.declared.words.RunsWords.{RunsWords}
use Rattle.cbi_options.specs.declared.words.CollectWords.{CollectWords}
use Rattle.cbi_options.specs.declared.words.RankWords.{RankWords}
use Rattle.cbi_options.specs.declared.words.CardsWords.{CardsWords}
use Rattle.cbi_options.specs.declared.words.PairsWords.{PairsWords}
use Rattle.cbi_options.specs.declared.words.LinesWords.{LinesWords}
use Rattle.cbi_options.specs.declared.words.BugsWords.{BugsWords}
use Rattle.cbi_options.specs.declared.words.SessionWords.{SessionWords}
use Rattle.cbi_options.specs.declared.words.StudyWords.{StudyWords}
use Rattle.cbi_words.specs.declared.command.Command.{Command}
use Rattle.cbi_words.specs.declared.command.Command.TheVariants.{Transform, Run, Collect, Runs, Rank, Study, Session, Cards, Pairs, Lines, Bugs}
use Rattle.command_inputs.specs.Collections.{file_limit}
use Rattle.executable.specs.Call.{Call, IsCall, command_of}

-- the call is one of the executable, its words read as this command, and it ended with status 0
pub record Succeeds (command : Command) (call : Call) : Type 0 where
  pub is_call : IsCall call
  pub asks : command_of call ≡ Some command
  pub ended : call.status ≡ 0

-- under the name stands this text, no longer than what is read of a program or of reports
pub record Stands (files : Held) (name text : List ℕ) : Type 0 where
  pub there : get files name ≡ Some text
  pub short : length text ≤ file_limit

-- so do these texts under these names
abbrev pub AllStand : Held → (names texts : List (List ℕ)) → Type 0
AllStand files [] [] = Unit {0}
AllStand files [] (text ∷ texts) = ⊥
AllStand files (name ∷ names) [] = ⊥
AllStand files (name ∷ names) (text ∷ texts) = Stands files name text × AllStand files names texts

-- `transform` of this C text
pub record Transforms (words : TransformWords) (text : List ℕ) (call : Call) : Type 0 where
  pub succeeds : Succeeds (Transform words) call
  pub reads : get call.before words.text ≡ Some text

-- `run` of this program, which left this text under the name of `--report`
pub record LeavesReport (program : List ℕ) (call : Call) (text : List ℕ) : Type 0 where
  pub words : RunWords
  pub succeeds : Succeeds (Run words) call
  pub reads : Stands call.before words.program program
  pub name : List ℕ
  pub named : words.report ≡ Some name
  pub leaves : get call.after name ≡ Some text

-- `collect` of these texts for this program
pub record Collects (program : List ℕ) (texts : List (List ℕ)) (call : Call) : Type 0 where
  pub words : CollectWords
  pub succeeds : Succeeds (Collect words) call
  pub reads : Stands call.before words.program program
  pub reads_texts : AllStand call.before words.files texts

-- Calls of `run` of this program, and texts of these runs, one after another: the report that a call left, or a collection that `collect` put out of such
-- texts.
pub data Leave (program : List ℕ) : (runs : List Call) → (texts : List (List ℕ)) → Type 0 where
  NoCalls : Leave program [] []
  ARun : {run : Call} {runs : List Call} {text : List ℕ} {texts : List (List ℕ)} → LeavesReport program run text → Leave program runs texts →
      Leave program (run ∷ runs) (text ∷ texts)
  ACollect : {collect : Call} {inner runs : List Call} {within texts : List (List ℕ)} → Collects program within collect → Leave program inner within →
      Leave program runs texts → Leave program (inner ++ runs) (collect.out ∷ texts)

-- `runs` of this program
pub record RunsListed (program : List ℕ) (call : Call) : Type 0 where
  pub words : RunsWords
  pub succeeds : Succeeds (Runs words) call
  pub reads : Stands call.before words.program program

-- `rank`, `cards`, `pairs`, `lines` and `bugs` of this collection for this program
pub record Ranks (words : RankWords) (program collection : List ℕ) (call : Call) : Type 0 where
  pub succeeds : Succeeds (Rank words) call
  pub reads : Stands call.before words.program program
  pub reads_collection : Stands call.before words.collection collection

pub record Deals (words : CardsWords) (program collection : List ℕ) (call : Call) : Type 0 where
  pub succeeds : Succeeds (Cards words) call
  pub reads : Stands call.before words.program program
  pub reads_collection : Stands call.before words.collection collection

pub record Finds (words : PairsWords) (program collection : List ℕ) (call : Call) : Type 0 where
  pub succeeds : Succeeds (Pairs words) call
  pub reads : Stands call.before words.program program
  pub reads_collection : Stands call.before words.collection collection

pub record ListsLines (words : LinesWords) (program collection : List ℕ) (call : Call) : Type 0 where
  pub succeeds : Succeeds (Lines words) call
  pub reads : Stands call.before words.program program
  pub reads_collection : Stands call.before words.collection collection

pub record ListsBugs (words : BugsWords) (program collection : List ℕ) (call : Call) : Type 0 where
  pub succeeds : Succeeds (Bugs words) call
  pub reads : Stands call.before words.program program
  pub reads_collection : Stands call.before words.collection collection

-- `session` of these edits for this program
pub record Replays (words : SessionWords) (program edits : List ℕ) (call : Call) : Type 0 where
  pub succeeds : Succeeds (Session words) call
  pub reads : Stands call.before words.program program
  pub reads_edits : Stands call.before words.edits edits

-- `study` of this C text
pub record Studies (words : StudyWords) (text : List ℕ) (call : Call) : Type 0 where
  pub succeeds : Succeeds (Study words) call
  pub reads : get call.before words.text ≡ Some text

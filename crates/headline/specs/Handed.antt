-- What one command hands to the next: the texts of reports that a store holds, those of collections, and the runs that are behind them.
use Rattle.std.specs.Prelude.{◌≡◌, ℕ, ◌==◌, nat_lt, if◌then◌else◌, List, [], ◌∷◌, ◌++◌, Option, Some, None, IsSome}
use Rattle.std.specs.FinMap.{get}
use Rattle.cbi_base.specs.Store.{Held}
use Rattle.command_base.specs.declared.done.Done.{Done}
use Rattle.command_run.specs.Run.{IsReported}
use Rattle.cbi_options.specs.declared.words.CollectWords.{CollectWords}
use Rattle.command_collect.specs.Collect.{IsCollected}
use Rattle.headline.specs.Calls.{IsLeftByRuns}
use Rattle.headline.specs.Chain.{Made}

-- the store holds this text under the name
abbrev pub HoldsText : Option Held → (name text : List ℕ) → Type 0
HoldsText None name text = ⊥
HoldsText (Some held) name text = get held name ≡ Some text

-- `run` read this program file, and over a store that tells what it holds it left this text under the name of its report
pub record IsLeftByRun (file : List ℕ) (made : Made) (text : List ℕ) : Type 0 where
  pub before : Option Held
  pub after : Option Held
  pub ran : IsReported made.words before after
  pub files_are : made.files ≡ ran.files
  pub bank_is : made.bank ≡ ran.run.bank
  pub program_is : made.files.program ≡ file
  pub name : List ℕ
  pub named : made.words.report ≡ Some name
  pub tells : IsSome before
  pub holds : HoldsText after name text

-- `collect` read this program file and these texts, and this collection was due
pub record IsLeftByCollect (file : List ℕ) (texts : List (List ℕ)) (collection : List ℕ) : Type 0 where
  pub held : Option Held
  pub words : CollectWords
  pub said : Done
  pub collected : IsCollected held words said collection
  pub program_is : collected.texts.program ≡ file
  pub texts_are : collected.texts.files ≡ texts

-- Texts that `run`, `runs` and `collect` left of a program file, one after another, and the runs whose reports they hold: of a report its own run, of
-- what `runs` left its runs, and of a collection the runs of the texts that were collected, which are such texts themselves.
pub data HoldRuns (file : List ℕ) : List Made → List (List ℕ) → Type 0 where
  NoTexts : HoldRuns file [] []
  AReport : {made : Made} {more : List Made} {text : List ℕ} {texts : List (List ℕ)} → IsLeftByRun file made text → HoldRuns file more texts →
      HoldRuns file (made ∷ more) (text ∷ texts)
  ListedRuns : {made more : List Made} {text : List ℕ} {texts : List (List ℕ)} → IsLeftByRuns file made text → HoldRuns file more texts →
      HoldRuns file (made ++ more) (text ∷ texts)
  ACollection : {made more : List Made} {text : List ℕ} {inner texts : List (List ℕ)} → IsLeftByCollect file inner text → HoldRuns file made inner →
      HoldRuns file more texts → HoldRuns file (made ++ more) (text ∷ texts)

-- this collection was made of such texts
pub record IsCollectionOf (file : List ℕ) (made : List Made) (collection : List ℕ) : Type 0 where
  pub texts : List (List ℕ)
  pub left : IsLeftByCollect file texts collection
  pub hold : HoldRuns file made texts

-- by rising number, of each number one: the first
abbrev pub with_first : {A : Type 0} → (A → ℕ) → A → List A → List A
with_first number one [] = one ∷ []
with_first number one (x ∷ more) =
    if nat_lt (number one) (number x) then one ∷ x ∷ more else (if number one == number x then one ∷ more else x ∷ with_first number one more)

abbrev pub firsts_by_number : {A : Type 0} → (A → ℕ) → List A → List A
firsts_by_number number [] = []
firsts_by_number number (one ∷ more) = with_first number one (firsts_by_number number more)

abbrev pub made_number : Made → ℕ
made_number made = made.words.run

-- so are runs
abbrev pub by_number : List Made → List Made
by_number made = firsts_by_number made_number made

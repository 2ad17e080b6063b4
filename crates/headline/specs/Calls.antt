-- What `runs` does, as calls of the other commands: of each line a bank that is made and a run that is reported, and the collection of the reports.
use Rattle.std.specs.Prelude.{◌≡◌, ℕ, suc, List, [], ◌∷◌, length, Option, IsSome}
use Rattle.cbi_base.specs.Store.{Held}
use Rattle.flow.specs.declared.program.ProgramParts.{ProgramParts}
use Rattle.collector.specs.Collecting.{IsCollection}
use Rattle.collector.specs.Spelling.{collection_text}
use Rattle.planned_runs.specs.Runs.{JudgedRun}
use Rattle.command_run.specs.Run.{IsBankOf}
use Rattle.command_runs.specs.declared.plan.ListedPlan.{ListedPlan}
use Rattle.command_runs.specs.declared.texts.ListTexts.{ListTexts}
use Rattle.cbi_options.specs.declared.words.RunsWords.{RunsWords}
use Rattle.command_runs.specs.Line.{IsMadeOn}
use Rattle.command_runs.specs.Runs.{AreListedRuns, runs_collection}
use Rattle.headline.specs.Chain.{Made}

-- the call of `run` for this number: on the program file, and on what the line gives, with a text of the bank, within these turns
pub record IsCallFor (file : List ℕ) (held : Option Held) (turns : ℕ) (plan : ListedPlan) (number : ℕ) (made : Made) : Type 0 where
  pub run_is : made.words.run ≡ number
  pub turns_are : made.words.turns ≡ turns
  pub program_is : made.files.program ≡ file
  pub bank_is : IsBankOf made.files.bank made.bank
  pub given : IsMadeOn plan held number (record { bank = made.bank; input = made.files.input; expect = made.files.expect })

-- so are these calls, from this number on
abbrev pub AreCallsFor : (file : List ℕ) (held : Option Held) (turns : ℕ) → ListedPlan → ℕ → List Made → Type 0
AreCallsFor file held turns plan number [] = Unit {0}
AreCallsFor file held turns plan number (made ∷ more) = IsCallFor file held turns plan number made × AreCallsFor file held turns plan (suc number) more

-- `runs` read this program file over a store that tells what it holds, these are the calls for its lines, and this collection was due
pub record IsLeftByRuns (file : List ℕ) (made : List Made) (collection : List ℕ) : Type 0 where
  pub held : Option Held
  pub tells : IsSome held
  pub words : RunsWords
  pub texts : ListTexts
  pub parts : ProgramParts
  pub plan : ListedPlan
  pub runs : List JudgedRun
  pub are : AreListedRuns held words texts parts plan runs
  pub program_is : texts.program ≡ file
  pub as_many : length made ≡ length runs
  pub calls : AreCallsFor file held words.turns plan plan.first made
  pub fits : IsCollection (runs_collection texts parts plan.first runs)
  pub text_is : collection ≡ collection_text (runs_collection texts parts plan.first runs)

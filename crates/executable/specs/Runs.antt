-- The runs that calls make: by the words of each call and the bytes of the files that it reads, as they were when it began.
use Rattle.std.specs.Prelude.{◌≡◌, List, [], ◌∷◌, length, Some}
use Rattle.cbi_options.specs.declared.words.RunsWords.{RunsWords}
use Rattle.cbi_words.specs.declared.command.Command.TheVariants.{Run, Runs}
use Rattle.command_run.specs.Files.{AreFiles}
use Rattle.command_run.specs.Run.{IsBankOf}
use Rattle.command_runs.specs.declared.plan.ListedPlan.{ListedPlan}
use Rattle.command_runs.specs.declared.texts.ListTexts.{ListTexts}
use Rattle.command_runs.specs.Lists.{AreListTexts, SpellLists}
use Rattle.headline.specs.Calls.{AreCallsFor}
use Rattle.headline.specs.Chain.{Made}
use Rattle.executable.specs.Call.{Call, command_of}

-- `run` makes this run
pub record IsRunOfCall (call : Call) (made : Made) : Type 0 where
  pub asks : command_of call ≡ Some (Run made.words)
  pub files : AreFiles (Some call.before) made.words made.files
  pub bank : IsBankOf made.files.bank made.bank

-- each of the calls makes the run beside it
abbrev pub AllMake : List Call → List Made → Type 0
AllMake [] [] = Unit {0}
AllMake [] (made ∷ more) = ⊥
AllMake (call ∷ calls) [] = ⊥
AllMake (call ∷ calls) (made ∷ more) = IsRunOfCall call made × AllMake calls more

-- `runs` makes these runs, one for each line of its list
pub record AreRunsOfLines (call : Call) (made : List Made) : Type 0 where
  pub words : RunsWords
  pub asks : command_of call ≡ Some (Runs words)
  pub texts : ListTexts
  pub are_texts : AreListTexts (Some call.before) words texts
  pub plan : ListedPlan
  pub lists : SpellLists words texts plan
  pub as_many : length made ≡ length plan.inputs
  pub calls : AreCallsFor texts.program (Some call.before) words.turns plan plan.first made

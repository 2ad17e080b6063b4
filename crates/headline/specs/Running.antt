-- What `run` does with a file that `transform` wrote, in the words of what the text means.
use Rattle.std.specs.Prelude.{◌≡◌, ℕ, List, Option}
use Rattle.cbi_base.specs.declared.observation.Observation.{Observation}
use Rattle.cbi_base.specs.declared.outcome.Work.{Work}
use Rattle.cbi_base.specs.Words.{Takes, Held}
use Rattle.c_syntax.specs.ItemTree.{SourceTree}
use Rattle.c_types_expressions.specs.declared.walk.Walk.{Walk}
use Rattle.probes.specs.Told.{AllGrew}
use Rattle.countdown_bank.specs.Bank.{number_after}
use Rattle.compiler.specs.Accepted.{IsAccepted}
use Rattle.compiler.specs.declared.plan.Plan.{Plan}
use Rattle.command_base.specs.Outside.{Outside}
use Rattle.cbi_options.specs.declared.words.TransformWords.{TransformWords}
use Rattle.command_transform.specs.Transform.{IsFileOf, plan_of}
use Rattle.cbi_options.specs.declared.words.RunWords.{RunWords}
use Rattle.command_run.specs.Files.{AreFiles}
use Rattle.command_run.specs.Run.{IsBankOf, IsReported, Ran, Reports}
use Rattle.headline.specs.Chain.{Made, looked_at, meant_behaviour, meant_report}

-- what the run that was reported was made of
abbrev pub made_of : (r : RunWords) (before after : Option Held) → IsReported r before after → Made
made_of r before after is = record { words = r; files = is.files; bank = is.run.bank }

module _ (tree : SourceTree) (known : Walk) (plan : Plan) (made : Made) where
  -- These files were read, one of them spells the bank, and where a report is asked for, that of the meaning is written, with some work.
  pub record ReportsAsMeant (before after : Option Held) : Type 0 where
    pub are_files : AreFiles before made.words made.files
    pub bank_is : IsBankOf made.files.bank made.bank
    pub work : Work
    pub reported : Reports made.words.report before after (meant_report tree known plan made.files.program work made)

  -- Besides, out takes what the text means to write, and each watcher is told the visits that the program looks at, in their order.
  pub record DoesAsMeant {B : Type 0} (told : B → List Observation) (before after : Outside B) : Type 0 where
    pub reports : ReportsAsMeant before.held after.held
    pub took : Takes before.out after.out (meant_behaviour tree known plan made.files.input made.words.turns).output
    pub grew : AllGrew told (looked_at plan (number_after made.bank) (meant_behaviour tree known plan made.files.input made.words.turns).seen)
        before.boxes after.boxes

-- What `run` did with a file that `transform` wrote is what the text means, over any type of watchers.
abbrev pub AWrittenFileRunsAsTheTextMeans : Type 0 → Type 0
AWrittenFileRunsAsTheTextMeans B =
    (words : TransformWords) (text file : List ℕ) (tree : SourceTree) (known : Walk) (told : B → List Observation) (r : RunWords) (before after : Outside B) →
    IsFileOf words text file → IsAccepted text tree known → (ran : Ran told r before after) → ran.is.files.program ≡ file →
    DoesAsMeant tree known (plan_of words) (made_of r before.held after.held ran.is) told before after

-- So is what it reported, whatever out and the watchers are.
abbrev pub AWrittenFileReportsAsTheTextMeans : Type 0
AWrittenFileReportsAsTheTextMeans =
    (words : TransformWords) (text file : List ℕ) (tree : SourceTree) (known : Walk) (r : RunWords) (before after : Option Held) →
    IsFileOf words text file → IsAccepted text tree known → (is : IsReported r before after) → is.files.program ≡ file →
    ReportsAsMeant tree known (plan_of words) (made_of r before after is) before after

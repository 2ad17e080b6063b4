-- What the commands come to one after another.
use Rattle.std.specs.Prelude.{◌≡◌, ℕ, List, length, Option, map}
use Rattle.flow.specs.Words.{PartFits, MachineEnds, SpellsProgram, Ending}
use Rattle.cbi_base.specs.Store.{Held}
use Rattle.c_syntax.specs.ItemTree.{SourceTree}
use Rattle.c_types_expressions.specs.declared.walk.Walk.{Walk}
use Rattle.flow.specs.declared.program.ProgramParts.{ProgramParts}
use Rattle.countdown_bank.specs.Bank.{BankState, number_after}
use Rattle.ranking.specs.Ranked.{IsRankingOf}
use Rattle.compiler.specs.Accepted.{IsAccepted}
use Rattle.study_runs.specs.declared.plan.StudyPlan.{StudyPlan}
use Rattle.study.specs.declared.ranked.StudyResult.{StudyResult}
use Rattle.study.specs.Studied.{IsStudy, study_form}
use Rattle.cbi_options.specs.declared.words.TransformWords.{TransformWords}
use Rattle.command_transform.specs.Transform.{IsFileOf, plan_of}
use Rattle.command_inputs.specs.Runs.{SpellRuns}
use Rattle.command_run.specs.Run.{IsBankOf}
use Rattle.cbi_options.specs.declared.words.RankWords.{RankWords}
use Rattle.command_rank.specs.Rank.{IsRanked}
use Rattle.cbi_options.specs.declared.words.WidenWords.{WidenWords}
use Rattle.command_widen.specs.Widen.{IsWidened, widened_as}
use Rattle.headline.specs.Chain.{AreMadeFor, AreReportsOf, Made, RunsAsMeant, meant_run, meant_table}
use Rattle.headline.specs.Handed.{IsCollectionOf}

-- A file that `transform` wrote of a text, a bank's text, an input and a bound of turns: every ending of the machine on the program that the file
-- spells, by the bank that the text spells, goes as the text means.
abbrev pub WrittenProgramsRunAsTheTextMeans : Type 0
WrittenProgramsRunAsTheTextMeans =
    (words : TransformWords) (text file bank_text input : List ℕ) (bank : BankState) (turns : ℕ) (p : ProgramParts) (ending : Ending) →
    IsFileOf words text file → SpellsProgram file p → IsBankOf bank_text bank → MachineEnds p input (number_after bank) turns ending →
    RunsAsMeant text (plan_of words) input (number_after bank) turns p ending

-- A collection of reports that `run` made of such a file, ranked by `rank`: what is written is the ranking of the runs as the text means them.
abbrev pub ARankingOfRunsIsTheElimination : Type 0
ARankingOfRunsIsTheElimination =
    (words : TransformWords) (text file : List ℕ) (held : Option Held) (r : RankWords) (ranking : List ℕ) (made : List Made) (tree : SourceTree)
    (known : Walk) →
    IsFileOf words text file → IsAccepted text tree known → (ranked : IsRanked held r ranking) → ranked.texts.program ≡ file →
    AreReportsOf file made ranked.bundle.reports →
    IsRankingOf (meant_table tree known (plan_of words)) r.policy (map (meant_run tree known (plan_of words)) made) ranking

-- A study's ranking is that of its chain: its text is transformed, a run is made for each of its numbers, the reports are collected, and the collection
-- is ranked.
abbrev pub AStudyIsItsChain : Type 0
AStudyIsItsChain =
    (words : TransformWords) (text file collection : List ℕ) (plan : StudyPlan) (result : StudyResult) (held : Option Held) (r : RankWords)
    (ranking : List ℕ) (made : List Made) →
    IsStudy text plan result → plan_of words ≡ study_form → IsFileOf words text file → IsCollectionOf file made collection →
    (ranked : IsRanked held r ranking) → ranked.texts.program ≡ file → ranked.texts.collection ≡ collection → r.policy ≡ plan.policy →
    AreMadeFor plan 1 made → length made ≡ plan.runs → ranking ≡ result.ranking.items

-- What `widen` wrote is a collection of runs of the whole program, as the commands that read one take it: its text is one of the widened reports.
abbrev pub AWidenedCollectionIsOfTheWhole : Type 0
AWidenedCollectionIsOfTheWhole =
    (held : Option Held) (words : WidenWords) (text : List ℕ) → PartFits words.part → (wide : IsWidened held words text) →
    SpellRuns (record { program = wide.texts.whole; collection = text }) wide.whole (widened_as wide.texts.whole words.part wide.bundle)

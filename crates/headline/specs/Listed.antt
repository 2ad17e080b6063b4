-- `runs` beside the other commands: it comes to what its calls come to, and what `rank` writes of it is the elimination of its runs.
use Rattle.std.specs.Prelude.{◌≡◌, ℕ, List, map, Option, IsSome}
use Rattle.cbi_base.specs.Store.{Held}
use Rattle.c_syntax.specs.ItemTree.{SourceTree}
use Rattle.c_types_expressions.specs.declared.walk.Walk.{Walk}
use Rattle.flow.specs.declared.program.ProgramParts.{ProgramParts}
use Rattle.collector.specs.Collecting.{IsCollection}
use Rattle.collector.specs.Spelling.{collection_text}
use Rattle.planned_runs.specs.Runs.{JudgedRun}
use Rattle.ranking.specs.Ranked.{IsRankingOf}
use Rattle.compiler.specs.Accepted.{IsAccepted}
use Rattle.command_bank.specs.MadeBank.{IsMadeText}
use Rattle.cbi_options.specs.declared.words.TransformWords.{TransformWords}
use Rattle.command_transform.specs.Transform.{IsFileOf, plan_of}
use Rattle.cbi_options.specs.declared.words.RankWords.{RankWords}
use Rattle.command_rank.specs.Rank.{IsRanked}
use Rattle.command_runs.specs.declared.plan.ListedPlan.{ListedPlan}
use Rattle.command_runs.specs.declared.texts.ListTexts.{ListTexts}
use Rattle.cbi_options.specs.declared.words.RunsWords.{RunsWords}
use Rattle.command_runs.specs.Line.{bank_numbers}
use Rattle.command_runs.specs.Runs.{AreListedRuns, runs_collection}
use Rattle.headline.specs.Calls.{IsCallFor, IsLeftByRuns}
use Rattle.headline.specs.Chain.{Made, meant_run, meant_table}
use Rattle.headline.specs.Handed.{HoldRuns, IsLeftByCollect}

-- What `runs` writes is what `collect` writes of the reports that `run` leaves of its calls.
abbrev pub RunsAreTheirCalls : Type 0
RunsAreTheirCalls =
    (file text collection : List ℕ) (made : List Made) (texts : List (List ℕ)) → IsLeftByRuns file made text → HoldRuns file made texts →
    IsLeftByCollect file texts collection → collection ≡ text

-- The bank of a call is the one that `bank` writes for its number.
abbrev pub BanksAreWritten : Type 0
BanksAreWritten =
    (file : List ℕ) (held : Option Held) (turns : ℕ) (plan : ListedPlan) (number : ℕ) (made : Made) → IsCallFor file held turns plan number made →
    IsMadeText (record { rate = plan.rate; count = bank_numbers; seed = plan.seed; stream = number }) made.files.bank

-- Whatever `runs` did has its calls.
abbrev pub RunsHaveTheirCalls : Type 0
RunsHaveTheirCalls =
    (held : Option Held) (words : RunsWords) (texts : ListTexts) (parts : ProgramParts) (plan : ListedPlan) (runs : List JudgedRun) → IsSome held →
    AreListedRuns held words texts parts plan runs → IsCollection (runs_collection texts parts plan.first runs) →
    (made : List Made) × IsLeftByRuns texts.program made (collection_text (runs_collection texts parts plan.first runs))

-- `transform` writes a file of an accepted text, `runs` makes runs of that file, and `rank` ranks them: what it writes is the ranking of these runs as the
-- text means them.
abbrev pub TheRankingOfRunsIsTheElimination : Type 0
TheRankingOfRunsIsTheElimination =
    (words : TransformWords) (text file collection ranking : List ℕ) (made : List Made) (held : Option Held) (r : RankWords)
    (tree : SourceTree) (known : Walk) → IsFileOf words text file → IsAccepted text tree known → IsLeftByRuns file made collection →
    (ranked : IsRanked held r ranking) → ranked.texts.program ≡ file → ranked.texts.collection ≡ collection →
    IsRankingOf (meant_table tree known (plan_of words)) r.policy (map (meant_run tree known (plan_of words)) made) ranking

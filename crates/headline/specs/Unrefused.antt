-- That nothing is refused on the way from a written file to the ranking of its runs, nor where a collection of a share's runs is widened.
use Rattle.std.specs.Prelude.{◌≡◌, ℕ, ◌≤◌, List, length, Option, Some, None, IsSome, Contains}
use Rattle.std.specs.List.{sum_by}
use Rattle.cbi_base.specs.Store.{Held}
use Rattle.c_syntax.specs.ItemTree.{SourceTree}
use Rattle.c_types_expressions.specs.declared.walk.Walk.{Walk}
use Rattle.collector.specs.Collected.{mark_limit, report_limit}
use Rattle.compiler.specs.Accepted.{IsAccepted}
use Rattle.compiler.specs.declared.plan.Plan.{Plan}
use Rattle.cbi_options.specs.declared.words.TransformWords.{TransformWords}
use Rattle.command_transform.specs.Transform.{IsFileOf, plan_of}
use Rattle.command_run.specs.declared.files.RunFiles.{RunFiles}
use Rattle.cbi_options.specs.declared.words.RunWords.{RunWords}
use Rattle.command_run.specs.Files.{AreFiles, input_limit}
use Rattle.command_run.specs.Run.{IsBankText, RunRefused}
use Rattle.command_collect.specs.declared.reports.CollectTexts.{CollectTexts}
use Rattle.cbi_options.specs.declared.words.CollectWords.{CollectWords}
use Rattle.command_collect.specs.Collect.{AreCollectTexts, CollectRefused}
use Rattle.command_inputs.specs.declared.runs.RunsTexts.{RunsTexts}
use Rattle.command_inputs.specs.Runs.{AreRunsTexts, RunsRefused}
use Rattle.cbi_options.specs.declared.words.WidenWords.{WidenWords}
use Rattle.command_widen.specs.declared.texts.WidenTexts.{WidenTexts}
use Rattle.command_widen.specs.Widen.{AreWidenTexts, WidenRefused}
use Rattle.headline.specs.Chain.{Made, meant_run}
use Rattle.headline.specs.Handed.{HoldRuns, IsLeftByCollect, by_number}

-- A file that `transform` wrote, an input that fits, and a bank's text where a bank is named: `run` refuses nothing.
abbrev pub NoRunIsRefused : Type 0
NoRunIsRefused =
    (words : TransformWords) (text file : List ℕ) (r : RunWords) (held : Option Held) (files : RunFiles) →
    IsFileOf words text file → IsSome held → AreFiles held r files → files.program ≡ file → (IsSome r.bank → IsBankText files.bank) →
    length files.input ≤ input_limit → RunRefused r held → ⊥

-- the same bytes, within the same turns
pub record IsSameRun (a b : Made) : Type 0 where
  pub files : a.files ≡ b.files
  pub turns : a.words.turns ≡ b.words.turns

-- runs of one number are one run, however often it was made
abbrev pub AreOneByNumber : List Made → Type 0
AreOneByNumber made = (a b : Made) → Contains made a → Contains made b → a.words.run ≡ b.words.run → IsSameRun a b

-- how many lines of sites the reports of these runs have, as the text means the runs: one for each site with a counter that isn't 0
abbrev pub site_lines : SourceTree → Walk → Plan → List Made → ℕ
site_lines tree known plan made = sum_by (λ m. length (meant_run tree known plan m).entries) made

-- Texts that `run` and `collect` left, of runs that are one by number, and not too many of them with not too many sites: `collect` refuses nothing.
abbrev pub NoCollectionIsRefused : Type 0
NoCollectionIsRefused =
    (words : TransformWords) (text file : List ℕ) (tree : SourceTree) (known : Walk) (c : CollectWords) (held : Option Held) (texts : CollectTexts)
    (made : List Made) →
    IsFileOf words text file → IsAccepted text tree known → IsSome held → AreCollectTexts held c texts → texts.program ≡ file → HoldRuns file made texts.files →
    AreOneByNumber made → length (by_number made) ≤ report_limit → site_lines tree known (plan_of words) (by_number made) ≤ mark_limit →
    CollectRefused c held → ⊥

-- A collection that `collect` left of a file, beside that file: no command that reads both refuses them.
abbrev pub NoRankingIsRefused : Type 0
NoRankingIsRefused =
    (file : List ℕ) (inner : List (List ℕ)) (held : Option Held) (program collection : List ℕ) (texts : RunsTexts) →
    IsSome held → AreRunsTexts held program collection texts → texts.program ≡ file → IsLeftByCollect file inner texts.collection →
    RunsRefused held program collection → ⊥

-- The program of all sites and one of a share of them, that `transform` wrote of one text with the same mode and schemes, and a collection that `collect`
-- left of the second: `widen` refuses nothing.
abbrev pub NoWideningIsRefused : Type 0
NoWideningIsRefused =
    (words : TransformWords) (text whole file : List ℕ) (inner : List (List ℕ)) (w : WidenWords) (held : Option Held) (texts : WidenTexts) →
    words.part ≡ None → IsFileOf words text whole → IsFileOf (record words { part = Some w.part }) text file → IsSome held →
    AreWidenTexts held w texts → texts.whole ≡ whole → texts.runs.program ≡ file → IsLeftByCollect file inner texts.runs.collection →
    WidenRefused w held → ⊥

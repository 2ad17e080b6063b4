-- The headline: what the commands come to, one after another, from a C text to the ranking of its runs.
use Rattle.std.specs.Prelude.{◌≡◌, ℕ, List, [], ◌∷◌, ◌++◌, Option, map}
use Rattle.cbi_base.specs.declared.outcome.Work.{Work}
use Rattle.cbi_base.specs.Store.{Held}
use Rattle.c_syntax.specs.ItemTree.{SourceTree}
use Rattle.c_types_expressions.specs.declared.walk.Walk.{Walk}
use Rattle.flow.specs.declared.site.TableParts.{TableParts}
use Rattle.report_file.specs.declared.report.Report.{Report}
use Rattle.collector.specs.declared.collection.Bundle.{Bundle}
use Rattle.collector.specs.Sites.{branches_of}
use Rattle.collector.specs.Spelling.{SpellsBundle}
use Rattle.elimination_tallies.specs.declared.labelled.LabelledRun.{LabelledRun}
use Rattle.ranking.specs.Ranked.{IsRankingOf}
use Rattle.affinity.specs.Text.{AreCardsOf}
use Rattle.compound.specs.declared.chosen.PairResult.{PairResult}
use Rattle.compound.specs.Found.{IsFound}
use Rattle.compound.specs.Text.{pairs_text}
use Rattle.suspicious_lines.specs.Text.{AreLinesOf}
use Rattle.bug_rounds.specs.Text.{AreBugsOf}
use Rattle.session_edits.specs.declared.edit.Edit.{Edit}
use Rattle.session_edits.specs.declared.edit.Edit.TheVariants.{Add, Rank}
use Rattle.session_edits.specs.Spelling.{SpellsEdits}
use Rattle.compiler.specs.Accepted.{IsAccepted}
use Rattle.cbi_options.specs.declared.words.TransformWords.{TransformWords}
use Rattle.command_transform.specs.Transform.{IsFileOf, plan_of}
use Rattle.command_collect.specs.Collect.{AreSpelled, reports_in}
use Rattle.cbi_options.specs.declared.words.RankWords.{RankWords}
use Rattle.command_rank.specs.Rank.{IsRanked}
use Rattle.cbi_options.specs.declared.words.CardsWords.{CardsWords}
use Rattle.command_cards.specs.Cards.{IsDealt}
use Rattle.cbi_options.specs.declared.words.PairsWords.{PairsWords}
use Rattle.command_pairs.specs.Pairs.{IsPaired}
use Rattle.cbi_options.specs.declared.words.LinesWords.{LinesWords}
use Rattle.command_lines.specs.Lines.{AreLinesListed}
use Rattle.cbi_options.specs.declared.words.BugsWords.{BugsWords}
use Rattle.command_bugs.specs.Bugs.{AreBugsListed}
use Rattle.cbi_options.specs.declared.words.SessionWords.{SessionWords}
use Rattle.command_session.specs.Session.{IsReplayed, id_of}
use Rattle.headline.specs.Chain.{AreReportsOf, Made, meant_report, meant_run, meant_table}
use Rattle.headline.specs.Handed.{HoldRuns, IsCollectionOf, by_number}

-- `transform` writes a file of an accepted text, `run` leaves reports of that file's runs, `collect` makes a collection of them, in any order, grouping,
-- repetition and depth, and `rank` ranks it: what it writes is the ranking of these runs, each number once, as the text means them.
abbrev pub TheCommandsAreTheHeadline : Type 0
TheCommandsAreTheHeadline =
    (words : TransformWords) (text file collection ranking : List ℕ) (made : List Made) (held : Option Held) (r : RankWords)
    (tree : SourceTree) (known : Walk) → IsFileOf words text file → IsAccepted text tree known → IsCollectionOf file made collection →
    (ranked : IsRanked held r ranking) → ranked.texts.program ≡ file → ranked.texts.collection ≡ collection →
    IsRankingOf (meant_table tree known (plan_of words)) r.policy (map (meant_run tree known (plan_of words)) (by_number made)) ranking

-- Each reader of such a collection gets the reports of these runs by rising number, of each number one.
abbrev pub CollectionsHoldTheirRuns : Type 0
CollectionsHoldTheirRuns =
    (file collection : List ℕ) (made : List Made) (bundle : Bundle) → IsCollectionOf file made collection → SpellsBundle collection bundle →
    AreReportsOf file (by_number made) bundle.reports

-- What `cards` writes of such a collection are the cards of these runs as the text means them. No card depends on a run's work.
abbrev pub CardsAreOfMeantRuns : Type 0
CardsAreOfMeantRuns =
    (words : TransformWords) (text file collection cards : List ℕ) (made : List Made) (held : Option Held) (w : CardsWords) (work : Work)
    (tree : SourceTree) (known : Walk) → IsFileOf words text file → IsAccepted text tree known → IsCollectionOf file made collection →
    (dealt : IsDealt held w cards) → dealt.texts.program ≡ file → dealt.texts.collection ≡ collection →
    AreCardsOf (meant_table tree known (plan_of words)) (map (meant_report tree known (plan_of words) file work) (by_number made)) cards

-- the text of the best pair of predicates over these runs
pub record IsPairOf (table : TableParts) (runs : List LabelledRun) (text : List ℕ) : Type 0 where
  pub found : PairResult
  pub is_found : IsFound (branches_of table.sites) runs found
  pub text_is : text ≡ pairs_text table found

-- What `pairs` writes of such a collection is the best pair over these runs as the text means them.
abbrev pub PairsAreOfMeantRuns : Type 0
PairsAreOfMeantRuns =
    (words : TransformWords) (text file collection pairs : List ℕ) (made : List Made) (held : Option Held) (w : PairsWords)
    (tree : SourceTree) (known : Walk) → IsFileOf words text file → IsAccepted text tree known → IsCollectionOf file made collection →
    (paired : IsPaired held w pairs) → paired.texts.program ≡ file → paired.texts.collection ≡ collection →
    IsPairOf (meant_table tree known (plan_of words)) (map (meant_run tree known (plan_of words)) (by_number made)) pairs

-- What `lines` writes of such a collection are the suspicious lines of these runs as the text means them.
abbrev pub LinesAreOfMeantRuns : Type 0
LinesAreOfMeantRuns =
    (words : TransformWords) (text file collection lines : List ℕ) (made : List Made) (held : Option Held) (w : LinesWords)
    (tree : SourceTree) (known : Walk) → IsFileOf words text file → IsAccepted text tree known → IsCollectionOf file made collection →
    (listed : AreLinesListed held w lines) → listed.texts.program ≡ file → listed.texts.collection ≡ collection →
    AreLinesOf (meant_table tree known (plan_of words)) (map (meant_run tree known (plan_of words)) (by_number made)) w.most w.apart lines

-- What `bugs` writes of such a collection are the bugs of these runs as the text means them. No bug depends on a run's work.
abbrev pub BugsAreOfMeantRuns : Type 0
BugsAreOfMeantRuns =
    (words : TransformWords) (text file collection bugs : List ℕ) (made : List Made) (held : Option Held) (w : BugsWords) (work : Work)
    (tree : SourceTree) (known : Walk) → IsFileOf words text file → IsAccepted text tree known → IsCollectionOf file made collection →
    (listed : AreBugsListed held w bugs) → listed.texts.program ≡ file → listed.texts.collection ≡ collection →
    AreBugsOf (meant_table tree known (plan_of words)) (map (meant_report tree known (plan_of words) file work) (by_number made)) w.most w.also bugs

-- these reports are added, one after another, and then one ranking is asked for
abbrev pub adds_and_ranks : List Report → List Edit
adds_and_ranks reports = map Add reports ++ Rank ∷ []

-- What `session` writes of edits that add the reports of such texts, one text after another, and then ask for a ranking is the ranking of these runs.
abbrev pub ASessionIsTheHeadline : Type 0
ASessionIsTheHeadline =
    (words : TransformWords) (text file edits ranking : List ℕ) (made : List Made) (texts : List (List ℕ)) (bundles : List Bundle)
    (held : Option Held) (s : SessionWords) (tree : SourceTree) (known : Walk) →
    IsFileOf words text file → IsAccepted text tree known → HoldRuns file made texts → AreSpelled texts bundles →
    SpellsEdits (id_of file) edits (adds_and_ranks (reports_in bundles)) →
    (replayed : IsReplayed held s ranking) → replayed.texts.program ≡ file → replayed.texts.edits ≡ edits →
    IsRankingOf (meant_table tree known (plan_of words)) s.policy (map (meant_run tree known (plan_of words)) (by_number made)) ranking

-- So is what it writes of edits that add the reports of a collection of them.
abbrev pub ASessionOfACollectionIsTheHeadline : Type 0
ASessionOfACollectionIsTheHeadline =
    (words : TransformWords) (text file collection edits ranking : List ℕ) (made : List Made) (bundle : Bundle) (held : Option Held) (s : SessionWords)
    (tree : SourceTree) (known : Walk) → IsFileOf words text file → IsAccepted text tree known → IsCollectionOf file made collection →
    SpellsBundle collection bundle → SpellsEdits (id_of file) edits (adds_and_ranks bundle.reports) →
    (replayed : IsReplayed held s ranking) → replayed.texts.program ≡ file → replayed.texts.edits ≡ edits →
    IsRankingOf (meant_table tree known (plan_of words)) s.policy (map (meant_run tree known (plan_of words)) (by_number made)) ranking

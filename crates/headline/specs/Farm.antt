-- A farm: machines run programs of parts of a text's sites, and what their collections come to for the program of all sites.
use Rattle.std.specs.Prelude.{◌≡◌, ℕ, List, [], ◌∷◌, ◌++◌, map, Option, slice_get}
use Rattle.std.specs.List.{AllByRecursion}
use Rattle.flow.specs.Sites.{PartFits}
use Rattle.cbi_base.specs.Store.{Held}
use Rattle.cbi_base.specs.declared.policy.Policy.{Policy}
use Rattle.flow.specs.declared.choice.Part.{Part}
use Rattle.c_syntax.specs.ItemTree.{SourceTree}
use Rattle.c_types_expressions.specs.declared.walk.Walk.{Walk}
use Rattle.elimination_tallies.specs.declared.labelled.LabelledRun.{LabelledRun}
use Rattle.ranking.specs.Ranked.{IsRankingOf}
use Rattle.program_parts.specs.Part.{whole_number}
use Rattle.site_parts.specs.Widened.{widened_entries}
use Rattle.compiler.specs.Accepted.{IsAccepted}
use Rattle.compiler.specs.declared.plan.Plan.{Plan}
use Rattle.cbi_options.specs.declared.words.TransformWords.{TransformWords}
use Rattle.command_transform.specs.Transform.{IsFileOf, plan_of}
use Rattle.cbi_options.specs.declared.words.RankWords.{RankWords}
use Rattle.command_rank.specs.Rank.{IsRanked}
use Rattle.cbi_options.specs.declared.words.WidenWords.{WidenWords}
use Rattle.command_widen.specs.Widen.{IsWidened}
use Rattle.headline.specs.Chain.{Made, meant_run, meant_sites, meant_table}
use Rattle.headline.specs.Handed.{IsCollectionOf, IsLeftByCollect, by_number, firsts_by_number}

-- a run of a part's program: what `transform` was asked for that program, the share of the sites that it has, and what the run was made of
pub record PartRun : Type 0 where
  pub words : TransformWords
  pub share : Part
  pub made : Made

-- That run as the text means it: it has the label of any run of the text that is made of the same, and the counters of the visits that its program
-- looks at, which are of the part's sites, each under the number that its site has in the table of all sites.
abbrev pub meant_part_run : SourceTree → Walk → PartRun → LabelledRun
meant_part_run tree known run = record (meant_run tree known (plan_of run.words) run.made) {
  entries = widened_entries run.share (meant_run tree known (plan_of run.words) run.made).entries;
}

-- `transform` wrote the file of a part's program of the text, `run` and `collect` made a collection of runs of that file, and `widen` read it, that file and
-- the one of the program of all sites for this share. This text was due.
pub record IsLeftByWiden (text whole : List ℕ) (words : TransformWords) (share : Part) (made : List Made) (wide : List ℕ) : Type 0 where
  pub file : List ℕ
  pub is_file : IsFileOf words text file
  pub collection : List ℕ
  pub is_collection : IsCollectionOf file made collection
  pub held : Option Held
  pub asked : WidenWords
  pub share_is : asked.part ≡ share
  pub fits : PartFits share
  pub widened : IsWidened held asked wide
  pub whole_is : widened.texts.whole ≡ whole
  pub program_is : widened.texts.runs.program ≡ file
  pub collection_is : widened.texts.runs.collection ≡ collection

-- these runs of a part's program
abbrev pub part_runs : TransformWords → Part → List Made → List PartRun
part_runs words share made = map (λ m. record { words = words; share = share; made = m }) made

-- Texts that `widen` and then `collect` left of parts' programs, one after another, and the runs that they hold: of a widened collection its runs, each
-- number once, and of a collection of such texts theirs.
pub data HoldParts (text whole : List ℕ) : List PartRun → List (List ℕ) → Type 0 where
  NoParts : HoldParts text whole [] []
  APart : {words : TransformWords} {share : Part} {made : List Made} {more : List PartRun} {wide : List ℕ} {texts : List (List ℕ)} →
      IsLeftByWiden text whole words share made wide → HoldParts text whole more texts →
      HoldParts text whole (part_runs words share (by_number made) ++ more) (wide ∷ texts)
  SomeParts : {runs more : List PartRun} {collection : List ℕ} {inner texts : List (List ℕ)} → IsLeftByCollect whole inner collection →
      HoldParts text whole runs inner → HoldParts text whole more texts → HoldParts text whole (runs ++ more) (collection ∷ texts)

abbrev pub run_number : PartRun → ℕ
run_number run = run.made.words.run

-- site s of a part's program is the site I + s * N of the program of all sites, where the part's share is I of N
abbrev pub HasItsShare : SourceTree → Walk → Plan → PartRun → Type 0
HasItsShare tree known plan run =
    (site : ℕ) → slice_get (meant_sites tree known (plan_of run.words)) site ≡ slice_get (meant_sites tree known plan) (whole_number run.share site)

-- the ranking of the runs of parts' programs, whose sites are those of their shares
pub record IsFarmRanking (tree : SourceTree) (known : Walk) (plan : Plan) (policy : Policy) (runs : List PartRun) (ranking : List ℕ) : Type 0 where
  pub ranking_is : IsRankingOf (meant_table tree known plan) policy (map (meant_part_run tree known) (firsts_by_number run_number runs)) ranking
  pub shares : AllByRecursion (HasItsShare tree known plan) runs

-- The collections of a farm, each widened, then collected for the program of all sites and ranked with it: what is written is the ranking of all their
-- runs, each number once, each observed at its share's sites.
abbrev pub AFarmIsTheElimination : Type 0
AFarmIsTheElimination =
    (words : TransformWords) (text whole collection ranking : List ℕ) (runs : List PartRun) (texts : List (List ℕ)) (held : Option Held) (r : RankWords)
    (tree : SourceTree) (known : Walk) →
    IsFileOf words text whole → IsAccepted text tree known → HoldParts text whole runs texts → IsLeftByCollect whole texts collection →
    (ranked : IsRanked held r ranking) → ranked.texts.program ≡ whole → ranked.texts.collection ≡ collection →
    IsFarmRanking tree known (plan_of words) r.policy runs ranking

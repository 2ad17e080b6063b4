-- A farm over calls of the executable: each machine runs the program of a share of a text's sites, and its collection is widened.
use Rattle.std.specs.Prelude.{◌≡◌, ℕ, List, [], ◌∷◌, ◌++◌}
use Rattle.cbi_base.specs.declared.policy.Policy.{Policy}
use Rattle.c_syntax.specs.ItemTree.{SourceTree}
use Rattle.c_types_expressions.specs.declared.walk.Walk.{Walk}
use Rattle.flow.specs.Sites.{PartFits}
use Rattle.flow.specs.declared.choice.Part.{Part}
use Rattle.compiler.specs.declared.plan.Plan.{Plan}
use Rattle.cbi_options.specs.declared.words.RankWords.{RankWords}
use Rattle.cbi_options.specs.declared.words.TransformWords.{TransformWords}
use Rattle.cbi_options.specs.declared.words.WidenWords.{WidenWords}
use Rattle.cbi_words.specs.declared.command.Command.TheVariants.{Widen}
use Rattle.command_transform.specs.Transform.{plan_of}
use Rattle.headline.specs.Chain.{Made}
use Rattle.headline.specs.Farm.{IsFarmRanking, PartRun, part_runs}
use Rattle.headline.specs.Handed.{by_number}
use Rattle.executable.specs.Accepted.{IsAcceptedText}
use Rattle.executable.specs.Call.{Call}
use Rattle.executable.specs.Runs.{AllMake}
use Rattle.executable.specs.Steps.{Collects, Leave, Ranks, Stands, Succeeds, Transforms}

-- one machine: what its `transform` was asked for, its share of the sites, and its calls of `run`
pub record Machine : Type 0 where
  pub words : TransformWords
  pub share : Part
  pub runs : List Call

-- `widen` of this collection of the program of a share, for the program of all sites
pub record Widens (words : WidenWords) (whole program collection : List ℕ) (call : Call) : Type 0 where
  pub succeeds : Succeeds (Widen words) call
  pub reads_whole : Stands call.before words.whole whole
  pub reads : Stands call.before words.program program
  pub reads_collection : Stands call.before words.collection collection

-- The calls of a machine: `transform` of the text to its program, `run` of that, `collect` of these runs, and `widen` for its share, which put this out.
pub record WidensRuns (text whole : List ℕ) (machine : Machine) (widened : List ℕ) : Type 0 where
  pub transform : Call
  pub transforms : Transforms machine.words text transform
  pub texts : List (List ℕ)
  pub leave : Leave transform.out machine.runs texts
  pub collect : Call
  pub collects : Collects transform.out texts collect
  pub asked : WidenWords
  pub share_is : asked.part ≡ machine.share
  pub fits : PartFits machine.share
  pub widen : Call
  pub widens : Widens asked whole transform.out collect.out widen
  pub out_is : widen.out ≡ widened

-- Machines, and texts of their runs, one after another: what `widen` put out, or what `collect` put out of such texts for the program of all sites.
pub data AreWidened (text whole : List ℕ) : List Machine → List (List ℕ) → Type 0 where
  NoMachines : AreWidened text whole [] []
  AMachine : {machine : Machine} {machines : List Machine} {widened : List ℕ} {texts : List (List ℕ)} → WidensRuns text whole machine widened →
      AreWidened text whole machines texts → AreWidened text whole (machine ∷ machines) (widened ∷ texts)
  SomeMachines : {inner machines : List Machine} {collect : Call} {within texts : List (List ℕ)} → Collects whole within collect →
      AreWidened text whole inner within → AreWidened text whole machines texts → AreWidened text whole (inner ++ machines) (collect.out ∷ texts)

-- the runs that a machine's calls made, each number once
pub record AreRunsOfMachine (machine : Machine) (runs : List PartRun) : Type 0 where
  pub made : List Made
  pub make : AllMake machine.runs made
  pub runs_are : runs ≡ part_runs machine.words machine.share (by_number made)

-- those of several, one machine after another
pub data AreRunsOfMachines : List Machine → List PartRun → Type 0 where
  NoRuns : AreRunsOfMachines [] []
  MoreRuns : {machine : Machine} {machines : List Machine} {first more : List PartRun} → AreRunsOfMachine machine first →
      AreRunsOfMachines machines more → AreRunsOfMachines (machine ∷ machines) (first ++ more)

-- The text is accepted, the machines made these runs, and this is the ranking text of the elimination of them, each number once, as the text means them,
-- where site s of a machine's program is the site I + s * N of the program of all sites.
pub record IsFarmOfMeantRuns (text : List ℕ) (plan : Plan) (policy : Policy) (machines : List Machine) (ranking : List ℕ) : Type 0 where
  pub tree : SourceTree
  pub known : Walk
  pub accepted : IsAcceptedText text tree known
  pub runs : List PartRun
  pub are : AreRunsOfMachines machines runs
  pub is_ranking : IsFarmRanking tree known plan policy runs ranking

abbrev pub AFarmOfCallsIsTheHeadline : Type 0
AFarmOfCallsIsTheHeadline =
    (text : List ℕ) (t : TransformWords) (r : RankWords) (machines : List Machine) (texts : List (List ℕ)) (transform collect rank : Call) →
    Transforms t text transform → AreWidened text transform.out machines texts → Collects transform.out texts collect →
    Ranks r transform.out collect.out rank → IsFarmOfMeantRuns text (plan_of t) r.policy machines rank.out

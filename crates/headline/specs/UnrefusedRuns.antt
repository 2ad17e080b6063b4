-- That nothing is refused of runs of a written file on the lines of lists.
use Rattle.std.specs.Prelude.{◌≡◌, ℕ, ◌≤◌, List, length, Option, Some, IsSome}
use Rattle.cbi_base.specs.Store.{Held}
use Rattle.c_syntax.specs.ItemTree.{SourceTree}
use Rattle.c_types_expressions.specs.declared.walk.Walk.{Walk}
use Rattle.collector.specs.Collected.{mark_limit}
use Rattle.compiler.specs.Accepted.{IsAccepted}
use Rattle.compiler.specs.declared.plan.Plan.{Plan}
use Rattle.cbi_options.specs.declared.words.TransformWords.{TransformWords}
use Rattle.command_transform.specs.Transform.{IsFileOf, plan_of}
use Rattle.command_run.specs.Files.{input_limit}
use Rattle.cbi_options.specs.declared.words.RunsWords.{RunsWords}
use Rattle.command_runs.specs.declared.plan.ListedPlan.{ListedPlan}
use Rattle.command_runs.specs.declared.texts.ListTexts.{ListTexts}
use Rattle.command_runs.specs.Line.{input_of}
use Rattle.command_runs.specs.Lists.{AreListTexts, SpellLists}
use Rattle.command_runs.specs.Runs.{ListedRefused}
use Rattle.headline.specs.Calls.{AreCallsFor}
use Rattle.headline.specs.Chain.{Made}
use Rattle.headline.specs.Handed.{HoldsText}
use Rattle.headline.specs.Unrefused.{site_lines}

-- what the store holds under the name of each input has at most as many bytes as a run reads
abbrev pub InputsFit : Option Held → ListedPlan → Type 0
InputsFit held plan =
    (number : ℕ) (name bytes : List ℕ) → input_of plan number ≡ Some name → HoldsText held name bytes → length bytes ≤ input_limit

-- the reports of the calls for the lines, from the first line to any, have not too many lines of sites, as the text means the runs
abbrev pub SiteLinesFit : SourceTree → Walk → Plan → (file : List ℕ) → Option Held → (turns : ℕ) → ListedPlan → Type 0
SiteLinesFit tree known by file held turns plan =
    (made : List Made) → AreCallsFor file held turns plan plan.first made → site_lines tree known by made ≤ mark_limit

-- A file that `transform` wrote, a list of names of inputs that fit, a list of as many names of expected outputs where one is given, and not too many sites
-- in the reports of the runs: `runs` refuses nothing.
abbrev pub NoRunsAreRefused : Type 0
NoRunsAreRefused =
    (words : TransformWords) (text file : List ℕ) (tree : SourceTree) (known : Walk) (r : RunsWords) (held : Option Held) (texts : ListTexts)
    (plan : ListedPlan) → IsFileOf words text file → IsAccepted text tree known → IsSome held → AreListTexts held r texts → texts.program ≡ file →
    SpellLists r texts plan → InputsFit held plan → SiteLinesFit tree known (plan_of words) file held r.turns plan → ListedRefused r held → ⊥

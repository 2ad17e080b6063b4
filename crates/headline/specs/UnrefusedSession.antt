-- That nothing is refused of a session over a written file, whose edits add reports that were left of its runs.
use Rattle.std.specs.Prelude.{◌≡◌, ℕ, ◌≤◌, List, [], ◌∷◌, ◌++◌, length, Option, IsSome}
use Rattle.cbi_base.specs.Store.{Held}
use Rattle.c_syntax.specs.ItemTree.{SourceTree}
use Rattle.c_types_expressions.specs.declared.walk.Walk.{Walk}
use Rattle.report_file.specs.declared.report.Report.{Report}
use Rattle.collector.specs.declared.collection.Bundle.{Bundle}
use Rattle.collector.specs.Collected.{mark_limit, report_limit}
use Rattle.collector.specs.Order.{IsOneOfReports}
use Rattle.session_edits.specs.declared.edit.Edit.{Edit}
use Rattle.session_edits.specs.declared.edit.Edit.TheVariants.{Add, Remove, Relabel, Rank}
use Rattle.session_edits.specs.Held.{report_held}
use Rattle.session_edits.specs.Spelling.{SpellsEdits}
use Rattle.compiler.specs.Accepted.{IsAccepted}
use Rattle.cbi_options.specs.declared.words.TransformWords.{TransformWords}
use Rattle.command_transform.specs.Transform.{IsFileOf, plan_of}
use Rattle.command_collect.specs.Collect.{AreSpelled, reports_in}
use Rattle.cbi_options.specs.declared.words.SessionWords.{SessionWords}
use Rattle.command_session.specs.declared.replayed.SessionTexts.{SessionTexts}
use Rattle.command_session.specs.Session.{AreSessionTexts, SessionRefused, id_of}
use Rattle.headline.specs.Chain.{Made}
use Rattle.headline.specs.Handed.{HoldRuns, by_number}
use Rattle.headline.specs.Unrefused.{AreOneByNumber, site_lines}

-- the edit adds one of these reports, removes a run, or asks for a ranking; it relabels none
abbrev pub IsPlainEdit : List Report → Edit → Type 0
IsPlainEdit reports (Add report) = IsOneOfReports report reports
IsPlainEdit reports (Remove run) = Unit {0}
IsPlainEdit reports (Relabel run label) = ⊥
IsPlainEdit reports Rank = Unit {0}

abbrev pub ArePlainEdits : List Report → List Edit → Type 0
ArePlainEdits reports [] = Unit {0}
ArePlainEdits reports (edit ∷ more) = IsPlainEdit reports edit × ArePlainEdits reports more

-- each removal is of a run that is held after the edits before it
abbrev pub RemoveHeldRuns : List Edit → Type 0
RemoveHeldRuns edits = (before more : List Edit) (run : ℕ) → edits ≡ before ++ Remove run ∷ more → IsSome (report_held run before)

-- A file that `transform` wrote, and a text of edits that add reports of texts that `run`, `runs` and `collect` left of it, of runs that are one by number
-- and not too many with not too many sites, that remove only runs that are held, and that ask for rankings: `session` refuses nothing.
abbrev pub NoSessionIsRefused : Type 0
NoSessionIsRefused =
    (words : TransformWords) (text file : List ℕ) (tree : SourceTree) (known : Walk) (s : SessionWords) (held : Option Held) (texts : SessionTexts)
    (made : List Made) (left : List (List ℕ)) (bundles : List Bundle) (edits : List Edit) →
    IsFileOf words text file → IsAccepted text tree known → IsSome held → AreSessionTexts held s texts → texts.program ≡ file →
    SpellsEdits (id_of file) texts.edits edits → HoldRuns file made left → AreSpelled left bundles → ArePlainEdits (reports_in bundles) edits →
    RemoveHeldRuns edits → AreOneByNumber made → length (by_number made) ≤ report_limit →
    site_lines tree known (plan_of words) (by_number made) ≤ mark_limit → SessionRefused s held → ⊥

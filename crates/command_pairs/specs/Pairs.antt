-- What the command `pairs` does: out takes the text of the best pair of predicates over the runs that a collection holds.
use Rattle.std.specs.Prelude.{◌≡◌, ℕ, List, Option}
use Rattle.cbi_base.specs.Store.{Held}
use Rattle.cbi_base.specs.declared.refusal.Refusal.{Refusal}
use Rattle.flow.specs.declared.program.ProgramParts.{ProgramParts}
use Rattle.flow.specs.Program.{table_of}
use Rattle.collector.specs.declared.collection.Bundle.{Bundle}
use Rattle.collector.specs.Sites.{branches_of}
use Rattle.elimination_tallies.specs.Recount.{runs_of}
use Rattle.compound.specs.declared.chosen.PairResult.{PairResult}
use Rattle.compound.specs.Found.{IsFound}
use Rattle.compound.specs.Text.{pairs_text}
use Rattle.command_inputs.specs.Runs.{AreRunsTexts, RunsRefused, RunsRefusedBy, SpellRuns, runs_names}
use Rattle.command_inputs.specs.declared.runs.RunsTexts.{RunsTexts}
use Rattle.cbi_options.specs.declared.words.PairsWords.{PairsWords}

-- the names that are read, in this order
abbrev pub pairs_names : PairsWords → List (List ℕ)
pairs_names w = runs_names w.program w.collection

-- the text that is due
pub record IsPaired (held : Option Held) (w : PairsWords) (text : List ℕ) : Type 0 where
  pub texts : RunsTexts
  pub parts : ProgramParts
  pub bundle : Bundle
  pub are_texts : AreRunsTexts held w.program w.collection texts
  pub spell : SpellRuns texts parts bundle
  pub found : PairResult
  pub is_found : IsFound (branches_of parts.sites) (runs_of bundle.reports) found
  pub text_is : text ≡ pairs_text (table_of parts) found

-- the bytes read are refused, and by which refusal
abbrev pub PairsRefused : PairsWords → Option Held → Type 0
PairsRefused w held = RunsRefused held w.program w.collection

abbrev pub PairsRefusedBy : PairsWords → Option Held → Refusal → Type 0
PairsRefusedBy w held refusal = RunsRefusedBy held w.program w.collection refusal

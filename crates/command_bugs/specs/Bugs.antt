-- What the command `bugs` does: out takes the bugs of a program by the runs that a collection holds.
use Rattle.std.specs.Prelude.{ℕ, List, Option}
use Rattle.cbi_base.specs.Store.{Held}
use Rattle.cbi_base.specs.declared.refusal.Refusal.{Refusal}
use Rattle.flow.specs.declared.program.ProgramParts.{ProgramParts}
use Rattle.flow.specs.Program.{table_of}
use Rattle.collector.specs.declared.collection.Bundle.{Bundle}
use Rattle.bug_rounds.specs.Text.{AreBugsOf}
use Rattle.command_inputs.specs.Runs.{AreRunsTexts, RunsRefused, RunsRefusedBy, SpellRuns, runs_names}
use Rattle.command_inputs.specs.declared.runs.RunsTexts.{RunsTexts}
use Rattle.cbi_options.specs.declared.words.BugsWords.{BugsWords}

-- the names that are read, in this order
abbrev pub bugs_names : BugsWords → List (List ℕ)
bugs_names w = runs_names w.program w.collection

-- the text that is due
pub record AreBugsListed (held : Option Held) (w : BugsWords) (text : List ℕ) : Type 0 where
  pub texts : RunsTexts
  pub parts : ProgramParts
  pub bundle : Bundle
  pub are_texts : AreRunsTexts held w.program w.collection texts
  pub spell : SpellRuns texts parts bundle
  pub bugs : AreBugsOf (table_of parts) bundle.reports w.most w.also text

-- the bytes read are refused, and by which refusal
abbrev pub BugsRefused : BugsWords → Option Held → Type 0
BugsRefused w held = RunsRefused held w.program w.collection

abbrev pub BugsRefusedBy : BugsWords → Option Held → Refusal → Type 0
BugsRefusedBy w held refusal = RunsRefusedBy held w.program w.collection refusal

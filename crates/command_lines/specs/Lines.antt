-- What the command `lines` does: out takes the suspicious lines of a program by the runs that a collection holds.
use Rattle.std.specs.Prelude.{ℕ, List, Option}
use Rattle.cbi_base.specs.Store.{Held}
use Rattle.cbi_base.specs.declared.refusal.Refusal.{Refusal}
use Rattle.flow.specs.declared.program.ProgramParts.{ProgramParts}
use Rattle.flow.specs.Program.{table_of}
use Rattle.collector.specs.declared.collection.Bundle.{Bundle}
use Rattle.elimination_tallies.specs.Recount.{runs_of}
use Rattle.suspicious_lines.specs.Text.{AreLinesOf}
use Rattle.command_inputs.specs.Runs.{AreRunsTexts, RunsRefused, RunsRefusedBy, SpellRuns, runs_names}
use Rattle.command_inputs.specs.declared.runs.RunsTexts.{RunsTexts}
use Rattle.cbi_options.specs.declared.words.LinesWords.{LinesWords}

-- the names that are read, in this order
abbrev pub lines_names : LinesWords → List (List ℕ)
lines_names w = runs_names w.program w.collection

-- the text that is due
pub record AreLinesListed (held : Option Held) (w : LinesWords) (text : List ℕ) : Type 0 where
  pub texts : RunsTexts
  pub parts : ProgramParts
  pub bundle : Bundle
  pub are_texts : AreRunsTexts held w.program w.collection texts
  pub spell : SpellRuns texts parts bundle
  pub lines : AreLinesOf (table_of parts) (runs_of bundle.reports) w.most w.apart text

-- the bytes read are refused, and by which refusal
abbrev pub LinesRefused : LinesWords → Option Held → Type 0
LinesRefused w held = RunsRefused held w.program w.collection

abbrev pub LinesRefusedBy : LinesWords → Option Held → Refusal → Type 0
LinesRefusedBy w held refusal = RunsRefusedBy held w.program w.collection refusal

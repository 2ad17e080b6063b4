-- What the command `cards` does: out takes the cards of the predicates that a ranking of a collection's runs lists.
use Rattle.std.specs.Prelude.{ℕ, List, Option}
use Rattle.cbi_base.specs.Store.{Held}
use Rattle.cbi_base.specs.declared.refusal.Refusal.{Refusal}
use Rattle.flow.specs.declared.program.ProgramParts.{ProgramParts}
use Rattle.flow.specs.Program.{table_of}
use Rattle.collector.specs.declared.collection.Bundle.{Bundle}
use Rattle.affinity.specs.Text.{AreCardsOf}
use Rattle.command_inputs.specs.Runs.{AreRunsTexts, RunsRefused, RunsRefusedBy, SpellRuns, runs_names}
use Rattle.command_inputs.specs.declared.runs.RunsTexts.{RunsTexts}
use Rattle.cbi_options.specs.declared.words.CardsWords.{CardsWords}

-- the names that are read, in this order
abbrev pub cards_names : CardsWords → List (List ℕ)
cards_names w = runs_names w.program w.collection

-- the cards that are due
pub record IsDealt (held : Option Held) (w : CardsWords) (text : List ℕ) : Type 0 where
  pub texts : RunsTexts
  pub parts : ProgramParts
  pub bundle : Bundle
  pub are_texts : AreRunsTexts held w.program w.collection texts
  pub spell : SpellRuns texts parts bundle
  pub cards : AreCardsOf (table_of parts) bundle.reports text

-- the bytes read are refused, and by which refusal
abbrev pub CardsRefused : CardsWords → Option Held → Type 0
CardsRefused w held = RunsRefused held w.program w.collection

abbrev pub CardsRefusedBy : CardsWords → Option Held → Refusal → Type 0
CardsRefusedBy w held refusal = RunsRefusedBy held w.program w.collection refusal

-- What the command `rank` does: out takes the ranking of the runs that a collection holds.
use Rattle.std.specs.Prelude.{ℕ, List, Option}
use Rattle.cbi_base.specs.Store.{Held}
use Rattle.cbi_base.specs.declared.refusal.Refusal.{Refusal}
use Rattle.flow.specs.declared.program.ProgramParts.{ProgramParts}
use Rattle.flow.specs.Program.{table_of}
use Rattle.collector.specs.declared.collection.Bundle.{Bundle}
use Rattle.elimination_tallies.specs.Recount.{runs_of}
use Rattle.ranking.specs.Ranked.{IsRankingOf}
use Rattle.command_inputs.specs.Runs.{AreRunsTexts, RunsRefused, RunsRefusedBy, SpellRuns, runs_names}
use Rattle.command_inputs.specs.declared.runs.RunsTexts.{RunsTexts}
use Rattle.cbi_options.specs.declared.words.RankWords.{RankWords}

-- the names that are read, in this order
abbrev pub rank_names : RankWords → List (List ℕ)
rank_names r = runs_names r.program r.collection

-- the ranking that is due
pub record IsRanked (held : Option Held) (r : RankWords) (text : List ℕ) : Type 0 where
  pub texts : RunsTexts
  pub parts : ProgramParts
  pub bundle : Bundle
  pub are_texts : AreRunsTexts held r.program r.collection texts
  pub spell : SpellRuns texts parts bundle
  pub ranking : IsRankingOf (table_of parts) r.policy (runs_of bundle.reports) text

-- the bytes read are refused, and by which refusal
abbrev pub RankRefused : RankWords → Option Held → Type 0
RankRefused r held = RunsRefused held r.program r.collection

abbrev pub RankRefusedBy : RankWords → Option Held → Refusal → Type 0
RankRefusedBy r held refusal = RunsRefusedBy held r.program r.collection refusal

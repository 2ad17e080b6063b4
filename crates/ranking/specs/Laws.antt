-- What the rows of a ranking owe its table and its runs.
use Rattle.std.specs.Prelude.{◌≤◌, List, length}
use Rattle.cbi_base.specs.declared.policy.Policy.{Policy}
use Rattle.collector.specs.Sites.{branches_of}
use Rattle.elimination_tallies.specs.declared.labelled.LabelledRun.{LabelledRun}
use Rattle.elimination_tallies.specs.declared.listed.Listed.{Listed}
use Rattle.elimination.specs.Elimination.{IsElimination}
use Rattle.flow.specs.declared.site.TableParts.{TableParts}
use Rattle.ranking.specs.Ranking.{AreRowsOf}

-- what a ranking asks of its rows; there are no more of them than runs
pub record AreRanked (table : TableParts) (runs : List LabelledRun) (rows : List Listed) : Type 0 where
  pub rows_fit : AreRowsOf table rows
  pub few : length rows ≤ length runs

abbrev pub EliminationsAreRows : Type 0
EliminationsAreRows = (table : TableParts) (policy : Policy) (runs : List LabelledRun) (rows : List Listed) → length runs ≤ 100000
    → IsElimination (branches_of table.sites) policy runs rows → AreRanked table runs rows

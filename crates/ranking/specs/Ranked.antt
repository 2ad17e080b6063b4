-- The ranking of runs: the text of the leaders of their elimination.
use Rattle.std.specs.Prelude.{◌≡◌, ℕ, List}
use Rattle.cbi_base.specs.declared.policy.Policy.{Policy}
use Rattle.collector.specs.Sites.{branches_of}
use Rattle.elimination_tallies.specs.declared.labelled.LabelledRun.{LabelledRun}
use Rattle.elimination_tallies.specs.declared.listed.Listed.{Listed}
use Rattle.elimination.specs.Elimination.{IsElimination}
use Rattle.flow.specs.declared.site.TableParts.{TableParts}
use Rattle.ranking.specs.Ranking.{ranking_text}

-- the text of the leaders of these runs, over the sites of the table and under the policy
pub record IsRankingOf (table : TableParts) (policy : Policy) (runs : List LabelledRun) (text : List ℕ) : Type 0 where
  pub rows : List Listed
  pub ranked : IsElimination (branches_of table.sites) policy runs rows
  pub text_is : text ≡ ranking_text table rows

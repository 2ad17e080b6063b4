-- Cards written one behind another.
use Rattle.std.specs.Prelude.{◌≡◌, ℕ, ◌<◌, Bool, List, ◌++◌, map}
use Rattle.cbi_base.specs.Text.{line_of_fields, text_of}
use Rattle.collector.specs.Sites.{branches_of}
use Rattle.report_file.specs.declared.report.Report.{Report}
use Rattle.flow.specs.declared.site.TableParts.{TableParts}
use Rattle.elimination_tallies.specs.declared.labelled.LabelledRun.{LabelledRun}
use Rattle.elimination_tallies.specs.declared.listed.Listed.{Listed}
use Rattle.elimination_tallies.specs.Predicates.{predicates_in}
use Rattle.elimination_tallies.specs.Recount.{recount}
use Rattle.affinity.specs.declared.dealing.Card.{Card}
use Rattle.affinity.specs.Cards.{AreCards, IsCard}
use Rattle.affinity.specs.Text.{card_rows, cards_text}

-- a predicate that can be listed: it was true in a failing run
pub record IsListed (branches : List Bool) (runs : List LabelledRun) (p : ℕ) : Type 0 where
  pub is_one : p < predicates_in branches
  pub some : 0 < (recount branches runs p).a

-- its card was written behind a text
pub record IsCardDealt (table : TableParts) (reports : List Report) (place p : ℕ) (before now : List ℕ) : Type 0 where
  pub card : Card
  pub is : IsCard (branches_of table.sites) reports p card
  pub text_is : now ≡ before ++ text_of (map line_of_fields (card_rows table place card))

-- the text is that of a card for each of these rows
pub record HaveCards (table : TableParts) (reports : List Report) (rows : List Listed) (text : List ℕ) : Type 0 where
  pub cards : List Card
  pub are : AreCards (branches_of table.sites) reports rows cards
  pub text_is : text ≡ cards_text table cards

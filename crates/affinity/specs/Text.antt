-- The text of cards: of each its place from 1 and where its predicate stands, its runs, and a line for each predicate near it; then an end.
use Rattle.std.specs.Prelude.{◌≡◌, ℕ, ◌+◌, ◌<◌, List, [], ◌∷◌, ◌++◌, map, codes, decimal, Option, None, Some, slice_index_or, All}
use Rattle.cbi_base.specs.Text.{line_of_fields, text_of}
use Rattle.cbi_base.specs.declared.policy.Policy.TheVariants.{All as Every}
use Rattle.collector.specs.Sites.{branches_of}
use Rattle.report_file.specs.declared.report.Report.{Report}
use Rattle.flow.specs.declared.site.Site.{Site}
use Rattle.flow.specs.declared.site.TableParts.{TableParts}
use Rattle.flow.specs.Predicates.{predicate_count, predicate_text, site_at}
use Rattle.elimination_tallies.specs.declared.listed.Listed.{Listed}
use Rattle.elimination_tallies.specs.Recount.{runs_of}
use Rattle.elimination.specs.Elimination.{IsElimination}
use Rattle.affinity.specs.declared.dealing.Card.{Card}
use Rattle.affinity.specs.declared.neighbour.Neighbour.{Neighbour}
use Rattle.affinity.specs.Cards.{AreCards}

-- where a predicate stands, and what it says
abbrev pub place_fields : List (List ℕ) → Option Site → List ℕ → List (List ℕ)
place_fields functions None text = []
place_fields functions (Some site) text = slice_index_or functions site.function [] ∷ decimal site.line ∷ text ∷ []

abbrev pub card_head : TableParts → ℕ → ℕ → List (List ℕ)
card_head table place p = codes "card" ∷ decimal place ∷ decimal p ∷ place_fields table.functions (site_at table.sites p) (predicate_text table.sites p)

abbrev pub truth_fields : Card → List (List ℕ)
truth_fields c = codes "truth" ∷ decimal c.failing ∷ decimal c.successful ∷ codes "first" ∷ decimal c.first ∷ []

abbrev pub near_fields : TableParts → Neighbour → List (List ℕ)
near_fields table n = codes "near" ∷ decimal n.predicate ∷ decimal n.fall ∷ predicate_text table.sites n.predicate ∷ []

abbrev pub card_rows : TableParts → ℕ → Card → List (List (List ℕ))
card_rows table place c = card_head table place c.predicate ∷ truth_fields c ∷ map (near_fields table) c.near

-- the cards in their order, the first of them with this place
abbrev pub cards_rows : TableParts → ℕ → List Card → List (List (List ℕ))
cards_rows table place [] = []
cards_rows table place (c ∷ more) = card_rows table place c ++ cards_rows table (place + 1) more

abbrev pub cards_text : TableParts → List Card → List ℕ
cards_text table cards = text_of (map line_of_fields (cards_rows table 1 cards ++ (codes "end" ∷ []) ∷ []))

-- the text of the cards of all leaders of the runs, where each leader's runs are discarded
pub record AreCardsOf (table : TableParts) (reports : List Report) (text : List ℕ) : Type 0 where
  pub rows : List Listed
  pub listed : IsElimination (branches_of table.sites) Every (runs_of reports) rows
  pub cards : List Card
  pub are_cards : AreCards (branches_of table.sites) reports rows cards
  pub text_is : text ≡ cards_text table cards

-- a card that a text can have
pub record HasText (table : TableParts) (c : Card) : Type 0 where
  pub predicate : c.predicate < predicate_count table.sites
  pub near : All (λ (n : Neighbour). n.predicate < predicate_count table.sites) c.near

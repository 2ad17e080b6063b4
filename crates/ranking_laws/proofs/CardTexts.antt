-- There is a card of each leader, and a text of them.
use Rattle.std.proofs.Common.{◌≡◌, ℕ, ◌<◌, ◌≤◌, inl, inr, Bool, List, [], ◌∷◌, length, refl, ap, subst, ◌∙◌, arith}
use Rattle.std.specs.Prelude.{All}
use Rattle.std.proofs.lemmas.Bool.{cases_lt}
use Rattle.std.proofs.lemmas.List.Elements.{All-cons, All-contains, All-head, All-nil, All-tail, All-weaker}
use Rattle.cbi_base.specs.declared.policy.Policy.TheVariants.{All as Every}
use Rattle.collector.specs.Sites.{branches_of}
use Rattle.report_file.specs.declared.report.Report.{Report}
use Rattle.elimination_tallies.specs.declared.listed.Listed.{Listed}
use Rattle.elimination_tallies.specs.Recount.{recount, runs_of}
use Rattle.affinity.specs.declared.dealing.Card.{Card}
use Rattle.affinity.specs.declared.neighbour.Neighbour.{Neighbour}
use Rattle.affinity.specs.Cards.{AreCards, IsCard, IsLeastOf, failing_true}
use Rattle.affinity.specs.Dealing.{IsListed}
use Rattle.affinity.specs.Text.{cards_text}
use Rattle.affinity.proofs.CardLemmas.{are-listed}
use Rattle.affinity.proofs.FailingLemmas.{failing-many}
use Rattle.ranking_laws.specs.Laws.{CollectionsHaveOneTextOfCards, PredicatesHaveOneCard, ThereIsOne}
use Rattle.ranking_laws.proofs.Firsts.{first-member, later-member}
use Rattle.ranking_laws.proofs.Leaders.{runs_have_one_elimination}
use Rattle.ranking_laws.proofs.NearLists.{predicates_have_one_near_list}

-- the least of some numbers
least : (n : ℕ) (more : List ℕ) → (m : ℕ) × IsLeastOf (n ∷ more) m
least n [] = (n, (first-member n [], All-cons (λ k. n ≤ k) n [] (omega arith) (All-nil (λ k. n ≤ k))))
least n (next ∷ more) =
    let rest = least next more in
    elim (cases_lt rest.0 n) [
      | inl less ↦ (rest.0, (later-member n (next ∷ more) rest.0 rest.1.0, All-cons (λ k. rest.0 ≤ k) n (next ∷ more) (omega arith) rest.1.1))
      | inr most ↦ (n, (first-member n (next ∷ more), All-cons (λ k. n ≤ k) n (next ∷ more) (omega arith) (All-weaker (λ k. rest.0 ≤ k) (λ k. n ≤ k) (λ k h. omega (arith, h, most)) (next ∷ more) rest.1.1)))
    ]

one-least : (numbers : List ℕ) → 0 < length numbers → ThereIsOne (IsLeastOf numbers)
one-least [] some = absurd (omega (arith, some))
one-least (n ∷ more) some =
    let first = least n more in record {
      one = first.0;
      is = first.1;
      only = λ other is. omega (arith, All-contains (λ k. first.0 ≤ k) (n ∷ more) other first.1.1 is.0, All-contains (λ k. other ≤ k) (n ∷ more) first.0 is.1 first.1.0);
    }

card-is : (a b : Card) → a.predicate ≡ b.predicate → a.failing ≡ b.failing → a.successful ≡ b.successful → a.first ≡ b.first → a.near ≡ b.near → a ≡ b
card-is a b predicate failing successful first near =
    let make : ℕ → ℕ → ℕ → ℕ → List Neighbour → Card = λ p f s n rows. record { predicate = p; failing = f; successful = s; first = n; near = rows } in
    ap (λ p. make p a.failing a.successful a.first a.near) predicate ∙ ap (λ f. make b.predicate f a.successful a.first a.near) failing
    ∙ ap (λ s. make b.predicate b.failing s a.first a.near) successful ∙ ap (λ n. make b.predicate b.failing b.successful n a.near) first
    ∙ ap (λ (rows : List Neighbour). make b.predicate b.failing b.successful b.first rows) near

pub predicates_have_one_card : PredicatesHaveOneCard
predicates_have_one_card branches reports p some =
    let tally = recount branches (runs_of reports) p in
    let first = one-least (failing_true branches reports p) (omega (arith, some, failing-many branches reports p)) in
    let near = predicates_have_one_near_list branches (runs_of reports) p in
    let card : Card = record { predicate = p; failing = tally.a; successful = tally.b; first = first.one; near = near.one } in record {
      one = card;
      is = record { predicate = refl; failing = refl; successful = refl; first = first.is; near = near.is };
      only = λ other is. card-is other card is.predicate is.failing is.successful (first.only other.first is.first) (near.only other.near is.near);
    }

abbrev AreListed : List Bool → List Report → List Listed → Type 0
AreListed branches reports rows = All (λ (row : Listed). IsListed branches (runs_of reports) row.predicate) rows

-- the cards of rows in their order
one-of-cards : (branches : List Bool) (reports : List Report) (rows : List Listed) → AreListed branches reports rows → ThereIsOne (AreCards branches reports rows)
one-of-cards branches reports [] listed = record { one = []; is = tt; only = λ other are. none-is other are }
  where
    none-is : (cards : List Card) → AreCards branches reports [] cards → cards ≡ []
    none-is [] are = refl
    none-is (c ∷ more) are = absurd are
one-of-cards branches reports (row ∷ more) listed =
    let first = predicates_have_one_card branches reports row.predicate (All-head (λ (r : Listed). IsListed branches (runs_of reports) r.predicate) row more listed).some in
    let rest = one-of-cards branches reports more (All-tail (λ (r : Listed). IsListed branches (runs_of reports) r.predicate) row more listed) in
    record { one = first.one ∷ rest.one; is = (first.is, rest.is); only = λ other are. more-are first rest other are }
  where
    more-are : (first : ThereIsOne (IsCard branches reports row.predicate)) (rest : ThereIsOne (AreCards branches reports more)) (cards : List Card) → AreCards branches reports (row ∷ more) cards → cards ≡ first.one ∷ rest.one
    more-are first rest [] are = absurd are
    more-are first rest (c ∷ cards) are = ap (λ (x : Card). x ∷ cards) (first.only c are.0) ∙ ap (λ (xs : List Card). first.one ∷ xs) (rest.only cards are.1)

pub collections_have_one_text_of_cards : CollectionsHaveOneTextOfCards
collections_have_one_text_of_cards table reports =
    let branches = branches_of table.sites in
    let rows = runs_have_one_elimination branches Every (runs_of reports) in
    let cards = one-of-cards branches reports rows.one (are-listed branches (runs_of reports) rows.one rows.is) in record {
      one = cards_text table cards.one;
      is = record { rows = rows.one; listed = rows.is; cards = cards.one; are_cards = cards.is; text_is = refl };
      only = λ other is. is.text_is ∙ ap (cards_text table) (cards.only is.cards (subst (λ (xs : List Listed). AreCards branches reports xs is.cards) (rows.only is.rows is.listed) is.are_cards));
    }

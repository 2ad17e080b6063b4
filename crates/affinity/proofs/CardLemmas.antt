-- Cards of leaders, written one behind another.
use Rattle.std.proofs.Common.{◌≡◌, ℕ, suc, ◌+◌, ◌≤◌, Bool, List, [], ◌∷◌, ◌++◌, length, refl, sym, ap, subst, ◌∙◌, append_assoc, arith}
use Rattle.std.specs.Prelude.{All, map}
use Rattle.std.proofs.lemmas.List.{append-nil}
use Rattle.std.proofs.lemmas.List.Elements.{All-cons, All-nil}
use Rattle.cbi_base.specs.Text.{line_with_newline, line_of_fields, text_of}
use Rattle.cbi_base.specs.declared.policy.Policy.TheVariants.{All as Every}
use Rattle.collector.specs.Sites.{branches_of}
use Rattle.report_file.specs.declared.report.Report.{Report}
use Rattle.flow.specs.declared.site.TableParts.{TableParts}
use Rattle.elimination_tallies.specs.declared.labelled.LabelledRun.{LabelledRun}
use Rattle.elimination_tallies.specs.declared.listed.Listed.{Listed}
use Rattle.elimination_tallies.specs.Recount.{recount}
use Rattle.elimination.specs.Elimination.{IsElimination, runs_after_leader}
use Rattle.elimination.proofs.EliminationLemmas.{passes-positive}
use Rattle.elimination.proofs.UniqueLemmas.{true-falls}
use Rattle.affinity.specs.declared.dealing.Card.{Card}
use Rattle.affinity.specs.Cards.{AreCards, IsCard}
use Rattle.affinity.specs.Dealing.{IsCardDealt, IsListed}
use Rattle.affinity.specs.Text.{card_rows, cards_rows}

-- each leader was true in a failing run
listed-within : (branches : List Bool) (all runs : List LabelledRun) (rows : List Listed) → ((p : ℕ) → (recount branches runs p).a ≤ (recount branches all p).a) → IsElimination branches Every runs rows → All (λ (row : Listed). IsListed branches all row.predicate) rows
listed-within branches all runs [] most is = All-nil (λ (row : Listed). IsListed branches all row.predicate)
listed-within branches all runs (row ∷ more) most is =
    All-cons (λ (x : Listed). IsListed branches all x.predicate) row more
    (record { is_one = is.0.leads.is_one; some = omega (arith, most row.predicate, passes-positive (recount branches runs row.predicate) is.0.leads.passes) })
    (listed-within branches all (runs_after_leader branches Every row.predicate runs) more (λ p. omega (arith, most p, true-falls branches Every row.predicate p runs)) is.1)

pub are-listed : (branches : List Bool) (runs : List LabelledRun) (rows : List Listed) → IsElimination branches Every runs rows → All (λ (row : Listed). IsListed branches runs row.predicate) rows
are-listed branches runs rows is = listed-within branches runs runs rows (λ p. omega arith) is

-- texts of lines, one behind another
pub lines-append : (xs ys : List (List (List ℕ))) → text_of (map line_of_fields (xs ++ ys)) ≡ text_of (map line_of_fields xs) ++ text_of (map line_of_fields ys)
lines-append [] ys = refl
lines-append (x ∷ xs) ys = ap (λ t. line_with_newline (line_of_fields x) ++ t) (lines-append xs ys) ∙ sym (append_assoc (line_with_newline (line_of_fields x)) (text_of (map line_of_fields xs)) (text_of (map line_of_fields ys)))

rows-more : (table : TableParts) (place : ℕ) (cards : List Card) (c : Card) (last : ℕ) → last ≡ place + length cards → cards_rows table place (cards ++ c ∷ []) ≡ cards_rows table place cards ++ card_rows table last c
rows-more table place [] c last is = append-nil (card_rows table place c) ∙ ap (λ n. card_rows table n c) (omega (arith, is))
rows-more table place (x ∷ more) c last is =
    ap (λ (rows : List (List (List ℕ))). card_rows table place x ++ rows) (rows-more table (place + 1) more c last (omega (arith, is)))
    ∙ sym (append_assoc (card_rows table place x) (cards_rows table (place + 1) more) (card_rows table last c))

cards-more : (branches : List Bool) (reports : List Report) (rows : List Listed) (cards : List Card) (row : Listed) (c : Card) → AreCards branches reports rows cards → IsCard branches reports row.predicate c → AreCards branches reports (rows ++ row ∷ []) (cards ++ c ∷ [])
cards-more branches reports [] [] row c are is = (is, tt)
cards-more branches reports [] (x ∷ cards) row c are is = absurd are
cards-more branches reports (y ∷ rows) [] row c are is = absurd are
cards-more branches reports (y ∷ rows) (x ∷ cards) row c are is = (are.0, cards-more branches reports rows cards row c are.1 is)

cards-many : (branches : List Bool) (reports : List Report) (rows : List Listed) (cards : List Card) → AreCards branches reports rows cards → length cards ≡ length rows
cards-many branches reports [] [] are = refl
cards-many branches reports [] (x ∷ cards) are = absurd are
cards-many branches reports (y ∷ rows) [] are = absurd are
cards-many branches reports (y ∷ rows) (x ∷ cards) are = ap suc (cards-many branches reports rows cards are.1)

-- the cards of the rows so far
pub record DealtSoFar (table : TableParts) (reports : List Report) (rows : List Listed) (text : List ℕ) : Type 0 where
  pub cards : List Card
  pub are : AreCards (branches_of table.sites) reports rows cards
  pub text_is : text ≡ text_of (map line_of_fields (cards_rows table 1 cards))

pub dealt-more : (table : TableParts) (reports : List Report) (rows more : List Listed) (row : Listed) (place : ℕ) (text new : List ℕ) → more ≡ rows ++ row ∷ [] → place ≡ length rows + 1 → DealtSoFar table reports rows text → IsCardDealt table reports place row.predicate text new
    → DealtSoFar table reports more new
dealt-more table reports rows more row place text new all last so_far dealt =
    let bs = branches_of table.sites in
    let c = dealt.card in
    let now = cards_rows table 1 so_far.cards in
    subst (λ (rs : List Listed). DealtSoFar table reports rs new) (sym all) (record {
      cards = so_far.cards ++ c ∷ [];
      are = cards-more bs reports rows so_far.cards row c so_far.are dealt.is;
      text_is = dealt.text_is ∙ ap (λ t. t ++ text_of (map line_of_fields (card_rows table place c))) so_far.text_is ∙ sym (lines-append now (card_rows table place c))
          ∙ ap (λ (ls : List (List (List ℕ))). text_of (map line_of_fields ls)) (sym (rows-more table 1 so_far.cards c place (omega (arith, last, cards-many bs reports rows so_far.cards so_far.are))));
    })

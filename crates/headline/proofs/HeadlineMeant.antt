-- From the reports of runs to what cards, pairs and suspicious lines say of the runs as the text means them.
use Rattle.std.proofs.Common.{◌≡◌, ℕ, Bool, true, false, ◌&&◌, cond, List, [], ◌∷◌, map, ap, ap₂, subst, ◌∙◌, refl}
use Rattle.std.specs.Prelude.{filter}
use Rattle.cbi_base.specs.declared.outcome.Work.{Work}
use Rattle.cbi_base.specs.declared.policy.Policy.TheVariants.{All as Every}
use Rattle.c_syntax.specs.ItemTree.{SourceTree}
use Rattle.c_types_expressions.specs.declared.walk.Walk.{Walk}
use Rattle.flow.specs.Words.{OneEnding, table_of, SpellsProgram}
use Rattle.flow.specs.declared.program.ProgramParts.{ProgramParts}
use Rattle.flow.specs.declared.site.TableParts.{TableParts}
use Rattle.report_file.specs.declared.report.Report.{Report}
use Rattle.collector.specs.Sites.{branches_of}
use Rattle.elimination_tallies.specs.declared.labelled.LabelledRun.{LabelledRun}
use Rattle.elimination_tallies.specs.declared.listed.Listed.{Listed}
use Rattle.elimination_tallies.specs.Recount.{is_failing, is_true, run_of_report, recount, runs_of}
use Rattle.elimination.specs.Elimination.{IsElimination}
use Rattle.affinity.specs.declared.dealing.Card.{Card}
use Rattle.affinity.specs.Cards.{AreCards, IsCard, IsLeastOf, failing_true, is_failing_true}
use Rattle.affinity.specs.Near.{AreNear}
use Rattle.affinity.specs.Text.{AreCardsOf}
use Rattle.suspicious_lines.specs.Text.{AreLinesOf}
use Rattle.compiler.specs.Accepted.{IsAccepted}
use Rattle.compiler.specs.Compiled.{IsCompiled}
use Rattle.compiler.specs.declared.plan.Plan.{Plan}
use Rattle.compiler.proofs.Refusing.{OneKnown, OneTree}
use Rattle.headline.specs.Chain.{AreReportsOf, Made, meant_report, meant_run, meant_table}
use Rattle.headline.specs.Headline.{IsPairOf}
use Rattle.headline.proofs.Chaining.{OneProgram}
use Rattle.headline.proofs.Ranking.{run-means, runs-mean, table-means}

-- what a card sees of two lists of reports is the same
abbrev pub AreSeenAlike : List Report → List Report → Type 0
AreSeenAlike [] [] = Unit {0}
AreSeenAlike [] (y ∷ ys) = ⊥
AreSeenAlike (x ∷ xs) [] = ⊥
AreSeenAlike (x ∷ xs) (y ∷ ys) = (x.run ≡ y.run) × (run_of_report x ≡ run_of_report y) × AreSeenAlike xs ys

pub seen-runs : (xs ys : List Report) → AreSeenAlike xs ys → runs_of xs ≡ runs_of ys
seen-runs [] [] alike = refl
seen-runs [] (y ∷ ys) alike = absurd alike
seen-runs (x ∷ xs) [] alike = absurd alike
seen-runs (x ∷ xs) (y ∷ ys) alike = ap₂ (λ (run : LabelledRun) runs. run ∷ runs) alike.1 (seen-runs xs ys alike.2)

abbrev number_of : Report → ℕ
number_of r = r.run

module _ (branches : List Bool) (p : ℕ) where
  failing-by : (b : Bool) (x y : Report) (xs ys : List Report) → x.run ≡ y.run → map number_of xs ≡ map number_of ys → map number_of (cond b (x ∷ xs) xs) ≡ map number_of (cond b (y ∷ ys) ys)
  failing-by true x y xs ys same rest = ap₂ (λ (n : ℕ) ns. n ∷ ns) same rest
  failing-by false x y xs ys same rest = rest

  pub seen-failing : (xs ys : List Report) → AreSeenAlike xs ys → failing_true branches xs p ≡ failing_true branches ys p
  seen-failing [] [] alike = refl
  seen-failing [] (y ∷ ys) alike = absurd alike
  seen-failing (x ∷ xs) [] alike = absurd alike
  seen-failing (x ∷ xs) (y ∷ ys) alike =
      let others = filter (is_failing_true branches p) xs in
      ap (λ (run : LabelledRun). map number_of (cond (is_failing run.label && is_true branches p run) (x ∷ others) others)) alike.1
      ∙ failing-by (is_failing_true branches p y) x y others (filter (is_failing_true branches p) ys) alike.0 (seen-failing xs ys alike.2)

seen-card : (branches : List Bool) (xs ys : List Report) (p : ℕ) (c : Card) → AreSeenAlike xs ys → IsCard branches xs p c → IsCard branches ys p c
seen-card branches xs ys p c alike is =
    let runs = seen-runs xs ys alike in record {
      predicate = is.predicate;
      failing = is.failing ∙ ap (λ rs. (recount branches rs p).a) runs;
      successful = is.successful ∙ ap (λ rs. (recount branches rs p).b) runs;
      first = subst (λ numbers. IsLeastOf numbers c.first) (seen-failing branches p xs ys alike) is.first;
      near = subst (λ rs. AreNear branches rs p c.near) runs is.near;
    }

seen-cards : (branches : List Bool) (xs ys : List Report) (rows : List Listed) (cards : List Card) → AreSeenAlike xs ys → AreCards branches xs rows cards → AreCards branches ys rows cards
seen-cards branches xs ys [] [] alike are = tt
seen-cards branches xs ys [] (c ∷ cards) alike are = absurd are
seen-cards branches xs ys (row ∷ rows) [] alike are = absurd are
seen-cards branches xs ys (row ∷ rows) (c ∷ cards) alike are = (seen-card branches xs ys row.predicate c alike are.0, seen-cards branches xs ys rows cards alike are.1)

dealt-alike : (table : TableParts) (xs ys : List Report) (text : List ℕ) → AreSeenAlike xs ys → AreCardsOf table xs text → AreCardsOf table ys text
dealt-alike table xs ys text alike are = record {
  rows = are.rows;
  listed = subst (λ rs. IsElimination (branches_of table.sites) Every rs are.rows) (seen-runs xs ys alike) are.listed;
  cards = are.cards;
  are_cards = seen-cards (branches_of table.sites) xs ys are.rows are.cards alike are.are_cards;
  text_is = are.text_is;
}

module _ (one_ending : OneEnding) (one_program : OneProgram) (one_tree : OneTree) (one_known : OneKnown) (text file : List ℕ) (by : Plan) (p : ProgramParts) (compiled : IsCompiled text by p) (spells : SpellsProgram file p)
    (tree : SourceTree) (known : Walk) (accepted : IsAccepted text tree known) where
  pub reports-seen : (work : Work) (made : List Made) (reports : List Report) → AreReportsOf file made reports → AreSeenAlike reports (map (meant_report tree known by file work) made)
  reports-seen work [] [] are = tt
  reports-seen work [] (r ∷ reports) are = absurd are
  reports-seen work (one ∷ made) [] are = absurd are
  reports-seen work (one ∷ made) (r ∷ reports) are = (
    ap number_of are.0.report_is,
    run-means one_ending one_program one_tree one_known text file by p compiled spells tree known accepted one r are.0,
    reports-seen work made reports are.1,
  )

  pub deals-meaning : (work : Work) (made : List Made) (reports : List Report) (q : ProgramParts) (cards : List ℕ) → SpellsProgram file q → AreReportsOf file made reports → AreCardsOf (table_of q) reports cards
      → AreCardsOf (meant_table tree known by) (map (meant_report tree known by file work) made) cards
  deals-meaning work made reports q cards also are dealt =
      subst (λ t. AreCardsOf t (map (meant_report tree known by file work) made) cards) (table-means one_ending one_program one_tree one_known text file by p compiled spells tree known accepted q also)
      (dealt-alike (table_of q) reports (map (meant_report tree known by file work) made) cards (reports-seen work made reports are) dealt)

  pub pairs-meaning : (made : List Made) (reports : List Report) (q : ProgramParts) (pairs : List ℕ) → SpellsProgram file q → AreReportsOf file made reports → IsPairOf (table_of q) (runs_of reports) pairs
      → IsPairOf (meant_table tree known by) (map (meant_run tree known by) made) pairs
  pairs-meaning made reports q pairs also are paired =
      subst (λ t. IsPairOf t (map (meant_run tree known by) made) pairs) (table-means one_ending one_program one_tree one_known text file by p compiled spells tree known accepted q also)
      (subst (λ runs. IsPairOf (table_of q) runs pairs) (runs-mean one_ending one_program one_tree one_known text file by p compiled spells tree known accepted made reports are) paired)

  pub lines-meaning : (made : List Made) (reports : List Report) (q : ProgramParts) (most apart : ℕ) (lines : List ℕ) → SpellsProgram file q → AreReportsOf file made reports
      → AreLinesOf (table_of q) (runs_of reports) most apart lines → AreLinesOf (meant_table tree known by) (map (meant_run tree known by) made) most apart lines
  lines-meaning made reports q most apart lines also are listed =
      subst (λ t. AreLinesOf t (map (meant_run tree known by) made) most apart lines) (table-means one_ending one_program one_tree one_known text file by p compiled spells tree known accepted q also)
      (subst (λ runs. AreLinesOf (table_of q) runs most apart lines) (runs-mean one_ending one_program one_tree one_known text file by p compiled spells tree known accepted made reports are) listed)

-- From what the code keeps to the text of suspicious lines.
use Rattle.std.proofs.Common.{◌≡◌, ℕ, ◌≤◌, List, length, sym, ap, subst, ◌∙◌}
use Rattle.std.specs.Prelude.{All}
use Rattle.flow.specs.declared.site.TableParts.{TableParts}
use Rattle.flow.specs.Sites.{IsTable}
use Rattle.elimination_tallies.specs.declared.labelled.LabelledRun.{LabelledRun}
use Rattle.elimination_tallies.specs.Recount.{failing_runs}
use Rattle.association.specs.declared.suspect.Suspect.{Suspect}
use Rattle.association.specs.Order.{IsOfRuns}
use Rattle.suspicious_lines.specs.declared.totals.Totals.{Totals}
use Rattle.suspicious_lines.specs.Listing.{AreListed}
use Rattle.suspicious_lines.specs.Places.{place_count}
use Rattle.suspicious_lines.specs.Suspects.{successful_runs, suspects_of}
use Rattle.suspicious_lines.specs.Text.{AreLinesOf, IsShown, suspicious_text}
use Rattle.suspicious_lines.proofs.Bounds.{suspects-runs, suspects-shown}
use Rattle.suspicious_lines.proofs.Lawful.{listed-same}
use Rattle.suspicious_lines.proofs.ListLemmas.{listed-all}

-- what is kept of runs: how many fail and are successful, and their suspects
pub record AreKept (table : TableParts) (runs : List LabelledRun) (t : Totals) (suspects : List Suspect) : Type 0 where
  pub failing : t.failing ≡ failing_runs runs
  pub successful : t.successful ≡ successful_runs runs
  pub suspects_are : suspects ≡ suspects_of table runs

totals-so : (P : ℕ → ℕ → Type 0) (runs : List LabelledRun) (t : Totals) → t.failing ≡ failing_runs runs → t.successful ≡ successful_runs runs → P (failing_runs runs) (successful_runs runs) → P t.failing t.successful
totals-so P runs t fails succeeds is = subst (λ n. P t.failing n) (sym succeeds) (subst (λ n. P n (successful_runs runs)) (sym fails) is)

pub kept-runs : (table : TableParts) (runs : List LabelledRun) (t : Totals) (suspects : List Suspect) → length runs ≤ 100000 → AreKept table runs t suspects → All (IsOfRuns t.failing t.successful) suspects
kept-runs table runs t suspects few kept =
    subst (All (IsOfRuns t.failing t.successful)) (sym kept.suspects_are) (totals-so (λ f s. All (IsOfRuns f s) (suspects_of table runs)) runs t kept.failing kept.successful (suspects-runs table runs few))

kept-listed : (table : TableParts) (runs : List LabelledRun) (t : Totals) (suspects rows : List Suspect) (apart most : ℕ) → AreKept table runs t suspects → AreListed t.failing t.successful apart most suspects rows → AreListed (failing_runs runs) (successful_runs runs) apart most (suspects_of table runs) rows
kept-listed table runs t suspects rows apart most kept listed = listed-same t.failing (failing_runs runs) t.successful (successful_runs runs) apart most suspects (suspects_of table runs) rows kept.failing kept.successful kept.suspects_are listed

pub kept-shown : (table : TableParts) (runs : List LabelledRun) (t : Totals) (suspects rows : List Suspect) (apart most : ℕ) → IsTable table → length runs ≤ 100000 → AreKept table runs t suspects → AreListed t.failing t.successful apart most suspects rows → All (IsShown table t.failing t.successful) rows
kept-shown table runs t suspects rows apart most fits few kept listed =
    let shown = listed-all (IsShown table (failing_runs runs) (successful_runs runs)) (failing_runs runs) (successful_runs runs) apart most (suspects_of table runs) rows (suspects-shown table runs fits few) (kept-listed table runs t suspects rows apart most kept listed) in
    totals-so (λ f s. All (IsShown table f s) rows) runs t kept.failing kept.successful shown

pub kept-told : (table : TableParts) (runs : List LabelledRun) (t : Totals) (suspects rows : List Suspect) (apart most places : ℕ) (text : List ℕ) → AreKept table runs t suspects → places ≡ place_count suspects → AreListed t.failing t.successful apart most suspects rows
    → text ≡ suspicious_text table t.failing t.successful places rows → AreLinesOf table runs most apart text
kept-told table runs t suspects rows apart most places text kept places_are listed text_is = record {
  rows = rows;
  listed = kept-listed table runs t suspects rows apart most kept listed;
  text_is = text_is ∙ ap (λ n. suspicious_text table n t.successful places rows) kept.failing ∙ ap (λ n. suspicious_text table (failing_runs runs) n places rows) kept.successful
      ∙ ap (λ n. suspicious_text table (failing_runs runs) (successful_runs runs) n rows) (places_are ∙ ap place_count kept.suspects_are);
}

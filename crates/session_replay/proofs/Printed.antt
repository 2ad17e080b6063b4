-- What edits print is one text, and additions alone print what their collection does, which is the ranking of the map of their reports.
use Rattle.std.proofs.Common.{◌≡◌, ℕ, List, [], ◌∷◌, ◌++◌, Ok, Option, None, Some, Bool, true, false, cond, ◌==◌, ◌⊎◌, ◌≢◌, ⊎_elim, ap, sym, subst, ◌∙◌, refl, append_assoc, arith}
use Rattle.std.specs.Prelude.{map}
use Rattle.std.proofs.lemmas.Bool.Decides.{nat_tests}
use Rattle.std.proofs.lemmas.List.{append-nil}
use Rattle.base_lists.proofs.Numbers.{other_number}
use Rattle.cbi_base.specs.declared.identity.ProgramId.{ProgramId}
use Rattle.cbi_base.specs.declared.policy.Policy.{Policy}
use Rattle.collector.specs.Collected.{report_at}
use Rattle.collector.specs.Merging.{AddsAll}
use Rattle.collector.specs.Order.{map_of}
use Rattle.collector.specs.Sites.{branches_of}
use Rattle.collector.specs.declared.answers.Merged.{Merged}
use Rattle.collector.specs.declared.collection.Held.{Held}
use Rattle.collector.proofs.Maps.{at-with, at-with-other}
use Rattle.collector.proofs.Ordering.{rising-from, rising-map}
use Rattle.elimination.proofs.UniqueLemmas.{one-elimination}
use Rattle.flow.specs.declared.site.TableParts.{TableParts}
use Rattle.ranking.specs.Ranked.{IsRankingOf}
use Rattle.ranking.specs.Ranking.{ranking_text}
use Rattle.report_file.specs.declared.report.Report.{Report}
use Rattle.session_edits.specs.Held.{report_held}
use Rattle.session_edits.specs.declared.edit.Edit.{Edit}
use Rattle.session_edits.specs.declared.edit.Edit.TheVariants.{Add, Remove, Relabel, Rank}
use Rattle.session_laws.specs.Accepted.{AreHeldOf}
use Rattle.session_laws.proofs.Maps.{accepted-hold, held-once}
use Rattle.session_laws.proofs.Steps.{held-step, is-of, step}
use Rattle.session_laws.proofs.Taken.{additions-only}
use Rattle.session_replay.specs.Replay.{AreRankings, IsRankingAfter, no_runs}
use Rattle.elimination_tallies.specs.declared.labelled.LabelledRun.{LabelledRun}
use Rattle.elimination_tallies.specs.Recount.{runs_of}

ranking-once : (table : TableParts) (policy : Policy) (runs : List LabelledRun) (a b : List ℕ) → IsRankingOf table policy runs a → IsRankingOf table policy runs b → a ≡ b
ranking-once table policy runs a b x y = x.text_is ∙ ap (ranking_text table) (one-elimination (branches_of table.sites) policy runs x.rows y.rows x.ranked y.ranked) ∙ sym y.text_is

after-as : (table : TableParts) (policy : Policy) (edits : List Edit) (reports : List Report) (text : List ℕ) (x : IsRankingAfter table policy edits text) → x.reports ≡ reports → IsRankingOf table policy (runs_of reports) text
after-as table policy edits reports text x same = subst (λ rs. IsRankingOf table policy (runs_of rs) text) same x.ranking

after-once : (table : TableParts) (policy : Policy) (edits : List Edit) (a b : List ℕ) → IsRankingAfter table policy edits a → IsRankingAfter table policy edits b → a ≡ b
after-once table policy edits a b x y = ranking-once table policy (runs_of y.reports) a b (after-as table policy edits y.reports a x (held-once edits x.reports y.reports x.held y.held)) y.ranking

rankings-once : (table : TableParts) (policy : Policy) (more before : List Edit) (a b : List ℕ) → AreRankings table policy before more a → AreRankings table policy before more b → a ≡ b
rankings-once table policy [] before a b x y = x ∙ sym y
rankings-once table policy (Add r ∷ more) before a b x y = rankings-once table policy more (before ++ Add r ∷ []) a b x y
rankings-once table policy (Remove run ∷ more) before a b x y = rankings-once table policy more (before ++ Remove run ∷ []) a b x y
rankings-once table policy (Relabel run label ∷ more) before a b x y = rankings-once table policy more (before ++ Relabel run label ∷ []) a b x y
rankings-once table policy (Rank ∷ more) before a b x y =
    x.text_is ∙ ap (λ piece. piece ++ x.rest) (after-once table policy before x.piece y.piece x.is_piece y.is_piece)
    ∙ ap (λ rest. y.piece ++ rest) (rankings-once table policy more (before ++ Rank ∷ []) x.rest y.rest x.is_rest y.is_rest) ∙ sym y.text_is

pub one-text : (table : TableParts) (policy : Policy) (edits : List Edit) (a b : List ℕ) → AreRankings table policy [] edits a → AreRankings table policy [] edits b → a ≡ b
one-text table policy edits a b x y = rankings-once table policy edits [] a b x y

-- additions write nothing
behind-additions : (table : TableParts) (policy : Policy) (reports : List Report) (before more : List Edit) (text : List ℕ) → AreRankings table policy before (map Add reports ++ more) text → AreRankings table policy (before ++ map Add reports) more text
behind-additions table policy [] before more text x = subst (λ bs. AreRankings table policy bs more text) (sym (append-nil before)) x
behind-additions table policy (r ∷ reports) before more text x =
    subst (λ bs. AreRankings table policy bs more text) (append_assoc before (Add r ∷ []) (map Add reports)) (behind-additions table policy reports (before ++ Add r ∷ []) more text x)

-- additions alone and one ranking print the ranking of what the additions say is held
ranked-of : (table : TableParts) (policy : Policy) (reports held : List Report) (text : List ℕ) → AreHeldOf (map Add reports) held → AreRankings table policy [] (map Add reports ++ Rank ∷ []) text → IsRankingOf table policy (runs_of held) text
ranked-of table policy reports held text are x =
    let y = behind-additions table policy reports [] (Rank ∷ []) text x in
    let whole : y.piece ≡ text = sym (y.text_is ∙ ap (λ rest. y.piece ++ rest) y.is_rest ∙ append-nil y.piece) in
    subst (IsRankingOf table policy (runs_of held)) whole (after-as table policy (map Add reports) held y.piece y.is_piece (held-once (map Add reports) y.is_piece.reports held y.is_piece.held are))

pub additions-ranked : (program : ProgramId) (table : TableParts) (policy : Policy) (reports : List Report) (merged : Merged) (after : Held) (text : List ℕ) → AddsAll (no_runs program table) reports 0 0 (Ok merged) after
    → AreRankings table policy [] (map Add reports ++ Rank ∷ []) text → IsRankingOf table policy (runs_of after.reports) text
additions-ranked program table policy reports merged after text all x =
    let start = no_runs program table in
    ranked-of table policy reports after.reports text (accepted-hold start after (map Add reports) refl (additions-only start after reports merged all)) x

-- the first of two
abbrev pub first-of : Option Report → Option Report → Option Report
first-of None o = o
first-of (Some r) o = Some r

first-alone : (o : Option Report) → first-of o None ≡ o
first-alone None = refl
first-alone (Some r) = refl

first-step-by : (b : Bool) (r : Report) (o : Option Report) → first-of (cond b (Some r) None) o ≡ cond b (Some r) o
first-step-by true r o = refl
first-step-by false r o = refl

first-step : (run : ℕ) (r : Report) (more : List Report) (o : Option Report) → first-of (step run (Add r) o) (report_at run more) ≡ first-of o (report_at run (r ∷ more))
first-step run r more None = first-step-by (run == r.run) r (report_at run more)
first-step run r more (Some x) = refl

-- additions hold of each run the first report
behind-held : (run : ℕ) (reports : List Report) (before : List Edit) → report_held run (before ++ map Add reports) ≡ first-of (report_held run before) (report_at run reports)
behind-held run [] before = ap (report_held run) (append-nil before) ∙ sym (first-alone (report_held run before))
behind-held run (r ∷ more) before =
    ap (report_held run) (sym (append_assoc before (Add r ∷ []) (map Add more))) ∙ behind-held run more (before ++ Add r ∷ [])
    ∙ ap (λ o. first-of o (report_at run more)) (held-step run before (Add r)) ∙ first-step run r more (report_held run before)

-- so does their map
at-map-step : (run : ℕ) (r : Report) (more : List Report) → report_at run (map_of more) ≡ report_at run more → (run ≡ r.run) ⊎ (run ≢ r.run) → report_at run (map_of (r ∷ more)) ≡ report_at run (r ∷ more)
at-map-step run r more rest which =
    ⊎_elim (λ (same : run ≡ r.run).
    let test : (run == r.run) ≡ true = grind (arith, nat_tests) in
    ap (λ n. report_at n (map_of (r ∷ more))) same ∙ at-with r (map_of more) ∙ sym (ap (λ b. cond b (Some r) (report_at run more)) test))
    (λ (other : run ≢ r.run).
    let test : (run == r.run) ≡ false = other_number run r.run other in
    at-with-other run r (map_of more) other ∙ rest ∙ sym (ap (λ b. cond b (Some r) (report_at run more)) test)) which

pub at-map : (run : ℕ) (reports : List Report) → report_at run (map_of reports) ≡ report_at run reports
at-map run [] = refl
at-map run (r ∷ more) = at-map-step run r more (at-map run more) (is-of run (Add r))

pub map-held : (reports : List Report) → AreHeldOf (map Add reports) (map_of reports)
map-held reports = record {
  rising = rising-from (map_of reports) (rising-map reports);
  each = λ run. at-map run reports ∙ sym (behind-held run reports []);
}

pub additions-map : (table : TableParts) (policy : Policy) (reports : List Report) (text : List ℕ) → AreRankings table policy [] (map Add reports ++ Rank ∷ []) text → IsRankingOf table policy (runs_of (map_of reports)) text
additions-map table policy reports text x = ranked-of table policy reports (map_of reports) text (map-held reports) x

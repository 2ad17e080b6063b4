-- The edits so far, and the text that they have written.
use Rattle.std.proofs.Common.{◌≡◌, ℕ, List, [], ◌∷◌, ◌++◌, Ok, ap, sym, subst, ◌∙◌, refl, append_assoc}
use Rattle.std.proofs.lemmas.List.{append-nil}
use Rattle.flow.specs.declared.site.TableParts.{TableParts}
use Rattle.collector.specs.Collected.{Adds}
use Rattle.collector.specs.declared.answers.Added.{Added}
use Rattle.collector.specs.declared.answers.Added.TheVariants.{New, Repeated}
use Rattle.collector.specs.declared.collection.Held.{Held}
use Rattle.report_file.specs.declared.report.Report.{Report}
use Rattle.elimination_tallies.specs.Recount.{runs_of}
use Rattle.ranking.specs.Ranked.{IsRankingOf}
use Rattle.session.specs.Session.{SessionState}
use Rattle.session_edits.specs.Spelling.{AreEdits}
use Rattle.session_edits.specs.declared.edit.Edit.{Edit}
use Rattle.session_edits.specs.declared.edit.Edit.TheVariants.{Add, Remove, Relabel, Rank}
use Rattle.session_laws.specs.Accepted.{Accepts, TakesEdit}
use Rattle.session_laws.proofs.Maps.{accepted-hold}
use Rattle.session_laws.proofs.Taken.{accepts-more}
use Rattle.session_replay.specs.declared.fault.EditFault.{EditFault}
use Rattle.session_replay.specs.declared.fault.EditFault.TheVariants.{NotAdded, Absent, Memory}
use Rattle.session_replay.specs.Replay.{AreRankings, BeginsWith, IsRankingAfter, IsStoppedBy, StopsAt, Writes}

-- an edit changes neither whose runs they are nor the sites
pub record IsSame (c next : Held) : Type 0 where
  pub program : next.program ≡ c.program
  pub branches : next.branches ≡ c.branches

added-same : (c next : Held) (r : Report) (what : Added) → Adds c r (Ok what) next → IsSame c next
added-same c next r New t = record { program = ap (λ (h : Held). h.program) t.4; branches = ap (λ (h : Held). h.branches) t.4 }
added-same c next r Repeated t = record { program = ap (λ (h : Held). h.program) t.2; branches = ap (λ (h : Held). h.branches) t.2 }

takes-same : (c next : Held) (e : Edit) → TakesEdit c e next → IsSame c next
takes-same c next (Add r) t = added-same c next r t.0 t.1
takes-same c next (Remove run) t = record { program = ap (λ (h : Held). h.program) t.1; branches = ap (λ (h : Held). h.branches) t.1 }
takes-same c next (Relabel run label) t = record { program = ap (λ (h : Held). h.program) t.1; branches = ap (λ (h : Held). h.branches) t.1 }
takes-same c next Rank t = record { program = ap (λ (h : Held). h.program) t; branches = ap (λ (h : Held). h.branches) t }

pub accepts-same : (edits : List Edit) (c after : Held) → Accepts c edits after → IsSame c after
accepts-same [] c after accepts = record { program = ap (λ (h : Held). h.program) accepts; branches = ap (λ (h : Held). h.branches) accepts }
accepts-same (e ∷ more) c after accepts =
    let first = takes-same c accepts.0 e accepts.1 in
    let rest = accepts-same more accepts.0 after accepts.2 in record { program = rest.program ∙ first.program; branches = rest.branches ∙ first.branches }

-- the edits are these and those that are left
pub record Replaying (start : SessionState) (table : TableParts) (all : List Edit) (now : SessionState) (rest : List Edit) (text : List ℕ) : Type 0 where
  pub before : List Edit
  pub all_is : all ≡ before ++ rest
  pub accepts : Accepts start.held before now.held
  pub policy_is : now.policy ≡ start.policy
  pub program_is : now.held.program ≡ start.held.program
  pub branches_are : now.held.branches ≡ start.held.branches
  pub are : AreEdits start.held.program rest
  pub written : (later : List ℕ) → AreRankings table start.policy before rest later → AreRankings table start.policy [] all (text ++ later)

-- what one edit more writes comes first of what is left
written-more : (start now : SessionState) (table : TableParts) (before : List Edit) (e : Edit) (rest : List Edit) (text new later : List ℕ) → start.held.reports ≡ [] → Accepts start.held before now.held → now.policy ≡ start.policy → Writes table now e text new → AreRankings table start.policy (before ++ e ∷ []) rest later → (P : List ℕ → Type 0) → ((more : List ℕ) → AreRankings table start.policy before (e ∷ rest) more → P (text ++ more)) → P (new ++ later)
written-more start now table before Rank rest text new later none accepts policy writes h P on =
    let piece = writes.piece in
    let after : IsRankingAfter table start.policy before piece = record {
      reports = now.held.reports;
      held = accepted-hold start.held now.held before none accepts;
      ranking = subst (λ p. IsRankingOf table p (runs_of now.held.reports) piece) policy writes.ranking;
    } in
    let begins : BeginsWith (IsRankingAfter table start.policy before) (AreRankings table start.policy (before ++ Rank ∷ []) rest) (piece ++ later) = record { piece = piece; rest = later; text_is = refl; is_piece = after; is_rest = h } in
    subst P (sym (ap (λ t. t ++ later) writes.new_is ∙ append_assoc text piece later)) (on (piece ++ later) begins)
written-more start now table before e rest text new later none accepts policy writes h P on = subst (λ t. P (t ++ later)) (sym writes) (on later h)

pub replay-more : (start now next : SessionState) (table : TableParts) (all : List Edit) (e : Edit) (rest : List Edit) (text new : List ℕ) → start.held.reports ≡ [] → Replaying start table all now (e ∷ rest) text → TakesEdit now.held e next.held → next.policy ≡ now.policy → Writes table now e text new → Replaying start table all next rest new
replay-more start now next table all e rest text new none r takes policy writes =
    let same = takes-same now.held next.held e takes in record {
      before = r.before ++ e ∷ [];
      all_is = r.all_is ∙ sym (append_assoc r.before (e ∷ []) rest);
      accepts = accepts-more r.before start.held now.held next.held (e ∷ []) r.accepts (next.held, takes, refl);
      policy_is = policy ∙ r.policy_is;
      program_is = same.program ∙ r.program_is;
      branches_are = same.branches ∙ r.branches_are;
      are = r.are.1;
      written = λ later h. written-more start now table r.before e rest text new later none r.accepts r.policy_is writes h (AreRankings table start.policy [] all) r.written;
    }

pub replay-writes : (start now : SessionState) (table : TableParts) (all : List Edit) (text : List ℕ) → Replaying start table all now [] text → AreRankings table start.policy [] all text
replay-writes start now table all text r = subst (AreRankings table start.policy [] all) (append-nil text) (r.written [] refl)

stops : (c : Held) (edits : List Edit) (fault : EditFault) → IsStoppedBy c edits fault → StopsAt c edits fault
stops c edits Memory s = tt
stops c edits (NotAdded fault) s = s
stops c edits (Absent run) s = s

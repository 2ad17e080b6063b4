-- What a session prints: each ranking is of the runs that the edits before it say are held.
use Rattle.std.specs.Prelude.{◌≡◌, ℕ, List, [], ◌∷◌, ◌++◌, None}
use Rattle.cbi_base.specs.declared.identity.ProgramId.{ProgramId}
use Rattle.cbi_base.specs.declared.policy.Policy.{Policy}
use Rattle.flow.specs.declared.site.TableParts.{TableParts}
use Rattle.report_file.specs.declared.report.Report.{Report}
use Rattle.collector.specs.Collected.{report_at}
use Rattle.collector.specs.Sites.{branches_of}
use Rattle.collector.specs.declared.collection.Held.{Held}
use Rattle.elimination_tallies.specs.Recount.{runs_of}
use Rattle.ranking.specs.Ranked.{IsRankingOf}
use Rattle.session.specs.Session.{SessionState}
use Rattle.session_edits.specs.declared.edit.Edit.{Edit}
use Rattle.session_edits.specs.declared.edit.Edit.TheVariants.{Add, Remove, Relabel, Rank}
use Rattle.session_laws.specs.Accepted.{Accepts, AreHeldOf, IsRefusedFor}
use Rattle.session_replay.specs.declared.fault.EditFault.{EditFault}
use Rattle.session_replay.specs.declared.fault.EditFault.TheVariants.{NotAdded, Absent, Memory}

-- nothing is held yet of the program with this table
abbrev pub no_runs : ProgramId → TableParts → Held
no_runs program table = record { program = program; branches = branches_of table.sites; reports = [] }

-- the ranking of the runs that are held after these edits
pub record IsRankingAfter (table : TableParts) (policy : Policy) (edits : List Edit) (text : List ℕ) : Type 0 where
  pub reports : List Report
  pub held : AreHeldOf edits reports
  pub ranking : IsRankingOf table policy (runs_of reports) text

-- a ranking, and behind it this text
pub record BeginsWith (Piece : List ℕ → Type 0) (Rest : List ℕ → Type 0) (text : List ℕ) : Type 0 where
  pub piece : List ℕ
  pub rest : List ℕ
  pub text_is : text ≡ piece ++ rest
  pub is_piece : Piece piece
  pub is_rest : Rest rest

-- the rankings that edits ask for behind others, one after another
abbrev pub AreRankings : TableParts → Policy → (before more : List Edit) → List ℕ → Type 0
AreRankings table policy before [] text = text ≡ []
AreRankings table policy before (Add report ∷ more) text = AreRankings table policy (before ++ Add report ∷ []) more text
AreRankings table policy before (Remove run ∷ more) text = AreRankings table policy (before ++ Remove run ∷ []) more text
AreRankings table policy before (Relabel run label ∷ more) text = AreRankings table policy (before ++ Relabel run label ∷ []) more text
AreRankings table policy before (Rank ∷ more) text = BeginsWith (IsRankingAfter table policy before) (AreRankings table policy (before ++ Rank ∷ []) more) text

-- all edits are accepted, one after another
pub record AreAccepted (c : Held) (edits : List Edit) : Type 0 where
  pub after : Held
  pub accepts : Accepts c edits after

-- why an edit isn't done
abbrev pub FaultsAt : Held → Edit → EditFault → Type 0
FaultsAt c edit Memory = Unit {0}
FaultsAt c (Add report) (NotAdded fault) = IsRefusedFor c report fault
FaultsAt c (Remove run) (Absent gone) = (gone ≡ run) × (report_at run c.reports ≡ None)
FaultsAt c (Relabel run label) (Absent gone) = (gone ≡ run) × (report_at run c.reports ≡ None)
FaultsAt c _ _ = ⊥

-- the edits before one are accepted, and that one isn't done, for this cause
pub record IsStoppedBy (c : Held) (edits : List Edit) (fault : EditFault) : Type 0 where
  pub before : List Edit
  pub edit : Edit
  pub more : List Edit
  pub at : Held
  pub edits_are : edits ≡ before ++ edit ∷ more
  pub accepts : Accepts c before at
  pub faults : FaultsAt at edit fault

-- so the first faulty edit is told, and want of memory needs none
abbrev pub StopsAt : Held → List Edit → EditFault → Type 0
StopsAt c edits Memory = Unit {0}
StopsAt c edits (NotAdded fault) = IsStoppedBy c edits (NotAdded fault)
StopsAt c edits (Absent run) = IsStoppedBy c edits (Absent run)

-- what one edit writes
pub record Ranks (table : TableParts) (s : SessionState) (old new : List ℕ) : Type 0 where
  pub piece : List ℕ
  pub ranking : IsRankingOf table s.policy (runs_of s.held.reports) piece
  pub new_is : new ≡ old ++ piece

abbrev pub Writes : TableParts → SessionState → Edit → (old new : List ℕ) → Type 0
Writes table s (Add report) old new = new ≡ old
Writes table s (Remove run) old new = new ≡ old
Writes table s (Relabel run label) old new = new ≡ old
Writes table s Rank old new = Ranks table s old new

-- What the command `session` does: out takes the rankings that the edits ask for, each of what the edits before it say is held.
use Rattle.std.specs.Prelude.{◌≡◌, ◌⊎◌, ℕ, List, [], ◌∷◌, Option, Some}
use Rattle.std.specs.Global.{Global}
use Rattle.sha2.specs.Sha256.{sha256}
use Rattle.cbi_base.specs.Words.{IsBadLine, Held, IsReadOf}
use Rattle.cbi_base.specs.declared.identity.ProgramId.{ProgramId}
use Rattle.cbi_base.specs.declared.policy.Policy.{Policy}
use Rattle.cbi_base.specs.declared.refusal.Refusal.{Refusal}
use Rattle.cbi_base.specs.declared.refusal.Refusal.TheVariants.{BadProgram, Conflict, TooManyReports, TooManyMarks, NoSite, BadEdits, Absent}
use Rattle.flow.specs.declared.program.ProgramParts.{ProgramParts}
use Rattle.flow.specs.Words.{table_of, SpellsProgram}
use Rattle.program_file.specs.WrongLine.{IsWrongAt}
use Rattle.command_base.specs.Limits.{program_limit}
use Rattle.command_inputs.specs.Programs.{IsNoProgram, IsSpelled}
use Rattle.command_inputs.specs.Collections.{fault_of, file_limit}
use Rattle.session_edits.specs.Grammar as edits
use Rattle.session_edits.specs.Spelling.{SpellsEdits}
use Rattle.session_edits.specs.declared.edit.Edit.{Edit}
use Rattle.session_replay.specs.declared.fault.EditFault.{EditFault}
use Rattle.session_replay.specs.declared.fault.EditFault.TheVariants as fault
use Rattle.session_replay.specs.Replay.{AreRankings, IsStoppedBy, no_runs}
use Rattle.cbi_options.specs.declared.words.SessionWords.{SessionWords}
use Rattle.command_session.specs.declared.replayed.SessionTexts.{SessionTexts}

-- the names that are read, in this order
abbrev pub session_names : SessionWords → List (List ℕ)
session_names s = s.program ∷ s.edits ∷ []

pub record AreSessionTexts (held : Option Held) (s : SessionWords) (texts : SessionTexts) : Type 0 where
  pub program_read : IsReadOf held s.program program_limit texts.program
  pub edits_read : IsReadOf held s.edits file_limit texts.edits

-- the identity of the program with this text
abbrev pub id_of : List ℕ → ProgramId
id_of program = record { bytes = sha256 program }

-- the texts spell this program, and these edits of its runs
pub record SpellSession (texts : SessionTexts) (parts : ProgramParts) (list : List Edit) : Type 0 where
  pub program : SpellsProgram texts.program parts
  pub edits : SpellsEdits (id_of texts.program) texts.edits list

-- the rankings that the texts ask for
pub record AreTextsReplayed (texts : SessionTexts) (policy : Policy) (text : List ℕ) : Type 0 where
  pub parts : ProgramParts
  pub list : List Edit
  pub spell : SpellSession texts parts list
  pub rankings : AreRankings (table_of parts) policy [] list text

-- the rankings that are due
pub record IsReplayed (held : Option Held) (s : SessionWords) (text : List ℕ) : Type 0 where
  pub texts : SessionTexts
  pub are_texts : AreSessionTexts held s texts
  pub replayed : AreTextsReplayed texts s.policy text

-- no edits of runs of this program have this text
abbrev pub IsNoEdits : ProgramId → List ℕ → Type 0
IsNoEdits program text = (list : List Edit) → SpellsEdits program text list → ⊥

-- the line at which the text of edits goes wrong
pub record IsBadEditsLine (program : ProgramId) (text : List ℕ) (line : ℕ) : Type 0 where
  pub alloc : Global
  pub bad : IsBadLine edits.EditLineFollows edits.EditsEnd (edits.edits_start alloc program) text line

-- the refusal of a text that is no edits'
pub record IsBadEdits (program : ProgramId) (text : List ℕ) (refusal : Refusal) : Type 0 where
  pub line : ℕ
  pub refusal_is : refusal ≡ BadEdits line
  pub none : IsNoEdits program text
  pub bad : IsBadEditsLine program text line

-- the edits before one are accepted, and that one isn't done for this cause
pub record AreStopped (texts : SessionTexts) (cause : EditFault) : Type 0 where
  pub parts : ProgramParts
  pub list : List Edit
  pub spell : SpellSession texts parts list
  pub stopped : IsStoppedBy (no_runs (id_of texts.program) (table_of parts)) list cause

-- a cause that is told, and so not want of memory
abbrev pub IsTold : EditFault → Type 0
IsTold (fault.NotAdded why) = Unit {0}
IsTold (fault.Absent run) = Unit {0}
IsTold fault.Memory = ⊥

pub record AreFaulty (texts : SessionTexts) : Type 0 where
  pub cause : EditFault
  pub told : IsTold cause
  pub stopped : AreStopped texts cause

-- What is wrong with the bytes read: no program spells the first, or no edits the second, or one of the edits isn't accepted.
abbrev pub AreRefusedTexts : SessionTexts → Type 0
AreRefusedTexts texts = IsNoProgram texts.program ⊎ (IsNoEdits (id_of texts.program) texts.edits ⊎ AreFaulty texts)

-- the refusal that a faulty edit is told by
abbrev pub TellsOf : EditFault → Refusal → Type 0
TellsOf (fault.NotAdded why) refusal = fault_of refusal ≡ Some why
TellsOf (fault.Absent run) refusal = refusal ≡ Absent run
TellsOf fault.Memory refusal = ⊥

-- the first faulty edit is told by this refusal
pub record IsToldOf (texts : SessionTexts) (refusal : Refusal) : Type 0 where
  pub cause : EditFault
  pub tells : TellsOf cause refusal
  pub stopped : AreStopped texts cause

-- Which refusal it is: that of the program comes first, then that of the text of edits, and then that of the first faulty edit. No report is of
-- another program.
abbrev pub RefusesTexts : Refusal → SessionTexts → Type 0
RefusesTexts (BadProgram line) texts = IsNoProgram texts.program × IsWrongAt texts.program line
RefusesTexts (BadEdits line) texts = IsSpelled texts.program
    × (IsNoEdits (id_of texts.program) texts.edits × IsBadEditsLine (id_of texts.program) texts.edits line)
RefusesTexts (NoSite run site) texts = IsToldOf texts (NoSite run site)
RefusesTexts (Conflict run) texts = IsToldOf texts (Conflict run)
RefusesTexts (TooManyReports run) texts = IsToldOf texts (TooManyReports run)
RefusesTexts (TooManyMarks run) texts = IsToldOf texts (TooManyMarks run)
RefusesTexts (Absent run) texts = IsToldOf texts (Absent run)
RefusesTexts _ texts = ⊥

-- the bytes read are refused, and by which refusal
pub record SessionRefused (s : SessionWords) (held : Option Held) : Type 0 where
  pub texts : SessionTexts
  pub are_texts : AreSessionTexts held s texts
  pub refused : AreRefusedTexts texts

pub record SessionRefusedBy (s : SessionWords) (held : Option Held) (refusal : Refusal) : Type 0 where
  pub texts : SessionTexts
  pub are_texts : AreSessionTexts held s texts
  pub refused : RefusesTexts refusal texts

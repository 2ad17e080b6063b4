-- What is refused of the texts of a program and of edits, and what they print.
use Rattle.std.proofs.Common.{◌≡◌, inl, inr, ℕ, List, [], Option, IsSome, ap, sym, subst, ◌∙◌}
use Rattle.sha2.specs.Sha256.{sha256}
use Rattle.cbi_base.specs.Store.{Held}
use Rattle.cbi_base.specs.declared.identity.ProgramId.{ProgramId}
use Rattle.cbi_base.specs.declared.policy.Policy.{Policy}
use Rattle.cbi_base.specs.declared.refusal.Refusal.{Refusal}
use Rattle.cbi_base.specs.declared.refusal.Refusal.TheVariants.{BadProgram, Conflict, TooManyReports, TooManyMarks, NoSite, BadEdits, Absent}
use Rattle.flow.specs.declared.program.ProgramParts.{ProgramParts}
use Rattle.flow.specs.declared.site.TableParts.{TableParts}
use Rattle.flow.specs.Words.{table_of, SpellsProgram}
use Rattle.collector.specs.declared.collection.Held.{Held as Collected}
use Rattle.command_base.specs.Limits.{program_limit}
use Rattle.command_base.proofs.ReadLemmas.{read-once}
use Rattle.command_inputs.specs.Programs.{IsBadProgram}
use Rattle.command_inputs.specs.Collections.{file_limit}
use Rattle.session_edits.specs.Spelling.{SpellsEdits}
use Rattle.session_edits.specs.declared.edit.Edit.{Edit}
use Rattle.session_edits.specs.declared.edit.Edit.TheVariants.{Add, Remove, Relabel, Rank}
use Rattle.session_laws.specs.Accepted.{Accepts, IsFaulty}
use Rattle.session_laws.proofs.Taken.{none-faulty}
use Rattle.session_replay.specs.declared.fault.EditFault.{EditFault}
use Rattle.session_replay.specs.declared.fault.EditFault.TheVariants as fault
use Rattle.session_replay.specs.Replay.{AreAccepted, AreRankings, FaultsAt, IsStoppedBy, StopsAt, no_runs}
use Rattle.command_session.specs.Session.{AreRefusedTexts, AreSessionTexts, AreTextsReplayed, IsBadEdits, IsTold, IsToldOf, RefusesTexts, SpellSession, TellsOf, id_of}
use Rattle.command_session.specs.declared.replayed.SessionTexts.{SessionTexts}
use Rattle.cbi_options.specs.declared.words.SessionWords.{SessionWords}
use Rattle.command_session.proofs.Told.{told-refuses}

-- texts are refused where any texts that were read of the same files are
pub same-refused : (held : Option Held) (s : SessionWords) (texts others : SessionTexts) → IsSome held → AreSessionTexts held s texts → AreSessionTexts held s others → AreRefusedTexts others → AreRefusedTexts texts
same-refused held s texts others tells are others-are refused =
    let first = read-once held s.program program_limit _ _ tells others-are.program_read are.program_read in
    let second = read-once held s.edits file_limit _ _ tells others-are.edits_read are.edits_read in
    subst (λ x. AreRefusedTexts (record { program = texts.program; edits = x })) second
    (subst (λ x. AreRefusedTexts (record { program = x; edits = others.edits })) first refused)

-- a text that is no program is refused so, and behind a program one that is no edits'
pub bad-program : (texts : SessionTexts) (refusal : Refusal) → IsBadProgram texts.program refusal → RefusesTexts refusal texts
bad-program texts refusal h = subst (λ r. RefusesTexts r texts) (sym h.refusal_is) (h.none, h.wrong)

pub bad-edits : (texts : SessionTexts) (parts : ProgramParts) (id : ProgramId) (refusal : Refusal) → SpellsProgram texts.program parts → id ≡ id_of texts.program → IsBadEdits id texts.edits refusal → RefusesTexts refusal texts
bad-edits texts parts id refusal spells id_is bad =
    let h = subst (λ x. IsBadEdits x texts.edits refusal) id_is bad in
    subst (λ r. RefusesTexts r texts) (sym h.refusal_is) (record { parts = parts; spells = spells }, (h.none, h.bad))

pub id-is : (program : List ℕ) (id : ProgramId) → id.bytes ≡ sha256 program → id ≡ id_of program
id-is program id bytes_are = ap (λ (bytes : List ℕ). let x : ProgramId = record { bytes = bytes } in x) bytes_are

-- a refusal that is told is one of the texts
tells-told : (cause : EditFault) (refusal : Refusal) → TellsOf cause refusal → IsTold cause
tells-told (fault.NotAdded why) refusal tells = tt
tells-told (fault.Absent run) refusal tells = tt
tells-told fault.Memory refusal tells = tells

told-faulty : (texts : SessionTexts) (refusal : Refusal) → IsToldOf texts refusal → AreRefusedTexts texts
told-faulty texts refusal t = inr (inr (record { cause = t.cause; told = tells-told t.cause refusal t.tells; stopped = t.stopped }))

pub refuses-texts : (refusal : Refusal) (texts : SessionTexts) → RefusesTexts refusal texts → AreRefusedTexts texts
refuses-texts (BadProgram line) texts h = inl h.0
refuses-texts (BadEdits line) texts h = inr (inl h.1.0)
refuses-texts (NoSite run site) texts h = told-faulty texts (NoSite run site) h
refuses-texts (Conflict run) texts h = told-faulty texts (Conflict run) h
refuses-texts (TooManyReports run) texts h = told-faulty texts (TooManyReports run) h
refuses-texts (TooManyMarks run) texts h = told-faulty texts (TooManyMarks run) h
refuses-texts (Absent run) texts h = told-faulty texts (Absent run) h
refuses-texts refusal texts h = absurd h

-- what the texts spell
pub record IsLoaded (texts : SessionTexts) (parts : ProgramParts) (id : ProgramId) (table : TableParts) (list : List Edit) : Type 0 where
  pub spell : SpellSession texts parts list
  pub id_is : id ≡ id_of texts.program
  pub table_is : table ≡ table_of parts

pub loads : (texts : SessionTexts) (parts : ProgramParts) (id : ProgramId) (table : TableParts) (list : List Edit) → SpellsProgram texts.program parts → id.bytes ≡ sha256 texts.program → SpellsEdits id texts.edits list → table ≡ table_of parts → IsLoaded texts parts id table list
loads texts parts id table list program bytes_are edits table_is =
    let same = id-is texts.program id bytes_are in record {
      spell = record { program = program; edits = subst (λ x. SpellsEdits x texts.edits list) same edits };
      id_is = same;
      table_is = table_is;
    }

-- the cause that stopped the edits
stopped-by : (start : Collected) (list : List Edit) (cause : EditFault) (refusal : Refusal) → StopsAt start list cause → TellsOf cause refusal → IsStoppedBy start list cause
stopped-by start list (fault.NotAdded why) refusal s tells = s
stopped-by start list (fault.Absent run) refusal s tells = s
stopped-by start list fault.Memory refusal s tells = absurd tells

starts-as : (texts : SessionTexts) (parts : ProgramParts) (id : ProgramId) (table : TableParts) (list : List Edit) → IsLoaded texts parts id table list → no_runs id table ≡ no_runs (id_of texts.program) (table_of parts)
starts-as texts parts id table list l = ap (λ i. no_runs i table) l.id_is ∙ ap (no_runs (id_of texts.program)) l.table_is

pub stopped-refuses : (texts : SessionTexts) (parts : ProgramParts) (id : ProgramId) (table : TableParts) (list : List Edit) (cause : EditFault) (refusal : Refusal) → IsLoaded texts parts id table list → StopsAt (no_runs id table) list cause → TellsOf cause refusal → RefusesTexts refusal texts
stopped-refuses texts parts id table list cause refusal l stops tells =
    told-refuses texts refusal (record {
      cause = cause;
      tells = tells;
      stopped = record {
        parts = parts;
        list = list;
        spell = l.spell;
        stopped = subst (λ c. IsStoppedBy c list cause) (starts-as texts parts id table list l) (stopped-by (no_runs id table) list cause refusal stops tells);
      };
    })

-- edits that are all accepted aren't refused, where each text is read as one value
faults-faulty : (c : Collected) (e : Edit) (cause : EditFault) → IsTold cause → FaultsAt c e cause → IsFaulty c e
faults-faulty c (Add r) (fault.NotAdded why) told f = (why, f)
faults-faulty c (Remove run) (fault.Absent gone) told f = f.1
faults-faulty c (Relabel run label) (fault.Absent gone) told f = f.1
faults-faulty c Rank (fault.NotAdded why) told f = f
faults-faulty c Rank (fault.Absent run) told f = f
faults-faulty c Rank fault.Memory told f = told
faults-faulty c e fault.Memory told f = absurd told
faults-faulty c e cause told f = absurd f

never-stopped : (start after : Collected) (list : List Edit) (cause : EditFault) → IsTold cause → Accepts start list after → IsStoppedBy start list cause → ⊥
never-stopped start after list cause told accepts s =
    none-faulty s.before start s.at after s.more s.edit s.accepts (faults-faulty s.at s.edit cause told s.faults) (subst (λ xs. Accepts start xs after) s.edits_are accepts)

pub never-refused : (texts : SessionTexts) (parts : ProgramParts) (id : ProgramId) (table : TableParts) (list : List Edit) → IsLoaded texts parts id table list → AreAccepted (no_runs id table) list → ((p : ProgramParts) → SpellsProgram texts.program p → p ≡ parts) → ((xs : List Edit) → SpellsEdits (id_of texts.program) texts.edits xs → xs ≡ list) → AreRefusedTexts texts → ⊥
never-refused texts parts id table list l accepted one_program one_list (inl none) = none parts l.spell.program
never-refused texts parts id table list l accepted one_program one_list (inr (inl none)) = none list l.spell.edits
never-refused texts parts id table list l accepted one_program one_list (inr (inr faulty)) =
    let s = faulty.stopped in
    let start = no_runs (id_of texts.program) (table_of parts) in
    let same_parts = one_program s.parts s.spell.program in
    let same_list = one_list s.list s.spell.edits in
    let stopped : IsStoppedBy start list faulty.cause =
    subst (λ xs. IsStoppedBy start xs faulty.cause) same_list (subst (λ (p : ProgramParts). IsStoppedBy (no_runs (id_of texts.program) (table_of p)) s.list faulty.cause) same_parts s.stopped)
    in
    never-stopped start accepted.after list faulty.cause faulty.told (subst (λ c. Accepts c list accepted.after) (starts-as texts parts id table list l) accepted.accepts) stopped

-- what is printed is what is due
pub replayed : (texts : SessionTexts) (parts : ProgramParts) (id : ProgramId) (table : TableParts) (list : List Edit) (policy : Policy) (text : List ℕ) → IsLoaded texts parts id table list → AreRankings table policy [] list text → AreTextsReplayed texts policy text
replayed texts parts id table list policy text l rankings = record {
  parts = parts;
  list = list;
  spell = l.spell;
  rankings = subst (λ t. AreRankings t policy [] list text) l.table_is rankings;
}

-- Which refusal tells of a faulty edit.
use Rattle.std.proofs.Common.{◌≡◌, ℕ, refl, List, [], ◌∷◌, ◌++◌, None, Err, sym, subst, ◌∙◌}
use Rattle.base_lists.proofs.Options.{none_some, some_is}
use Rattle.cbi_base.specs.declared.identity.ProgramId.{ProgramId}
use Rattle.cbi_base.specs.declared.refusal.Refusal.{Refusal}
use Rattle.cbi_base.specs.declared.refusal.Refusal.TheVariants.{Foreign, Conflict, TooManyReports, TooManyMarks, NoSite, Absent}
use Rattle.flow.specs.Program.{table_of}
use Rattle.collector.specs.Collected.{Adds}
use Rattle.collector.specs.declared.answers.AddFault.{AddFault}
use Rattle.collector.specs.declared.answers.AddFault.TheVariants as add
use Rattle.collector.specs.declared.collection.Held.{Held}
use Rattle.command_inputs.specs.Collections.{fault_of}
use Rattle.session_edits.specs.Spelling.{AreEdits, IsEdit}
use Rattle.session_edits.specs.declared.edit.Edit.{Edit}
use Rattle.session_edits.specs.declared.edit.Edit.TheVariants.{Add}
use Rattle.session_replay.specs.declared.fault.EditFault.{EditFault}
use Rattle.session_replay.specs.declared.fault.EditFault.TheVariants as fault
use Rattle.session_replay.specs.Replay.{FaultsAt, no_runs}
use Rattle.session_replay.proofs.ReplayLemmas.{accepts-same}
use Rattle.command_session.specs.Session.{AreStopped, IsToldOf, RefusesTexts, TellsOf, id_of}
use Rattle.command_session.specs.declared.replayed.SessionTexts.{SessionTexts}

-- a refusal that tells of no edit
tells-none : (cause : EditFault) (refusal : Refusal) → fault_of refusal ≡ None → ((run : ℕ) → refusal ≡ Absent run → ⊥) → TellsOf cause refusal → ⊥
tells-none (fault.NotAdded why) refusal none other tells = none_some (sym none ∙ tells)
tells-none (fault.Absent run) refusal none other tells = other run tells
tells-none fault.Memory refusal none other tells = tells

nothing-told : (texts : SessionTexts) (refusal : Refusal) → fault_of refusal ≡ None → ((run : ℕ) → refusal ≡ Absent run → ⊥) → IsToldOf texts refusal → ⊥
nothing-told texts refusal none other t = tells-none t.cause refusal none other t.tells

-- each edit of a list is of the program
later-edit : (program : ProgramId) (before more : List Edit) (e : Edit) → AreEdits program (before ++ e ∷ more) → IsEdit program e
later-edit program [] more e are = are.0
later-edit program (x ∷ xs) more e are = later-edit program xs more e are.1

-- no report is of another program
foreign-edit : (c : Held) (e : Edit) (why : AddFault) (ours theirs : ProgramId) → why ≡ add.Foreign ours theirs → IsEdit c.program e → FaultsAt c e (fault.NotAdded why) → ⊥
foreign-edit c (Add r) why ours theirs is fits faults =
    let adds : Adds c r (Err (add.Foreign ours theirs)) c = subst (λ (w : AddFault). Adds c r (Err w) c) is faults.adds in
    adds.2 (adds.0 ∙ sym fits.1 ∙ sym adds.1)
foreign-edit c e why ours theirs is fits faults = faults

foreign-told : (texts : SessionTexts) (ours theirs : ProgramId) (cause : EditFault) → TellsOf cause (Foreign ours theirs) → AreStopped texts cause → ⊥
foreign-told texts ours theirs (fault.NotAdded why) tells stopped =
    let s = stopped.stopped in
    let same = accepts-same s.before (no_runs (id_of texts.program) (table_of stopped.parts)) s.at s.accepts in
    let fits = later-edit (id_of texts.program) s.before s.more s.edit (subst (AreEdits (id_of texts.program)) s.edits_are stopped.spell.edits.are_edits) in
    foreign-edit s.at s.edit why ours theirs (sym (some_is tells)) (subst (λ p. IsEdit p s.edit) (sym same.program) fits) s.faults
foreign-told texts ours theirs (fault.Absent run) tells stopped = let e = tells in cc
foreign-told texts ours theirs fault.Memory tells stopped = tells

-- what tells of the first faulty edit is the refusal
pub told-refuses : (texts : SessionTexts) (refusal : Refusal) → IsToldOf texts refusal → RefusesTexts refusal texts
told-refuses texts (NoSite run site) t = t
told-refuses texts (Conflict run) t = t
told-refuses texts (TooManyReports run) t = t
told-refuses texts (TooManyMarks run) t = t
told-refuses texts (Absent run) t = t
told-refuses texts (Foreign ours theirs) t = absurd (foreign-told texts ours theirs t.cause t.tells t.stopped)
told-refuses texts refusal t = absurd (nothing-told texts refusal refl (λ run e. cc) t)

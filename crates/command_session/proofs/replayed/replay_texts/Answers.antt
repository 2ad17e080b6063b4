use Rattle.std.proofs.Common.{◌≡◌, sym, subst}
use Rattle.sha2.specs.Sha256.{sha256}
use Rattle.flow.specs.Spelling.{SpellsProgram}
use Rattle.command_base.proofs.FaultLemmas.{caused-as}
use Rattle.command_inputs.specs.Programs.{IsBadProgram}
use Rattle.session_edits.specs.Spelling.{SpellsEdits}
use Rattle.command_session.specs.Session.{IsBadEdits}
use Rattle.command_session.proofs.SessionLemmas.{bad-edits, bad-program, id-is, loads, never-refused, replayed, stopped-refuses}
use Rattle.command_session.proofs.replayed.replay_texts.Goals as goal

pub returns-in-Err-clause-fault : goal.returns-in-Err-clause-fault
returns-in-Err-clause-fault c =
    caused-as c.in-Err.fault _ _ _ _ c.in-Err.ensures.fault
    (λ refusal h. bad-program c.args.texts.now refusal (subst (λ bytes. IsBadProgram bytes refusal) c.as_slice.ensures h))

pub returns-in-Err-load_edits-clause-fault : goal.returns-in-Err-load_edits-clause-fault
returns-in-Err-load_edits-clause-fault c =
    let id = c.program_id-id.result in
    let same = id-is c.args.texts.now.program id (subst (λ bytes. id.bytes ≡ sha256 bytes) c.as_slice-2.ensures c.program_id-id.ensures) in
    caused-as c.in-Err-load_edits.fault _ _ _ _ c.in-Err-load_edits.ensures.fault (λ refusal h. bad-edits c.args.texts.now c.in-Ok.program id refusal
    (subst (λ bytes. SpellsProgram bytes c.in-Ok.program) c.as_slice.ensures c.in-Ok.ensures.found) same
    (subst (λ bytes. IsBadEdits id bytes refusal) c.as_slice-3.ensures h))

pub returns-in-Ok-replay-clause-text : goal.returns-in-Ok-replay-clause-text
returns-in-Ok-replay-clause-text c =
    let id = c.program_id-id.result in
    let list = c.in-Ok-load_edits.edits in
    let l = loads c.args.texts.now c.in-Ok.program id c.table.result.now list
    (subst (λ bytes. SpellsProgram bytes c.in-Ok.program) c.as_slice.ensures c.in-Ok.ensures.found)
    (subst (λ bytes. id.bytes ≡ sha256 bytes) c.as_slice-2.ensures c.program_id-id.ensures)
    (subst (λ bytes. SpellsEdits id bytes list) c.as_slice-3.ensures c.in-Ok-load_edits.ensures.found) c.table.ensures.value in
    replayed c.args.texts.now c.in-Ok.program id c.table.result.now list c.args.policy c.in-Ok-replay.text.items l c.in-Ok-replay.ensures.rankings

pub returns-in-Ok-replay-clause-refused : goal.returns-in-Ok-replay-clause-refused
returns-in-Ok-replay-clause-refused c =
    let id = c.program_id-id.result in
    let list = c.in-Ok-load_edits.edits in
    let same = id-is c.args.texts.now.program id (subst (λ bytes. id.bytes ≡ sha256 bytes) c.as_slice-2.ensures c.program_id-id.ensures) in
    let l = loads c.args.texts.now c.in-Ok.program id c.table.result.now list
    (subst (λ bytes. SpellsProgram bytes c.in-Ok.program) c.as_slice.ensures c.in-Ok.ensures.found)
    (subst (λ bytes. id.bytes ≡ sha256 bytes) c.as_slice-2.ensures c.program_id-id.ensures)
    (subst (λ bytes. SpellsEdits id bytes list) c.as_slice-3.ensures c.in-Ok-load_edits.ensures.found) c.table.ensures.value in
    never-refused c.args.texts.now c.in-Ok.program id c.table.result.now list l c.in-Ok-replay.ensures.accepted
    (λ p spells. sym (c.in-Ok.ensures.only p (subst (λ bytes. SpellsProgram bytes p) (sym c.as_slice.ensures) spells)))
    (λ xs spells. sym (c.in-Ok-load_edits.ensures.only xs (subst (λ bytes. SpellsEdits id bytes xs) (sym c.as_slice-3.ensures) (subst (λ i. SpellsEdits i c.args.texts.now.edits xs) (sym same) spells))))

pub returns-clause-fault : goal.returns-clause-fault
returns-clause-fault c =
    let id = c.program_id-id.result in
    let list = c.in-Ok-load_edits.edits in
    let l = loads c.args.texts.now c.in-Ok.program id c.table.result.now list
    (subst (λ bytes. SpellsProgram bytes c.in-Ok.program) c.as_slice.ensures c.in-Ok.ensures.found)
    (subst (λ bytes. id.bytes ≡ sha256 bytes) c.as_slice-2.ensures c.program_id-id.ensures)
    (subst (λ bytes. SpellsEdits id bytes list) c.as_slice-3.ensures c.in-Ok-load_edits.ensures.found) c.table.ensures.value in
    caused-as c.fault_of_edit.result _ _ _ _ c.fault_of_edit.ensures.cause
    (λ refusal tells. stopped-refuses c.args.texts.now c.in-Ok.program id c.table.result.now list c.in-Err-replay.fault refusal l c.in-Err-replay.ensures.fault tells)

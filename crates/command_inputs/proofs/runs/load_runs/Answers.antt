use Rattle.std.proofs.Common.{◌≡◌, sym, subst, ap}
use Rattle.sha2.specs.Sha256.{sha256}
use Rattle.flow.specs.declared.program.ProgramParts.{ProgramParts}
use Rattle.flow.specs.declared.site.TableParts.{TableParts}
use Rattle.flow.specs.Spelling.{SpellsProgram}
use Rattle.collector.specs.declared.collection.Bundle.{Bundle}
use Rattle.collector.specs.Spelling.{SpellsBundle}
use Rattle.command_base.proofs.FaultLemmas.{caused-as}
use Rattle.command_inputs.specs.Programs.{IsBadProgram}
use Rattle.command_inputs.specs.Collections.{IsBadCollection}
use Rattle.command_inputs.proofs.RunsLemmas.{bad-collection, bad-program, begins, runs-never-refused, stopped-texts, taken-runs}
use Rattle.command_inputs.proofs.runs.load_runs.Goals as goal

pub returns-in-Ok-merge-clause-runs : goal.returns-in-Ok-merge-clause-runs
returns-in-Ok-merge-clause-runs c =
    let begun = begins c.args.texts.now c.in-Ok.program c.in-Ok-load_collection.bundle c.program_id-id.result c.table.result.now.sites c.in-Ok-new.collection
    (subst (λ bytes. SpellsProgram bytes c.in-Ok.program) c.as_slice.ensures c.in-Ok.ensures.found)
    (subst (λ bytes. SpellsBundle bytes c.in-Ok-load_collection.bundle) c.as_slice-2.ensures c.in-Ok-load_collection.ensures.found) c.in-Ok-load_collection.ensures.is_text
    (subst (λ bytes. c.program_id-id.result.bytes ≡ sha256 bytes) c.as_slice-3.ensures c.program_id-id.ensures) (ap (λ (t : TableParts). t.sites) c.table.ensures.value) c.in-Ok-new.ensures in
    (taken-runs c.args.texts.now c.in-Ok.program c.in-Ok-load_collection.bundle c.program_id-id.result c.in-Ok-new.collection c.merge.new.self c.in-Ok-merge.field-0 begun c.in-Ok-merge.ensures).1

pub returns-in-Ok-merge-clause-refused : goal.returns-in-Ok-merge-clause-refused
returns-in-Ok-merge-clause-refused c =
    let begun = begins c.args.texts.now c.in-Ok.program c.in-Ok-load_collection.bundle c.program_id-id.result c.table.result.now.sites c.in-Ok-new.collection
    (subst (λ bytes. SpellsProgram bytes c.in-Ok.program) c.as_slice.ensures c.in-Ok.ensures.found)
    (subst (λ bytes. SpellsBundle bytes c.in-Ok-load_collection.bundle) c.as_slice-2.ensures c.in-Ok-load_collection.ensures.found) c.in-Ok-load_collection.ensures.is_text
    (subst (λ bytes. c.program_id-id.result.bytes ≡ sha256 bytes) c.as_slice-3.ensures c.program_id-id.ensures) (ap (λ (t : TableParts). t.sites) c.table.ensures.value) c.in-Ok-new.ensures in
    runs-never-refused c.args.texts.now c.in-Ok.program c.in-Ok-load_collection.bundle
    (taken-runs c.args.texts.now c.in-Ok.program c.in-Ok-load_collection.bundle c.program_id-id.result c.in-Ok-new.collection c.merge.new.self c.in-Ok-merge.field-0 begun c.in-Ok-merge.ensures).0
    (λ (p : ProgramParts) (b : Bundle) spell. (
      sym (c.in-Ok.ensures.only p (subst (λ bytes. SpellsProgram bytes p) (sym c.as_slice.ensures) spell.program)),
      sym (c.in-Ok-load_collection.ensures.only b (subst (λ bytes. SpellsBundle bytes b) (sym c.as_slice-2.ensures) spell.collection)),
    ))

pub returns-in-Err-merge-clause-fault : goal.returns-in-Err-merge-clause-fault
returns-in-Err-merge-clause-fault c =
    let begun = begins c.args.texts.now c.in-Ok.program c.in-Ok-load_collection.bundle c.program_id-id.result c.table.result.now.sites c.in-Ok-new.collection
    (subst (λ bytes. SpellsProgram bytes c.in-Ok.program) c.as_slice.ensures c.in-Ok.ensures.found)
    (subst (λ bytes. SpellsBundle bytes c.in-Ok-load_collection.bundle) c.as_slice-2.ensures c.in-Ok-load_collection.ensures.found) c.in-Ok-load_collection.ensures.is_text
    (subst (λ bytes. c.program_id-id.result.bytes ≡ sha256 bytes) c.as_slice-3.ensures c.program_id-id.ensures) (ap (λ (t : TableParts). t.sites) c.table.ensures.value) c.in-Ok-new.ensures in
    caused-as c.fault_of.result _ _ _ _ c.fault_of.ensures.cause (λ refusal tells.
    stopped-texts c.args.texts.now c.in-Ok.program c.in-Ok-load_collection.bundle c.program_id-id.result c.in-Ok-new.collection c.merge.new.self c.in-Err-merge.fault refusal begun c.in-Err-merge.ensures tells)

pub returns-in-Err-clause-fault : goal.returns-in-Err-clause-fault
returns-in-Err-clause-fault c =
    caused-as c.in-Err.fault _ _ _ _ c.in-Err.ensures.fault
    (λ refusal h. bad-program c.args.texts.now refusal (subst (λ bytes. IsBadProgram bytes refusal) c.as_slice.ensures h))

pub returns-in-Err-load_collection-clause-fault : goal.returns-in-Err-load_collection-clause-fault
returns-in-Err-load_collection-clause-fault c =
    caused-as c.in-Err-load_collection.fault _ _ _ _ c.in-Err-load_collection.ensures.fault (λ refusal h. bad-collection c.args.texts.now c.in-Ok.program refusal
    (subst (λ bytes. SpellsProgram bytes c.in-Ok.program) c.as_slice.ensures c.in-Ok.ensures.found)
    (subst (λ bytes. IsBadCollection 1 bytes refusal) c.as_slice-2.ensures h))

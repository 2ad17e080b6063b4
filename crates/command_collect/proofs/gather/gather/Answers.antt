use Rattle.std.proofs.Common.{◌≡◌, List, length, ap, sym, subst, ◌∙◌}
use Rattle.sha2.specs.Sha256.{sha256}
use Rattle.flow.specs.declared.site.TableParts.{TableParts}
use Rattle.flow.specs.Spelling.{SpellsProgram}
use Rattle.flow.specs.declared.program.ProgramParts.{ProgramParts}
use Rattle.collector.specs.declared.collection.Bundle.{Bundle}
use Rattle.command_base.proofs.FaultLemmas.{caused-as}
use Rattle.command_inputs.specs.Programs.{IsBadProgram}
use Rattle.command_collect.specs.Collect.{AreSpelled, RefusesFiles, reports_in}
use Rattle.command_collect.proofs.CollectLemmas.{bad-program, gathered-never-refused}
use Rattle.command_collect.proofs.GatherLemmas.{all-gathered, begun-takes, files-refuse}
use Rattle.command_collect.proofs.gather.gather.Goals as goal

pub returns-in-Err-clause-fault : goal.returns-in-Err-clause-fault
returns-in-Err-clause-fault c =
    caused-as c.in-Err.fault _ _ _ _ c.in-Err.ensures.fault
    (λ refusal h. bad-program c.args.texts.now refusal (subst (λ bytes. IsBadProgram bytes refusal) c.as_slice.ensures h))

pub returns-in-Err-read_all-clause-fault : goal.returns-in-Err-read_all-clause-fault
returns-in-Err-read_all-clause-fault c =
    caused-as c.in-Err-read_all.fault _ _ _ _ c.in-Err-read_all.ensures.fault (λ refusal h. files-refuse refusal c.args.texts.now
    (record { parts = c.in-Ok.program; spells = subst (λ bytes. SpellsProgram bytes c.in-Ok.program) c.as_slice.ensures c.in-Ok.ensures.found })
    (subst (λ files. RefusesFiles 1 files refusal) c.as_slice-2.ensures h))

pub returns-in-Ok-add_all-clause-gathered : goal.returns-in-Ok-add_all-clause-gathered
returns-in-Ok-add_all-clause-gathered c =
    all-gathered c.args.texts.now c.in-Ok.program c.in-Ok-read_all.bundles c.add_all.new.collection _
    (subst (λ bytes. SpellsProgram bytes c.in-Ok.program) c.as_slice.ensures c.in-Ok.ensures.found)
    (subst (λ files. AreSpelled files c.in-Ok-read_all.bundles) c.as_slice-2.ensures c.in-Ok-read_all.ensures.spelled)
    (begun-takes c.args.texts.now c.in-Ok.program c.in-Ok-read_all.bundles c.program_id-id.result _ c.in-Ok-new.collection c.add_all.new.collection c.in-Ok-new.ensures
    (subst (λ bytes. c.program_id-id.result.bytes ≡ sha256 bytes) c.as_slice-4.ensures c.program_id-id.ensures) (ap (λ (t : TableParts). t.sites) c.table.ensures.value) c.in-Ok-add_all.ensures.taken)
    c.keeps.ensures (c.count-reports.ensures ∙ ap (λ bundles. length (reports_in bundles)) c.as_slice-3.ensures)

pub returns-in-Ok-add_all-clause-refused : goal.returns-in-Ok-add_all-clause-refused
returns-in-Ok-add_all-clause-refused c =
    gathered-never-refused c.args.texts.now c.in-Ok.program c.in-Ok-read_all.bundles c.add_all.new.collection
    (subst (λ bytes. SpellsProgram bytes c.in-Ok.program) c.as_slice.ensures c.in-Ok.ensures.found)
    (subst (λ files. AreSpelled files c.in-Ok-read_all.bundles) c.as_slice-2.ensures c.in-Ok-read_all.ensures.spelled)
    (begun-takes c.args.texts.now c.in-Ok.program c.in-Ok-read_all.bundles c.program_id-id.result _ c.in-Ok-new.collection c.add_all.new.collection c.in-Ok-new.ensures
    (subst (λ bytes. c.program_id-id.result.bytes ≡ sha256 bytes) c.as_slice-4.ensures c.program_id-id.ensures) (ap (λ (t : TableParts). t.sites) c.table.ensures.value) c.in-Ok-add_all.ensures.taken)
    (λ (p : ProgramParts) spells. sym (c.in-Ok.ensures.only p (subst (λ bytes. SpellsProgram bytes p) (sym c.as_slice.ensures) spells)))
    (λ (others : List Bundle) are. c.in-Ok-read_all.ensures.only others (subst (λ files. AreSpelled files others) (sym c.as_slice-2.ensures) are))

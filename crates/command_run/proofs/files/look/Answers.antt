use Rattle.std.proofs.Common.{subst}
use Rattle.command_base.proofs.FaultLemmas.{caused-as}
use Rattle.command_inputs.specs.Programs.{IsBadProgram}
use Rattle.command_run.proofs.RunLemmas.{bad-program}
use Rattle.command_run.proofs.files.look.Goals as goal

pub returns-in-Err-clause-fault : goal.returns-in-Err-clause-fault
returns-in-Err-clause-fault c =
    caused-as c.in-Err.fault _ _ _ _ c.in-Err.ensures.fault
    (λ refusal h. bad-program c.args.files.now refusal (subst (λ bytes. IsBadProgram bytes refusal) c.as_slice.ensures h))

use Rattle.std.proofs.Common.{subst}
use Rattle.command_base.proofs.FaultLemmas.{caused-as}
use Rattle.command_inputs.specs.Programs.{IsBadProgram}
use Rattle.command_widen.proofs.Refusing.{bad_whole}
use Rattle.command_widen.proofs.loaded.load_texts.Goals as goal

pub returns-in-Err-clause-fault : goal.returns-in-Err-clause-fault
returns-in-Err-clause-fault c = λ part.
    caused-as c.in-Err.fault _ _ _ _ c.in-Err.ensures.fault
    (λ refusal h. bad_whole part c.args.texts.now refusal (subst (λ bytes. IsBadProgram bytes refusal) c.as_slice.ensures h))

use Rattle.command_base.proofs.FaultLemmas.{refused-as}
use Rattle.command_base.proofs.ReadingLemmas.{looked-at}
use Rattle.command_inputs.proofs.RunsLemmas.{refuses-runs, same-refused-runs}
use Rattle.command_inputs.proofs.runs.read_runs.Goals as goal

pub returns-clause-read : goal.returns-clause-read
returns-clause-read g c =
    looked-at _ c.in-Err-load_runs.fault _ _ c.in-Ok.ensures.read c.in-Err-load_runs.ensures.fault (λ refusal h. record { texts = c.in-Ok.texts; are_texts = c.in-Ok.ensures.texts; refused = h })

pub returns-clause-was_refused : goal.returns-clause-was_refused
returns-clause-was_refused g c =
    refused-as c.in-Err-load_runs.fault _ _ _ _ c.in-Err-load_runs.ensures.fault
    (λ refusal h. record { texts = c.in-Ok.texts; are_texts = c.in-Ok.ensures.texts; refused = refuses-runs refusal c.in-Ok.texts h })

pub returns-clause-refused : goal.returns-clause-refused
returns-clause-refused g c = λ refused tells.
    c.in-Err-load_runs.ensures.refused
    (same-refused-runs _ _ _ c.in-Ok.texts refused.texts tells c.in-Ok.ensures.texts refused.are_texts refused.refused)

pub returns-in-Ok-load_runs-clause-refused : goal.returns-in-Ok-load_runs-clause-refused
returns-in-Ok-load_runs-clause-refused g c = λ refused tells.
    c.in-Ok-load_runs.ensures.refused
    (same-refused-runs _ _ _ c.in-Ok.texts refused.texts tells c.in-Ok.ensures.texts refused.are_texts refused.refused)

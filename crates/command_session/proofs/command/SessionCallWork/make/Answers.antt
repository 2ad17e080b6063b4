use Rattle.command_base.proofs.FaultLemmas.{refused-as}
use Rattle.command_base.proofs.ReadingLemmas.{looked-at}
use Rattle.command_session.proofs.SessionLemmas.{refuses-texts, same-refused}
use Rattle.command_session.proofs.command.SessionCallWork.make.Goals as goal

pub returns-clause-read : goal.returns-clause-read
returns-clause-read g c =
    looked-at _ c.in-Err-replay_texts.fault _ _ c.in-Ok.ensures.read c.in-Err-replay_texts.ensures.fault (λ refusal h. record { texts = c.in-Ok.texts; are_texts = c.in-Ok.ensures.texts; refused = h })

pub returns-clause-was_refused : goal.returns-clause-was_refused
returns-clause-was_refused g c =
    refused-as c.in-Err-replay_texts.fault _ _ _ _ c.in-Err-replay_texts.ensures.fault
    (λ refusal h. record { texts = c.in-Ok.texts; are_texts = c.in-Ok.ensures.texts; refused = refuses-texts refusal c.in-Ok.texts h })

pub returns-clause-is_refused : goal.returns-clause-is_refused
returns-clause-is_refused g c = λ refused tells.
    c.in-Err-replay_texts.ensures.refused
    (same-refused _ _ c.in-Ok.texts refused.texts tells c.in-Ok.ensures.texts refused.are_texts refused.refused)

pub returns-in-Ok-replay_texts-clause-is_refused : goal.returns-in-Ok-replay_texts-clause-is_refused
returns-in-Ok-replay_texts-clause-is_refused g c = λ refused tells.
    c.in-Ok-replay_texts.ensures.refused
    (same-refused _ _ c.in-Ok.texts refused.texts tells c.in-Ok.ensures.texts refused.are_texts refused.refused)

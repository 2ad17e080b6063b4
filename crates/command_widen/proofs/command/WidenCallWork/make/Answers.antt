use Rattle.command_base.proofs.FaultLemmas.{refused-as}
use Rattle.command_base.proofs.ReadingLemmas.{looked-at}
use Rattle.command_widen.proofs.Refusing.{refuses_texts, same_refused}
use Rattle.command_widen.proofs.WidenLemmas.{is_due}
use Rattle.command_widen.proofs.command.WidenCallWork.make.Goals as goal

pub returns-in-Err-widen_texts-clause-read : goal.returns-in-Err-widen_texts-clause-read
returns-in-Err-widen_texts-clause-read g c =
    looked-at _ c.in-Err-widen_texts.fault _ _ c.in-Ok.ensures.read c.in-Err-widen_texts.ensures.fault (λ refusal h. record { texts = c.in-Ok.texts; are_texts = c.in-Ok.ensures.texts; refused = h })

pub returns-in-Err-widen_texts-clause-was_refused : goal.returns-in-Err-widen_texts-clause-was_refused
returns-in-Err-widen_texts-clause-was_refused g c =
    refused-as c.in-Err-widen_texts.fault _ _ _ _ c.in-Err-widen_texts.ensures.fault
    (λ refusal h. record { texts = c.in-Ok.texts; are_texts = c.in-Ok.ensures.texts; refused = refuses_texts c.args.self.now.words.part refusal c.in-Ok.texts h })

pub returns-in-Err-widen_texts-clause-is_refused : goal.returns-in-Err-widen_texts-clause-is_refused
returns-in-Err-widen_texts-clause-is_refused g c = λ refused tells.
    c.in-Err-widen_texts.ensures.refused (same_refused (g.S.Store.holds c.args.store.now) c.args.self.now.words c.in-Ok.texts tells c.in-Ok.ensures.texts refused)

pub returns-in-Ok-write_collection-clause-is_refused : goal.returns-in-Ok-write_collection-clause-is_refused
returns-in-Ok-write_collection-clause-is_refused g c = λ refused tells.
    c.in-Ok-widen_texts.ensures.refused (same_refused (g.S.Store.holds c.args.store.now) c.args.self.now.words c.in-Ok.texts tells c.in-Ok.ensures.texts refused)

pub returns-in-Ok-write_collection-clause-due : goal.returns-in-Ok-write_collection-clause-due
returns-in-Ok-write_collection-clause-due g c =
    is_due _ _ c.in-Ok.texts c.in-Ok-widen_texts.wide c.in-Ok-write_collection.text.items c.in-Ok.ensures.texts c.in-Ok-widen_texts.ensures.holds c.in-Ok-write_collection.ensures

pub returns-in-Ok-write_collection-clause-due_said : goal.returns-in-Ok-write_collection-clause-due_said
returns-in-Ok-write_collection-clause-due_said g c =
    is_due _ _ c.in-Ok.texts c.in-Ok-widen_texts.wide c.in-Ok-write_collection.text.items c.in-Ok.ensures.texts c.in-Ok-widen_texts.ensures.holds c.in-Ok-write_collection.ensures

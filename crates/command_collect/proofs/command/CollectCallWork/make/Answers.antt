use Rattle.command_base.proofs.FaultLemmas.{refused-as}
use Rattle.command_base.proofs.ReadingLemmas.{looked-at}
use Rattle.command_collect.proofs.CollectLemmas.{same-refused-texts, collect-refused}
use Rattle.command_collect.proofs.GatherLemmas.{collected-text, said-fits}
use Rattle.command_collect.proofs.command.CollectCallWork.make.Goals as goal

pub returns-in-Err-gather-clause-read : goal.returns-in-Err-gather-clause-read
returns-in-Err-gather-clause-read g c =
    looked-at _ c.in-Err-gather.fault _ _ c.in-Ok.ensures.read c.in-Err-gather.ensures.fault (λ refusal h. record { texts = c.in-Ok.texts; are_texts = c.in-Ok.ensures.texts; refused = h })

pub returns-in-Err-gather-clause-was_refused : goal.returns-in-Err-gather-clause-was_refused
returns-in-Err-gather-clause-was_refused g c =
    refused-as c.in-Err-gather.fault _ _ _ _ c.in-Err-gather.ensures.fault
    (λ refusal h. collect-refused c.args.self.now.words (g.S.Store.holds c.args.store.now) c.in-Ok.texts refusal c.in-Ok.ensures.texts h)

pub returns-in-Err-gather-clause-is_refused : goal.returns-in-Err-gather-clause-is_refused
returns-in-Err-gather-clause-is_refused g c = λ refused tells.
    c.in-Err-gather.ensures.refused (same-refused-texts (g.S.Store.holds c.args.store.now) c.args.self.now.words c.in-Ok.texts tells c.in-Ok.ensures.texts refused)

pub said-requires : goal.said-requires
said-requires g c = said-fits c.in-Ok.texts _ c.in-Ok-gather.ensures.gathered

pub returns-in-Ok-write_collection-clause-is_refused : goal.returns-in-Ok-write_collection-clause-is_refused
returns-in-Ok-write_collection-clause-is_refused g c = λ refused tells.
    c.in-Ok-gather.ensures.refused (same-refused-texts (g.S.Store.holds c.args.store.now) c.args.self.now.words c.in-Ok.texts tells c.in-Ok.ensures.texts refused)

pub returns-in-Ok-write_collection-clause-due : goal.returns-in-Ok-write_collection-clause-due
returns-in-Ok-write_collection-clause-due g c =
    collected-text _ _ c.in-Ok.texts c.in-Ok-gather.gathered c.in-Ok-write_collection.text.items c.in-Ok.ensures.texts c.in-Ok-gather.ensures.gathered c.in-Ok-write_collection.ensures

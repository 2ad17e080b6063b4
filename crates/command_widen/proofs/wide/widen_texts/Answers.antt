use Rattle.command_widen.proofs.Refusing.{part_never_refused}
use Rattle.command_widen.proofs.wide.widen_texts.Goals as goal

pub returns-in-Err-clause-fault : goal.returns-in-Err-clause-fault
returns-in-Err-clause-fault c = c.in-Err.ensures.fault c.args.part

pub returns-clause-refused : goal.returns-clause-refused
returns-clause-refused c = λ refused.
    absurd (part_never_refused c.args.part c.args.texts.now c.in-Ok.loaded.whole c.in-Ok.loaded.program c.in-Ok.loaded.bundle c.one_program.ensures c.one_collection.ensures
    c.in_default.ensures.spell refused)

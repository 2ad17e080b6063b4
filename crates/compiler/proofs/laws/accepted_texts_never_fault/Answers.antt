use Rattle.compiler.proofs.Fitting.{tree_whole}
use Rattle.compiler.proofs.laws.accepted_texts_never_fault.Goals as goal

pub returns-clause-never : goal.returns-clause-never
returns-clause-never c = λ text tree known schemes input turns h.
    c.an_accepted_text_never_faults.ensures.never tree known schemes input turns (tree_whole text tree known h).accepted

pub returns-clause-never_plain : goal.returns-clause-never_plain
returns-clause-never_plain c = λ text tree known input turns h.
    c.an_accepted_text_never_faults.ensures.never_plain tree known input turns (tree_whole text tree known h).accepted

pub returns-clause-outcome : goal.returns-clause-outcome
returns-clause-outcome c = λ text tree known schemes input turns h.
    c.an_accepted_text_never_faults.ensures.outcome tree known schemes input turns (tree_whole text tree known h).accepted

pub returns-clause-output : goal.returns-clause-output
returns-clause-output c = λ text tree known schemes input turns h.
    c.an_accepted_text_never_faults.ensures.output tree known schemes input turns (tree_whole text tree known h).accepted

use Rattle.compiler.proofs.Agreeing.{agree}
use Rattle.compiler.proofs.laws.plans_agree.Goals as goal

pub returns-clause-outcome : goal.returns-clause-outcome
returns-clause-outcome c = λ text a b p q x y input bank other turns left right positive too ends ends_too.
    (agree c.one_ending.ensures c.accepted_texts_never_fault.ensures.outcome c.accepted_texts_never_fault.ensures.output
    c.one_accepted_text.ensures.tree c.one_accepted_text.ensures.known text a b p q x y input bank other turns left right positive too ends ends_too).outcome

pub returns-clause-output : goal.returns-clause-output
returns-clause-output c = λ text a b p q x y input bank other turns left right positive too ends ends_too.
    (agree c.one_ending.ensures c.accepted_texts_never_fault.ensures.outcome c.accepted_texts_never_fault.ensures.output
    c.one_accepted_text.ensures.tree c.one_accepted_text.ensures.known text a b p q x y input bank other turns left right positive too ends ends_too).output

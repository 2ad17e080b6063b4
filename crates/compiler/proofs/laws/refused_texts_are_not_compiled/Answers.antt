use Rattle.compiler.proofs.Refusing.{not_compiled, refuses, sites_alone}
use Rattle.compiler.proofs.laws.refused_texts_are_not_compiled.Goals as goal

pub returns-clause-refused : goal.returns-clause-refused
returns-clause-refused c = λ plan refusal text h.
    refuses c.one_accepted_text.ensures.tree c.one_accepted_text.ensures.known text
    (λ told k. c.refused_texts_are_not_accepted.ensures told text k) plan refusal h

pub returns-clause-sites_alone : goal.returns-clause-sites_alone
returns-clause-sites_alone c = λ plan refusal text h k.
    sites_alone text (λ told other. c.refused_texts_are_not_accepted.ensures told text other) plan refusal h k

pub returns-clause-not_compiled : goal.returns-clause-not_compiled
returns-clause-not_compiled c = λ plan text p refused compiled. not_compiled plan text p refused compiled

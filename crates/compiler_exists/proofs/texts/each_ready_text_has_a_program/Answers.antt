use Rattle.compiler_exists.proofs.Fitting.{has_program}
use Rattle.compiler_exists.proofs.texts.each_ready_text_has_a_program.Goals as goal

pub returns : goal.returns
returns c = λ tree walk table ready fits.
    has_program tree walk table ready fits (c.an_accepted_text_has_few_nodes.ensures tree walk table.sites ready.whole.accepted)
    (λ parts. c.parts_of_an_accepted_text_are_a_program.ensures tree walk table _ _ ready parts fits)

use Rattle.compiler_exists.proofs.HasCompiled.{has_compiled}
use Rattle.compiler_exists.proofs.compiled.each_accepted_text_has_a_program.Goals as goal

pub returns : goal.returns
returns c = λ text plan tree known accepted fits may.
    has_compiled c.each_program_has_a_cloned_form.ensures c.sampled_runs.ensures c.each_ready_text_has_a_program.ensures c.accepted_texts_never_fault.ensures.never c.accepted_texts_never_fault.ensures.never_plain
    text plan tree known accepted fits may

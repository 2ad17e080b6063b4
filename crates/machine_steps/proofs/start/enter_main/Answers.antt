use Rattle.std.proofs.Common.{◌≤◌, length, subst, sym}
use Rattle.flow.specs.Words.{local_limit, IsProgram}
use Rattle.machine_steps.proofs.CallLemmas.{few_locals}
use Rattle.machine_steps.proofs.start.enter_main.Goals as goal

pub make_locals-requires : goal.make_locals-requires
make_locals-requires c =
    subst (λ l. length l ≤ local_limit) (sym c.as_slice.ensures)
    (few_locals c.args.program.now c.main-number.result c.in-Some.function.now (subst IsProgram c.program.ensures.value c.main-number.ensures.is_program) c.in-Some.ensures.value)

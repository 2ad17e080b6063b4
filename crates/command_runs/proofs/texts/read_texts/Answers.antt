use Rattle.command_base.proofs.ReadingLemmas.{read-then, stopped}
use Rattle.command_runs.proofs.texts.read_texts.Goals as goal

pub returns-in-Err-clause-read : goal.returns-in-Err-clause-read
returns-in-Err-clause-read g c =
    read-then c.in_ok-program.ensures.read (read-then c.in_ok-inputs.ensures.read (stopped _ c.in-Err.fault _ c.in-Err.ensures.read))

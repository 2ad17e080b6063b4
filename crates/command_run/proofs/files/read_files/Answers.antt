use Rattle.command_base.proofs.ReadingLemmas.{read-then, stopped, stopped-first}
use Rattle.command_run.proofs.files.read_files.Goals as goal

pub returns-in-Err-clause-read : goal.returns-in-Err-clause-read
returns-in-Err-clause-read g c = read-then c.in_ok-program.ensures.read (read-then c.in_ok-bank.ensures.read (stopped-first _ c.in-Err.fault _ _ c.in-Err.ensures.read))

pub returns-in-Err-read_where-clause-read : goal.returns-in-Err-read_where-clause-read
returns-in-Err-read_where-clause-read g c =
    read-then c.in_ok-program.ensures.read (read-then c.in_ok-bank.ensures.read (read-then c.in-Ok.ensures.read
    (stopped _ c.in-Err-read_where.fault _ c.in-Err-read_where.ensures.read)))

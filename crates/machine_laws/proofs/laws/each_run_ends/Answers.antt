use Rattle.machine_laws.proofs.Ends.{run_ends}
use Rattle.machine_laws.proofs.laws.each_run_ends.Goals as goal

pub returns : goal.returns
returns c = λ p input bank turns is. let ends = run_ends p input bank turns (λ seen. Unit {0}) is (record { kept = λ before after sees here. tt }) tt in (ends.0, ends.1)

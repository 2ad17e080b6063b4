use Rattle.flow.specs.Code.{code_of}
use Rattle.flow.specs.Machine.{run_start}
use Rattle.flow.proofs.Endings.{one_end_from}
use Rattle.flow.proofs.laws.one_ending.Goals as goal

pub returns : goal.returns
returns c = λ p input bank turns a b here there. one_end_from (code_of p bank) (run_start p input bank turns) a b here there

use Rattle.executable.proofs.Eliminating.{lists-lines}
use Rattle.executable.proofs.closed.lines_of_calls_are_of_meant_runs.Goals as goal

pub returns : goal.returns
returns c = λ text t w runs texts transform collect lines transforms leave collects call.
    lists-lines text t runs texts transform transforms leave collect collects c.lines_are_of_meant_runs.ensures w lines call

use Rattle.executable.proofs.Eliminating.{lists-bugs}
use Rattle.executable.proofs.closed.bugs_of_calls_are_of_meant_runs.Goals as goal

pub returns : goal.returns
returns c = λ text t w runs texts transform collect bugs work transforms leave collects call.
    lists-bugs text t runs texts transform transforms leave collect collects c.bugs_are_of_meant_runs.ensures w bugs work call

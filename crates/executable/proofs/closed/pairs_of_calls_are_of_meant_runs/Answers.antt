use Rattle.executable.proofs.Eliminating.{finds}
use Rattle.executable.proofs.closed.pairs_of_calls_are_of_meant_runs.Goals as goal

pub returns : goal.returns
returns c = λ text t w runs texts transform collect pairs transforms leave collects call.
    finds text t runs texts transform transforms leave collect collects c.pairs_are_of_meant_runs.ensures w pairs call

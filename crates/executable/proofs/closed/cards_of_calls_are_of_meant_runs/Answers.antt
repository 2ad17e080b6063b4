use Rattle.executable.proofs.Eliminating.{deals}
use Rattle.executable.proofs.closed.cards_of_calls_are_of_meant_runs.Goals as goal

pub returns : goal.returns
returns c = λ text t w runs texts transform collect cards work transforms leave collects call.
    deals text t runs texts transform transforms leave collect collects c.cards_are_of_meant_runs.ensures w cards work call

use Rattle.executable.proofs.Sharing.{farms}
use Rattle.executable.proofs.closed.a_farm_of_calls_is_the_headline.Goals as goal

pub returns : goal.returns
returns c = λ text t r machines texts transform collect rank transforms widened collects call.
    farms c.a_farm_is_the_elimination.ensures text t r machines texts transform collect rank transforms widened collects call

use Rattle.executable.proofs.Eliminating.{ranks}
use Rattle.executable.proofs.closed.the_executable_is_the_headline.Goals as goal

pub returns : goal.returns
returns c = λ text t r runs texts transform collect rank transforms leave collects call.
    ranks text t runs texts transform transforms leave collect collects c.the_commands_are_the_headline.ensures r rank call

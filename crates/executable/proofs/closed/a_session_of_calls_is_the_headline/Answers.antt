use Rattle.executable.proofs.Eliminating.{replays}
use Rattle.executable.proofs.closed.a_session_of_calls_is_the_headline.Goals as goal

pub returns : goal.returns
returns c = λ text edits t s runs texts bundles transform session transforms leave spelled spells call.
    replays text t runs texts transform transforms leave c.a_session_is_the_headline.ensures.texts edits s bundles session spelled spells call

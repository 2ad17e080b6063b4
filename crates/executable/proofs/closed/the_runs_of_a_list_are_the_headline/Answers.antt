use Rattle.executable.proofs.Eliminating.{ranks-lines}
use Rattle.executable.proofs.closed.the_runs_of_a_list_are_the_headline.Goals as goal

pub returns : goal.returns
returns c = λ text t r transform listed rank transforms lists call.
    ranks-lines c.the_ranking_of_runs_is_the_elimination.ensures text t r transform listed rank transforms lists call

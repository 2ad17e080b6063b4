use Rattle.std.proofs.Common.{Some, subst}
use Rattle.commands.specs.Commands.{IsRefused}
use Rattle.commands.proofs.dispatch.obey.Goals as goal

pub returns-in-Runs-clause-refused : goal.returns-in-Runs-clause-refused
returns-in-Runs-clause-refused g c = λ is tells.
    c.make_runs.ensures.refused (subst (λ a. IsRefused (Some a) (g.S.Store.holds c.args.store.now)) c.in-Runs.is is) tells

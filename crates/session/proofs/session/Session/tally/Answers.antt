use Rattle.std.proofs.Common.{◌≡◌, sym, subst}
use Rattle.elimination_tallies.proofs.RunChanges.{recount-at}
use Rattle.elimination_tallies.specs.Recount.{recount, runs_of}
use Rattle.session.specs.Session.{SessionState}
use Rattle.session.proofs.session.Session.tally.Goals as goal

pub returns : goal.returns
returns c =
    let held = c.self.inside.collection in
    subst (λ (s : SessionState). c.tally.result ≡ recount s.held.branches (runs_of s.held.reports) c.args.predicate) c.self.view_is
    (sym (recount-at held.branches (runs_of held.reports) c.self.inside.kept.numbers c.args.predicate c.tally.result c.self.invariant.recounts c.tally.ensures))

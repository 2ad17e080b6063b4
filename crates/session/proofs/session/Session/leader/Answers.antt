use Rattle.std.proofs.Common.{IfNone, IfSome, subst, arith}
use Rattle.std.proofs.lemmas.List.{length-map}
use Rattle.elimination_tallies.specs.Leading.{IsLeader, NonePasses}
use Rattle.elimination_tallies.specs.Recount.{run_of_report, runs_of}
use Rattle.elimination_tallies.proofs.RecountLemmas.{recounts-scanned}
use Rattle.session.specs.Session.{SessionState}
use Rattle.session.proofs.Changes.{few-fail, leader-is, none-is}
use Rattle.session.proofs.session.Session.leader.Goals as goal

pub leader_in-requires-clause-tallies : goal.leader_in-requires-clause-tallies
leader_in-requires-clause-tallies c =
    let held = c.self.inside.collection in
    recounts-scanned held.branches (runs_of held.reports) c.self.inside.kept.numbers c.self.inside.kept.failing c.self.invariant.recounts (omega (arith, c.keeps.ensures.few, length-map held.reports run_of_report)) c.self.invariant.failing

pub leader_in-requires-clause-failing : goal.leader_in-requires-clause-failing
leader_in-requires-clause-failing c = omega (arith, few-fail c.self.inside.collection c.keeps.ensures, c.self.invariant.failing)

pub returns-clause-leader : goal.returns-clause-leader
returns-clause-leader c =
    subst (λ (s : SessionState). IfSome c.leader_in.result (IsLeader s.held.branches (runs_of s.held.reports))) c.self.view_is
    (leader-is c.self.inside.collection c.self.inside.kept c.leader_in.result c.self.invariant c.leader_in.ensures.leads c.leader_in.ensures.tally)

pub returns-clause-none : goal.returns-clause-none
returns-clause-none c =
    subst (λ (s : SessionState). IfNone c.leader_in.result (NonePasses s.held.branches (runs_of s.held.reports))) c.self.view_is
    (none-is c.self.inside.collection c.self.inside.kept c.leader_in.result c.self.invariant c.leader_in.ensures.none)

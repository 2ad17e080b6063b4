use Rattle.std.proofs.Common.{arith, sym, subst}
use Rattle.elimination.specs.Slots.{left_of}
use Rattle.elimination.proofs.StepLemmas.{left-most}
use Rattle.elimination_tallies.specs.Scanning.{AreScanned}
use Rattle.elimination_tallies.specs.Tallies.{AreRecounts, Tallies}
use Rattle.elimination_tallies.proofs.RecountLemmas.{fails-most, recounts-leader, recounts-none, recounts-scanned}
use Rattle.elimination.proofs.books.Books.leader.Goals as goal

pub leader_in-requires-clause-tallies : goal.leader_in-requires-clause-tallies
leader_in-requires-clause-tallies c =
    let b = c.args.self.now in
    subst (λ (t : Tallies). AreScanned t.tallies b.failing) (sym c.numbers.ensures)
    (recounts-scanned b.tallies.branches (left_of b.slots.items) b.tallies b.failing c.requires.recounts (omega (arith, left-most b.slots.items, c.requires.few)) c.requires.failing)

pub leader_in-requires-clause-failing : goal.leader_in-requires-clause-failing
leader_in-requires-clause-failing c = omega (arith, c.requires.failing, c.requires.few, left-most c.args.self.now.slots.items, fails-most (left_of c.args.self.now.slots.items))

pub returns-in-Some-clause-some : goal.returns-in-Some-clause-some
returns-in-Some-clause-some c =
    let b = c.args.self.now in
    let runs = left_of b.slots.items in
    let recounts = subst (λ (t : Tallies). AreRecounts b.tallies.branches runs t) (sym c.numbers.ensures) c.requires.recounts in
    recounts-leader b.tallies.branches runs c.numbers.result.now b.failing c.in-Some.row recounts c.requires.failing c.in-Some.ensures.leads c.in-Some.ensures.tally.0 c.in-Some.ensures.tally.1

pub returns-in-None-clause-none : goal.returns-in-None-clause-none
returns-in-None-clause-none c =
    let b = c.args.self.now in
    let runs = left_of b.slots.items in
    let recounts = subst (λ (t : Tallies). AreRecounts b.tallies.branches runs t) (sym c.numbers.ensures) c.requires.recounts in
    recounts-none b.tallies.branches runs c.numbers.result.now recounts c.in-None.ensures.none

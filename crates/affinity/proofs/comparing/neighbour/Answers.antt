use Rattle.std.proofs.Common.{arith, refl}
use Rattle.elimination_tallies.specs.Predicates.{predicates_in}
use Rattle.elimination_tallies.proofs.SurpassedLemmas.{scanned-at}
use Rattle.affinity.specs.Kept.{scores_by}
use Rattle.affinity.proofs.StillLemmas.{still-none}
use Rattle.affinity.proofs.comparing.neighbour.Goals as goal

pub returns-then-stays-clause-none : goal.returns-then-stays-clause-none
returns-then-stays-clause-none c =
    let rest = c.args.rest.now in
    let q = c.args.other in
    let same = c.if-stays.ensures refl in
    let known = scanned-at rest.numbers.tallies rest.failing q c.requires.comparable.left_scanned in
    still-none (predicates_in c.args.whole.now.branches) c.args.predicate (scores_by c.args.whole.now rest.all) (scores_by rest.numbers rest.failing) q same (omega (arith, known.0.failing, known.1))
    c.requires.comparable.fewer c.requires.comparable.few

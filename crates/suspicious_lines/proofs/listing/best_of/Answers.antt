use Rattle.std.proofs.lemmas.List.{take_all}
use Rattle.suspicious_lines.proofs.Bests.{best-all, best-more}
use Rattle.suspicious_lines.proofs.listing.best_of.Goals as goal

pub loop-next-preserved : goal.loop-next-preserved
loop-next-preserved c =
    best-more c.args.totals.failing c.args.totals.successful c.args.suspects.now c.loop-next.next-index _ c.loop-next.best c.better-best.result c.loop-next-test.true c.loop-next.invariant c.better-best.ensures

pub returns-clause-some : goal.returns-clause-some
returns-clause-some c =
    best-all c.args.totals.failing c.args.totals.successful c.args.suspects.now c.loop-next.next-index c.loop-next.best (take_all c.loop-next.next-index c.args.suspects.now c.loop-next-test.false) c.loop-next.invariant

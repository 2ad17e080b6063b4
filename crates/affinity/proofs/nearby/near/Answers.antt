use Rattle.std.proofs.Common.{Bool, List, subst}
use Rattle.elimination_tallies.specs.Recount.{runs_of}
use Rattle.affinity.specs.Near.{AreNear}
use Rattle.affinity.proofs.nearby.near.Goals as goal

pub returns : goal.returns
returns c = subst (λ (bs : List Bool). AreNear bs (runs_of c.args.collection.now.reports) c.args.predicate c.in_ok-rows.rows.items) c.requires.table c.in_ok-rows.ensures

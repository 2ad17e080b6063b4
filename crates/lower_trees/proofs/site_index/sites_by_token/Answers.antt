use Rattle.std.proofs.Common.{arith, refl}
use Rattle.lower_trees.specs.Looks.{is_of}
use Rattle.lower_trees.proofs.Placed.{sites_next}
use Rattle.lower_trees.proofs.site_index.sites_by_token.Goals as goal

pub loop-site-preserved : goal.loop-site-preserved
loop-site-preserved c = (
  omega arith,
  λ token.
      sites_next (is_of c.args.looks) c.args.sites.now c.loop-site.site-index c.loop-site.number _ token c.site-item.result _ _ _ refl c.loop-site-test.true c.site-item.is
      (rw c.is_of-holds.ensures at c.in_ok-add_if.ensures token) (c.loop-site.invariant.1 token),
)

use Rattle.std.proofs.Common.{◌≡◌, ◌++◌, map, drop}
use Rattle.flow.specs.declared.site.Partner.TheVariants as partner
use Rattle.sites.specs.SitesAt.{pair_on}
use Rattle.sites.specs.Visible.{slot_of}
use Rattle.sites.proofs.partners.add_constant_pairs.Given as goal

-- with those of the constants that are left it is all of them
abbrev pub invariant-loop-value : goal.invariant-loop-value
invariant-loop-value l =
    l.sites ++ map (pair_on l.stand l.target.name (slot_of l.target.variable)) (map partner.Constant (drop l.value-index l.constants)) ≡
    l.fn.sites ++ map (pair_on l.stand l.target.name (slot_of l.target.variable)) (map partner.Constant l.constants)

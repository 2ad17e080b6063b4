use Rattle.std.proofs.Common.{◌≡◌, ◌<◌, drop}
use Rattle.flow.specs.Predicates.{predicate_count, predicate_text, site_at}
use Rattle.flow.proofs.predicate.site_of.Given as goal

-- the predicate is this one of the sites that are left
abbrev pub invariant-loop-site : goal.invariant-loop-site
invariant-loop-site l = record {
  site : site_at l.sites l.fn.predicate ≡ site_at (drop l.site-index l.sites) l.number;
  text : predicate_text l.sites l.fn.predicate ≡ predicate_text (drop l.site-index l.sites) l.number;
  left : l.number < predicate_count (drop l.site-index l.sites);
}

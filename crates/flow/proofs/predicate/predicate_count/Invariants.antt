use Rattle.std.proofs.Common.{◌≡◌, ◌*◌, ◌≤◌, take}
use Rattle.flow.specs.Predicates.{predicate_count}
use Rattle.flow.proofs.predicate.predicate_count.Given as goal

-- the predicates of the sites so far
abbrev pub invariant-loop-site : goal.invariant-loop-site
invariant-loop-site l = record {
  value : l.count ≡ predicate_count (take l.site-index l.site-items);
  few : l.count ≤ 6 * l.site-index;
}

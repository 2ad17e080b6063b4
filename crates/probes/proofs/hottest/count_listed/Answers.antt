use Rattle.std.proofs.Common.{◌≡◌, ◌++◌, length, take, sym, subst, ◌∙◌, arith}
use Rattle.std.proofs.lemmas.List.{length-set, take_all}
use Rattle.probes.specs.Sites.{sites_seen}
use Rattle.probes.specs.Hottest.{AreCounted}
use Rattle.probes.proofs.Listed.{AreCounted-at}
use Rattle.probes.proofs.hottest.count_listed.Goals as goal

pub loop-i-preserved : goal.loop-i-preserved
loop-i-preserved c = record {
  len = length-set _ _ _ ∙ c.loop-i.invariant.len;
  counted = λ carried seen before. AreCounted-at c.loop-i.counts carried seen c.args.observations.now c.loop-i.i _ (omega arith) (omega arith) (c.loop-i.invariant.counted carried seen before);
}

pub returns-clause-counted : goal.returns-clause-counted
returns-clause-counted c =
    let all = c.args.observations.now in
    let whole : take c.loop-i.i all ≡ take (length all) all = take_all c.loop-i.i all (omega arith) ∙ sym (take_all (length all) all (omega arith)) in
    λ carried seen before. subst (λ os. AreCounted c.loop-i.counts carried (sites_seen (seen ++ os))) whole (c.loop-i.invariant.counted carried seen before)

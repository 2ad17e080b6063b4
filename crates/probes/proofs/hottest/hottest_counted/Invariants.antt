use Rattle.probes.specs.Hottest.{whole_count}
use Rattle.probes.proofs.Listed.{LeadsBelow}
use Rattle.probes.proofs.hottest.hottest_counted.Given as goal

-- the best of the places so far
abbrev pub invariant-loop-place : goal.invariant-loop-place
invariant-loop-place l = LeadsBelow (whole_count l.counts l.carried) l.place l.best

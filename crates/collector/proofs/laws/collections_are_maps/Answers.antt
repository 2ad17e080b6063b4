use Rattle.collector.proofs.Maps.{at-relabelled, at-relabelled-other, at-with, at-with-other, at-without, at-without-other, next-least, next-no}
use Rattle.collector.proofs.Ordering.{from-rising}
use Rattle.collector.proofs.laws.collections_are_maps.Goals as goal

pub returns-clause-with : goal.returns-clause-with
returns-clause-with c = at-with

pub returns-clause-with_other : goal.returns-clause-with_other
returns-clause-with_other c = at-with-other

pub returns-clause-without : goal.returns-clause-without
returns-clause-without c = λ run reports rising. at-without run reports (from-rising 0 reports rising)

pub returns-clause-without_other : goal.returns-clause-without_other
returns-clause-without_other c = at-without-other

pub returns-clause-relabelled : goal.returns-clause-relabelled
returns-clause-relabelled c = at-relabelled

pub returns-clause-relabelled_other : goal.returns-clause-relabelled_other
returns-clause-relabelled_other c = at-relabelled-other

pub returns-clause-next : goal.returns-clause-next
returns-clause-next c = λ run reports next rising found. next-least run reports next (from-rising 0 reports rising) found

pub returns-clause-no_next : goal.returns-clause-no_next
returns-clause-no_next c = next-no

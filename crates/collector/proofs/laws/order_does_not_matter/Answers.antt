use Rattle.collector.proofs.Ordering.{from-rising, map-members, map-same}
use Rattle.collector.proofs.Taking.{orders-same}
use Rattle.collector.proofs.laws.order_does_not_matter.Goals as goal

pub returns-clause-members : goal.returns-clause-members
returns-clause-members c = map-members

pub returns-clause-same : goal.returns-clause-same
returns-clause-same c = map-same

pub returns-clause-collections : goal.returns-clause-collections
returns-clause-collections c = λ h a b xs ys m n is same first second. orders-same h a b xs ys m n (from-rising 0 h.reports is.rising) same first second

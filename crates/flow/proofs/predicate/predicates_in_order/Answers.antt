use Rattle.flow.proofs.PredicateOrder.{predicate-text, predicate-counted, predicate-placed, predicate-once}
use Rattle.flow.proofs.predicate.predicates_in_order.Goals as goal

pub returns : goal.returns
returns c = record { text = predicate-text; counted = predicate-counted; placed = predicate-placed; once = predicate-once }

use Rattle.elimination.proofs.TableLemmas.{count-is, predicate-is}
use Rattle.elimination.proofs.laws.predicates_are_those_of_the_table.Goals as goal

pub returns : goal.returns
returns c = record { as_many = count-is; each = predicate-is }

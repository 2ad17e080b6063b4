-- The order of two whole numbers, as operators name it.
use Rattle.std.specs.declared.cmp.Ordering.{Ordering}
use Rattle.std.specs.declared.cmp.Ordering.TheVariants as ordering
use Rattle.c_values.specs.declared.relation.Relation.{Relation}
use Rattle.c_values.specs.declared.relation.Relation.TheVariants.{Less, Equal, Greater}

-- an order of whole numbers under the names of this crate
abbrev pub relation_of : Ordering → Relation
relation_of ordering.Less = Less
relation_of ordering.Equal = Equal
relation_of ordering.Greater = Greater

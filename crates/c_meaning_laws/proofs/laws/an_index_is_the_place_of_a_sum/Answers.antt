use Rattle.c_meaning_laws.proofs.Indices.{followed_index_means_sum, index_is_place_of_sum, index_means_sum, typed_index_meets}
use Rattle.c_meaning_laws.proofs.laws.an_index_is_the_place_of_a_sum.Goals as goal

pub returns-clause-place : goal.returns-clause-place
returns-clause-place c = index_is_place_of_sum

pub returns-clause-whole : goal.returns-clause-whole
returns-clause-whole c = index_means_sum

pub returns-clause-typed : goal.returns-clause-typed
returns-clause-typed c = typed_index_meets

pub returns-clause-followed : goal.returns-clause-followed
returns-clause-followed c = followed_index_means_sum

use Rattle.c_meaning_laws.proofs.Members.{arrow_is_member, typed_arrow_meets}
use Rattle.c_meaning_laws.proofs.laws.an_arrow_is_a_member_of_a_target.Goals as goal

pub returns-clause-whole : goal.returns-clause-whole
returns-clause-whole c = arrow_is_member

pub returns-clause-typed : goal.returns-clause-typed
returns-clause-typed c = typed_arrow_meets

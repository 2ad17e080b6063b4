use Rattle.association.proofs.Tables.{none-above-one, only-perfect, perfect-is-one, roles-same, sides-same}
use Rattle.association.proofs.laws.strength_is_a_square_of_correlation.Goals as goal

pub returns-clause-at_most : goal.returns-clause-at_most
returns-clause-at_most c = none-above-one

pub returns-clause-perfect : goal.returns-clause-perfect
returns-clause-perfect c = perfect-is-one

pub returns-clause-only : goal.returns-clause-only
returns-clause-only c = only-perfect

pub returns-clause-roles : goal.returns-clause-roles
returns-clause-roles c = roles-same

pub returns-clause-sides : goal.returns-clause-sides
returns-clause-sides c = sides-same

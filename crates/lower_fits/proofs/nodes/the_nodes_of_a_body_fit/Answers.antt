use Rattle.lower_relation.specs.Functions.{graph_of_nodes}
use Rattle.lower_fits.proofs.Examples.{example_fits}
use Rattle.lower_fits.proofs.FittingNodes.{view_fits}
use Rattle.lower_fits.proofs.NodesOfStatements.{body_fits, comes_into, leaves_into}
use Rattle.lower_fits.proofs.nodes.the_nodes_of_a_body_fit.Goals as goal

pub returns-clause-body : goal.returns-clause-body
returns-clause-body c = λ facts sites names bounds f lo body nodes start exits b h. body_fits names bounds (graph_of_nodes nodes) facts sites f lo body start exits b h

pub returns-clause-begins : goal.returns-clause-begins
returns-clause-begins c = λ names bounds nodes start entry h. comes_into names bounds (graph_of_nodes nodes) start entry h

pub returns-clause-leaves : goal.returns-clause-leaves
returns-clause-leaves c = λ names bounds nodes is_main has_value exits h. leaves_into names bounds (graph_of_nodes nodes) is_main has_value exits h

pub returns-clause-named : goal.returns-clause-named
returns-clause-named c = λ names bounds op h. view_fits names bounds op h

pub returns-clause-example : goal.returns-clause-example
returns-clause-example c = example_fits

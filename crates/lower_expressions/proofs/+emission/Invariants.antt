use Rattle.c_syntax.specs.ExprTree as e
use Rattle.c_syntax.specs.Plain.{plain_expr, plain_exprs, plain_links, plain_operators, plain_postfix}
use Rattle.lower_nodes.specs.Made.{Made, MadeFor}
use Rattle.lower_nodes.specs.Purposes.{Serves, condition_ways}
use Rattle.lower_relation.specs.Expressions.{ArgumentsDo, PostfixOperatorsDo, CommaDoes, LinksDo}
use Rattle.lower_relation.specs.Room.{exprs_room, links_room, postfix_room}
use Rattle.lower_expressions.proofs.Forked.{Leads}
use Rattle.lower_operators.specs.Linking.{type_before}
use Rattle.lower_operators.specs.Spots.{place_before, type_behind}
use Rattle.lower_operators.specs.Taken.{wanted_types}
use Rattle.lower_expressions.specs.Weights.{exprs_weight, links_weight, postfix_weight, weight}
use Rattle.std.proofs.Common.{drop, length, ◌+◌, ◌<◌, ◌≤◌}
use Rattle.lower_facts.specs.Facts.{facts_in, sites_in}
use Rattle.lower_expressions.proofs.+emission.Given as goal

-- the operands from this place on are done
abbrev pub invariant-choices::emit_last-loop-place : goal.invariant-choices::emit_last-loop-place
invariant-choices::emit_last-loop-place l =
    (l.place < length l.operands)
    × MadeFor (λ G. Serves (CommaDoes G (facts_in l.facts) (sites_in l.facts) (plain_exprs (drop l.place l.operands)))) l.fn.graph l.graph l.entry l.fn.purpose
    × (length l.graph ≤ length l.fn.graph + (3 + exprs_room (sites_in l.facts) 0 (plain_exprs (drop l.place l.operands))))

-- the operators of a chain from this place on are done
abbrev pub invariant-chains::emit_links-loop-place : goal.invariant-chains::emit_links-loop-place
invariant-chains::emit_links-loop-place l =
    (l.place ≤ length l.links)
    × Made (λ G. LinksDo G (facts_in l.facts) (sites_in l.facts) (type_before (facts_in l.facts) l.left l.links l.place) (plain_links (drop l.place l.links)))
    l.initial.graph l.graph l.entry l.next
    × (length l.graph ≤ length l.initial.graph + links_room (sites_in l.facts) (plain_links (drop l.place l.links)))

-- the truth of what stands before the operator at this place leads to that of the chain
abbrev pub invariant-truths::emit_chain_truth-loop-place : goal.invariant-truths::emit_chain_truth-loop-place
invariant-truths::emit_chain_truth-loop-place l =
    (l.place ≤ length l.links)
    × Leads (facts_in l.facts) (sites_in l.facts) (plain_expr l.first) l.links l.place l.initial.graph l.graph (condition_ways l.yes_at l.no_at) (condition_ways l.fn.yes l.fn.no)
    × (length l.graph ≤ length l.initial.graph + links_room (sites_in l.facts) (plain_links (drop l.place l.links)))

-- the operators behind an operand from this place on are done
abbrev pub invariant-postfix::emit_behind-loop-place : goal.invariant-postfix::emit_behind-loop-place
invariant-postfix::emit_behind-loop-place l =
    (l.place ≤ length l.operators)
    × Made (λ G. PostfixOperatorsDo G (facts_in l.facts) (sites_in l.facts) l.taken (place_before l.known (plain_operators l.operators) l.place)
    (type_behind (facts_in l.facts) l.of (plain_operators l.operators) l.place) (plain_operators (drop l.place l.operators)))
    l.initial.graph l.graph l.entry l.next
    × (length l.graph ≤ length l.initial.graph + postfix_room (sites_in l.facts) (plain_operators (drop l.place l.operators)))

-- what is left to emit
abbrev pub decreases-expressions::emit : goal.decreases-expressions::emit
decreases-expressions::emit l = weight (plain_expr l.x.now)

abbrev pub decreases-expressions::emit_value : goal.decreases-expressions::emit_value
decreases-expressions::emit_value l = 1 + weight (plain_expr l.x.now)

abbrev pub decreases-expressions::emit_wanted : goal.decreases-expressions::emit_wanted
decreases-expressions::emit_wanted l = 2 + weight (plain_expr l.x.now)

abbrev pub decreases-places::emit_place : goal.decreases-places::emit_place
decreases-places::emit_place l = weight (plain_expr l.x.now)

abbrev pub decreases-places::emit_prefix_place : goal.decreases-places::emit_prefix_place
decreases-places::emit_prefix_place l = 3 + weight (plain_expr l.operand.now)

abbrev pub decreases-places::emit_lone_place : goal.decreases-places::emit_lone_place
decreases-places::emit_lone_place l = 1 + exprs_weight (plain_exprs l.operands.now)

abbrev pub decreases-operators::emit_assign : goal.decreases-operators::emit_assign
decreases-operators::emit_assign l = 3 + weight (plain_expr l.target.now) + weight (plain_expr l.value.now)

abbrev pub decreases-operators::emit_prefix_value : goal.decreases-operators::emit_prefix_value
decreases-operators::emit_prefix_value l = 3 + weight (plain_expr l.operand.now)

abbrev pub decreases-operators::emit_not : goal.decreases-operators::emit_not
decreases-operators::emit_not l = 3 + weight (plain_expr l.operand.now)

abbrev pub decreases-operators::emit_prefix : goal.decreases-operators::emit_prefix
decreases-operators::emit_prefix l = 4 + weight (plain_expr l.operand.now)

abbrev pub decreases-chains::emit_null_or : goal.decreases-chains::emit_null_or
decreases-chains::emit_null_or l = 2 + weight (plain_expr l.x.now)

abbrev pub decreases-chains::emit_link : goal.decreases-chains::emit_link
decreases-chains::emit_link l = 4 + weight (plain_expr l.link.now.operand)

abbrev pub decreases-chains::emit_links : goal.decreases-chains::emit_links
decreases-chains::emit_links l = 1 + links_weight (plain_links l.links.now)

abbrev pub decreases-chains::emit_before : goal.decreases-chains::emit_before
decreases-chains::emit_before l = 3 + weight (plain_expr l.first.now) + links_weight (plain_links l.links.now)

abbrev pub decreases-chains::emit_chain : goal.decreases-chains::emit_chain
decreases-chains::emit_chain l = 6 + weight (plain_expr l.first.now) + links_weight (plain_links l.links.now)

abbrev pub decreases-truths::emit_null_truth : goal.decreases-truths::emit_null_truth
decreases-truths::emit_null_truth l = 2 + weight (plain_expr l.x.now)

abbrev pub decreases-truths::emit_right_truth : goal.decreases-truths::emit_right_truth
decreases-truths::emit_right_truth l = 3 + weight (plain_expr l.link.now.operand)

abbrev pub decreases-truths::emit_valued_truth : goal.decreases-truths::emit_valued_truth
decreases-truths::emit_valued_truth l = 4 + weight (plain_expr l.first.now) + links_weight (plain_links l.links.now)

abbrev pub decreases-truths::emit_chain_truth : goal.decreases-truths::emit_chain_truth
decreases-truths::emit_chain_truth l = 5 + weight (plain_expr l.first.now) + links_weight (plain_links l.links.now)

abbrev pub decreases-choices::emit_handed : goal.decreases-choices::emit_handed
decreases-choices::emit_handed l = 2 + weight (plain_expr l.x.now)

abbrev pub decreases-choices::emit_cast : goal.decreases-choices::emit_cast
decreases-choices::emit_cast l = 4 + weight (plain_expr l.operand.now)

abbrev pub decreases-conditions::emit_condition : goal.decreases-conditions::emit_condition
decreases-conditions::emit_condition l = 2 + weight (plain_expr l.x.now)

abbrev pub decreases-choices::emit_arm_value : goal.decreases-choices::emit_arm_value
decreases-choices::emit_arm_value l = 2 + weight (plain_expr l.x.now)

abbrev pub decreases-choices::emit_arm_effect : goal.decreases-choices::emit_arm_effect
decreases-choices::emit_arm_effect l = 3 + weight (plain_expr l.x.now)

abbrev pub decreases-choices::emit_conditional : goal.decreases-choices::emit_conditional
decreases-choices::emit_conditional l = 4 + weight (plain_expr l.condition.now) + weight (plain_expr l.first.now) + weight (plain_expr l.second.now)

abbrev pub decreases-choices::emit_last : goal.decreases-choices::emit_last
decreases-choices::emit_last l = 1 + exprs_weight (plain_exprs l.operands.now)

abbrev pub decreases-postfix::emit_operator : goal.decreases-postfix::emit_operator
decreases-postfix::emit_operator l = 1 + postfix_weight (plain_postfix l.operator.now e.no_postfix)

abbrev pub decreases-postfix::emit_behind : goal.decreases-postfix::emit_behind
decreases-postfix::emit_behind l = 2 + postfix_weight (plain_operators l.operators.now)

abbrev pub decreases-postfix::emit_spot : goal.decreases-postfix::emit_spot
decreases-postfix::emit_spot l = 2 + weight (plain_expr l.x.now)

abbrev pub decreases-postfix::emit_spots : goal.decreases-postfix::emit_spots
decreases-postfix::emit_spots l = 3 + weight (plain_expr l.primary.now) + postfix_weight (plain_operators l.operators.now)

abbrev pub decreases-postfix::emit_postfix : goal.decreases-postfix::emit_postfix
decreases-postfix::emit_postfix l = 4 + weight (plain_expr l.primary.now) + postfix_weight (plain_operators l.operators.now)

abbrev pub decreases-postfix::emit_postfix_place : goal.decreases-postfix::emit_postfix_place
decreases-postfix::emit_postfix_place l = 4 + weight (plain_expr l.primary.now) + postfix_weight (plain_operators l.operators.now)

abbrev pub decreases-operators::emit_negation : goal.decreases-operators::emit_negation
decreases-operators::emit_negation l = 2 + weight (plain_expr l.operand.now)

abbrev pub decreases-choices::emit_chosen : goal.decreases-choices::emit_chosen
decreases-choices::emit_chosen l = 3 + weight (plain_expr l.condition.now) + weight (plain_expr l.first.now) + weight (plain_expr l.second.now)

-- the arguments from this place on are done
abbrev pub invariant-calls::emit_arguments-loop-place : goal.invariant-calls::emit_arguments-loop-place
invariant-calls::emit_arguments-loop-place l =
    (l.place ≤ length l.arguments)
    × Made (λ G. ArgumentsDo G (facts_in l.facts) (sites_in l.facts) (drop l.place (wanted_types l.wanted)) (plain_exprs (drop l.place l.arguments)))
    l.initial.graph l.graph l.entry l.next
    × (length l.graph ≤ length l.initial.graph + exprs_room (sites_in l.facts) 3 (plain_exprs (drop l.place l.arguments)))

abbrev pub decreases-calls::emit_arguments : goal.decreases-calls::emit_arguments
decreases-calls::emit_arguments l = 1 + exprs_weight (plain_exprs l.arguments.now)

abbrev pub decreases-calls::emit_call : goal.decreases-calls::emit_call
decreases-calls::emit_call l = 6 + exprs_weight (plain_exprs l.arguments.now)

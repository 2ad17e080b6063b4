use Rattle.c_meaning.specs.Words.{is_null_as, ends_as_place, is_null_beside, operand_type, token_of, type_of, site_list}
use Rattle.c_meaning.specs.Trees as tree
use Rattle.c_syntax.proofs.PlainExprs.{plain_arrow_before, plain_assign, plain_call, plain_cast, plain_chain, plain_comma, plain_conditional, plain_constant, plain_decrement_before, plain_end_of_file, plain_increment_before, plain_index_before, plain_member_before, plain_name, plain_null, plain_paren, plain_prefix, plain_size_of_type, plain_strings, plain_with_postfix}
use Rattle.c_syntax.specs.ExprTree as e
use Rattle.c_syntax.specs.Plain.{plain_expr, plain_exprs, plain_links, plain_operators, plain_postfix}
use Rattle.c_types_expressions.specs.ExprWalk.{binary_of}
use Rattle.cbi_base.specs.declared.operators.Unary.TheVariants as unary
use Rattle.flow.specs.declared.node.Node.TheVariants as node
use Rattle.lower_nodes.proofs.Building.{row, surely_made, ◌and_then◌}
use Rattle.lower_relation.specs.Paths.{Stuck}
use Rattle.lower_nodes.proofs.Serving.{for_value, negated_truth, prefixed_made, through_made}
use Rattle.lower_relation.specs.Expressions.{emitted_expression}
use Rattle.lower_relation.specs.Room.{branch_visits, exprs_room, links_room}
use Rattle.lower_relation.specs.Values.{NullOr}
use Rattle.lower_expressions.proofs.Assigning.{assign_by, assign_plain, comma_step, last_made, lasts_whole, none_made, operand_weighs}
use Rattle.lower_expressions.proofs.Chaining.{front_weighs, both_made, chain_made, computes_made, either_links, link_weighs, linked_by, links_none, links_step}
use Rattle.lower_expressions.proofs.Choosing.{arm_null_made, arm_void, arm_dropped, arm_value_made, cast_effect, cast_nothing, cast_value, chosen_made, conditional_effect, conditional_taken}
use Rattle.lower_expressions.proofs.Deciding.{sited_made, unsited_made}
use Rattle.lower_expressions.proofs.Forked.{null_truth, own_truth, before_made, chain_begun, chain_forked, leads_all, leads_step, sided_made, value_whole, valued_made}
use Rattle.lower_expressions.proofs.Forking.{value_forks}
use Rattle.lower_expressions.proofs.Passed.{arguments_none, arguments_step, call_made, refused_made, unfit_made}
use Rattle.lower_expressions.proofs.Placing.{lone_place, behind_nowhere, behind_place, comma_nowhere_made, prefix_nowhere, through_place}
use Rattle.lower_expressions.proofs.Postfixing.{behind_none, behind_step, behind_whole, operator_weighs}
use Rattle.lower_expressions.proofs.Rooms.{links_front, links_last, exprs_long, exprs_rest, links_rest, postfix_rest, exprs_all, exprs_more, links_all, links_more, passed_room, postfix_all, postfix_more, wider}
use Rattle.lower_expressions.proofs.Spotting.{postfix_place, postfix_value}
use Rattle.lower_expressions.proofs.Turning.{turned_made, value_stuck_made, valued_else}
use Rattle.lower_operators.specs.Taken.{wanted_types}
use Rattle.lower_expressions.specs.Weights.{exprs_weight, links_weight, postfix_weight, weight}
use Rattle.std.proofs.Common.{ap, arith, drop, length, refl, rules, sym, take, ◌+◌, ◌-◌, ◌<◌, ◌∙◌, ◌≡◌, ◌≤◌}
use Rattle.lower_facts.specs.Facts.{facts_in, sites_in}
use Rattle.lower_trees.specs.Operators.{assignment_of, joint_of}
use Rattle.lower_expressions.proofs.+emission.Goals as goal

pub expressions::emit-returns-in-Comma-clause-made : goal.expressions::emit-returns-in-Comma-clause-made
expressions::emit-returns-in-Comma-clause-made t c = rw (c.in-Comma.is, plain_comma c.in-Comma.token c.in-Comma.operands) (rw c.as_slice.ensures.value at c.emit_last.ensures.made)

pub expressions::emit-returns-in-Comma-clause-few : goal.expressions::emit-returns-in-Comma-clause-few
expressions::emit-returns-in-Comma-clause-few t c = rw (c.in-Comma.is, plain_comma c.in-Comma.token c.in-Comma.operands) (rw c.as_slice.ensures.value at c.emit_last.ensures.few)

pub expressions::emit-returns-in-Conditional-clause-made : goal.expressions::emit-returns-in-Conditional-clause-made
expressions::emit-returns-in-Conditional-clause-made t c = rw (c.in-Conditional.is, plain_conditional c.in-Conditional.token c.in-Conditional.condition c.in-Conditional.first c.in-Conditional.second) (rw (c.deref.ensures, c.deref-in-Conditional.ensures, c.deref-in-Conditional-2.ensures) at c.emit_conditional.ensures.made)

pub expressions::emit-returns-in-Conditional-clause-few : goal.expressions::emit-returns-in-Conditional-clause-few
expressions::emit-returns-in-Conditional-clause-few t c = rw (c.in-Conditional.is, plain_conditional c.in-Conditional.token c.in-Conditional.condition c.in-Conditional.first c.in-Conditional.second) (rw (c.deref.ensures, c.deref-in-Conditional.ensures, c.deref-in-Conditional-2.ensures) at c.emit_conditional.ensures.few)

pub expressions::emit-returns-in-Chain-clause-made : goal.expressions::emit-returns-in-Chain-clause-made
expressions::emit-returns-in-Chain-clause-made t c = rw (c.in-Chain.is, plain_chain c.in-Chain.level c.in-Chain.first c.in-Chain.links) (rw (c.deref-in-Chain.ensures, c.as_slice-in-Chain.ensures.value) at c.emit_chain.ensures.made)

pub expressions::emit-returns-in-Chain-clause-few : goal.expressions::emit-returns-in-Chain-clause-few
expressions::emit-returns-in-Chain-clause-few t c = rw (c.in-Chain.is, plain_chain c.in-Chain.level c.in-Chain.first c.in-Chain.links) (rw (c.deref-in-Chain.ensures, c.as_slice-in-Chain.ensures.value) at c.emit_chain.ensures.few)

pub expressions::emit-returns-in-Cast-clause-made : goal.expressions::emit-returns-in-Cast-clause-made
expressions::emit-returns-in-Cast-clause-made t c = rw (c.in-Cast.is, plain_cast c.in-Cast.token c.in-Cast.base c.in-Cast.stars c.in-Cast.operand) (rw (c.deref-in-Cast.ensures, c.type_at.ensures) at c.emit_cast.ensures.made)

pub expressions::emit-returns-in-Cast-clause-few : goal.expressions::emit-returns-in-Cast-clause-few
expressions::emit-returns-in-Cast-clause-few t c = rw (c.in-Cast.is, plain_cast c.in-Cast.token c.in-Cast.base c.in-Cast.stars c.in-Cast.operand) (rw c.deref-in-Cast.ensures at c.emit_cast.ensures.few)

pub expressions::emit-returns-in-Postfix-clause-made : goal.expressions::emit-returns-in-Postfix-clause-made
expressions::emit-returns-in-Postfix-clause-made t c = rw (c.in-Postfix.is, plain_with_postfix c.in-Postfix.primary c.in-Postfix.operators) (rw (c.deref-in-Postfix.ensures, c.as_slice-in-Postfix.ensures.value) at c.emit_postfix.ensures.made)

pub expressions::emit-returns-in-Postfix-clause-few : goal.expressions::emit-returns-in-Postfix-clause-few
expressions::emit-returns-in-Postfix-clause-few t c = rw (c.in-Postfix.is, plain_with_postfix c.in-Postfix.primary c.in-Postfix.operators) (rw (c.deref-in-Postfix.ensures, c.as_slice-in-Postfix.ensures.value) at c.emit_postfix.ensures.few)

pub expressions::emit-returns-in-Assign-clause-made : goal.expressions::emit-returns-in-Assign-clause-made
expressions::emit-returns-in-Assign-clause-made t c = rw (c.in-Assign.is, plain_assign c.in-Assign.token c.in-Assign.sign c.in-Assign.target c.in-Assign.value) (rw (c.deref-in-Assign.ensures, c.deref-in-Assign-2.ensures) at c.emit_assign.ensures.made)

pub expressions::emit-returns-in-Assign-clause-few : goal.expressions::emit-returns-in-Assign-clause-few
expressions::emit-returns-in-Assign-clause-few t c = rw (c.in-Assign.is, plain_assign c.in-Assign.token c.in-Assign.sign c.in-Assign.target c.in-Assign.value) (rw (c.deref-in-Assign.ensures, c.deref-in-Assign-2.ensures) at c.emit_assign.ensures.few)

pub expressions::emit-returns-in-Prefix-clause-made : goal.expressions::emit-returns-in-Prefix-clause-made
expressions::emit-returns-in-Prefix-clause-made t c = rw (c.in-Prefix.is, plain_prefix c.in-Prefix.token c.in-Prefix.operator c.in-Prefix.operand) (rw c.deref-in-Prefix.ensures at c.emit_prefix.ensures.made)

pub expressions::emit-returns-in-Prefix-clause-few : goal.expressions::emit-returns-in-Prefix-clause-few
expressions::emit-returns-in-Prefix-clause-few t c = rw (c.in-Prefix.is, plain_prefix c.in-Prefix.token c.in-Prefix.operator c.in-Prefix.operand) (rw c.deref-in-Prefix.ensures at c.emit_prefix.ensures.few)

pub expressions::emit-returns-in-SizeOfType-clause-made : goal.expressions::emit-returns-in-SizeOfType-clause-made
expressions::emit-returns-in-SizeOfType-clause-made t c = rw (c.in-SizeOfType.is, plain_size_of_type c.in-SizeOfType.token c.in-SizeOfType.base c.in-SizeOfType.stars) (rw c.named_cells.ensures at c.put_size.ensures.made)

pub expressions::emit-returns-in-SizeOfType-clause-few : goal.expressions::emit-returns-in-SizeOfType-clause-few
expressions::emit-returns-in-SizeOfType-clause-few t c = rw (c.in-SizeOfType.is, plain_size_of_type c.in-SizeOfType.token c.in-SizeOfType.base c.in-SizeOfType.stars) c.put_size.ensures.few

pub expressions::emit-returns-in-Name-clause-made : goal.expressions::emit-returns-in-Name-clause-made
expressions::emit-returns-in-Name-clause-made t c = rw (c.in-Name.is, plain_name c.in-Name.token c.in-Name.name) (rw (c.type_at-in-Name.ensures, c.slot_at.ensures) at c.put_name.ensures.made)

pub expressions::emit-returns-in-Name-clause-few : goal.expressions::emit-returns-in-Name-clause-few
expressions::emit-returns-in-Name-clause-few t c = rw (c.in-Name.is, plain_name c.in-Name.token c.in-Name.name) c.put_name.ensures.few

pub expressions::emit-returns-in-Call-clause-made : goal.expressions::emit-returns-in-Call-clause-made
expressions::emit-returns-in-Call-clause-made t c = rw (c.in-Call.is, plain_call c.in-Call.token c.in-Call.name c.in-Call.arguments) (rw c.as_slice-in-Call.ensures.value at c.emit_call.ensures.made)

pub expressions::emit-returns-in-Call-clause-few : goal.expressions::emit-returns-in-Call-clause-few
expressions::emit-returns-in-Call-clause-few t c = rw (c.in-Call.is, plain_call c.in-Call.token c.in-Call.name c.in-Call.arguments) (rw c.as_slice-in-Call.ensures.value at c.emit_call.ensures.few)

pub expressions::emit-returns-in-Strings-clause-made : goal.expressions::emit-returns-in-Strings-clause-made
expressions::emit-returns-in-Strings-clause-made t c = rw (c.in-Strings.is, plain_strings c.in-Strings.token c.in-Strings.parts) (rw c.text_at.ensures at c.put_text.ensures.made)

pub expressions::emit-returns-in-Strings-clause-few : goal.expressions::emit-returns-in-Strings-clause-few
expressions::emit-returns-in-Strings-clause-few t c = rw (c.in-Strings.is, plain_strings c.in-Strings.token c.in-Strings.parts) c.put_text.ensures.few

pub expressions::emit-returns-in-Constant-clause-few : goal.expressions::emit-returns-in-Constant-clause-few
expressions::emit-returns-in-Constant-clause-few t c = rw (c.in-Constant.is, plain_constant c.in-Constant.token c.in-Constant.kind c.in-Constant.value) c.put_constant.ensures.few

pub expressions::emit-returns-in-Paren-clause-made : goal.expressions::emit-returns-in-Paren-clause-made
expressions::emit-returns-in-Paren-clause-made t c = rw (c.in-Paren.is, plain_paren c.in-Paren.token c.in-Paren.inner) (rw c.deref-in-Paren.ensures at c.emit.ensures.made)

pub expressions::emit-returns-in-Paren-clause-few : goal.expressions::emit-returns-in-Paren-clause-few
expressions::emit-returns-in-Paren-clause-few t c = rw (c.in-Paren.is, plain_paren c.in-Paren.token c.in-Paren.inner) (rw c.deref-in-Paren.ensures at c.emit.ensures.few)

pub expressions::emit-returns-in-Null-clause-made : goal.expressions::emit-returns-in-Null-clause-made
expressions::emit-returns-in-Null-clause-made t c = rw (c.in-Null.is, plain_null c.in-Null.token) c.put_null.ensures.made

pub expressions::emit-returns-in-Null-clause-few : goal.expressions::emit-returns-in-Null-clause-few
expressions::emit-returns-in-Null-clause-few t c = rw (c.in-Null.is, plain_null c.in-Null.token) c.put_null.ensures.few

pub expressions::emit-returns-in-EndOfFile-clause-made : goal.expressions::emit-returns-in-EndOfFile-clause-made
expressions::emit-returns-in-EndOfFile-clause-made t c = rw (c.in-EndOfFile.is, plain_end_of_file c.in-EndOfFile.token) c.put_constant-in-EndOfFile.ensures.made

pub expressions::emit-returns-in-EndOfFile-clause-few : goal.expressions::emit-returns-in-EndOfFile-clause-few
expressions::emit-returns-in-EndOfFile-clause-few t c = rw (c.in-EndOfFile.is, plain_end_of_file c.in-EndOfFile.token) c.put_constant-in-EndOfFile.ensures.few

pub expressions::emit_wanted-returns-clause-made : goal.expressions::emit_wanted-returns-clause-made
expressions::emit_wanted-returns-clause-made t c = rw (sym c.is_null_as.ensures ∙ c.if-is_null_as.false) (c.in_ok-i-2.ensures.made and_then (rw c.type_of.ensures at c.in_ok-converted.ensures.made))

pub places::emit_place-returns-in-Name-clause-made : goal.places::emit_place-returns-in-Name-clause-made
places::emit_place-returns-in-Name-clause-made t c = rw (c.in-Name.is, plain_name c.in-Name.token c.in-Name.name) (rw c.slot_at.ensures at c.put_variable.ensures.made)

pub places::emit_place-returns-in-Name-clause-few : goal.places::emit_place-returns-in-Name-clause-few
places::emit_place-returns-in-Name-clause-few t c = rw (c.in-Name.is, plain_name c.in-Name.token c.in-Name.name) (wider _ _ _ 2 5 c.put_variable.ensures.few (omega arith))

pub places::emit_place-returns-in-Paren-clause-made : goal.places::emit_place-returns-in-Paren-clause-made
places::emit_place-returns-in-Paren-clause-made t c = rw (c.in-Paren.is, plain_paren c.in-Paren.token c.in-Paren.inner) (rw c.deref.ensures at c.emit_place.ensures.made)

pub places::emit_place-returns-in-Paren-clause-few : goal.places::emit_place-returns-in-Paren-clause-few
places::emit_place-returns-in-Paren-clause-few t c = rw (c.in-Paren.is, plain_paren c.in-Paren.token c.in-Paren.inner) (rw c.deref.ensures at c.emit_place.ensures.few)

pub places::emit_place-returns-in-Postfix-clause-made : goal.places::emit_place-returns-in-Postfix-clause-made
places::emit_place-returns-in-Postfix-clause-made t c = rw (c.in-Postfix.is, plain_with_postfix c.in-Postfix.primary c.in-Postfix.operators) (rw (c.deref-in-Postfix.ensures, c.as_slice.ensures.value) at c.emit_postfix_place.ensures.made)

pub places::emit_place-returns-in-Postfix-clause-few : goal.places::emit_place-returns-in-Postfix-clause-few
places::emit_place-returns-in-Postfix-clause-few t c = rw (c.in-Postfix.is, plain_with_postfix c.in-Postfix.primary c.in-Postfix.operators) (rw (c.deref-in-Postfix.ensures, c.as_slice.ensures.value) at c.emit_postfix_place.ensures.few)

pub places::emit_place-returns-in_ok-i-in-Prefix-clause-made : goal.places::emit_place-returns-in_ok-i-in-Prefix-clause-made
places::emit_place-returns-in_ok-i-in-Prefix-clause-made t c = rw (c.in-Prefix.is, plain_prefix c.in-Prefix.token c.in-Prefix.operator c.in-Prefix.operand) (rw c.deref-in-Prefix.ensures at (c.in_ok-i-in-Prefix.ensures.made c.in-Prefix.token))

pub places::emit_place-returns-in_ok-i-in-Prefix-clause-few : goal.places::emit_place-returns-in_ok-i-in-Prefix-clause-few
places::emit_place-returns-in_ok-i-in-Prefix-clause-few t c = rw (c.in-Prefix.is, plain_prefix c.in-Prefix.token c.in-Prefix.operator c.in-Prefix.operand) (omega (arith, rw c.deref-in-Prefix.ensures at c.in_ok-i-in-Prefix.ensures.few))

pub places::emit_place-returns-in_ok-i-in-Comma-clause-made : goal.places::emit_place-returns-in_ok-i-in-Comma-clause-made
places::emit_place-returns-in_ok-i-in-Comma-clause-made t c = rw (c.in-Comma.is, plain_comma c.in-Comma.token c.in-Comma.operands) (rw c.as_slice-in-Comma.ensures.value at (c.in_ok-i-in-Comma.ensures.made c.in-Comma.token))

pub places::emit_place-returns-in_ok-i-in-Comma-clause-few : goal.places::emit_place-returns-in_ok-i-in-Comma-clause-few
places::emit_place-returns-in_ok-i-in-Comma-clause-few t c = rw (c.in-Comma.is, plain_comma c.in-Comma.token c.in-Comma.operands) (rw c.as_slice-in-Comma.ensures.value at c.in_ok-i-in-Comma.ensures.few)

pub places::emit_prefix_place-returns-in_ok-i-in-Indirection-clause-made : goal.places::emit_prefix_place-returns-in_ok-i-in-Indirection-clause-made
places::emit_prefix_place-returns-in_ok-i-in-Indirection-clause-made t c =
    λ token. rw c.in-Indirection.is (through_place (facts_in c.args.facts.now) (sites_in c.args.facts.now) token (plain_expr c.args.operand.now) _ _ _ _ _ _ c.in_ok-pointed-in-Indirection.ensures.made c.in_ok-i-in-Indirection.ensures.made)

pub places::emit_prefix_place-returns-in_ok-i-in_default-clause-made : goal.places::emit_prefix_place-returns-in_ok-i-in_default-clause-made
places::emit_prefix_place-returns-in_ok-i-in_default-clause-made t c =
    λ token. prefix_nowhere (facts_in c.args.facts.now) (sites_in c.args.facts.now) token c.args.operator (plain_expr c.args.operand.now) _ _ _ _ c.in_default.not-Indirection c.in_ok-i-in_default.ensures.made

pub places::emit_lone_place-returns-clause-made : goal.places::emit_lone_place-returns-clause-made
places::emit_lone_place-returns-clause-made t c = λ token. comma_nowhere_made (facts_in c.args.facts.now) (sites_in c.args.facts.now) token c.args.operands.now _ _ _ _ c.if-operands-eq1.false c.in_ok-i-2.ensures.made

pub operators::emit_assign-returns-in_ok-i-in-Plain-clause-made : goal.operators::emit_assign-returns-in_ok-i-in-Plain-clause-made
operators::emit_assign-returns-in_ok-i-in-Plain-clause-made t c =
    assign_plain (facts_in c.args.facts.now) (sites_in c.args.facts.now) c.args.token c.args.sign (plain_expr c.args.target.now) (plain_expr c.args.value.now) c.args.purpose _ _ _ _ _ _ _ _ _
    (sym (ap assignment_of c.in-Plain.is) ∙ c.assignment_by.ensures) c.in_ok-after.ensures.made c.in_ok-stored-in-Plain.ensures.made
    (rw c.type_of-left.ensures at c.in_ok-found-in-Plain.ensures.made) c.in_ok-i-in-Plain.ensures.made

pub operators::emit_assign-returns-in_ok-i-in-By-clause-made : goal.operators::emit_assign-returns-in_ok-i-in-By-clause-made
operators::emit_assign-returns-in_ok-i-in-By-clause-made t c =
    assign_by (facts_in c.args.facts.now) (sites_in c.args.facts.now) c.args.token c.args.sign (plain_expr c.args.target.now) (plain_expr c.args.value.now) c.args.purpose c.in-By.op _ _ _ _ _ _ _ _ _
    (sym (ap assignment_of c.in-By.is) ∙ c.assignment_by.ensures) c.in_ok-after.ensures.made
    (rw (c.operation_of-operation.ensures, c.type_of-left.ensures, c.type_of-right.ensures) at c.in_ok-changed-in-By.ensures.made)
    c.in_ok-found-in-By.ensures.made c.in_ok-i-in-By.ensures.made

pub operators::emit_prefix_value-returns-in_ok-i-in-Increment-clause-made : goal.operators::emit_prefix_value-returns-in_ok-i-in-Increment-clause-made
operators::emit_prefix_value-returns-in_ok-i-in-Increment-clause-made t c = rw c.in-Increment.is (c.in_ok-i-in-Increment.ensures.made and_then (rw c.type_of-of.ensures at c.in_ok-stepped-in-Increment.ensures.made))

pub operators::emit_prefix_value-returns-in_ok-i-in-Decrement-clause-made : goal.operators::emit_prefix_value-returns-in_ok-i-in-Decrement-clause-made
operators::emit_prefix_value-returns-in_ok-i-in-Decrement-clause-made t c = rw c.in-Decrement.is (c.in_ok-i-in-Decrement.ensures.made and_then (rw c.type_of-of.ensures at c.in_ok-stepped-in-Decrement.ensures.made))

pub operators::emit_prefix_value-returns-in_ok-i-in-Address-clause-made : goal.operators::emit_prefix_value-returns-in_ok-i-in-Address-clause-made
operators::emit_prefix_value-returns-in_ok-i-in-Address-clause-made t c = rw c.in-Address.is c.in_ok-i-in-Address.ensures.made

pub operators::emit_prefix_value-returns-in_ok-i-in-Plus-clause-made : goal.operators::emit_prefix_value-returns-in_ok-i-in-Plus-clause-made
operators::emit_prefix_value-returns-in_ok-i-in-Plus-clause-made t c = rw c.in-Plus.is (c.in_ok-i-in-Plus.ensures.made and_then (rw c.type_at-want.ensures at c.in_ok-handed-in-Plus.ensures.made))

pub operators::emit_prefix_value-returns-in_ok-i-in-Minus-clause-made : goal.operators::emit_prefix_value-returns-in_ok-i-in-Minus-clause-made
operators::emit_prefix_value-returns-in_ok-i-in-Minus-clause-made t c = rw c.in-Minus.is (c.in_ok-i-in-Minus.ensures.made and_then (rw c.type_of-of.ensures at c.in_ok-sole-in-Minus.ensures.made))

pub operators::emit_prefix_value-returns-in_ok-i-in-Complement-clause-made : goal.operators::emit_prefix_value-returns-in_ok-i-in-Complement-clause-made
operators::emit_prefix_value-returns-in_ok-i-in-Complement-clause-made t c = rw c.in-Complement.is (c.in_ok-i-in-Complement.ensures.made and_then (rw c.type_of-of.ensures at c.in_ok-sole-in-Complement.ensures.made))

pub operators::emit_prefix_value-returns-in_ok-i-in_default-clause-made : goal.operators::emit_prefix_value-returns-in_ok-i-in_default-clause-made
operators::emit_prefix_value-returns-in_ok-i-in_default-clause-made t c =
    value_stuck_made (facts_in c.args.facts.now) (sites_in c.args.facts.now) c.args.token c.args.operator (type_of (facts_in c.args.facts.now) (plain_expr c.args.operand.now)) (λ G. emitted_expression G (facts_in c.args.facts.now) (sites_in c.args.facts.now) (plain_expr c.args.operand.now)) _ _ _ _
    c.in_default.not-Increment c.in_default.not-Decrement c.in_default.not-Address c.in_default.not-Plus c.in_default.not-Minus c.in_default.not-Complement
    c.in_ok-i-in_default.ensures.made

pub operators::emit_negation-returns-clause-made : goal.operators::emit_negation-returns-clause-made
operators::emit_negation-returns-clause-made t c = c.in_ok-i.ensures.made and_then row (node.Sole unary.Not 0) _ c.in_ok-sole.ensures.number c.in_ok-sole.ensures.added refl

pub operators::emit_not-returns-in_ok-i-in-Truth-clause-made : goal.operators::emit_not-returns-in_ok-i-in-Truth-clause-made
operators::emit_not-returns-in_ok-i-in-Truth-clause-made t c = rw c.in-Truth.is (negated_truth (facts_in c.args.facts.now) (sites_in c.args.facts.now) (λ G. emitted_expression G (facts_in c.args.facts.now) (sites_in c.args.facts.now) (plain_expr c.args.operand.now)) (λ p i k w h. value_forks p (facts_in c.args.facts.now) (sites_in c.args.facts.now) (plain_expr c.args.operand.now) i k w h) _ _ _ c.in-Truth.yes c.in-Truth.no c.in_ok-i-in-Truth.ensures.made)

pub operators::emit_not-returns-in_ok-i-in_default-clause-made : goal.operators::emit_not-returns-in_ok-i-in_default-clause-made
operators::emit_not-returns-in_ok-i-in_default-clause-made t c =
    turned_made (facts_in c.args.facts.now) (sites_in c.args.facts.now) (λ G. emitted_expression G (facts_in c.args.facts.now) (sites_in c.args.facts.now) (plain_expr c.args.operand.now)) c.args.purpose _ _ _ _ _ c.in_default.not-Truth c.in_ok-after-in_default.ensures.made c.in_ok-i-in_default.ensures.made

pub operators::emit_prefix-returns-in_ok-i-in-SizeOf-clause-made : goal.operators::emit_prefix-returns-in_ok-i-in-SizeOf-clause-made
operators::emit_prefix-returns-in_ok-i-in-SizeOf-clause-made t c = rw c.in-SizeOf.is (rw (c.cells_at-cells.ensures, c.token_of.ensures) at c.in_ok-i-in-SizeOf.ensures.made)

pub operators::emit_prefix-returns-in_ok-i-in-Indirection-clause-made : goal.operators::emit_prefix-returns-in_ok-i-in-Indirection-clause-made
operators::emit_prefix-returns-in_ok-i-in-Indirection-clause-made t c =
    rw c.in-Indirection.is
    (through_made ((facts_in c.args.facts.now).type_at c.args.token) (λ G. (emitted_expression G (facts_in c.args.facts.now) (sites_in c.args.facts.now) (plain_expr c.args.operand.now)).value) c.args.purpose _ _ _ _ _
    (rw c.type_at-of.ensures at c.in_ok-through-in-Indirection.ensures.made) c.in_ok-i-in-Indirection.ensures.made)

pub operators::emit_prefix-returns-in_ok-i-in-Not-clause-made : goal.operators::emit_prefix-returns-in_ok-i-in-Not-clause-made
operators::emit_prefix-returns-in_ok-i-in-Not-clause-made t c = rw c.in-Not.is c.in_ok-i-in-Not.ensures.made

pub operators::emit_prefix-returns-in_ok-i-in_default-clause-made : goal.operators::emit_prefix-returns-in_ok-i-in_default-clause-made
operators::emit_prefix-returns-in_ok-i-in_default-clause-made t c =
    prefixed_made (facts_in c.args.facts.now) (sites_in c.args.facts.now) c.args.token c.args.operator (type_of (facts_in c.args.facts.now) (plain_expr c.args.operand.now)) ((facts_in c.args.facts.now).cells_at (token_of (plain_expr c.args.operand.now)))
    (λ G. emitted_expression G (facts_in c.args.facts.now) (sites_in c.args.facts.now) (plain_expr c.args.operand.now)) c.args.purpose _ _ _ _ _ (valued_else c.args.operator c.in_default.not-SizeOf c.in_default.not-Indirection c.in_default.not-Not)
    c.in_ok-after-in_default.ensures.made c.in_ok-i-in_default.ensures.made

pub choices::emit_handed-returns-clause-made : goal.choices::emit_handed-returns-clause-made
choices::emit_handed-returns-clause-made t c = rw (sym c.is_null_as.ensures ∙ c.if-is_null_as.false) (c.in_ok-i-2.ensures.made and_then c.in_ok-handed.ensures.made)

pub choices::emit_cast-returns-then-not-is_void-clause-made : goal.choices::emit_cast-returns-then-not-is_void-clause-made
choices::emit_cast-returns-then-not-is_void-clause-made t c =
    cast_value (is_null_as c.args.want (plain_expr c.args.operand.now)) c.args.want (λ G. emitted_expression G (facts_in c.args.facts.now) (sites_in c.args.facts.now) (plain_expr c.args.operand.now)) c.args.purpose _ _ _ _ _ (search rules) c.in_ok-after.ensures.made c.in_ok-i.ensures.made

pub choices::emit_cast-returns-in_ok-i-in-Effect-clause-made : goal.choices::emit_cast-returns-in_ok-i-in-Effect-clause-made
choices::emit_cast-returns-in_ok-i-in-Effect-clause-made t c =
    rw c.in-Effect.is
    (cast_effect (is_null_as c.args.want (plain_expr c.args.operand.now)) c.args.want (λ G. emitted_expression G (facts_in c.args.facts.now) (sites_in c.args.facts.now) (plain_expr c.args.operand.now)) _ _ _ c.in-Effect.next (search rules) c.in_ok-i-in-Effect.ensures.made)

pub choices::emit_cast-returns-in_ok-i-in_default-clause-made : goal.choices::emit_cast-returns-in_ok-i-in_default-clause-made
choices::emit_cast-returns-in_ok-i-in_default-clause-made t c =
    cast_nothing (is_null_as c.args.want (plain_expr c.args.operand.now)) c.args.want (λ G. emitted_expression G (facts_in c.args.facts.now) (sites_in c.args.facts.now) (plain_expr c.args.operand.now)) c.args.purpose _ _ _ (search rules) c.in_default.not-Effect
    c.in_ok-i-in_default.ensures.made

pub choices::emit_arm_value-returns-clause-made : goal.choices::emit_arm_value-returns-clause-made
choices::emit_arm_value-returns-clause-made t c =
    arm_value_made (facts_in c.args.facts.now) (sites_in c.args.facts.now) c.args.want (plain_expr c.args.x.now) _ _ _ _ _ _ (sym c.is_null_as.ensures ∙ c.if-is_null_as.false) (rw c.type_of.ensures at c.in_ok-arm.ensures.made) c.in_ok-i-2.ensures.made

pub choices::emit_arm_effect-returns-clause-made : goal.choices::emit_arm_effect-returns-clause-made
choices::emit_arm_effect-returns-clause-made t c =
    arm_dropped (is_null_as c.args.want (plain_expr c.args.x.now)) (type_of (facts_in c.args.facts.now) (plain_expr c.args.x.now)) c.args.want (λ G. emitted_expression G (facts_in c.args.facts.now) (sites_in c.args.facts.now) (plain_expr c.args.x.now)) _ _ _ _ _ _
    (sym c.is_void.ensures ∙ c.if-is_void.false) c.in_ok-drop.ensures.number c.in_ok-drop.ensures.added c.in_ok-i-2.ensures.made

pub choices::emit_chosen-returns-clause-made : goal.choices::emit_chosen-returns-clause-made
choices::emit_chosen-returns-clause-made t c =
    chosen_made (facts_in c.args.facts.now) (sites_in c.args.facts.now) c.args.token (plain_expr c.args.condition.now) (plain_expr c.args.first.now) (plain_expr c.args.second.now) _ _ _ _ _ _ _ c.args.next
    (rw c.type_at-want.ensures at c.in_ok-no.ensures.made) (rw c.type_at-want.ensures at c.in_ok-yes.ensures.made) c.in_ok-i.ensures.made

pub choices::emit_conditional-returns-in_ok-i-in-Effect-clause-made : goal.choices::emit_conditional-returns-in_ok-i-in-Effect-clause-made
choices::emit_conditional-returns-in_ok-i-in-Effect-clause-made t c =
    rw c.in-Effect.is
    (conditional_effect (facts_in c.args.facts.now) (sites_in c.args.facts.now) c.args.token (plain_expr c.args.condition.now) (plain_expr c.args.first.now) (plain_expr c.args.second.now) c.in-Effect.next _ _ _ _ _ _ _
    (rw c.type_at-want.ensures at c.in_ok-no-in-Effect.ensures.made) (rw c.type_at-want.ensures at c.in_ok-yes-in-Effect.ensures.made) c.in_ok-i-in-Effect.ensures.made)

pub choices::emit_conditional-returns-in_ok-i-in_default-clause-made : goal.choices::emit_conditional-returns-in_ok-i-in_default-clause-made
choices::emit_conditional-returns-in_ok-i-in_default-clause-made t c =
    conditional_taken (facts_in c.args.facts.now) (sites_in c.args.facts.now) c.args.token (plain_expr c.args.condition.now) (plain_expr c.args.first.now) (plain_expr c.args.second.now) c.args.purpose _ _ _ _ _ c.in_default.not-Effect c.in_ok-after-in_default.ensures.made c.in_ok-i-in_default.ensures.made

pub choices::emit_last-returns-then-operands-eq0-clause-made : goal.choices::emit_last-returns-then-operands-eq0-clause-made
choices::emit_last-returns-then-operands-eq0-clause-made t c = none_made (facts_in c.args.facts.now) (sites_in c.args.facts.now) c.args.purpose c.args.operands.now _ _ _ _ _ c.if-operands-eq0.true c.in_ok-after.ensures.made c.in_ok-i.ensures.made

pub choices::emit_last-loop-place-init : goal.choices::emit_last-loop-place-init
choices::emit_last-loop-place-init t c =
    let few : length c.args.operands.now ≡ length c.args.operands.now - 1 + 1 = omega (arith, c.if-operands-eq0.false) in (
      omega (arith, few),
      last_made (facts_in c.args.facts.now) (sites_in c.args.facts.now) c.args.purpose c.args.operands.now (length c.args.operands.now - 1) c.index-operands-last.result _ _ _ few c.index-operands-last.is c.in_ok-ended.ensures.made,
      omega (arith, c.in_ok-ended.ensures.few, exprs_more (sites_in c.args.facts.now) 0 c.args.operands.now (length c.args.operands.now) (length c.args.operands.now - 1) c.index-operands-last.result few (omega (arith, few)) c.index-operands-last.is),
    )

pub choices::emit_last-loop-place-preserved : goal.choices::emit_last-loop-place-preserved
choices::emit_last-loop-place-preserved t c =
    let next : c.loop-place.place ≡ c.loop-place.place - 1 + 1 = omega (arith, c.loop-place-test.true) in (
      omega (arith, c.loop-place.invariant.0),
      comma_step (facts_in c.args.facts.now) (sites_in c.args.facts.now) c.args.purpose c.args.operands.now c.loop-place.place (c.loop-place.place - 1) c.index-operands-place.result _ _ _ _ _ next
          c.loop-place.invariant.0 c.index-operands-place.is c.loop-place.invariant.1 c.in_ok-entry.ensures.made,
      omega (
        arith,
        c.in_ok-entry.ensures.few,
        c.loop-place.invariant.2,
        exprs_more (sites_in c.args.facts.now) 0 c.args.operands.now c.loop-place.place (c.loop-place.place - 1) c.index-operands-place.result next
            (omega (arith, next, c.loop-place.invariant.0)) c.index-operands-place.is,
      ),
    )

pub choices::emit_last-returns-clause-made : goal.choices::emit_last-returns-clause-made
choices::emit_last-returns-clause-made t c = lasts_whole (facts_in c.args.facts.now) (sites_in c.args.facts.now) c.args.purpose c.args.operands.now c.loop-place.place _ _ _ (omega (arith, c.loop-place-test.false)) c.loop-place.invariant.1

pub choices::emit_last-returns-clause-few : goal.choices::emit_last-returns-clause-few
choices::emit_last-returns-clause-few t c =
    omega (arith, c.loop-place.invariant.2, exprs_all (sites_in c.args.facts.now) 0 c.args.operands.now c.loop-place.place (omega (arith, c.loop-place-test.false)))

pub conditions::emit_condition-returns-in_ok-i-in-None-clause-made : goal.conditions::emit_condition-returns-in_ok-i-in-None-clause-made
conditions::emit_condition-returns-in_ok-i-in-None-clause-made t c = unsited_made (facts_in c.args.facts.now) (sites_in c.args.facts.now) c.args.token (plain_expr c.args.x.now) c.branch_at.result c.branch_at.ensures _ _ _ _ _ c.in-None.is c.in_ok-i-in-None.ensures.made

pub conditions::emit_condition-returns-in_ok-i-in-Some-clause-made : goal.conditions::emit_condition-returns-in_ok-i-in-Some-clause-made
conditions::emit_condition-returns-in_ok-i-in-Some-clause-made t c =
    sited_made (facts_in c.args.facts.now) (sites_in c.args.facts.now) c.args.token (plain_expr c.args.x.now) c.branch_at.result c.branch_at.ensures c.in-Some.site _ _ _ _ _ _ _ _ _ c.in-Some.is
    c.in_ok-fork-in-Some.ensures.number c.in_ok-fork-in-Some.ensures.added c.in_ok-mark-in-Some.ensures.number c.in_ok-mark-in-Some.ensures.added c.in_ok-i-in-Some.ensures.made

pub conditions::emit_condition-returns-in_ok-i-in-Some-clause-few : goal.conditions::emit_condition-returns-in_ok-i-in-Some-clause-few
conditions::emit_condition-returns-in_ok-i-in-Some-clause-few t c =
    let one : branch_visits (sites_in c.args.facts.now) c.args.token ≡ 1 = ap (λ s. length (site_list s)) (sym c.branch_at.ensures ∙ c.in-Some.is) in
    omega (arith, one, c.in_ok-fork-in-Some.ensures.one, c.in_ok-mark-in-Some.ensures.one, c.in_ok-i-in-Some.ensures.few)

pub postfix::emit_spots-returns-clause-made : goal.postfix::emit_spots-returns-clause-made
postfix::emit_spots-returns-clause-made t c =
    (rw c.is_place-known.ensures at c.in_ok-i.ensures.made) and_then (rw (c.is_place-known.ensures, c.type_of-of.ensures) at c.in_ok-done.ensures.made)

pub postfix::emit_postfix-returns-then-ends_as_place-clause-made : goal.postfix::emit_postfix-returns-then-ends_as_place-clause-made
postfix::emit_postfix-returns-then-ends_as_place-clause-made t c =
    postfix_place (facts_in c.args.facts.now) (sites_in c.args.facts.now) (plain_expr c.args.primary.now) (plain_operators c.args.operators.now) c.args.purpose _ _ _ _ _ (ap (λ k. ends_as_place k (plain_operators c.args.operators.now)) (sym c.is_place-known.ensures) ∙ sym c.ends_as_place.ensures ∙ c.if-ends_as_place.true)
    (rw (c.type_at-whole.ensures, c.postfix_token-token.ensures, c.token_of-first.ensures) at c.in_ok-after.ensures.made) c.in_ok-i.ensures.made

pub postfix::emit_postfix-returns-clause-made : goal.postfix::emit_postfix-returns-clause-made
postfix::emit_postfix-returns-clause-made t c =
    postfix_value (facts_in c.args.facts.now) (sites_in c.args.facts.now) (plain_expr c.args.primary.now) (plain_operators c.args.operators.now) c.args.purpose _ _ _ _ _ (ap (λ k. ends_as_place k (plain_operators c.args.operators.now)) (sym c.is_place-known.ensures) ∙ sym c.ends_as_place.ensures ∙ c.if-ends_as_place.false) c.in_ok-after-2.ensures.made
    (rw c.is_taken-taken.ensures at c.in_ok-i-2.ensures.made)

pub postfix::emit_postfix_place-returns-then-ends_as_place-clause-made : goal.postfix::emit_postfix_place-returns-then-ends_as_place-clause-made
postfix::emit_postfix_place-returns-then-ends_as_place-clause-made t c = behind_place (facts_in c.args.facts.now) (sites_in c.args.facts.now) (plain_expr c.args.primary.now) (plain_operators c.args.operators.now) _ _ _ _ (ap (λ k. ends_as_place k (plain_operators c.args.operators.now)) (sym c.is_place-known.ensures) ∙ sym c.ends_as_place.ensures ∙ c.if-ends_as_place.true) c.in_ok-i.ensures.made

pub postfix::emit_postfix_place-returns-clause-made : goal.postfix::emit_postfix_place-returns-clause-made
postfix::emit_postfix_place-returns-clause-made t c = behind_nowhere (facts_in c.args.facts.now) (sites_in c.args.facts.now) (plain_expr c.args.primary.now) (plain_operators c.args.operators.now) _ _ _ _ (ap (λ k. ends_as_place k (plain_operators c.args.operators.now)) (sym c.is_place-known.ensures) ∙ sym c.ends_as_place.ensures ∙ c.if-ends_as_place.false) c.in_ok-i-2.ensures.made

pub postfix::emit_operator-returns-in_ok-i-in-Index-clause-made : goal.postfix::emit_operator-returns-in_ok-i-in-Index-clause-made
postfix::emit_operator-returns-in_ok-i-in-Index-clause-made t c =
    λ rest. rw (c.in-Index.is, plain_index_before c.in-Index.token c.in-Index.index rest)
    (c.in_ok-i-in-Index.ensures.made and_then c.in_ok-found-in-Index.ensures.made and_then (rw (c.operation_of-operation.ensures, c.type_of-right.ensures) at c.in_ok-added-in-Index.ensures.made))

pub postfix::emit_operator-returns-in_ok-i-in-Index-clause-few : goal.postfix::emit_operator-returns-in_ok-i-in-Index-clause-few
postfix::emit_operator-returns-in_ok-i-in-Index-clause-few t c = rw (c.in-Index.is, plain_index_before c.in-Index.token c.in-Index.index e.no_postfix) (omega (arith, c.in_ok-added-in-Index.ensures.few, c.in_ok-found-in-Index.ensures.few, c.in_ok-i-in-Index.ensures.few))

pub postfix::emit_operator-returns-in_ok-i-in-Member-clause-made : goal.postfix::emit_operator-returns-in_ok-i-in-Member-clause-made
postfix::emit_operator-returns-in_ok-i-in-Member-clause-made t c =
    λ rest. rw (c.in-Member.is, plain_member_before c.in-Member.token c.in-Member.name rest) (rw c.offset_at-offset.ensures at c.in_ok-i-in-Member.ensures.made)

pub postfix::emit_operator-returns-in_ok-i-in-Member-clause-few : goal.postfix::emit_operator-returns-in_ok-i-in-Member-clause-few
postfix::emit_operator-returns-in_ok-i-in-Member-clause-few t c = rw (c.in-Member.is, plain_member_before c.in-Member.token c.in-Member.name e.no_postfix) (omega (arith, c.in_ok-i-in-Member.ensures.few))

pub postfix::emit_operator-returns-in_ok-i-in-Arrow-clause-made : goal.postfix::emit_operator-returns-in_ok-i-in-Arrow-clause-made
postfix::emit_operator-returns-in_ok-i-in-Arrow-clause-made t c =
    λ rest. rw (c.in-Arrow.is, plain_arrow_before c.in-Arrow.token c.in-Arrow.name rest)
    (c.in_ok-i-in-Arrow.ensures.made and_then (rw c.offset_at-distance.ensures at c.in_ok-member-in-Arrow.ensures.made))

pub postfix::emit_operator-returns-in_ok-i-in-Arrow-clause-few : goal.postfix::emit_operator-returns-in_ok-i-in-Arrow-clause-few
postfix::emit_operator-returns-in_ok-i-in-Arrow-clause-few t c = rw (c.in-Arrow.is, plain_arrow_before c.in-Arrow.token c.in-Arrow.name e.no_postfix) (omega (arith, c.in_ok-member-in-Arrow.ensures.few, c.in_ok-i-in-Arrow.ensures.few))

pub postfix::emit_operator-returns-in_ok-i-in-Increment-clause-made : goal.postfix::emit_operator-returns-in_ok-i-in-Increment-clause-made
postfix::emit_operator-returns-in_ok-i-in-Increment-clause-made t c = λ rest. rw (c.in-Increment.is, plain_increment_before c.in-Increment.token rest) c.in_ok-i-in-Increment.ensures.made

pub postfix::emit_operator-returns-in_ok-i-in-Increment-clause-few : goal.postfix::emit_operator-returns-in_ok-i-in-Increment-clause-few
postfix::emit_operator-returns-in_ok-i-in-Increment-clause-few t c = rw (c.in-Increment.is, plain_increment_before c.in-Increment.token e.no_postfix) (omega (arith, c.in_ok-i-in-Increment.ensures.few))

pub postfix::emit_operator-returns-in_ok-i-in-Decrement-clause-made : goal.postfix::emit_operator-returns-in_ok-i-in-Decrement-clause-made
postfix::emit_operator-returns-in_ok-i-in-Decrement-clause-made t c = λ rest. rw (c.in-Decrement.is, plain_decrement_before c.in-Decrement.token rest) c.in_ok-i-in-Decrement.ensures.made

pub postfix::emit_operator-returns-in_ok-i-in-Decrement-clause-few : goal.postfix::emit_operator-returns-in_ok-i-in-Decrement-clause-few
postfix::emit_operator-returns-in_ok-i-in-Decrement-clause-few t c = rw (c.in-Decrement.is, plain_decrement_before c.in-Decrement.token e.no_postfix) (omega (arith, c.in_ok-i-in-Decrement.ensures.few))

pub postfix::emit_behind-loop-place-init : goal.postfix::emit_behind-loop-place-init
postfix::emit_behind-loop-place-init t c = (omega arith, behind_none (facts_in c.args.facts.now) (sites_in c.args.facts.now) c.args.taken c.args.known c.args.of c.args.operators.now _ _, omega arith)

pub postfix::emit_behind-loop-place-preserved : goal.postfix::emit_behind-loop-place-preserved
postfix::emit_behind-loop-place-preserved t c =
    let next : c.loop-place.place ≡ c.loop-place.place - 1 + 1 = omega (arith, c.loop-place-test.true) in
    let low : c.loop-place.place - 1 < length c.args.operators.now = omega (arith, c.loop-place.invariant.0, c.loop-place-test.true) in (
      omega (arith, low),
      behind_step (facts_in c.args.facts.now) (sites_in c.args.facts.now) c.args.taken c.args.known c.args.of c.args.operators.now c.loop-place.place (c.loop-place.place - 1) c.index-operators-place.result _ _ _ _ _ _
          next low c.index-operators-place.is c.loop-place.invariant.1
          (rw (c.is_used-here.ensures, c.place_before-placed.ensures, c.type_behind-before.ensures, sym next) at
          (c.in_ok-entry.ensures.made (plain_operators (drop c.loop-place.place c.args.operators.now)))),
      omega (
        arith,
        c.in_ok-entry.ensures.few,
        c.loop-place.invariant.2,
        postfix_more (sites_in c.args.facts.now) c.args.operators.now c.loop-place.place (c.loop-place.place - 1) c.index-operators-place.result next low c.index-operators-place.is,
      ),
    )

pub postfix::emit_behind-returns-clause-made : goal.postfix::emit_behind-returns-clause-made
postfix::emit_behind-returns-clause-made t c = behind_whole (facts_in c.args.facts.now) (sites_in c.args.facts.now) c.args.taken c.args.known c.args.of c.args.operators.now c.loop-place.place _ _ _ _ (omega (arith, c.loop-place-test.false)) c.loop-place.invariant.1

pub postfix::emit_behind-returns-clause-few : goal.postfix::emit_behind-returns-clause-few
postfix::emit_behind-returns-clause-few t c =
    omega (arith, c.loop-place.invariant.2, postfix_all (sites_in c.args.facts.now) c.args.operators.now c.loop-place.place (omega (arith, c.loop-place-test.false)))

pub calls::emit_arguments-loop-place-init : goal.calls::emit_arguments-loop-place-init
calls::emit_arguments-loop-place-init t c =
    (omega arith, arguments_none (facts_in c.args.facts.now) (sites_in c.args.facts.now) _ c.args.arguments.now _ _, omega arith)

pub calls::emit_arguments-loop-place-preserved : goal.calls::emit_arguments-loop-place-preserved
calls::emit_arguments-loop-place-preserved t c =
    let next : c.loop-place.place ≡ c.loop-place.place - 1 + 1 = omega (arith, c.loop-place-test.true) in
    let low : c.loop-place.place - 1 < length c.args.arguments.now = omega (arith, c.loop-place.invariant.0, c.loop-place-test.true) in (
      omega (arith, low),
      arguments_step (facts_in c.args.facts.now) (sites_in c.args.facts.now) (wanted_types c.args.wanted) c.args.arguments.now c.loop-place.place
          (c.loop-place.place - 1)
          c.index-arguments-place.result _ _ _ _ _ _ _ next low c.index-arguments-place.is c.type_wanted-want.ensures c.loop-place.invariant.1
          c.in_ok-entry.ensures.made,
      omega (
        arith,
        c.in_ok-entry.ensures.few,
        c.loop-place.invariant.2,
        exprs_more (sites_in c.args.facts.now) 3 c.args.arguments.now c.loop-place.place (c.loop-place.place - 1) c.index-arguments-place.result next low c.index-arguments-place.is,
      ),
    )

pub calls::emit_arguments-returns-clause-few : goal.calls::emit_arguments-returns-clause-few
calls::emit_arguments-returns-clause-few t c =
    omega (arith, c.loop-place.invariant.2, exprs_all (sites_in c.args.facts.now) 3 c.args.arguments.now c.loop-place.place (omega (arith, c.loop-place-test.false)))

pub calls::emit_call-returns-then-is_refused-clause-made : goal.calls::emit_call-returns-then-is_refused-clause-made
calls::emit_call-returns-then-is_refused-clause-made t c =
    refused_made (facts_in c.args.facts.now) (sites_in c.args.facts.now) c.args.token c.args.name.now _ (plain_exprs c.args.arguments.now) _ c.args.purpose
    c.called_as-called.ensures c.giving_of-giving.ensures _ _ _ _ (sym c.if-is_refused.ensures) c.in_ok-i.ensures.made

pub calls::emit_call-returns-then-not-fits-clause-made : goal.calls::emit_call-returns-then-not-fits-clause-made
calls::emit_call-returns-then-not-fits-clause-made t c =
    unfit_made (facts_in c.args.facts.now) (sites_in c.args.facts.now) c.args.token c.args.name.now _ (plain_exprs c.args.arguments.now) _ c.args.purpose
    c.called_as-called.ensures c.giving_of-giving.ensures _ _ _ _ _ _ _ (sym c.if-is_refused.ensures) c.in_ok-after.ensures.made c.in_ok-unfit.ensures.made
    (sym c.if-not-fits.ensures) c.in_ok-i-2.ensures.made

pub calls::emit_call-returns-clause-made : goal.calls::emit_call-returns-clause-made
calls::emit_call-returns-clause-made t c =
    call_made (facts_in c.args.facts.now) (sites_in c.args.facts.now) c.args.token c.args.name.now _ (plain_exprs c.args.arguments.now) _ c.args.purpose
    c.called_as-called.ensures c.giving_of-giving.ensures (wanted_types c.wanted_by-wanted.result) (plain_exprs c.passed.result.now) _ _ _ _ _ _ _
    (sym c.if-is_refused.ensures) c.in_ok-after.ensures.made c.in_ok-acts.ensures.made
    (sym c.if-not-fits.ensures) c.wanted_by-wanted.ensures c.passed.ensures c.in_ok-i-3.ensures.made

pub calls::emit_call-returns-clause-few : goal.calls::emit_call-returns-clause-few
calls::emit_call-returns-clause-few t c =
    omega (
      arith,
      c.in_ok-after.ensures.few,
      c.in_ok-acts.ensures.few,
      c.in_ok-i-3.ensures.few,
      ap (exprs_room (sites_in c.args.facts.now) 3) c.passed.ensures,
      passed_room (sites_in c.args.facts.now) c.called_as-called.result (plain_exprs c.args.arguments.now),
    )

pub chains::emit_link-returns-in_ok-i-in-Both-clause-made : goal.chains::emit_link-returns-in_ok-i-in-Both-clause-made
chains::emit_link-returns-in_ok-i-in-Both-clause-made t c =
    linked_by (facts_in c.args.facts.now) (sites_in c.args.facts.now) tree.Both c.args.left c.args.link.now.token c.args.link.now.sign (plain_expr c.args.link.now.operand) _ _ _ _ (sym (ap joint_of c.in-Both.is) ∙ c.joint_by.ensures)
    (both_made (facts_in c.args.facts.now) (sites_in c.args.facts.now) c.args.link.now.token c.args.left (operand_type (is_null_beside (binary_of c.args.link.now.sign) c.args.left (plain_expr c.args.link.now.operand)) (type_of (facts_in c.args.facts.now) (plain_expr c.args.link.now.operand))) (λ G. NullOr G (is_null_beside (binary_of c.args.link.now.sign) c.args.left (plain_expr c.args.link.now.operand)) (emitted_expression G (facts_in c.args.facts.now) (sites_in c.args.facts.now) (plain_expr c.args.link.now.operand))) _ _ _ _ _ _ _ _ c.in_ok-flagged-in-Both.ensures.made
    (rw (c.is_null_beside-is_null.ensures, c.binary_of-binary.ensures) at c.in_ok-right-in-Both.ensures.made) c.in_ok-i-in-Both.ensures.made)

pub chains::emit_link-returns-in_ok-i-in-Either-clause-made : goal.chains::emit_link-returns-in_ok-i-in-Either-clause-made
chains::emit_link-returns-in_ok-i-in-Either-clause-made t c =
    linked_by (facts_in c.args.facts.now) (sites_in c.args.facts.now) tree.Either c.args.left c.args.link.now.token c.args.link.now.sign (plain_expr c.args.link.now.operand) _ _ _ _ (sym (ap joint_of c.in-Either.is) ∙ c.joint_by.ensures)
    (either_links (facts_in c.args.facts.now) (sites_in c.args.facts.now) c.args.link.now.token c.args.left (operand_type (is_null_beside (binary_of c.args.link.now.sign) c.args.left (plain_expr c.args.link.now.operand)) (type_of (facts_in c.args.facts.now) (plain_expr c.args.link.now.operand))) (λ G. NullOr G (is_null_beside (binary_of c.args.link.now.sign) c.args.left (plain_expr c.args.link.now.operand)) (emitted_expression G (facts_in c.args.facts.now) (sites_in c.args.facts.now) (plain_expr c.args.link.now.operand))) _ _ _ _ _ _ _ _ c.in_ok-flagged-in-Either.ensures.made
    (rw (c.is_null_beside-is_null.ensures, c.binary_of-binary.ensures) at c.in_ok-right-in-Either.ensures.made) c.in_ok-i-in-Either.ensures.made)

pub chains::emit_link-returns-in_ok-i-in-Computes-clause-made : goal.chains::emit_link-returns-in_ok-i-in-Computes-clause-made
chains::emit_link-returns-in_ok-i-in-Computes-clause-made t c =
    linked_by (facts_in c.args.facts.now) (sites_in c.args.facts.now) (tree.Computes c.in-Computes.op) c.args.left c.args.link.now.token c.args.link.now.sign (plain_expr c.args.link.now.operand) _ _ _ _ (sym (ap joint_of c.in-Computes.is) ∙ c.joint_by.ensures)
    (computes_made (facts_in c.args.facts.now) (sites_in c.args.facts.now) c.args.link.now.token c.args.left (operand_type (is_null_beside (binary_of c.args.link.now.sign) c.args.left (plain_expr c.args.link.now.operand)) (type_of (facts_in c.args.facts.now) (plain_expr c.args.link.now.operand))) (λ G. NullOr G (is_null_beside (binary_of c.args.link.now.sign) c.args.left (plain_expr c.args.link.now.operand)) (emitted_expression G (facts_in c.args.facts.now) (sites_in c.args.facts.now) (plain_expr c.args.link.now.operand))) c.in-Computes.op _ _ _ _ _ _
    (rw (c.operation_of-operation.ensures, c.operand_type-right.ensures, c.type_of-own.ensures, c.is_null_beside-is_null.ensures, c.binary_of-binary.ensures) at c.in_ok-done-in-Computes.ensures.made)
    (rw (c.is_null_beside-is_null.ensures, c.binary_of-binary.ensures) at c.in_ok-i-in-Computes.ensures.made))

pub chains::emit_link-returns-in_ok-i-in-Unjoined-clause-made : goal.chains::emit_link-returns-in_ok-i-in-Unjoined-clause-made
chains::emit_link-returns-in_ok-i-in-Unjoined-clause-made t c =
    linked_by (facts_in c.args.facts.now) (sites_in c.args.facts.now) tree.Unjoined c.args.left c.args.link.now.token c.args.link.now.sign (plain_expr c.args.link.now.operand) _ _ _ _ (sym (ap joint_of c.in-Unjoined.is) ∙ c.joint_by.ensures)
    (surely_made (λ G. Stuck G) _ _ _ _ c.in_ok-i-in-Unjoined.ensures.made)

pub chains::emit_links-loop-place-init : goal.chains::emit_links-loop-place-init
chains::emit_links-loop-place-init t c =
    (omega arith, links_none (facts_in c.args.facts.now) (sites_in c.args.facts.now) c.args.left _ c.args.links.now _ _, omega arith)

pub chains::emit_links-loop-place-preserved : goal.chains::emit_links-loop-place-preserved
chains::emit_links-loop-place-preserved t c =
    let next : c.loop-place.place ≡ c.loop-place.place - 1 + 1 = omega (arith, c.loop-place-test.true) in
    let low : c.loop-place.place - 1 < length c.args.links.now = omega (arith, c.loop-place.invariant.0, c.loop-place-test.true) in (
      omega (arith, low),
      links_step (facts_in c.args.facts.now) (sites_in c.args.facts.now) c.args.left c.args.links.now c.loop-place.place (c.loop-place.place - 1) c.index-links-place.result _ _ _ _ _ _ next low c.index-links-place.is
          c.loop-place.invariant.1 (rw c.type_before-before.ensures at c.in_ok-entry.ensures.made),
      omega (
        arith,
        c.in_ok-entry.ensures.few,
        c.loop-place.invariant.2,
        links_more (sites_in c.args.facts.now) c.args.links.now c.loop-place.place (c.loop-place.place - 1) c.index-links-place.result next low c.index-links-place.is,
      ),
    )

pub chains::emit_links-returns-clause-few : goal.chains::emit_links-returns-clause-few
chains::emit_links-returns-clause-few t c =
    omega (arith, c.loop-place.invariant.2, links_all (sites_in c.args.facts.now) c.args.links.now c.loop-place.place (omega (arith, c.loop-place-test.false)))

pub chains::emit_before-returns-clause-made : goal.chains::emit_before-returns-clause-made
chains::emit_before-returns-clause-made t c =
    before_made (facts_in c.args.facts.now) (sites_in c.args.facts.now) (plain_expr c.args.first.now) c.args.links.now c.args.count _ _ _ _ _ _
    (rw (c.operand_type-left.ensures, c.type_of-own.ensures, c.begins_null-is_null.ensures) at c.in_ok-done.ensures.made)
    (rw c.begins_null-is_null.ensures at c.in_ok-i.ensures.made)

pub chains::emit_chain-returns-in_ok-i-in-Truth-clause-made : goal.chains::emit_chain-returns-in_ok-i-in-Truth-clause-made
chains::emit_chain-returns-in_ok-i-in-Truth-clause-made t c = rw c.in-Truth.is c.in_ok-i-in-Truth.ensures.made

pub chains::emit_chain-returns-in_ok-i-in_default-clause-made : goal.chains::emit_chain-returns-in_ok-i-in_default-clause-made
chains::emit_chain-returns-in_ok-i-in_default-clause-made t c =
    chain_made (facts_in c.args.facts.now) (sites_in c.args.facts.now) (plain_expr c.args.first.now) (plain_links c.args.links.now) c.args.purpose _ _ _ _ _ c.in_default.not-Truth
    c.in_ok-after-in_default.ensures.made
    (value_whole (facts_in c.args.facts.now) (sites_in c.args.facts.now) (plain_expr c.args.first.now) c.args.links.now _ _ _ _ _ refl c.in_ok-i-in_default.ensures.made)

pub truths::emit_right_truth-returns-clause-made : goal.truths::emit_right_truth-returns-clause-made
truths::emit_right_truth-returns-clause-made t c =
    rw (c.is_null_beside-is_null.ensures, c.binary_of-op.ensures, c.type_before-left.ensures, c.operand_type-start.ensures, c.type_of-own.ensures, c.begins_null-begins.ensures) at
    c.in_ok-i.ensures.made

pub truths::emit_valued_truth-returns-then-not-is_short-clause-made : goal.truths::emit_valued_truth-returns-then-not-is_short-clause-made
truths::emit_valued_truth-returns-then-not-is_short-clause-made t c =
    valued_made (facts_in c.args.facts.now) (sites_in c.args.facts.now) (plain_expr c.args.first.now) c.args.links.now (c.args.place + 1) c.args.place c.args.link.now refl c.requires.within
    c.requires.here _ _ _ _ _ c.args.yes c.args.no (sym c.if-not-is_short.ensures) c.in_ok-fork.ensures.number c.in_ok-fork.ensures.added c.in_ok-i.ensures.made

pub truths::emit_valued_truth-returns-clause-made : goal.truths::emit_valued_truth-returns-clause-made
truths::emit_valued_truth-returns-clause-made t c =
    sided_made (facts_in c.args.facts.now) (sites_in c.args.facts.now) (plain_expr c.args.first.now) c.args.links.now (c.args.place + 1) c.args.place c.args.link.now refl c.requires.within
    c.requires.here _ _ _ _ _ _ _ c.args.yes c.args.no c.requires.valued (sym c.if-not-is_short.ensures) c.in_ok-right.ensures.made
    (rw (c.yes_before-left_yes.ensures, c.no_before-left_no.ensures) at c.in_ok-decided.ensures.made) c.in_ok-i-2.ensures.made

pub truths::emit_chain_truth-loop-place-init : goal.truths::emit_chain_truth-loop-place-init
truths::emit_chain_truth-loop-place-init t c = (omega arith, leads_all (facts_in c.args.facts.now) (sites_in c.args.facts.now) (plain_expr c.args.first.now) c.args.links.now _ _, omega arith)

pub truths::emit_chain_truth-loop-place-preserved : goal.truths::emit_chain_truth-loop-place-preserved
truths::emit_chain_truth-loop-place-preserved t c =
    let next : c.loop-place.place ≡ c.loop-place.place - 1 + 1 = omega (arith, c.loop-place-test.true) in
    let low : c.loop-place.place - 1 < length c.args.links.now = omega (arith, c.loop-place.invariant.0, c.loop-place-test.true) in (
      omega (arith, low),
      rw (c.yes_before-left_yes.ensures, c.no_before-left_no.ensures)
          (leads_step (facts_in c.args.facts.now) (sites_in c.args.facts.now) (plain_expr c.args.first.now) c.args.links.now c.loop-place.place (c.loop-place.place - 1) c.index-links-place.result _ _ _ _ _ _ _
          next low c.index-links-place.is (sym c.if-not-forks_at.ensures) c.loop-place.invariant.1 c.in_ok-right.ensures.made),
      omega (
        arith,
        c.in_ok-right.ensures.few,
        c.loop-place.invariant.2,
        links_more (sites_in c.args.facts.now) c.args.links.now c.loop-place.place (c.loop-place.place - 1) c.index-links-place.result next low c.index-links-place.is,
      ),
    )

pub truths::emit_chain_truth-returns-then-not-forks_at-clause-made : goal.truths::emit_chain_truth-returns-then-not-forks_at-clause-made
truths::emit_chain_truth-returns-then-not-forks_at-clause-made t c =
    let next : c.loop-place.place ≡ c.loop-place.place - 1 + 1 = omega (arith, c.loop-place-test.true) in
    chain_forked (facts_in c.args.facts.now) (sites_in c.args.facts.now) (plain_expr c.args.first.now) c.args.links.now c.loop-place.place _ _ _ _ c.args.yes c.args.no _
    c.loop-place.invariant.1 (rw (sym next) at c.in_ok-i.ensures.made)

pub truths::emit_chain_truth-returns-clause-made : goal.truths::emit_chain_truth-returns-clause-made
truths::emit_chain_truth-returns-clause-made t c =
    chain_begun (facts_in c.args.facts.now) (sites_in c.args.facts.now) (plain_expr c.args.first.now) c.args.links.now c.loop-place.place _ _ _ _ c.args.yes c.args.no _
    (omega (arith, c.loop-place-test.false)) c.loop-place.invariant.1 (rw c.begins_null-begins.ensures at c.in_ok-i-2.ensures.made)

pub truths::emit_chain_truth-returns-clause-few : goal.truths::emit_chain_truth-returns-clause-few
truths::emit_chain_truth-returns-clause-few t c =
    omega (arith, c.in_ok-i-2.ensures.few, c.loop-place.invariant.2, links_all (sites_in c.args.facts.now) c.args.links.now c.loop-place.place (omega (arith, c.loop-place-test.false)))

-- each argument weighs less than all of them
pub calls::emit_arguments-emit_handed-requires : goal.calls::emit_arguments-emit_handed-requires
calls::emit_arguments-emit_handed-requires t c =
    let low : c.loop-place.place - 1 < length c.args.arguments.now = omega (arith, c.loop-place.invariant.0, c.loop-place-test.true) in
    let weighs : 8 + weight (plain_expr c.index-arguments-place.result) ≤ exprs_weight (plain_exprs c.args.arguments.now) =
    operand_weighs c.args.arguments.now (c.loop-place.place - 1) c.index-arguments-place.result low c.index-arguments-place.is in
    let next : c.loop-place.place ≡ c.loop-place.place - 1 + 1 = omega (arith, c.loop-place-test.true) in
    let more = exprs_more (sites_in c.args.facts.now) 3 c.args.arguments.now c.loop-place.place (c.loop-place.place - 1) c.index-arguments-place.result next low c.index-arguments-place.is in
    omega (arith, weighs, more, exprs_rest (sites_in c.args.facts.now) 3 c.args.arguments.now (c.loop-place.place - 1))

-- so does each right side of a chain
pub chains::emit_links-emit_link-requires : goal.chains::emit_links-emit_link-requires
chains::emit_links-emit_link-requires t c =
    let low : c.loop-place.place - 1 < length c.args.links.now = omega (arith, c.loop-place.invariant.0, c.loop-place-test.true) in
    let weighs : 8 + weight (plain_expr c.index-links-place.result.operand) ≤ links_weight (plain_links c.args.links.now) =
    link_weighs c.args.links.now (c.loop-place.place - 1) c.index-links-place.result low c.index-links-place.is in
    let next : c.loop-place.place ≡ c.loop-place.place - 1 + 1 = omega (arith, c.loop-place-test.true) in
    let more = links_more (sites_in c.args.facts.now) c.args.links.now c.loop-place.place (c.loop-place.place - 1) c.index-links-place.result next low c.index-links-place.is in
    omega (arith, weighs, more, links_rest (sites_in c.args.facts.now) c.args.links.now (c.loop-place.place - 1))

pub chains::emit_before-emit_links-requires : goal.chains::emit_before-emit_links-requires
chains::emit_before-emit_links-requires t c = omega (arith, front_weighs c.args.links.now c.args.count, c.requires.room)

pub truths::emit_chain_truth-emit_right_truth-requires : goal.truths::emit_chain_truth-emit_right_truth-requires
truths::emit_chain_truth-emit_right_truth-requires t c =
    let low : c.loop-place.place - 1 < length c.args.links.now = omega (arith, c.loop-place.invariant.0, c.loop-place-test.true) in
    let weighs : 8 + weight (plain_expr c.index-links-place.result.operand) ≤ links_weight (plain_links c.args.links.now) =
    link_weighs c.args.links.now (c.loop-place.place - 1) c.index-links-place.result low c.index-links-place.is in
    let next : c.loop-place.place ≡ c.loop-place.place - 1 + 1 = omega (arith, c.loop-place-test.true) in
    let more = links_more (sites_in c.args.facts.now) c.args.links.now c.loop-place.place (c.loop-place.place - 1) c.index-links-place.result next low c.index-links-place.is in
    (omega (arith, weighs), (low, omega (arith, more, links_rest (sites_in c.args.facts.now) c.args.links.now (c.loop-place.place - 1), c.loop-place.invariant.2, c.requires.room)))

pub truths::emit_chain_truth-emit_valued_truth-requires : goal.truths::emit_chain_truth-emit_valued_truth-requires
truths::emit_chain_truth-emit_valued_truth-requires t c =
    let low : c.loop-place.place - 1 < length c.args.links.now = omega (arith, c.loop-place.invariant.0, c.loop-place-test.true) in
    let next : c.loop-place.place ≡ c.loop-place.place - 1 + 1 = omega (arith, c.loop-place-test.true) in
    let front = links_front (sites_in c.args.facts.now) c.args.links.now c.loop-place.place in
    let same = ap (λ q. links_room (sites_in c.args.facts.now) (plain_links (take q c.args.links.now))) next in (
      omega arith,
      (low, (c.index-links-place.is, (sym c.if-not-forks_at.ensures, omega (arith, front, same, c.loop-place.invariant.2, c.requires.room)))),
    )

pub truths::emit_chain_truth-returns-then-not-forks_at-clause-few : goal.truths::emit_chain_truth-returns-then-not-forks_at-clause-few
truths::emit_chain_truth-returns-then-not-forks_at-clause-few t c =
    let next : c.loop-place.place ≡ c.loop-place.place - 1 + 1 = omega (arith, c.loop-place-test.true) in
    let front = links_front (sites_in c.args.facts.now) c.args.links.now c.loop-place.place in
    let same = ap (λ q. links_room (sites_in c.args.facts.now) (plain_links (take q c.args.links.now))) next in
    omega (arith, front, same, c.loop-place.invariant.2, c.in_ok-i.ensures.few)

pub truths::emit_valued_truth-emit_right_truth-requires : goal.truths::emit_valued_truth-emit_right_truth-requires
truths::emit_valued_truth-emit_right_truth-requires t c =
    let weighs = link_weighs c.args.links.now c.args.place c.args.link.now c.requires.within c.requires.here in
    let last = links_last (sites_in c.args.facts.now) c.args.links.now c.args.place c.args.link.now c.requires.within c.requires.here in
    (omega (arith, weighs), (c.requires.within, omega (arith, last, c.requires.room)))

pub truths::emit_valued_truth-put_decided-requires : goal.truths::emit_valued_truth-put_decided-requires
truths::emit_valued_truth-put_decided-requires t c =
    let last = links_last (sites_in c.args.facts.now) c.args.links.now c.args.place c.args.link.now c.requires.within c.requires.here in
    omega (arith, last, c.requires.room, c.in_ok-right.ensures.few)

pub truths::emit_valued_truth-emit_before-requires-2 : goal.truths::emit_valued_truth-emit_before-requires-2
truths::emit_valued_truth-emit_before-requires-2 t c =
    let last = links_last (sites_in c.args.facts.now) c.args.links.now c.args.place c.args.link.now c.requires.within c.requires.here in
    (omega arith, (omega (arith, c.requires.within), omega (arith, last, c.requires.room, c.in_ok-right.ensures.few, c.in_ok-decided.ensures.few)))

pub truths::emit_valued_truth-returns-clause-few : goal.truths::emit_valued_truth-returns-clause-few
truths::emit_valued_truth-returns-clause-few t c =
    let last = links_last (sites_in c.args.facts.now) c.args.links.now c.args.place c.args.link.now c.requires.within c.requires.here in
    omega (arith, last, c.in_ok-right.ensures.few, c.in_ok-decided.ensures.few, c.in_ok-i-2.ensures.few)

-- and each operator behind an operand
pub postfix::emit_behind-emit_operator-requires : goal.postfix::emit_behind-emit_operator-requires
postfix::emit_behind-emit_operator-requires t c =
    let low : c.loop-place.place - 1 < length c.args.operators.now = omega (arith, c.loop-place.invariant.0, c.loop-place-test.true) in
    let weighs : postfix_weight (plain_postfix c.index-operators-place.result e.no_postfix) ≤ postfix_weight (plain_operators c.args.operators.now) =
    operator_weighs c.args.operators.now (c.loop-place.place - 1) c.index-operators-place.result low c.index-operators-place.is in
    let next : c.loop-place.place ≡ c.loop-place.place - 1 + 1 = omega (arith, c.loop-place-test.true) in
    let more = postfix_more (sites_in c.args.facts.now) c.args.operators.now c.loop-place.place (c.loop-place.place - 1) c.index-operators-place.result next low c.index-operators-place.is in
    omega (arith, weighs, more, postfix_rest (sites_in c.args.facts.now) c.args.operators.now (c.loop-place.place - 1))

-- and each operand of a comma
pub choices::emit_last-emit-requires : goal.choices::emit_last-emit-requires
choices::emit_last-emit-requires t c =
    let low : length c.args.operands.now - 1 < length c.args.operands.now = omega (arith, c.if-operands-eq0.false) in
    let weighs : 8 + weight (plain_expr c.index-operands-last.result) ≤ exprs_weight (plain_exprs c.args.operands.now) =
    operand_weighs c.args.operands.now (length c.args.operands.now - 1) c.index-operands-last.result low c.index-operands-last.is in
    let few : length c.args.operands.now ≡ length c.args.operands.now - 1 + 1 = omega (arith, c.if-operands-eq0.false) in
    let more = exprs_more (sites_in c.args.facts.now) 0 c.args.operands.now (length c.args.operands.now) (length c.args.operands.now - 1) c.index-operands-last.result few low c.index-operands-last.is in
    omega (arith, weighs, more, exprs_rest (sites_in c.args.facts.now) 0 c.args.operands.now (length c.args.operands.now - 1))

pub choices::emit_last-emit-requires-in-loop-place : goal.choices::emit_last-emit-requires-in-loop-place
choices::emit_last-emit-requires-in-loop-place t c =
    let low : c.loop-place.place - 1 < length c.args.operands.now = omega (arith, c.loop-place.invariant.0, c.loop-place-test.true) in
    let weighs : 8 + weight (plain_expr c.index-operands-place.result) ≤ exprs_weight (plain_exprs c.args.operands.now) =
    operand_weighs c.args.operands.now (c.loop-place.place - 1) c.index-operands-place.result low c.index-operands-place.is in
    let next : c.loop-place.place ≡ c.loop-place.place - 1 + 1 = omega (arith, c.loop-place-test.true) in
    let more = exprs_more (sites_in c.args.facts.now) 0 c.args.operands.now c.loop-place.place (c.loop-place.place - 1) c.index-operands-place.result next low c.index-operands-place.is in
    omega (arith, weighs, more, exprs_rest (sites_in c.args.facts.now) 0 c.args.operands.now (c.loop-place.place - 1))

-- a call's arguments have room each, so they are no more than a program's nodes
pub calls::emit_call-put_acts-requires-clause-few : goal.calls::emit_call-put_acts-requires-clause-few
calls::emit_call-put_acts-requires-clause-few t c = omega (arith, exprs_long (sites_in c.args.facts.now) c.args.arguments.now)

pub calls::emit_call-put_unfit-requires-clause-few : goal.calls::emit_call-put_unfit-requires-clause-few
calls::emit_call-put_unfit-requires-clause-few t c = omega (arith, exprs_long (sites_in c.args.facts.now) c.args.arguments.now)

pub expressions::emit_value-returns-clause-made : goal.expressions::emit_value-returns-clause-made
expressions::emit_value-returns-clause-made t c = for_value (λ G. emitted_expression G (facts_in c.args.facts.now) (sites_in c.args.facts.now) (plain_expr c.args.x.now)) _ _ _ _ c.in_ok-i.ensures.made

pub expressions::emit_wanted-returns-then-is_null_as-clause-made : goal.expressions::emit_wanted-returns-then-is_null_as-clause-made
expressions::emit_wanted-returns-then-is_null_as-clause-made t c =
    rw (sym c.is_null_as.ensures ∙ c.if-is_null_as.true) (row (node.Null 0) _ c.in_ok-i.ensures.number c.in_ok-i.ensures.added refl)

pub choices::emit_handed-returns-then-is_null_as-clause-made : goal.choices::emit_handed-returns-then-is_null_as-clause-made
choices::emit_handed-returns-then-is_null_as-clause-made t c =
    rw (sym c.is_null_as.ensures ∙ c.if-is_null_as.true) (row (node.Null 0) _ c.in_ok-i.ensures.number c.in_ok-i.ensures.added refl)

pub choices::emit_arm_value-returns-then-is_null_as-clause-made : goal.choices::emit_arm_value-returns-then-is_null_as-clause-made
choices::emit_arm_value-returns-then-is_null_as-clause-made t c =
    arm_null_made (facts_in c.args.facts.now) (sites_in c.args.facts.now) c.args.want (plain_expr c.args.x.now) _ _ _ _ (sym c.is_null_as.ensures ∙ c.if-is_null_as.true)
    c.in_ok-i.ensures.number c.in_ok-i.ensures.added

pub choices::emit_arm_effect-returns-then-is_void-clause-made : goal.choices::emit_arm_effect-returns-then-is_void-clause-made
choices::emit_arm_effect-returns-then-is_void-clause-made t c =
    arm_void (is_null_as c.args.want (plain_expr c.args.x.now)) (type_of (facts_in c.args.facts.now) (plain_expr c.args.x.now)) c.args.want (λ G. emitted_expression G (facts_in c.args.facts.now) (sites_in c.args.facts.now) (plain_expr c.args.x.now)) _ _ _ _
    (sym c.is_void.ensures ∙ c.if-is_void.true) c.in_ok-i.ensures.made

pub chains::emit_null_or-returns-then-is_null-clause-made : goal.chains::emit_null_or-returns-then-is_null-clause-made
chains::emit_null_or-returns-then-is_null-clause-made t c = rw c.if-is_null.true (row (node.Null 0) _ c.in_ok-i.ensures.number c.in_ok-i.ensures.added refl)

pub chains::emit_null_or-returns-clause-made : goal.chains::emit_null_or-returns-clause-made
chains::emit_null_or-returns-clause-made t c = rw c.if-is_null.false c.in_ok-i-2.ensures.made

pub truths::emit_null_truth-returns-then-is_null-clause-made : goal.truths::emit_null_truth-returns-then-is_null-clause-made
truths::emit_null_truth-returns-then-is_null-clause-made t c =
    rw c.if-is_null.true (null_truth (λ G. emitted_expression G (facts_in c.args.facts.now) (sites_in c.args.facts.now) (plain_expr c.args.x.now)) _ _ _ _ _ c.args.yes c.args.no
    c.in_ok-fork.ensures.number c.in_ok-fork.ensures.added c.in_ok-i.ensures.number c.in_ok-i.ensures.added)

pub truths::emit_null_truth-returns-clause-made : goal.truths::emit_null_truth-returns-clause-made
truths::emit_null_truth-returns-clause-made t c =
    rw c.if-is_null.false (own_truth (λ G. emitted_expression G (facts_in c.args.facts.now) (sites_in c.args.facts.now) (plain_expr c.args.x.now)) _ _ _ c.args.yes c.args.no c.in_ok-i-2.ensures.made)

pub postfix::emit_spot-returns-then-known-clause-made : goal.postfix::emit_spot-returns-then-known-clause-made
postfix::emit_spot-returns-then-known-clause-made t c = rw c.if-known.true c.in_ok-i.ensures.made

pub postfix::emit_spot-returns-clause-made : goal.postfix::emit_spot-returns-clause-made
postfix::emit_spot-returns-clause-made t c = rw c.if-known.false c.in_ok-i-2.ensures.made

pub chains::emit_links-returns-clause-made : goal.chains::emit_links-returns-clause-made
chains::emit_links-returns-clause-made t c =
    let none : c.loop-place.place ≡ 0 = omega (arith, c.loop-place-test.false) in
    rw none at c.loop-place.invariant.1

pub calls::emit_arguments-returns-clause-made : goal.calls::emit_arguments-returns-clause-made
calls::emit_arguments-returns-clause-made t c =
    let none : c.loop-place.place ≡ 0 = omega (arith, c.loop-place-test.false) in
    rw none at c.loop-place.invariant.1

pub places::emit_lone_place-returns-then-operands-eq1-clause-made : goal.places::emit_lone_place-returns-then-operands-eq1-clause-made
places::emit_lone_place-returns-then-operands-eq1-clause-made t c =
    λ token. lone_place (facts_in c.args.facts.now) (sites_in c.args.facts.now) token c.args.operands.now _ _ _ _ _ c.if-operands-eq1.true (search rules) c.in_ok-i.ensures.made

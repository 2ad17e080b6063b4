-- Nodes for each expression.
use Rattle.std.proofs.Common.{ℕ, ◌+◌, ◌≤◌, refl, arith, List, Option, Some, None, Bool, true, false}
use Rattle.std.specs.Prelude.{◌==◌, ◌||◌, negsuc}
use Rattle.cbi_base.specs.declared.scalar.Kind.TheVariants.{Int}
use Rattle.cbi_base.specs.declared.operators.Binary.TheVariants as op
use Rattle.c_syntax.specs.ExprTree as e
use Rattle.c_syntax.specs.ExprTree.{ExprTree, ExprList, LinkList, PostfixList}
use Rattle.c_types_expressions.specs.ExprWalk.{binary_of}
use Rattle.flow.specs.declared.node.Node.TheVariants as node
use Rattle.c_meaning.specs.declared.value_type.ValueType.{ValueType}
use Rattle.c_meaning.specs.Words.{is_null_as, Facts, Sites, text_of_string, operation, assignment_of_sign, begins_null, called_as, expression_count, ends_as_place, first_type}
use Rattle.c_meaning.specs.Words.{is_null_beside, is_place, joint_of_sign, operand_type, other_types, token_of, type_of}
use Rattle.lower_relation.specs.Expressions as x
use Rattle.lower_relation.specs.Expressions.{has_more, number_of_text}
use Rattle.lower_relation.specs.Paths.{Graph, Path, Emitted, Ways}
use Rattle.lower_relation.specs.Room.{branch_visits, expr_room, exprs_room, links_room, pair_visits, postfix_room}
use Rattle.compiler_exists.specs.Built.{Builds}
use Rattle.lower_nodes.specs.Ends.{one_end, two_ends}
use Rattle.compiler_exists.specs.Emits.{BuildsAll}
use Rattle.compiler_exists.proofs.Building.{◌before◌, does, first_of_two, fits, nothing, only, stuck, tests}
use Rattle.compiler_exists.proofs.Calls.{call_does, prints}
use Rattle.compiler_exists.proofs.Operators.{assign, cast, comma, conditional, decides, linked, member, operates, postfixed, prefixed, settled, size_value, spot, stepped_as, variable}
use Rattle.compiler_exists.proofs.Values.{arm, arm_effect, dropped, fits_all, handed_value, null_or, placed, valued}

text_place : (number : Option ℕ) → Builds one_end (λ G. x.TextPlace G number) 2
text_place None = stuck
text_place (Some number) = fits (does (node.Text number) (λ k. refl)) (omega arith)

chain : {m : Graph → Emitted} {L : Graph → Option ValueType → Path ℕ} {a b : ℕ} (T : Graph → Option ValueType → Path ℕ → Path Ways → Path Ways)
    (is_null : Bool) (of : Option ValueType) → BuildsAll m a → 2 ≤ a → ((left : Option ValueType) → Builds one_end (λ G. L G left) b) →
    BuildsAll (λ G. x.ChainDoes G is_null of (m G) (L G) (T G)) (2 + a + b)
chain T is_null of r le links = record {
  value = fits (null_or is_null r (omega (arith, le)) before links (operand_type is_null of)) (omega arith);
  place = fits stuck (omega arith);
  effect = fits (dropped (null_or is_null r (omega (arith, le)) before links (operand_type is_null of))) (omega arith);
  truth = fits (first_of_two (tests (null_or is_null r (omega (arith, le)) before links (operand_type is_null of)))) (omega arith);
}

module _ (sites : Sites) where
  -- each expression has some room
  pub some_room : (y : ExprTree) → 2 ≤ expr_room sites y
  some_room (e.Paren token inner) = some_room inner
  some_room y = omega arith

module _ (facts : Facts) (sites : Sites) where
  mutual
    pub expression : (y : ExprTree) → BuildsAll (λ G. x.emitted_expression G facts sites y) (expr_room sites y)
    expression (e.Comma token parts) = last parts
    expression (e.Assign token sign target value) =
        valued (assign facts sites token (assignment_of_sign sign) (is_null_as (type_of facts target) value) (type_of facts target) (type_of facts value)
        (expression target) (expression value)) (omega arith)
    expression (e.Conditional token condition first second) =
        conditional facts sites (expr_room sites first) (expr_room sites second) token (expression condition)
        (arm (is_null_as (facts.type_at token) first) (type_of facts first) (facts.type_at token) (expression first))
        (arm (is_null_as (facts.type_at token) second) (type_of facts second) (facts.type_at token) (expression second))
        (arm_effect (is_null_as (facts.type_at token) first) (type_of facts first) (facts.type_at token) (expression first))
        (arm_effect (is_null_as (facts.type_at token) second) (type_of facts second) (facts.type_at token) (expression second))
    expression (e.Chain level first links) =
        chain (λ G left R T. x.LinksHold G facts sites left R T links) (begins_null facts first links) (type_of facts first) (expression first)
        (some_room sites first) (λ left. links_do left links)
    expression (e.Cast token base stars operand) = cast (is_null_as (facts.type_at token) operand) (facts.type_at token) (expression operand)
    expression (e.Prefix token operator operand) =
        prefixed facts sites token operator (type_of facts operand) (facts.cells_at (token_of operand)) (expression operand)
    expression (e.SizeOfType token base stars) = size_value (facts.named_cells base stars) (omega arith)
    expression (e.Postfix primary operators) =
        postfixed (ends_as_place (is_place primary) operators) (type_of facts (e.Postfix primary operators))
        (spot (is_place primary) (expression primary) before behind true (is_place primary) (type_of facts primary) operators)
        (spot (is_place primary) (expression primary) before behind false (is_place primary) (type_of facts primary) operators) (omega arith)
    expression (e.Name token name) = placed (facts.type_at token) (variable (facts.slot_at token)) (omega arith)
    expression (e.Call token name values) =
        call_does facts sites (λ types. arguments types values) (λ want. lone want values) (formatted values) token
        (called_as (facts.function_at token) name) (expression_count values)
    expression (e.Constant token kind value) = valued (does (node.Push kind value) (λ k. refl)) (omega arith)
    expression (e.Strings token parts) = valued (text_place (facts.text_at token)) (omega arith)
    expression (e.Paren token inner) = expression inner
    expression (e.Null token) = valued (does node.Null (λ k. refl)) (omega arith)
    expression (e.EndOfFile token) = valued (does (node.Push Int (negsuc 0)) (λ k. refl)) (omega arith)

    behind : (taken known : Bool) (of : Option ValueType) (y : PostfixList) →
        Builds one_end (λ G. x.PostfixOperatorsDo G facts sites taken known of y) (postfix_room sites y)
    behind taken known of e.no_postfix = nothing
    behind taken known of (e.index token index rest) =
        fits (settled known of before (expression index).value before operates (operation op.Add of (type_of facts index))
        before behind taken true (facts.type_at token) rest) (omega arith)
    behind taken known of (e.member token name rest) = fits (member (facts.offset_at token) before behind taken true (facts.type_at token) rest) (omega arith)
    behind taken known of (e.arrow token name rest) =
        fits (settled known of before member (facts.offset_at token) before behind taken true (facts.type_at token) rest) (omega arith)
    behind taken known of (e.increment token rest) =
        fits (only {n =
        16 + pair_visits sites token} known (stepped_as facts sites (taken || has_more rest) true token of) (omega arith) (omega arith)
        before behind taken false (facts.type_at token) rest) (omega arith)
    behind taken known of (e.decrement token rest) =
        fits (only {n =
        16 + pair_visits sites token} known (stepped_as facts sites (taken || has_more rest) false token of) (omega arith) (omega arith)
        before behind taken false (facts.type_at token) rest) (omega arith)

    links_do : (left : Option ValueType) (y : LinkList) → Builds one_end (λ G. x.LinksDo G facts sites left y) (links_room sites y)
    links_do left e.no_links = nothing
    links_do left (e.more_links token sign operand rest) =
        fits (linked facts sites (joint_of_sign sign) token left (operand_type (is_null_beside (binary_of sign) left operand) (type_of facts operand))
        (null_or (is_null_beside (binary_of sign) left operand) (expression operand) (omega (arith, some_room sites operand)))
        before links_do (facts.type_at token) rest) (omega arith)

    last : (y : ExprList) → BuildsAll (λ G. x.CommaDoes G facts sites y) (3 + exprs_room sites 0 y)
    last e.no_exprs = valued stuck (omega arith)
    last (e.more_exprs first rest) = fits_all (comma (expression_count rest) (expression first) (last rest) (omega arith)) (omega arith)

    arguments : (types : List ValueType) (y : ExprList) → Builds one_end (λ G. x.ArgumentsDo G facts sites types y) (exprs_room sites 3 y)
    arguments types e.no_exprs = nothing
    arguments types (e.more_exprs first rest) =
        fits (handed_value (is_null_as (first_type types) first) (first_type types) (expression first) before arguments (other_types types) rest) (omega arith)

    lone : (want : Option ValueType → Option ValueType) (y : ExprList) → Builds one_end (λ G. x.OneArgumentDoes G facts sites want y) (2 + exprs_room sites 3 y)
    lone want e.no_exprs = fits stuck (omega arith)
    lone want (e.more_exprs first rest) =
        only (expression_count rest == 0) (handed_value (is_null_as (want (type_of facts first)) first) (want (type_of facts first)) (expression first)) (omega arith)
        (omega arith)

    formatted : (y : ExprList) → Builds one_end (λ G. x.FormatDoes G facts sites y) (2 + exprs_room sites 3 y)
    formatted e.no_exprs = fits stuck (omega arith)
    formatted (e.more_exprs first rest) =
        fits (prints (number_of_text facts first) (text_of_string facts first) (expression_count rest) (λ types. arguments types rest)) (omega arith)

  pub condition : (token : ℕ) (y : ExprTree) → Builds two_ends (λ G. x.Condition G facts sites token y) (1 + branch_visits sites token + expr_room sites y)
  condition token y = fits (decides facts sites token (expression y).value (expression y).truth) (omega arith)

-- What an expression means, one equation a construct (C99 6.5). Operands are evaluated from left to right, and effects happen at once.
use Rattle.std.specs.Prelude.{ℕ, ◌+◌, ◌==◌, Bool, true, false, negsuc, List, [], ◌∷◌, Option, Some, None, slice_get}
use Rattle.std.specs.Option.{option_and_then}
use Rattle.cbi_base.specs.declared.scalar.Kind.TheVariants.{Int}
use Rattle.cbi_base.specs.declared.scalar.Scalar.{Scalar}
use Rattle.cbi_base.specs.declared.scalar.Scalar.TheVariants.{Number, Place, Null}
use Rattle.cbi_base.specs.declared.operators.Binary.TheVariants as op
use Rattle.c_syntax.specs.ExprTree as e
use Rattle.c_syntax.specs.ExprTree.{ExprTree, ExprList, LinkList, PostfixList}
use Rattle.c_types_expressions.specs.ExprWalk.{binary_of}
use Rattle.flow.specs.declared.program.Text.{Text}
use Rattle.c_meaning.specs.declared.value_type.ValueType.{ValueType}
use Rattle.c_meaning.specs.declared.value_type.ValueType.TheVariants as type
use Rattle.c_meaning.specs.Calls.{call_sense, print_by}
use Rattle.c_meaning.specs.Conversions.{is_null_as}
use Rattle.c_meaning.specs.Expressions.{Sense, sense_of_value, sense_of_place, null_or, arm_value, arm_effect, handed_value, cast_sense, comma_sense}
use Rattle.c_meaning.specs.Expressions.{loaded_operand, place_or_value}
use Rattle.c_meaning.specs.Expressions.{postfixed_sense, size_value, value_after_link, assigned_value, conditional, prefixed_sense}
use Rattle.c_meaning.specs.Facts.{Facts, Setting}
use Rattle.c_meaning.specs.Operation.{operation, operation_result}
use Rattle.c_meaning.specs.Places.{member_place, stepped_behind, variable}
use Rattle.c_meaning.specs.Trees.{token_of, type_of, ends_as_place, is_place, expression_count, assignment_of_sign, joint_of_sign, is_null_beside, begins_null}
use Rattle.c_meaning.specs.Trees.{operand_type}
use Rattle.c_meaning.specs.Trees.{called_as, first_type, other_types}
use Rattle.c_meaning.specs.Visits.{visited_truth}
use Rattle.c_meaning.specs.World.{World, Out, Go, OutDone, bind, answer_or_trap, chosen_part, stuck_run}

-- the object of the string at the token
abbrev pub text_place : Facts → Option ℕ → World → Out Scalar
text_place facts None w = stuck_run w
text_place facts (Some number) w = Go (Place (facts.statics.globals + number) 0) w

-- the string that an expression is
abbrev pub text_of_string : Facts → ExprTree → Option Text
text_of_string facts (e.Strings token parts) = option_and_then (slice_get facts.statics.texts) (facts.text_at token)
text_of_string facts x = None

module _ (s : Setting) where
  abbrev mutual
    pub expr : ExprTree → Sense
    expr (e.Comma token operands) = last_sense operands
    expr (e.Assign token sign target value) =
        sense_of_value (assigned_value s token (assignment_of_sign sign) (is_null_as (type_of s.facts target) value) (type_of s.facts target)
        (type_of s.facts value) (expr target)
        (expr value))
    expr (e.Conditional token condition first second) =
        conditional s token (expr condition)
        (arm_value (is_null_as (s.facts.type_at token) first) (type_of s.facts first) (s.facts.type_at token) (expr first))
        (arm_value (is_null_as (s.facts.type_at token) second) (type_of s.facts second) (s.facts.type_at token) (expr second))
        (arm_effect (is_null_as (s.facts.type_at token) first) (type_of s.facts first) (s.facts.type_at token) (expr first))
        (arm_effect (is_null_as (s.facts.type_at token) second) (type_of s.facts second) (s.facts.type_at token) (expr second))
    expr (e.Chain level first links) =
        sense_of_value (λ w. bind (null_or (begins_null s.facts first links) (expr first) w)
        (links_value (operand_type (begins_null s.facts first links) (type_of s.facts first)) links))
    expr (e.Cast token base stars operand) = cast_sense (is_null_as (s.facts.type_at token) operand) (s.facts.type_at token) (expr operand)
    expr (e.Prefix token operator operand) = prefixed_sense s token operator (type_of s.facts operand) (s.facts.cells_at (token_of operand)) (expr operand)
    expr (e.SizeOfType token base stars) = size_value (s.facts.named_cells base stars)
    expr (e.Postfix primary operators) =
        postfixed_sense (ends_as_place (is_place primary) operators) (type_of s.facts (e.Postfix primary operators))
        (λ w. bind (place_or_value (is_place primary) (expr primary) w) (value_after_postfix (is_place primary) (type_of s.facts primary) operators))
    expr (e.Name token name) = sense_of_place (s.facts.type_at token) (variable s (s.facts.slot_at token))
    expr (e.Call token name arguments) =
        call_sense s token (called_as (s.facts.function_at token) name) (expression_count arguments) (λ types. arguments_value types arguments [])
        (λ want. lone_value want arguments) (arguments_printed arguments)
    expr (e.Constant token kind value) = sense_of_value (Go (Number kind value))
    expr (e.Strings token parts) = sense_of_value (text_place s.facts (s.facts.text_at token))
    expr (e.Paren token inner) = expr inner
    expr (e.Null token) = sense_of_value (Go Null)
    expr (e.EndOfFile token) = sense_of_value (Go (Number Int (negsuc 0)))

    -- Operators behind an operand, from the left: `known` says whether what stands before them is a place. `e[i]` is `*(e + i)` (C99 6.5.2.1p2).
    pub value_after_postfix : Bool → Option ValueType → PostfixList → Scalar → World → Out Scalar
    value_after_postfix known of e.no_postfix v w = Go v w
    value_after_postfix known of (e.index token i rest) v w =
        bind (loaded_operand known of v w) (λ p u. bind ((expr i).value u) (λ x y.
        bind (answer_or_trap (operation_result (operation op.Add of (type_of s.facts i)) p x y.objects) y)
        (value_after_postfix true (s.facts.type_at token) rest)))
    value_after_postfix known of (e.member token name rest) v w =
        bind (member_place (s.facts.offset_at token) v w) (value_after_postfix true (s.facts.type_at token) rest)
    value_after_postfix known of (e.arrow token name rest) v w =
        bind (loaded_operand known of v w) (λ p u. bind (member_place (s.facts.offset_at token) p u) (value_after_postfix true (s.facts.type_at token) rest))
    value_after_postfix known of (e.increment token rest) v w =
        bind (chosen_part known (stepped_behind s true token of v) stuck_run w) (value_after_postfix false (s.facts.type_at token) rest)
    value_after_postfix known of (e.decrement token rest) v w =
        bind (chosen_part known (stepped_behind s false token of v) stuck_run w) (value_after_postfix false (s.facts.type_at token) rest)

    -- the operators of a chain, from the left, where what stands before them has this type
    pub links_value : Option ValueType → LinkList → Scalar → World → Out Scalar
    links_value left e.no_links v w = Go v w
    links_value left (e.more_links token sign operand rest) v w =
        bind (value_after_link s (joint_of_sign sign) token left (operand_type (is_null_beside (binary_of sign) left operand) (type_of s.facts operand))
        (null_or (is_null_beside (binary_of sign) left operand) (expr operand)) v w)
        (links_value (s.facts.type_at token) rest)

    pub last_sense : ExprList → Sense
    last_sense e.no_exprs = sense_of_value stuck_run
    last_sense (e.more_exprs x rest) = comma_sense (expression_count rest) (expr x) (last_sense rest)

    -- arguments of these types: the last one first, before those that are there
    pub arguments_value : List ValueType → ExprList → List Scalar → World → Out (List Scalar)
    arguments_value types e.no_exprs before w = Go before w
    arguments_value types (e.more_exprs x rest) before w =
        bind (handed_value (is_null_as (first_type types) x) (first_type types) (expr x) w) (λ v. arguments_value (other_types types) rest (v ∷ before))

    -- the one argument
    pub lone_value : (Option ValueType → Option ValueType) → ExprList → World → Out Scalar
    lone_value want e.no_exprs w = stuck_run w
    lone_value want (e.more_exprs x rest) w =
        chosen_part (expression_count rest == 0) (handed_value (is_null_as (want (type_of s.facts x)) x) (want (type_of s.facts x)) (expr x)) stuck_run w

    -- what `printf` does with its arguments
    pub arguments_printed : ExprList → World → OutDone
    arguments_printed e.no_exprs w = stuck_run w
    arguments_printed (e.more_exprs x rest) w = print_by (text_of_string s.facts x) (expression_count rest) (λ types. arguments_value types rest []) w

  -- a condition, with the visit of its statement's site
  abbrev pub condition : ℕ → ExprTree → World → Out Bool
  condition token x w = bind ((expr x).value w) (visited_truth s token)

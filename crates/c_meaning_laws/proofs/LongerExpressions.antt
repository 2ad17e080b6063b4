-- Expressions, where more turns are left: one induction over their trees.
use Rattle.std.proofs.Common.{ℕ, ◌+◌, ◌==◌, Bool, true, false, negsuc, List, [], ◌∷◌, Option, Some, None}
use Rattle.cbi_base.specs.declared.operators.Binary.TheVariants as op
use Rattle.cbi_base.specs.declared.scalar.Kind.TheVariants.{Int}
use Rattle.cbi_base.specs.declared.scalar.Scalar.{Scalar}
use Rattle.cbi_base.specs.declared.scalar.Scalar.TheVariants.{Number, Place, Null}
use Rattle.c_syntax.specs.ExprTree as e
use Rattle.c_syntax.specs.ExprTree.{ExprTree, ExprList, LinkList, PostfixList}
use Rattle.c_types_expressions.specs.ExprWalk.{binary_of}
use Rattle.c_meaning.specs.declared.value_type.ValueType.{ValueType}
use Rattle.c_meaning.specs.Words.{is_null_as, Facts, Setting, arguments_value, condition, expr, arguments_printed, last_sense, links_value, lone_value, value_after_postfix}
use Rattle.c_meaning.specs.Words.{text_of_string, text_place, operation, assignment_of_sign, begins_null, called_as, expression_count, ends_as_place, first_type, is_null_beside}
use Rattle.c_meaning.specs.Words.{is_place, joint_of_sign, operand_type, other_types, token_of, type_of, Caller}
use Rattle.c_meaning_laws.proofs.Longer.{Longer, chosen, gives, seq}
use Rattle.c_meaning_laws.proofs.LongerPlaces.{decided_longer, member_longer, operate_longer, stepped_behind_longer, stuck_longer, variable_longer}
use Rattle.c_meaning_laws.proofs.LongerSenses.{SenseLonger, arm_effect_longer, arm_longer, assign_longer, call_longer, cast_longer, comma_longer, conditional_longer, handed_value_longer}
use Rattle.c_meaning_laws.proofs.LongerSenses.{linked_longer, null_longer, placed_longer, postfixed_longer, prefixed_longer, print_by_longer, settled_longer, size_longer, spot_longer, valued_longer}

text_longer : (k : ℕ) (facts : Facts) (number : Option ℕ) → Longer k (text_place facts number) (text_place facts number)
text_longer k facts None = stuck_longer k Scalar
text_longer k facts (Some number) = gives k (Place (facts.statics.globals + number) 0)

module _ (k : ℕ) (s : Setting) (call : Caller) (calls : (number : ℕ) (vs : List Scalar) → Longer k (s.call number vs) (call number vs)) where
  abbrev t : Setting
  t = record s { call = call }

  mutual
    pub expr_longer : (x : ExprTree) → SenseLonger k (expr s x) (expr t x)
    expr_longer (e.Comma token operands) = last_longer operands
    expr_longer (e.Assign token sign target value) =
        valued_longer k (assign_longer k s call token (assignment_of_sign sign) (is_null_as (type_of s.facts target) value) (type_of s.facts target)
        (type_of s.facts value) (expr s target) (expr t target) (expr s value) (expr t value) (expr_longer target) (expr_longer value))
    expr_longer (e.Conditional token c first second) =
        conditional_longer k s call token (expr s c) (expr t c) (expr_longer c)
        (arm_longer k (is_null_as (s.facts.type_at token) first) (type_of s.facts first) (s.facts.type_at token) (expr s first) (expr t first) (expr_longer first))
        (arm_longer k (is_null_as (s.facts.type_at token) second) (type_of s.facts second) (s.facts.type_at token) (expr s second) (expr t second)
        (expr_longer second))
        (arm_effect_longer k (is_null_as (s.facts.type_at token) first) (type_of s.facts first) (s.facts.type_at token) (expr s first) (expr t first)
        (expr_longer first))
        (arm_effect_longer k (is_null_as (s.facts.type_at token) second) (type_of s.facts second) (s.facts.type_at token) (expr s second) (expr t second)
        (expr_longer second))
    expr_longer (e.Chain level first links) =
        valued_longer k (seq k (null_longer k (begins_null s.facts first links) (expr s first) (expr t first) (expr_longer first))
        (links_longer links (operand_type (begins_null s.facts first links) (type_of s.facts first))))
    expr_longer (e.Cast token base stars operand) =
        cast_longer k (is_null_as (s.facts.type_at token) operand) (s.facts.type_at token) (expr s operand) (expr t operand) (expr_longer operand)
    expr_longer (e.Prefix token operator operand) =
        prefixed_longer k s call token operator (type_of s.facts operand) (s.facts.cells_at (token_of operand)) (expr s operand) (expr t operand)
        (expr_longer operand)
    expr_longer (e.SizeOfType token base stars) = size_longer k (s.facts.named_cells base stars)
    expr_longer (e.Postfix primary operators) =
        postfixed_longer k (ends_as_place (is_place primary) operators) (type_of s.facts (e.Postfix primary operators))
        (seq k (spot_longer k (is_place primary) (expr s primary) (expr t primary) (expr_longer primary))
        (behind_longer operators (is_place primary) (type_of s.facts primary)))
    expr_longer (e.Name token name) = placed_longer k (s.facts.type_at token) (variable_longer k s call (s.facts.slot_at token))
    expr_longer (e.Call token name arguments) =
        call_longer k s call calls token (called_as (s.facts.function_at token) name) (expression_count arguments)
        (λ types. arguments_value s types arguments []) (λ types. arguments_value t types arguments [])
        (λ want. lone_value s want arguments) (λ want. lone_value t want arguments) (arguments_printed s arguments) (arguments_printed t arguments)
        (λ types. arguments_longer arguments types []) (lone_longer arguments) (formatted_longer arguments)
    expr_longer (e.Constant token kind value) = valued_longer k (gives k (Number kind value))
    expr_longer (e.Strings token parts) = valued_longer k (text_longer k s.facts (s.facts.text_at token))
    expr_longer (e.Paren token inner) = expr_longer inner
    expr_longer (e.Null token) = valued_longer k (gives k Null)
    expr_longer (e.EndOfFile token) = valued_longer k (gives k (Number Int (negsuc 0)))

    behind_longer : (operators : PostfixList) (known : Bool) (of : Option ValueType) (v : Scalar)
        → Longer k (value_after_postfix s known of operators v) (value_after_postfix t known of operators v)
    behind_longer e.no_postfix known of v = gives k v
    behind_longer (e.index token i rest) known of v =
        seq k (settled_longer k known of v) (λ p. seq k (expr_longer i).value (λ x.
        seq k (operate_longer k (operation op.Add of (type_of s.facts i)) p x) (behind_longer rest true (s.facts.type_at token))))
    behind_longer (e.member token name rest) known of v =
        seq k (member_longer k (s.facts.offset_at token) v) (behind_longer rest true (s.facts.type_at token))
    behind_longer (e.arrow token name rest) known of v =
        seq k (settled_longer k known of v) (λ p. seq k (member_longer k (s.facts.offset_at token) p) (behind_longer rest true (s.facts.type_at token)))
    behind_longer (e.increment token rest) known of v =
        seq k (chosen k known (stepped_behind_longer k s call true token of v) (stuck_longer k Scalar)) (behind_longer rest false (s.facts.type_at token))
    behind_longer (e.decrement token rest) known of v =
        seq k (chosen k known (stepped_behind_longer k s call false token of v) (stuck_longer k Scalar)) (behind_longer rest false (s.facts.type_at token))

    links_longer : (links : LinkList) (left : Option ValueType) (v : Scalar) → Longer k (links_value s left links v) (links_value t left links v)
    links_longer e.no_links left v = gives k v
    links_longer (e.more_links token sign operand rest) left v =
        seq k (linked_longer k s call (joint_of_sign sign) token left (operand_type (is_null_beside (binary_of sign) left operand) (type_of s.facts operand)) _ _ v
        (null_longer k (is_null_beside (binary_of sign) left operand) (expr s operand) (expr t operand) (expr_longer operand)))
        (links_longer rest (s.facts.type_at token))

    last_longer : (operands : ExprList) → SenseLonger k (last_sense s operands) (last_sense t operands)
    last_longer e.no_exprs = valued_longer k (stuck_longer k Scalar)
    last_longer (e.more_exprs x rest) =
        comma_longer k (expression_count rest) (expr s x) (expr t x) (last_sense s rest) (last_sense t rest) (expr_longer x) (last_longer rest)

    arguments_longer : (arguments : ExprList) (types : List ValueType) (before : List Scalar)
        → Longer k (arguments_value s types arguments before) (arguments_value t types arguments before)
    arguments_longer e.no_exprs types before = gives k before
    arguments_longer (e.more_exprs x rest) types before =
        seq k (handed_value_longer k (is_null_as (first_type types) x) (first_type types) (expr s x) (expr t x) (expr_longer x))
        (λ v. arguments_longer rest (other_types types) (v ∷ before))

    lone_longer : (arguments : ExprList) (want : Option ValueType → Option ValueType) → Longer k (lone_value s want arguments) (lone_value t want arguments)
    lone_longer e.no_exprs want = stuck_longer k Scalar
    lone_longer (e.more_exprs x rest) want =
        chosen k (expression_count rest == 0)
        (handed_value_longer k (is_null_as (want (type_of s.facts x)) x) (want (type_of s.facts x)) (expr s x) (expr t x) (expr_longer x)) (stuck_longer k Scalar)

    formatted_longer : (arguments : ExprList) → Longer k (arguments_printed s arguments) (arguments_printed t arguments)
    formatted_longer e.no_exprs = stuck_longer k (Unit {0})
    formatted_longer (e.more_exprs x rest) =
        print_by_longer k (text_of_string s.facts x) (expression_count rest) (λ types. arguments_value s types rest []) (λ types. arguments_value t types rest [])
        (λ types. arguments_longer rest types [])

  -- a condition, with the visit of its site
  pub condition_longer : (token : ℕ) (x : ExprTree) → Longer k (condition s token x) (condition t token x)
  condition_longer token x = seq k (expr_longer x).value (decided_longer k s call token)

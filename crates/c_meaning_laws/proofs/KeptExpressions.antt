-- Expressions keep what holds of all values and of the objects: one induction over their trees.
use Rattle.std.proofs.Common.{◌≡◌, ℕ, ◌+◌, ◌==◌, Bool, true, false, negsuc, List, [], ◌∷◌, Option, Some, None, refl}
use Rattle.std.specs.List.{AllByRecursion}
use Rattle.cbi_base.specs.declared.operators.Binary.TheVariants as op
use Rattle.cbi_base.specs.declared.scalar.Kind.TheVariants.{Int}
use Rattle.cbi_base.specs.declared.scalar.Scalar.{Scalar}
use Rattle.cbi_base.specs.declared.scalar.Scalar.TheVariants.{Number, Place, Null}
use Rattle.cbi_base.specs.Objects.{Objects}
use Rattle.c_syntax.specs.ExprTree as e
use Rattle.c_syntax.specs.ExprTree.{ExprTree, ExprList, LinkList, PostfixList}
use Rattle.c_types_expressions.specs.ExprWalk.{binary_of}
use Rattle.c_meaning.specs.declared.value_type.ValueType.{ValueType}
use Rattle.c_meaning.specs.Words.{is_null_as, Facts, Setting, arguments_value, condition, expr, arguments_printed, last_sense, links_value, lone_value, value_after_postfix}
use Rattle.c_meaning.specs.Words.{text_of_string, text_place, operation, assignment_of_sign, begins_null, called_as, expression_count, ends_as_place, first_type, is_null_beside}
use Rattle.c_meaning.specs.Words.{is_place, joint_of_sign, operand_type, other_types, token_of, type_of}
use Rattle.c_meaning_laws.proofs.Kept.{Any, Closed, Keeps, chosen, gives, seq}
use Rattle.c_meaning_laws.proofs.KeptPlaces.{LocalsOwn, StaticsOwn, decided_kept, member_kept, operate_kept, stepped_behind_kept, stuck_kept, variable_kept}
use Rattle.c_meaning_laws.proofs.KeptSenses.{SenseKept, arm_effect_kept, arm_kept, assign_kept, call_kept, cast_kept, comma_kept, conditional_kept}
use Rattle.c_meaning_laws.proofs.KeptSenses.{handed_value_kept, linked_kept, null_kept, placed_kept, postfixed_kept, prefixed_kept, print_by_kept}
use Rattle.c_meaning_laws.proofs.KeptSenses.{settled_kept, size_kept, spot_kept, valued_kept}

text_kept : {Q : Scalar → Type 0} {Own : ℕ → Type 0} {I : Objects → Type 0} (c : Closed Q Own I) (facts : Facts) (number : Option ℕ)
    → ((n : ℕ) → number ≡ Some n → Own (facts.statics.globals + n)) → Keeps I Q (text_place facts number)
text_kept c facts None own = stuck_kept c
text_kept c facts (Some number) own = gives (Place (facts.statics.globals + number) 0) (c.places (facts.statics.globals + number) 0 (own number refl))

module _ {Q : Scalar → Type 0} {Own : ℕ → Type 0} {I : Objects → Type 0} (c : Closed Q Own I) (s : Setting) (statics : StaticsOwn Own s.facts)
    (locals : LocalsOwn Own s.locals) (calls : (number : ℕ) (vs : List Scalar) → AllByRecursion Q vs → Keeps I Q (s.call number vs)) where
  mutual
    pub expr_kept : (x : ExprTree) → SenseKept Q I (expr s x)
    expr_kept (e.Comma token operands) = last_kept operands
    expr_kept (e.Assign token sign target value) =
        valued_kept c (assign_kept c s token (assignment_of_sign sign) (is_null_as (type_of s.facts target) value) (type_of s.facts target)
        (type_of s.facts value) (expr s target) (expr s value) (expr_kept target) (expr_kept value))
    expr_kept (e.Conditional token condition first second) =
        conditional_kept c s token (expr s condition) (expr_kept condition)
        (arm_kept c (is_null_as (s.facts.type_at token) first) (type_of s.facts first) (s.facts.type_at token) (expr s first) (expr_kept first))
        (arm_kept c (is_null_as (s.facts.type_at token) second) (type_of s.facts second) (s.facts.type_at token) (expr s second) (expr_kept second))
        (arm_effect_kept c (is_null_as (s.facts.type_at token) first) (type_of s.facts first) (s.facts.type_at token) (expr s first) (expr_kept first))
        (arm_effect_kept c (is_null_as (s.facts.type_at token) second) (type_of s.facts second) (s.facts.type_at token) (expr s second) (expr_kept second))
    expr_kept (e.Chain level first links) =
        valued_kept c (seq (null_kept c (begins_null s.facts first links) (expr s first) (expr_kept first))
        (links_kept links (operand_type (begins_null s.facts first links) (type_of s.facts first))))
    expr_kept (e.Cast token base stars operand) =
        cast_kept c (is_null_as (s.facts.type_at token) operand) (s.facts.type_at token) (expr s operand) (expr_kept operand)
    expr_kept (e.Prefix token operator operand) =
        prefixed_kept c s token operator (type_of s.facts operand) (s.facts.cells_at (token_of operand)) (expr s operand) (expr_kept operand)
    expr_kept (e.SizeOfType token base stars) = size_kept c (s.facts.named_cells base stars)
    expr_kept (e.Postfix primary operators) =
        postfixed_kept c (ends_as_place (is_place primary) operators) (type_of s.facts (e.Postfix primary operators))
        (seq (spot_kept c (is_place primary) (expr s primary) (expr_kept primary)) (behind_kept operators (is_place primary) (type_of s.facts primary)))
    expr_kept (e.Name token name) = placed_kept c (s.facts.type_at token) (variable_kept c s token statics locals)
    expr_kept (e.Call token name arguments) =
        call_kept c s calls token (called_as (s.facts.function_at token) name) (expression_count arguments) (λ types. arguments_value s types arguments [])
        (λ want. lone_value s want arguments) (arguments_printed s arguments) (λ types. arguments_kept arguments types [] tt) (lone_kept arguments)
        (formatted_kept arguments)
    expr_kept (e.Constant token kind value) = valued_kept c (gives (Number kind value) (c.numbers kind value))
    expr_kept (e.Strings token parts) = valued_kept c (text_kept c s.facts (s.facts.text_at token) (statics.texts token))
    expr_kept (e.Paren token inner) = expr_kept inner
    expr_kept (e.Null token) = valued_kept c (gives Null c.null)
    expr_kept (e.EndOfFile token) = valued_kept c (gives (Number Int (negsuc 0)) (c.numbers Int (negsuc 0)))

    behind_kept : (operators : PostfixList) (known : Bool) (of : Option ValueType) (v : Scalar) → Q v → Keeps I Q (value_after_postfix s known of operators v)
    behind_kept e.no_postfix known of v h = gives v h
    behind_kept (e.index token i rest) known of v h =
        seq (settled_kept c known of v h) (λ p k. seq (expr_kept i).value (λ x j.
        seq (operate_kept c (operation op.Add of (type_of s.facts i)) p x k j) (behind_kept rest true (s.facts.type_at token))))
    behind_kept (e.member token name rest) known of v h = seq (member_kept c (s.facts.offset_at token) v h) (behind_kept rest true (s.facts.type_at token))
    behind_kept (e.arrow token name rest) known of v h =
        seq (settled_kept c known of v h) (λ p k. seq (member_kept c (s.facts.offset_at token) p k) (behind_kept rest true (s.facts.type_at token)))
    behind_kept (e.increment token rest) known of v h =
        seq (chosen known (stepped_behind_kept c s true token of v h) (stuck_kept c)) (behind_kept rest false (s.facts.type_at token))
    behind_kept (e.decrement token rest) known of v h =
        seq (chosen known (stepped_behind_kept c s false token of v h) (stuck_kept c)) (behind_kept rest false (s.facts.type_at token))

    links_kept : (links : LinkList) (left : Option ValueType) (v : Scalar) → Q v → Keeps I Q (links_value s left links v)
    links_kept e.no_links left v h = gives v h
    links_kept (e.more_links token sign operand rest) left v h =
        seq (linked_kept c s (joint_of_sign sign) token left (operand_type (is_null_beside (binary_of sign) left operand) (type_of s.facts operand)) _ v
        (null_kept c (is_null_beside (binary_of sign) left operand) (expr s operand) (expr_kept operand)) h) (links_kept rest (s.facts.type_at token))

    last_kept : (operands : ExprList) → SenseKept Q I (last_sense s operands)
    last_kept e.no_exprs = valued_kept c (stuck_kept c)
    last_kept (e.more_exprs x rest) = comma_kept c (expression_count rest) (expr s x) (last_sense s rest) (expr_kept x) (last_kept rest)

    arguments_kept : (arguments : ExprList) (types : List ValueType) (before : List Scalar) → AllByRecursion Q before
        → Keeps I (AllByRecursion Q) (arguments_value s types arguments before)
    arguments_kept e.no_exprs types before h = gives before h
    arguments_kept (e.more_exprs x rest) types before h =
        seq (handed_value_kept c (is_null_as (first_type types) x) (first_type types) (expr s x) (expr_kept x))
        (λ v k. arguments_kept rest (other_types types) (v ∷ before) (k, h))

    lone_kept : (arguments : ExprList) (want : Option ValueType → Option ValueType) → Keeps I Q (lone_value s want arguments)
    lone_kept e.no_exprs want = stuck_kept c
    lone_kept (e.more_exprs x rest) want =
        chosen (expression_count rest == 0)
        (handed_value_kept c (is_null_as (want (type_of s.facts x)) x) (want (type_of s.facts x)) (expr s x) (expr_kept x)) (stuck_kept c)

    formatted_kept : (arguments : ExprList) → Keeps I Any (arguments_printed s arguments)
    formatted_kept e.no_exprs = stuck_kept c
    formatted_kept (e.more_exprs x rest) =
        print_by_kept c (text_of_string s.facts x) (expression_count rest) (λ types. arguments_value s types rest []) (λ types. arguments_kept rest types [] tt)

  -- a condition, with the visit of its site
  pub condition_kept : (token : ℕ) (x : ExprTree) → Keeps I Any (condition s token x)
  condition_kept token x = seq (expr_kept x).value (decided_kept c s token)

-- The plain tree of each variant of an expression.
use Rattle.std.proofs.Common.{◌≡◌, ℕ, ℤ, List, Box, Vec, rules}
use Rattle.std.specs.Global.{Global}
use Rattle.cbi_base.specs.declared.scalar.Kind.{Kind}
use Rattle.c_syntax.specs.declared.token.Sign.{Sign}
use Rattle.c_syntax.specs.declared.parts.Base.{Base}
use Rattle.c_syntax.specs.declared.expr.PrefixOperator.{PrefixOperator}
use Rattle.c_syntax.specs.declared.expr.Expr.{Expr, the_lemmas}
use Rattle.c_syntax.specs.declared.expr.Expr.TheVariants as expr
use Rattle.c_syntax.specs.declared.expr.Link.{Link}
use Rattle.c_syntax.specs.declared.expr.PostfixOperator.{PostfixOperator}
use Rattle.c_syntax.specs.declared.expr.PostfixOperator.TheVariants as postfix
use Rattle.c_syntax.specs.ExprTree as e
use Rattle.c_syntax.specs.ExprTree.{LinkList, PostfixList}
use Rattle.c_syntax.specs.Plain.{plain_expr, plain_exprs, plain_links, plain_link, plain_operators, plain_postfix}

pub plain_comma : (token : ℕ) (operands : Vec Expr Global) → plain_expr (expr.Comma token operands) ≡ e.Comma token (plain_exprs operands.items)
plain_comma token operands = search (rules, the_lemmas)

pub plain_assign : (token : ℕ) (sign : Sign) (target value : Box Expr Global) →
    plain_expr (expr.Assign token sign target value) ≡ e.Assign token sign (plain_expr target.value) (plain_expr value.value)
plain_assign token sign target value = search (rules, the_lemmas)

pub plain_conditional : (token : ℕ) (condition first second : Box Expr Global) →
    plain_expr (expr.Conditional token condition first second) ≡ e.Conditional token (plain_expr condition.value) (plain_expr first.value) (plain_expr second.value)
plain_conditional token condition first second = search (rules, the_lemmas)

pub plain_chain : (level : ℕ) (first : Box Expr Global) (links : Vec Link Global) →
    plain_expr (expr.Chain level first links) ≡ e.Chain level (plain_expr first.value) (plain_links links.items)
plain_chain level first links = search (rules, the_lemmas)

pub plain_cast : (token : ℕ) (base : Base) (stars : ℕ) (operand : Box Expr Global) →
    plain_expr (expr.Cast token base stars operand) ≡ e.Cast token base stars (plain_expr operand.value)
plain_cast token base stars operand = search (rules, the_lemmas)

pub plain_prefix : (token : ℕ) (operator : PrefixOperator) (operand : Box Expr Global) →
    plain_expr (expr.Prefix token operator operand) ≡ e.Prefix token operator (plain_expr operand.value)
plain_prefix token operator operand = search (rules, the_lemmas)

pub plain_size_of_type : (token : ℕ) (base : Base) (stars : ℕ) → plain_expr (expr.SizeOfType token base stars) ≡ e.SizeOfType token base stars
plain_size_of_type token base stars = search (rules, the_lemmas)

pub plain_with_postfix : (primary : Box Expr Global) (operators : Vec PostfixOperator Global) →
    plain_expr (expr.Postfix primary operators) ≡ e.Postfix (plain_expr primary.value) (plain_operators operators.items)
plain_with_postfix primary operators = search (rules, the_lemmas)

pub plain_name : (token : ℕ) (name : List ℕ) → plain_expr (expr.Name token name) ≡ e.Name token name
plain_name token name = search (rules, the_lemmas)

pub plain_call : (token : ℕ) (name : List ℕ) (arguments : Vec Expr Global) → plain_expr (expr.Call token name arguments) ≡ e.Call token name (plain_exprs arguments.items)
plain_call token name arguments = search (rules, the_lemmas)

pub plain_constant : (token : ℕ) (kind : Kind) (value : ℤ) → plain_expr (expr.Constant token kind value) ≡ e.Constant token kind value
plain_constant token kind value = search (rules, the_lemmas)

pub plain_strings : (token : ℕ) (parts : List (List ℕ)) → plain_expr (expr.Strings token parts) ≡ e.Strings token parts
plain_strings token parts = search (rules, the_lemmas)

pub plain_paren : (token : ℕ) (inner : Box Expr Global) → plain_expr (expr.Paren token inner) ≡ e.Paren token (plain_expr inner.value)
plain_paren token inner = search (rules, the_lemmas)

pub plain_null : (token : ℕ) → plain_expr (expr.Null token) ≡ e.Null token
plain_null token = search (rules, the_lemmas)

pub plain_end_of_file : (token : ℕ) → plain_expr (expr.EndOfFile token) ≡ e.EndOfFile token
plain_end_of_file token = search (rules, the_lemmas)

-- A link and a postfix operator are what they put before those after them.
pub plain_link_before : (l : Link) (rest : LinkList) → plain_link l rest ≡ e.more_links l.token l.sign (plain_expr l.operand) rest
plain_link_before l rest = search (rules, the_lemmas)

pub plain_link_is : (l : Link) → plain_link l ≡ e.more_links l.token l.sign (plain_expr l.operand)
plain_link_is l = λ i. λ rest. plain_link_before l rest i

pub plain_index_before : (token : ℕ) (x : Expr) (rest : PostfixList) → plain_postfix (postfix.Index token x) rest ≡ e.index token (plain_expr x) rest
plain_index_before token x rest = search (rules, the_lemmas)

pub plain_index : (token : ℕ) (x : Expr) → plain_postfix (postfix.Index token x) ≡ e.index token (plain_expr x)
plain_index token x = λ i. λ rest. plain_index_before token x rest i

pub plain_member_before : (token : ℕ) (name : List ℕ) (rest : PostfixList) → plain_postfix (postfix.Member token name) rest ≡ e.member token name rest
plain_member_before token name rest = search (rules, the_lemmas)

pub plain_member : (token : ℕ) (name : List ℕ) → plain_postfix (postfix.Member token name) ≡ e.member token name
plain_member token name = λ i. λ rest. plain_member_before token name rest i

pub plain_arrow_before : (token : ℕ) (name : List ℕ) (rest : PostfixList) → plain_postfix (postfix.Arrow token name) rest ≡ e.arrow token name rest
plain_arrow_before token name rest = search (rules, the_lemmas)

pub plain_arrow : (token : ℕ) (name : List ℕ) → plain_postfix (postfix.Arrow token name) ≡ e.arrow token name
plain_arrow token name = λ i. λ rest. plain_arrow_before token name rest i

pub plain_increment_before : (token : ℕ) (rest : PostfixList) → plain_postfix (postfix.Increment token) rest ≡ e.increment token rest
plain_increment_before token rest = search (rules, the_lemmas)

pub plain_increment : (token : ℕ) → plain_postfix (postfix.Increment token) ≡ e.increment token
plain_increment token = λ i. λ rest. plain_increment_before token rest i

pub plain_decrement_before : (token : ℕ) (rest : PostfixList) → plain_postfix (postfix.Decrement token) rest ≡ e.decrement token rest
plain_decrement_before token rest = search (rules, the_lemmas)

pub plain_decrement : (token : ℕ) → plain_postfix (postfix.Decrement token) ≡ e.decrement token
plain_decrement token = λ i. λ rest. plain_decrement_before token rest i

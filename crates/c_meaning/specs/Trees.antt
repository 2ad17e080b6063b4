-- What a tree and its facts say before it runs.
use Rattle.std.specs.Prelude.{ℕ, zero, suc, Bool, true, false, List, [], ◌∷◌, Option, Some, None}
use Rattle.cbi_base.specs.declared.operators.Binary.{Binary}
use Rattle.cbi_base.specs.declared.operators.Binary.TheVariants as op
use Rattle.cbi_base.specs.declared.scalar.Kind.{Kind}
use Rattle.cbi_base.specs.declared.scalar.Kind.TheVariants.{Int, Unsigned}
use Rattle.c_syntax.specs.declared.token.Sign.{Sign}
use Rattle.c_syntax.specs.declared.token.Sign.TheVariants as sign
use Rattle.c_syntax.specs.declared.expr.PrefixOperator.TheVariants as prefix
use Rattle.c_syntax.specs.ExprTree as e
use Rattle.c_syntax.specs.ExprTree.{ExprTree, ExprList, LinkList, PostfixList}
use Rattle.c_types_rules.specs.declared.library.Library.{Library}
use Rattle.c_types_rules.specs.Library.{library_named}
use Rattle.c_types_expressions.specs.ExprWalk.{binary_of, compound_of}
use Rattle.c_meaning.specs.declared.value_type.ValueType.{ValueType}
use Rattle.c_meaning.specs.declared.value_type.ValueType.TheVariants as type
use Rattle.c_meaning.specs.declared.value_type.Called.{Called}
use Rattle.c_meaning.specs.declared.value_type.Called.TheVariants as called
use Rattle.c_meaning.specs.Conversions.{is_null_as}
use Rattle.c_meaning.specs.Facts.{Facts}

-- the token at which the type of the whole is known: that of its last operator
abbrev pub link_token : ℕ → LinkList → ℕ
link_token token e.no_links = token
link_token token (e.more_links next s operand rest) = link_token next rest

abbrev pub postfix_token : ℕ → PostfixList → ℕ
postfix_token token e.no_postfix = token
postfix_token token (e.index next i rest) = postfix_token next rest
postfix_token token (e.member next name rest) = postfix_token next rest
postfix_token token (e.arrow next name rest) = postfix_token next rest
postfix_token token (e.increment next rest) = postfix_token next rest
postfix_token token (e.decrement next rest) = postfix_token next rest

abbrev pub token_of : ExprTree → ℕ
token_of (e.Comma token operands) = token
token_of (e.Assign token s target value) = token
token_of (e.Conditional token condition first second) = token
token_of (e.Chain level first links) = link_token (token_of first) links
token_of (e.Cast token base stars operand) = token
token_of (e.Prefix token operator operand) = token
token_of (e.SizeOfType token base stars) = token
token_of (e.Postfix primary operators) = postfix_token (token_of primary) operators
token_of (e.Name token name) = token
token_of (e.Call token name arguments) = token
token_of (e.Constant token kind value) = token
token_of (e.Strings token parts) = token
token_of (e.Paren token inner) = token
token_of (e.Null token) = token
token_of (e.EndOfFile token) = token

abbrev pub type_of : Facts → ExprTree → Option ValueType
type_of facts x = facts.type_at (token_of x)

-- whether what the operators lead to is a place, where what stands before them is one or not
abbrev pub ends_as_place : Bool → PostfixList → Bool
ends_as_place is_place e.no_postfix = is_place
ends_as_place is_place (e.index token i rest) = ends_as_place true rest
ends_as_place is_place (e.member token name rest) = ends_as_place true rest
ends_as_place is_place (e.arrow token name rest) = ends_as_place true rest
ends_as_place is_place (e.increment token rest) = ends_as_place false rest
ends_as_place is_place (e.decrement token rest) = ends_as_place false rest

-- whether the expression is a place (C99 6.3.2.1p1)
abbrev pub is_place : ExprTree → Bool
is_place (e.Name token name) = true
is_place (e.Prefix token prefix.Indirection operand) = true
is_place (e.Postfix primary operators) = ends_as_place (is_place primary) operators
is_place (e.Paren token inner) = is_place inner
is_place x = false

abbrev pub expression_count : ExprList → ℕ
expression_count e.no_exprs = zero
expression_count (e.more_exprs x rest) = suc (expression_count rest)

-- what an assignment operator does: it stores, or it calculates before (C99 6.5.16)
pub data Assignment : Type 0 where
  Plain : Assignment
  By : Binary → Assignment

abbrev pub assigned_by : Option Binary → Assignment
assigned_by None = Plain
assigned_by (Some o) = By o

abbrev pub assignment_of_sign : Sign → Assignment
assignment_of_sign s = assigned_by (compound_of s)

-- An operator of a chain may leave its right side alone, or it calculates with both sides (C99 6.5.13, 6.5.14).
pub data Joint : Type 0 where
  Both : Joint
  Either : Joint
  Computes : Binary → Joint
  Unjoined : Joint

abbrev pub computing_joint : Option Binary → Joint
computing_joint None = Unjoined
computing_joint (Some o) = Computes o

abbrev pub joint_of_sign : Sign → Joint
joint_of_sign sign.AndAnd = Both
joint_of_sign sign.OrOr = Either
joint_of_sign s = computing_joint (binary_of s)

-- a null constant that is compared with a value of this type is a null pointer, where that is a pointer (C99 6.5.9p5)
abbrev pub is_null_beside : Option Binary → Option ValueType → ExprTree → Bool
is_null_beside (Some op.Eq) other x = is_null_as other x
is_null_beside (Some op.Ne) other x = is_null_as other x
is_null_beside o other x = false

-- whether the first operand of a chain is a null pointer because of the second one
abbrev pub begins_null : Facts → ExprTree → LinkList → Bool
begins_null facts first e.no_links = false
begins_null facts first (e.more_links token s operand rest) = is_null_beside (binary_of s) (type_of facts operand) first

-- the type of an operand that is a null pointer, or its own one
abbrev pub operand_type : Bool → Option ValueType → Option ValueType
operand_type true own = Some (type.Pointer 0)
operand_type false own = own

-- the kind of the 1 that `++` and `--` add or subtract, in the common type (C99 6.5.2.4, 6.5.3.1)
abbrev pub one_kind : Option ValueType → Kind
one_kind (Some (type.Number Unsigned)) = Unsigned
one_kind of = Int

abbrev pub step_of : Bool → Binary
step_of true = op.Add
step_of false = op.Sub

abbrev pub library_call : Option Library → Called
library_call None = called.Unknown
library_call (Some function) = called.Library function

-- what a call calls: no function of a text has a name of the library
abbrev pub called_as : Option ℕ → List ℕ → Called
called_as (Some number) name = called.Function number
called_as None name = library_call (library_named name)

abbrev pub first_type : List ValueType → Option ValueType
first_type [] = None
first_type (t ∷ ts) = Some t

abbrev pub other_types : List ValueType → List ValueType
other_types [] = []
other_types (t ∷ ts) = ts

abbrev pub has_value : ValueType → Bool
has_value type.Void = false
has_value t = true

-- Operators behind an operand, one after another.
use Rattle.std.specs.Prelude.{ℕ, zero, suc, Bool, true, false, Option}
use Rattle.cbi_base.specs.declared.operators.Binary.TheVariants as op
use Rattle.c_syntax.specs.ExprTree as e
use Rattle.c_syntax.specs.ExprTree.{ExprTree, PostfixList}
use Rattle.c_meaning.specs.declared.value_type.ValueType.{ValueType}
use Rattle.c_meaning.specs.Words.{Facts, Sites, operation, is_place, type_of}
use Rattle.lower_relation.specs.Expressions.{PostfixOperatorsDo, emitted_expression}
use Rattle.lower_relation.specs.Operators.{Member, Operates, OperandValue, PlaceOrValue, SteppedAs}
use Rattle.lower_relation.specs.Paths.{◌then◌, Nothing, PathOrStuck}
use Rattle.lower_nodes.specs.Made.{GraphPath}

-- The first of the operators: `known` says whether what stands before it is a place, and `taken` whether something takes its value.
abbrev pub first_part : Facts → Sites → Bool → Bool → Option ValueType → PostfixList → GraphPath ℕ
first_part facts sites taken known of e.no_postfix G = Nothing
first_part facts sites taken known of (e.index token i rest) G =
    OperandValue G known of then (emitted_expression G facts sites i).value then Operates G (operation op.Add of (type_of facts i))
first_part facts sites taken known of (e.member token name rest) G = Member G (facts.offset_at token)
first_part facts sites taken known of (e.arrow token name rest) G = OperandValue G known of then Member G (facts.offset_at token)
first_part facts sites taken known of (e.increment token rest) G = PathOrStuck G known (SteppedAs G facts sites taken true token of)
first_part facts sites taken known of (e.decrement token rest) G = PathOrStuck G known (SteppedAs G facts sites taken false token of)

-- whether it leads to a place
abbrev pub place_after : PostfixList → Bool
place_after (e.increment token rest) = false
place_after (e.decrement token rest) = false
place_after l = true

-- its token
abbrev pub token_after : PostfixList → ℕ
token_after e.no_postfix = 0
token_after (e.index token i rest) = token
token_after (e.member token name rest) = token
token_after (e.arrow token name rest) = token
token_after (e.increment token rest) = token
token_after (e.decrement token rest) = token

-- those after it
abbrev pub operators_after_first : PostfixList → PostfixList
operators_after_first e.no_postfix = e.no_postfix
operators_after_first (e.index token i rest) = rest
operators_after_first (e.member token name rest) = rest
operators_after_first (e.arrow token name rest) = rest
operators_after_first (e.increment token rest) = rest
operators_after_first (e.decrement token rest) = rest

-- whether what stands before the operator with this index is a place, and its type, where what stands before them all is one or not, and has this type
abbrev pub place_before : Bool → PostfixList → ℕ → Bool
place_before known l zero = known
place_before known l (suc j) = place_before (place_after l) (operators_after_first l) j

abbrev pub type_behind : Facts → Option ValueType → PostfixList → ℕ → Option ValueType
type_behind facts of l zero = of
type_behind facts of l (suc j) = type_behind facts (facts.type_at (token_after l)) (operators_after_first l) j

-- an operand, and the operators behind it
abbrev pub spots_part : Facts → Sites → Bool → ExprTree → PostfixList → GraphPath ℕ
spots_part facts sites taken primary operators G =
    PlaceOrValue G (is_place primary) (emitted_expression G facts sites primary) then PostfixOperatorsDo G facts sites taken (is_place primary)
    (type_of facts primary) operators

-- whether an expression is a value by its form: no operand of it is its place
abbrev pub is_nowhere : ExprTree → Bool
is_nowhere (e.Comma token operands) = false
is_nowhere (e.Prefix token operator operand) = false
is_nowhere (e.Postfix primary operators) = false
is_nowhere (e.Name token name) = false
is_nowhere (e.Paren token inner) = false
is_nowhere x = true

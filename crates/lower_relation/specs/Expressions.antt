-- What a graph does for an expression, one equation a construct (C99 6.5).
use Rattle.std.specs.Prelude.{ℕ, ◌==◌, ◌||◌, Bool, true, false, negsuc, List, Option, Some, None}
use Rattle.cbi_base.specs.declared.scalar.Kind.TheVariants.{Int}
use Rattle.cbi_base.specs.declared.operators.Binary.TheVariants as op
use Rattle.c_syntax.specs.ExprTree as e
use Rattle.c_syntax.specs.ExprTree.{ExprTree, ExprList, LinkList, PostfixList}
use Rattle.c_types_expressions.specs.ExprWalk.{binary_of}
use Rattle.flow.specs.declared.node.Node.TheVariants as node
use Rattle.c_meaning.specs.declared.value_type.ValueType.{ValueType}
use Rattle.c_meaning.specs.Words.{is_null_as, Facts, Sites, text_of_string, operation, token_of, type_of, ends_as_place, is_place, expression_count}
use Rattle.c_meaning.specs.Words.{assignment_of_sign, joint_of_sign}
use Rattle.c_meaning.specs.Words.{is_null_beside, begins_null, operand_type, called_as, first_type, other_types}
use Rattle.lower_relation.specs.Calls.{CallDoes, PrintPath}
use Rattle.lower_relation.specs.Operators.{Assign, Cast, Comma, Conditional, Decides, Linked, LinkedTruth, Member, Operates, Postfixed, Prefixed, OperandValue}
use Rattle.lower_relation.specs.Operators.{SizeValue, PlaceOrValue, SteppedAs, Variable}
use Rattle.lower_relation.specs.Paths.{Graph, Path, ◌then◌, Does, Emitted, Nothing, OneOf, PathOrStuck, Stuck, ValueTruth, Ways}
use Rattle.lower_relation.specs.Values.{ArmEffect, ArmValue, HandedValue, NullOr, NullTruth, EmittedPlace, EmittedValue}

-- the number of the string that an expression is
abbrev pub number_of_text : Facts → ExprTree → Option ℕ
number_of_text facts (e.Strings token parts) = facts.text_at token
number_of_text facts x = None

-- whether there are operators left
abbrev pub has_more : PostfixList → Bool
has_more e.no_postfix = false
has_more x = true

module _ (G : Graph) where
  -- the object of the string with this number
  abbrev pub TextPlace : Option ℕ → Path ℕ
  TextPlace None = Stuck G
  TextPlace (Some number) = Does G (node.Text number 0)

  -- The operators of a chain behind its first operand. A chain's truth is that of its value, or it is found without the value.
  abbrev pub ChainDoes : Bool → Option ValueType → Emitted → (Option ValueType → Path ℕ) → (Option ValueType → Path ℕ → Path Ways → Path Ways) → Emitted
  ChainDoes is_null of first links truths =
      let value : Path ℕ = NullOr G is_null first then links (operand_type is_null of) in
      record (EmittedValue G value) {
        truth = OneOf (ValueTruth G value)
            (truths (operand_type is_null of) (NullOr G is_null first) (NullTruth G is_null first));
      }

  module _ (facts : Facts) (sites : Sites) where
    abbrev mutual
      pub emitted_expression : ExprTree → Emitted
      emitted_expression (e.Comma token operands) = CommaDoes operands
      emitted_expression (e.Assign token sign target value) =
          EmittedValue G (Assign G facts sites token (assignment_of_sign sign) (is_null_as (type_of facts target) value) (type_of facts target)
          (type_of facts value)
          (emitted_expression target) (emitted_expression value))
      emitted_expression (e.Conditional token condition first second) =
          Conditional G facts sites token (emitted_expression condition)
          (ArmValue G (is_null_as (facts.type_at token) first) (type_of facts first) (facts.type_at token) (emitted_expression first))
          (ArmValue G (is_null_as (facts.type_at token) second) (type_of facts second) (facts.type_at token) (emitted_expression second))
          (ArmEffect G (is_null_as (facts.type_at token) first) (type_of facts first) (facts.type_at token) (emitted_expression first))
          (ArmEffect G (is_null_as (facts.type_at token) second) (type_of facts second) (facts.type_at token) (emitted_expression second))
      emitted_expression (e.Chain level first links) =
          ChainDoes (begins_null facts first links) (type_of facts first) (emitted_expression first) (λ left. LinksDo left links)
          (λ left R T. LinksHold left R T links)
      emitted_expression (e.Cast token base stars operand) =
          Cast G (is_null_as (facts.type_at token) operand) (facts.type_at token) (emitted_expression operand)
      emitted_expression (e.Prefix token operator operand) =
          Prefixed G facts sites token operator (type_of facts operand) (facts.cells_at (token_of operand)) (emitted_expression operand)
      emitted_expression (e.SizeOfType token base stars) = SizeValue G (facts.named_cells base stars)
      emitted_expression (e.Postfix primary operators) =
          Postfixed G (ends_as_place (is_place primary) operators) (type_of facts (e.Postfix primary operators))
          (PlaceOrValue G (is_place primary) (emitted_expression primary) then PostfixOperatorsDo true (is_place primary) (type_of facts primary) operators)
          (PlaceOrValue G (is_place primary) (emitted_expression primary) then PostfixOperatorsDo false (is_place primary) (type_of facts primary) operators)
      emitted_expression (e.Name token name) = EmittedPlace G (facts.type_at token) (Variable G (facts.slot_at token))
      emitted_expression (e.Call token name arguments) =
          CallDoes G facts sites token (called_as (facts.function_at token) name) (expression_count arguments) (λ types. ArgumentsDo types arguments)
          (λ want. OneArgumentDoes want arguments) (FormatDoes arguments)
      emitted_expression (e.Constant token kind value) = EmittedValue G (Does G (node.Push kind value 0))
      emitted_expression (e.Strings token parts) = EmittedValue G (TextPlace (facts.text_at token))
      emitted_expression (e.Paren token inner) = emitted_expression inner
      emitted_expression (e.Null token) = EmittedValue G (Does G (node.Null 0))
      emitted_expression (e.EndOfFile token) = EmittedValue G (Does G (node.Push Int (negsuc 0) 0))

      -- Operators behind an operand, from the left: `known` says whether what stands before them is a place, and `taken` whether something takes
      -- the value of the last one.
      pub PostfixOperatorsDo : Bool → Bool → Option ValueType → PostfixList → Path ℕ
      PostfixOperatorsDo taken known of e.no_postfix = Nothing
      PostfixOperatorsDo taken known of (e.index token i rest) =
          OperandValue G known of then (emitted_expression i).value then Operates G (operation op.Add of (type_of facts i)) then PostfixOperatorsDo taken true
          (facts.type_at token) rest
      PostfixOperatorsDo taken known of (e.member token name rest) =
          Member G (facts.offset_at token) then PostfixOperatorsDo taken true (facts.type_at token) rest
      PostfixOperatorsDo taken known of (e.arrow token name rest) =
          OperandValue G known of then Member G (facts.offset_at token) then PostfixOperatorsDo taken true (facts.type_at token) rest
      PostfixOperatorsDo taken known of (e.increment token rest) =
          PathOrStuck G known (SteppedAs G facts sites (taken || has_more rest) true token of) then PostfixOperatorsDo taken false (facts.type_at token) rest
      PostfixOperatorsDo taken known of (e.decrement token rest) =
          PathOrStuck G known (SteppedAs G facts sites (taken || has_more rest) false token of) then PostfixOperatorsDo taken false (facts.type_at token) rest

      -- the operators of a chain, from the left, where what stands before them has this type
      pub LinksDo : Option ValueType → LinkList → Path ℕ
      LinksDo left e.no_links = Nothing
      LinksDo left (e.more_links token sign operand rest) =
          Linked G facts sites (joint_of_sign sign) token left (operand_type (is_null_beside (binary_of sign) left operand) (type_of facts operand))
          (NullOr G (is_null_beside (binary_of sign) left operand) (emitted_expression operand))
          then LinksDo (facts.type_at token) rest

      -- the truth of a chain, from the left, where what stands before them has this type, this value and this truth
      pub LinksHold : Option ValueType → Path ℕ → Path Ways → LinkList → Path Ways
      LinksHold left R T e.no_links = T
      LinksHold left R T (e.more_links token sign operand rest) =
          LinksHold (facts.type_at token)
          (R then Linked G facts sites (joint_of_sign sign) token left (operand_type (is_null_beside (binary_of sign) left operand) (type_of facts operand))
          (NullOr G (is_null_beside (binary_of sign) left operand) (emitted_expression operand)))
          (LinkedTruth G facts sites (joint_of_sign sign) token left (operand_type (is_null_beside (binary_of sign) left operand) (type_of facts operand)) R T
          (NullOr G (is_null_beside (binary_of sign) left operand) (emitted_expression operand))
          (NullTruth G (is_null_beside (binary_of sign) left operand) (emitted_expression operand)))
          rest

      pub CommaDoes : ExprList → Emitted
      CommaDoes e.no_exprs = EmittedValue G (Stuck G)
      CommaDoes (e.more_exprs x rest) = Comma G (expression_count rest) (emitted_expression x) (CommaDoes rest)

      -- arguments of these types, the first one first
      pub ArgumentsDo : List ValueType → ExprList → Path ℕ
      ArgumentsDo types e.no_exprs = Nothing
      ArgumentsDo types (e.more_exprs x rest) =
          HandedValue G (is_null_as (first_type types) x) (first_type types) (emitted_expression x) then ArgumentsDo (other_types types) rest

      -- the one argument
      pub OneArgumentDoes : (Option ValueType → Option ValueType) → ExprList → Path ℕ
      OneArgumentDoes want e.no_exprs = Stuck G
      OneArgumentDoes want (e.more_exprs x rest) =
          PathOrStuck G (expression_count rest == 0) (HandedValue G (is_null_as (want (type_of facts x)) x) (want (type_of facts x)) (emitted_expression x))

      -- what `printf` does with its arguments
      pub FormatDoes : ExprList → Path ℕ
      FormatDoes e.no_exprs = Stuck G
      FormatDoes (e.more_exprs x rest) = PrintPath G (number_of_text facts x) (text_of_string facts x) (expression_count rest) (λ types. ArgumentsDo types rest)

    -- a condition, with the visit of its statement's site
    abbrev pub Condition : ℕ → ExprTree → Path Ways
    Condition token x = Decides G facts sites token (emitted_expression x).value (emitted_expression x).truth

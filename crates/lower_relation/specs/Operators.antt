-- What a graph does for each operator (C99 6.5).
use Rattle.std.specs.Prelude.{ℕ, zero, suc, pos, Bool, true, false, [], ◌∷◌, Option, Some, None}
use Rattle.cbi_base.specs.declared.operators.Unary.{Unary}
use Rattle.cbi_base.specs.declared.operators.Unary.TheVariants as unary
use Rattle.cbi_base.specs.declared.scalar.Kind.TheVariants.{Int, Unsigned}
use Rattle.cbi_base.specs.declared.scalar.Want.TheVariants as want
use Rattle.c_syntax.specs.declared.expr.PrefixOperator.{PrefixOperator}
use Rattle.c_syntax.specs.declared.expr.PrefixOperator.TheVariants as prefix
use Rattle.flow.specs.declared.node.Node.TheVariants as node
use Rattle.flow.specs.declared.site.Slot.{Slot}
use Rattle.flow.specs.declared.site.Slot.TheVariants as slot
use Rattle.c_meaning.specs.declared.operation.Operation.{Operation}
use Rattle.c_meaning.specs.declared.operation.Operation.TheVariants.{Numbers, MoveLeft, MoveRight, Span, Ordered, Wrong}
use Rattle.c_meaning.specs.declared.value_type.ValueType.{ValueType}
use Rattle.c_meaning.specs.declared.value_type.ValueType.TheVariants as type
use Rattle.c_meaning.specs.Words.{kind_conversion, conversion, Facts, Sites, left_kind, operation, right_kind, type_given, step_operation, Assignment, Plain}
use Rattle.c_meaning.specs.Words.{By, Joint}
use Rattle.c_meaning.specs.Words.{Both, Computes, Unjoined, one_kind, site_list}
use Rattle.c_meaning.specs.Trees as tree
use Rattle.lower_relation.specs.Paths.{Graph, Path, ◌then◌, Does, Either, Emitted, AlwaysFalse, ForkTo, MarksAll, Nothing, OneOf, Stuck, ValueTruth, AlwaysTrue}
use Rattle.lower_relation.specs.Paths.{SwappedWays, Ways}
use Rattle.lower_relation.specs.Values.{Converts, ConvertsBelow, DroppedValue, EmittedEffect, HandedOverAs, HandedValue, LoadAt, EmittedPlace, PushedConstant}
use Rattle.lower_relation.specs.Values.{EmittedValue, WantedValue}

module _ (G : Graph) where
  -- what is done with two values, the right one on top
  abbrev pub Operates : Operation → Path ℕ
  Operates (Numbers o left right) =
      ConvertsBelow G (kind_conversion left (left_kind o left right)) then Converts G (kind_conversion right (right_kind o left right)) then Does G
      (node.Math o 0)
  Operates (MoveLeft size) = Does G (node.Move size 0)
  Operates (MoveRight size) = Does G (node.Swap 0) then Does G (node.Move size 0)
  Operates (Span size) = Does G (node.Span size 0)
  Operates (Ordered o) = Does G (node.Order o 0)
  Operates Wrong = Stuck G

  -- the object of a variable
  abbrev pub Variable : Option Slot → Path ℕ
  Variable None = Stuck G
  Variable (Some (slot.Local index)) = Does G (node.Local index 0)
  Variable (Some (slot.Global index)) = Does G (node.Global index 0)

  -- a member, or an element, of the object at a place
  abbrev pub Member : Option ℕ → Path ℕ
  Member None = Stuck G
  Member (Some offset) = Does G (node.Member offset 0)

  -- a pointer becomes a place where it isn't null: a load of null is the trap
  abbrev pub PointerPlace : Path ℕ
  PointerPlace = Does G (node.Dup 0) then Either (ForkTo G) Nothing (Does G (node.Load want.Pointer 0))

  -- the value at a pointer: a load of a pointer looks at it as well
  abbrev pub LoadThrough : Option ValueType → Path ℕ
  LoadThrough (Some (type.Number kind)) = LoadAt G (Some (type.Number kind))
  LoadThrough (Some (type.Pointer size)) = LoadAt G (Some (type.Pointer size))
  LoadThrough of = PointerPlace then LoadAt G of

  -- the place that a pointer's value is
  abbrev pub EmittedIndirection : Option ValueType → Path ℕ → Emitted
  EmittedIndirection of R = record (EmittedPlace G of (R then PointerPlace)) { value = R then LoadThrough of; truth = ValueTruth G (R then LoadThrough of) }

  -- what stands before a postfix operator, as a value
  abbrev pub OperandValue : Bool → Option ValueType → Path ℕ
  OperandValue true of = LoadAt G of
  OperandValue false of = Nothing

  -- a place where it is one, and else a value
  abbrev pub PlaceOrValue : Bool → Emitted → Path ℕ
  PlaceOrValue true m = m.place
  PlaceOrValue false m = m.value

  -- what postfix operators lead to, the second path where nothing takes its value
  abbrev pub Postfixed : Bool → Option ValueType → Path ℕ → Path ℕ → Emitted
  Postfixed true of R S = EmittedPlace G of R
  Postfixed false of R S = record (EmittedValue G R) { effect = DroppedValue G S }

  -- the value of a cast, or nothing of it where it is one to `void`
  abbrev pub Cast : Bool → Option ValueType → Emitted → Emitted
  Cast is_null (Some type.Void) m = EmittedEffect G m.effect
  Cast is_null want m = EmittedValue G (HandedValue G is_null want m)

  -- one operand after another, of which the last gives the value
  abbrev pub Comma : ℕ → Emitted → Emitted → Emitted
  Comma zero m rest = m
  Comma (suc n) m rest = record {
    value = m.effect then rest.value;
    place = Stuck G;
    effect = m.effect then rest.effect;
    truth = OneOf (ValueTruth G (m.effect then rest.value)) (m.effect then rest.truth);
  }

  -- 1 where a value is true, else 0
  abbrev pub TruthAsInt : Path ℕ
  TruthAsInt = Does G (node.Sole unary.Not 0) then Does G (node.Sole unary.Not 0)

  abbrev pub SizeValue : Option ℕ → Emitted
  SizeValue None = EmittedValue G (Stuck G)
  SizeValue (Some cells) = PushedConstant G Unsigned cells

  -- a unary operator converts its operand, and then calculates
  abbrev pub OneOperand : Option ValueType → Option ValueType → Unary → Path ℕ
  OneOperand have want o = Converts G (conversion have want) then Does G (node.Sole o 0)

  module _ (facts : Facts) (sites : Sites) where
    -- a condition's value, with the visit of its site
    abbrev pub VisitedFork : ℕ → Path Ways
    VisitedFork token = MarksAll G (site_list (sites.branch_at token)) then ForkTo G

    -- the way of a condition with its site: without one, no value is needed
    abbrev pub DecidesAt : Option ℕ → Path ℕ → Path Ways → Path Ways
    DecidesAt None R T = T
    DecidesAt (Some site) R T = R then MarksAll G (site ∷ []) then ForkTo G

    abbrev pub Decides : ℕ → Path ℕ → Path Ways → Path Ways
    Decides token R T = DecidesAt (sites.branch_at token) R T

    -- what is assigned at the token is stored, and then the sites there are visited
    abbrev pub Assigned : ℕ → Path ℕ
    Assigned token = Does G (node.Store 0) then MarksAll G (sites.pairs_at token)

    -- an operation on the old value and a right value, whose result is converted and stored, the old value on top
    abbrev pub Updates : ℕ → Option ValueType → Operation → Path ℕ
    Updates token of o = Operates o then Converts G (conversion (type_given o of) of) then Assigned token

    -- from the place and the right value on
    abbrev pub CompoundAssigned : ℕ → Option ValueType → Operation → Path ℕ
    CompoundAssigned token of o = Does G (node.Over 0) then LoadAt G of then Does G (node.Swap 0) then Updates token of o

    -- `++` and `--` before a place
    abbrev pub Stepped : Bool → ℕ → Option ValueType → Path ℕ
    Stepped is_up token of =
        Does G (node.Dup 0) then LoadAt G of then Does G (node.Push (one_kind of) (pos 1) 0) then Updates token of (step_operation is_up of)

    -- behind a place they leave the old value
    abbrev pub SteppedBehind : Bool → ℕ → Option ValueType → Path ℕ
    SteppedBehind is_up token of =
        Does G (node.Dup 0) then LoadAt G of then Does G (node.Swap 0) then Does G (node.Over 0) then Does G (node.Push (one_kind of) (pos 1) 0)
        then Operates (step_operation is_up of) then Converts G (conversion (type_given (step_operation is_up of) of) of) then Assigned token
        then Does G (node.Drop 0)

    -- behind a place they leave the old value, or where nothing takes it perhaps the new one
    abbrev pub SteppedAs : Bool → Bool → ℕ → Option ValueType → Path ℕ
    SteppedAs true is_up token of = SteppedBehind is_up token of
    SteppedAs false is_up token of = Stepped is_up token of

    -- the right side of an operator of a chain
    abbrev pub Linked : Joint → ℕ → Option ValueType → Option ValueType → Path ℕ → Path ℕ
    Linked Both token left right R = Either (VisitedFork token) (R then TruthAsInt) (Does G (node.Push Int (pos 0) 0))
    Linked tree.Either token left right R = Either (VisitedFork token) (Does G (node.Push Int (pos 1) 0)) (R then TruthAsInt)
    Linked (Computes o) token left right R = R then Operates (operation o left right)
    Linked Unjoined token left right R = Stuck G

    -- the truth of an operator of a chain, by the value and the truth of its left side, and those of its right one
    abbrev pub LinkedTruth : Joint → ℕ → Option ValueType → Option ValueType → Path ℕ → Path Ways → Path ℕ → Path Ways → Path Ways
    LinkedTruth Both token left right R T S U = Either (Decides token R T) U AlwaysFalse
    LinkedTruth tree.Either token left right R T S U = Either (Decides token R T) AlwaysTrue U
    LinkedTruth (Computes o) token left right R T S U = ValueTruth G (R then S then Operates (operation o left right))
    LinkedTruth Unjoined token left right R T S U = R then Stuck G

    -- an assignment finds its place, then its value, which is converted and stored
    abbrev pub Assign : ℕ → Assignment → Bool → Option ValueType → Option ValueType → Emitted → Emitted → Path ℕ
    Assign token Plain is_null left right goal m = goal.place then WantedValue G is_null right left m then Assigned token
    Assign token (By o) is_null left right goal m = goal.place then m.value then CompoundAssigned token left (operation o left right)

    -- `? :`, whose arms become values of its type
    abbrev pub Conditional : ℕ → Emitted → Path ℕ → Path ℕ → Path ℕ → Path ℕ → Emitted
    Conditional token c R S first_effect second_effect = record {
      value = Either (Decides token c.value c.truth) R S;
      place = Stuck G;
      effect = Either (Decides token c.value c.truth) first_effect second_effect;
      truth = ValueTruth G (Either (Decides token c.value c.truth) R S);
    }

    -- the operand's truth, the other way round, or that of the value
    abbrev pub Negated : Emitted → Emitted
    Negated m =
        let value : Path ℕ = m.value then Does G (node.Sole unary.Not 0) in record
        (EmittedValue G value) { truth = OneOf (ValueTruth G value) (SwappedWays m.truth) }

    -- the operators before an operand of the type `of`
    abbrev pub Prefixed : ℕ → PrefixOperator → Option ValueType → Option ℕ → Emitted → Emitted
    Prefixed token prefix.Increment of cells m = EmittedValue G (m.place then Stepped true token of)
    Prefixed token prefix.Decrement of cells m = EmittedValue G (m.place then Stepped false token of)
    Prefixed token prefix.Address of cells m = EmittedValue G m.place
    Prefixed token prefix.Indirection of cells m = EmittedIndirection (facts.type_at token) m.value
    Prefixed token prefix.Plus of cells m = EmittedValue G (m.value then HandedOverAs G (facts.type_at token))
    Prefixed token prefix.Minus of cells m = EmittedValue G (m.value then OneOperand of (facts.type_at token) unary.Neg)
    Prefixed token prefix.Complement of cells m = EmittedValue G (m.value then OneOperand of (facts.type_at token) unary.Com)
    Prefixed token prefix.Not of cells m = Negated m
    Prefixed token prefix.SizeOf of cells m = SizeValue cells

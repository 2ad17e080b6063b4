-- Where a value of one type is used as one of another, and how places are read (C99 6.3).
use Rattle.std.specs.Prelude.{ℕ, pos, Bool, true, false, Option, Some}
use Rattle.cbi_base.specs.declared.scalar.Kind.{Kind}
use Rattle.cbi_base.specs.declared.scalar.Want.TheVariants as want
use Rattle.cbi_base.specs.declared.operators.Unary.TheVariants as unary
use Rattle.flow.specs.declared.node.Node.TheVariants as node
use Rattle.c_meaning.specs.declared.conversion.Conversion.{Conversion}
use Rattle.c_meaning.specs.declared.conversion.Conversion.TheVariants.{Keep, To, Misfit}
use Rattle.c_meaning.specs.declared.value_type.ValueType.{ValueType}
use Rattle.c_meaning.specs.declared.value_type.ValueType.TheVariants as type
use Rattle.c_meaning.specs.Words.{conversion, as_used, is_other_pointer, is_struct_value}
use Rattle.lower_relation.specs.Paths.{Graph, Path, ◌then◌, Does, Emitted, Nothing, Stuck, ValueTruth, Ways}

module _ (G : Graph) where
  -- the value on top is converted
  abbrev pub Converts : Conversion → Path ℕ
  Converts Keep = Nothing
  Converts (To kind) = Does G (node.Convert kind 0)
  Converts Misfit = Stuck G

  -- the value below it is
  abbrev pub ConvertsBelow : Conversion → Path ℕ
  ConvertsBelow Keep = Nothing
  ConvertsBelow (To kind) = Does G (node.Swap 0) then Does G (node.Convert kind 0) then Does G (node.Swap 0)
  ConvertsBelow Misfit = Stuck G

  -- a value is handed over as one of the type: an undefined one is met at once
  abbrev pub HandedOverAs : Option ValueType → Path ℕ
  HandedOverAs (Some (type.Number kind)) = Does G (node.Convert kind 0)
  HandedOverAs (Some (type.Pointer size)) = Does G (node.Dup 0) then Does G (node.Sole unary.Not 0) then Does G (node.Drop 0)
  HandedOverAs other = Stuck G

  -- the value of a place
  abbrev pub LoadAt : Option ValueType → Path ℕ
  LoadAt (Some (type.Number kind)) = Does G (node.Load (want.Number kind) 0)
  LoadAt (Some (type.Pointer size)) = Does G (node.Load want.Pointer 0)
  LoadAt (Some (type.Array size)) = Nothing
  LoadAt other = Stuck G

  -- a path whose value isn't taken
  abbrev pub DroppedValue : Path ℕ → Path ℕ
  DroppedValue R = R then Does G (node.Drop 0)

  -- a place whose value isn't taken: of a struct nothing is read
  abbrev pub DiscardedPlace : Bool → Option ValueType → Path ℕ
  DiscardedPlace true of = Does G (node.Drop 0)
  DiscardedPlace false of = DroppedValue (LoadAt of)

  -- an expression that is no place
  abbrev pub EmittedValue : Path ℕ → Emitted
  EmittedValue R = record { value = R; place = Stuck G; effect = DroppedValue R; truth = ValueTruth G R }

  -- a place of the type
  abbrev pub EmittedPlace : Option ValueType → Path ℕ → Emitted
  EmittedPlace of P = record {
    value = P then LoadAt of;
    place = P;
    effect = P then DiscardedPlace (is_struct_value of) of;
    truth = ValueTruth G (P then LoadAt of);
  }

  -- what is done for what it does alone
  abbrev pub EmittedEffect : Path ℕ → Emitted
  EmittedEffect R = record { value = Stuck G; place = Stuck G; effect = R; truth = Stuck G }

  abbrev pub PushedConstant : Kind → ℕ → Emitted
  PushedConstant kind n = EmittedValue (Does G (node.Push kind (pos n) 0))

  -- a null pointer in place of the value
  abbrev pub NullOr : Bool → Emitted → Path ℕ
  NullOr true m = Does G (node.Null 0)
  NullOr false m = m.value

  -- the truth of that
  abbrev pub NullTruth : Bool → Emitted → Path Ways
  NullTruth true m = ValueTruth G (Does G (node.Null 0))
  NullTruth false m = m.truth

  -- the value as one of the wanted type, as by assignment
  abbrev pub WantedValue : Bool → Option ValueType → Option ValueType → Emitted → Path ℕ
  WantedValue true have want m = Does G (node.Null 0)
  WantedValue false have want m = m.value then Converts (conversion have want)

  abbrev pub ArmAs : Bool → Option ValueType → Option ValueType → Path ℕ
  ArmAs true have want = HandedOverAs want
  ArmAs false have want = Converts (conversion have want)

  -- an arm of `? :` as a value of its type
  abbrev pub ArmValue : Bool → Option ValueType → Option ValueType → Emitted → Path ℕ
  ArmValue true have want m = Does G (node.Null 0)
  ArmValue false have want m = m.value then ArmAs (is_other_pointer (as_used have) want) have want

  -- the same where nothing takes the value of the whole
  abbrev pub ArmEffect : Bool → Option ValueType → Option ValueType → Emitted → Path ℕ
  ArmEffect is_null have (Some type.Void) m = m.effect
  ArmEffect is_null have want m = DroppedValue (ArmValue is_null have want m)

  -- the value as it is handed over
  abbrev pub HandedValue : Bool → Option ValueType → Emitted → Path ℕ
  HandedValue true want m = Does G (node.Null 0)
  HandedValue false want m = m.value then HandedOverAs want

-- Which values each operator takes and gives, by what the types of its operands are where values are computed.
use Rattle.std.specs.Prelude.{◌≡◌, Bool, true, false, Option, Some}
use Rattle.cbi_base.specs.declared.operators.Binary.{Binary}
use Rattle.cbi_base.specs.declared.scalar.Kind.TheVariants.{Int, Unsigned}
use Rattle.cbi_base.specs.Arithmetic.{kind_given}
use Rattle.c_syntax.specs.ExprTree.{ExprTree}
use Rattle.c_meaning.specs.declared.operation.Operation.{Operation}
use Rattle.c_meaning.specs.declared.operation.Operation.TheVariants.{Numbers, MoveLeft, MoveRight, Span, Ordered, Wrong}
use Rattle.c_meaning.specs.declared.value_type.ValueType.{ValueType}
use Rattle.c_meaning.specs.declared.value_type.ValueType.TheVariants as type
use Rattle.c_meaning.specs.Words.{is_null_as, Facts, left_kind, operation, type_given, Assignment, Plain, By, Joint, Both, Either, Computes, Unjoined}
use Rattle.c_meaning.specs.Words.{is_null_beside, operand_type, type_of}

abbrev pub IsNumberType : Option ValueType → Type 0
IsNumberType (Some (type.Number kind)) = Unit {0}
IsNumberType t = ⊥

-- a number of a kind that is left after the promotions (C99 6.3.1.1p2)
abbrev pub IsPromoted : Option ValueType → Type 0
IsPromoted (Some (type.Number Int)) = Unit {0}
IsPromoted (Some (type.Number Unsigned)) = Unit {0}
IsPromoted t = ⊥

abbrev pub IsPointer : Option ValueType → Type 0
IsPointer (Some (type.Pointer size)) = Unit {0}
IsPointer t = ⊥

-- a pointer, or an array, which is one where its value is used (C99 6.3.2.1p3)
abbrev pub IsPointing : Option ValueType → Type 0
IsPointing (Some (type.Pointer size)) = Unit {0}
IsPointing (Some (type.Array size)) = Unit {0}
IsPointing t = ⊥

-- C99 6.2.5p21
abbrev pub IsScalar : Option ValueType → Type 0
IsScalar (Some (type.Number kind)) = Unit {0}
IsScalar (Some (type.Pointer size)) = Unit {0}
IsScalar t = ⊥

-- a type whose values can be used
abbrev pub IsValue : Option ValueType → Type 0
IsValue (Some (type.Number kind)) = Unit {0}
IsValue (Some (type.Pointer size)) = Unit {0}
IsValue (Some (type.Array size)) = Unit {0}
IsValue t = ⊥

-- a type that an object can have: of a struct only the members are used
abbrev pub IsObject : Option ValueType → Type 0
IsObject (Some type.Struct) = Unit {0}
IsObject t = IsValue t

-- where the first is wanted, a value of the second is taken, as by assignment (C99 6.5.16.1)
abbrev pub TakesType : Option ValueType → Option ValueType → Type 0
TakesType (Some (type.Number kind)) (Some (type.Number other)) = Unit {0}
TakesType (Some (type.Pointer size)) (Some (type.Pointer other)) = Unit {0}
TakesType (Some (type.Pointer size)) (Some (type.Array other)) = Unit {0}
TakesType wanted have = ⊥

-- the same, or a null constant where a pointer is wanted
abbrev pub TakesOrNull : Bool → Option ValueType → Option ValueType → Type 0
TakesOrNull true wanted have = IsPointer wanted
TakesOrNull false wanted have = TakesType wanted have

-- the expression gives what is wanted
abbrev pub Accepts : Facts → Option ValueType → ExprTree → Type 0
Accepts facts wanted x = TakesOrNull (is_null_as wanted x) wanted (type_of facts x)

-- a cast takes the same, and anything where it is one to `void` (C99 6.5.4)
abbrev pub Casts : Bool → Option ValueType → Option ValueType → Type 0
Casts is_null (Some type.Void) have = Unit {0}
Casts is_null wanted have = TakesOrNull is_null wanted have

-- a pointer is moved by a number, in either order: of these types (C99 6.5.6p8)
abbrev pub Moves : Operation → Option ValueType → Option ValueType → Type 0
Moves (MoveLeft size) left right = IsPointing left × IsNumberType right
Moves (MoveRight size) left right = IsNumberType left × IsPointing right
Moves o left right = ⊥

-- the operation takes values of the first two types, and gives one of the third
abbrev pub Operates : Operation → Option ValueType → Option ValueType → Option ValueType → Type 0
Operates (Numbers o left right) x y t = (x ≡ Some (type.Number left)) × (y ≡ Some (type.Number right))
    × (t ≡ Some (type.Number (kind_given o (left_kind o left right))))
Operates (MoveLeft size) x y t = IsPointing x × IsNumberType y × IsPointing t
Operates (MoveRight size) x y t = IsNumberType x × IsPointing y × IsPointing t
Operates (Span size) x y t = IsPointing x × IsPointing y × (t ≡ Some (type.Number Int))
Operates (Ordered o) x y t = IsPointing x × IsPointing y × (t ≡ Some (type.Number Int))
Operates Wrong x y t = ⊥

-- A place of the first type is changed with a value of the second: what the operation gives is taken back (C99 6.5.16.2).
abbrev pub Changes : Operation → Option ValueType → Option ValueType → Type 0
Changes o of right = IsScalar of × Operates o of right (type_given o of) × TakesType of (type_given o of)

-- an assignment to a place of this type takes the value
abbrev pub Assigns : Facts → Assignment → Option ValueType → ExprTree → Type 0
Assigns facts Plain left x = Accepts facts left x
Assigns facts (By o) left x = Changes (operation o left (type_of facts x)) left (type_of facts x)

-- an operator of a chain takes values of the first two types, and gives one of the third
abbrev pub Joins : Joint → Option ValueType → Option ValueType → Option ValueType → Type 0
Joins Both left right t = t ≡ Some (type.Number Int)
Joins Either left right t = t ≡ Some (type.Number Int)
Joins (Computes o) left right t = Operates (operation o left right) left right t
Joins Unjoined left right t = ⊥

-- the type of an operand in a chain, beside one of the type `other`: that of a null pointer where it is a null constant
abbrev pub type_beside : Facts → Option Binary → Option ValueType → ExprTree → Option ValueType
type_beside facts o other x = operand_type (is_null_beside o other x) (type_of facts x)

-- an arm of `? :`, whose value is one of the type of the whole, or isn't used (C99 6.5.15)
abbrev pub Arm : Facts → Option ValueType → ExprTree → Type 0
Arm facts (Some type.Void) x = Unit {0}
Arm facts t x = Accepts facts t x

-- what operators lead to: a place that an object can have, or a value
abbrev pub OperatorsEnd : Bool → Option ValueType → Type 0
OperatorsEnd true t = IsObject t
OperatorsEnd false t = IsValue t

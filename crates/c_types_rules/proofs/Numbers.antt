-- Each operator on each two kinds of numbers.
use Rattle.std.proofs.Common.{◌≡◌, List, Ok, refl}
use Rattle.cbi_base.specs.declared.operators.Binary.{Binary}
use Rattle.cbi_base.specs.declared.operators.Binary.TheVariants as op
use Rattle.cbi_base.specs.declared.scalar.Kind.{Kind}
use Rattle.cbi_base.specs.declared.scalar.Kind.TheVariants as kind
use Rattle.c_types_rules.specs.declared.layout.StructType.{StructType}
use Rattle.c_types_rules.specs.Conversions.{of_kind, value_of}
use Rattle.c_types_rules.specs.Laws.{result_kind}
use Rattle.c_types_rules.specs.Operators.{typed_binary_operation}

abbrev pub Holds : List StructType → Kind → Kind → Binary → Type 0
Holds structs k l o = typed_binary_operation structs o (value_of (of_kind k)) (value_of (of_kind l)) ≡ Ok (value_of (of_kind (result_kind o k l)))

char_char : (structs : List StructType) (o : Binary) → Holds structs kind.Char kind.Char o
char_char structs op.Add = refl
char_char structs op.Sub = refl
char_char structs op.Mul = refl
char_char structs op.Div = refl
char_char structs op.Rem = refl
char_char structs op.Shl = refl
char_char structs op.Shr = refl
char_char structs op.And = refl
char_char structs op.Or = refl
char_char structs op.Xor = refl
char_char structs op.Lt = refl
char_char structs op.Le = refl
char_char structs op.Gt = refl
char_char structs op.Ge = refl
char_char structs op.Eq = refl
char_char structs op.Ne = refl

char_int : (structs : List StructType) (o : Binary) → Holds structs kind.Char kind.Int o
char_int structs op.Add = refl
char_int structs op.Sub = refl
char_int structs op.Mul = refl
char_int structs op.Div = refl
char_int structs op.Rem = refl
char_int structs op.Shl = refl
char_int structs op.Shr = refl
char_int structs op.And = refl
char_int structs op.Or = refl
char_int structs op.Xor = refl
char_int structs op.Lt = refl
char_int structs op.Le = refl
char_int structs op.Gt = refl
char_int structs op.Ge = refl
char_int structs op.Eq = refl
char_int structs op.Ne = refl

char_unsigned : (structs : List StructType) (o : Binary) → Holds structs kind.Char kind.Unsigned o
char_unsigned structs op.Add = refl
char_unsigned structs op.Sub = refl
char_unsigned structs op.Mul = refl
char_unsigned structs op.Div = refl
char_unsigned structs op.Rem = refl
char_unsigned structs op.Shl = refl
char_unsigned structs op.Shr = refl
char_unsigned structs op.And = refl
char_unsigned structs op.Or = refl
char_unsigned structs op.Xor = refl
char_unsigned structs op.Lt = refl
char_unsigned structs op.Le = refl
char_unsigned structs op.Gt = refl
char_unsigned structs op.Ge = refl
char_unsigned structs op.Eq = refl
char_unsigned structs op.Ne = refl

int_char : (structs : List StructType) (o : Binary) → Holds structs kind.Int kind.Char o
int_char structs op.Add = refl
int_char structs op.Sub = refl
int_char structs op.Mul = refl
int_char structs op.Div = refl
int_char structs op.Rem = refl
int_char structs op.Shl = refl
int_char structs op.Shr = refl
int_char structs op.And = refl
int_char structs op.Or = refl
int_char structs op.Xor = refl
int_char structs op.Lt = refl
int_char structs op.Le = refl
int_char structs op.Gt = refl
int_char structs op.Ge = refl
int_char structs op.Eq = refl
int_char structs op.Ne = refl

int_int : (structs : List StructType) (o : Binary) → Holds structs kind.Int kind.Int o
int_int structs op.Add = refl
int_int structs op.Sub = refl
int_int structs op.Mul = refl
int_int structs op.Div = refl
int_int structs op.Rem = refl
int_int structs op.Shl = refl
int_int structs op.Shr = refl
int_int structs op.And = refl
int_int structs op.Or = refl
int_int structs op.Xor = refl
int_int structs op.Lt = refl
int_int structs op.Le = refl
int_int structs op.Gt = refl
int_int structs op.Ge = refl
int_int structs op.Eq = refl
int_int structs op.Ne = refl

int_unsigned : (structs : List StructType) (o : Binary) → Holds structs kind.Int kind.Unsigned o
int_unsigned structs op.Add = refl
int_unsigned structs op.Sub = refl
int_unsigned structs op.Mul = refl
int_unsigned structs op.Div = refl
int_unsigned structs op.Rem = refl
int_unsigned structs op.Shl = refl
int_unsigned structs op.Shr = refl
int_unsigned structs op.And = refl
int_unsigned structs op.Or = refl
int_unsigned structs op.Xor = refl
int_unsigned structs op.Lt = refl
int_unsigned structs op.Le = refl
int_unsigned structs op.Gt = refl
int_unsigned structs op.Ge = refl
int_unsigned structs op.Eq = refl
int_unsigned structs op.Ne = refl

unsigned_char : (structs : List StructType) (o : Binary) → Holds structs kind.Unsigned kind.Char o
unsigned_char structs op.Add = refl
unsigned_char structs op.Sub = refl
unsigned_char structs op.Mul = refl
unsigned_char structs op.Div = refl
unsigned_char structs op.Rem = refl
unsigned_char structs op.Shl = refl
unsigned_char structs op.Shr = refl
unsigned_char structs op.And = refl
unsigned_char structs op.Or = refl
unsigned_char structs op.Xor = refl
unsigned_char structs op.Lt = refl
unsigned_char structs op.Le = refl
unsigned_char structs op.Gt = refl
unsigned_char structs op.Ge = refl
unsigned_char structs op.Eq = refl
unsigned_char structs op.Ne = refl

unsigned_int : (structs : List StructType) (o : Binary) → Holds structs kind.Unsigned kind.Int o
unsigned_int structs op.Add = refl
unsigned_int structs op.Sub = refl
unsigned_int structs op.Mul = refl
unsigned_int structs op.Div = refl
unsigned_int structs op.Rem = refl
unsigned_int structs op.Shl = refl
unsigned_int structs op.Shr = refl
unsigned_int structs op.And = refl
unsigned_int structs op.Or = refl
unsigned_int structs op.Xor = refl
unsigned_int structs op.Lt = refl
unsigned_int structs op.Le = refl
unsigned_int structs op.Gt = refl
unsigned_int structs op.Ge = refl
unsigned_int structs op.Eq = refl
unsigned_int structs op.Ne = refl

unsigned_unsigned : (structs : List StructType) (o : Binary) → Holds structs kind.Unsigned kind.Unsigned o
unsigned_unsigned structs op.Add = refl
unsigned_unsigned structs op.Sub = refl
unsigned_unsigned structs op.Mul = refl
unsigned_unsigned structs op.Div = refl
unsigned_unsigned structs op.Rem = refl
unsigned_unsigned structs op.Shl = refl
unsigned_unsigned structs op.Shr = refl
unsigned_unsigned structs op.And = refl
unsigned_unsigned structs op.Or = refl
unsigned_unsigned structs op.Xor = refl
unsigned_unsigned structs op.Lt = refl
unsigned_unsigned structs op.Le = refl
unsigned_unsigned structs op.Gt = refl
unsigned_unsigned structs op.Ge = refl
unsigned_unsigned structs op.Eq = refl
unsigned_unsigned structs op.Ne = refl

pub numbers : (structs : List StructType) (o : Binary) (k l : Kind) → Holds structs k l o
numbers structs o kind.Char kind.Char = char_char structs o
numbers structs o kind.Char kind.Int = char_int structs o
numbers structs o kind.Char kind.Unsigned = char_unsigned structs o
numbers structs o kind.Int kind.Char = int_char structs o
numbers structs o kind.Int kind.Int = int_int structs o
numbers structs o kind.Int kind.Unsigned = int_unsigned structs o
numbers structs o kind.Unsigned kind.Char = unsigned_char structs o
numbers structs o kind.Unsigned kind.Int = unsigned_int structs o
numbers structs o kind.Unsigned kind.Unsigned = unsigned_unsigned structs o

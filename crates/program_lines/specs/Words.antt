-- The words of a program file, each read by a plain body.
use Rattle.std.specs.Prelude.{ℕ, Bool, true, false, if◌then◌else◌, List, Option, None, Some, codes}
use Rattle.std.specs.Option.{option_map}
use Rattle.cbi_base.specs.Numbers.{is_word}
use Rattle.cbi_base.specs.declared.scalar.Want.{Want}
use Rattle.cbi_base.specs.declared.scalar.Want.TheVariants.{Number, Pointer}
use Rattle.cbi_base.specs.declared.operators.Binary.{Binary}
use Rattle.cbi_base.specs.declared.operators.Binary.TheVariants.{Add, Sub, Mul, Div, Rem, Shl, Shr, And, Or, Xor, Lt, Le, Gt, Ge, Eq, Ne}
use Rattle.cbi_base.specs.declared.operators.Order.{Order}
use Rattle.cbi_base.specs.declared.operators.Order.TheVariants as order
use Rattle.cbi_base.specs.declared.operators.Unary.{Unary}
use Rattle.cbi_base.specs.declared.operators.Unary.TheVariants.{Neg, Com, Not}
unfoldable pub use Rattle.value_lines.specs.ValueLines.{kind_of}

-- what a load wants
unfoldable pub want_of : List ℕ → Option Want
want_of field = if is_word field (codes "p") then Some Pointer else option_map Number (kind_of field)

abbrev pub comparison_of : List ℕ → Option Binary
comparison_of field =
    if is_word field (codes "lt") then Some Lt else
    (if is_word field (codes "le") then Some Le else
    (if is_word field (codes "gt") then Some Gt else
    (if is_word field (codes "ge") then Some Ge else
    (if is_word field (codes "eq") then Some Eq else
    (if is_word field (codes "ne") then Some Ne else None)))))

abbrev pub bitwise_of : List ℕ → Option Binary
bitwise_of field =
    if is_word field (codes "shl") then Some Shl else
    (if is_word field (codes "shr") then Some Shr else
    (if is_word field (codes "and") then Some And else
    (if is_word field (codes "or") then Some Or else
    (if is_word field (codes "xor") then Some Xor else comparison_of field))))

-- the operation with this word
unfoldable pub binary_of : List ℕ → Option Binary
binary_of field =
    if is_word field (codes "add") then Some Add else
    (if is_word field (codes "sub") then Some Sub else
    (if is_word field (codes "mul") then Some Mul else
    (if is_word field (codes "div") then Some Div else
    (if is_word field (codes "rem") then Some Rem else bitwise_of field))))

unfoldable pub unary_of : List ℕ → Option Unary
unary_of field =
    if is_word field (codes "neg") then Some Neg else
    (if is_word field (codes "com") then Some Com else (if is_word field (codes "not") then Some Not else None))

-- how two pointers are compared
unfoldable pub order_of : List ℕ → Option Order
order_of field =
    if is_word field (codes "lt") then Some order.Lt else
    (if is_word field (codes "le") then Some order.Le else
    (if is_word field (codes "gt") then Some order.Gt else
    (if is_word field (codes "ge") then Some order.Ge else
    (if is_word field (codes "eq") then Some order.Eq else
    (if is_word field (codes "ne") then Some order.Ne else None)))))

-- whether a function has a result
unfoldable pub result_of : List ℕ → Option Bool
result_of field = if is_word field (codes "value") then Some true else (if is_word field (codes "void") then Some false else None)

-- Initialisers (C99 6.7.8): what they may be, and how long they make an array.
use Rattle.std.specs.Prelude.{ℕ, ◌+◌, nat_le, Bool, true, false, not, ◌&&◌, ◌||◌, ◌==◌, if◌then◌else◌, List, [], ◌∷◌, length, Option, Some, None}
use Rattle.c_syntax.specs.declared.expr.PrefixOperator.{PrefixOperator}
use Rattle.c_syntax.specs.declared.expr.PrefixOperator.TheVariants as prefix
use Rattle.c_syntax.specs.ExprTree as e
use Rattle.c_syntax.specs.Words.{ExprTree, ExprList, first_token, InitialTree}
use Rattle.c_syntax.specs.StatementTree as s
use Rattle.c_types_rules.specs.declared.fault.FaultKind.TheVariants as fault
use Rattle.c_types_rules.specs.declared.operand.Operand.{Operand}
use Rattle.c_types_rules.specs.Words.{TypeTree, Char, Array, is_assignable, is_scalar}
use Rattle.c_types_expressions.specs.declared.walk.Walk.{Walk}
use Rattle.c_types_expressions.specs.Words.{Walked, Fine, Faulty, ◌>>=◌, walk_expr, walk_exprs, string_cells}

abbrev pub is_number : ExprTree → Bool
is_number (e.Constant token kind value) = true
is_number x = false

abbrev pub is_minus : PrefixOperator → Bool
is_minus prefix.Minus = true
is_minus operator = false

-- what initialises a global: a constant, a `-` before one, NULL, and a string
abbrev pub is_constant : ExprTree → Bool
is_constant (e.Constant token kind value) = true
is_constant (e.Prefix token operator operand) = is_minus operator && is_number operand
is_constant (e.Strings token parts) = true
is_constant (e.Null token) = true
is_constant x = false

-- whether the expression may initialise an object of the scalar type
abbrev pub is_scalar_initialiser : Bool → TypeTree → ExprTree → Operand → Bool
is_scalar_initialiser global t value x = is_scalar t && is_assignable t x && (not global || is_constant value)

abbrev pub all_initialise : Bool → TypeTree → ExprList → List Operand → Bool
all_initialise global t e.no_exprs xs = true
all_initialise global t (e.more_exprs value rest) [] = false
all_initialise global t (e.more_exprs value rest) (x ∷ xs) = is_scalar_initialiser global t value x && all_initialise global t rest xs

-- an array of this length, or of a length that isn't known yet, takes so many items
abbrev pub takes_items : ℕ → ℕ → Bool
takes_items size count = size == 0 || nat_le count size

abbrev pub known_length : ℕ → ℕ → ℕ
known_length size given = if size == 0 then given else size

-- an array type with another length
abbrev pub with_length : ℕ → TypeTree → TypeTree
with_length size (Array element old) = Array element size
with_length size t = t

abbrev pub length_of : TypeTree → ℕ
length_of (Array element size) = size
length_of t = 0

-- the type that a braced list completes
abbrev pub listed_type : Bool → ExprList → List Operand → TypeTree → Option TypeTree
listed_type global items xs (Array element size) =
    if is_scalar element && (takes_items size (length xs) && all_initialise global element items xs)
    then Some (Array element (known_length size (length xs)))
    else None
listed_type global items xs t = None

abbrev pub is_char : TypeTree → Bool
is_char Char = true
is_char t = false

abbrev pub is_char_array : TypeTree → Bool
is_char_array (Array element size) = is_char element
is_char_array t = false

-- The array that a string of so many cells completes. It takes a string also without its closing zero.
abbrev pub type_by_string : ℕ → TypeTree → Option TypeTree
type_by_string cells t =
    if length_of t == 0 || nat_le cells (length_of t + 1) then Some (with_length (known_length (length_of t) cells) t) else None

-- how many cells the expression has as a string, if it is one
abbrev pub cells_of_string : ExprTree → Option ℕ
cells_of_string (e.Strings token parts) = Some (string_cells parts)
cells_of_string x = None

abbrev pub type_if_initialised : Bool → TypeTree → ExprTree → Operand → Option TypeTree
type_if_initialised global t value x = if is_scalar_initialiser global t value x then Some t else None

abbrev pub type_by_expression : Bool → TypeTree → ExprTree → Operand → Option ℕ → Option TypeTree
type_by_expression global t value x None = type_if_initialised global t value x
type_by_expression global t value x (Some cells) = if is_char_array t then type_by_string cells t else type_if_initialised global t value x

-- the completed type, or a fault at the initialiser's first token
abbrev pub type_or_fault : ℕ → Option TypeTree → Walk → Walked TypeTree
type_or_fault token None w = Faulty fault.Initialiser token
type_or_fault token (Some t) w = Fine t w

-- An initialiser of an object of the type: the type as it completes it.
abbrev pub walk_initial : Bool → TypeTree → Option InitialTree → Walk → Walked TypeTree
walk_initial global t None w = Fine t w
walk_initial global t (Some (s.Value value)) w =
    walk_expr value w >>= λ x v. type_or_fault (first_token value) (type_by_expression global t value x (cells_of_string value)) v
walk_initial global t (Some (s.Braced token items comma)) w =
    walk_exprs items [] w >>= λ xs v. type_or_fault token (listed_type global items xs t) v

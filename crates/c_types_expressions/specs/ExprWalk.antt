-- The walk through an expression: its parts from left to right, and then the expression itself.
use Rattle.std.specs.Prelude.{ℕ, zero, suc, ◌+◌, Bool, true, false, List, [], ◌∷◌, ◌++◌, length, sum_by, Option, Some, None, Result, Ok, Err}
use Rattle.std.specs.Prelude.{if◌then◌else◌, slice_get}
use Rattle.cbi_base.specs.declared.operators.Binary.{Binary}
use Rattle.cbi_base.specs.declared.operators.Binary.TheVariants as op
use Rattle.cbi_base.specs.declared.operators.Unary.TheVariants as sole
use Rattle.c_syntax.specs.declared.token.Sign.{Sign}
use Rattle.c_syntax.specs.declared.token.Sign.TheVariants as sign
use Rattle.c_syntax.specs.declared.parts.Base.{Base}
use Rattle.c_syntax.specs.declared.parts.Base.TheVariants as base
use Rattle.c_syntax.specs.declared.expr.PrefixOperator.{PrefixOperator}
use Rattle.c_syntax.specs.declared.expr.PrefixOperator.TheVariants as prefix
use Rattle.c_syntax.specs.ExprTree as e
use Rattle.c_syntax.specs.ExprTree.{ExprTree, ExprList, LinkList, PostfixList}
use Rattle.c_types_rules.specs.declared.fault.FaultKind.{FaultKind}
use Rattle.c_types_rules.specs.declared.fault.FaultKind.TheVariants as fault
use Rattle.c_types_rules.specs.declared.layout.Member.{Member}
use Rattle.c_types_rules.specs.declared.layout.StructType.{StructType}
use Rattle.c_types_rules.specs.declared.library.Library.TheVariants as library
use Rattle.c_types_rules.specs.declared.operand.Operand.{Operand}
use Rattle.c_types_rules.specs.TypeTree as t
use Rattle.c_types_rules.specs.Words.{TypeTree, OperandOrFault, value_of, place_of, value_type, constant_of, string_of, null_of, parenthesized_operand}
use Rattle.c_types_rules.specs.Words.{typed_simple_assignment, typed_binary_operation}
use Rattle.c_types_rules.specs.Words.{joined_truths, typed_unary_arithmetic, typed_unary_operation, typed_increment, typed_compound_assignment, typed_sizeof}
use Rattle.c_types_rules.specs.Words.{cast_to, typed_conditional, typed_comma, typed_indirection, typed_address, typed_subscript}
use Rattle.c_types_rules.specs.Words.{member_of, member_behind, library_called, typed_printf}
use Rattle.c_types_rules.specs.Functions as functions
use Rattle.c_types_expressions.specs.declared.names.Meaning.{Meaning}
use Rattle.c_types_expressions.specs.declared.names.Meaning.TheVariants as meaning
use Rattle.c_types_expressions.specs.declared.walk.FunctionEntry.{FunctionEntry}
use Rattle.c_types_expressions.specs.declared.walk.Walk.{Walk}
use Rattle.c_types_expressions.specs.Names.{declared_meaning, meaning_of}
use Rattle.c_types_expressions.specs.Walked.{Walked, Fine, Faulty, ◌>>=◌, item_replaced, with_type}

-- The construct at the token is looked at, after its parts: it is this operand, or has this fault.
abbrev pub operand_noted : ℕ → OperandOrFault → Walk → Walked Operand
operand_noted token (Ok x) w = Fine x (with_type token x.ctype w)
operand_noted token (Err kind) w = Faulty kind token

-- the base of a type

abbrev pub tagged_type : ℕ → Option Meaning → Walk → Walked TypeTree
tagged_type token (Some (meaning.Struct index)) w = Fine (t.Struct index) w
tagged_type token m w = Faulty fault.Unknown token

abbrev pub base_type : Base → Walk → Walked TypeTree
base_type (base.Void token) w = Fine t.Void w
base_type (base.Char token) w = Fine t.Char w
base_type (base.Int token) w = Fine t.Int w
base_type (base.Unsigned token int) w = Fine t.Unsigned w
base_type (base.Struct token tag) w = tagged_type token (declared_meaning tag w.tags) w

-- the type with so many stars
abbrev pub with_stars : ℕ → TypeTree → TypeTree
with_stars zero b = b
with_stars (suc n) b = with_stars n (t.Pointer b)

-- names and calls

abbrev pub with_use : ℕ → ℕ → Walk → Walk
with_use token index w = record w { variables_at = item_replaced w.variables_at token (Some index) }

abbrev pub of_variable : ℕ → ℕ → Option TypeTree → Walk → Walked Operand
of_variable token index None w = Faulty fault.Unknown token
of_variable token index (Some declared) w = operand_noted token (Ok (place_of declared)) (with_use token index w)

-- a name that isn't called (C99 6.5.1p2)
abbrev pub named_operand : ℕ → Option Meaning → Walk → Walked Operand
named_operand token None w = Faulty fault.Unknown token
named_operand token (Some (meaning.Variable index)) w = of_variable token index (slice_get w.declared_types index) w
named_operand token (Some m) w = Faulty fault.Operands token

abbrev pub with_call : ℕ → ℕ → Walk → Walk
with_call token index w = record w { functions_at = item_replaced w.functions_at token (Some index) }

abbrev pub of_function : ℕ → ℕ → Option FunctionEntry → List Operand → Walk → Walked Operand
of_function token index None arguments w = Faulty fault.Unknown token
of_function token index (Some f) arguments w = operand_noted token (functions.typed_call f.ctype arguments) (with_call token index w)

abbrev pub called_name : ℕ → Option Meaning → List Operand → Walk → Walked Operand
called_name token None arguments w = Faulty fault.Unknown token
called_name token (Some (meaning.Function index)) arguments w = of_function token index (slice_get w.functions index) arguments w
called_name token (Some (meaning.Library function)) arguments w = operand_noted token (library_called function arguments) w
called_name token (Some m) arguments w = Faulty fault.Operands token

-- how many cells a string has: its bytes, and the closing zero
abbrev pub string_cells : List (List ℕ) → ℕ
string_cells parts = sum_by length parts + 1

-- operators

abbrev pub binary_of : Sign → Option Binary
binary_of sign.Bar = Some op.Or
binary_of sign.Caret = Some op.Xor
binary_of sign.Ampersand = Some op.And
binary_of sign.EqualEqual = Some op.Eq
binary_of sign.NotEqual = Some op.Ne
binary_of sign.Less = Some op.Lt
binary_of sign.Greater = Some op.Gt
binary_of sign.LessEqual = Some op.Le
binary_of sign.GreaterEqual = Some op.Ge
binary_of sign.ShiftLeft = Some op.Shl
binary_of sign.ShiftRight = Some op.Shr
binary_of sign.Plus = Some op.Add
binary_of sign.Minus = Some op.Sub
binary_of sign.Star = Some op.Mul
binary_of sign.Slash = Some op.Div
binary_of sign.Percent = Some op.Rem
binary_of _ = None

-- the operator of a compound assignment
abbrev pub compound_of : Sign → Option Binary
compound_of sign.StarEqual = Some op.Mul
compound_of sign.SlashEqual = Some op.Div
compound_of sign.PercentEqual = Some op.Rem
compound_of sign.PlusEqual = Some op.Add
compound_of sign.MinusEqual = Some op.Sub
compound_of sign.ShiftLeftEqual = Some op.Shl
compound_of sign.ShiftRightEqual = Some op.Shr
compound_of sign.AndEqual = Some op.And
compound_of sign.XorEqual = Some op.Xor
compound_of sign.OrEqual = Some op.Or
compound_of _ = None

-- `&&` and `||` aside, an operator of a chain is one on two numbers
abbrev pub typed_chain_operation : List StructType → Option Binary → Operand → Operand → OperandOrFault
typed_chain_operation structs None x y = joined_truths x y
typed_chain_operation structs (Some o) x y = typed_binary_operation structs o x y

abbrev pub typed_assignment : List StructType → Option Binary → Operand → Operand → OperandOrFault
typed_assignment structs None target x = typed_simple_assignment target x
typed_assignment structs (Some o) target x = typed_compound_assignment structs o target x

abbrev pub typed_prefix_operation : List StructType → PrefixOperator → Operand → OperandOrFault
typed_prefix_operation structs prefix.Increment x = typed_increment structs x
typed_prefix_operation structs prefix.Decrement x = typed_increment structs x
typed_prefix_operation structs prefix.SizeOf x = typed_sizeof structs x.ctype
typed_prefix_operation structs prefix.Address x = typed_address x
typed_prefix_operation structs prefix.Indirection x = typed_indirection x
typed_prefix_operation structs prefix.Plus x = typed_unary_arithmetic x
typed_prefix_operation structs prefix.Minus x = typed_unary_operation sole.Neg x
typed_prefix_operation structs prefix.Complement x = typed_unary_operation sole.Com x
typed_prefix_operation structs prefix.Not x = typed_unary_operation sole.Not x

abbrev pub with_offset : ℕ → ℕ → Walk → Walk
with_offset token offset w = record w { offsets_at = item_replaced w.offsets_at token (Some offset) }

abbrev pub selected_as : ℕ → Bool → TypeTree → ℕ → Walk → Walked Operand
selected_as token place t offset w = operand_noted token (Ok (record { ctype = t; place = place; null = false })) (with_offset token offset w)

-- the member that `.` or `->` at the token names
abbrev pub selected_member : ℕ → Bool → Result Member FaultKind → Walk → Walked Operand
selected_member token place (Err kind) w = Faulty kind token
selected_member token place (Ok m) w = selected_as token place m.ctype m.offset w

abbrev mutual
  pub walk_expr : ExprTree → Walk → Walked Operand
  walk_expr (e.Comma token operands) w = walk_exprs operands [] w >>= λ xs v. operand_noted token (typed_comma t.Void xs) v
  walk_expr (e.Assign token s target value) w =
      walk_expr target w >>= λ x v. walk_expr value v >>= λ y u. operand_noted token (typed_assignment u.structs (compound_of s) x y) u
  walk_expr (e.Conditional token condition first second) w =
      walk_expr condition w >>= λ c v. walk_expr first v >>= λ x u. walk_expr second u >>= λ y r. operand_noted token (typed_conditional c x y) r
  walk_expr (e.Chain level first links) w = walk_expr first w >>= λ x v. walk_links links x v
  walk_expr (e.Cast token b stars operand) w =
      base_type b w >>= λ named_type v. walk_expr operand v >>= λ x u. operand_noted token (cast_to (with_stars stars named_type) x) u
  walk_expr (e.Prefix token operator operand) w = walk_expr operand w >>= λ x v. operand_noted token (typed_prefix_operation v.structs operator x) v
  walk_expr (e.SizeOfType token b stars) w = base_type b w >>= λ named_type v. operand_noted token (typed_sizeof v.structs (with_stars stars named_type)) v
  walk_expr (e.Postfix primary operators) w = walk_expr primary w >>= λ x v. walk_postfix operators x v
  walk_expr (e.Name token name) w = named_operand token (meaning_of name w.names) w
  walk_expr (e.Call token name arguments) w = walk_exprs arguments [] w >>= λ xs v. called_name token (meaning_of name v.names) xs v
  walk_expr (e.Constant token kind value) w = operand_noted token (Ok (constant_of kind value)) w
  walk_expr (e.Strings token parts) w = operand_noted token (Ok (string_of (string_cells parts))) w
  walk_expr (e.Paren token inner) w = walk_expr inner w >>= λ x v. operand_noted token (Ok (parenthesized_operand x)) v
  walk_expr (e.Null token) w = operand_noted token (Ok null_of) w
  walk_expr (e.EndOfFile token) w = operand_noted token (Ok (value_of t.Int)) w

  -- several expressions, each after the ones before it
  pub walk_exprs : ExprList → List Operand → Walk → Walked (List Operand)
  walk_exprs e.no_exprs before w = Fine before w
  walk_exprs (e.more_exprs x rest) before w = walk_expr x w >>= λ y v. walk_exprs rest (before ++ y ∷ []) v

  -- each operator of a chain after its two operands, from the left
  pub walk_links : LinkList → Operand → Walk → Walked Operand
  walk_links e.no_links left w = Fine left w
  walk_links (e.more_links token s operand rest) left w =
      walk_expr operand w >>= λ right v. operand_noted token (typed_chain_operation v.structs (binary_of s) left right) v >>= λ x u. walk_links rest x u

  -- each operator behind its operand, from the left
  pub walk_postfix : PostfixList → Operand → Walk → Walked Operand
  walk_postfix e.no_postfix left w = Fine left w
  walk_postfix (e.index token x rest) left w =
      walk_expr x w >>= λ right v. operand_noted token (typed_subscript v.structs left right) v >>= λ y u. walk_postfix rest y u
  walk_postfix (e.member token name rest) left w =
      selected_member token left.place (member_of w.structs name left.ctype) w >>= λ y u. walk_postfix rest y u
  walk_postfix (e.arrow token name rest) left w =
      selected_member token true (member_behind w.structs name (value_type left)) w >>= λ y u. walk_postfix rest y u
  walk_postfix (e.increment token rest) left w = operand_noted token (typed_increment w.structs left) w >>= λ y u. walk_postfix rest y u
  walk_postfix (e.decrement token rest) left w = operand_noted token (typed_increment w.structs left) w >>= λ y u. walk_postfix rest y u

-- `printf` is only the whole expression of a statement, and its first argument is a string.

abbrev pub is_printf : Option Meaning → Bool
is_printf (Some (meaning.Library library.Printf)) = true
is_printf m = false

abbrev pub concatenated_strings : List (List ℕ) → List ℕ
concatenated_strings [] = []
concatenated_strings (part ∷ parts) = part ++ concatenated_strings parts

abbrev pub formatted_call : List (List ℕ) → List Operand → OperandOrFault
formatted_call parts [] = Err fault.Arguments
formatted_call parts (x ∷ xs) = typed_printf (concatenated_strings parts) xs

abbrev pub formatted_by : ExprTree → List Operand → OperandOrFault
formatted_by (e.Strings token parts) xs = formatted_call parts xs
formatted_by x xs = Err fault.Arguments

abbrev pub format_of : ExprList → List Operand → OperandOrFault
format_of e.no_exprs xs = Err fault.Arguments
format_of (e.more_exprs x rest) xs = formatted_by x xs

abbrev pub whole_call : ℕ → Option Meaning → ExprList → List Operand → Walk → Walked Operand
whole_call token m arguments xs w = if is_printf m then operand_noted token (format_of arguments xs) w else called_name token m xs w

-- the whole expression of a statement
abbrev pub walk_whole : ExprTree → Walk → Walked Operand
walk_whole (e.Call token name arguments) w = walk_exprs arguments [] w >>= λ xs v. whole_call token (meaning_of name v.names) arguments xs v
walk_whole x w = walk_expr x w

-- The walk through declarations and statements: their parts from left to right, and then the construct itself.
use Rattle.std.specs.Prelude.{ℕ, ◌+◌, nat_le, Bool, true, false, not, ◌&&◌, ◌||◌, if◌then◌else◌, List, [], ◌∷◌, length, Option, Some, None, is_some}
use Rattle.c_syntax.specs.Words.{ExprTree, StartTree, DeclarationTree, ForStartTree, StatementTree, EntryList}
use Rattle.c_syntax.specs.StatementTree as s
use Rattle.c_types_rules.specs.declared.fault.FaultKind.TheVariants as fault
use Rattle.c_types_rules.specs.declared.operand.Operand.{Operand}
use Rattle.c_types_rules.specs.Words.{TypeTree, is_assignable, is_void, is_struct, is_scalar_value, is_object, cells_of, most_cells}
use Rattle.c_types_expressions.specs.declared.walk.Walk.{Walk}
use Rattle.c_types_expressions.specs.Words.{is_name_taken, Walked, Fine, Faulty, ◌>>=◌, Done, fault_if_wrong, item_replaced, with_variable, scope_opened}
use Rattle.c_types_expressions.specs.Words.{scope_closed, base_type}
use Rattle.c_types_expressions.specs.Words.{walk_expr, walk_whole}
use Rattle.c_types_walk.specs.Declarators.{declared_type, is_open}
use Rattle.c_types_walk.specs.Initialisers.{walk_initial}

-- The cells of a global count together with those of the globals before it.
abbrev pub counted_cells : Bool → ℕ → ℕ → Walk → Walked Done
counted_cells global token cells w =
    if not global then Fine tt w
    else if nat_le (w.global_cells + cells) most_cells then Fine tt (record w { global_cells = w.global_cells + cells })
    else Faulty fault.Object token

-- a variable may have the type
abbrev pub object_type_checked : Bool → ℕ → TypeTree → Walk → Walked Done
object_type_checked global token t w = if is_object w.structs t then counted_cells global token (cells_of w.structs t) w else Faulty fault.Object token

-- the variable with this number has the type
abbrev pub with_declared_type : ℕ → TypeTree → Walk → Walk
with_declared_type index t w = record w { declared_types = item_replaced w.declared_types index t }

-- an array whose length its initialiser gives
abbrev pub walk_open : Bool → StartTree → TypeTree → Walk → Walked Done
walk_open global x t w =
    walk_initial global t x.initial (with_variable global x.declarator.name_token x.declarator.name t w) >>= λ u v.
    object_type_checked global x.token u v >>= λ _ r. Fine tt (with_declared_type (length w.variables) u r)

-- any other variable
abbrev pub walk_closed : Bool → StartTree → TypeTree → Walk → Walked Done
walk_closed global x t w =
    object_type_checked global x.token t w >>= λ _ v.
    walk_initial global t x.initial (with_variable global x.declarator.name_token x.declarator.name t v) >>= λ _ u. Fine tt u

unfoldable pub walk_typed : Bool → StartTree → Option TypeTree → Walk → Walked Done
walk_typed global x None w = Faulty fault.Object x.token
walk_typed global x (Some t) w =
    if is_some x.initial && is_open w.structs t then walk_open global x t w else walk_closed global x t w

-- A variable: its name is new in its scope, and it is in scope from the end of its declarator on (C99 6.2.1p7).
abbrev pub walk_start : Bool → TypeTree → StartTree → Walk → Walked Done
walk_start global b x w =
    if is_name_taken x.declarator.name w.names then Faulty fault.Redeclared x.token
    else walk_typed global x (declared_type x.declarator b) w

abbrev pub walk_starts : Bool → TypeTree → List StartTree → Walk → Walked Done
walk_starts global b [] w = Fine tt w
walk_starts global b (x ∷ xs) w = walk_start global b x w >>= λ _ v. walk_starts global b xs v

abbrev pub walk_declaration : Bool → DeclarationTree → Walk → Walked Done
walk_declaration global d w = base_type d.base w >>= λ b v. walk_starts global b d.starts v

-- a condition is a scalar (C99 6.8.4, 6.8.5)
abbrev pub condition_checked : ℕ → Operand → Walk → Walked Done
condition_checked token x w = fault_if_wrong (not (is_scalar_value x)) fault.Operands token w

-- The value of an expression that stands as a statement is given up. A struct has none that could be used.
abbrev pub given_up : ℕ → Operand → Walk → Walked Done
given_up token x w = fault_if_wrong (is_struct x.ctype) fault.Operands token w

-- a condition that stands behind what it decides
abbrev pub walk_condition : ℕ → ExprTree → Walk → Walked Done
walk_condition token condition w = walk_expr condition w >>= condition_checked token

-- an expression that stands as a statement
abbrev pub walk_given_up : ℕ → ExprTree → Walk → Walked Done
walk_given_up token x w = walk_whole x w >>= given_up token

-- `return` with a value (C99 6.8.6.4)
abbrev pub returned_value_checked : ℕ → TypeTree → Operand → Walk → Walked Done
returned_value_checked token gives x w = if is_void gives then Faulty fault.Jump token else fault_if_wrong (not (is_assignable gives x)) fault.Operands token w

abbrev pub walk_optional : Option ExprTree → Walk → Walked (Option Operand)
walk_optional None w = Fine None w
walk_optional (Some x) w = walk_expr x w >>= λ y v. Fine (Some y) v

abbrev pub walk_for_start : ForStartTree → Walk → Walked (Option Operand)
walk_for_start (s.Declares declaration) w = walk_declaration false declaration w >>= λ _ v. Fine None v
walk_for_start (s.Computes x) w = walk_optional x w

abbrev pub is_struct_part : Option Operand → Bool
is_struct_part None = false
is_struct_part (Some x) = is_struct x.ctype

abbrev pub is_condition_part : Option Operand → Bool
is_condition_part None = true
is_condition_part (Some x) = is_scalar_value x

-- the parts of a `for`: its condition is a scalar, and no other part a struct
abbrev pub for_parts_checked : ℕ → Option Operand → Option Operand → Option Operand → Walk → Walked Done
for_parts_checked token start condition step w =
    fault_if_wrong (is_struct_part start || not (is_condition_part condition) || is_struct_part step) fault.Operands token w

-- `gives` is what the function gives, and `looping` whether a loop is around.
abbrev mutual
  pub walk_statement : TypeTree → Bool → StatementTree → Walk → Walked Done
  walk_statement gives looping (s.Block token entries) w = walk_entries gives looping entries (scope_opened w) >>= scope_closed
  walk_statement gives looping (s.Empty token) w = Fine tt w
  walk_statement gives looping (s.Expr token x) w = walk_whole x w >>= given_up token
  walk_statement gives looping (s.If token condition first) w =
      walk_expr condition w >>= λ x v. walk_statement gives looping first v >>= λ _ u. condition_checked token x u
  walk_statement gives looping (s.IfElse token condition first second) w =
      walk_expr condition w >>= λ x v. walk_statement gives looping first v >>= λ _ u. walk_statement gives looping second u >>= λ _ r. condition_checked token
      x r
  walk_statement gives looping (s.While token condition body) w =
      walk_expr condition w >>= λ x v. walk_statement gives true body v >>= λ _ u. condition_checked token x u
  walk_statement gives looping (s.Do token body condition) w =
      walk_statement gives true body w >>= λ _ v. walk_expr condition v >>= condition_checked token
  walk_statement gives looping (s.For token start condition step body) w =
      walk_for_start start (scope_opened w) >>= λ x v. walk_optional condition v >>= λ y u. walk_optional step u >>= λ z r.
      walk_statement gives true body r >>= λ _ q. for_parts_checked token x y z q >>= scope_closed
  walk_statement gives looping (s.Return token None) w = fault_if_wrong (not (is_void gives)) fault.Jump token w
  walk_statement gives looping (s.Return token (Some value)) w = walk_expr value w >>= returned_value_checked token gives
  walk_statement gives looping (s.Break token) w = fault_if_wrong (not looping) fault.Jump token w
  walk_statement gives looping (s.Continue token) w = fault_if_wrong (not looping) fault.Jump token w

  pub walk_entries : TypeTree → Bool → EntryList → Walk → Walked Done
  walk_entries gives looping s.no_entries w = Fine tt w
  walk_entries gives looping (s.declared declaration rest) w = walk_declaration false declaration w >>= λ _ v. walk_entries gives looping rest v
  walk_entries gives looping (s.stated statement rest) w = walk_statement gives looping statement w >>= λ _ v. walk_entries gives looping rest v

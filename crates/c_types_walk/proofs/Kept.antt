-- What the walk through declarations and statements keeps: each relation that expressions keep, and besides them declared variables and the ends of scopes.
use Rattle.std.proofs.Common.{◌≡◌, ℕ, Bool, true, false, List, [], ◌∷◌, Option, Some, None, if◌then◌else◌}
use Rattle.std.specs.Prelude.{is_some, not, ◌&&◌}
use Rattle.c_syntax.specs.Words.{ExprTree, first_token, DeclarationTree, EntryList, ForStartTree, InitialTree, StartTree, StatementTree}
use Rattle.c_syntax.specs.StatementTree as s
use Rattle.c_types_rules.specs.declared.fault.FaultKind.{FaultKind}
use Rattle.c_types_rules.specs.declared.fault.FaultKind.TheVariants as fault
use Rattle.c_types_rules.specs.Words.{TypeTree, is_assignable, is_struct, is_void, is_scalar_value, cells_of, is_object}
use Rattle.c_types_expressions.specs.declared.walk.Walk.{Walk}
use Rattle.c_types_expressions.specs.Words.{base_type, walk_expr, walk_exprs, walk_whole, is_name_taken, Done, Walked, Fine, Faulty, ◌>>=◌, scope_closed, scope_opened}
use Rattle.c_types_expressions.specs.Words.{fault_if_wrong, with_variable}
use Rattle.c_types_expressions.proofs.Kept.{IsKeptByExpressions, Keeps, base_keeps, both, either, step_before}
use Rattle.c_types_walk.specs.Declarators.{declared_type, is_open}
use Rattle.c_types_walk.specs.Initialisers.{cells_of_string, type_or_fault, listed_type, type_by_expression, walk_initial}
use Rattle.c_types_walk.specs.StatementWalk.{counted_cells, for_parts_checked, object_type_checked, walk_closed, walk_declaration, walk_entries, walk_for_start, walk_open, walk_optional}
use Rattle.c_types_walk.specs.StatementWalk.{walk_start, walk_starts, walk_statement, walk_typed, with_declared_type}

-- initialisers and declarations

module _ (R : Walk → Walk → Type 0) (k : IsKeptByExpressions R) where
  -- an initialiser that was looked at
  completed_keeps : (token : ℕ) (o : Option TypeTree) (w : Walk) → Keeps R w (type_or_fault token o w)
  completed_keeps token None w = tt
  completed_keeps token (Some of) w = k.here w

  -- an initialiser
  pub initial_keeps : (global : Bool) (of : TypeTree) (x : Option InitialTree) (w : Walk) → Keeps R w (walk_initial global of x w)
  initial_keeps global of None w = k.here w
  initial_keeps global of (Some (s.Value value)) w = both R k.next w (walk_expr value w) _ (k.expr value w)
      (λ x v. completed_keeps (first_token value) (type_by_expression global of value x (cells_of_string value)) v)
  initial_keeps global of (Some (s.Braced token items comma)) w = both R k.next w (walk_exprs items [] w) _ (k.exprs items [] w)
      (λ xs v. completed_keeps token (listed_type global items xs of) v)

-- Each step of a declared variable keeps the relation: its name, its type, and the cells of a global.
pub record IsKeptByVariables (global : Bool) (R : Walk → Walk → Type 0) : Type 0 where
  pub expressions : IsKeptByExpressions R
  pub declared : (token : ℕ) (name : List ℕ) (t : TypeTree) (w : Walk) → R w (with_variable global token name t w)
  pub retyped : (index : ℕ) (t : TypeTree) (w : Walk) → R w (with_declared_type index t w)
  pub counted : (token cells : ℕ) (w : Walk) → Keeps R w (counted_cells global token cells w)

module _ (global : Bool) (R : Walk → Walk → Type 0) (k : IsKeptByVariables global R) where
  -- a type that a variable may have, or may not
  sized_by : (b : Bool) (token : ℕ) (w : Walk) (r : Walked Done) → Keeps R w r → Keeps R w (if b then r else Faulty fault.Object token)
  sized_by b token w r h = either R w b r (Faulty fault.Object token) h tt

  -- the type of a variable
  sized_keeps : (token : ℕ) (of : TypeTree) (w : Walk) → Keeps R w (object_type_checked global token of w)
  sized_keeps token of w =
      sized_by (is_object w.structs of) token w (counted_cells global token (cells_of w.structs of) w) (k.counted token (cells_of w.structs of) w)

  -- the name of a variable, and its initialiser
  named_keeps : {A : Type 0} (x : StartTree) (of : TypeTree) (w : Walk) (next : TypeTree → Walk → Walked A)
      → ((u : TypeTree) (v : Walk) → Keeps R v (next u v))
      → Keeps R w (walk_initial global of x.initial (with_variable global x.declarator.name_token x.declarator.name of w) >>= next)
  named_keeps x of w next h =
      let first : Walk = with_variable global x.declarator.name_token x.declarator.name of w in
      step_before R k.expressions.next w first (walk_initial global of x.initial first >>= next) (k.declared x.declarator.name_token x.declarator.name of w)
      (both R k.expressions.next first (walk_initial global of x.initial first) next (initial_keeps R k.expressions global of x.initial first) h)

  -- an array whose length its initialiser gives
  open_keeps : (x : StartTree) (of : TypeTree) (w : Walk) → Keeps R w (walk_open global x of w)
  open_keeps x of w = named_keeps x of w _
      (λ u v. both R k.expressions.next v (object_type_checked global x.token u v) _ (sized_keeps x.token u v) (λ _ r. k.retyped _ u r))

  -- any other variable
  closed_keeps : (x : StartTree) (of : TypeTree) (w : Walk) → Keeps R w (walk_closed global x of w)
  closed_keeps x of w = both R k.expressions.next w (object_type_checked global x.token of w) _ (sized_keeps x.token of w)
      (λ _ v. named_keeps x of v _ (λ _ u. k.expressions.here u))

  -- a variable whose type is known
  typed_keeps : (x : StartTree) (o : Option TypeTree) (w : Walk) → Keeps R w (walk_typed global x o w)
  unfolding walk_typed
  typed_keeps x None w = tt
  typed_keeps x (Some of) w =
      either R w (is_some x.initial && is_open w.structs of) (walk_open global x of w) (walk_closed global x of w) (open_keeps x of w) (closed_keeps x of w)

  -- a variable
  pub start_keeps : (b : TypeTree) (x : StartTree) (w : Walk) → Keeps R w (walk_start global b x w)
  start_keeps b x w = either R w (is_name_taken x.declarator.name w.names) (Faulty fault.Redeclared x.token)
      (walk_typed global x (declared_type x.declarator b) w) tt (typed_keeps x (declared_type x.declarator b) w)

module _ (global : Bool) (R : Walk → Walk → Type 0) (k : IsKeptByExpressions R)
    (start : (b : TypeTree) (x : StartTree) (w : Walk) → Keeps R w (walk_start global b x w)) where
  -- several variables
  starts_keep : (b : TypeTree) (xs : List StartTree) (w : Walk) → Keeps R w (walk_starts global b xs w)
  starts_keep b [] w = k.here w
  starts_keep b (x ∷ xs) w = both R k.next w (walk_start global b x w) _ (start b x w) (λ _ v. starts_keep b xs v)

  -- a declaration
  pub declaration_keeps : (d : DeclarationTree) (w : Walk) → Keeps R w (walk_declaration global d w)
  declaration_keeps d w = both R k.next w (base_type d.base w) _ (base_keeps R k.here d.base w) (λ b v. starts_keep b d.starts v)

-- statements

-- Expressions and declarations of locals keep the relation, and so does a scope from its beginning to its end.
pub record IsKeptByStatements (R : Walk → Walk → Type 0) : Type 0 where
  pub here : (w : Walk) → R w w
  pub next : (w u v : Walk) → R w u → R u v → R w v
  pub expr : (x : ExprTree) (w : Walk) → Keeps R w (walk_expr x w)
  pub whole : (x : ExprTree) (w : Walk) → Keeps R w (walk_whole x w)
  pub declaration : (d : DeclarationTree) (w : Walk) → Keeps R w (walk_declaration false d w)
  pub scope : (w u : Walk) → R (scope_opened w) u → Keeps R w (scope_closed tt u)

module _ (R : Walk → Walk → Type 0) (k : IsKeptByStatements R) where
  -- a test
  unless_keeps : (wrong : Bool) (kind : FaultKind) (token : ℕ) (w : Walk) → Keeps R w (fault_if_wrong wrong kind token w)
  unless_keeps true kind token w = tt
  unless_keeps false kind token w = k.here w

  -- the tests of a `return`
  returned_keeps : (b c : Bool) (token : ℕ) (w : Walk) → Keeps {A = Done} R w (if b then Faulty fault.Jump token else fault_if_wrong c fault.Operands token w)
  returned_keeps true c token w = tt
  returned_keeps false c token w = unless_keeps c fault.Operands token w

  -- an expression that may be left out
  optional_keeps : (x : Option ExprTree) (w : Walk) → Keeps R w (walk_optional x w)
  optional_keeps None w = k.here w
  optional_keeps (Some x) w = both R k.next w (walk_expr x w) _ (k.expr x w) (λ y v. k.here v)

  -- what comes to the end of a scope, of which this much was walked
  abbrev Closes : Walk → Walk → Walked Done → Type 0
  Closes w u r = R (scope_opened w) u → Keeps R w r

  -- one part within the scope, and then what comes to its end
  within : {A : Type 0} (w u : Walk) (r : Walked A) (next : A → Walk → Walked Done) → Keeps R u r → ((x : A) (v : Walk) → Closes w v (next x v))
      → Closes w u (r >>= next)
  within w u (Fine x v) next h g a = g x v (k.next (scope_opened w) u v a h)
  within w u (Faulty kind token) next h g a = tt

  -- the end of the scope
  ends : (w : Walk) (x : Done) (u : Walk) → Closes w u (scope_closed x u)
  ends w x u = k.scope w u

  -- the start of a `for`
  for_start_keeps : (start : ForStartTree) (w : Walk) → Keeps R w (walk_for_start start w)
  for_start_keeps (s.Declares d) w =
      both R k.next w (walk_declaration false d w) _ (k.declaration d w) (λ _ v. k.here v)
  for_start_keeps (s.Computes x) w = optional_keeps x w

  mutual
    -- a statement
    pub statement_keeps : (gives : TypeTree) (looping : Bool) (x : StatementTree) (w : Walk) → Keeps R w (walk_statement gives looping x w)
    statement_keeps gives looping (s.Block token entries) w =
        within w (scope_opened w) (walk_entries gives looping entries (scope_opened w)) scope_closed (entries_keep gives looping entries (scope_opened w)) (ends w)
        (k.here (scope_opened w))
    statement_keeps gives looping (s.Empty token) w = k.here w
    statement_keeps gives looping (s.Expr token x) w = both R k.next w (walk_whole x w) _ (k.whole x w)
        (λ y v. unless_keeps (is_struct y.ctype) fault.Operands token v)
    statement_keeps gives looping (s.If token condition first) w = both R k.next w (walk_expr condition w) _ (k.expr condition w)
        (λ x v. both R k.next v (walk_statement gives looping first v) _ (statement_keeps gives looping first v)
        (λ _ u. unless_keeps (not (is_scalar_value x)) fault.Operands token u))
    statement_keeps gives looping (s.IfElse token condition first second) w = both R k.next w (walk_expr condition w) _ (k.expr condition w)
        (λ x v. both R k.next v (walk_statement gives looping first v) _ (statement_keeps gives looping first v)
        (λ _ u. both R k.next u (walk_statement gives looping second u) _ (statement_keeps gives looping second u)
        (λ _ r. unless_keeps (not (is_scalar_value x)) fault.Operands token r)))
    statement_keeps gives looping (s.While token condition body) w = both R k.next w (walk_expr condition w) _ (k.expr condition w)
        (λ x v. both R k.next v (walk_statement gives true body v) _ (statement_keeps gives true body v)
        (λ _ u. unless_keeps (not (is_scalar_value x)) fault.Operands token u))
    statement_keeps gives looping (s.Do token body condition) w = both R k.next w (walk_statement gives true body w) _ (statement_keeps gives true body w)
        (λ _ v. both R k.next v (walk_expr condition v) _ (k.expr condition v)
        (λ x u. unless_keeps (not (is_scalar_value x)) fault.Operands token u))
    statement_keeps gives looping (s.For token start condition step body) w =
        within w (scope_opened w) (walk_for_start start (scope_opened w)) _ (for_start_keeps start (scope_opened w))
        (λ x v. within w v (walk_optional condition v) _ (optional_keeps condition v)
        (λ y u. within w u (walk_optional step u) _ (optional_keeps step u)
        (λ z r. within w r (walk_statement gives true body r) _ (statement_keeps gives true body r)
        (λ _ q. within w q (for_parts_checked token x y z q) scope_closed (unless_keeps _ fault.Operands token q) (ends w)))))
        (k.here (scope_opened w))
    statement_keeps gives looping (s.Return token None) w = unless_keeps (not (is_void gives)) fault.Jump token w
    statement_keeps gives looping (s.Return token (Some value)) w = both R k.next w (walk_expr value w) _ (k.expr value w)
        (λ x v. returned_keeps (is_void gives) (not (is_assignable gives x)) token v)
    statement_keeps gives looping (s.Break token) w = unless_keeps (not looping) fault.Jump token w
    statement_keeps gives looping (s.Continue token) w = unless_keeps (not looping) fault.Jump token w

    -- the entries of a block
    pub entries_keep : (gives : TypeTree) (looping : Bool) (xs : EntryList) (w : Walk) → Keeps R w (walk_entries gives looping xs w)
    entries_keep gives looping s.no_entries w = k.here w
    entries_keep gives looping (s.declared d rest) w = both R k.next w (walk_declaration false d w) _ (k.declaration d w)
        (λ _ v. entries_keep gives looping rest v)
    entries_keep gives looping (s.stated x rest) w = both R k.next w (walk_statement gives looping x w) _ (statement_keeps gives looping x w)
        (λ _ v. entries_keep gives looping rest v)

-- What the walk notes of declarations and statements.
use Rattle.std.proofs.Common.{ℕ, ◌+◌, nat_le, Bool, true, false, not, ◌&&◌, if◌then◌else◌, List, [], ◌∷◌, ◌++◌, length, Option, Some, None, is_some, refl, ◌∙◌}
use Rattle.c_syntax.specs.Words.{first_token, ExprTree, InitialTree, StartTree, DeclarationTree, ForStartTree, StatementTree, EntryList}
use Rattle.c_syntax.specs.StatementTree as s
use Rattle.c_types_rules.specs.declared.fault.FaultKind.{FaultKind}
use Rattle.c_types_rules.specs.declared.fault.FaultKind.TheVariants as fault
use Rattle.c_types_rules.specs.Words.{TypeTree, is_assignable, is_struct, is_void, is_scalar_value, cells_of, is_object, most_cells}
use Rattle.c_types_expressions.specs.declared.walk.Walk.{Walk}
use Rattle.c_types_expressions.specs.Words.{is_name_taken, Walked, Fine, Faulty, Done, scope_closed, scope_opened, fault_if_wrong, with_variable, base_type, walk_expr, walk_exprs}
use Rattle.c_types_expressions.specs.Words.{walk_whole}
use Rattle.c_types_walk.specs.Declarators.{declared_type, is_open}
use Rattle.c_types_walk.specs.Initialisers.{cells_of_string, type_or_fault, listed_type, type_by_expression, walk_initial}
use Rattle.c_types_walk.specs.StatementWalk.{counted_cells, for_parts_checked, object_type_checked, walk_closed, walk_declaration, walk_entries, walk_for_start, walk_open, walk_optional, walk_start, walk_starts, walk_statement, walk_typed}
use Rattle.c_types.specs.Parts.{Declared, declaration_parts, entries_parts, expr_parts, exprs_parts, for_start_parts, initial_parts, optional_parts, starts_parts, statement_parts}
use Rattle.c_types.proofs.Noted.{Notes, and_done, behind, both, declared_one, either, length_replaced, stage, then_on}
use Rattle.c_types.proofs.NotedExprs.{base_notes, expr_notes, exprs_notes, whole_notes}

pub unless_notes : (wrong : Bool) (kind : FaultKind) (token : ℕ) (w : Walk) → Notes [] (stage w) (fault_if_wrong wrong kind token w)
unless_notes true kind token w = tt
unless_notes false kind token w = (refl, (λ h. h), refl)

counted_by : (b c : Bool) (kind : FaultKind) (token cells : ℕ) (w : Walk) →
    Notes {A = Done} [] (stage w) (if b then Fine tt w else if c then Fine tt (record w { global_cells = cells }) else Faulty kind token)
counted_by true c kind token cells w = (refl, (λ h. h), refl)
counted_by false true kind token cells w = (refl, (λ h. h), refl)
counted_by false false kind token cells w = tt

counted_notes : (global : Bool) (token cells : ℕ) (w : Walk) → Notes [] (stage w) (counted_cells global token cells w)
counted_notes global token cells w = counted_by (not global) (nat_le (w.global_cells + cells) most_cells) fault.Object token (w.global_cells + cells) w

sized_notes : (global : Bool) (token : ℕ) (t : TypeTree) (w : Walk) → Notes [] (stage w) (object_type_checked global token t w)
sized_notes global token t w =
    either [] (stage w) (is_object w.structs t) (counted_cells global token (cells_of w.structs t) w) (Faulty fault.Object token) (counted_notes global token (cells_of w.structs t) w) tt

completes_notes : (token : ℕ) (t : Option TypeTree) (w : Walk) → Notes [] (stage w) (type_or_fault token t w)
completes_notes token None w = tt
completes_notes token (Some t) w = (refl, (λ h. h), refl)

initial_notes : (global : Bool) (t : TypeTree) (initial : Option InitialTree) (w : Walk) → Notes (initial_parts initial) (stage w) (walk_initial global t initial w)
initial_notes global t None w = (refl, (λ h. h), refl)
initial_notes global t (Some (s.Value value)) w =
    and_done (expr_parts value) (stage w) (walk_expr value w) _ (expr_notes value w) (λ x v. completes_notes (first_token value) (type_by_expression global t value x (cells_of_string value)) v)
initial_notes global t (Some (s.Braced token items comma)) w =
    and_done (exprs_parts items) (stage w) (walk_exprs items [] w) _ (exprs_notes items [] w) (λ xs v. completes_notes token (listed_type global items xs t) v)

-- the variable itself, and then its initialiser
declared_first : {A : Type 0} (global : Bool) (x : StartTree) (t : TypeTree) (w : Walk) (r : Walked A) →
    Notes (initial_parts x.initial) (stage (with_variable global x.declarator.name_token x.declarator.name t w)) r →
    Notes (Declared global x.declarator.name_token x.declarator.name ∷ initial_parts x.initial) (stage w) r
declared_first global x t w r h =
    behind (Declared global x.declarator.name_token x.declarator.name ∷ []) (initial_parts x.initial) (stage w)
    (stage (with_variable global x.declarator.name_token x.declarator.name t w)) r
    (declared_one global x.declarator.name_token x.declarator.name t w) h

open_notes : (global : Bool) (x : StartTree) (t : TypeTree) (w : Walk) →
    Notes (Declared global x.declarator.name_token x.declarator.name ∷ initial_parts x.initial) (stage w) (walk_open global x t w)
open_notes global x t w =
    declared_first global x t w (walk_open global x t w)
    (and_done (initial_parts x.initial) (stage (with_variable global x.declarator.name_token x.declarator.name t w)) (walk_initial global t x.initial (with_variable global x.declarator.name_token x.declarator.name t w)) _
    (initial_notes global t x.initial (with_variable global x.declarator.name_token x.declarator.name t w))
    (λ u v. and_done [] (stage v) (object_type_checked global x.token u v) _ (sized_notes global x.token u v) (λ _ r. (refl, (λ h. (length_replaced r.declared_types (length w.variables) u ∙ h.0, h.1)), refl))))

closed_notes : (global : Bool) (x : StartTree) (t : TypeTree) (w : Walk) →
    Notes (Declared global x.declarator.name_token x.declarator.name ∷ initial_parts x.initial) (stage w) (walk_closed global x t w)
closed_notes global x t w =
    then_on (Declared global x.declarator.name_token x.declarator.name ∷ initial_parts x.initial) (stage w) (object_type_checked global x.token t w) _ (sized_notes global x.token t w)
    (λ _ v. declared_first global x t v _
    (and_done (initial_parts x.initial) (stage (with_variable global x.declarator.name_token x.declarator.name t v)) (walk_initial global t x.initial (with_variable global x.declarator.name_token x.declarator.name t v)) _
    (initial_notes global t x.initial (with_variable global x.declarator.name_token x.declarator.name t v)) (λ _ u. (refl, (λ h. h), refl))))

typed_notes : (global : Bool) (x : StartTree) (t : Option TypeTree) (w : Walk) →
    Notes (Declared global x.declarator.name_token x.declarator.name ∷ initial_parts x.initial) (stage w) (walk_typed global x t w)
unfolding walk_typed
typed_notes global x None w = tt
typed_notes global x (Some t) w =
    either (Declared global x.declarator.name_token x.declarator.name ∷ initial_parts x.initial) (stage w) (is_some x.initial && is_open w.structs t) (walk_open global x t w)
    (walk_closed global x t w) (open_notes global x t w) (closed_notes global x t w)

start_notes : (global : Bool) (b : TypeTree) (x : StartTree) (w : Walk) →
    Notes (Declared global x.declarator.name_token x.declarator.name ∷ initial_parts x.initial) (stage w) (walk_start global b x w)
start_notes global b x w =
    either (Declared global x.declarator.name_token x.declarator.name ∷ initial_parts x.initial) (stage w) (is_name_taken x.declarator.name w.names) (Faulty fault.Redeclared x.token)
    (walk_typed global x (declared_type x.declarator b) w) tt (typed_notes global x (declared_type x.declarator b) w)

starts_notes : (global : Bool) (b : TypeTree) (xs : List StartTree) (w : Walk) → Notes (starts_parts global xs) (stage w) (walk_starts global b xs w)
starts_notes global b [] w = (refl, (λ h. h), refl)
starts_notes global b (x ∷ xs) w =
    both (Declared global x.declarator.name_token x.declarator.name ∷ initial_parts x.initial) (starts_parts global xs) (stage w) (walk_start global b x w) _
    (start_notes global b x w) (λ _ v. starts_notes global b xs v)

pub declaration_notes : (global : Bool) (d : DeclarationTree) (w : Walk) → Notes (declaration_parts global d) (stage w) (walk_declaration global d w)
declaration_notes global d w = then_on (declaration_parts global d) (stage w) (base_type d.base w) _ (base_notes d.base w) (λ b v. starts_notes global b d.starts v)

optional_notes : (x : Option ExprTree) (w : Walk) → Notes (optional_parts x) (stage w) (walk_optional x w)
optional_notes None w = (refl, (λ h. h), refl)
optional_notes (Some x) w = and_done (expr_parts x) (stage w) (walk_expr x w) _ (expr_notes x w) (λ y v. (refl, (λ h. h), refl))

for_start_notes : (start : ForStartTree) (w : Walk) → Notes (for_start_parts start) (stage w) (walk_for_start start w)
for_start_notes (s.Declares declaration) w =
    and_done (declaration_parts false declaration) (stage w) (walk_declaration false declaration w) _ (declaration_notes false declaration w) (λ _ v. (refl, (λ h. h), refl))
for_start_notes (s.Computes x) w = optional_notes x w

returned_by : (b c : Bool) (token : ℕ) (w : Walk) → Notes {A = Done} [] (stage w) (if b then Faulty fault.Jump token else fault_if_wrong c fault.Operands token w)
returned_by true c token w = tt
returned_by false c token w = unless_notes c fault.Operands token w

mutual
  pub statement_notes : (gives : TypeTree) (looping : Bool) (x : StatementTree) (w : Walk) → Notes (statement_parts x) (stage w) (walk_statement gives looping x w)
  statement_notes gives looping (s.Block token entries) w =
      and_done (entries_parts entries) (stage w) (walk_entries gives looping entries (scope_opened w)) _ (entries_notes gives looping entries (scope_opened w)) (λ _ v. (refl, (λ h. h), refl))
  statement_notes gives looping (s.Empty token) w = (refl, (λ h. h), refl)
  statement_notes gives looping (s.Expr token x) w =
      and_done (expr_parts x) (stage w) (walk_whole x w) _ (whole_notes x w) (λ y v. unless_notes (is_struct y.ctype) fault.Operands token v)
  statement_notes gives looping (s.If token condition first) w =
      both (expr_parts condition) (statement_parts first) (stage w) (walk_expr condition w) _ (expr_notes condition w)
      (λ x v. and_done (statement_parts first) (stage v) (walk_statement gives looping first v) _ (statement_notes gives looping first v)
      (λ _ u. unless_notes (not (is_scalar_value x)) fault.Operands token u))
  statement_notes gives looping (s.IfElse token condition first second) w =
      both (expr_parts condition) (statement_parts first ++ statement_parts second) (stage w) (walk_expr condition w) _ (expr_notes condition w)
      (λ x v. both (statement_parts first) (statement_parts second) (stage v) (walk_statement gives looping first v) _ (statement_notes gives looping first v)
      (λ _ u. and_done (statement_parts second) (stage u) (walk_statement gives looping second u) _ (statement_notes gives looping second u)
      (λ _ r. unless_notes (not (is_scalar_value x)) fault.Operands token r)))
  statement_notes gives looping (s.While token condition body) w =
      both (expr_parts condition) (statement_parts body) (stage w) (walk_expr condition w) _ (expr_notes condition w)
      (λ x v. and_done (statement_parts body) (stage v) (walk_statement gives true body v) _ (statement_notes gives true body v)
      (λ _ u. unless_notes (not (is_scalar_value x)) fault.Operands token u))
  statement_notes gives looping (s.Do token body condition) w =
      both (statement_parts body) (expr_parts condition) (stage w) (walk_statement gives true body w) _ (statement_notes gives true body w)
      (λ _ v. and_done (expr_parts condition) (stage v) (walk_expr condition v) _ (expr_notes condition v)
      (λ x u. unless_notes (not (is_scalar_value x)) fault.Operands token u))
  statement_notes gives looping (s.For token start condition step body) w =
      both (for_start_parts start) (optional_parts condition ++ (optional_parts step ++ statement_parts body)) (stage w) (walk_for_start start (scope_opened w)) _
      (for_start_notes start (scope_opened w))
      (λ x v. both (optional_parts condition) (optional_parts step ++ statement_parts body) (stage v) (walk_optional condition v) _ (optional_notes condition v)
      (λ y u. both (optional_parts step) (statement_parts body) (stage u) (walk_optional step u) _ (optional_notes step u)
      (λ z r. and_done (statement_parts body) (stage r) (walk_statement gives true body r) _ (statement_notes gives true body r)
      (λ _ q. and_done [] (stage q) (for_parts_checked token x y z q) scope_closed (unless_notes _ fault.Operands token q) (λ _ p. (refl, (λ h. h), refl))))))
  statement_notes gives looping (s.Return token None) w = unless_notes (not (is_void gives)) fault.Jump token w
  statement_notes gives looping (s.Return token (Some value)) w =
      and_done (expr_parts value) (stage w) (walk_expr value w) _ (expr_notes value w) (λ x v. returned_by (is_void gives) (not (is_assignable gives x)) token v)
  statement_notes gives looping (s.Break token) w = unless_notes (not looping) fault.Jump token w
  statement_notes gives looping (s.Continue token) w = unless_notes (not looping) fault.Jump token w

  pub entries_notes : (gives : TypeTree) (looping : Bool) (xs : EntryList) (w : Walk) → Notes (entries_parts xs) (stage w) (walk_entries gives looping xs w)
  entries_notes gives looping s.no_entries w = (refl, (λ h. h), refl)
  entries_notes gives looping (s.declared declaration rest) w =
      both (declaration_parts false declaration) (entries_parts rest) (stage w) (walk_declaration false declaration w) _ (declaration_notes false declaration w)
      (λ _ v. entries_notes gives looping rest v)
  entries_notes gives looping (s.stated statement rest) w =
      both (statement_parts statement) (entries_parts rest) (stage w) (walk_statement gives looping statement w) _ (statement_notes gives looping statement w)
      (λ _ v. entries_notes gives looping rest v)

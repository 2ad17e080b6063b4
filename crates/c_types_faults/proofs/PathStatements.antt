-- The path of the walk through declarations and statements.
use Rattle.std.proofs.Common.{ℕ, ◌+◌, nat_le, Bool, true, false, not, ◌&&◌, if◌then◌else◌, List, [], ◌∷◌, ◌++◌, length, Option, Some, None, is_some, refl, sym, ap, ◌∙◌, ◌≡◌, append_assoc}
use Rattle.c_syntax.specs.Words.{first_token, ExprTree, declarator_kinds, InitialTree, StartTree, DeclarationTree, ForStartTree, StatementTree, EntryList}
use Rattle.c_syntax.specs.StatementTree as s
use Rattle.c_types_rules.specs.declared.fault.FaultKind.{FaultKind}
use Rattle.c_types_rules.specs.declared.fault.FaultKind.TheVariants as fault
use Rattle.c_types_rules.specs.Words.{TypeTree, is_assignable, is_struct, is_void, is_scalar_value, cells_of, is_object, most_cells}
use Rattle.c_meaning.specs.Trees.{token_of}
use Rattle.c_types_expressions.specs.declared.walk.Walk.{Walk}
use Rattle.c_types_expressions.specs.Words.{is_name_taken, Walked, Fine, Faulty, Done, scope_closed, scope_opened, fault_if_wrong, with_variable, ◌>>=◌, base_type, walk_expr}
use Rattle.c_types_expressions.specs.Words.{walk_exprs, walk_whole}
use Rattle.c_types_walk.specs.Declarators.{declared_type, is_open}
use Rattle.c_types_walk.specs.Initialisers.{cells_of_string, type_or_fault, listed_type, type_by_expression, walk_initial}
use Rattle.c_types_walk.specs.StatementWalk.{counted_cells, for_parts_checked, object_type_checked, walk_closed, walk_declaration, walk_entries, walk_for_start, walk_open, walk_optional, walk_start, walk_starts, walk_statement, walk_typed}
use Rattle.c_types_faults.specs.Events.{Event, Initialises, Variable, Opens, Closes, declaration_events, entries_events, expr_events, exprs_events, for_start_events, initial_events, optional_events, scope_events, start_events, starts_events, statement_events}
use Rattle.c_types_faults.proofs.Paths.{Anyhow, Goes, and_done, either, event_then, goes_same, goes_then, then_on, variable_step, view}
use Rattle.c_types_faults.proofs.PathExprs.{TypedAt, base_goes, expr_goes, exprs_goes, whole_goes}

pub unless_goes : (wrong : Bool) (kind : FaultKind) (token : ℕ) (w : Walk) → Goes Anyhow [] (view w) (fault_if_wrong wrong kind token w)
unless_goes true kind token w = tt
unless_goes false kind token w = (refl, tt)

counted_by : (b c : Bool) (kind : FaultKind) (token cells : ℕ) (w : Walk)
    → Goes {A = Done} Anyhow [] (view w) (if b then Fine tt w else if c then Fine tt (record w { global_cells = cells }) else Faulty kind token)
counted_by true c kind token cells w = (refl, tt)
counted_by false true kind token cells w = (refl, tt)
counted_by false false kind token cells w = tt

sized_goes : (global : Bool) (token : ℕ) (t : TypeTree) (w : Walk) → Goes Anyhow [] (view w) (object_type_checked global token t w)
sized_goes global token t w =
    either Anyhow [] (view w) (is_object w.structs t) (counted_cells global token (cells_of w.structs t) w) (Faulty fault.Object token)
    (counted_by (not global) (nat_le (w.global_cells + cells_of w.structs t) most_cells) fault.Object token (w.global_cells + cells_of w.structs t) w) tt

completes_goes : (token : ℕ) (t : Option TypeTree) (w : Walk) → Goes Anyhow [] (view w) (type_or_fault token t w)
completes_goes token None w = tt
completes_goes token (Some t) w = (refl, tt)

initial_goes : (global : Bool) (t : TypeTree) (equal : ℕ) (initial : Option InitialTree) (w : Walk)
    → Goes Anyhow (initial_events equal initial) (view w) (walk_initial global t initial w)
initial_goes global t equal None w = (refl, tt)
initial_goes global t equal (Some (s.Value value)) w =
    event_then Anyhow (Initialises equal) (expr_events value) (view w) (view w) _ refl
    (and_done (TypedAt (token_of value)) Anyhow (expr_events value) (view w) (walk_expr value w) _ (expr_goes value w)
    (λ x v g. completes_goes (first_token value) (type_by_expression global t value x (cells_of_string value)) v))
initial_goes global t equal (Some (s.Braced token items comma)) w =
    and_done Anyhow Anyhow (exprs_events items) (view w) (walk_exprs items [] w) _ (exprs_goes items [] w)
    (λ xs v g. completes_goes token (listed_type global items xs t) v)

abbrev equal_of : StartTree → ℕ
equal_of x = x.declarator.token + length (declarator_kinds x.declarator)

-- the variable itself, and then its initialiser
variable_first : {A : Type 0} (global : Bool) (x : StartTree) (t : TypeTree) (w : Walk) (r : Walked A)
    → Goes Anyhow (initial_events (equal_of x) x.initial) (view (with_variable global x.declarator.name_token x.declarator.name t w)) r
    → Goes Anyhow (start_events x) (view w) r
variable_first global x t w r h =
    event_then Anyhow (Variable x.declarator.name_token) (initial_events (equal_of x) x.initial) (view w)
    (view (with_variable global x.declarator.name_token x.declarator.name t w)) r (variable_step global x.declarator.name_token x.declarator.name t w) h

open_goes : (global : Bool) (x : StartTree) (t : TypeTree) (w : Walk) → Goes Anyhow (start_events x) (view w) (walk_open global x t w)
open_goes global x t w =
    let u : Walk = with_variable global x.declarator.name_token x.declarator.name t w in
    variable_first global x t w (walk_open global x t w)
    (and_done Anyhow Anyhow (initial_events (equal_of x) x.initial) (view u) (walk_initial global t x.initial u) _ (initial_goes global t (equal_of x) x.initial u)
    (λ c v g. and_done Anyhow Anyhow [] (view v) (object_type_checked global x.token c v) _ (sized_goes global x.token c v) (λ _ r f. (refl, tt))))

closed_goes : (global : Bool) (x : StartTree) (t : TypeTree) (w : Walk) → Goes Anyhow (start_events x) (view w) (walk_closed global x t w)
closed_goes global x t w =
    then_on Anyhow Anyhow (start_events x) (view w) (object_type_checked global x.token t w) _ (sized_goes global x.token t w)
    (λ _ v g. variable_first global x t v _
    (and_done Anyhow Anyhow (initial_events (equal_of x) x.initial) (view (with_variable global x.declarator.name_token x.declarator.name t v))
    (walk_initial global t x.initial (with_variable global x.declarator.name_token x.declarator.name t v)) _
    (initial_goes global t (equal_of x) x.initial (with_variable global x.declarator.name_token x.declarator.name t v)) (λ _ u f. (refl, tt))))

typed_goes : (global : Bool) (x : StartTree) (t : Option TypeTree) (w : Walk) → Goes Anyhow (start_events x) (view w) (walk_typed global x t w)
unfolding walk_typed
typed_goes global x None w = tt
typed_goes global x (Some t) w =
    either Anyhow (start_events x) (view w) (is_some x.initial && is_open w.structs t) (walk_open global x t w) (walk_closed global x t w)
    (open_goes global x t w) (closed_goes global x t w)

start_goes : (global : Bool) (b : TypeTree) (x : StartTree) (w : Walk) → Goes Anyhow (start_events x) (view w) (walk_start global b x w)
start_goes global b x w =
    either Anyhow (start_events x) (view w) (is_name_taken x.declarator.name w.names) (Faulty fault.Redeclared x.token)
    (walk_typed global x (declared_type x.declarator b) w) tt (typed_goes global x (declared_type x.declarator b) w)

starts_goes : (global : Bool) (b : TypeTree) (xs : List StartTree) (w : Walk) → Goes Anyhow (starts_events xs) (view w) (walk_starts global b xs w)
starts_goes global b [] w = (refl, tt)
starts_goes global b (x ∷ xs) w =
    goes_then Anyhow Anyhow (start_events x) (starts_events xs) (view w) (walk_start global b x w) _ (start_goes global b x w)
    (λ _ v g. starts_goes global b xs v)

pub declaration_goes : (global : Bool) (d : DeclarationTree) (w : Walk) → Goes Anyhow (declaration_events d) (view w) (walk_declaration global d w)
declaration_goes global d w =
    then_on Anyhow Anyhow (declaration_events d) (view w) (base_type d.base w) _ (base_goes d.base w) (λ b v g. starts_goes global b d.starts v)

optional_goes : (x : Option ExprTree) (w : Walk) → Goes Anyhow (optional_events x) (view w) (walk_optional x w)
optional_goes None w = (refl, tt)
optional_goes (Some x) w =
    and_done (TypedAt (token_of x)) Anyhow (expr_events x) (view w) (walk_expr x w) _ (expr_goes x w) (λ y v g. (refl, tt))

for_start_goes : (start : ForStartTree) (w : Walk) → Goes Anyhow (for_start_events start) (view w) (walk_for_start start w)
for_start_goes (s.Declares declaration) w =
    and_done Anyhow Anyhow (declaration_events declaration) (view w) (walk_declaration false declaration w) _ (declaration_goes false declaration w)
    (λ _ v g. (refl, tt))
for_start_goes (s.Computes x) w = optional_goes x w

returned_by : (b c : Bool) (token : ℕ) (w : Walk)
    → Goes {A = Done} Anyhow [] (view w) (if b then Faulty fault.Jump token else fault_if_wrong c fault.Operands token w)
returned_by true c token w = tt
returned_by false c token w = unless_goes c fault.Operands token w

-- what stands in a scope of its own
pub scope_goes : (es : List Event) (w : Walk) (r : Walked Done) → Goes Anyhow es (view (scope_opened w)) r → Goes Anyhow (scope_events es) (view w) (r >>= scope_closed)
scope_goes es w r h =
    event_then Anyhow Opens (es ++ Closes ∷ []) (view w) (view (scope_opened w)) (r >>= scope_closed) refl
    (goes_then Anyhow Anyhow es (Closes ∷ []) (view (scope_opened w)) r scope_closed h (λ _ v g. ((_, (refl, refl)), tt)))

one_behind : (a b c d k : List Event) → a ++ (b ++ (c ++ (d ++ k))) ≡ (a ++ (b ++ (c ++ d))) ++ k
one_behind a b c d k = sym (append_assoc a (b ++ (c ++ d)) k ∙ ap (λ x. a ++ x) (append_assoc b (c ++ d) k ∙ ap (λ x. b ++ x) (append_assoc c d k)))

mutual
  pub statement_goes : (gives : TypeTree) (looping : Bool) (x : StatementTree) (w : Walk)
      → Goes Anyhow (statement_events x) (view w) (walk_statement gives looping x w)
  statement_goes gives looping (s.Block token entries) w =
      scope_goes (entries_events entries) w (walk_entries gives looping entries (scope_opened w)) (entries_goes gives looping entries (scope_opened w))
  statement_goes gives looping (s.Empty token) w = (refl, tt)
  statement_goes gives looping (s.Expr token x) w =
      and_done (TypedAt (token_of x)) Anyhow (expr_events x) (view w) (walk_whole x w) _ (whole_goes x w)
      (λ y v g. unless_goes (is_struct y.ctype) fault.Operands token v)
  statement_goes gives looping (s.If token condition first) w =
      goes_then (TypedAt (token_of condition)) Anyhow (expr_events condition) (statement_events first) (view w) (walk_expr condition w) _ (expr_goes condition w)
      (λ x v g. and_done Anyhow Anyhow (statement_events first) (view v) (walk_statement gives looping first v) _ (statement_goes gives looping first v)
      (λ _ u f. unless_goes (not (is_scalar_value x)) fault.Operands token u))
  statement_goes gives looping (s.IfElse token condition first second) w =
      goes_then (TypedAt (token_of condition)) Anyhow (expr_events condition) (statement_events first ++ statement_events second) (view w)
      (walk_expr condition w) _ (expr_goes condition w)
      (λ x v g. goes_then Anyhow Anyhow (statement_events first) (statement_events second) (view v) (walk_statement gives looping first v) _
      (statement_goes gives looping first v)
      (λ _ u f. and_done Anyhow Anyhow (statement_events second) (view u) (walk_statement gives looping second u) _ (statement_goes gives looping second u)
      (λ _ r h. unless_goes (not (is_scalar_value x)) fault.Operands token r)))
  statement_goes gives looping (s.While token condition body) w =
      goes_then (TypedAt (token_of condition)) Anyhow (expr_events condition) (statement_events body) (view w) (walk_expr condition w) _ (expr_goes condition w)
      (λ x v g. and_done Anyhow Anyhow (statement_events body) (view v) (walk_statement gives true body v) _ (statement_goes gives true body v)
      (λ _ u f. unless_goes (not (is_scalar_value x)) fault.Operands token u))
  statement_goes gives looping (s.Do token body condition) w =
      goes_then Anyhow Anyhow (statement_events body) (expr_events condition) (view w) (walk_statement gives true body w) _ (statement_goes gives true body w)
      (λ _ v g. and_done (TypedAt (token_of condition)) Anyhow (expr_events condition) (view v) (walk_expr condition v) _ (expr_goes condition v)
      (λ x u f. unless_goes (not (is_scalar_value x)) fault.Operands token u))
  statement_goes gives looping (s.For token start condition step body) w =
      event_then Anyhow Opens _ (view w) (view (scope_opened w)) _ refl
      (goes_same Anyhow _ _ (view (scope_opened w)) _
      (one_behind (for_start_events start) (optional_events condition) (optional_events step) (statement_events body) (Closes ∷ []))
      (goes_then Anyhow Anyhow (for_start_events start) (optional_events condition ++ (optional_events step ++ (statement_events body ++ Closes ∷ [])))
      (view (scope_opened w)) (walk_for_start start (scope_opened w)) _ (for_start_goes start (scope_opened w))
      (λ x v g. goes_then Anyhow Anyhow (optional_events condition) (optional_events step ++ (statement_events body ++ Closes ∷ [])) (view v)
      (walk_optional condition v) _ (optional_goes condition v)
      (λ y u f. goes_then Anyhow Anyhow (optional_events step) (statement_events body ++ Closes ∷ []) (view u) (walk_optional step u) _ (optional_goes step u)
      (λ z r h. goes_then Anyhow Anyhow (statement_events body) (Closes ∷ []) (view r) (walk_statement gives true body r) _ (statement_goes gives true body r)
      (λ _ q k. then_on Anyhow Anyhow (Closes ∷ []) (view q) (for_parts_checked token x y z q) scope_closed (unless_goes _ fault.Operands token q)
      (λ _ o l. ((_, (refl, refl)), tt))))))))
  statement_goes gives looping (s.Return token None) w = unless_goes (not (is_void gives)) fault.Jump token w
  statement_goes gives looping (s.Return token (Some value)) w =
      and_done (TypedAt (token_of value)) Anyhow (expr_events value) (view w) (walk_expr value w) _ (expr_goes value w)
      (λ x v g. returned_by (is_void gives) (not (is_assignable gives x)) token v)
  statement_goes gives looping (s.Break token) w = unless_goes (not looping) fault.Jump token w
  statement_goes gives looping (s.Continue token) w = unless_goes (not looping) fault.Jump token w

  pub entries_goes : (gives : TypeTree) (looping : Bool) (xs : EntryList) (w : Walk)
      → Goes Anyhow (entries_events xs) (view w) (walk_entries gives looping xs w)
  entries_goes gives looping s.no_entries w = (refl, tt)
  entries_goes gives looping (s.declared declaration rest) w =
      goes_then Anyhow Anyhow (declaration_events declaration) (entries_events rest) (view w) (walk_declaration false declaration w) _
      (declaration_goes false declaration w) (λ _ v g. entries_goes gives looping rest v)
  entries_goes gives looping (s.stated statement rest) w =
      goes_then Anyhow Anyhow (statement_events statement) (entries_events rest) (view w) (walk_statement gives looping statement w) _
      (statement_goes gives looping statement w) (λ _ v g. entries_goes gives looping rest v)

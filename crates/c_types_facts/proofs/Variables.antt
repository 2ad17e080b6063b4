-- A variable that the walk declares has the type that its declaration says.
use Rattle.std.proofs.Common.{◌≡◌, ℕ, ◌+◌, refl, ap, subst, sym, ◌∙◌, arith, List, [], ◌∷◌, ◌++◌, length, Option, Some, None, Bool, true}
use Rattle.std.specs.Prelude.{is_some, slice_get, slice_set, nat_lt, ◌&&◌, if◌then◌else◌}
use Rattle.std.proofs.lemmas.Bool.Decides.{nat_tests}
use Rattle.std.proofs.lemmas.Slice.Eq.{bytes_eq-Decides}
use Rattle.std.proofs.Common.{length-append}
use Rattle.std.proofs.lemmas.Option.{same_Some}
use Rattle.c_types_expressions.proofs.Given.{Gives, and_then, weaker}
use Rattle.base_lists.proofs.Lists.{get_last}
use Rattle.c_syntax.specs.Words.{first_token, InitialTree, StartTree, DeclarationTree, declarator_kinds}
use Rattle.c_syntax.specs.StatementTree as s
use Rattle.c_types_rules.specs.declared.fault.FaultKind.TheVariants as fault
use Rattle.c_types_rules.specs.Words.{cells_of, TypeTree}
use Rattle.c_types_expressions.specs.declared.names.Meaning.TheVariants as meaning
use Rattle.c_types_expressions.specs.declared.names.ScopeEntry.{ScopeEntry}
use Rattle.c_types_expressions.specs.declared.names.ScopeEntry.TheVariants as entry
use Rattle.c_types_expressions.specs.declared.walk.FunctionEntry.{FunctionEntry}
use Rattle.c_types_expressions.specs.declared.walk.Walk.{Walk}
use Rattle.c_types_expressions.specs.Words.{is_name_taken, Done, item_replaced, with_variable}
use Rattle.c_types_walk.specs.Declarators.{declared_type, is_open}
use Rattle.c_types_walk.specs.Initialisers.{cells_of_string, type_or_fault, listed_type, type_by_expression, walk_initial}
use Rattle.c_types_walk.specs.StatementWalk.{walk_closed, walk_declaration, walk_open, walk_start, walk_starts, walk_typed, with_declared_type}
use Rattle.c_types_laws.proofs.Leading.{either, refused}
use Rattle.c_types_faults.specs.Events.{Event, declaration_events, expr_events, exprs_events, initial_events, start_events, starts_events}
use Rattle.c_types_faults.specs.Known.{Entity, Known, Object}
use Rattle.c_types_faults.specs.Context.{Context, Declared, global_cells_added, name_declared, declared_in, known_identifiers}
use Rattle.c_types_faults.specs.Declarators.{DeclaresAs}
use Rattle.c_types_faults.specs.Declarations.{DeclarationGives, VariableGives, VariablesGive}
use Rattle.c_types_faults.proofs.Bounds.{declared_is}
use Rattle.c_types_faults.proofs.Declaring.{Behind, behind_here, behind_on, variable_tells}
use Rattle.c_types_faults.proofs.Exprs.{base_tells}
use Rattle.c_types_faults.proofs.Knowing.{Knows, Matches, agreed, grown_knows, object_knows, variable_shown}
use Rattle.c_types_faults.proofs.Telling.{Agreed, Shown, shown}
use Rattle.c_types_faults.proofs.Variables.{known_counted, sized_tells}
use Rattle.c_types_facts.specs.Statements.{DeclarationTyped, InitialTyped, Typed, VariableTyped, VariablesTyped}
use Rattle.c_types_facts.proofs.Exprs.{expr_logs, exprs_logs}
use Rattle.c_types_facts.proofs.Growing.{Grown, grown_as, grown_events, grown_none, grown_so, grown_then, sized_still, variable_grown}
use Rattle.c_types_facts.proofs.Logs.{Logged, Rest, both, logged_here, rest, told, tokens_in}

-- initialisers

completes_still : (own : ℕ) (o : Option TypeTree) (w : Walk) → Gives (type_or_fault own o w) (λ u v. v ≡ w)
completes_still own None w = record { by = tt }
completes_still own (Some t) w = record { by = refl }

-- the events of an initialiser's expressions
abbrev parts_of : Option InitialTree → List Event
parts_of None = []
parts_of (Some (s.Value value)) = expr_events value
parts_of (Some (s.Braced own items comma)) = exprs_events items

initial_logs : (k : Known) (global : Bool) (of : TypeTree) (x : Option InitialTree) (w : Walk) → Agreed k (shown w)
    → Gives (walk_initial global of x w) (λ u v. (shown v ≡ shown w) × Logged (parts_of x) (λ z. InitialTyped z k x) w v)
initial_logs k global of None w g = record { by = (refl, logged_here w) }
initial_logs k global of (Some (s.Value value)) w g = and_then (expr_logs k value w g) (λ x v p.
    weaker (completes_still (first_token value) (type_by_expression global of value x (cells_of_string value)) v)
    (λ u y q. subst (λ r. (shown r ≡ shown w) × Logged (expr_events value) (λ z. InitialTyped z k (Some (s.Value value))) w r) (sym q) (p.0.1, p.1)))
initial_logs k global of (Some (s.Braced own items comma)) w g = and_then (exprs_logs k items [] w g) (λ xs v p.
    weaker (completes_still own (listed_type global items xs of) v)
    (λ u y q. subst (λ r. (shown r ≡ shown w) × Logged (exprs_events items) (λ z. InitialTyped z k (Some (s.Braced own items comma))) w r) (sym q) p))

-- the last of several types

set_last : (xs : List TypeTree) (t u : TypeTree) → slice_set (xs ++ t ∷ []) (length xs) u ≡ xs ++ u ∷ []
set_last [] t u = refl
set_last (x ∷ xs) t u = ap (λ l. x ∷ l) (set_last xs t u)

inside : (xs : List TypeTree) (t : TypeTree) → nat_lt (length xs) (length (xs ++ t ∷ [])) ≡ true
inside xs t = grind (arith, nat_tests, length-append xs (t ∷ []))

replaced_last : (xs : List TypeTree) (t u : TypeTree) (i : ℕ) → i ≡ length xs → item_replaced (xs ++ t ∷ []) i u ≡ xs ++ u ∷ []
replaced_last xs t u i h = ap (λ n. item_replaced (xs ++ t ∷ []) n u) h ∙ rw (inside xs t) (set_last xs t u)

-- what a declared variable adds
pub record Started (global : Bool) (base : TypeTree) (c : Context) (x : StartTree) (w v : Walk) : Type 0 where
  pub first : TypeTree
  pub is : DeclaresAs x.declarator base first
  pub of : TypeTree
  pub declared : v.declared_types ≡ w.declared_types ++ of ∷ []
  pub names : v.names ≡ entry.Declares x.declarator.name (meaning.Variable (length w.variables)) ∷ w.names
  pub grown : Grown global (start_events x)
      (λ z own. (own ≡ record { token = x.declarator.name_token; of = of } ∷ [])
      × InitialTyped z (known_identifiers (name_declared x.declarator.name (Object first) c)) x.initial) w v

parts_are : (equal : ℕ) (o : Option InitialTree) → tokens_in (parts_of o) ≡ tokens_in (initial_events equal o)
parts_are equal None = refl
parts_are equal (Some (s.Value value)) = refl
parts_are equal (Some (s.Braced own items comma)) = refl

module _ (global : Bool) (base : TypeTree) (x : StartTree) (c : Context) (w : Walk) (k : Knows c (shown w)) where
  abbrev Starts : Done → Walk → Type 0
  Starts d v = Started global base c x w v

  abbrev name : List ℕ
  name = x.declarator.name

  abbrev with_name : TypeTree → Walk → Walk
  with_name t v = with_variable global x.declarator.name_token name t v

  start_grown : {P : Walk → List Typed → Type 0} (v u : Walk) → Grown global (parts_of x.initial) P v u → Grown global (start_events x) P v u
  start_grown v u g = grown_events (parts_of x.initial) (start_events x)
      (parts_are (x.declarator.token + length (declarator_kinds x.declarator)) x.initial) g

  open_starts : (t : TypeTree) → DeclaresAs x.declarator base t → Gives (walk_open global x t w) Starts
  open_starts t h =
      let one : Walk = with_name t w in
      let g : Agreed (known_identifiers (name_declared name (Object t) c)) (shown one) =
      agreed (subst (Knows (name_declared name (Object t) c)) (sym (variable_shown global x.declarator.name_token name t w)) (object_knows name t k)) in
      and_then (initial_logs (known_identifiers (name_declared name (Object t) c)) global t x.initial one g) (λ u v p.
      and_then (sized_still global x.token u v) (λ d r q.
      let declared : (with_declared_type (length w.variables) u r).declared_types ≡ w.declared_types ++ u ∷ [] =
      ap (λ (y : Rest). item_replaced y.declared (length w.variables) u) (q.same ∙ p.1.still)
      ∙ replaced_last w.declared_types t u (length w.variables) (sym k.count) in
      record {
        by = record {
          first = t;
          is = h;
          of = u;
          declared = declared;
          names = q.names ∙ ap (λ (y : Shown). y.names) p.0;
          grown = start_grown w (with_declared_type (length w.variables) u r)
              (variable_grown global x.declarator.name_token name t u w v (with_declared_type (length w.variables) u r) p.1 q.types
              (ap (λ (y : Rest). y.variables) q.same) (ap (λ (y : Rest). y.functions) q.same) (ap (λ (y : Rest). y.definitions) q.same)
              (ap (λ (y : Rest). y.locals) q.same) declared);
        };
      }))

  closed_starts : (t : TypeTree) → DeclaresAs x.declarator base t → Gives (walk_closed global x t w) Starts
  closed_starts t h = and_then (both (told (sized_tells global x.token t c w k)) (sized_still global x.token t w)) (λ d v p.
      let n : ℕ = cells_of c.structs t in
      let kv : Knows (global_cells_added global n c) (shown v) = subst (Knows (global_cells_added global n c)) (sym p.0.1) (grown_knows global n k) in
      let one : Walk = with_name t v in
      let k1 : Knows (name_declared name (Object t) (global_cells_added global n c)) (shown one) =
      subst (Knows (name_declared name (Object t) (global_cells_added global n c))) (sym (variable_shown global x.declarator.name_token name t v)) (object_knows name t kv) in
      and_then (initial_logs (known_identifiers (name_declared name (Object t) c)) global t x.initial one
      (subst (λ z. Agreed z (shown one)) (known_counted global n name t c) (agreed k1)))
      (λ u z q. record {
        by = record {
          first = t;
          is = h;
          of = t;
          declared = ap (λ (y : Rest). y.declared) q.1.still ∙ ap (λ (y : Rest). y.declared ++ t ∷ []) p.1.same;
          names = ap (λ (y : Shown). y.names) q.0
              ∙ ap (λ n. entry.Declares name (meaning.Variable n) ∷ v.names) (ap (λ (y : Rest). length y.variables) p.1.same)
              ∙ ap (λ ns. entry.Declares name (meaning.Variable (length w.variables)) ∷ ns) p.1.names;
          grown = grown_as w z (start_grown v z (variable_grown global x.declarator.name_token name t t v z z q.1 refl refl refl refl refl
              (ap (λ (y : Rest). y.declared) q.1.still))) (sym p.1.same) (sym p.1.types) refl refl;
        };
      }))

  typed_starts : (o : Option TypeTree) → declared_type x.declarator base ≡ o → Gives (walk_typed global x o w) Starts
  unfolding walk_typed
  typed_starts None e = record { by = tt }
  typed_starts (Some t) e =
      either (is_some x.initial && is_open w.structs t) (walk_open global x t w) (walk_closed global x t w)
      (open_starts t (declared_is x.declarator base t e)) (closed_starts t (declared_is x.declarator base t e))

  start_logs : Gives (walk_start global base x w) Starts
  start_logs = refused (is_name_taken name w.names) fault.Redeclared x.token (walk_typed global x (declared_type x.declarator base) w)
      (λ e. typed_starts (declared_type x.declarator base) refl)

  declared_here : (y : Entity) (ds : List Declared) → declared_in name (record { name = name; entity = y } ∷ ds) ≡ Some y
  declared_here y ds = ap (λ b. if b then Some y else declared_in name ds) ((bytes_eq-Decides name name).1 refl)

  -- what the walk knows of the name that was declared last
  object_at : (types : List TypeTree) (fs : List FunctionEntry) (vb fb i : ℕ) (names rest : List ScopeEntry) (of : TypeTree) (ds : List Declared)
      (outer : List (List Declared)) → names ≡ entry.Declares name (meaning.Variable i) ∷ rest
      → Matches types fs vb fb names (record { name = name; entity = Object of } ∷ ds) outer → slice_get types i ≡ Some of
  object_at types fs vb fb i names rest of ds outer e h =
      (subst (λ ns. Matches types fs vb fb ns (record { name = name; entity = Object of } ∷ ds) outer) e h).2

  -- behind the declaration the name denotes an object of that type
  type_is : (v : Walk) (after : Context) → VariableGives global base c x after → Behind after w v → (d : Started global base c x w v)
      → declared_in name after.scope ≡ Some (Object d.of)
  type_is v after (new, (t, (u, h))) b d =
      let last : Context = name_declared name (Object u) (global_cells_added global (cells_of c.structs u) c) in
      let kn : Knows last (shown v) = subst (λ z. Knows z (shown v)) h.4 b.knows in
      let at : slice_get v.declared_types (length w.variables) ≡ Some u =
      object_at v.declared_types v.functions (length v.variables) (length v.functions) (length w.variables) v.names w.names u
      (global_cells_added global (cells_of c.structs u) c).scope (global_cells_added global (cells_of c.structs u) c).outer d.names kn.names in
      let own : slice_get v.declared_types (length w.variables) ≡ Some d.of =
      ap (λ ts. slice_get ts (length w.variables)) d.declared ∙ ap (λ n. slice_get (w.declared_types ++ d.of ∷ []) n) (sym k.count)
      ∙ get_last w.declared_types d.of in
      ap (λ (y : Context). declared_in name y.scope) h.4 ∙ declared_here (Object u) (global_cells_added global (cells_of c.structs u) c).scope
      ∙ ap (λ y. Some (Object y)) (same_Some u d.of (sym at ∙ own))

  abbrev OneTyped : Context → Walk → List Typed → Type 0
  OneTyped after z own = (of : TypeTree) × (VariableTyped z global base c x after of × (own ≡ record { token = x.declarator.name_token; of = of } ∷ []))

  abbrev pub VariableLogged : Walk → Type 0
  VariableLogged v = (after : Context)
      × ((VariableGives global base c x after × Behind after w v) × Grown global (start_events x) (OneTyped after) w v)

  pub variable_logs : Gives (walk_start global base x w) (λ (d : Done) v. VariableLogged v)
  variable_logs = weaker (both (told (variable_tells global base x c w k)) start_logs) (λ d v p.
      let s : Started global base c x w v = p.1 in
      (p.0.0, (p.0.1, grown_so s.grown (λ z own h. (s.of, ((p.0.1.0, (type_is v p.0.0 p.0.1.0 p.0.1.1 s, (s.first, (s.is, h.1)))), h.0))))))

pub variables_log : (global : Bool) (base : TypeTree) (xs : List StartTree) (c : Context) (w : Walk) → Knows c (shown w)
    → Gives (walk_starts global base xs w) (λ (d : Done) v. (after : Context)
    × ((VariablesGive global base c xs after × Behind after w v) × Grown global (starts_events xs) (λ z own. VariablesTyped z global base c xs after own) w v))
variables_log global base [] c w k =
    record { by = (c, ((refl, behind_here k), grown_so (grown_none global w) (λ z own h. (refl, h)))) }
variables_log global base (x ∷ xs) c w k = and_then (variable_logs global base x c w k) (λ d v p.
    weaker (variables_log global base xs p.0 v p.1.0.1.knows) (λ e u q. (
      q.0,
      (
        ((p.0, (p.1.0.0, q.1.0.0)), behind_on p.1.0.1.names p.1.0.1.moves q.1.0.1),
        grown_so (grown_then p.1.1 q.1.1) (λ z own h.
            (p.0, (h.1.1.0.0, (h.1.0, (h.1.1.0.1.0, (h.1.1.1.0, h.1.1.1.1 ∙ ap (λ l. l ++ h.1.0) h.1.1.0.1.1)))))),
      ),
    )))

pub declaration_logs : (global : Bool) (d : DeclarationTree) (c : Context) (w : Walk) → Knows c (shown w)
    → Gives (walk_declaration global d w) (λ (e : Done) v. (after : Context)
    × ((DeclarationGives global c d after × Behind after w v) × Grown global (declaration_events d) (λ z own. DeclarationTyped z global c d after own) w v))
declaration_logs global d c w k = and_then (told (base_tells (known_identifiers c) d.base w (agreed k))) (λ of v p.
    weaker (subst (λ y. Gives (walk_starts global of d.starts v) (λ (e : Done) u. (after : Context)
    × ((VariablesGive global of c d.starts after × Behind after y u)
    × Grown global (starts_events d.starts) (λ z own. VariablesTyped z global of c d.starts after own) y u)))
    p.1 (variables_log global of d.starts c v (subst (λ z. Knows c (shown z)) (sym p.1) k)))
    (λ e u q. (q.0, (((of, (p.0, q.1.0.0)), q.1.0.1), grown_so q.1.1 (λ z own h. (of, (p.0, h)))))))

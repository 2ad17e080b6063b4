-- Declarations: what the walk takes is declared behind it, and where it stops a rule is broken.
use Rattle.std.proofs.Common.{◌⊎◌, inl, inr, ⊎_elim, ◌≡◌, ℕ, refl, ap, subst, sym, ◌∙◌, arith, List, [], ◌∷◌, Some, None, Bool, true, false, length}
use Rattle.std.specs.Prelude.{Option, is_some, ◌&&◌, if◌then◌else◌}
use Rattle.std.proofs.lemmas.Bool.{or_cases}
use Rattle.c_syntax.specs.StatementTree.{DeclarationTree, StartTree}
use Rattle.c_types_rules.specs.declared.fault.FaultKind.{FaultKind}
use Rattle.c_types_rules.specs.declared.fault.FaultKind.TheVariants as fault
use Rattle.c_types_rules.specs.Words.{cells_of, TypeTree}
use Rattle.c_types_expressions.specs.declared.walk.Walk.{Walk}
use Rattle.c_types_expressions.specs.Words.{is_here, is_name_taken, is_reserved, Faulty, Done, with_variable}
use Rattle.c_types_walk.specs.Declarators.{declared_type, is_open}
use Rattle.c_types_walk.specs.StatementWalk.{walk_closed, walk_declaration, walk_open, walk_start, walk_starts, walk_typed}
use Rattle.c_types_faults.specs.Known.{Entity, Object}
use Rattle.c_types_faults.specs.Context.{Context, global_cells_added, name_declared, known_identifiers, IsTaken}
use Rattle.c_types_faults.specs.Declarators.{DeclaresAs}
use Rattle.c_types_faults.specs.Initialisers.{Completes, InitialBreaks}
use Rattle.c_types_faults.specs.Declarations.{BeginningBreaks, DeclarationBreaks, DeclarationGives, ElementBreaks, Finishes, GlobalsHaveRoom, IsObject, IsOpen, SizeBreaks}
use Rattle.c_types_faults.specs.Declarations.{VariableBreaks, VariableGives, VariablesBreak, VariablesGive}
use Rattle.c_types_faults.proofs.Beginnings.{completes_same, initial_tells}
use Rattle.c_types_faults.proofs.Bounds.{declared_is, no_type}
use Rattle.c_types_faults.proofs.Exprs.{base_tells}
use Rattle.c_types_faults.proofs.Least.{least_first, least_second}
use Rattle.c_types_faults.proofs.Quiet.{one_type}
use Rattle.c_types_faults.proofs.Knowing.{Knows, agreed, completed, completed_knows, grown, grown_knows, object_knows, variable_shown, with_object}
use Rattle.c_types_faults.proofs.Telling.{Agreed, Tells, and_then, shown, weaker}
use Rattle.c_types_faults.proofs.Variables.{Moves, closes_by, completed_grown, completed_moves, declare_counted, grown_moves, joined}
use Rattle.c_types_faults.proofs.Variables.{known_counted, not_taken, object_elements, opens_elements}
use Rattle.c_types_faults.proofs.Variables.{moves_then, object_moves, opens_by, sized_tells, still, taken_by}

-- what is known behind a part that declares variables
pub record Behind (c : Context) (w v : Walk) : Type 0 where
  pub knows : Knows c (shown v)
  pub names : List (List ℕ × ℕ)
  pub moves : Moves names (shown w) (shown v)

pub behind_on : {c : Context} {w v u : Walk} (ps : List (List ℕ × ℕ)) → Moves ps (shown w) (shown v) → Behind c v u → Behind c w u
behind_on ps m b = record { knows = b.knows; names = joined b.names ps; moves = moves_then m b.moves }

pub behind_here : {c : Context} {w : Walk} → Knows c (shown w) → Behind c w w
behind_here {w = w} k = record { knows = k; names = []; moves = still (shown w) (shown w) refl }

room_declared : (global : Bool) (name : List ℕ) (x : Entity) (c : Context) (t : TypeTree) → GlobalsHaveRoom global c t → GlobalsHaveRoom global (name_declared name x c) t
room_declared true name x c t h = h
room_declared false name x c t h = tt

room_around : (global : Bool) (name : List ℕ) (x : Entity) (c : Context) (t : TypeTree) → GlobalsHaveRoom global (name_declared name x c) t → GlobalsHaveRoom global c t
room_around true name x c t h = h
room_around false name x c t h = tt

module _ (global : Bool) (base : TypeTree) (x : StartTree) (c : Context) (w : Walk) (k : Knows c (shown w)) where
  abbrev VariableTold : Walk → Type 0
  VariableTold v = (after : Context) × (VariableGives global base c x after × Behind after w v)

  -- what is broken behind a declarator that gives this type
  abbrev BehindBreaks : TypeTree → FaultKind → ℕ → Type 0
  BehindBreaks t j at = InitialBreaks (known_identifiers (name_declared x.declarator.name (Object t) c)) global t x.initial j at
      ⊎ ((u : TypeTree) × (Finishes global base c x t u × ((at ≡ x.token) × (j ≡ fault.Object) × SizeBreaks global base c u)))

  open_tells : (t : TypeTree) → (IsTaken x.declarator.name c → ⊥) → DeclaresAs x.declarator base t → IsOpen t x.initial
      → Tells (walk_open global x t w) (λ (d : Done) v. VariableTold v) (BehindBreaks t)
  open_tells t new h o =
      let name : List ℕ = x.declarator.name in
      let one : Walk = with_variable global x.declarator.name_token name t w in
      let is : shown one ≡ with_object name t (shown w) = variable_shown global x.declarator.name_token name t w in
      let k1 : Knows (name_declared name (Object t) c) (shown one) = subst (Knows (name_declared name (Object t) c)) (sym is) (object_knows name t k) in
      and_then (initial_tells (known_identifiers (name_declared name (Object t) c)) global t x.initial one (agreed k1)) (λ j at b. inl b) (λ u v p.
      and_then (sized_tells global x.token u (name_declared name (Object t) c) v (subst (Knows (name_declared name (Object t) c)) (sym p.1) k1))
      (λ j at f. inr (u, (p.0, (f.0, f.1, ⊎_elim (λ n. inl n) (λ n. inr (λ r. n (room_declared global name (Object t) c u r))) f.2))))
      (λ d r q.
      let n : ℕ = cells_of c.structs u in
      let all : completed (length w.variables) u (shown r) ≡ grown global n (completed (length w.variables) u (with_object name t (shown w))) =
      ap (completed (length w.variables) u) (q.1 ∙ ap (grown global n) (p.1 ∙ is))
      ∙ completed_grown global n (length w.variables) u (with_object name t (shown w)) in
      record {
        by = (
          name_declared name (Object u) (global_cells_added global n c),
          (
            (new, (t, (u, (h, p.0, q.0, room_around global name (Object t) c u q.2, refl)))),
            record {
              knows = subst (λ z. Knows z (completed (length w.variables) u (shown r))) (sym (declare_counted global n name u c))
                  (subst (Knows (global_cells_added global n (name_declared name (Object u) c))) (sym all) (grown_knows global n (completed_knows name t u k)));
              names = (name, length w.variables) ∷ [];
              moves = subst (Moves ((name, length w.variables) ∷ []) (shown w)) (sym all)
                  (moves_then (moves_then (object_moves name t (shown w)) (completed_moves (length w.variables) u (with_object name t (shown w))))
                  (grown_moves global n (completed (length w.variables) u (with_object name t (shown w)))));
            },
          ),
        );
      }))

  size_breaks : (t : TypeTree) → ((IsOpen t x.initial → ⊥) ⊎ (IsOpen t x.initial × ElementBreaks c.structs t))
      → SizeBreaks global base c t → BeginningBreaks global base c x t
  size_breaks t (inl f) h = inl (f, h)
  size_breaks t (inr f) h = inr f

  -- the type of the declarator is none that the variable may have
  type_breaks : (t : TypeTree) → DeclaresAs x.declarator base t → BeginningBreaks global base c x t → (u : TypeTree) → DeclaresAs x.declarator base u
      → BeginningBreaks global base c x u
  type_breaks t h b u d = subst (BeginningBreaks global base c x) (one_type x.declarator base t u h d) b

  fits_closed : (t : TypeTree) → IsObject c.structs t → GlobalsHaveRoom global c t → BeginningBreaks global base c x t → ⊥
  fits_closed t o r (inl (f, h)) = ⊎_elim (λ n. n o) (λ n. n r) h
  fits_closed t o r (inr (f, h)) = object_elements c.structs t o h

  fits_open : (t : TypeTree) → (is_some x.initial && is_open c.structs t) ≡ true → BeginningBreaks global base c x t → ⊥
  fits_open t e (inl (f, h)) = f (opens_by c.structs t x.initial e)
  fits_open t e (inr (f, h)) = opens_elements c.structs t x.initial e h

  closed_tells : (t : TypeTree) → (IsTaken x.declarator.name c → ⊥) → DeclaresAs x.declarator base t → ((IsOpen t x.initial
      → ⊥) ⊎ (IsOpen t x.initial × ElementBreaks c.structs t))
      → Tells (walk_closed global x t w) (λ (d : Done) v. VariableTold v) (VariableBreaks global base c x)
  closed_tells t new h o =
      let name : List ℕ = x.declarator.name in
      let n : ℕ = cells_of c.structs t in
      and_then (sized_tells global x.token t c w k) (λ j at f. inl (
        f.0,
        least_second (IsTaken name c) ((u : TypeTree) → DeclaresAs x.declarator base u → BeginningBreaks global base c x u) fault.Redeclared fault.Object j new f.1
            (type_breaks t h (size_breaks t o f.2)),
      ))
      (λ d v p.
      let kv : Knows (global_cells_added global n c) (shown v) = subst (Knows (global_cells_added global n c)) (sym p.1) (grown_knows global n k) in
      let one : Walk = with_variable global x.declarator.name_token name t v in
      let is : shown one ≡ with_object name t (shown v) = variable_shown global x.declarator.name_token name t v in
      let k1 : Knows (name_declared name (Object t) (global_cells_added global n c)) (shown one) =
      subst (Knows (name_declared name (Object t) (global_cells_added global n c))) (sym is) (object_knows name t kv) in
      and_then (initial_tells (known_identifiers (name_declared name (Object t) c)) global t x.initial one
      (subst (λ z. Agreed z (shown one)) (known_counted global n name t c) (agreed k1)))
      (λ j at b. inr (t, ((new, h, fits_closed t p.0 p.2), inl b)))
      (λ u z q. record {
        by = (
          name_declared name (Object t) (global_cells_added global n c),
          (
            (
              new,
              (
                t,
                (
                  t,
                  (
                    h,
                    subst (Completes (known_identifiers (name_declared name (Object t) c)) global t x.initial)
                        (completes_same (known_identifiers (name_declared name (Object t) c)) global c.structs t x.initial u q.0 p.0.0) q.0,
                    p.0,
                    p.2,
                    refl,
                  ),
                ),
              ),
            ),
            record {
              knows = subst (Knows (name_declared name (Object t) (global_cells_added global n c))) (sym q.1) k1;
              names = joined ((name, length v.variables) ∷ []) [];
              moves = moves_then (subst (Moves [] (shown w)) (sym p.1) (grown_moves global n (shown w)))
                  (subst (Moves ((name, length v.variables) ∷ []) (shown v)) (sym (q.1 ∙ is)) (object_moves name t (shown v)));
            },
          ),
        );
      }))

  by_type : (b : Bool) (t : TypeTree) → (IsTaken x.declarator.name c → ⊥) → DeclaresAs x.declarator base t → (is_some x.initial && is_open c.structs t) ≡ b
      → Tells (if b then walk_open global x t w else walk_closed global x t w) (λ (d : Done) v. VariableTold v) (VariableBreaks global base c x)
  by_type true t new h e = weaker (open_tells t new h (opens_by c.structs t x.initial e)) (λ j at b. inr (t, ((new, h, fits_open t e), b))) (λ d v p. p)
  by_type false t new h e = closed_tells t new h (closes_by c.structs t x.initial e)

  typed_tells : (o : Option TypeTree) → (IsTaken x.declarator.name c → ⊥) → declared_type x.declarator base ≡ o
      → Tells (walk_typed global x o w) (λ (d : Done) v. VariableTold v) (VariableBreaks global base c x)
  unfolding walk_typed
  typed_tells None new e = record {
    by = inl (
      refl,
      least_second (IsTaken x.declarator.name c) ((u : TypeTree) → DeclaresAs x.declarator base u → BeginningBreaks global base c x u) fault.Redeclared
          fault.Object fault.Object new refl (λ u d. absurd (no_type x.declarator base e u d)),
    );
  }
  typed_tells (Some t) new e = by_type (is_some x.initial && is_open w.structs t) t new (declared_is x.declarator base t e)
      (ap (λ ss. is_some x.initial && is_open ss t) k.structs)

  taken_tells : (b : Bool) → is_name_taken x.declarator.name w.names ≡ b
      → Tells (if b then Faulty fault.Redeclared x.token else walk_typed global x (declared_type x.declarator base) w) (λ (d : Done) v. VariableTold v)
      (VariableBreaks global base c x)
  taken_tells true e = record {
    by = inl (
      refl,
      least_first (IsTaken x.declarator.name c) ((u : TypeTree) → DeclaresAs x.declarator base u → BeginningBreaks global base c x u) fault.Redeclared
          fault.Object fault.Redeclared (omega arith) refl
          (taken_by x.declarator.name c (shown w) k (or_cases (is_reserved x.declarator.name) (is_here x.declarator.name w.names) e)),
    );
  }
  taken_tells false e = typed_tells (declared_type x.declarator base) (not_taken x.declarator.name c (shown w) k e) refl

  pub variable_tells : Tells (walk_start global base x w) (λ (d : Done) v. VariableTold v) (VariableBreaks global base c x)
  variable_tells = taken_tells (is_name_taken x.declarator.name w.names) refl

pub variables_tell : (global : Bool) (base : TypeTree) (xs : List StartTree) (c : Context) (w : Walk) → Knows c (shown w)
    → Tells (walk_starts global base xs w) (λ (d : Done) v. (after : Context) × (VariablesGive global base c xs after × Behind after w v))
    (VariablesBreak global base c xs)
variables_tell global base [] c w k = record { by = (c, (refl, behind_here k)) }
variables_tell global base (x ∷ xs) c w k = and_then (variable_tells global base x c w k) (λ j at h. inl h) (λ d v p.
    weaker (variables_tell global base xs p.0 v p.1.1.knows) (λ j at h. inr (p.0, (p.1.0, h)))
    (λ e u q. (q.0, ((p.0, (p.1.0, q.1.0)), behind_on p.1.1.names p.1.1.moves q.1.1))))

pub declaration_tells : (global : Bool) (d : DeclarationTree) (c : Context) (w : Walk) → Knows c (shown w)
    → Tells (walk_declaration global d w) (λ (e : Done) v. (after : Context) × (DeclarationGives global c d after × Behind after w v))
    (DeclarationBreaks global c d)
declaration_tells global d c w k = and_then (base_tells (known_identifiers c) d.base w (agreed k)) (λ j at h. inl h) (λ of v p.
    weaker (variables_tell global of d.starts c v (subst (λ z. Knows c (shown z)) (sym p.1) k)) (λ j at h. inr (of, (p.0, h)))
    (λ e u q. (q.0, ((of, (p.0, q.1.0)), behind_on [] (still (shown w) (shown v) (ap shown p.1)) q.1.1))))

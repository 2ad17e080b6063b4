-- What the walk through declarations and statements notes.
use Rattle.std.proofs.Common.{◌≡◌, ℕ, refl, subst, List, [], ◌∷◌, Some, None, Bool, true, false, length}
use Rattle.std.specs.Prelude.{Option, if◌then◌else◌, is_some, nat_le, not, ◌&&◌, ◌+◌}
use Rattle.c_types_expressions.proofs.Given.{Gives, and_then}
use Rattle.base_lists.proofs.Lists.{Stays}
use Rattle.c_syntax.specs.Words.{first_token, SourceTree, InitialTree, StartTree, DeclarationTree, EntryList}
use Rattle.c_syntax.specs.StatementTree as s
use Rattle.c_types_rules.specs.declared.fault.FaultKind.TheVariants as fault
use Rattle.c_types_rules.specs.declared.layout.StructType.{StructType}
use Rattle.c_types_rules.specs.Words.{TypeTree, cells_of, is_object, most_cells}
use Rattle.c_types_expressions.specs.declared.walk.FunctionEntry.{FunctionEntry}
use Rattle.c_types_expressions.specs.declared.walk.Walk.{Walk}
use Rattle.c_types_walk.specs.Declarators.{declared_type, is_open}
use Rattle.c_types_expressions.specs.Words.{walk_expr, walk_whole, with_stars, is_name_taken, Walked, Done, Fine, Faulty, ◌>>=◌, scope_closed, scope_opened, with_variable}
use Rattle.c_types_walk.specs.Initialisers.{cells_of_string, listed_type, type_by_expression, walk_initial}
use Rattle.c_types_walk.specs.StatementWalk.{counted_cells, object_type_checked, walk_closed, walk_declaration, walk_entries, walk_open, walk_start, walk_starts, walk_typed}
use Rattle.c_types_walk.specs.StatementWalk.{with_declared_type}
use Rattle.c_types_expressions.proofs.Kept.{Keeps}
use Rattle.c_types_walk.proofs.Kept.{IsKeptByStatements, entries_keep}
use Rattle.c_meaning_sound.proofs.Declaring.{if_faulty, long_core}
use Rattle.c_meaning_sound.proofs.Ending.{Sums}
use Rattle.c_meaning_sound.proofs.Forming.{Ended}
use Rattle.c_meaning_sound.proofs.Growing.{Grows}
use Rattle.c_meaning_sound.proofs.Initialising.{Lengthened, as_it_is, completed, listed_length, valued_length}
use Rattle.c_meaning_sound.proofs.Noting.{Deep}
use Rattle.c_meaning_sound.proofs.Sizing.{Open, core, core_deep, declared_core, object_stays, open_by, whole_by}
use Rattle.base_lists.proofs.Every.{all_join}
use Rattle.lower_fits.proofs.Lists.{all_replaced}
use Rattle.lower_fits.proofs.NotesOfExpressions.{Good, Known, MembersFit, ResultsFit, base_then, expr_good, exprs_good, named_deep, whole_good}

module _ (tree : SourceTree) (z : Walk) (ends : Ended tree z) (sums : Sums z) (structs : List StructType) (functions : List FunctionEntry)
    (members : MembersFit tree z structs) (results : ResultsFit tree z functions) (grows : Grows structs z.structs) (stays : Stays structs z.structs) where
  -- what is known within an item
  abbrev pub Within : Walk → Type 0
  Within w = Known tree z sums structs functions members results w

  -- what is known behind a part of the walk
  abbrev pub Behind : {A : Type 0} → A → Walk → Type 0
  Behind x v = Within v

  -- where a scope begins, the same is known
  opened_known : (w : Walk) → Within w → Within (scope_opened w)
  opened_known w k = record {
    structs_are = k.structs_are;
    functions_are = k.functions_are;
    noted = record { types = k.noted.types; offsets = k.noted.offsets; declared = k.noted.declared };
  }

  -- and where it ends
  pub closing_known : (done : Done) (w : Walk) → Within w → Gives (scope_closed done w) Behind
  closing_known done w k = record {
    by = record {
      structs_are = k.structs_are;
      functions_are = k.functions_are;
      noted = record { types = k.noted.types; offsets = k.noted.offsets; declared = k.noted.declared };
    };
  }

  -- a variable more
  pub declared_known : (global : Bool) (token : ℕ) (name : List ℕ) (of : TypeTree) (w : Walk) → Within w → Deep tree z of
      → Within (with_variable global token name of w)
  declared_known true token name of w k d = record {
    structs_are = k.structs_are;
    functions_are = k.functions_are;
    noted = record {
      types = k.noted.types;
      offsets = k.noted.offsets;
      declared = all_join (Deep tree z) w.declared_types (of ∷ []) k.noted.declared (d, tt);
    };
  }
  declared_known false token name of w k d = record {
    structs_are = k.structs_are;
    functions_are = k.functions_are;
    noted = record {
      types = k.noted.types;
      offsets = k.noted.offsets;
      declared = all_join (Deep tree z) w.declared_types (of ∷ []) k.noted.declared (d, tt);
    };
  }

  -- a variable whose type is completed
  completed_known : (index : ℕ) (of : TypeTree) (w : Walk) → Within w → Deep tree z of → Within (with_declared_type index of w)
  completed_known index of w k d = record {
    structs_are = k.structs_are;
    functions_are = k.functions_are;
    noted = record {
      types = k.noted.types;
      offsets = k.noted.offsets;
      declared = all_replaced (Deep tree z) w.declared_types index of k.noted.declared d;
    };
  }

  -- what is known where cells are counted, or too many
  cells_known : (b c : Bool) (token cells : ℕ) (w : Walk) → Within w
      → Gives (if not b then Fine tt w else if c then Fine tt (record w { global_cells = cells }) else Faulty fault.Object token) (Behind {A = Done})
  cells_known false c token cells w k = record { by = k }
  cells_known true true token cells w k = record {
    by = record {
      structs_are = k.structs_are;
      functions_are = k.functions_are;
      noted = record { types = k.noted.types; offsets = k.noted.offsets; declared = k.noted.declared };
    };
  }
  cells_known true false token cells w k = record { by = tt }

  -- the cells of a global are counted
  counted_known : (global : Bool) (token cells : ℕ) (w : Walk) → Within w → Gives (counted_cells global token cells w) Behind
  counted_known global token cells w k = cells_known global (nat_le (w.global_cells + cells) most_cells) token (w.global_cells + cells) w k

  -- a type that objects may have
  sized_known : {A : Type 0} {Q : A → Walk → Type 0} (global : Bool) (token : ℕ) (of : TypeTree) (w : Walk) (next : Done → Walk → Walked A) → Within w
      → ((v : Walk) → Within v → is_object structs of ≡ true → Gives (next tt v) Q) → Gives (object_type_checked global token of w >>= next) Q
  sized_known {A = A} {Q = Q} global token of w next k h =
      either (is_object w.structs of) (subst (λ own. is_object own of ≡ is_object w.structs of) k.structs_are refl)
    where
      either : (b : Bool) → is_object structs of ≡ b → Gives ((if b then counted_cells global token (cells_of w.structs of) w else Faulty fault.Object token) >>= next) Q
      either true e = and_then (counted_known global token (cells_of w.structs of) w k) (λ done v g. h v g e)
      either false e = record { by = tt }

  -- an object's pointer type points to a type of known size, so arithmetic on it is defined
  object_deep : (of : TypeTree) → Deep tree z (core of) → is_object structs of ≡ true → Deep tree z of
  object_deep of d h = (whole_by tree z of d (object_stays structs z.structs of grows stays h)).0

  -- what is known behind an initialiser, and the type as it completes it
  abbrev Completes : TypeTree → TypeTree → Walk → Type 0
  Completes of u v = Within v × Lengthened of u

  -- an initialiser notes what its expressions do
  initial_good : (global : Bool) (of : TypeTree) (x : Option InitialTree) (w : Walk) → Within w → Gives (walk_initial global of x w) (Completes of)
  initial_good global of None w k = record { by = (k, as_it_is of) }
  initial_good global of (Some (s.Value value)) w k = and_then (expr_good tree z sums structs functions members results value w k) (λ x v g.
      completed (first_token value) (type_by_expression global of value x (cells_of_string value)) v (λ u h.
      (g.1, valued_length global (cells_of_string value) of u value x h)))
  initial_good global of (Some (s.Braced token items comma)) w k = and_then (exprs_good tree z sums structs functions members results items [] w k tt) (λ xs v g.
      completed token (listed_type global items xs of) v (λ u h. (g.1, listed_length tree z ends global of u items xs h)))

  -- a variable whose length its initialiser gives
  open_good : (global : Bool) (x : StartTree) (of : TypeTree) (w : Walk) → Within w → Deep tree z (core of) → is_open structs of ≡ true
      → Gives (walk_open global x of w) Behind
  open_good global x of w k d h =
      let unknown : Open tree z of = open_by tree z structs of grows stays h d in
      and_then (initial_good global of x.initial (with_variable global x.declarator.name_token x.declarator.name of w)
      (declared_known global x.declarator.name_token x.declarator.name of w k unknown.whole.0)) (λ u v g.
      sized_known global x.token u v (λ _ r. Fine tt (with_declared_type (length w.variables) u r)) g.0 (λ r q object. record {
        by = completed_known (length w.variables) u r q (object_deep u (rw (long_core of u g.1) d) object);
      }))

  -- any other variable
  closed_good : (global : Bool) (x : StartTree) (of : TypeTree) (w : Walk) → Within w → Deep tree z (core of) → Gives (walk_closed global x of w) Behind
  closed_good global x of w k d =
      sized_known global x.token of w (λ _ v.
      walk_initial global of x.initial (with_variable global x.declarator.name_token x.declarator.name of v) >>= λ _ u. Fine tt u) k (λ v q object.
      and_then (initial_good global of x.initial (with_variable global x.declarator.name_token x.declarator.name of v)
      (declared_known global x.declarator.name_token x.declarator.name of v q (object_deep of d object))) (λ u r g. record { by = g.0 }))

  -- a variable of a type that is known, or none
  typed_good : (global : Bool) (x : StartTree) (o : Option TypeTree) (w : Walk) → Within w → ((of : TypeTree) → o ≡ Some of → Deep tree z (core of))
      → Gives (walk_typed global x o w) Behind
  unfolding walk_typed
  typed_good global x None w k d = record { by = tt }
  typed_good global x (Some of) w k d = either (is_some x.initial) (is_open w.structs of)
      (subst (λ own. is_open own of ≡ is_open w.structs of) k.structs_are refl)
    where
      either : (b c : Bool) → is_open structs of ≡ c → Gives (if b && c then walk_open global x of w else walk_closed global x of w) Behind
      either true true e = open_good global x of w k (d of refl) e
      either true false e = closed_good global x of w k (d of refl)
      either false c e = closed_good global x of w k (d of refl)

  -- a variable of a named base
  start_good : (global : Bool) (base : TypeTree) (x : StartTree) (w : Walk) → Within w → ((n : ℕ) → Deep tree z (with_stars n base))
      → Gives (walk_start global base x w) Behind
  start_good global base x w k d =
      if_faulty (is_name_taken x.declarator.name w.names) (walk_typed global x (declared_type x.declarator base) w) fault.Redeclared x.token (λ free.
      typed_good global x (declared_type x.declarator base) w k (λ of e. rw (declared_core x.declarator base of e)
      (core_deep tree z (with_stars x.declarator.stars base) (d x.declarator.stars))))

  -- several variables of one base
  starts_good : (global : Bool) (base : TypeTree) (xs : List StartTree) (w : Walk) → Within w → ((n : ℕ) → Deep tree z (with_stars n base))
      → Gives (walk_starts global base xs w) Behind
  starts_good global base [] w k d = record { by = k }
  starts_good global base (x ∷ xs) w k d = and_then (start_good global base x w k d) (λ done v g. starts_good global base xs v g d)

  -- a declaration, of globals or of locals
  pub declaration_good : (global : Bool) (d : DeclarationTree) (w : Walk) → Within w → Gives (walk_declaration global d w) Behind
  declaration_good global d w k = base_then d.base w (λ of v. walk_starts global of d.starts v) (λ of flat.
      starts_good global of d.starts w k (λ n. named_deep tree z sums structs functions members results (with_stars n of) (flat n)))

  -- what was known before a part is known behind it
  abbrev Lasts : Walk → Walk → Type 0
  Lasts w v = Within w → Within v

  -- so it is with a part that gives what is known behind it, and perhaps more
  lasting : {A : Type 0} (P : A → Walk → Type 0) (w : Walk) (r : Walked A) → ((x : A) (v : Walk) → P x v → Within v) → (Within w → Gives r P) → Keeps Lasts w r
  lasting P w (Fine x v) f h = λ k. f x v (h k).by
  lasting P w (Faulty kind token) f h = tt

  -- and what is so known is given
  given : {A : Type 0} (w : Walk) (r : Walked A) → Keeps Lasts w r → Within w → Gives r Behind
  given w (Fine x v) h k = record { by = h k }
  given w (Faulty kind token) h k = record { by = tt }

  lasts : IsKeptByStatements Lasts
  lasts = record {
    here = λ w k. k;
    next = λ w u v a b k. b (a k);
    expr = λ x w. lasting (Good tree z sums structs functions members results) w (walk_expr x w) (λ y v g. g.1)
        (expr_good tree z sums structs functions members results x w);
    whole = λ x w. lasting (Good tree z sums structs functions members results) w (walk_whole x w) (λ y v g. g.1)
        (whole_good tree z sums structs functions members results x w);
    declaration = λ d w. lasting Behind w (walk_declaration false d w) (λ y v g. g) (declaration_good false d w);
    scope = λ w u h k. (closing_known tt u (h (opened_known w k))).by;
  }

  -- the declarations and statements of a block
  pub entries_good : (gives : TypeTree) (looping : Bool) (xs : EntryList) (w : Walk) → Within w → Gives (walk_entries gives looping xs w) Behind
  entries_good gives looping xs w k = given w (walk_entries gives looping xs w) (entries_keep Lasts lasts gives looping xs w) k

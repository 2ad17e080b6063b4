-- Functions: what the walk takes is declared behind it, and where it stops a rule is broken.
use Rattle.std.proofs.Common.{◌⊎◌, inl, inr, ⊎_elim, ◌≡◌, ℕ, ◌<◌, refl, ap, subst, sym, ◌∙◌, arith, List, [], ◌∷◌, ◌++◌, map, Some, None, Bool, true}
use Rattle.std.proofs.Common.{false, length}
use Rattle.c_types_walk.specs.StatementWalk.{walk_entries}
use Rattle.c_types_faults.specs.Statements.{AreRuledEntries, EntriesBreak}
use Rattle.std.proofs.Common.{length-append}
use Rattle.std.proofs.lemmas.Bool.{and_parts, false≢true, or_cases, or_parts, or_right}
use Rattle.std.proofs.lemmas.Option.{slice_get_past, same_Some}
use Rattle.std.proofs.lemmas.Slice.Eq.{bytes_eq-Decides}
use Rattle.std.specs.Str.{bytes_eq}
use Rattle.std.specs.Prelude.{Option, is_none, is_some, slice_get, ◌&&◌, ◌||◌, if◌then◌else◌, unwrap_or}
use Rattle.c_types.proofs.Noted.{length_replaced}
use Rattle.base_lists.proofs.Tests.{left_false}
use Rattle.base_lists.proofs.Lists.{get_before, get_last}
use Rattle.c_syntax.specs.StatementTree.{EntryList}
use Rattle.c_types_rules.specs.declared.fault.FaultKind.{FaultKind}
use Rattle.c_types_rules.specs.declared.fault.FaultKind.TheVariants as fault
use Rattle.c_types_rules.specs.declared.function.FunctionType.{FunctionType}
use Rattle.c_types_rules.specs.Words.{is_struct, same_function, library_named, TypeTree}
use Rattle.c_types_expressions.specs.declared.names.Meaning.{Meaning}
use Rattle.c_types_expressions.specs.declared.names.Meaning.TheVariants as meaning
use Rattle.c_types_expressions.specs.declared.names.ScopeEntry.{ScopeEntry}
use Rattle.c_types_expressions.specs.declared.names.ScopeEntry.TheVariants.{Opens, Declares}
use Rattle.c_types_expressions.specs.declared.walk.FunctionEntry.{FunctionEntry}
use Rattle.c_types_expressions.specs.declared.walk.Parameter.{Parameter}
use Rattle.c_types_expressions.specs.declared.walk.Walk.{Walk}
use Rattle.c_types_expressions.specs.Words.{declared_meaning, is_here, is_reserved, or_before, with_variable, Fine, Faulty, Done, scope_opened, item_replaced}
use Rattle.c_types_walk.specs.ItemWalk.{is_clashing_name, function_checked, has_type, is_defined, known_as, typed_function, walk_body, walk_function}
use Rattle.c_types_walk.specs.ItemWalk.{with_definition, with_function, with_param, with_params}
use Rattle.c_types.specs.Answers.{note_at}
use Rattle.c_types_faults.specs.Events as event
use Rattle.c_types_faults.specs.Events.{Event, entries_events, scope_events}
use Rattle.c_types_faults.proofs.Noting.{Named, path_onward, step_onward}
use Rattle.c_types_faults.proofs.PathItems.{function_step}
use Rattle.c_types_faults.proofs.PathStatements.{entries_goes}
use Rattle.c_types_faults.proofs.Paths.{Path, called_name, variable_step, view}
use Rattle.c_types_faults.specs.Texts.{HasCall}
use Rattle.c_types_faults.proofs.Calling.{CallsIn, both_tell, has_left, has_right, path_calls}
use Rattle.c_types_faults.specs.Known.{Entity, Object, Function, Standard}
use Rattle.c_types_faults.specs.Agrees.{Denotes, IsType}
use Rattle.c_types_faults.specs.Context.{Context, HasName, IsReserved, name_declared, declared_in, inner_context}
use Rattle.c_types_faults.specs.Functions.{Clashes, Formal, FunctionBreaks, FunctionGives, FunctionRule, IsDefinedBefore, IsKnownAs, Names, is_listed}
use Rattle.c_types_faults.specs.Functions.{with_formal, FunctionFits}
use Rattle.c_types_faults.specs.Functions.{with_formals}
use Rattle.c_types_faults.proofs.Files.{named_in, places_new, places_on, Files, Funs, IsFlat, defined_funs, found_below, function_is, function_self}
use Rattle.c_types_faults.proofs.Files.{funs_same, listed_is, matches_more, text_found}
use Rattle.c_types_faults.proofs.Knowing.{Knows, Matches, entering_knows, here_named, object_knows, variable_shown, named_here}
use Rattle.c_types_faults.specs.Least.{IsLeast}
use Rattle.c_types_faults.proofs.Least.{least_first, least_second}
use Rattle.c_types_faults.proofs.Prototypes.{formal_of}
use Rattle.c_types_faults.proofs.Statements.{IsWithin, closing_tells, entries_tell, within_from, within_on, Beyond, Within}
use Rattle.c_types_faults.proofs.Telling.{Shown, Tells, and_then, shown, weaker}
use Rattle.c_types_faults.proofs.Variables.{Moves, joined, moves_then, object_moves, reserved_by, still, reserved_true}

-- what a name was declared as before

abbrev pub KnownIs : FunctionType → Option Meaning → Option Entity → Option ℕ → Type 0
KnownIs f m x None = x ≡ Some (Function f) → ⊥
KnownIs f m x (Some j) = (x ≡ Some (Function f)) × (m ≡ Some (meaning.Function j))

abbrev If : Bool → ℕ → Option ℕ
If b j = if b then Some j else None

known_function : (b : Bool) (f g : FunctionType) (j : ℕ) (o : Option ℕ) → same_function g f ≡ b → If b j ≡ o
    → KnownIs f (Some (meaning.Function j)) (Some (Function g)) o
known_function true f g j None e h = absurd (cc)
known_function true f g j (Some i) e h = (ap (λ z. Some (Function z)) (function_is g f e), ap (λ n. Some (meaning.Function n)) (same_Some j i h))
known_function false f g j (Some i) e h = absurd (cc)
known_function false f g j None e h = λ q. false≢true (sym e ∙ ap (λ z. same_function z f) (same g f q) ∙ function_self f)
  where
    same : (g f : FunctionType) → Some (Function g) ≡ Some (Function f) → g ≡ f
    same g f h = cc

not_known : (f : FunctionType) (m : Option Meaning) (x : Option Entity) (o : Option ℕ) → None ≡ o → (x ≡ Some (Function f) → ⊥) → KnownIs f m x o
not_known f m x None h g = g
not_known f m x (Some j) h g = absurd (cc)

typed_function_is : (f g : FunctionType) (j : ℕ) (e : Option FunctionEntry) (o : Option ℕ) → IsType e (λ y. y.ctype ≡ g) → If (has_type f e) j ≡ o
    → KnownIs f (Some (meaning.Function j)) (Some (Function g)) o
typed_function_is f g j None o h k = absurd h
typed_function_is f g j (Some y) o h k =
    subst (λ z. KnownIs f (Some (meaning.Function j)) (Some (Function z)) o) h (known_function (same_function y.ctype f) f y.ctype j o refl k)

pub known_by : (f : FunctionType) (m : Option Meaning) (x : Option Entity) (w : Walk) (o : Option ℕ) → Denotes w.declared_types w.functions m x
    → known_as f m w ≡ o → KnownIs f m x o
known_by f None None w o h k = not_known f None None o k (λ q. cc)
known_by f (Some (meaning.Variable i)) (Some (Object of)) w o h k = not_known f (Some (meaning.Variable i)) (Some (Object of)) o k (λ q. cc)
known_by f (Some (meaning.Function i)) (Some (Function g)) w o h k = typed_function_is f g i (slice_get w.functions i) o h k
known_by f (Some (meaning.Library l)) (Some (Standard g)) w o h k = not_known f (Some (meaning.Library l)) (Some (Standard g)) o k (λ q. cc)
known_by f None (Some x) w o h k = absurd h
known_by f (Some (meaning.Variable i)) (Some (Function g)) w o h k = absurd h
known_by f (Some (meaning.Variable i)) (Some (Standard g)) w o h k = absurd h
known_by f (Some (meaning.Function i)) (Some (Object of)) w o h k = absurd h
known_by f (Some (meaning.Function i)) (Some (Standard g)) w o h k = absurd h
known_by f (Some (meaning.Library l)) (Some (Object of)) w o h k = absurd h
known_by f (Some (meaning.Library l)) (Some (Function g)) w o h k = absurd h
known_by f (Some (meaning.Struct i)) (Some x) w o h k = absurd h
known_by f (Some m) None w o h k = absurd h

-- parameters

param_knows : (token : ℕ) (o : Option (List ℕ)) (t : TypeTree) (c : Context) (w : Walk) → Knows c (shown w)
    → Knows (with_formal o t c) (shown (with_param token o t w))
param_knows token None t c w k = k
param_knows token (Some name) t c w k =
    subst (Knows (name_declared name (Object t) c)) (sym (variable_shown false token name t w)) (object_knows name t k)

param_moves : (token : ℕ) (o : Option (List ℕ)) (t : TypeTree) (w : Walk)
    → (ps : List (List ℕ × ℕ)) × Moves ps (shown w) (shown (with_param token o t w))
param_moves token None t w = ([], still (shown w) (shown w) refl)
param_moves token (Some name) t w = (
  (name, length w.variables) ∷ [],
  subst (Moves ((name, length w.variables) ∷ []) (shown w)) (sym (variable_shown false token name t w)) (object_moves name t (shown w)),
)

formal_within : (o : Option (List ℕ)) (t : TypeTree) (c : Context) → IsWithin c (with_formal o t c)
formal_within None t c = refl
formal_within (Some name) t c = refl

pub params_know : (ps : List Parameter) (c : Context) (w : Walk) → Knows c (shown w) → Knows (with_formals (map formal_of ps) c) (shown (with_params ps w))
params_know [] c w k = k
params_know (p ∷ ps) c w k =
    params_know ps (with_formal p.name p.ctype c) (with_param p.token p.name p.ctype w) (param_knows p.token p.name p.ctype c w k)

params_move : (ps : List Parameter) (w : Walk) → (qs : List (List ℕ × ℕ)) × Moves qs (shown w) (shown (with_params ps w))
params_move [] w = ([], still (shown w) (shown w) refl)
params_move (p ∷ ps) w =
    let a = param_moves p.token p.name p.ctype w in
    let b = params_move ps (with_param p.token p.name p.ctype w) in (joined b.0 a.0, moves_then a.1 b.1)

formals_within : (fs : List Formal) (c : Context) → IsWithin c (with_formals fs c)
formals_within [] c = refl
formals_within (f ∷ fs) c =
    formals_within fs (with_formal f.name f.of c)
    ∙ ap (λ (d : Context). record d { scope = (with_formals fs (with_formal f.name f.of c)).scope }) (formal_within f.name f.of c)

-- the name of a function

abbrev pub next_of : List ℕ → FunctionType → Option ℕ → Context → Context
next_of name f (Some j) c = c
next_of name f None c = name_declared name (Function f) c

pub named_knows : (name : List ℕ) (f : FunctionType) (o : Option ℕ) (c : Context) (w : Walk) → Knows c (shown w)
    → Knows (next_of name f o c) (shown (with_function name f o w))
named_knows name f (Some j) c w k = k
named_knows name f None c w k =
    let g : FunctionEntry = record { name = name; ctype = f } in
    record {
      names = (
        refl,
        omega (arith, length-append w.functions (g ∷ [])),
        subst (λ o. IsType o (λ y. y.ctype ≡ f)) (sym (get_last w.functions g)) refl,
        matches_more w.declared_types w.functions g (length w.variables) (length w.functions) w.names c.scope c.outer k.names,
      );
      tags = k.tags;
      structs = k.structs;
      count = k.count;
      cells = k.cells;
    }

-- a function that is new in its scope
new_files : (name : List ℕ) (f : FunctionType) (c : Context) (w : Walk) → Files c (shown w) → is_here name w.names ≡ false
    → Files (name_declared name (Function f) c) (shown (with_function name f None w))
new_files name f c w k new =
    let g : FunctionEntry = record { name = name; ctype = f } in
    record {
      knows = named_knows name f None c w k.knows;
      outer = k.outer;
      funs = (
        omega (arith, length-append w.functions (g ∷ [])),
        ap (λ n. is_defined n (w.defined_as ++ None ∷ [])) (sym k.long) ∙ ap (λ o. is_some (unwrap_or o None)) (get_last w.defined_as None)
            ∙ sym (not_listed (is_listed name c.defined) refl),
        new,
        funs_same w.defined_as (w.defined_as ++ None ∷ []) c.defined c.defined (length w.functions) w.names
            (λ i p. ap (λ o. is_some (unwrap_or o None)) (get_before w.defined_as None i (omega (arith, p, k.long)))) (λ n p. refl) k.flat k.funs,
      );
      flat = k.flat;
      long = omega (arith, k.long, length-append w.functions (g ∷ []), length-append w.defined_as (None ∷ []));
      here = λ n h. or_right _ (is_here n w.names) (k.here n h);
      places = places_new name f w.names w.functions k.places;
    }
  where
    not_listed : (b : Bool) → is_listed name c.defined ≡ b → b ≡ false
    not_listed true e = absurd (false≢true (sym new ∙ k.here name e))
    not_listed false e = refl

named_files : (name : List ℕ) (f : FunctionType) (o : Option ℕ) (c : Context) (w : Walk) → Files c (shown w) → is_clashing_name name o w ≡ false
    → Files (next_of name f o c) (shown (with_function name f o w))
named_files name f (Some j) c w k h = k
named_files name f None c w k h =
    new_files name f c w k (left_false (is_here name w.names) (or_parts (is_reserved name) (is_here name w.names && true) h).1)

moved_files : {c : Context} {s r : Shown} → Files c s → Knows c r → Moves [] s r → Files c r
moved_files {c = c} {s = s} {r = r} k n m = record {
  knows = n;
  outer = k.outer;
  funs = subst (λ ds. Funs ds c.defined (length r.functions) r.names) (sym m.defined_as)
      (subst (λ fs. Funs s.defined_as c.defined (length fs) r.names) (sym m.functions)
      (subst (Funs s.defined_as c.defined (length s.functions)) (sym m.names) k.funs));
  flat = subst IsFlat (sym m.names) k.flat;
  long = ap length m.defined_as ∙ k.long ∙ ap length (sym m.functions);
  here = λ name h. ap (is_here name) m.names ∙ k.here name h;
  places = places_on k.places m.names m.functions;
}

found_here : (name : List ℕ) (j : ℕ) (names : List ScopeEntry) → IsFlat names → declared_meaning name names ≡ Some (meaning.Function j) → is_here name names ≡ true
found_here name j [] flat e = absurd (cc)
found_here name j (Opens ∷ rest) flat e = absurd flat
found_here name j (Declares n m ∷ rest) flat e = by (bytes_eq n name) e (found_here name j rest flat)
  where
    by : (b : Bool) → or_before (if b then Some m else None) (declared_meaning name rest) ≡ Some (meaning.Function j)
        → (declared_meaning name rest ≡ Some (meaning.Function j) → is_here name rest ≡ true) → (b || is_here name rest) ≡ true
    by true e f = refl
    by false e f = f e

defined_files : (name : List ℕ) (j number : ℕ) (c : Context) (s : Shown) → Files c s → declared_meaning name s.names ≡ Some (meaning.Function j)
    → Files (record c { defined = name ∷ c.defined }) (record s { defined_as = item_replaced s.defined_as j (Some number) })
defined_files name j number c s k e =
    let less : j < length s.functions = found_below name j s.defined_as c.defined (length s.functions) s.names k.flat e k.funs in
    record {
      knows = record { names = k.knows.names; tags = k.knows.tags; structs = k.knows.structs; count = k.knows.count; cells = k.knows.cells };
      outer = k.outer;
      funs = defined_funs name j s.defined_as c.defined number (omega (arith, less, k.long)) (length s.functions) s.names k.flat e k.funs;
      flat = k.flat;
      long = length_replaced s.defined_as j (Some number) ∙ k.long;
      here = λ n h. ⊎_elim (λ b. subst (λ m. is_here m s.names ≡ true) ((bytes_eq-Decides name n).0 b) (found_here name j s.names k.flat e))
          (λ b. k.here n b) (or_cases (bytes_eq name n) (is_listed n c.defined) h);
      places = k.places;
    }

-- what a part notes of calls, and the functions that are known behind it

pub record Notes (es : List Event) (w v : Walk) : Type 0 where
  pub calls : CallsIn es w.functions_at v.functions_at (map called_name v.functions)
  pub grows : (i : ℕ) (name : List ℕ) → slice_get (map called_name w.functions) i ≡ Some name → slice_get (map called_name v.functions) i ≡ Some name

function_calls : (name : List ℕ) (f : FunctionType) (o : Option ℕ) (w : Walk) → (with_function name f o w).functions_at ≡ w.functions_at
function_calls name f (Some j) w = refl
function_calls name f None w = refl

param_calls : (token : ℕ) (o : Option (List ℕ)) (t : TypeTree) (w : Walk) → (with_param token o t w).functions_at ≡ w.functions_at
param_calls token None t w = refl
param_calls token (Some name) t w = refl

params_calls : (ps : List Parameter) (w : Walk) → (with_params ps w).functions_at ≡ w.functions_at
params_calls [] w = refl
params_calls (p ∷ ps) w = params_calls ps (with_param p.token p.name p.ctype w) ∙ param_calls p.token p.name p.ctype w

param_named : (token : ℕ) (o : Option (List ℕ)) (t : TypeTree) (w : Walk) → Named (view w) → Named (view (with_param token o t w))
param_named token None t w n = n
param_named token (Some name) t w n =
    (step_onward (event.Variable token) (view w) (view (with_variable false token name t w)) (variable_step false token name t w)).named n

params_named : (ps : List Parameter) (w : Walk) → Named (view w) → Named (view (with_params ps w))
params_named [] w n = n
params_named (p ∷ ps) w n = params_named ps (with_param p.token p.name p.ctype w) (param_named p.token p.name p.ctype w n)

abbrev pub body_events : Option EntryList → List Event
body_events None = []
body_events (Some body) = entries_events body

-- the calls of a body are those of its function
pub in_function : (k : ℕ) (called name : List ℕ) (ps body : List Event) → HasCall k called body
    → HasCall k called (event.Names name ∷ scope_events (ps ++ body) ++ event.Defines ∷ [])
in_function k called name ps body h = has_left k called ((ps ++ body) ++ event.Closes ∷ []) (event.Defines ∷ [])
    (has_left k called (ps ++ body) (event.Closes ∷ []) (has_right k called ps body h))

-- the function itself

module _ (token : ℕ) (name : List ℕ) (f : FunctionType) (c : Context) (w : Walk) (k : Files c (shown w)) where
  was_found : Denotes w.declared_types w.functions (declared_meaning name w.names) (declared_in name c.scope)
  was_found = text_found w.declared_types w.functions (length w.variables) (length w.functions) w.names c.scope
      (subst (λ outer. Matches w.declared_types w.functions (length w.variables) (length w.functions) w.names c.scope outer) k.outer k.knows.names) name

  abbrev Was : Option ℕ → Type 0
  Was o = KnownIs f (declared_meaning name w.names) (declared_in name c.scope) o

  names_so : (o : Option ℕ) → Was o → Names name f c (next_of name f o c)
  names_so None h = inr (h, refl)
  names_so (Some j) h = inl (h.0, refl)

  clash_rule : (o : Option ℕ) → Was o → ((is_reserved name ≡ true) ⊎ ((is_here name w.names && is_none o) ≡ true))
      → Clashes name f c
  clash_rule o h (inl e) = inl (reserved_by (library_named name) e)
  clash_rule None h (inr e) = inr (
    here_named w.declared_types w.functions (length w.variables) (length w.functions) w.names c.scope c.outer k.knows.names name
        (and_parts (is_here name w.names) true e).0,
    h,
  )
  clash_rule (Some j) h (inr e) = absurd (false≢true (and_parts (is_here name w.names) false e).1)

  declares_tells : {B : FaultKind → ℕ → Type 0} (b : Bool) (gives : TypeTree) (v : Walk) → (b ≡ true → B fault.Redeclared token)
      → (b ≡ false → is_struct gives ≡ true → B fault.Object token) → Tells (function_checked token b gives v)
      (λ (d : Done) u. (b ≡ false) × (u ≡ v) × (is_struct gives ≡ false)) B
  declares_tells true gives v g h = record { by = g refl }
  declares_tells {B = B} false gives v g h = result (is_struct gives) (h refl)
    where
      result : (b : Bool) → (b ≡ true → B fault.Object token)
          → Tells (if b then Faulty fault.Object token else Fine tt v) (λ (d : Done) u. (false ≡ false) × (u ≡ v) × (b ≡ false)) B
      result true h = record { by = h refl }
      result false h = record { by = (refl, refl, refl) }

  rule_of : (o : Option ℕ) → Was o → is_clashing_name name o w ≡ true → Clashes name f c
  rule_of o h e = clash_rule o h (or_cases (is_reserved name) (is_here name w.names && is_none o) e)

  named : (o : Option ℕ) → Named (view (with_function name f o w))
  named o = (step_onward (event.Names name) (view w) (view (with_function name f o w)) (function_step name f o w)).named (named_in w k)

  grown : (o : Option ℕ) (i : ℕ) (other : List ℕ) → slice_get (map called_name w.functions) i ≡ Some other
      → slice_get (map called_name (with_function name f o w).functions) i ≡ Some other
  grown o i other h = (step_onward (event.Names name) (view w) (view (with_function name f o w)) (function_step name f o w)).functions i other h

  -- the rules that it keeps
  free_so : (o : Option ℕ) → Was o → is_clashing_name name o w ≡ false → (IsReserved name → ⊥) × (HasName name c.scope → IsKnownAs name f c)
  free_so o h e =
      let parts = or_parts (is_reserved name) (is_here name w.names && is_none o) e in
      (λ r. false≢true (sym parts.0 ∙ reserved_true name r), λ n. known_so o h parts.1 n)
    where
      here : HasName name c.scope → is_here name w.names ≡ true
      here n = named_here w.declared_types w.functions (length w.variables) (length w.functions) w.names c.scope c.outer k.knows.names name n

      known_so : (o : Option ℕ) → Was o → (is_here name w.names && is_none o) ≡ false → HasName name c.scope → IsKnownAs name f c
      known_so (Some j) h e n = h.0
      known_so None h e n = absurd (false≢true (sym (left_false (is_here name w.names) e) ∙ here n))

  fits_so : (o : Option ℕ) → Was o → is_clashing_name name o w ≡ false → is_struct f.gives ≡ false → FunctionFits name f c
  fits_so o h e g = let q = free_so o h e in (q.0, q.1, g)

  no_clash : (o : Option ℕ) → Was o → is_clashing_name name o w ≡ false → Clashes name f c → ⊥
  no_clash o h e (inl r) = (free_so o h e).0 r
  no_clash o h e (inr r) = r.1 ((free_so o h e).1 r.0)

  once_so : (o : Option ℕ) → Was o → is_defined (unwrap_or o (length w.functions)) w.defined_as ≡ false → IsKnownAs name f c
      → is_listed name c.defined ≡ false
  once_so None h e q = absurd (h q)
  once_so (Some j) h e q = sym (listed_is name j w.defined_as c.defined (length w.functions) w.names k.flat h.1 k.funs) ∙ e

  -- behind a function
  abbrev Told : List Formal → Option EntryList → Done → Walk → Type 0
  Told formals body d v = ((after : Context) × (FunctionGives name f formals body c after × Files after (shown v))) × Notes (body_events body) w v

  -- a declaration
  declared_tells : (o : Option ℕ) → Was o → (xs : List Parameter)
      → Tells (walk_function token f name xs None o w) (Told (map formal_of xs) None) (FunctionBreaks token name f (map formal_of xs) None c)
  declared_tells o h xs = weaker (declares_tells {B = λ j at. (at ≡ token) × IsLeast (FunctionRule (Clashes name f c) f) j} (is_clashing_name name o w) f.gives
      (with_function name f o w)
      (λ e. (
        refl,
        least_first (Clashes name f c) (is_struct f.gives ≡ true) fault.Redeclared fault.Object fault.Redeclared (omega arith) refl (rule_of o h e),
      ))
      (λ n e. (refl, least_second (Clashes name f c) (is_struct f.gives ≡ true) fault.Redeclared fault.Object fault.Object (no_clash o h n) refl e)))
      (λ j at b. b)
      (λ d v p. (
        (
          next_of name f o c,
          (
            (fits_so o h p.0 p.2, names_so o h),
            subst (λ z. Files (next_of name f o c) (shown z)) (sym p.1)
                (named_files name f o c w k p.0),
          ),
        ),
        subst (Notes [] w) (sym p.1)
            (record { calls = λ t i n. inl (ap (λ ns. note_at ns t) (sym (function_calls name f o w)) ∙ n); grows = grown o }),
      ))

  twice_by : (o : Option ℕ) → Was o → is_defined (unwrap_or o (length w.functions)) w.defined_as ≡ true → IsDefinedBefore name f c
  twice_by None h e =
      absurd (false≢true (sym (ap (λ x. is_some (unwrap_or x None)) (slice_get_past w.defined_as (length w.functions) (omega (arith, k.long)))) ∙ e))
  twice_by (Some j) h e =
      (h.0, sym (listed_is name j w.defined_as c.defined (length w.functions) w.names k.flat h.1 k.funs) ∙ e)

  -- it may not be declared so here, or it may
  abbrev MayNot : Type 0
  MayNot = Clashes name f c ⊎ IsDefinedBefore name f c

  may_not : (o : Option ℕ) → Was o → (is_clashing_name name o w || is_defined (unwrap_or o (length w.functions)) w.defined_as) ≡ true → MayNot
  may_not o h e = ⊎_elim (λ a. inl (rule_of o h a)) (λ a. inr (twice_by o h a))
      (or_cases (is_clashing_name name o w) (is_defined (unwrap_or o (length w.functions)) w.defined_as) e)

  may : (o : Option ℕ) → Was o → (is_clashing_name name o w || is_defined (unwrap_or o (length w.functions)) w.defined_as) ≡ false → MayNot → ⊥
  may o h e (inl r) = no_clash o h (or_parts (is_clashing_name name o w) (is_defined (unwrap_or o (length w.functions)) w.defined_as) e).0 r
  may o h e (inr r) =
      false≢true (sym (once_so o h (or_parts (is_clashing_name name o w) (is_defined (unwrap_or o (length w.functions)) w.defined_as) e).1 r.0) ∙ r.1)

  place_found : (o : Option ℕ) → Was o → declared_meaning name (with_function name f o w).names ≡ Some (meaning.Function (unwrap_or o (length w.functions)))
  place_found (Some j) h = h.1
  place_found None h = ap (λ b. or_before (if b then Some (meaning.Function (length w.functions)) else None) (declared_meaning name w.names))
      ((bytes_eq-Decides name name).1 refl)

  -- the body, behind its parameters
  body_notes : (o : Option ℕ) (xs : List Parameter) (es : List Event) (v : Walk)
      → Path es (view (with_params xs (scope_opened (record (with_function name f o w) { locals = 0 })))) (view v) → Notes es w v
  body_notes o xs es v p =
      let begun : Walk = record (with_function name f o w) { locals = 0 } in
      let first : Walk = with_params xs (scope_opened begun) in
      let m = params_move xs (scope_opened begun) in
      let n : Named (view (scope_opened begun)) =
      (step_onward event.Opens (view begun) (view (scope_opened begun)) refl).named (named o) in
      record {
        calls = λ t i h. ⊎_elim (λ e. inl (ap (λ ns. note_at ns t) (sym (params_calls xs (scope_opened begun) ∙ function_calls name f o w)) ∙ e)) (λ e. inr e)
            (path_calls es (view first) (view v) (params_named xs (scope_opened begun) n) p t i h);
        grows = λ i other h. (path_onward es (view first) (view v) p).functions i other
            (ap (λ fs. slice_get (map called_name fs) i) m.1.functions ∙ grown o i other h);
      }

  -- a definition
  body_tells : (o : Option ℕ) → Was o → (xs : List Parameter) (body : EntryList)
      → Tells (walk_body token f name xs body o w) (Told (map formal_of xs) (Some body)) (FunctionBreaks token name f (map formal_of xs) (Some body) c)
  unfolding walk_body
  body_tells o h xs body =
      let next : Context = next_of name f o c in
      let begun : Walk = record (with_function name f o w) { locals = 0 } in
      let here : Knows next (shown begun) = named_knows name f o c w k.knows in
      let fs : List Formal = map formal_of xs in
      let first : Walk = with_params xs (scope_opened begun) in
      let moved = params_move xs (scope_opened begun) in
      let es : List Event = entries_events body in
      and_then (and_then {Q = λ (d : Done) v. Beyond next begun v × Notes es w v × AreRuledEntries f.gives (with_formals fs (inner_context next)) false body}
      (both_tell (λ (d : Done) v. Within (with_formals fs (inner_context next)) first v × AreRuledEntries f.gives (with_formals fs (inner_context next)) false body) (λ
      (d : Done) v. Path es (view first) (view v) × Unit {0})
      (EntriesBreak f.gives (with_formals fs (inner_context next)) false body) (walk_entries f.gives false body first)
      (entries_tell f.gives false body (with_formals fs (inner_context next)) first (params_know xs (inner_context next) (scope_opened begun) (entering_knows here)))
      (entries_goes f.gives false body first))
      (λ j at b. (next, (names_so o h, inl b)))
      (λ d v i. record {
        by = (
          (closing_tells {B = FunctionBreaks token name f fs (Some body) c} next begun v d
              (within_on moved.0 moved.1 (within_from (inner_context next) (with_formals fs (inner_context next)) first v (formals_within fs (inner_context next)) i.0.0))).by,
          let n : Notes es w v = body_notes o xs es v i.1.0 in record { calls = n.calls; grows = n.grows },
          i.0.1,
        );
      }))
      (λ j at b. b)
      (λ d v p. and_then (declares_tells {B = FunctionBreaks token name f fs (Some body) c}
      (is_clashing_name name o w || is_defined (unwrap_or o (length w.functions)) w.defined_as) f.gives v
      (λ e. (
        next,
        (
          names_so o h,
          inr (
            p.2,
            (refl, least_first MayNot (is_struct f.gives ≡ true) fault.Redeclared fault.Object fault.Redeclared (omega arith) refl (may_not o h e)),
          ),
        ),
      ))
      (λ n e. (
        next,
        (
          names_so o h,
          inr (
            p.2,
            (refl, least_second MayNot (is_struct f.gives ≡ true) fault.Redeclared fault.Object fault.Object (may o h n) refl e),
          ),
        ),
      )))
      (λ j at b. b)
      (λ e u q. record {
        by = (
          (
            record next { defined = name ∷ next.defined },
            (
              (
                fits_so o h (or_parts (is_clashing_name name o w) (is_defined (unwrap_or o (length w.functions)) w.defined_as) q.0).0 q.2,
                once_so o h (or_parts (is_clashing_name name o w) (is_defined (unwrap_or o (length w.functions)) w.defined_as) q.0).1,
                (next, (names_so o h, p.2, refl)),
              ),
              subst (λ (z : Walk). Files (record next { defined = name ∷ next.defined })
                  (shown (with_definition (unwrap_or o (length w.functions)) (length w.variables) z))) (sym q.1)
                  (defined_files name (unwrap_or o (length w.functions)) (length v.definitions) next (shown v)
                  (moved_files (named_files name f o c w k
                  (or_parts (is_clashing_name name o w) (is_defined (unwrap_or o (length w.functions)) w.defined_as) q.0).0) p.0.knows p.0.moves)
                  (ap (declared_meaning name) p.0.moves.names ∙ place_found o h)),
            ),
          ),
          subst (λ (z : Walk). Notes es w (with_definition (unwrap_or o (length w.functions)) (length w.variables) z)) (sym q.1)
              (record { calls = p.1.calls; grows = p.1.grows }),
        );
      }))

  function_by : (o : Option ℕ) → Was o → (xs : List Parameter) (body : Option EntryList)
      → Tells (walk_function token f name xs body o w) (Told (map formal_of xs) body) (FunctionBreaks token name f (map formal_of xs) body c)
  function_by o h xs None = declared_tells o h xs
  function_by o h xs (Some body) = body_tells o h xs body

  pub function_tells : (xs : List Parameter) (body : Option EntryList)
      → Tells (typed_function token f name xs body w) (Told (map formal_of xs) body) (FunctionBreaks token name f (map formal_of xs) body c)
  function_tells xs body = function_by (known_as f (declared_meaning name w.names) w)
      (known_by f (declared_meaning name w.names) (declared_in name c.scope) w (known_as f (declared_meaning name w.names) w) was_found refl) xs body

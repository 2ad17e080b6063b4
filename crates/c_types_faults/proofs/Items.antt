-- Items: what the walk takes is declared behind it, and where it stops a rule is broken.
use Rattle.std.proofs.Common.{◌++◌, ⊎_elim, inl, inr, map, ◌≡◌, ℕ, refl, ap, subst, sym, ◌∙◌, List, [], ◌∷◌, Bool, true, false, length, Some, None}
use Rattle.defined_functions.specs.Functions.{defined_in}
use Rattle.c_syntax.specs.declared.parts.Base.{Base}
use Rattle.std.specs.Prelude.{slice_get, Option, is_some, ◌||◌}
use Rattle.std.specs.Str.{bytes_eq}
use Rattle.std.proofs.lemmas.Bool.{or_right}
use Rattle.c_syntax.specs.declared.parts.Members.{Members}
use Rattle.c_syntax.specs.ItemTree as i
use Rattle.c_syntax.specs.Words.{ItemTree, StartTree, EntryList}
use Rattle.c_types_rules.specs.declared.function.FunctionType.{FunctionType}
use Rattle.c_types_rules.specs.Words.{TypeTree, cells_of}
use Rattle.c_types_expressions.specs.declared.names.ScopeEntry.{ScopeEntry}
use Rattle.c_types_expressions.specs.declared.walk.Parameter.{Parameter}
use Rattle.c_types_expressions.specs.declared.walk.Walk.{Walk}
use Rattle.c_types_expressions.specs.Words.{with_stars, is_here, Done}
use Rattle.c_types_walk.specs.ItemWalk.{listed_params, types_of, walk_item, walk_items}
use Rattle.c_syntax.specs.declared.parts.Params.{Params}
use Rattle.c_types.specs.Answers.{note_at}
use Rattle.c_types_expressions.specs.declared.walk.FunctionEntry.{FunctionEntry}
use Rattle.c_types_walk.specs.StatementWalk.{walk_declaration}
use Rattle.c_types_faults.specs.Events.{Event, declaration_events, entries_events, item_events, items_events, params_events}
use Rattle.c_types_faults.proofs.Noting.{Listed, Named, NoLibrary, path_onward}
use Rattle.c_types_faults.proofs.PathStatements.{declaration_goes}
use Rattle.c_types_faults.proofs.Paths.{Path, called_name, view}
use Rattle.c_types_faults.proofs.Calling.{both_tell, calls_then, path_calls}
use Rattle.c_types_faults.specs.Context.{Context, global_cells_added, empty_context, known_identifiers}
use Rattle.c_types_faults.specs.Declarations.{VariableGives, VariablesGive, DeclarationGives, DeclarationBreaks}
use Rattle.c_types_faults.specs.Structs.{StructGives}
use Rattle.c_types_faults.specs.Functions.{FunctionBreaks, PrototypeGives, is_listed, formal_type, Names}
use Rattle.c_types_faults.specs.Items.{ItemBreaks, ItemGives, ItemsBreak, ItemsGive}
use Rattle.c_types_faults.proofs.Declaring.{Behind, declaration_tells}
use Rattle.c_types_faults.proofs.Exprs.{base_tells}
use Rattle.c_types_faults.proofs.Files.{Places, named_in, places_on, Files, Funs, IsFlat}
use Rattle.c_types_faults.proofs.Functions.{Notes, body_events, function_tells, in_function}
use Rattle.c_types_faults.proofs.Knowing.{agreed}
use Rattle.c_types_faults.proofs.Prototypes.{formal_of, params_tell}
use Rattle.c_types_faults.proofs.Structs.{Structured, struct_tells}
use Rattle.c_types_faults.proofs.Telling.{Tells, agrees_on, and_then, shown, weaker}
use Rattle.c_types_faults.proofs.Variables.{pushed}

-- a struct

structured_files : {c : Context} (after : Context) (w v : Walk) → after.outer ≡ c.outer → after.defined ≡ c.defined → Files c (shown w) → Structured after w v
    → Files after (shown v)
structured_files {c = c} after w v outer defined k s = record {
  knows = s.knows;
  outer = outer ∙ k.outer;
  funs = subst (λ ns. Funs v.defined_as ns (length v.functions) v.names) (sym defined)
      (subst (λ ds. Funs ds c.defined (length v.functions) v.names) (sym s.defined_as)
      (subst (λ fs. Funs w.defined_as c.defined (length fs) v.names) (sym s.functions)
      (subst (Funs w.defined_as c.defined (length w.functions)) (sym s.names) k.funs)));
  flat = subst IsFlat (sym s.names) k.flat;
  long = ap length s.defined_as ∙ k.long ∙ ap length (sym s.functions);
  here = λ name h. ap (is_here name) s.names ∙ k.here name (ap (is_listed name) (sym defined) ∙ h);
  places = places_on k.places s.names s.functions;
}

struct_keeps : (tag : List ℕ) (members : List Members) (c after : Context) → StructGives c tag members after
    → (after.outer ≡ c.outer) × (after.defined ≡ c.defined)
struct_keeps tag members c after (s, h) = (ap (λ (d : Context). d.outer) h.3, ap (λ (d : Context). d.defined) h.3)

-- variables

counting_keeps : (global : Bool) (n : ℕ) (c : Context) → ((global_cells_added global n c).outer ≡ c.outer) × ((global_cells_added global n c).defined ≡ c.defined)
counting_keeps true n c = (refl, refl)
counting_keeps false n c = (refl, refl)

variable_keeps : (global : Bool) (base : TypeTree) (x : StartTree) (c after : Context) → VariableGives global base c x after
    → (after.outer ≡ c.outer) × (after.defined ≡ c.defined)
variable_keeps global base x c after (new, (t, (u, h))) =
    let k = counting_keeps global (cells_of c.structs u) c in (ap (λ (d : Context). d.outer) h.4 ∙ k.0, ap (λ (d : Context). d.defined) h.4 ∙ k.1)

pub variables_keep : (global : Bool) (base : TypeTree) (xs : List StartTree) (c after : Context) → VariablesGive global base c xs after
    → (after.outer ≡ c.outer) × (after.defined ≡ c.defined)
variables_keep global base [] c after h = (ap (λ (d : Context). d.outer) h, ap (λ (d : Context). d.defined) h)
variables_keep global base (x ∷ xs) c after (next, h) =
    let a = variable_keeps global base x c next h.0 in
    let b = variables_keep global base xs next after h.1 in (b.0 ∙ a.0, b.1 ∙ a.1)

pushed_funs : (ds : List (Option ℕ)) (ns : List (List ℕ)) (bound : ℕ) (ps : List (List ℕ × ℕ)) (names : List ScopeEntry) → Funs ds ns bound names
    → Funs ds ns bound (pushed ps names)
pushed_funs ds ns bound [] names h = h
pushed_funs ds ns bound (p ∷ ps) names h = pushed_funs ds ns bound ps names h

pushed_flat : (ps : List (List ℕ × ℕ)) (names : List ScopeEntry) → IsFlat names → IsFlat (pushed ps names)
pushed_flat [] names h = h
pushed_flat (p ∷ ps) names h = pushed_flat ps names h

pushed_here : (name : List ℕ) (ps : List (List ℕ × ℕ)) (names : List ScopeEntry) → is_here name names ≡ true → is_here name (pushed ps names) ≡ true
pushed_here name [] names h = h
pushed_here name (p ∷ ps) names h = or_right (bytes_eq p.0 name) (is_here name (pushed ps names)) (pushed_here name ps names h)

pushed_listed : (name : List ℕ) (i : ℕ) (ps : List (List ℕ × ℕ)) (names : List ScopeEntry) → Listed name i names → Listed name i (pushed ps names)
pushed_listed name i [] names h = h
pushed_listed name i (p ∷ ps) names h = pushed_listed name i ps names h

listed_pushed : (name : List ℕ) (i : ℕ) (ps : List (List ℕ × ℕ)) (names : List ScopeEntry) → Listed name i (pushed ps names) → Listed name i names
listed_pushed name i [] names h = h
listed_pushed name i (p ∷ ps) names h = listed_pushed name i ps names h

pushed_own : (ps : List (List ℕ × ℕ)) (names : List ScopeEntry) → NoLibrary names → NoLibrary (pushed ps names)
pushed_own [] names h = h
pushed_own (p ∷ ps) names h = pushed_own ps names h

pushed_places : {names : List ScopeEntry} {fs : List FunctionEntry} (ps : List (List ℕ × ℕ)) → Places names fs → Places (pushed ps names) fs
pushed_places {names = names} ps k = record {
  listed = λ i name h. pushed_listed name i ps names (k.listed i name h);
  named = λ name i h. k.named name i (listed_pushed name i ps names h);
  own = pushed_own ps names k.own;
}

pub behind_files : {c : Context} (after : Context) (w v : Walk) → after.outer ≡ c.outer → after.defined ≡ c.defined → Files c (shown w) → Behind after w v
    → Files after (shown v)
behind_files {c = c} after w v outer defined k b = record {
  knows = b.knows;
  outer = outer ∙ k.outer;
  funs = subst (λ ns. Funs v.defined_as ns (length v.functions) v.names) (sym defined)
      (subst (λ ds. Funs ds c.defined (length v.functions) v.names) (sym b.moves.defined_as)
      (subst (λ fs. Funs w.defined_as c.defined (length fs) v.names) (sym b.moves.functions)
      (subst (Funs w.defined_as c.defined (length w.functions)) (sym b.moves.names)
      (pushed_funs w.defined_as c.defined (length w.functions) b.names w.names k.funs))));
  flat = subst IsFlat (sym b.moves.names) (pushed_flat b.names w.names k.flat);
  long = ap length b.moves.defined_as ∙ k.long ∙ ap length (sym b.moves.functions);
  here = λ name h. ap (is_here name) b.moves.names ∙ pushed_here name b.names w.names (k.here name (ap (is_listed name) (sym defined) ∙ h));
  places = places_on (pushed_places b.names k.places) b.moves.names b.moves.functions;
}

-- functions

pub types_same : (ps : List Parameter) → types_of ps ≡ map formal_type (map formal_of ps)
types_same [] = refl
types_same (p ∷ ps) = ap (λ ts. p.ctype ∷ ts) (types_same ps)

abbrev made : TypeTree → List TypeTree → FunctionType
made t ts = record { gives = t; params = ts }

-- an item

abbrev pub ItemTold : Context → ItemTree → Walk → Done → Walk → Type 0
ItemTold c x w d v = ((after : Context) × (ItemGives c x after × Files after (shown v))) × Notes (item_events x) w v

-- what declares no function and calls none
no_calls : (es : List Event) (w v : Walk) → v.functions_at ≡ w.functions_at → v.functions ≡ w.functions → Notes es w v
no_calls es w v calls functions = record {
  calls = λ t i h. inl (ap (λ ns. note_at ns t) (sym calls) ∙ h);
  grows = λ i name h. ap (λ fs. slice_get (map called_name fs) i) functions ∙ h;
}

path_notes : (es : List Event) (w v : Walk) → Named (view w) → Path es (view w) (view v) → Notes es w v
path_notes es w v n p = record {
  calls = path_calls es (view w) (view v) n p;
  grows = λ i name h. (path_onward es (view w) (view v) p).functions i name h;
}

function_notes : (token : ℕ) (b : Base) (stars : ℕ) (name : List ℕ) (ps : Params) (body : Option EntryList) (w v : Walk) → Notes (body_events body) w v
    → Notes (item_events (i.Function token b stars name ps body)) w v
function_notes token b stars name ps None w v n = record { calls = λ t j h. ⊎_elim (λ e. inl e) (λ e. absurd e.1.0) (n.calls t j h); grows = n.grows }
function_notes token b stars name ps (Some body) w v n = record {
  calls = λ t j h. ⊎_elim (λ e. inl e)
      (λ e. inr (e.0, (in_function t e.0 name (params_events (listed_params ps)) (entries_events body) e.1.0, e.1.1))) (n.calls t j h);
  grows = n.grows;
}

pub item_tells : (x : ItemTree) (c : Context) (w : Walk) → Files c (shown w) → Tells (walk_item x w) (ItemTold c x w) (ItemBreaks c x)
item_tells (i.Struct token tag members) c w k = weaker (struct_tells token tag members c w k.knows) (λ j at h. h) (λ d v p.
    let s = struct_keeps tag members c p.0 p.1.0 in (
      (p.0, (p.1.0, structured_files p.0 w v s.0 s.1 k p.1.1)),
      no_calls (item_events (i.Struct token tag members)) w v p.1.1.calls p.1.1.functions,
    ))
item_tells (i.Function token b stars name ps body) c w k = and_then (base_tells (known_identifiers c) b w (agreed k.knows)) (λ j at h. inl h) (λ of v p.
    and_then (params_tell c (is_some body) (listed_params ps) [] v (agrees_on (agreed k.knows) (ap shown p.1))) (λ j at h. inr (of, (p.0, inl h)))
    (λ xs u q.
    let f : FunctionType = record { gives = with_stars stars of; params = types_of xs } in
    let is : PrototypeGives b stars (is_some body) (listed_params ps) c f (map formal_of xs) = (of, (p.0, q.0, ap (made (with_stars stars of)) (types_same xs))) in
    weaker (function_tells token name f c u (subst (λ z. Files c (shown z)) (sym (q.1 ∙ p.1)) k) xs body)
    (λ j at h. inr (
      of,
      (
        p.0,
        inr (
          map formal_of xs,
          (q.0, subst (λ ts. FunctionBreaks token name (made (with_stars stars of) ts) (map formal_of xs) body c j at) (types_same xs) h),
        ),
      ),
    ))
    (λ d z n. (
      (n.0.0, ((f, (map formal_of xs, (is, n.0.1.0))), n.0.1.1)),
      function_notes token b stars name ps body w z (subst (λ y. Notes (body_events body) y z) (q.1 ∙ p.1) n.1),
    ))))
item_tells (i.Declaration declaration) c w k =
    weaker (both_tell (λ (e : Done) v. (after : Context) × (DeclarationGives true c declaration after × Behind after w v))
    (λ (e : Done) v. Path (declaration_events declaration) (view w) (view v) × Unit {0}) (DeclarationBreaks true c declaration)
    (walk_declaration true declaration w) (declaration_tells true declaration c w k.knows) (declaration_goes true declaration w))
    (λ j at h. h) (λ d v r.
    let p = r.0 in
    let s = variables_keep true p.1.0.0 declaration.starts c p.0 p.1.0.1.1 in (
      (p.0, (p.1.0, behind_files p.0 w v s.0 s.1 k p.1.1)),
      path_notes (declaration_events declaration) w v (named_in w k) r.1.0,
    ))

notes_then : (xs ys : List Event) (w v u : Walk) → Notes xs w v → Notes ys v u → Notes (xs ++ ys) w u
notes_then xs ys w v u a b = record {
  calls = calls_then xs ys w.functions_at v.functions_at u.functions_at (map called_name v.functions) (map called_name u.functions) b.grows a.calls b.calls;
  grows = λ i name h. b.grows i name (a.grows i name h);
}

pub items_tell : (xs : List ItemTree) (c : Context) (w : Walk) → Files c (shown w)
    → Tells (walk_items xs w) (λ (d : Done) v. ((after : Context) × (ItemsGive c xs after × Files after (shown v))) × Notes (items_events xs) w v)
    (ItemsBreak c xs)
items_tell [] c w k = record { by = ((c, (refl, k)), no_calls [] w w refl refl) }
items_tell (x ∷ xs) c w k = and_then (item_tells x c w k) (λ j at h. inl h) (λ d v p.
    weaker (items_tell xs p.0.0 v p.0.1.1) (λ j at h. inr (p.0.0, (p.0.1.0, h)))
    (λ e u q. ((q.0.0, ((p.0.0, (p.0.1.0, q.0.1.0)), q.0.1.1)), notes_then (item_events x) (items_events xs) w v u p.1 q.1)))

-- the names of the functions that are defined are those of the items

names_keep : (name : List ℕ) (f : FunctionType) (c after : Context) → Names name f c after → after.defined ≡ c.defined
names_keep name f c after (inl h) = ap (λ (d : Context). d.defined) h.1
names_keep name f c after (inr h) = ap (λ (d : Context). d.defined) h.1

or_swapped : (a b c : Bool) → ((a || b) || c) ≡ (b || (a || c))
or_swapped true true c = refl
or_swapped true false c = refl
or_swapped false b c = refl

defined_so : (xs : List ItemTree) (c after : Context) → ItemsGive c xs after → (name : List ℕ)
    → is_listed name after.defined ≡ (is_listed name c.defined || is_listed name (defined_in xs))
defined_so [] c after h name = ap (λ (d : Context). is_listed name d.defined) h ∙ none (is_listed name c.defined)
  where
    none : (b : Bool) → b ≡ (b || false)
    none true = refl
    none false = refl
defined_so (i.Struct token tag members ∷ xs) c after (n, h) name =
    defined_so xs n after h.1 name ∙ ap (λ ds. is_listed name ds || is_listed name (defined_in xs)) (struct_keeps tag members c n h.0).1
defined_so (i.Declaration declaration ∷ xs) c after (n, h) name =
    defined_so xs n after h.1 name
    ∙ ap (λ ds. is_listed name ds || is_listed name (defined_in xs)) (variables_keep true h.0.0 declaration.starts c n h.0.1.1).1
defined_so (i.Function token b stars own ps None ∷ xs) c after (n, h) name =
    defined_so xs n after h.1 name ∙ ap (λ ds. is_listed name ds || is_listed name (defined_in xs)) (names_keep own h.0.0 c n h.0.1.1.1.1)
defined_so (i.Function token b stars own ps (Some body) ∷ xs) c after (n, h) name =
    defined_so xs n after h.1 name
    ∙ ap (λ (d : Context). is_listed name d.defined || is_listed name (defined_in xs)) h.0.1.1.1.2.1.2
    ∙ ap (λ ds. (bytes_eq own name || is_listed name ds) || is_listed name (defined_in xs)) (names_keep own h.0.0 c h.0.1.1.1.2.0 h.0.1.1.1.2.1.0)
    ∙ or_swapped (bytes_eq own name) (is_listed name c.defined) (is_listed name (defined_in xs))

pub defined_as_listed : (xs : List ItemTree) (after : Context) → ItemsGive empty_context xs after → (name : List ℕ)
    → is_listed name after.defined ≡ is_listed name (defined_in xs)
defined_as_listed xs after h name = defined_so xs empty_context after h name

-- The functions that the items so far declare: each name is one, and the definitions are those of these names.
use Rattle.std.proofs.Common.{◌⊎◌, inl, inr, ⊎_elim, ◌≡◌, ℕ, ◌+◌, Bool, true, false, ◌&&◌, ◌||◌, if◌then◌else◌, List, [], ◌∷◌, ◌++◌, length, map, Option, Some, None, unwrap_or, slice_get, refl, sym, ap, ◌∙◌, subst, append_assoc, arith}
use Rattle.std.specs.List.{AllByRecursion}
use Rattle.std.specs.Str.{bytes_eq}
use Rattle.std.proofs.lemmas.Bool.{false≢true}
use Rattle.std.proofs.lemmas.List.{append-nil, length-map}
use Rattle.std.proofs.lemmas.Slice.Eq.{bytes_eq-Decides}
use Rattle.std.proofs.lemmas.Option.{same_Some}
use Rattle.base_lists.proofs.Tests.{or_second_false}
use Rattle.base_lists.proofs.Lists.{get_either, get_last, Stays}
use Rattle.c_syntax.specs.ItemTree as i
use Rattle.c_syntax.specs.Words.{ItemTree, EachAt, ItemAt, ShapedItem, declaration_kinds, item_kinds}
use Rattle.c_types_rules.specs.declared.function.FunctionType.{FunctionType}
use Rattle.c_types_expressions.specs.declared.names.Meaning.{Meaning}
use Rattle.c_types_expressions.specs.declared.names.Meaning.TheVariants as meaning
use Rattle.c_types_expressions.specs.declared.names.ScopeEntry.{ScopeEntry}
use Rattle.c_types_expressions.specs.declared.names.ScopeEntry.TheVariants as entry
use Rattle.c_types_expressions.specs.declared.walk.Walk.{Walk}
use Rattle.c_types_expressions.specs.Names.{names_after_scope, declared_meaning, is_here, is_reserved}
use Rattle.c_types_walk.specs.ItemWalk.{is_clashing_name, has_type, known_as, listed_params, with_function}
use Rattle.c_types_laws.proofs.Declaring.{more_stays}
use Rattle.c_types_laws.proofs.Steps.{IsFlat}
use Rattle.defined_functions.specs.Functions.{defined_by, defined_in}
use Rattle.c_types_faults.specs.Events.{Event, Closes, Names, declaration_events, entries_events, params_events, scope_events}
use Rattle.c_types_faults.specs.Scopes.{Scope, declaration_scopes}
use Rattle.c_types_faults.proofs.Leaving.{AreVariables, Leaves, Left, closed_new}
use Rattle.c_types_faults.proofs.LeavingItems.{body_leaves}
use Rattle.c_types_faults.proofs.LeavingStatements.{declaration_leaves}
use Rattle.c_types_faults.proofs.Noting.{FoundAs, Listed, Named, found_is, path_onward, step_onward}
use Rattle.c_types_faults.proofs.PathItems.{ItemDoes, ItemsDo, known_of, naming_view}
use Rattle.c_types_faults.proofs.Paths.{Path, View, called_name, defining, naming, path_parts, view}

-- the definitions are those of these names
abbrev pub Defined : List (List ℕ) → List ℕ → List (List ℕ) → Type 0
Defined functions [] [] = Unit {0}
Defined functions (index ∷ indexes) (name ∷ names) = (slice_get functions index ≡ Some name) × Defined functions indexes names
Defined functions indexes names = ⊥

-- between two items
pub record Known (defs : List (List ℕ)) (a : View) : Type 0 where
  pub named : Named a
  pub flat : IsFlat a.names
  pub listed : (name : List ℕ) (index : ℕ) → slice_get a.functions index ≡ Some name → Listed name index a.names
  pub free : (name : List ℕ) (index : ℕ) → slice_get a.functions index ≡ Some name → is_reserved name ≡ false
  pub single : (name : List ℕ) (p q : ℕ) → slice_get a.functions p ≡ Some name → slice_get a.functions q ≡ Some name → p ≡ q
  pub defines : Defined a.functions a.definitions defs

defined_stays : (fs gs : List (List ℕ)) (indexes : List ℕ) (names : List (List ℕ)) → Stays fs gs → Defined fs indexes names → Defined gs indexes names
defined_stays fs gs [] [] s h = tt
defined_stays fs gs (index ∷ indexes) (name ∷ names) s h = (s index name h.0, defined_stays fs gs indexes names s h.1)
defined_stays fs gs [] (name ∷ names) s h = absurd h
defined_stays fs gs (index ∷ indexes) [] s h = absurd h

defined_more : (fs : List (List ℕ)) (indexes : List ℕ) (names : List (List ℕ)) (index : ℕ) (name : List ℕ) → Defined fs indexes names
    → slice_get fs index ≡ Some name → Defined fs (indexes ++ index ∷ []) (names ++ name ∷ [])
defined_more fs [] [] index name h k = (k, tt)
defined_more fs (x ∷ xs) (y ∷ ys) index name h k = (h.0, defined_more fs xs ys index name h.1 k)
defined_more fs [] (y ∷ ys) index name h k = absurd h
defined_more fs (x ∷ xs) [] index name h k = absurd h

listed_more : (name : List ℕ) (index : ℕ) (new names : List ScopeEntry) → Listed name index names → Listed name index (new ++ names)
listed_more name index [] names h = h
listed_more name index (entry.Opens ∷ rest) names h = listed_more name index rest names h
listed_more name index (entry.Declares other (meaning.Variable q) ∷ rest) names h = listed_more name index rest names h
listed_more name index (entry.Declares other (meaning.Function q) ∷ rest) names h = inr (listed_more name index rest names h)
listed_more name index (entry.Declares other (meaning.Library function) ∷ rest) names h = listed_more name index rest names h
listed_more name index (entry.Declares other (meaning.Struct q) ∷ rest) names h = listed_more name index rest names h

flat_more : (new names : List ScopeEntry) → AreVariables new → IsFlat names → IsFlat (new ++ names)
flat_more [] names h k = k
flat_more (entry.Declares other (meaning.Variable q) ∷ rest) names h k = flat_more rest names h k
flat_more (entry.Declares other (meaning.Function q) ∷ rest) names h k = absurd h
flat_more (entry.Declares other (meaning.Library function) ∷ rest) names h k = absurd h
flat_more (entry.Declares other (meaning.Struct q) ∷ rest) names h k = absurd h
flat_more (entry.Opens ∷ rest) names h k = absurd h

-- what declares variables alone
known_same : (defs : List (List ℕ)) (new : List ScopeEntry) (a b : View) → (Named a → Named b) → b.names ≡ new ++ a.names → AreVariables new
    → b.functions ≡ a.functions → b.definitions ≡ a.definitions → Known defs a → Known defs b
known_same defs new a b named names variables functions definitions k = record {
  named = named k.named;
  flat = subst IsFlat (sym names) (flat_more new a.names variables k.flat);
  listed = λ name index h. subst (Listed name index) (sym names)
      (listed_more name index new a.names (k.listed name index (subst (λ fs. slice_get fs index ≡ Some name) functions h)));
  free = λ name index h. k.free name index (subst (λ fs. slice_get fs index ≡ Some name) functions h);
  single = λ name p q h g. k.single name p q (subst (λ fs. slice_get fs p ≡ Some name) functions h) (subst (λ fs. slice_get fs q ≡ Some name) functions g);
  defines = subst (λ fs. Defined fs b.definitions defs) (sym functions) (subst (λ ds. Defined a.functions ds defs) (sym definitions) k.defines);
}

-- a new function

not_here : (name : List ℕ) (index : ℕ) (names : List ScopeEntry) → IsFlat names → is_here name names ≡ false → Listed name index names → ⊥
not_here name index [] flat h l = l
not_here name index (entry.Opens ∷ rest) flat h l = flat
not_here name index (entry.Declares other (meaning.Variable q) ∷ rest) flat h l = not_here name index rest flat (or_second_false (bytes_eq other name) _ h) l
not_here name index (entry.Declares other (meaning.Function q) ∷ rest) flat h l = by (bytes_eq other name) refl h (λ g m. not_here name index rest flat g m) l
  where
    by : (b : Bool) → bytes_eq other name ≡ b → (b || is_here name rest) ≡ false → (is_here name rest ≡ false → Listed name index rest → ⊥)
        → ((other ≡ name) × (q ≡ index)) ⊎ Listed name index rest → ⊥
    by true e g f m = absurd (cc)
    by false e g f (inl m) = absurd (false≢true (sym e ∙ (bytes_eq-Decides other name).1 m.0))
    by false e g f (inr m) = f g m
not_here name index (entry.Declares other (meaning.Library function) ∷ rest) flat h l = not_here name index rest flat (or_second_false (bytes_eq other name) _ h) l
not_here name index (entry.Declares other (meaning.Struct q) ∷ rest) flat h l = not_here name index rest flat (or_second_false (bytes_eq other name) _ h) l

module _ (defs : List (List ℕ)) (name : List ℕ) (a : View) (k : Known defs a) (new : is_here name a.names ≡ false) (own : is_reserved name ≡ false) where
  absent : (index : ℕ) → slice_get a.functions index ≡ Some name → ⊥
  absent index h = not_here name index a.names k.flat new (k.listed name index h)

  one_only : (other : List ℕ) (p q : ℕ) → (slice_get a.functions p ≡ Some other) ⊎ ((p ≡ length a.functions) × (name ≡ other))
      → (slice_get a.functions q ≡ Some other) ⊎ ((q ≡ length a.functions) × (name ≡ other)) → p ≡ q
  one_only other p q (inl h) (inl g) = k.single other p q h g
  one_only other p q (inr h) (inr g) = h.0 ∙ sym g.0
  one_only other p q (inl h) (inr g) = absurd (absent p (h ∙ ap Some (sym g.1)))
  one_only other p q (inr h) (inl g) = absurd (absent q (g ∙ ap Some (sym h.1)))

  naming_known : Known defs (naming name a)
  naming_known = record {
    named = (step_onward (Names name) a (naming name a) (inr refl)).named k.named;
    flat = k.flat;
    listed = λ other index h. ⊎_elim (λ e. inr (k.listed other index e)) (λ e. inl (e.1, sym e.0)) (get_either a.functions name index other h);
    free = λ other index h. ⊎_elim (λ e. k.free other index e) (λ e. subst (λ n. is_reserved n ≡ false) e.1 own) (get_either a.functions name index other h);
    single = λ other p q h g. one_only other p q (get_either a.functions name p other h) (get_either a.functions name q other g);
    defines = defined_stays a.functions (a.functions ++ name ∷ []) a.definitions defs (more_stays a.functions name) k.defines;
  }

-- a function that is declared, and its place

known_found : (f : FunctionType) (m : Option Meaning) (w : Walk) (index : ℕ) → known_as f m w ≡ Some index → m ≡ Some (meaning.Function index)
known_found f None w index h = absurd (cc)
known_found f (Some (meaning.Variable q)) w index h = absurd (cc)
known_found f (Some (meaning.Library function)) w index h = absurd (cc)
known_found f (Some (meaning.Struct q)) w index h = absurd (cc)
known_found f (Some (meaning.Function q)) w index h = by (has_type f (slice_get w.functions q)) h
  where
    by : (b : Bool) → (if b then Some q else None) ≡ Some index → Some (meaning.Function q) ≡ Some (meaning.Function index)
    by true e = ap (λ n. Some (meaning.Function n)) (same_Some q index e)
    by false e = absurd (cc)

both_false : (a b : Bool) → (a || (b && true)) ≡ false → (a ≡ false) × (b ≡ false)
both_false true b h = absurd (cc)
both_false false true h = absurd (cc)
both_false false false h = (refl, refl)

-- before and behind the name of a function
abbrev Declared : List (List ℕ) → List ℕ → FunctionType → Walk → Option ℕ → Type 0
Declared defs name f w known = Known defs (view (with_function name f known w))
    × (slice_get (map called_name (with_function name f known w).functions) (unwrap_or known (length w.functions)) ≡ Some name)

declared_by : (defs : List (List ℕ)) (name : List ℕ) (f : FunctionType) (w : Walk) (known : Option ℕ) → known_of name f w ≡ known
    → is_clashing_name name known w ≡ false → Known defs (view w) → Declared defs name f w known
declared_by defs name f w (Some index) e c k = (
  k,
  k.named.by name index (subst (λ m. FoundAs name m w.names) (known_found f (declared_meaning name w.names) w index e) (found_is name w.names k.named.own)),
)
declared_by defs name f w None e c k =
    let g : (is_reserved name ≡ false) × (is_here name w.names ≡ false) = both_false (is_reserved name) (is_here name w.names) c in (
      subst (Known defs) (sym (naming_view name f w)) (naming_known defs name (view w) k g.1 g.0),
      subst (λ (a : View). slice_get a.functions (length w.functions) ≡ Some name) (sym (naming_view name f w))
          (subst (λ n. slice_get (map called_name w.functions ++ name ∷ []) n ≡ Some name) (length-map w.functions called_name)
          (get_last (map called_name w.functions) name)),
    )

function_known : (defs : List (List ℕ)) (name : List ℕ) (f : FunctionType) (w : Walk) → is_clashing_name name (known_of name f w) w ≡ false → Known defs (view w)
    → Declared defs name f w (known_of name f w)
function_known defs name f w c k = declared_by defs name f w (known_of name f w) refl c k

-- behind a body the names are those before it
scope_kept : {lo hi last : ℕ} {es : List Event} {scopes : List Scope} (a b : View) → Leaves true lo hi last es scopes → Path (scope_events es) a b
    → (b.names ≡ a.names) × (b.functions ≡ a.functions) × (b.definitions ≡ a.definitions)
scope_kept {lo = lo} {hi = hi} {last = last} {es = es} {scopes = scopes} a b l p =
    let q : (c : View) × (Path es p.0 c × Path (Closes ∷ []) c b) = path_parts es (Closes ∷ []) p.0 b p.1.1 in
    let k : Left true lo hi last es scopes _ q.0 = subst (λ v. Left true lo hi last es scopes v q.0) p.1.0 (l.by p.0 q.0 q.1.0) in
    subst (λ (v : View). (v.names ≡ a.names) × (v.functions ≡ a.functions) × (v.definitions ≡ a.definitions)) (sym (q.1.1.1.1 ∙ q.1.1.1.0))
    (ap names_after_scope k.names ∙ closed_new k.new a.names k.kept.0, k.kept.1, k.kept.2)

defining_known : (defs : List (List ℕ)) (name : List ℕ) (index : ℕ) (a : View) → slice_get a.functions index ≡ Some name → Known defs a
    → Known (defs ++ name ∷ []) (defining index a)
defining_known defs name index a h k = record {
  named = record { by = k.named.by; own = k.named.own };
  flat = k.flat;
  listed = k.listed;
  free = k.free;
  single = k.single;
  defines = defined_more a.functions a.definitions defs index name k.defines h;
}

item_known : (x : ItemTree) (at : ℕ) (defs : List (List ℕ)) (a c : View) → ShapedItem x → ItemAt at x → ItemDoes x a c → Known defs a
    → Known (defs ++ defined_by x) c
item_known (i.Struct token tag members) at defs a c s p h k =
    subst (λ ds. Known ds c) (sym (append-nil defs))
    (subst (Known defs) (sym (h.1.1 ∙ h.1.0.1)) (record {
      named = record { by = k.named.by; own = k.named.own };
      flat = k.flat;
      listed = k.listed;
      free = k.free;
      single = k.single;
      defines = k.defines;
    }))
item_known (i.Function token b stars name ps None) at defs a c s p h k =
    subst (λ ds. Known ds c) (sym (append-nil defs))
    (subst (Known defs) (sym h.to) (function_known defs name h.of h.here h.fits (subst (Known defs) (sym h.same) k)).0)
item_known (i.Function token b stars name ps (Some body)) at defs a c s p h k =
    let g : Declared defs name h.of h.here (known_of name h.of h.here) = function_known defs name h.of h.here h.fits (subst (Known defs) (sym h.same) k) in
    let kept : (h.inner.names ≡ (view (with_function name h.of (known_of name h.of h.here) h.here)).names)
    × (h.inner.functions ≡ (view (with_function name h.of (known_of name h.of h.here) h.here)).functions)
    × (h.inner.definitions ≡ (view (with_function name h.of (known_of name h.of h.here) h.here)).definitions) =
    scope_kept (view (with_function name h.of (known_of name h.of h.here) h.here)) h.inner (body_leaves token b stars name ps body at s p) h.path in
    subst (Known (defs ++ name ∷ [])) (sym h.to)
    (defining_known defs name (unwrap_or (known_of name h.of h.here) (length h.here.functions)) h.inner
    (subst (λ fs. slice_get fs (unwrap_or (known_of name h.of h.here) (length h.here.functions)) ≡ Some name) (sym kept.1) g.1)
    (known_same defs [] (view (with_function name h.of (known_of name h.of h.here) h.here)) h.inner (path_onward (scope_events (params_events (listed_params ps) ++ entries_events body)) _ h.inner h.path).named kept.0 tt kept.1 kept.2
    g.0))
item_known (i.Declaration d) at defs a c s p h k =
    let l : Left true at (at + length (declaration_kinds d)) 0 (declaration_events d) (declaration_scopes 0 d) a c =
    (declaration_leaves d at (at + length (declaration_kinds d)) 0 s p (omega arith)).by a c h in
    subst (λ ds. Known ds c) (sym (append-nil defs))
    (known_same defs l.new a c (path_onward (declaration_events d) a c h).named l.names l.kept.0 l.kept.1 l.kept.2 k)

pub items_known : (xs : List ItemTree) (at : ℕ) (defs : List (List ℕ)) (a c : View) → AllByRecursion ShapedItem xs → EachAt ItemAt item_kinds 0 at xs
    → ItemsDo xs a c → Known defs a → Known (defs ++ defined_in xs) c
items_known [] at defs a c s p h k = subst (λ ds. Known ds c) (sym (append-nil defs)) (subst (Known defs) (sym h) k)
items_known (x ∷ xs) at defs a c s p h k =
    subst (λ ds. Known ds c) (append_assoc defs (defined_by x) (defined_in xs))
    (items_known xs (at + length (item_kinds x) + 0) (defs ++ defined_by x) h.0 c s.1 p.1 h.1.1 (item_known x at defs a h.0 s.0 p.0 h.1.0 k))

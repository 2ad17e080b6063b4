-- A text at which the walk stops breaks a rule.
use Rattle.std.proofs.Common.{inl, inr, ⊎_elim, ◌≡◌, ℕ, suc, ◌+◌, ◌<◌, refl, ap, subst, sym, ◌∙◌, arith, List, [], ◌∷◌, Some, None, Bool, true, false, length}
use Rattle.c_types_rules.specs.Words.{fault_number, TypeTree, Int, same_type}
use Rattle.base_lists.proofs.Options.{none_is_some, none_some}
use Rattle.c_types_faults.proofs.Calling.{both_tell}
use Rattle.c_types_faults.proofs.Defining.{calls_defined, defined_before, listed_defined}
use Rattle.c_syntax.specs.Words.{IsShaped, SourceTree}
use Rattle.c_types_rules.proofs.Same.{equal}
use Rattle.c_types_rules.specs.declared.function.FunctionType.{FunctionType}
use Rattle.std.proofs.lemmas.Bool.{and_from, false≢true, and_parts, eqb-true}
use Rattle.std.specs.Prelude.{Option, slice_get, if◌then◌else◌, unwrap_or, codes, ◌==◌}
use Rattle.std.proofs.lemmas.Option.{same_Some}
use Rattle.c_types_rules.specs.declared.fault.FaultKind.{FaultKind}
use Rattle.c_types_rules.specs.declared.fault.FaultKind.TheVariants as fault
use Rattle.c_types.specs.Answers.{note_at}
use Rattle.c_types.specs.Fault.{begins_program, ends_with, first_undefined, has_main, is_main, lacks_definition, undefined_at, walk_tree, fault_in, fault_of}
use Rattle.c_types_expressions.specs.Words.{empty_walk, declared_meaning, Faulty, Done, Fine, Walked}
use Rattle.c_types_expressions.specs.declared.names.Meaning.{Meaning}
use Rattle.c_types_expressions.specs.declared.names.Meaning.TheVariants as meaning
use Rattle.c_types_expressions.specs.declared.names.ScopeEntry.{ScopeEntry}
use Rattle.c_types_expressions.specs.declared.names.ScopeEntry.TheVariants.{Opens, Declares}
use Rattle.c_types_expressions.specs.declared.walk.FunctionEntry.{FunctionEntry}
use Rattle.c_types_expressions.specs.declared.walk.Walk.{Walk}
use Rattle.c_types_walk.specs.ItemWalk.{is_defined, walk_items}
use Rattle.c_types_faults.specs.Events.{events_of}
use Rattle.c_types_faults.proofs.Noting.{Listed}
use Rattle.c_types_faults.proofs.PathItems.{ItemsDo, items_do}
use Rattle.c_types_faults.proofs.Paths.{view}
use Rattle.c_types_faults.proofs.NotedTexts.{before, none_noted}
use Rattle.c_types_faults.specs.Known.{Entity, Object, Function, Standard}
use Rattle.c_types_faults.specs.Agrees.{Denotes, IsType, Means}
use Rattle.c_types_faults.specs.Context.{Context, Declared, empty_context, declared_in}
use Rattle.c_types_faults.specs.Functions.{is_listed, IsKnownAs}
use Rattle.c_types_faults.specs.Items.{ItemsBreak, ItemsGive}
use Rattle.c_types_faults.specs.Texts.{CallsUndefined, HasFunction, DefinesMain, IsFunctionEntity, TextBreaks, main_type, TextKeepsRules}
use Rattle.c_types_faults.proofs.Files.{Files, listed_is, text_found}
use Rattle.c_types_faults.proofs.Functions.{Notes}
use Rattle.c_types_faults.proofs.Items.{items_tell, defined_as_listed}
use Rattle.c_types_faults.proofs.Knowing.{Matches}
use Rattle.c_types_faults.proofs.Telling.{Tells, and_then, shown, told_fault, told_fine}

pub begins : (n : ℕ) → Files empty_context (shown (empty_walk n))
begins n = record {
  knows = record { names = tt; tags = tt; structs = refl; count = refl; cells = refl };
  outer = refl;
  funs = tt;
  flat = tt;
  long = refl;
  here = λ name h. h;
  places = record { listed = λ i name h. absurd (none_some h); named = λ name i h. absurd h; own = tt };
}

-- no `main`

matches_flat : (c : Context) (w : Walk) → Files c (shown w)
    → Matches w.declared_types w.functions (length w.variables) (length w.functions) w.names c.scope []
matches_flat c w k = subst (λ outer. Matches w.declared_types w.functions (length w.variables) (length w.functions) w.names c.scope outer) k.outer k.knows.names

begins_by : (o : Option FunctionEntry) → IsType o (λ g. g.ctype ≡ main_type) → begins_program o ≡ true
begins_by None h = absurd h
begins_by (Some g) h = ap (λ t. begins_program (Some (record { name = g.name; ctype = t }))) h

module _ (c : Context) (w : Walk) (k : Files c (shown w)) where
  main_by : (m : Option Meaning) → declared_meaning (codes "main") w.names ≡ m → Denotes w.declared_types w.functions m (Some (Function main_type))
      → is_listed (codes "main") c.defined ≡ true → is_main m w ≡ true
  main_by (Some (meaning.Function i)) e h l = and_from (begins_program (slice_get w.functions i)) (is_defined i w.defined_as)
      (begins_by (slice_get w.functions i) h)
      (listed_is (codes "main") i w.defined_as c.defined (length w.functions) w.names k.flat e k.funs ∙ l)
  main_by m e h l = absurd h

  no_main : has_main w ≡ false → IsKnownAs (codes "main") main_type c × (is_listed (codes "main") c.defined ≡ true) → ⊥
  no_main h m = false≢true (sym h ∙ main_by (declared_meaning (codes "main") w.names) refl
      (subst (Denotes w.declared_types w.functions (declared_meaning (codes "main") w.names)) m.0
      (text_found w.declared_types w.functions (length w.variables) (length w.functions) w.names c.scope (matches_flat c w k) (codes "main"))) m.1)

  program_by : (o : Option FunctionEntry) (f : FunctionType) → IsType o (λ g. g.ctype ≡ f) → begins_program o ≡ true → f ≡ main_type
  program_by None f h e = absurd h
  program_by (Some g) f h e =
      let p = and_parts (same_type g.ctype.gives Int) (length g.ctype.params == 0) e in
      sym h ∙ ap (λ t. made t g.ctype.params) (equal g.ctype.gives Int p.0) ∙ ap (made Int) (no_params g.ctype.params (eqb-true (length g.ctype.params) 0 p.1))
    where
      no_params : (ts : List TypeTree) → length ts ≡ 0 → ts ≡ []
      no_params [] h = refl
      no_params (t ∷ ts) h = absurd (omega (arith, h))

      made : TypeTree → List TypeTree → FunctionType
      made t ts = record { gives = t; params = ts }

  main_found : (m : Option Meaning) (x : Option Entity) → declared_meaning (codes "main") w.names ≡ m → declared_in (codes "main") c.scope ≡ x
      → Denotes w.declared_types w.functions m x → is_main m w ≡ true
      → IsKnownAs (codes "main") main_type c × (is_listed (codes "main") c.defined ≡ true)
  main_found (Some (meaning.Function i)) None e g h l = absurd h
  main_found (Some (meaning.Function i)) (Some (Object of)) e g h l = absurd h
  main_found (Some (meaning.Function i)) (Some (Standard f)) e g h l = absurd h
  main_found (Some (meaning.Function i)) (Some (Function f)) e g h l =
      let p = and_parts (begins_program (slice_get w.functions i)) (is_defined i w.defined_as) l in (
        g ∙ ap (λ z. Some (Function z)) (program_by (slice_get w.functions i) f h p.0),
        sym (listed_is (codes "main") i w.defined_as c.defined (length w.functions) w.names k.flat e k.funs) ∙ p.1,
      )
  main_found m x e g h l = absurd (false≢true l)

  has_its_main : has_main w ≡ true → IsKnownAs (codes "main") main_type c × (is_listed (codes "main") c.defined ≡ true)
  has_its_main h = main_found (declared_meaning (codes "main") w.names) (declared_in (codes "main") c.scope) refl refl
      (text_found w.declared_types w.functions (length w.variables) (length w.functions) w.names c.scope (matches_flat c w k) (codes "main")) h

-- a call of a function without definition

abbrev Undefined : ℕ → List (Option ℕ) → List (Option ℕ) → ℕ → Type 0
Undefined n calls defs token = (i : ℕ) × ((index : ℕ) × ((token ≡ n + i) × (slice_get calls i ≡ Some (Some index)) × (is_defined index defs ≡ false)))

lacks_by : (o : Option ℕ) (defs : List (Option ℕ)) → lacks_definition o defs ≡ true → (index : ℕ) × ((o ≡ Some index) × (is_defined index defs ≡ false))
lacks_by None defs h = absurd (false≢true h)
lacks_by (Some index) defs h = (index, (refl, by (is_defined index defs) h))
  where
    by : (b : Bool) → (if b then false else true) ≡ true → b ≡ false
    by true h = absurd (false≢true h)
    by false h = refl

undefined_by : (n : ℕ) (calls defs : List (Option ℕ)) (token : ℕ) → first_undefined n calls defs ≡ Some token → Undefined n calls defs token
undefined_by n [] defs token h = absurd (cc)
undefined_by n (call ∷ calls) defs token h = by (lacks_definition call defs) refl h (undefined_by (n + 1) calls defs token)
  where
    by : (b : Bool) → lacks_definition call defs ≡ b → (if b then Some n else first_undefined (n + 1) calls defs) ≡ Some token
        → (first_undefined (n + 1) calls defs ≡ Some token → Undefined (n + 1) calls defs token) → Undefined n (call ∷ calls) defs token
    by true e h f = let l = lacks_by call defs e in (0, (l.0, (omega (arith, same_Some n token h), ap Some l.1.0, l.1.1)))
    by false e h f = let u = f h in (suc u.0, (u.1.0, (omega (arith, u.1.1.0), u.1.1.1, u.1.1.2)))

function_entity : (types : List TypeTree) (fs : List FunctionEntry) (i : ℕ) (x : Entity) → Means types fs (meaning.Function i) x → IsFunctionEntity x
function_entity types fs i (Function f) h = tt
function_entity types fs i (Object of) h = absurd h
function_entity types fs i (Standard f) h = absurd h

module _ (name : List ℕ) (index : ℕ) where
  declared_function : (types : List TypeTree) (fs : List FunctionEntry) (vb fb : ℕ) (names : List ScopeEntry) (scope : List Declared)
      → Matches types fs vb fb names scope [] → Listed name index names → HasFunction name scope
  declared_function types fs vb fb [] scope h l = absurd l
  declared_function types fs vb fb (Opens ∷ rest) [] h l = absurd h
  declared_function types fs vb fb (Opens ∷ rest) (d ∷ ds) h l = absurd h
  declared_function types fs vb fb (Declares n m ∷ rest) [] h l = absurd h
  declared_function types fs vb fb (Declares n (meaning.Variable i) ∷ rest) (d ∷ ds) h l = inr (declared_function types fs i fb rest ds h.3 l)
  declared_function types fs vb fb (Declares n (meaning.Function i) ∷ rest) (d ∷ ds) h (inl l) =
      inl (sym h.0 ∙ l.0, function_entity types fs i d.entity h.2)
  declared_function types fs vb fb (Declares n (meaning.Function i) ∷ rest) (d ∷ ds) h (inr l) = inr (declared_function types fs vb i rest ds h.3 l)
  declared_function types fs vb fb (Declares n (meaning.Library f) ∷ rest) (d ∷ ds) h l = absurd h
  declared_function types fs vb fb (Declares n (meaning.Struct i) ∷ rest) (d ∷ ds) h l = absurd h

main_of : (t : SourceTree) (c : Context) → ItemsGive empty_context t.items c
    → IsKnownAs (codes "main") main_type c × (is_listed (codes "main") c.defined ≡ true) → DefinesMain t c
main_of t c g m = (m.0, sym (defined_as_listed t.items c g (codes "main")) ∙ m.1)

-- what is known behind a text without a fault
pub record Ends (t : SourceTree) (w : Walk) : Type 0 where
  pub after : Context
  pub gives : ItemsGive empty_context t.items after
  pub has : DefinesMain t after
  pub files : Files after (shown w)
  pub defined : first_undefined 0 w.functions_at w.defined_as ≡ None
  pub main : has_main w ≡ true
  pub does : ItemsDo t.items (before t) (view w)

module _ (t : SourceTree) (c : Context) (w : Walk) (k : Files c (shown w)) (n : Notes (events_of t) (empty_walk (length t.lines)) w)
    (does : ItemsDo t.items (before t) (view w)) where
  call_at : (token index : ℕ) → ItemsGive empty_context t.items c → note_at w.functions_at token ≡ Some index → is_defined index w.defined_as ≡ false
      → CallsUndefined t c token
  call_at token index g h d = ⊎_elim
      (λ e. none_is_some (note_at (empty_walk (length t.lines)).functions_at token) index (none_noted (length t.lines) token) e)
      (λ e.
      let l : Listed e.0 index w.names = k.places.listed index e.0 e.1.1 in (
        e.0,
        (
          e.1.0,
          declared_function e.0 index w.declared_types w.functions (length w.variables) (length w.functions) w.names c.scope (matches_flat c w k) l,
          sym (defined_as_listed t.items c g e.0) ∙ sym (listed_defined e.0 index w.defined_as c.defined (length w.functions) w.names k.funs l) ∙ d,
        ),
      )) (n.calls token index h)

  calls_undefined : (token : ℕ) → ItemsGive empty_context t.items c → first_undefined 0 w.functions_at w.defined_as ≡ Some token → CallsUndefined t c token
  calls_undefined token g h =
      let u : Undefined 0 w.functions_at w.defined_as token = undefined_by 0 w.functions_at w.defined_as token h in
      call_at token u.1.0 g (ap (note_at w.functions_at) (the_same token u.0 u.1.1.0) ∙ ap (λ o. unwrap_or o None) u.1.1.1) u.1.1.2
    where
      the_same : (i j : ℕ) → i ≡ 0 + j → i ≡ j
      the_same i j h = omega (arith, h)

  -- no call before it is one
  none_before : (token : ℕ) → ItemsGive empty_context t.items c → first_undefined 0 w.functions_at w.defined_as ≡ Some token → IsShaped t → (earlier : ℕ)
      → earlier < token → CallsUndefined t c earlier → ⊥
  none_before token g e s earlier less u = false≢true (sym u.1.2 ∙ sym (defined_as_listed t.items c g u.0)
      ∙ defined_before t w s does c k token e earlier u.0 less u.1.0 u.1.1)

  undefined_tells : (o : Option ℕ) → first_undefined 0 w.functions_at w.defined_as ≡ o → has_main w ≡ true → ItemsGive empty_context t.items c
      → DefinesMain t c → Tells (ends_with (undefined_at o) w) (λ (d : Done) v. Ends t v) (TextBreaks t)
  undefined_tells None e h g m = record { by = record { after = c; gives = g; has = m; files = k; defined = e; main = h; does = does } }
  undefined_tells (Some token) e h g m = record { by = inr (c, (g, inr (m, (refl, (calls_undefined token g e, none_before token g e))))) }

  main_tells : (b : Bool) → has_main w ≡ b → ItemsGive empty_context t.items c
      → Tells (ends_with (if b then undefined_at (first_undefined 0 w.functions_at w.defined_as) else Some (fault.NoMain, length t.lines)) w)
      (λ (d : Done) v. Ends t v) (TextBreaks t)
  main_tells true e g = undefined_tells (first_undefined 0 w.functions_at w.defined_as) refl e g (main_of t c g (has_its_main c w k e))
  main_tells false e g = record { by = inr (c, (g, inl (refl, refl, λ m. no_main c w k e (m.0, defined_as_listed t.items c g (codes "main") ∙ m.1)))) }

text_tells : (t : SourceTree) → Tells (walk_tree t) (λ (d : Done) v. Ends t v) (TextBreaks t)
text_tells t = and_then (both_tell
    (λ (d : Done) v. ((after : Context) × (ItemsGive empty_context t.items after × Files after (shown v))) × Notes (events_of t) (empty_walk (length t.lines)) v)
    (λ (d : Done) v. ItemsDo t.items (before t) (view v)) (ItemsBreak empty_context t.items) (walk_items t.items (empty_walk (length t.lines)))
    (items_tell t.items empty_context (empty_walk (length t.lines)) (begins (length t.lines))) (items_do t.items (empty_walk (length t.lines))))
    (λ j at h. inl h) (λ d w p. main_tells t p.0.0.0 w p.0.0.1.1 p.0.1 p.1 (has_main w) refl p.0.0.1.0)

pub refused_text : (t : SourceTree) (kind : FaultKind) (token : ℕ) → walk_tree t ≡ Faulty kind token → TextBreaks t kind token
refused_text t kind token h = told_fault (text_tells t) h

fault_by : (m : Walked Done) (number token : ℕ) → fault_in m ≡ Some (number, token)
    → (kind : FaultKind) × ((fault_number kind ≡ number) × (m ≡ Faulty kind token))
fault_by (Fine value known) number token h = absurd (cc)
fault_by (Faulty kind index) number token h =
    let e : (fault_number kind, index) ≡ (number, token) = same_Some (fault_number kind, index) (number, token) h in
    (kind, (ap (λ (p : ℕ × ℕ). p.0) e, ap (λ (p : ℕ × ℕ). Faulty kind p.1) e))

pub told_text : (t : SourceTree) (number token : ℕ) → fault_of t ≡ Some (number, token)
    → (kind : FaultKind) × ((fault_number kind ≡ number) × TextBreaks t kind token)
told_text t number token h =
    let f = fault_by (walk_tree t) number token h in (f.0, (f.1.0, refused_text t f.0 token f.1.1))

pub accepted_text : (t : SourceTree) (known : Walk) → IsShaped t → walk_tree t ≡ Fine tt known → TextKeepsRules t
accepted_text t known s h =
    let r : Ends t known = told_fine (text_tells t) h in (
      r.after,
      (
        r.gives,
        r.has,
        λ token name q f. sym (defined_as_listed t.items r.after r.gives name) ∙ calls_defined t known s r.does r.after r.files r.defined token name q f,
      ),
    )

pub accepted_main : (t : SourceTree) (known : Walk) → walk_tree t ≡ Fine tt known → has_main known ≡ true
accepted_main t known h = let r : Ends t known = told_fine (text_tells t) h in r.main

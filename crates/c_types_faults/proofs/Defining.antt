-- In a text without a fault each function of the text that is called is defined.
use Rattle.std.proofs.Common.{◌⊎◌, inl, inr, ⊎_elim, ◌≡◌, ℕ, zero, suc, ◌+◌, ◌<◌, ◌==◌, refl, ap, subst, sym, ◌∙◌, arith, List, [], ◌∷◌, map, Some, None}
use Rattle.c_types_faults.proofs.Calling.{function_by}
use Rattle.std.proofs.Common.{Bool, true, false, length, ◌-◌}
use Rattle.std.proofs.lemmas.Bool.{eq-eqb, false≢true, eqb-true}
use Rattle.std.proofs.lemmas.List.{length-replicate}
use Rattle.std.specs.Prelude.{Option, slice_get, if◌then◌else◌, unwrap_or}
use Rattle.std.proofs.lemmas.Option.{same_Some}
use Rattle.c_types.proofs.Replaced.{noted_same}
use Rattle.c_types_faults.proofs.Calls.{library_by}
use Rattle.c_syntax.specs.Words.{SourceTree, IsShaped}
use Rattle.c_types_rules.specs.declared.library.Library.{Library}
use Rattle.c_types_rules.specs.Words.{library_named, TypeTree}
use Rattle.c_types.specs.Answers.{note_at}
use Rattle.c_types.specs.Fault.{first_undefined, lacks_definition}
use Rattle.c_types_expressions.specs.declared.names.Meaning.{Meaning}
use Rattle.c_types_expressions.specs.declared.names.Meaning.TheVariants as meaning
use Rattle.c_types_expressions.specs.declared.names.ScopeEntry.{ScopeEntry}
use Rattle.c_types_expressions.specs.declared.names.ScopeEntry.TheVariants as entry
use Rattle.c_types_expressions.specs.declared.walk.FunctionEntry.{FunctionEntry}
use Rattle.c_types_expressions.specs.declared.walk.Walk.{Walk}
use Rattle.c_types_expressions.specs.Names.{declared_meaning, meaning_of}
use Rattle.c_types_walk.specs.ItemWalk.{is_defined}
use Rattle.defined_functions.specs.Functions.{functions_of}
use Rattle.c_types_faults.specs.Events.{Construct, Calls, Selects, Other, Event, Value, Initialises, Variable, Opens, Closes, Struct, Names, Defines}
use Rattle.c_types_faults.specs.Events.{construct_at, events_of}
use Rattle.c_types_faults.specs.Scopes.{scopes_of}
use Rattle.c_types_faults.proofs.NotedFunctions.{Known, items_known}
use Rattle.c_types_faults.proofs.Leaving.{Left}
use Rattle.c_types_faults.proofs.LeavingItems.{items_leave}
use Rattle.c_types_faults.proofs.Noting.{Found, FoundAs, Listed, Named, alone_after, finds, found_is, path_onward, stays}
use Rattle.c_types_faults.proofs.PathItems.{ItemsDo, items_path}
use Rattle.c_types_faults.proofs.Paths.{CalledAs, Path, View, called_name, view}
use Rattle.c_types_faults.proofs.Points.{Among, Once}
use Rattle.c_types_faults.proofs.NotedTexts.{before, nothing_known}
use Rattle.c_types_faults.specs.Known.{Entity, Object, Function, Standard}
use Rattle.c_types_faults.specs.Agrees.{Means}
use Rattle.c_types_faults.specs.Context.{Context, Declared}
use Rattle.c_types_faults.specs.Functions.{is_listed}
use Rattle.c_types_faults.specs.Texts.{HasCall, HasFunction, IsFunctionEntity}
use Rattle.c_types_faults.proofs.Files.{Files, Funs}
use Rattle.c_types_faults.proofs.Knowing.{Matches}
use Rattle.c_types_faults.proofs.Telling.{shown}

-- the call at its token

has_among : (token : ℕ) (name : List ℕ) (es : List Event) → HasCall token name es → Among token es
has_among token name [] h = h
has_among token name (Value own (Calls other) ∷ rest) (inl h) = inl (sym h.0)
has_among token name (Value own (Calls other) ∷ rest) (inr h) = inr (has_among token name rest h)
has_among token name (Value own (Selects operand behind of) ∷ rest) h = inr (has_among token name rest h)
has_among token name (Value own Other ∷ rest) h = inr (has_among token name rest h)
has_among token name (Initialises own ∷ rest) h = inr (has_among token name rest h)
has_among token name (Variable own ∷ rest) h = inr (has_among token name rest h)
has_among token name (Opens ∷ rest) h = inr (has_among token name rest h)
has_among token name (Closes ∷ rest) h = inr (has_among token name rest h)
has_among token name (Struct ∷ rest) h = inr (has_among token name rest h)
has_among token name (Names other ∷ rest) h = inr (has_among token name rest h)
has_among token name (Defines ∷ rest) h = inr (has_among token name rest h)

value_else : (own token : ℕ) (name : List ℕ) (c : Construct) (rest : List Event) → ((k : ℕ) → k ≡ own → Among k rest → ⊥) → HasCall token name rest
    → construct_at token rest ≡ Some (Calls name) → construct_at token (Value own c ∷ rest) ≡ Some (Calls name)
value_else own token name c rest f h e = by (own == token) refl
  where
    by : (b : Bool) → (own == token) ≡ b → (if b then Some c else construct_at token rest) ≡ Some (Calls name)
    by true q = absurd (f token (sym (eqb-true own token q)) (has_among token name rest h))
    by false q = e

has_construct : (token : ℕ) (name : List ℕ) (es : List Event) → Once es → HasCall token name es → construct_at token es ≡ Some (Calls name)
has_construct token name [] o h = absurd h
has_construct token name (Value own (Calls other) ∷ rest) o (inl h) =
    ap (λ b. if b then Some (Calls other) else construct_at token rest) (eq-eqb own token h.0) ∙ ap (λ n. Some (Calls n)) h.1
has_construct token name (Value own (Calls other) ∷ rest) o (inr h) =
    value_else own token name (Calls other) rest o.0 h (has_construct token name rest o.1 h)
has_construct token name (Value own (Selects operand behind of) ∷ rest) o h =
    value_else own token name (Selects operand behind of) rest o.0 h (has_construct token name rest o.1 h)
has_construct token name (Value own Other ∷ rest) o h = value_else own token name Other rest o.0 h (has_construct token name rest o.1 h)
has_construct token name (Initialises own ∷ rest) o h = has_construct token name rest o.1 h
has_construct token name (Variable own ∷ rest) o h = has_construct token name rest o.1 h
has_construct token name (Opens ∷ rest) o h = has_construct token name rest o.1 h
has_construct token name (Closes ∷ rest) o h = has_construct token name rest o.1 h
has_construct token name (Struct ∷ rest) o h = has_construct token name rest o.1 h
has_construct token name (Names other ∷ rest) o h = has_construct token name rest o.1 h
has_construct token name (Defines ∷ rest) o h = has_construct token name rest o.1 h

-- where no called function lacks its definition

defined_by : (b : Bool) (index : ℕ) (defs : List (Option ℕ)) → is_defined index defs ≡ b → (if b then false else true) ≡ false → is_defined index defs ≡ true
defined_by true index defs e h = e
defined_by false index defs e h = absurd (false≢true (sym h))

all_defined : (n : ℕ) (calls defs : List (Option ℕ)) → first_undefined n calls defs ≡ None → (i index : ℕ) → slice_get calls i ≡ Some (Some index)
    → is_defined index defs ≡ true
all_defined n [] defs h i index e = absurd (cc)
all_defined n (call ∷ calls) defs h i index e = by (lacks_definition call defs) refl h i e (all_defined (n + 1) calls defs)
  where
    by : (b : Bool) → lacks_definition call defs ≡ b → (if b then Some n else first_undefined (n + 1) calls defs) ≡ None → (i : ℕ)
        → slice_get (call ∷ calls) i ≡ Some (Some index)
        → (first_undefined (n + 1) calls defs ≡ None → (i index : ℕ) → slice_get calls i ≡ Some (Some index) → is_defined index defs ≡ true)
        → is_defined index defs ≡ true
    by true l h i e f = absurd (cc)
    by false l h zero e f = defined_by (is_defined index defs) index defs refl (ap (λ o. lacks_definition o defs) (sym (same_Some call (Some index) e)) ∙ l)
    by false l h (suc i) e f = f h i index e

-- and before the first that does
before_defined : (n : ℕ) (calls defs : List (Option ℕ)) (at : ℕ) → first_undefined n calls defs ≡ Some at → (i index : ℕ) → n + i < at
    → slice_get calls i ≡ Some (Some index) → is_defined index defs ≡ true
before_defined n [] defs at h i index l e = absurd (cc)
before_defined n (call ∷ calls) defs at h i index l e = by (lacks_definition call defs) refl h i l e (before_defined (n + 1) calls defs at)
  where
    by : (b : Bool) → lacks_definition call defs ≡ b → (if b then Some n else first_undefined (n + 1) calls defs) ≡ Some at → (i : ℕ) → n + i < at
        → slice_get (call ∷ calls) i ≡ Some (Some index)
        → (first_undefined (n + 1) calls defs ≡ Some at → (i index : ℕ) → n + 1 + i < at → slice_get calls i ≡ Some (Some index)
        → is_defined index defs ≡ true)
        → is_defined index defs ≡ true
    by true q h i l e f = absurd (omega (arith, l, same_Some n at h))
    by false q h zero l e f = defined_by (is_defined index defs) index defs refl (ap (λ o. lacks_definition o defs) (sym (same_Some call (Some index) e)) ∙ q)
    by false q h (suc i) l e f = f h i index (omega (arith, l)) e

noted_is : (o : Option (Option ℕ)) (index : ℕ) → unwrap_or o None ≡ Some index → o ≡ Some (Some index)
noted_is None index h = absurd (cc)
noted_is (Some o) index h = ap Some h

-- the place of a function among the names

function_place : (types : List TypeTree) (fs : List FunctionEntry) (name : List ℕ) (vb fb : ℕ) (names : List ScopeEntry) (scope : List Declared)
    → Matches types fs vb fb names scope [] → HasFunction name scope → (index : ℕ) × Listed name index names
function_place types fs name vb fb [] [] h q = absurd q
function_place types fs name vb fb [] (d ∷ ds) h q = absurd h
function_place types fs name vb fb (entry.Opens ∷ rest) [] h q = absurd h
function_place types fs name vb fb (entry.Opens ∷ rest) (d ∷ ds) h q = absurd h
function_place types fs name vb fb (entry.Declares n m ∷ rest) [] h q = absurd h
function_place types fs name vb fb (entry.Declares n (meaning.Variable i) ∷ rest) (d ∷ ds) h (inl q) = absurd (no_object d.entity h.2 q.1)
  where
    no_object : (x : Entity) → Means types fs (meaning.Variable i) x → IsFunctionEntity x → ⊥
    no_object (Object of) m f = f
    no_object (Function g) m f = m
    no_object (Standard g) m f = m
function_place types fs name vb fb (entry.Declares n (meaning.Variable i) ∷ rest) (d ∷ ds) h (inr q) = function_place types fs name i fb rest ds h.3 q
function_place types fs name vb fb (entry.Declares n (meaning.Function i) ∷ rest) (d ∷ ds) h (inl q) = (i, inl (h.0 ∙ q.0, refl))
function_place types fs name vb fb (entry.Declares n (meaning.Function i) ∷ rest) (d ∷ ds) h (inr q) =
    let r = function_place types fs name vb i rest ds h.3 q in (r.0, inr r.1)
function_place types fs name vb fb (entry.Declares n (meaning.Library f) ∷ rest) (d ∷ ds) h q = absurd h
function_place types fs name vb fb (entry.Declares n (meaning.Struct i) ∷ rest) (d ∷ ds) h q = absurd h

pub listed_defined : (name : List ℕ) (index : ℕ) (ds : List (Option ℕ)) (ns : List (List ℕ)) (bound : ℕ) (names : List ScopeEntry)
    → Funs ds ns bound names → Listed name index names → is_defined index ds ≡ is_listed name ns
listed_defined name index ds ns bound [] h l = absurd l
listed_defined name index ds ns bound (entry.Opens ∷ rest) h l = listed_defined name index ds ns bound rest h l
listed_defined name index ds ns bound (entry.Declares n (meaning.Variable i) ∷ rest) h l = listed_defined name index ds ns bound rest h l
listed_defined name index ds ns bound (entry.Declares n (meaning.Function i) ∷ rest) h (inl l) =
    ap (λ j. is_defined j ds) (sym l.1) ∙ h.1 ∙ ap (λ m. is_listed m ns) l.0
listed_defined name index ds ns bound (entry.Declares n (meaning.Function i) ∷ rest) h (inr l) = listed_defined name index ds ns i rest h.3 l
listed_defined name index ds ns bound (entry.Declares n (meaning.Library f) ∷ rest) h l = listed_defined name index ds ns bound rest h l
listed_defined name index ds ns bound (entry.Declares n (meaning.Struct i) ∷ rest) h l = listed_defined name index ds ns bound rest h l

module _ (t : SourceTree) (z : Walk) (shaped : IsShaped t) (does : ItemsDo t.items (before t) (view z)) (c : Context) (k : Files c (shown z)) where
  abbrev count : ℕ
  count = length t.lines

  path : Path (events_of t) (before t) (view z)
  path = items_path t.items (before t) (view z) does

  left : Left false 0 count (count - 1) (events_of t) (scopes_of t) (before t) (view z)
  left = (items_leave t.items 0 count (count - 1) shaped.items shaped.placed (omega (arith, shaped.lines))).by (before t) (view z) path

  known : Known (functions_of t) (view z)
  known = items_known t.items 0 [] (before t) (view z) shaped.items shaped.placed does (nothing_known count)

  -- the call of the name is noted at its token
  abbrev IsNotedAt : ℕ → List ℕ → Type 0
  IsNotedAt token name = (index : ℕ) × ((note_at z.functions_at token ≡ Some index) × (is_defined index z.defined_as ≡ is_listed name c.defined))

  named_from : (token : ℕ) (name : List ℕ) (f : Found token (Calls name) (events_of t) (before t) (view z)) → Named f.from
  named_from token name f = (path_onward f.before (before t) f.from f.path).named (record { by = λ name index h. absurd h; own = tt })

  called_at : (token : ℕ) (name : List ℕ) (f : Found token (Calls name) (events_of t) (before t) (view z)) → Among token (events_of t)
      → HasFunction name c.scope → (m : Option Meaning) → meaning_of name f.from.names ≡ m → CalledAs token m f.from f.to
      → IsNotedAt token name
  called_at token name f among h (Some (meaning.Library function)) e q =
      let p : (index : ℕ) × Listed name index z.names = function_place z.declared_types z.functions name (length z.variables)
      (length z.functions) z.names c.scope
      (subst (λ outer. Matches z.declared_types z.functions (length z.variables) (length z.functions) z.names c.scope outer) k.outer k.knows.names) h in
      absurd (false≢true (sym (known.free name p.0 (k.places.named name p.0 p.1)) ∙ ⊎_elim
      (λ r. absurd (subst (λ m. FoundAs name m f.from.names) r (found_is name f.from.names (named_from token name f).own))) (λ r. r)
      (library_by (declared_meaning name f.from.names) (library_named name) function e)))
  called_at token name f among h (Some (meaning.Function index)) e q =
      let stay : note_at z.functions_at token ≡ Some index =
      (stays token f.after f.to (view z) (alone_after f left.once) f.rest).calls ∙ ap (λ (v : View). note_at v.calls token) q.1
      ∙ noted_same f.from.calls token index
      (omega (arith, (left.within token among).1, (path_onward f.before (before t) f.from f.path).calls, length-replicate {A = Option ℕ} count None)) in
      let is : slice_get (map called_name z.functions) index ≡ Some name =
      (path_onward (Value token (Calls name) ∷ f.after) f.from (view z) (f.to, (f.notes, f.rest))).functions index name
      ((named_from token name f).by name index (subst (λ m. FoundAs name m f.from.names)
      (function_by (declared_meaning name f.from.names) (library_named name) index e) (found_is name f.from.names (named_from token name f).own))) in
      (index, (stay, listed_defined name index z.defined_as c.defined (length z.functions) z.names k.funs (k.places.listed index name is)))
  called_at token name f among h m e q = absurd q

  called_there : (token : ℕ) (name : List ℕ) → HasCall token name (events_of t) → HasFunction name c.scope → IsNotedAt token name
  called_there token name h g =
      let f : Found token (Calls name) (events_of t) (before t) (view z) =
      finds token (Calls name) (events_of t) (before t) (view z) (has_construct token name (events_of t) left.once h) path in
      called_at token name f (has_among token name (events_of t) h) g (meaning_of name f.from.names) refl f.notes

  pub calls_defined : first_undefined 0 z.functions_at z.defined_as ≡ None → (token : ℕ) (name : List ℕ) → HasCall token name (events_of t)
      → HasFunction name c.scope → is_listed name c.defined ≡ true
  calls_defined none token name h g =
      let n : IsNotedAt token name = called_there token name h g in
      sym n.1.1 ∙ all_defined 0 z.functions_at z.defined_as none token n.0 (noted_is (slice_get z.functions_at token) n.0 n.1.0)

  pub defined_before : (at : ℕ) → first_undefined 0 z.functions_at z.defined_as ≡ Some at → (token : ℕ) (name : List ℕ) → token < at
      → HasCall token name (events_of t) → HasFunction name c.scope → is_listed name c.defined ≡ true
  defined_before at first token name less h g =
      let n : IsNotedAt token name = called_there token name h g in
      sym n.1.1 ∙ before_defined 0 z.functions_at z.defined_as at first token n.0 (omega (arith, less))
      (noted_is (slice_get z.functions_at token) n.0 n.1.0)

-- What the walk knows at a point, and the declarations whose scopes hold there.
use Rattle.std.proofs.Common.{◌⊎◌, inl, inr, ◌≡◌, ℕ, ◌+◌, ◌≤◌, ◌<◌, refl, ap, subst, sym, ◌∙◌, arith, List, [], ◌∷◌, ◌++◌, Some, None, Bool, true}
use Rattle.std.proofs.Common.{false, length}
use Rattle.std.proofs.Common.{length-append}
use Rattle.std.specs.Prelude.{Option, option_map, slice_get, ◌||◌, if◌then◌else◌}
use Rattle.std.specs.Str.{bytes_eq}
use Rattle.std.proofs.lemmas.Bool.{false≢true, or_cases, or_left, or_right}
use Rattle.std.proofs.lemmas.Option.{slice_get_within}
use Rattle.std.proofs.lemmas.Slice.Eq.{bytes_eq-Decides}
use Rattle.c_types.proofs.Replaced.{replaced_other, replaced_same}
use Rattle.c_types.proofs.Noted.{length_replaced}
use Rattle.base_lists.proofs.Lists.{get_before, get_last}
use Rattle.c_types_rules.specs.declared.library.Library.{Library}
use Rattle.c_types_rules.specs.Words.{library_named, TypeTree}
use Rattle.c_types_expressions.specs.declared.names.Meaning.{Meaning}
use Rattle.c_types_expressions.specs.declared.names.Meaning.TheVariants as meaning
use Rattle.c_types_expressions.specs.declared.names.ScopeEntry.{ScopeEntry}
use Rattle.c_types_expressions.specs.declared.names.ScopeEntry.TheVariants.{Opens, Declares}
use Rattle.c_types_expressions.specs.declared.walk.FunctionEntry.{FunctionEntry}
use Rattle.c_types_expressions.specs.declared.walk.Variable.TheVariants as variable
use Rattle.c_types_expressions.specs.declared.walk.Walk.{Walk}
use Rattle.c_types_expressions.specs.Words.{names_after_scope, declared_meaning, is_here, meaning_of, or_before, item_replaced, with_variable}
use Rattle.c_types_faults.specs.Known.{Entity, Object, Function, Standard}
use Rattle.c_types_faults.specs.Agrees.{Denotes, IsTag, Means}
use Rattle.c_types_faults.specs.Context.{Context, Declared, HasName, Tagged, global_cells_added, name_declared, declared_in, denoted_entity, inner_context, known_identifiers, or_else, tag_in}
use Rattle.c_types_faults.proofs.Telling.{Agreed, Shown, shown}

-- names in scope: each denotes what the context says, and was declared after those before it
module _ (types : List TypeTree) (fs : List FunctionEntry) where
  abbrev pub Matches : ℕ → ℕ → List ScopeEntry → List Declared → List (List Declared) → Type 0
  Matches vb fb [] [] [] = Unit {0}
  Matches vb fb [] [] (s ∷ ss) = ⊥
  Matches vb fb [] (d ∷ ds) ss = ⊥
  Matches vb fb (Opens ∷ rest) [] [] = ⊥
  Matches vb fb (Opens ∷ rest) [] (s ∷ ss) = Matches vb fb rest s ss
  Matches vb fb (Opens ∷ rest) (d ∷ ds) ss = ⊥
  Matches vb fb (Declares n m ∷ rest) [] ss = ⊥
  Matches vb fb (Declares n (meaning.Variable i) ∷ rest) (d ∷ ds) ss = (n ≡ d.name) × (i < vb) × Means types fs (meaning.Variable i) d.entity
      × Matches i fb rest ds ss
  Matches vb fb (Declares n (meaning.Function i) ∷ rest) (d ∷ ds) ss = (n ≡ d.name) × (i < fb) × Means types fs (meaning.Function i) d.entity
      × Matches vb i rest ds ss
  Matches vb fb (Declares n (meaning.Library f) ∷ rest) (d ∷ ds) ss = ⊥
  Matches vb fb (Declares n (meaning.Struct i) ∷ rest) (d ∷ ds) ss = ⊥

abbrev pub TagsMatch : List ScopeEntry → List Tagged → Type 0
TagsMatch [] [] = Unit {0}
TagsMatch [] (d ∷ ds) = ⊥
TagsMatch (Opens ∷ rest) ds = ⊥
TagsMatch (Declares tag m ∷ rest) [] = ⊥
TagsMatch (Declares tag (meaning.Struct i) ∷ rest) (d ∷ ds) = (tag ≡ d.tag) × (i ≡ d.number) × TagsMatch rest ds
TagsMatch (Declares tag (meaning.Variable i) ∷ rest) (d ∷ ds) = ⊥
TagsMatch (Declares tag (meaning.Function i) ∷ rest) (d ∷ ds) = ⊥
TagsMatch (Declares tag (meaning.Library f) ∷ rest) (d ∷ ds) = ⊥

pub record Knows (c : Context) (s : Shown) : Type 0 where
  pub names : Matches s.types s.functions s.count (length s.functions) s.names c.scope c.outer
  pub tags : TagsMatch s.tags c.tags
  pub structs : c.structs ≡ s.structs
  pub count : length s.types ≡ s.count
  pub cells : c.cells ≡ s.global_cells

-- what is denoted

library_denotes : (types : List TypeTree) (fs : List FunctionEntry) (o : Option Library)
    → Denotes types fs (option_map meaning.Library o) (option_map Standard o)
library_denotes types fs None = tt
library_denotes types fs (Some f) = refl

module _ (types : List TypeTree) (fs : List FunctionEntry) where
  one_denotes : (b : Bool) (m : Meaning) (x : Entity) (found library : Option Meaning) (inside outside : Option Entity) → Means types fs m x
      → Denotes types fs (or_before found library) (or_else inside outside)
      → Denotes types fs (or_before (or_before (if b then Some m else None) found) library) (or_else (if b then Some x else inside) outside)
  one_denotes true m x found library inside outside h g = h
  one_denotes false m x found library inside outside h g = g

  entry_denotes : (n name : List ℕ) (d : Declared) (m : Meaning) (rest : List ScopeEntry) (ds : List Declared) (ss : List (List Declared)) → n ≡ d.name
      → Means types fs m d.entity → Denotes types fs (meaning_of name rest) (denoted_entity name (ds ∷ ss))
      → Denotes types fs (meaning_of name (Declares n m ∷ rest)) (denoted_entity name ((d ∷ ds) ∷ ss))
  entry_denotes n name d m rest ds ss e h g =
      subst (λ z. Denotes types fs (or_before (or_before (if bytes_eq z name then Some m else None) (declared_meaning name rest)) (option_map meaning.Library
      (library_named name)))
      (denoted_entity name ((d ∷ ds) ∷ ss))) (sym e)
      (one_denotes (bytes_eq d.name name) m d.entity (declared_meaning name rest) (option_map meaning.Library (library_named name)) (declared_in name ds)
      (denoted_entity name ss) h g)

  pub name_denotes : (vb fb : ℕ) (names : List ScopeEntry) (scope : List Declared) (outer : List (List Declared)) → Matches types fs vb fb names scope outer
      → (name : List ℕ) → Denotes types fs (meaning_of name names) (denoted_entity name (scope ∷ outer))
  name_denotes vb fb [] [] [] h name = library_denotes types fs (library_named name)
  name_denotes vb fb (Opens ∷ rest) [] (s ∷ ss) h name = name_denotes vb fb rest s ss h name
  name_denotes vb fb (Declares n (meaning.Variable i) ∷ rest) (d ∷ ds) ss h name =
      entry_denotes n name d (meaning.Variable i) rest ds ss h.0 h.2 (name_denotes i fb rest ds ss h.3 name)
  name_denotes vb fb (Declares n (meaning.Function i) ∷ rest) (d ∷ ds) ss h name =
      entry_denotes n name d (meaning.Function i) rest ds ss h.0 h.2 (name_denotes vb i rest ds ss h.3 name)
  name_denotes vb fb [] [] (s ∷ ss) h name = absurd h
  name_denotes vb fb [] (d ∷ ds) ss h name = absurd h
  name_denotes vb fb (Opens ∷ rest) [] [] h name = absurd h
  name_denotes vb fb (Opens ∷ rest) (d ∷ ds) ss h name = absurd h
  name_denotes vb fb (Declares n m ∷ rest) [] ss h name = absurd h
  name_denotes vb fb (Declares n (meaning.Library f) ∷ rest) (d ∷ ds) ss h name = absurd h
  name_denotes vb fb (Declares n (meaning.Struct i) ∷ rest) (d ∷ ds) ss h name = absurd h

  same_name : (n m name : List ℕ) → n ≡ m → bytes_eq n name ≡ true → m ≡ name
  same_name n m name e h = sym e ∙ (bytes_eq-Decides n name).0 h

  next_here : (n name : List ℕ) (d : Declared) (rest : List ScopeEntry) (ds : List Declared) → n ≡ d.name → (is_here name rest ≡ true → HasName name ds)
      → ((bytes_eq n name ≡ true) ⊎ (is_here name rest ≡ true)) → HasName name (d ∷ ds)
  next_here n name d rest ds e f (inl h) = inl (same_name n d.name name e h)
  next_here n name d rest ds e f (inr h) = inr (f h)

  -- a name that the latest scope has
  pub here_named : (vb fb : ℕ) (names : List ScopeEntry) (scope : List Declared) (outer : List (List Declared)) → Matches types fs vb fb names scope outer
      → (name : List ℕ) → is_here name names ≡ true → HasName name scope
  here_named vb fb [] scope outer h name q = absurd (false≢true q)
  here_named vb fb (Opens ∷ rest) scope outer h name q = absurd (false≢true q)
  here_named vb fb (Declares n (meaning.Variable i) ∷ rest) (d ∷ ds) ss h name q =
      next_here n name d rest ds h.0 (here_named i fb rest ds ss h.3 name) (or_cases (bytes_eq n name) (is_here name rest) q)
  here_named vb fb (Declares n (meaning.Function i) ∷ rest) (d ∷ ds) ss h name q =
      next_here n name d rest ds h.0 (here_named vb i rest ds ss h.3 name) (or_cases (bytes_eq n name) (is_here name rest) q)
  here_named vb fb (Declares n m ∷ rest) [] ss h name q = absurd h
  here_named vb fb (Declares n (meaning.Library f) ∷ rest) (d ∷ ds) ss h name q = absurd h
  here_named vb fb (Declares n (meaning.Struct i) ∷ rest) (d ∷ ds) ss h name q = absurd h

  here_behind : (n name : List ℕ) (d : Declared) (rest : List ScopeEntry) (ds : List Declared) → n ≡ d.name → (HasName name ds → is_here name rest ≡ true)
      → HasName name (d ∷ ds) → (bytes_eq n name || is_here name rest) ≡ true
  here_behind n name d rest ds e f (inl h) = or_left (bytes_eq n name) (is_here name rest) ((bytes_eq-Decides n name).1 (e ∙ h))
  here_behind n name d rest ds e f (inr h) = or_right (bytes_eq n name) (is_here name rest) (f h)

  pub named_here : (vb fb : ℕ) (names : List ScopeEntry) (scope : List Declared) (outer : List (List Declared)) → Matches types fs vb fb names scope outer
      → (name : List ℕ) → HasName name scope → is_here name names ≡ true
  named_here vb fb [] [] outer h name q = absurd q
  named_here vb fb [] (d ∷ ds) outer h name q = absurd h
  named_here vb fb (Opens ∷ rest) [] outer h name q = absurd q
  named_here vb fb (Opens ∷ rest) (d ∷ ds) outer h name q = absurd h
  named_here vb fb (Declares n (meaning.Variable i) ∷ rest) (d ∷ ds) ss h name q =
      here_behind n name d rest ds h.0 (named_here i fb rest ds ss h.3 name) q
  named_here vb fb (Declares n (meaning.Function i) ∷ rest) (d ∷ ds) ss h name q =
      here_behind n name d rest ds h.0 (named_here vb i rest ds ss h.3 name) q
  named_here vb fb (Declares n m ∷ rest) [] ss h name q = absurd h
  named_here vb fb (Declares n (meaning.Library f) ∷ rest) (d ∷ ds) ss h name q = absurd h
  named_here vb fb (Declares n (meaning.Struct i) ∷ rest) (d ∷ ds) ss h name q = absurd h

  -- the end of a scope
  pub closed_matches : (vb fb : ℕ) (names : List ScopeEntry) (scope next : List Declared) (outer : List (List Declared))
      → Matches types fs vb fb names scope (next ∷ outer) → (v f : ℕ) → vb ≤ v → fb ≤ f → Matches types fs v f (names_after_scope names) next outer
  closed_matches vb fb [] [] next outer h v f p q = absurd h
  closed_matches vb fb [] (d ∷ ds) next outer h v f p q = absurd h
  closed_matches vb fb (Opens ∷ rest) [] next outer h v f p q = wider vb fb rest next outer v f p q h
    where
      wider : (vb fb : ℕ) (names : List ScopeEntry) (scope : List Declared) (outer : List (List Declared)) (v f : ℕ) → vb ≤ v → fb ≤ f
          → Matches types fs vb fb names scope outer → Matches types fs v f names scope outer
      wider vb fb [] [] [] v f p q h = h
      wider vb fb [] [] (s ∷ ss) v f p q h = h
      wider vb fb [] (d ∷ ds) ss v f p q h = h
      wider vb fb (Opens ∷ rest) [] [] v f p q h = h
      wider vb fb (Opens ∷ rest) [] (s ∷ ss) v f p q h = wider vb fb rest s ss v f p q h
      wider vb fb (Opens ∷ rest) (d ∷ ds) ss v f p q h = h
      wider vb fb (Declares n m ∷ rest) [] ss v f p q h = h
      wider vb fb (Declares n (meaning.Variable i) ∷ rest) (d ∷ ds) ss v f p q h =
          (h.0, omega (arith, h.1, p), h.2, wider i fb rest ds ss i f (omega arith) q h.3)
      wider vb fb (Declares n (meaning.Function i) ∷ rest) (d ∷ ds) ss v f p q h =
          (h.0, omega (arith, h.1, q), h.2, wider vb i rest ds ss v i p (omega arith) h.3)
      wider vb fb (Declares n (meaning.Library g) ∷ rest) (d ∷ ds) ss v f p q h = h
      wider vb fb (Declares n (meaning.Struct i) ∷ rest) (d ∷ ds) ss v f p q h = h
  closed_matches vb fb (Opens ∷ rest) (d ∷ ds) next outer h v f p q = absurd h
  closed_matches vb fb (Declares n m ∷ rest) [] next outer h v f p q = absurd h
  closed_matches vb fb (Declares n (meaning.Variable i) ∷ rest) (d ∷ ds) next outer h v f p q =
      closed_matches i fb rest ds next outer h.3 v f (omega (arith, h.1, p)) q
  closed_matches vb fb (Declares n (meaning.Function i) ∷ rest) (d ∷ ds) next outer h v f p q =
      closed_matches vb i rest ds next outer h.3 v f p (omega (arith, h.1, q))
  closed_matches vb fb (Declares n (meaning.Library g) ∷ rest) (d ∷ ds) next outer h v f p q = absurd h
  closed_matches vb fb (Declares n (meaning.Struct i) ∷ rest) (d ∷ ds) next outer h v f p q = absurd h

-- tags

one_tag : (b : Bool) (i n : ℕ) (m : Option Meaning) (x : Option ℕ) → i ≡ n → IsTag m x
    → IsTag (or_before (if b then Some (meaning.Struct i) else None) m) (if b then Some n else x)
one_tag true i n m x h g = h
one_tag false i n m x h g = g

pub tag_denotes : (tags : List ScopeEntry) (ds : List Tagged) → TagsMatch tags ds → (tag : List ℕ) → IsTag (declared_meaning tag tags) (tag_in tag ds)
tag_denotes [] [] h tag = tt
tag_denotes [] (d ∷ ds) h tag = absurd h
tag_denotes (Opens ∷ rest) ds h tag = absurd h
tag_denotes (Declares t m ∷ rest) [] h tag = absurd h
tag_denotes (Declares t (meaning.Struct i) ∷ rest) (d ∷ ds) h tag =
    subst (λ z. IsTag (or_before (if bytes_eq z tag then Some (meaning.Struct i) else None) (declared_meaning tag rest)) (tag_in tag (d ∷ ds))) (sym h.0)
    (one_tag (bytes_eq d.tag tag) i d.number (declared_meaning tag rest) (tag_in tag ds) h.1 (tag_denotes rest ds h.2 tag))
tag_denotes (Declares t (meaning.Variable i) ∷ rest) (d ∷ ds) h tag = absurd h
tag_denotes (Declares t (meaning.Function i) ∷ rest) (d ∷ ds) h tag = absurd h
tag_denotes (Declares t (meaning.Library f) ∷ rest) (d ∷ ds) h tag = absurd h

pub agreed : {c : Context} {s : Shown} → Knows c s → Agreed (known_identifiers c) s
agreed {c = c} {s = s} k = record {
  by = record {
    ordinary = name_denotes s.types s.functions s.count (length s.functions) s.names c.scope c.outer k.names;
    tagged = tag_denotes s.tags c.tags k.tags;
    complete = k.structs;
  };
}

-- other types of later variables

means_types : (types more : List TypeTree) (fs : List FunctionEntry) (i : ℕ) (x : Entity)
    → ((of : TypeTree) → slice_get types i ≡ Some of → slice_get more i ≡ Some of) → Means types fs (meaning.Variable i) x
    → Means more fs (meaning.Variable i) x
means_types types more fs i (Object of) f h = f of h
means_types types more fs i (Function g) f h = absurd h
means_types types more fs i (Standard g) f h = absurd h

function_types : (types more : List TypeTree) (fs : List FunctionEntry) (i : ℕ) (x : Entity) → Means types fs (meaning.Function i) x
    → Means more fs (meaning.Function i) x
function_types types more fs i (Object of) h = absurd h
function_types types more fs i (Function g) h = h
function_types types more fs i (Standard g) h = absurd h

pub matches_types : (types more : List TypeTree) (fs : List FunctionEntry) (vb fb : ℕ) (names : List ScopeEntry) (scope : List Declared)
    (outer : List (List Declared)) → ((i : ℕ) (of : TypeTree) → i < vb → slice_get types i ≡ Some of → slice_get more i ≡ Some of)
    → Matches types fs vb fb names scope outer → Matches more fs vb fb names scope outer
matches_types types more fs vb fb [] [] [] f h = h
matches_types types more fs vb fb [] [] (s ∷ ss) f h = h
matches_types types more fs vb fb [] (d ∷ ds) ss f h = h
matches_types types more fs vb fb (Opens ∷ rest) [] [] f h = h
matches_types types more fs vb fb (Opens ∷ rest) [] (s ∷ ss) f h = matches_types types more fs vb fb rest s ss f h
matches_types types more fs vb fb (Opens ∷ rest) (d ∷ ds) ss f h = h
matches_types types more fs vb fb (Declares n m ∷ rest) [] ss f h = absurd h
matches_types types more fs vb fb (Declares n (meaning.Variable i) ∷ rest) (d ∷ ds) ss f h = (
  h.0,
  h.1,
  means_types types more fs i d.entity (λ of. f i of h.1) h.2,
  matches_types types more fs i fb rest ds ss (λ j of q. f j of (omega (arith, q, h.1))) h.3,
)
matches_types types more fs vb fb (Declares n (meaning.Function i) ∷ rest) (d ∷ ds) ss f h =
    (h.0, h.1, function_types types more fs i d.entity h.2, matches_types types more fs vb i rest ds ss f h.3)
matches_types types more fs vb fb (Declares n (meaning.Library g) ∷ rest) (d ∷ ds) ss f h = h
matches_types types more fs vb fb (Declares n (meaning.Struct i) ∷ rest) (d ∷ ds) ss f h = h

-- steps of what is shown

abbrev pub with_object : List ℕ → TypeTree → Shown → Shown
with_object name t s = record s {
  names = Declares name (meaning.Variable s.count) ∷ s.names;
  count = s.count + 1;
  types = s.types ++ t ∷ [];
}

abbrev pub completed : ℕ → TypeTree → Shown → Shown
completed index u s = record s { types = item_replaced s.types index u }

abbrev pub grown : Bool → ℕ → Shown → Shown
grown global cells s = if global then record s { global_cells = s.global_cells + cells } else s

abbrev pub entering : Shown → Shown
entering s = record s { names = Opens ∷ s.names }

abbrev pub leaving : Shown → Shown
leaving s = record s { names = names_after_scope s.names }

pub variable_shown : (global : Bool) (token : ℕ) (name : List ℕ) (t : TypeTree) (w : Walk)
    → shown (with_variable global token name t w) ≡ with_object name t (shown w)
variable_shown true token name t w =
    ap (λ n. record (with_object name t (shown w)) { count = n })
    (length-append w.variables (record { name = name; variable = variable.Global w.globals; from = token } ∷ []))
variable_shown false token name t w =
    ap (λ n. record (with_object name t (shown w)) { count = n })
    (length-append w.variables (record { name = name; variable = variable.Local w.locals; from = token } ∷ []))

module _ {c : Context} {s : Shown} where
  pub object_knows : (name : List ℕ) (t : TypeTree) → Knows c s → Knows (name_declared name (Object t) c) (with_object name t s)
  object_knows name t k = record {
    names = (
      refl,
      omega arith,
      subst (λ n. slice_get (s.types ++ t ∷ []) n ≡ Some t) k.count (get_last s.types t),
      matches_types s.types (s.types ++ t ∷ []) s.functions s.count (length s.functions) s.names c.scope c.outer
          (λ i of p h. get_before s.types t i (slice_get_within s.types i of h) ∙ h) k.names,
    );
    tags = k.tags;
    structs = k.structs;
    count = omega (arith, k.count, length-append s.types (t ∷ []));
    cells = k.cells;
  }

  pub completed_knows : (name : List ℕ) (t u : TypeTree) → Knows c s → Knows (name_declared name (Object u) c) (completed s.count u (with_object name t s))
  completed_knows name t u k =
      let within : s.count < length (s.types ++ t ∷ []) = omega (arith, k.count, length-append s.types (t ∷ [])) in
      record {
        names = (
          refl,
          omega arith,
          replaced_same (s.types ++ t ∷ []) s.count u within,
          matches_types s.types (item_replaced (s.types ++ t ∷ []) s.count u) s.functions s.count (length s.functions) s.names c.scope c.outer
              (λ i of p h. replaced_other (s.types ++ t ∷ []) s.count i u (λ e. omega (arith, e, p))
              ∙ get_before s.types t i (slice_get_within s.types i of h) ∙ h) k.names,
        );
        tags = k.tags;
        structs = k.structs;
        count = length_replaced (s.types ++ t ∷ []) s.count u ∙ omega (arith, k.count, length-append s.types (t ∷ []));
        cells = k.cells;
      }

  pub grown_knows : (global : Bool) (n : ℕ) → Knows c s → Knows (global_cells_added global n c) (grown global n s)
  grown_knows true n k = record { names = k.names; tags = k.tags; structs = k.structs; count = k.count; cells = ap (λ m. m + n) k.cells }
  grown_knows false n k = k

  pub entering_knows : Knows c s → Knows (inner_context c) (entering s)
  entering_knows k = record { names = k.names; tags = k.tags; structs = k.structs; count = k.count; cells = k.cells }

-- a scope within a context has ended
pub leaving_knows : {c : Context} {s : Shown} (scope : List Declared) → Knows (record (inner_context c) { scope = scope }) s → Knows c (leaving s)
leaving_knows {c = c} {s = s} scope k = record {
  names = closed_matches s.types s.functions s.count (length s.functions) s.names scope c.scope c.outer k.names s.count (length s.functions)
      (omega arith) (omega arith);
  tags = k.tags;
  structs = k.structs;
  count = k.count;
  cells = k.cells;
}

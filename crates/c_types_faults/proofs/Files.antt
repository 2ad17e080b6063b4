-- What the walk knows of functions between two items: each is known by one name, and is defined where the context says so.
use Rattle.std.proofs.Common.{⊎_elim, inl, inr, map, ◌≡◌, ℕ, ◌<◌, refl, ap, ap₂, subst, sym, ◌∙◌, arith, List, [], ◌∷◌, ◌++◌, Some, None, Bool, true}
use Rattle.std.proofs.Common.{false, length}
use Rattle.std.proofs.lemmas.Bool.{and_from, and_parts, eqb-true, false≢true, or_left, or_right}
use Rattle.std.proofs.lemmas.Option.{slice_get_within}
use Rattle.std.proofs.lemmas.List.{length-map, map-append}
use Rattle.std.proofs.lemmas.Slice.Eq.{bytes_eq-Decides}
use Rattle.std.specs.Prelude.{Option, is_some, slice_get, ◌||◌, if◌then◌else◌, unwrap_or}
use Rattle.std.specs.Str.{bytes_eq}
use Rattle.c_types.proofs.Replaced.{replaced_other, replaced_same}
use Rattle.base_lists.proofs.Lists.{get_before, get_either, get_last}
use Rattle.c_types_rules.specs.declared.function.FunctionType.{FunctionType}
use Rattle.c_types_rules.specs.Words.{same_function, TypeTree, same_type, same_types}
use Rattle.c_types_rules.proofs.Same.{equal, same_self}
use Rattle.c_types_expressions.specs.declared.names.Meaning.{Meaning}
use Rattle.c_types_expressions.specs.declared.names.Meaning.TheVariants as meaning
use Rattle.c_types_expressions.specs.declared.names.ScopeEntry.{ScopeEntry}
use Rattle.c_types_expressions.specs.declared.names.ScopeEntry.TheVariants.{Opens, Declares}
use Rattle.c_types_expressions.specs.declared.walk.FunctionEntry.{FunctionEntry}
use Rattle.c_types_expressions.specs.declared.walk.Walk.{Walk}
use Rattle.c_types_expressions.specs.Words.{declared_meaning, is_here, or_before, item_replaced}
use Rattle.c_types_walk.specs.ItemWalk.{is_defined}
use Rattle.c_types_laws.proofs.Declaring.{more_stays}
use Rattle.c_types_faults.proofs.Noting.{Listed, Named, NoLibrary}
use Rattle.c_types_faults.proofs.Paths.{called_name, view}
use Rattle.c_types_faults.specs.Known.{Entity, Object, Function, Standard}
use Rattle.c_types_faults.specs.Agrees.{Denotes, IsType, Means}
use Rattle.c_types_faults.specs.Context.{Context, Declared, declared_in}
use Rattle.c_types_faults.specs.Functions.{is_listed}
use Rattle.c_types_faults.proofs.Knowing.{Knows, Matches}
use Rattle.c_types_faults.proofs.Telling.{Shown, shown}

-- types of functions

same_lists : (ts us : List TypeTree) → same_types ts us ≡ true → ts ≡ us
same_lists [] [] h = refl
same_lists [] (u ∷ us) h = absurd (omega (arith, eqb-true (length (u ∷ us)) 0 h))
same_lists (t ∷ ts) [] h = absurd (false≢true h)
same_lists (t ∷ ts) (u ∷ us) h =
    let k = and_parts (same_type t u) (same_types ts us) h in ap₂ (λ x xs. x ∷ xs) (equal t u k.0) (same_lists ts us k.1)

lists_self : (ts : List TypeTree) → same_types ts ts ≡ true
lists_self [] = refl
lists_self (t ∷ ts) = and_from (same_type t t) (same_types ts ts) (same_self t) (lists_self ts)

abbrev made : TypeTree → List TypeTree → FunctionType
made t ts = record { gives = t; params = ts }

pub function_is : (f g : FunctionType) → same_function f g ≡ true → f ≡ g
function_is f g h =
    let k = and_parts (same_type f.gives g.gives) (same_types f.params g.params) h in
    ap₂ made (equal f.gives g.gives k.0) (same_lists f.params g.params k.1)

pub function_self : (f : FunctionType) → same_function f f ≡ true
function_self f = and_from (same_type f.gives f.gives) (same_types f.params f.params) (same_self f.gives) (lists_self f.params)

-- what a name was declared as in the scope of the text

module _ (types : List TypeTree) (fs : List FunctionEntry) where
  one_found : (b : Bool) (m : Meaning) (x : Entity) (o : Option Meaning) (y : Option Entity) → Means types fs m x → Denotes types fs o y
      → Denotes types fs (or_before (if b then Some m else None) o) (if b then Some x else y)
  one_found true m x o y h g = h
  one_found false m x o y h g = g

  entry_found : (n name : List ℕ) (d : Declared) (m : Meaning) (rest : List ScopeEntry) (ds : List Declared) → n ≡ d.name → Means types fs m d.entity
      → Denotes types fs (declared_meaning name rest) (declared_in name ds) → Denotes types fs (declared_meaning name (Declares n m ∷ rest)) (declared_in name (d ∷ ds))
  entry_found n name d m rest ds e h g =
      subst (λ z. Denotes types fs (or_before (if bytes_eq z name then Some m else None) (declared_meaning name rest)) (declared_in name (d ∷ ds))) (sym e)
      (one_found (bytes_eq d.name name) m d.entity (declared_meaning name rest) (declared_in name ds) h g)

  pub text_found : (vb fb : ℕ) (names : List ScopeEntry) (scope : List Declared) → Matches types fs vb fb names scope [] → (name : List ℕ)
      → Denotes types fs (declared_meaning name names) (declared_in name scope)
  text_found vb fb [] [] h name = tt
  text_found vb fb [] (d ∷ ds) h name = absurd h
  text_found vb fb (Opens ∷ rest) [] h name = absurd h
  text_found vb fb (Opens ∷ rest) (d ∷ ds) h name = absurd h
  text_found vb fb (Declares n m ∷ rest) [] h name = absurd h
  text_found vb fb (Declares n (meaning.Variable i) ∷ rest) (d ∷ ds) h name =
      entry_found n name d (meaning.Variable i) rest ds h.0 h.2 (text_found i fb rest ds h.3 name)
  text_found vb fb (Declares n (meaning.Function i) ∷ rest) (d ∷ ds) h name =
      entry_found n name d (meaning.Function i) rest ds h.0 h.2 (text_found vb i rest ds h.3 name)
  text_found vb fb (Declares n (meaning.Library f) ∷ rest) (d ∷ ds) h name = absurd h
  text_found vb fb (Declares n (meaning.Struct i) ∷ rest) (d ∷ ds) h name = absurd h

  means_more : (g : FunctionEntry) (m : Meaning) (x : Entity) → Means types fs m x → Means types (fs ++ g ∷ []) m x
  means_more g (meaning.Variable i) (Object of) h = h
  means_more g (meaning.Variable i) (Function f) h = absurd h
  means_more g (meaning.Variable i) (Standard f) h = absurd h
  means_more g (meaning.Function i) (Function f) h = by (slice_get fs i) refl h
    where
      by : (o : Option FunctionEntry) → slice_get fs i ≡ o → IsType o (λ y. y.ctype ≡ f) → IsType (slice_get (fs ++ g ∷ []) i) (λ y. y.ctype ≡ f)
      by None e h = absurd h
      by (Some y) e h = subst (λ o. IsType o (λ z. z.ctype ≡ f)) (sym (get_before fs g i (slice_get_within fs i y e) ∙ e)) h
  means_more g (meaning.Function i) (Object of) h = absurd h
  means_more g (meaning.Function i) (Standard f) h = absurd h
  means_more g (meaning.Library f) (Standard l) h = h
  means_more g (meaning.Library f) (Object of) h = absurd h
  means_more g (meaning.Library f) (Function l) h = absurd h
  means_more g (meaning.Struct i) x h = absurd h

  pub matches_more : (g : FunctionEntry) (vb fb : ℕ) (names : List ScopeEntry) (scope : List Declared) (outer : List (List Declared))
      → Matches types fs vb fb names scope outer → Matches types (fs ++ g ∷ []) vb fb names scope outer
  matches_more g vb fb (Opens ∷ rest) [] (s ∷ ss) h = matches_more g vb fb rest s ss h
  matches_more g vb fb (Declares n m ∷ rest) [] ss h = absurd h
  matches_more g vb fb (Declares n (meaning.Variable i) ∷ rest) (d ∷ ds) ss h =
      (h.0, h.1, means_more g (meaning.Variable i) d.entity h.2, matches_more g i fb rest ds ss h.3)
  matches_more g vb fb (Declares n (meaning.Function i) ∷ rest) (d ∷ ds) ss h =
      (h.0, h.1, means_more g (meaning.Function i) d.entity h.2, matches_more g vb i rest ds ss h.3)
  matches_more g vb fb [] [] [] h = h
  matches_more g vb fb [] [] (s ∷ ss) h = h
  matches_more g vb fb [] (d ∷ ds) ss h = h
  matches_more g vb fb (Opens ∷ rest) [] [] h = h
  matches_more g vb fb (Opens ∷ rest) (d ∷ ds) ss h = h
  matches_more g vb fb (Declares n (meaning.Library f) ∷ rest) (d ∷ ds) ss h = h
  matches_more g vb fb (Declares n (meaning.Struct i) ∷ rest) (d ∷ ds) ss h = h

-- which functions are defined

abbrev pub Funs : List (Option ℕ) → List (List ℕ) → ℕ → List ScopeEntry → Type 0
Funs ds ns bound [] = Unit {0}
Funs ds ns bound (Opens ∷ rest) = Funs ds ns bound rest
Funs ds ns bound (Declares n (meaning.Function i) ∷ rest) = (i < bound) × (is_defined i ds ≡ is_listed n ns) × (is_here n rest ≡ false) × Funs ds ns i rest
Funs ds ns bound (Declares n (meaning.Variable i) ∷ rest) = Funs ds ns bound rest
Funs ds ns bound (Declares n (meaning.Library f) ∷ rest) = Funs ds ns bound rest
Funs ds ns bound (Declares n (meaning.Struct i) ∷ rest) = Funs ds ns bound rest

abbrev pub IsFlat : List ScopeEntry → Type 0
IsFlat [] = Unit {0}
IsFlat (Opens ∷ rest) = ⊥
IsFlat (Declares n m ∷ rest) = IsFlat rest

-- the functions by their names
pub record Places (names : List ScopeEntry) (fs : List FunctionEntry) : Type 0 where
  pub listed : (i : ℕ) (name : List ℕ) → slice_get (map called_name fs) i ≡ Some name → Listed name i names
  pub named : (name : List ℕ) (i : ℕ) → Listed name i names → slice_get (map called_name fs) i ≡ Some name
  pub own : NoLibrary names

pub places_on : {names more : List ScopeEntry} {fs gs : List FunctionEntry} → Places names fs → more ≡ names → gs ≡ fs → Places more gs
places_on {names = names} {more = more} {fs = fs} {gs = gs} k e f = subst (Places more) (sym f) (subst (λ ns. Places ns fs) (sym e) k)

pub places_new : (name : List ℕ) (f : FunctionType) (names : List ScopeEntry) (fs : List FunctionEntry) → Places names fs
    → Places (Declares name (meaning.Function (length fs)) ∷ names) (fs ++ record { name = name; ctype = f } ∷ [])
places_new name f names fs k =
    let is : map called_name (fs ++ record { name = name; ctype = f } ∷ []) ≡ map called_name fs ++ name ∷ [] =
    map-append called_name fs (record { name = name; ctype = f } ∷ []) in
    record {
      listed = λ i other h. ⊎_elim (λ e. inr (k.listed i other e)) (λ e. inl (e.1, sym (e.0 ∙ length-map fs called_name)))
          (get_either (map called_name fs) name i other (ap (λ ns. slice_get ns i) (sym is) ∙ h));
      named = λ other i h. ap (λ ns. slice_get ns i) is ∙ ⊎_elim
          (λ e. ap (λ n. slice_get (map called_name fs ++ name ∷ []) n) (sym e.1 ∙ sym (length-map fs called_name)) ∙ get_last (map called_name fs) name
          ∙ ap Some e.0)
          (λ l. more_stays (map called_name fs) name i other (k.named other i l)) h;
      own = k.own;
    }

pub record Files (c : Context) (s : Shown) : Type 0 where
  pub knows : Knows c s
  pub outer : c.outer ≡ []
  pub funs : Funs s.defined_as c.defined (length s.functions) s.names
  pub flat : IsFlat s.names
  pub long : length s.defined_as ≡ length s.functions
  pub here : (name : List ℕ) → is_listed name c.defined ≡ true → is_here name s.names ≡ true
  pub places : Places s.names s.functions

pub named_in : {c : Context} (w : Walk) → Files c (shown w) → Named (view w)
named_in w k = record { by = k.places.named; own = k.places.own }

other_bytes : (xs ys : List ℕ) → bytes_eq xs ys ≡ false → bytes_eq ys xs ≡ false
other_bytes xs ys h = by (bytes_eq ys xs) refl
  where
    by : (b : Bool) → bytes_eq ys xs ≡ b → b ≡ false
    by true e = absurd (false≢true (sym h ∙ (bytes_eq-Decides xs ys).1 (sym ((bytes_eq-Decides ys xs).0 e))))
    by false e = refl

-- other functions are defined as they were
module _ (ds es : List (Option ℕ)) (ns ms : List (List ℕ)) where
  pub funs_same : (bound : ℕ) (names : List ScopeEntry) → ((i : ℕ) → i < bound → is_defined i es ≡ is_defined i ds)
      → ((n : List ℕ) → is_here n names ≡ true → is_listed n ms ≡ is_listed n ns) → IsFlat names → Funs ds ns bound names → Funs es ms bound names
  funs_same bound [] f g flat h = tt
  funs_same bound (Opens ∷ rest) f g flat h = absurd flat
  funs_same bound (Declares n (meaning.Function i) ∷ rest) f g flat h = (
    h.0,
    f i h.0 ∙ h.1 ∙ sym (g n (or_left (bytes_eq n n) (is_here n rest) ((bytes_eq-Decides n n).1 refl))),
    h.2,
    funs_same i rest (λ j p. f j (omega (arith, p, h.0))) (λ m p. g m (or_right (bytes_eq n m) (is_here m rest) p)) flat h.3,
  )
  funs_same bound (Declares n (meaning.Variable i) ∷ rest) f g flat h =
      funs_same bound rest f (λ m p. g m (or_right (bytes_eq n m) (is_here m rest) p)) flat h
  funs_same bound (Declares n (meaning.Library q) ∷ rest) f g flat h =
      funs_same bound rest f (λ m p. g m (or_right (bytes_eq n m) (is_here m rest) p)) flat h
  funs_same bound (Declares n (meaning.Struct i) ∷ rest) f g flat h =
      funs_same bound rest f (λ m p. g m (or_right (bytes_eq n m) (is_here m rest) p)) flat h

-- the function of this name

is_function : (i j : ℕ) → Some (meaning.Function i) ≡ Some (meaning.Function j) → i ≡ j
is_function i j h = cc

module _ (name : List ℕ) (j : ℕ) where
  abbrev FoundBy : Bool → Meaning → List ScopeEntry → Type 0
  FoundBy b m rest = or_before (if b then Some m else None) (declared_meaning name rest) ≡ Some (meaning.Function j)

  pub found_below : (ds : List (Option ℕ)) (ns : List (List ℕ)) (bound : ℕ) (names : List ScopeEntry) → IsFlat names
      → declared_meaning name names ≡ Some (meaning.Function j) → Funs ds ns bound names → j < bound
  found_below ds ns bound [] flat e h = absurd (cc)
  found_below ds ns bound (Opens ∷ rest) flat e h = absurd flat
  found_below ds ns bound (Declares n (meaning.Function i) ∷ rest) flat e h =
      by (bytes_eq n name) e (λ k. omega (arith, h.0, found_below ds ns i rest flat k h.3))
    where
      by : (b : Bool) → FoundBy b (meaning.Function i) rest → (declared_meaning name rest ≡ Some (meaning.Function j) → j < bound) → j < bound
      by true e f = subst (λ k. k < bound) (is_function i j e) h.0
      by false e f = f e
  found_below ds ns bound (Declares n (meaning.Variable i) ∷ rest) flat e h = by (bytes_eq n name) e (λ k. found_below ds ns bound rest flat k h)
    where
      by : (b : Bool) → FoundBy b (meaning.Variable i) rest → (declared_meaning name rest ≡ Some (meaning.Function j) → j < bound) → j < bound
      by true e f = absurd (cc)
      by false e f = f e
  found_below ds ns bound (Declares n (meaning.Library q) ∷ rest) flat e h = by (bytes_eq n name) e (λ k. found_below ds ns bound rest flat k h)
    where
      by : (b : Bool) → FoundBy b (meaning.Library q) rest → (declared_meaning name rest ≡ Some (meaning.Function j) → j < bound) → j < bound
      by true e f = absurd (cc)
      by false e f = f e
  found_below ds ns bound (Declares n (meaning.Struct i) ∷ rest) flat e h = by (bytes_eq n name) e (λ k. found_below ds ns bound rest flat k h)
    where
      by : (b : Bool) → FoundBy b (meaning.Struct i) rest → (declared_meaning name rest ≡ Some (meaning.Function j) → j < bound) → j < bound
      by true e f = absurd (cc)
      by false e f = f e

  -- whether it is defined
  pub listed_is : (ds : List (Option ℕ)) (ns : List (List ℕ)) (bound : ℕ) (names : List ScopeEntry) → IsFlat names
      → declared_meaning name names ≡ Some (meaning.Function j) → Funs ds ns bound names → is_defined j ds ≡ is_listed name ns
  listed_is ds ns bound [] flat e h = absurd (cc)
  listed_is ds ns bound (Opens ∷ rest) flat e h = absurd flat
  listed_is ds ns bound (Declares n (meaning.Function i) ∷ rest) flat e h = by (bytes_eq n name) refl e (λ k. listed_is ds ns i rest flat k h.3)
    where
      by : (b : Bool) → bytes_eq n name ≡ b → FoundBy b (meaning.Function i) rest
          → (declared_meaning name rest ≡ Some (meaning.Function j) → is_defined j ds ≡ is_listed name ns) → is_defined j ds ≡ is_listed name ns
      by true q e f = ap (λ k. is_defined k ds) (sym (is_function i j e)) ∙ h.1 ∙ ap (λ m. is_listed m ns) ((bytes_eq-Decides n name).0 q)
      by false q e f = f e
  listed_is ds ns bound (Declares n (meaning.Variable i) ∷ rest) flat e h = by (bytes_eq n name) e (λ k. listed_is ds ns bound rest flat k h)
    where
      by : (b : Bool) → FoundBy b (meaning.Variable i) rest → (declared_meaning name rest ≡ Some (meaning.Function j) → is_defined j ds ≡ is_listed name ns)
          → is_defined j ds ≡ is_listed name ns
      by true e f = absurd (cc)
      by false e f = f e
  listed_is ds ns bound (Declares n (meaning.Library q) ∷ rest) flat e h = by (bytes_eq n name) e (λ k. listed_is ds ns bound rest flat k h)
    where
      by : (b : Bool) → FoundBy b (meaning.Library q) rest → (declared_meaning name rest ≡ Some (meaning.Function j) → is_defined j ds ≡ is_listed name ns)
          → is_defined j ds ≡ is_listed name ns
      by true e f = absurd (cc)
      by false e f = f e
  listed_is ds ns bound (Declares n (meaning.Struct i) ∷ rest) flat e h = by (bytes_eq n name) e (λ k. listed_is ds ns bound rest flat k h)
    where
      by : (b : Bool) → FoundBy b (meaning.Struct i) rest → (declared_meaning name rest ≡ Some (meaning.Function j) → is_defined j ds ≡ is_listed name ns)
          → is_defined j ds ≡ is_listed name ns
      by true e f = absurd (cc)
      by false e f = f e

  -- where it is defined now
  module _ (ds : List (Option ℕ)) (ns : List (List ℕ)) (number : ℕ) (within : j < length ds) where
    abbrev es : List (Option ℕ)
    es = item_replaced ds j (Some number)

    now_defined : is_defined j es ≡ true
    now_defined = ap (λ o. is_some (unwrap_or o None)) (replaced_same ds j (Some number) within)

    others_same : (i : ℕ) → (j ≡ i → ⊥) → is_defined i es ≡ is_defined i ds
    others_same i h = ap (λ o. is_some (unwrap_or o None)) (replaced_other ds j i (Some number) h)

    other_listed : (n : List ℕ) (b : Bool) → bytes_eq name n ≡ b → b ≡ false → is_listed n (name ∷ ns) ≡ is_listed n ns
    other_listed n true e h = absurd (false≢true (sym h))
    other_listed n false e h = ap (λ b. b || is_listed n ns) e

    not_name : (n : List ℕ) (rest : List ScopeEntry) → is_here name rest ≡ false → is_here n rest ≡ true → bytes_eq name n ≡ false
    not_name n rest h k = by (bytes_eq name n) refl
      where
        by : (b : Bool) → bytes_eq name n ≡ b → b ≡ false
        by true e = absurd (false≢true (sym h ∙ ap (λ m. is_here m rest) ((bytes_eq-Decides name n).0 e) ∙ k))
        by false e = refl

    pub defined_funs : (bound : ℕ) (names : List ScopeEntry) → IsFlat names → declared_meaning name names ≡ Some (meaning.Function j) → Funs ds ns bound names
        → Funs es (name ∷ ns) bound names
    defined_funs bound [] flat e h = tt
    defined_funs bound (Opens ∷ rest) flat e h = absurd flat
    defined_funs bound (Declares n (meaning.Function i) ∷ rest) flat e h =
        by (bytes_eq n name) refl e (λ k. defined_funs i rest flat k h.3)
      where
        by : (b : Bool) → bytes_eq n name ≡ b → FoundBy b (meaning.Function i) rest
            → (declared_meaning name rest ≡ Some (meaning.Function j) → Funs es (name ∷ ns) i rest)
            → Funs es (name ∷ ns) bound (Declares n (meaning.Function i) ∷ rest)
        by true q e f =
            let is : i ≡ j = is_function i j e in
            let same : n ≡ name = (bytes_eq-Decides n name).0 q in (
              h.0,
              ap (λ k. is_defined k es) is ∙ now_defined ∙ sym (or_left (bytes_eq name n) (is_listed n ns) ((bytes_eq-Decides name n).1 (sym same))),
              h.2,
              funs_same ds es ns (name ∷ ns) i rest (λ k p. others_same k (λ z. omega (arith, z, p, is)))
                  (λ m p. other_listed m (bytes_eq name m) refl (not_name m rest (ap (λ z. is_here z rest) (sym same) ∙ h.2) p)) flat h.3,
            )
        by false q e f = (
          h.0,
          others_same i (λ z. omega (arith, z, found_below ds ns i rest flat e h.3)) ∙ h.1
              ∙ sym (other_listed n (bytes_eq name n) refl (other_bytes n name q)),
          h.2,
          f e,
        )
    defined_funs bound (Declares n (meaning.Variable i) ∷ rest) flat e h = by (bytes_eq n name) e (λ k. defined_funs bound rest flat k h)
      where
        by : (b : Bool) → FoundBy b (meaning.Variable i) rest → (declared_meaning name rest ≡ Some (meaning.Function j) → Funs es (name ∷ ns) bound rest)
            → Funs es (name ∷ ns) bound rest
        by true e f = absurd (cc)
        by false e f = f e
    defined_funs bound (Declares n (meaning.Library q) ∷ rest) flat e h = by (bytes_eq n name) e (λ k. defined_funs bound rest flat k h)
      where
        by : (b : Bool) → FoundBy b (meaning.Library q) rest → (declared_meaning name rest ≡ Some (meaning.Function j) → Funs es (name ∷ ns) bound rest)
            → Funs es (name ∷ ns) bound rest
        by true e f = absurd (cc)
        by false e f = f e
    defined_funs bound (Declares n (meaning.Struct i) ∷ rest) flat e h = by (bytes_eq n name) e (λ k. defined_funs bound rest flat k h)
      where
        by : (b : Bool) → FoundBy b (meaning.Struct i) rest → (declared_meaning name rest ≡ Some (meaning.Function j) → Funs es (name ∷ ns) bound rest)
            → Funs es (name ∷ ns) bound rest
        by true e f = absurd (cc)
        by false e f = f e

-- What is noted at a token, along a path: by the expression whose own token it is, and by nothing else.
use Rattle.std.proofs.Common.{◌⊎◌, inl, inr, ⊎_elim, ◌≡◌, ℕ, ◌==◌, ◌≤◌, Bool, true, false, if◌then◌else◌, List, [], ◌∷◌, ◌++◌, length, Option, Some, None, refl, sym, ap, ◌∙◌, subst, arith}
use Rattle.std.specs.Prelude.{slice_get}
use Rattle.std.specs.Str.{bytes_eq}
use Rattle.std.proofs.Math.Nat.{le-max_left}
use Rattle.std.proofs.lemmas.Bool.{false≢true}
use Rattle.std.proofs.lemmas.Slice.Eq.{bytes_eq-Decides}
use Rattle.std.proofs.lemmas.Option.{same_Some}
use Rattle.c_types.proofs.Replaced.{noted_other}
use Rattle.c_types.proofs.Noted.{length_replaced}
use Rattle.base_lists.proofs.Numbers.{not_number, same_number}
use Rattle.base_lists.proofs.Lists.{get_last, Stays}
use Rattle.c_types_rules.specs.TypeTree.{TypeTree}
use Rattle.c_types.specs.Answers.{note_at}
use Rattle.c_types_expressions.specs.declared.names.Meaning.{Meaning}
use Rattle.c_types_expressions.specs.declared.names.Meaning.TheVariants as meaning
use Rattle.c_types_expressions.specs.declared.names.ScopeEntry.{ScopeEntry}
use Rattle.c_types_expressions.specs.declared.names.ScopeEntry.TheVariants as entry
use Rattle.c_types_expressions.specs.Names.{names_after_scope, declared_meaning, meaning_of, or_before}
use Rattle.c_types_laws.proofs.Declaring.{more_stays}
use Rattle.c_types_faults.specs.Events.{Construct, Calls, Selects, Other, Event, Value, Initialises, Variable, Opens, Closes, Struct, Names, Defines, construct_at}
use Rattle.c_types_faults.proofs.Paths.{CalledAs, Notes, Path, Step, View, calling, selecting, typed}
use Rattle.c_types_faults.proofs.Points.{Among, Once, among_right}

-- functions by name: what is declared as one is the one with this number, and no name stands for a function of the library

abbrev pub Listed : List ℕ → ℕ → List ScopeEntry → Type 0
Listed name index [] = ⊥
Listed name index (entry.Declares other (meaning.Function place) ∷ rest) = ((other ≡ name) × (place ≡ index)) ⊎ Listed name index rest
Listed name index (e ∷ rest) = Listed name index rest

abbrev pub NoLibrary : List ScopeEntry → Type 0
NoLibrary [] = Unit {0}
NoLibrary (entry.Declares other (meaning.Library function) ∷ rest) = ⊥
NoLibrary (e ∷ rest) = NoLibrary rest

pub record Named (a : View) : Type 0 where
  pub by : (name : List ℕ) (index : ℕ) → Listed name index a.names → slice_get a.functions index ≡ Some name
  pub own : NoLibrary a.names

listed_closed : (name : List ℕ) (index : ℕ) (names : List ScopeEntry) → Listed name index (names_after_scope names) → Listed name index names
listed_closed name index [] h = h
listed_closed name index (entry.Opens ∷ rest) h = h
listed_closed name index (entry.Declares other (meaning.Variable place) ∷ rest) h = listed_closed name index rest h
listed_closed name index (entry.Declares other (meaning.Function place) ∷ rest) h = inr (listed_closed name index rest h)
listed_closed name index (entry.Declares other (meaning.Library function) ∷ rest) h = listed_closed name index rest h
listed_closed name index (entry.Declares other (meaning.Struct place) ∷ rest) h = listed_closed name index rest h

library_closed : (names : List ScopeEntry) → NoLibrary names → NoLibrary (names_after_scope names)
library_closed [] h = h
library_closed (entry.Opens ∷ rest) h = h
library_closed (entry.Declares other (meaning.Variable place) ∷ rest) h = library_closed rest h
library_closed (entry.Declares other (meaning.Function place) ∷ rest) h = library_closed rest h
library_closed (entry.Declares other (meaning.Library function) ∷ rest) h = absurd h
library_closed (entry.Declares other (meaning.Struct place) ∷ rest) h = library_closed rest h

-- what a name was found as
abbrev pub FoundAs : List ℕ → Option Meaning → List ScopeEntry → Type 0
FoundAs name (Some (meaning.Function index)) names = Listed name index names
FoundAs name (Some (meaning.Library function)) names = ⊥
FoundAs name m names = Unit {0}

found_behind : (name other : List ℕ) (m : Meaning) (o : Option Meaning) (rest : List ScopeEntry) → FoundAs name o rest
    → FoundAs name o (entry.Declares other m ∷ rest)
found_behind name other m None rest h = tt
found_behind name other m (Some (meaning.Variable q)) rest h = tt
found_behind name other m (Some (meaning.Struct q)) rest h = tt
found_behind name other (meaning.Function p) (Some (meaning.Function q)) rest h = inr h
found_behind name other m (Some (meaning.Library function)) rest h = h
found_behind name other (meaning.Variable p) (Some (meaning.Function q)) rest h = h
found_behind name other (meaning.Library f) (Some (meaning.Function q)) rest h = h
found_behind name other (meaning.Struct p) (Some (meaning.Function q)) rest h = h

found_opens : (name : List ℕ) (o : Option Meaning) (rest : List ScopeEntry) → FoundAs name o rest → FoundAs name o (entry.Opens ∷ rest)
found_opens name (Some (meaning.Library function)) rest h = h
found_opens name (Some (meaning.Function q)) rest h = h
found_opens name o rest h = tt

found_here : (name other : List ℕ) (m : Meaning) (rest : List ScopeEntry) → other ≡ name → NoLibrary (entry.Declares other m ∷ rest)
    → FoundAs name (Some m) (entry.Declares other m ∷ rest)
found_here name other (meaning.Variable q) rest e h = tt
found_here name other (meaning.Function q) rest e h = inl (e, refl)
found_here name other (meaning.Library function) rest e h = h
found_here name other (meaning.Struct q) rest e h = tt

no_library_rest : (e : ScopeEntry) (rest : List ScopeEntry) → NoLibrary (e ∷ rest) → NoLibrary rest
no_library_rest (entry.Declares other (meaning.Library function)) rest h = absurd h
no_library_rest e rest h = h

pub found_is : (name : List ℕ) (names : List ScopeEntry) → NoLibrary names → FoundAs name (declared_meaning name names) names
found_is name [] h = tt
found_is name (entry.Opens ∷ rest) h = found_opens name (declared_meaning name rest) rest (found_is name rest h)
found_is name (entry.Declares other m ∷ rest) h =
    by (bytes_eq other name) refl (found_is name rest (no_library_rest (entry.Declares other m) rest h))
  where
    by : (b : Bool) → bytes_eq other name ≡ b → FoundAs name (declared_meaning name rest) rest
        → FoundAs name (or_before (if b then Some m else None) (declared_meaning name rest)) (entry.Declares other m ∷ rest)
    by true e k = found_here name other m rest ((bytes_eq-Decides other name).0 e) h
    by false e k = found_behind name other m (declared_meaning name rest) rest k

-- along a path nothing is lost
pub record Onward (a b : View) : Type 0 where
  pub types : length b.types ≡ length a.types
  pub offsets : length b.offsets ≡ length a.offsets
  pub calls : length b.calls ≡ length a.calls
  pub functions : Stays a.functions b.functions
  pub structs : Stays a.structs b.structs
  pub latest : a.latest ≤ b.latest
  pub named : Named a → Named b

onward_here : (a : View) → Onward a a
onward_here a = record {
  types = refl;
  offsets = refl;
  calls = refl;
  functions = λ k x h. h;
  structs = λ k x h. h;
  latest = omega arith;
  named = λ h. h;
}

onward_then : {a b c : View} → Onward a b → Onward b c → Onward a c
onward_then h k = record {
  types = k.types ∙ h.types;
  offsets = k.offsets ∙ h.offsets;
  calls = k.calls ∙ h.calls;
  functions = λ i x g. k.functions i x (h.functions i x g);
  structs = λ i x g. k.structs i x (h.structs i x g);
  latest = omega (arith, h.latest, k.latest);
  named = λ g. k.named (h.named g);
}

typed_onward : (token : ℕ) (t : TypeTree) (a : View) → Onward a (typed token t a)
typed_onward token t a = record {
  types = length_replaced a.types token (Some t);
  offsets = refl;
  calls = refl;
  functions = λ k x h. h;
  structs = λ k x h. h;
  latest = le-max_left a.latest token;
  named = λ h. record { by = h.by; own = h.own };
}

calling_onward : (token index : ℕ) (a : View) → Onward a (calling token index a)
calling_onward token index a = record {
  types = refl;
  offsets = refl;
  calls = length_replaced a.calls token (Some index);
  functions = λ k x h. h;
  structs = λ k x h. h;
  latest = omega arith;
  named = λ h. record { by = h.by; own = h.own };
}

selecting_onward : (token offset : ℕ) (a : View) → Onward a (selecting token offset a)
selecting_onward token offset a = record {
  types = refl;
  offsets = length_replaced a.offsets token (Some offset);
  calls = refl;
  functions = λ k x h. h;
  structs = λ k x h. h;
  latest = omega arith;
  named = λ h. record { by = h.by; own = h.own };
}

called_onward : (token : ℕ) (m : Option Meaning) (a b : View) → CalledAs token m a b → Onward a b
called_onward token (Some (meaning.Function index)) a b h =
    subst (Onward a) (sym h.1) (onward_then (calling_onward token index a) (typed_onward token h.0 (calling token index a)))
called_onward token (Some (meaning.Library function)) a b h = subst (Onward a) (sym h.1) (typed_onward token h.0 a)
called_onward token m a b h = absurd h

notes_onward : (c : Construct) (token : ℕ) (a b : View) → Notes c token a b → Onward a b
notes_onward Other token a b h = subst (Onward a) (sym h.1) (typed_onward token h.0 a)
notes_onward (Calls name) token a b h = called_onward token (meaning_of name a.names) a b h
notes_onward (Selects operand behind name) token a b h =
    subst (Onward a) (sym h.to)
    (onward_then (selecting_onward token h.member.offset a) (typed_onward token h.member.ctype (selecting token h.member.offset a)))

-- the names that come and go
renamed : (a b : View) → b.types ≡ a.types → b.offsets ≡ a.offsets → b.calls ≡ a.calls → b.functions ≡ a.functions → Stays a.structs b.structs
    → b.latest ≡ a.latest → (Named a → Named b) → Onward a b
renamed a b types offsets calls functions structs latest named = record {
  types = ap length types;
  offsets = ap length offsets;
  calls = ap length calls;
  functions = λ k x h. subst (λ fs. slice_get fs k ≡ Some x) (sym functions) h;
  structs = structs;
  latest = omega (arith, latest);
  named = named;
}

naming_onward : (name : List ℕ) (a : View) → Named a
    → (other : List ℕ) (index : ℕ) → ((name ≡ other) × (length a.functions ≡ index)) ⊎ Listed other index a.names
    → slice_get (a.functions ++ name ∷ []) index ≡ Some other
naming_onward name a h other index (inl e) =
    subst (λ n. slice_get (a.functions ++ name ∷ []) n ≡ Some other) e.1 (get_last a.functions name ∙ ap Some e.0)
naming_onward name a h other index (inr l) = more_stays a.functions name index other (h.by other index l)

pub step_onward : (event : Event) (a b : View) → Step event a b → Onward a b
step_onward (Value token c) a b h = notes_onward c token a b h
step_onward (Initialises token) a b h = subst (Onward a) (sym h) (onward_here a)
step_onward (Variable token) a b h =
    subst (Onward a) (sym h.1) (renamed a _ refl refl refl refl (λ k x g. g) refl (λ g. record { by = g.by; own = g.own }))
step_onward Opens a b h = subst (Onward a) (sym h) (renamed a _ refl refl refl refl (λ k x g. g) refl (λ g. record { by = g.by; own = g.own }))
step_onward Closes a b h =
    subst (Onward a) (sym h) (renamed a _ refl refl refl refl (λ k x g. g) refl
    (λ g. record { by = λ name index l. g.by name index (listed_closed name index a.names l); own = library_closed a.names g.own }))
step_onward Struct a b h =
    subst (Onward a) (sym h.1) (renamed a _ refl refl refl refl (more_stays a.structs h.0) refl (λ g. record { by = g.by; own = g.own }))
step_onward (Names name) a b (inl h) = subst (Onward a) (sym h) (onward_here a)
step_onward (Names name) a b (inr h) = subst (Onward a) (sym h) (record {
  types = refl;
  offsets = refl;
  calls = refl;
  functions = more_stays a.functions name;
  structs = λ k x g. g;
  latest = omega arith;
  named = λ g. record { by = naming_onward name a g; own = g.own };
})
step_onward Defines a b h = subst (Onward a) (sym h.1) (renamed a _ refl refl refl refl (λ k x g. g) refl (λ g. record { by = g.by; own = g.own }))

pub path_onward : (es : List Event) (a b : View) → Path es a b → Onward a b
path_onward [] a b h = subst (Onward a) (sym h) (onward_here a)
path_onward (event ∷ es) a b h = onward_then (step_onward event a h.0 h.1.0) (path_onward es h.0 b h.1.1)

-- the same is noted at the token
pub record Alike (k : ℕ) (a b : View) : Type 0 where
  pub types : note_at b.types k ≡ note_at a.types k
  pub offsets : note_at b.offsets k ≡ note_at a.offsets k
  pub calls : note_at b.calls k ≡ note_at a.calls k

alike_here : (k : ℕ) (a : View) → Alike k a a
alike_here k a = record { types = refl; offsets = refl; calls = refl }

alike_then : {k : ℕ} {a b c : View} → Alike k a b → Alike k b c → Alike k a c
alike_then h g = record { types = g.types ∙ h.types; offsets = g.offsets ∙ h.offsets; calls = g.calls ∙ h.calls }

typed_alike : (k token : ℕ) (t : TypeTree) (a : View) → (token ≡ k → ⊥) → Alike k a (typed token t a)
typed_alike k token t a h = record { types = noted_other a.types token k (Some t) h; offsets = refl; calls = refl }

called_alike : (k token : ℕ) (m : Option Meaning) (a b : View) → (token ≡ k → ⊥) → CalledAs token m a b → Alike k a b
called_alike k token (Some (meaning.Function index)) a b n h =
    subst (Alike k a) (sym h.1)
    (record { types = noted_other a.types token k (Some h.0) n; offsets = refl; calls = noted_other a.calls token k (Some index) n })
called_alike k token (Some (meaning.Library function)) a b n h = subst (Alike k a) (sym h.1) (typed_alike k token h.0 a n)
called_alike k token m a b n h = absurd h

notes_alike : (k : ℕ) (c : Construct) (token : ℕ) (a b : View) → (token ≡ k → ⊥) → Notes c token a b → Alike k a b
notes_alike k Other token a b n h = subst (Alike k a) (sym h.1) (typed_alike k token h.0 a n)
notes_alike k (Calls name) token a b n h = called_alike k token (meaning_of name a.names) a b n h
notes_alike k (Selects operand behind name) token a b n h =
    subst (Alike k a) (sym h.to) (record {
      types = noted_other a.types token k (Some h.member.ctype) n;
      offsets = noted_other a.offsets token k (Some h.member.offset) n;
      calls = refl;
    })

same_notes : (k : ℕ) (a b c : View) → b ≡ c → Alike k a c → Alike k a b
same_notes k a b c h g = subst (Alike k a) (sym h) g

value_none : (own k : ℕ) (c : Construct) (b : Bool) (es : List Event) → (if b then Some c else construct_at k es) ≡ None
    → (b ≡ false) × (construct_at k es ≡ None)
value_none own k c true es h = absurd (cc)
value_none own k c false es h = (refl, h)

-- where no expression has the token for its own, nothing is noted there
pub stays : (k : ℕ) (es : List Event) (a b : View) → construct_at k es ≡ None → Path es a b → Alike k a b
stays k [] a b h p = subst (Alike k a) (sym p) (alike_here k a)
stays k (Value own c ∷ es) a b h p =
    let g : ((own == k) ≡ false) × (construct_at k es ≡ None) = value_none own k c (own == k) es h in
    alike_then (notes_alike k c own a p.0 (not_number own k g.0) p.1.0) (stays k es p.0 b g.1 p.1.1)
stays k (Initialises token ∷ es) a b h p = alike_then (same_notes k a p.0 a p.1.0 (alike_here k a)) (stays k es p.0 b h p.1.1)
stays k (Variable token ∷ es) a b h p =
    alike_then (same_notes k a p.0 _ p.1.0.1 (record { types = refl; offsets = refl; calls = refl })) (stays k es p.0 b h p.1.1)
stays k (Opens ∷ es) a b h p =
    alike_then (same_notes k a p.0 _ p.1.0 (record { types = refl; offsets = refl; calls = refl })) (stays k es p.0 b h p.1.1)
stays k (Closes ∷ es) a b h p =
    alike_then (same_notes k a p.0 _ p.1.0 (record { types = refl; offsets = refl; calls = refl })) (stays k es p.0 b h p.1.1)
stays k (Struct ∷ es) a b h p =
    alike_then (same_notes k a p.0 _ p.1.0.1 (record { types = refl; offsets = refl; calls = refl })) (stays k es p.0 b h p.1.1)
stays k (Names name ∷ es) a b h p = alike_then (by p.1.0) (stays k es p.0 b h p.1.1)
  where
    by : Step (Names name) a p.0 → Alike k a p.0
    by (inl e) = same_notes k a p.0 a e (alike_here k a)
    by (inr e) = same_notes k a p.0 _ e (record { types = refl; offsets = refl; calls = refl })
stays k (Defines ∷ es) a b h p =
    alike_then (same_notes k a p.0 _ p.1.0.1 (record { types = refl; offsets = refl; calls = refl })) (stays k es p.0 b h p.1.1)

-- the expression with this own token, on the path
pub record Found (k : ℕ) (c : Construct) (es : List Event) (a b : View) : Type 0 where
  pub before : List Event
  pub after : List Event
  pub from : View
  pub to : View
  pub is : es ≡ before ++ Value k c ∷ after
  pub path : Path before a from
  pub notes : Notes c k from to
  pub rest : Path after to b

found_later : (k : ℕ) (c : Construct) (event : Event) (es : List Event) (a u b : View) → Step event a u → Found k c es u b → Found k c (event ∷ es) a b
found_later k c event es a u b s f = record {
  before = event ∷ f.before;
  after = f.after;
  from = f.from;
  to = f.to;
  is = ap (λ xs. event ∷ xs) f.is;
  path = (u, (s, f.path));
  notes = f.notes;
  rest = f.rest;
}

found_value : (k own : ℕ) (c d : Construct) (b : Bool) (es : List Event) (a z : View) → (own == k) ≡ b → (if b then Some d else construct_at k es) ≡ Some c
    → Path (Value own d ∷ es) a z → ((u : View) → construct_at k es ≡ Some c → Path es u z → Found k c es u z) → Found k c (Value own d ∷ es) a z
found_value k own c d true es a z e h p f =
    subst (λ x. Found k x (Value own d ∷ es) a z) (same_Some d c h)
    (subst (λ x. Found x d (Value own d ∷ es) a z) (same_number own k e) (record {
      before = [];
      after = es;
      from = a;
      to = p.0;
      is = refl;
      path = refl;
      notes = p.1.0;
      rest = p.1.1;
    }))
found_value k own c d false es a z e h p f = found_later k c (Value own d) es a p.0 z p.1.0 (f p.0 h p.1.1)

pub finds : (k : ℕ) (c : Construct) (es : List Event) (a b : View) → construct_at k es ≡ Some c → Path es a b → Found k c es a b
finds k c [] a b h p = absurd (cc)
finds k c (Value own d ∷ es) a b h p = found_value k own c d (own == k) es a b refl h p (λ u g q. finds k c es u b g q)
finds k c (Initialises token ∷ es) a b h p = found_later k c (Initialises token) es a p.0 b p.1.0 (finds k c es p.0 b h p.1.1)
finds k c (Variable token ∷ es) a b h p = found_later k c (Variable token) es a p.0 b p.1.0 (finds k c es p.0 b h p.1.1)
finds k c (Opens ∷ es) a b h p = found_later k c Opens es a p.0 b p.1.0 (finds k c es p.0 b h p.1.1)
finds k c (Closes ∷ es) a b h p = found_later k c Closes es a p.0 b p.1.0 (finds k c es p.0 b h p.1.1)
finds k c (Struct ∷ es) a b h p = found_later k c Struct es a p.0 b p.1.0 (finds k c es p.0 b h p.1.1)
finds k c (Names name ∷ es) a b h p = found_later k c (Names name) es a p.0 b p.1.0 (finds k c es p.0 b h p.1.1)
finds k c (Defines ∷ es) a b h p = found_later k c Defines es a p.0 b p.1.0 (finds k c es p.0 b h p.1.1)

-- each expression has its token for itself

pub none_at : (k : ℕ) (es : List Event) → (Among k es → ⊥) → construct_at k es ≡ None
none_at k [] h = refl
none_at k (Value own c ∷ es) h = by (own == k) refl (none_at k es (λ i. h (inr i)))
  where
    by : (b : Bool) → (own == k) ≡ b → construct_at k es ≡ None → (if b then Some c else construct_at k es) ≡ None
    by true e g = absurd (h (inl (sym (same_number own k e))))
    by false e g = g
none_at k (Initialises token ∷ es) h = none_at k es (λ i. h (inr i))
none_at k (Variable token ∷ es) h = none_at k es (λ i. h (inr i))
none_at k (Opens ∷ es) h = none_at k es (λ i. h (inr i))
none_at k (Closes ∷ es) h = none_at k es (λ i. h (inr i))
none_at k (Struct ∷ es) h = none_at k es (λ i. h (inr i))
none_at k (Names name ∷ es) h = none_at k es (λ i. h (inr i))
none_at k (Defines ∷ es) h = none_at k es (λ i. h (inr i))

pub some_at : (k : ℕ) (c : Construct) (es : List Event) → construct_at k es ≡ Some c → Among k es
some_at k c [] h = absurd (cc)
some_at k c (Value own d ∷ es) h = by (own == k) refl h (λ g. some_at k c es g)
  where
    by : (b : Bool) → (own == k) ≡ b → (if b then Some d else construct_at k es) ≡ Some c → (construct_at k es ≡ Some c → Among k es)
        → (k ≡ own) ⊎ Among k es
    by true e g f = inl (sym (same_number own k e))
    by false e g f = inr (f g)
some_at k c (Initialises token ∷ es) h = inr (some_at k c es h)
some_at k c (Variable token ∷ es) h = inr (some_at k c es h)
some_at k c (Opens ∷ es) h = inr (some_at k c es h)
some_at k c (Closes ∷ es) h = inr (some_at k c es h)
some_at k c (Struct ∷ es) h = inr (some_at k c es h)
some_at k c (Names name ∷ es) h = inr (some_at k c es h)
some_at k c (Defines ∷ es) h = inr (some_at k c es h)

pub once_apart : (k : ℕ) (xs ys : List Event) → Once (xs ++ ys) → Among k xs → Among k ys → ⊥
once_apart k [] ys h i j = i
once_apart k (x ∷ xs) ys h (inl i) j = h.0 k i (among_right k xs ys j)
once_apart k (x ∷ xs) ys h (inr i) j = once_apart k xs ys h.1 i j

once_second : (xs ys : List Event) → Once (xs ++ ys) → Once ys
once_second [] ys h = h
once_second (x ∷ xs) ys h = once_second xs ys h.1

-- neither before nor behind it anything is noted at its token
pub alone_before : {k : ℕ} {c : Construct} {es : List Event} {a b : View} (f : Found k c es a b) → Once es → construct_at k f.before ≡ None
alone_before {k = k} {c = c} f h =
    none_at k f.before (λ i. once_apart k f.before (Value k c ∷ f.after) (subst Once f.is h) i (inl refl))

pub alone_after : {k : ℕ} {c : Construct} {es : List Event} {a b : View} (f : Found k c es a b) → Once es → construct_at k f.after ≡ None
alone_after {k = k} {c = c} f h =
    none_at k f.after (λ i. (once_second f.before (Value k c ∷ f.after) (subst Once f.is h)).0 k refl i)

-- what stands before it is not noted anew
pub apart_after : {k : ℕ} {c : Construct} {es : List Event} {a b : View} (f : Found k c es a b) → Once es → (j : ℕ) → Among j f.before
    → construct_at j (Value k c ∷ f.after) ≡ None
apart_after {k = k} {c = c} f h j i =
    none_at j (Value k c ∷ f.after) (λ l. once_apart j f.before (Value k c ∷ f.after) (subst Once f.is h) i l)

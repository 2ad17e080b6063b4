-- The walk as a path: what it notes at each event, from what is known before to what is known behind it.
use Rattle.std.proofs.Common.{◌⊎◌, ◌≡◌, ℕ, ◌≤◌, ◌<◌, max, Bool, true, false, if◌then◌else◌, List, [], ◌∷◌, ◌++◌, length, map, Option, Some, None, Ok, refl, sym, subst, arith}
use Rattle.std.proofs.Math.Nat.{le-max_right}
use Rattle.std.proofs.lemmas.List.{append-nil, length-map, map-append}
use Rattle.std.specs.Prelude.{Result}
use Rattle.c_types.proofs.Replaced.{noted_same}
use Rattle.c_types_rules.specs.declared.fault.FaultKind.{FaultKind}
use Rattle.c_types_rules.specs.declared.layout.Member.{Member}
use Rattle.c_types_rules.specs.declared.layout.StructType.{StructType}
use Rattle.c_types_rules.specs.Words.{TypeTree, decayed_type, member_behind, member_of}
use Rattle.c_types.specs.Answers.{note_at}
use Rattle.c_types_expressions.specs.declared.names.Meaning.{Meaning}
use Rattle.c_types_expressions.specs.declared.names.Meaning.TheVariants as meaning
use Rattle.c_types_expressions.specs.declared.names.ScopeEntry.{ScopeEntry}
use Rattle.c_types_expressions.specs.declared.names.ScopeEntry.TheVariants as entry
use Rattle.c_types_expressions.specs.declared.walk.FunctionEntry.{FunctionEntry}
use Rattle.c_types_expressions.specs.declared.walk.Walk.{Walk}
use Rattle.c_types_expressions.specs.Words.{names_after_scope, meaning_of, Walked, ◌>>=◌, ended_scopes, item_replaced, with_variable}
use Rattle.c_types.proofs.Noted.{Gives, gives_more, gives_then, length_replaced}
use Rattle.c_types.specs.Numbers.{function_of}
use Rattle.c_types_faults.specs.Events.{Construct, Calls, Selects, Other, Event, Value, Initialises, Variable, Opens, Closes, Struct, Names, Defines}
use Rattle.c_types_faults.specs.Scopes.{start_of}

-- what is known, apart from what no law here asks for; of variables the tokens of their names, of functions the names
pub record View : Type 0 where
  pub names : List ScopeEntry
  pub structs : List StructType
  pub starts : List ℕ
  pub ends : List (Option ℕ)
  pub functions : List (List ℕ)
  pub definitions : List ℕ
  pub latest : ℕ
  pub types : List (Option TypeTree)
  pub offsets : List (Option ℕ)
  pub calls : List (Option ℕ)

abbrev pub called_name : FunctionEntry → List ℕ
called_name f = f.name

abbrev pub view : Walk → View
view w = record {
  names = w.names;
  structs = w.structs;
  starts = map start_of w.variables;
  ends = w.ends;
  functions = map called_name w.functions;
  definitions = map function_of w.definitions;
  latest = w.latest;
  types = w.types;
  offsets = w.offsets_at;
  calls = w.functions_at;
}

-- the steps

abbrev pub typed : ℕ → TypeTree → View → View
typed token t a = record a { types = item_replaced a.types token (Some t); latest = max a.latest token }

abbrev pub calling : ℕ → ℕ → View → View
calling token index a = record a { calls = item_replaced a.calls token (Some index) }

abbrev pub selecting : ℕ → ℕ → View → View
selecting token offset a = record a { offsets = item_replaced a.offsets token (Some offset) }

abbrev pub declared : List ℕ → ℕ → View → View
declared name token a = record a {
  names = entry.Declares name (meaning.Variable (length a.starts)) ∷ a.names;
  starts = a.starts ++ token ∷ [];
  ends = a.ends ++ None ∷ [];
}

abbrev pub opening : View → View
opening a = record a { names = entry.Opens ∷ a.names }

abbrev pub closing : View → View
closing a = record a { names = names_after_scope a.names; ends = ended_scopes a.latest a.names a.ends }

abbrev pub with_struct : StructType → View → View
with_struct s a = record a { structs = a.structs ++ s ∷ [] }

abbrev pub naming : List ℕ → View → View
naming name a = record a {
  names = entry.Declares name (meaning.Function (length a.functions)) ∷ a.names;
  functions = a.functions ++ name ∷ [];
}

abbrev pub defining : ℕ → View → View
defining index a = record a { definitions = a.definitions ++ index ∷ [] }

-- the type is noted at the token, if there is such a token
pub record Holds (token : ℕ) (t : TypeTree) (a : View) : Type 0 where
  pub by : token < length a.types → note_at a.types token ≡ Some t
  pub reached : token ≤ a.latest

-- a member by `.` or by `->`
abbrev pub member_by : Bool → List StructType → List ℕ → TypeTree → Result Member FaultKind
member_by false structs name t = member_of structs name t
member_by true structs name t = member_behind structs name (decayed_type t)

abbrev pub CalledAs : ℕ → Option Meaning → View → View → Type 0
CalledAs token (Some (meaning.Function index)) a b = (t : TypeTree) × (b ≡ typed token t (calling token index a))
CalledAs token (Some (meaning.Library function)) a b = (t : TypeTree) × (b ≡ typed token t a)
CalledAs token m a b = ⊥

pub record Selected (token operand : ℕ) (behind : Bool) (name : List ℕ) (a b : View) : Type 0 where
  pub of : TypeTree
  pub member : Member
  pub holds : Holds operand of a
  pub is : member_by behind a.structs name of ≡ Ok member
  pub to : b ≡ typed token member.ctype (selecting token member.offset a)

abbrev pub Notes : Construct → ℕ → View → View → Type 0
Notes Other token a b = (t : TypeTree) × (b ≡ typed token t a)
Notes (Calls name) token a b = CalledAs token (meaning_of name a.names) a b
Notes (Selects operand behind name) token a b = Selected token operand behind name a b

abbrev pub Step : Event → View → View → Type 0
Step (Value token construct) a b = Notes construct token a b
Step (Initialises token) a b = b ≡ a
Step (Variable token) a b = (name : List ℕ) × (b ≡ declared name token a)
Step Opens a b = b ≡ opening a
Step Closes a b = b ≡ closing a
Step Struct a b = (s : StructType) × (b ≡ with_struct s a)
Step (Names name) a b = (b ≡ a) ⊎ (b ≡ naming name a)
Step Defines a b = (index : ℕ) × (b ≡ defining index a)

abbrev pub Path : List Event → View → View → Type 0
Path [] a b = b ≡ a
Path (event ∷ events) a c = (b : View) × (Step event a b × Path events b c)

pub path_one : (event : Event) (a b : View) → Step event a b → Path (event ∷ []) a b
path_one event a b h = (b, (h, refl))

pub path_then : (xs ys : List Event) (a b c : View) → Path xs a b → Path ys b c → Path (xs ++ ys) a c
path_then [] ys a b c h k = subst (λ v. Path ys v c) h k
path_then (x ∷ xs) ys a b c h k = (h.0, (h.1.0, path_then xs ys h.0 b c h.1.1 k))

pub path_parts : (xs ys : List Event) (a c : View) → Path (xs ++ ys) a c → (b : View) × (Path xs a b × Path ys b c)
path_parts [] ys a c h = (a, (refl, h))
path_parts (x ∷ xs) ys a c h =
    let k : (b : View) × (Path xs h.0 b × Path ys b c) = path_parts xs ys h.0 c h.1.1 in (k.0, ((h.0, (h.1.0, k.1.0)), k.1.1))

pub holds_here : (token : ℕ) (t : TypeTree) (a : View) → Holds token t (typed token t a)
holds_here token t a = record {
  by = λ h. noted_same a.types token t (omega (arith, h, length_replaced a.types token (Some t)));
  reached = le-max_right a.latest token;
}

-- a variable is declared
declared_by : (n : ℕ) (starts more : List ℕ) (name : List ℕ) (token : ℕ) (a : View) → n ≡ length a.starts → more ≡ a.starts ++ token ∷ []
    → record a { names = entry.Declares name (meaning.Variable n) ∷ a.names; starts = more; ends = a.ends ++ None ∷ [] } ≡ declared name token a
declared_by n starts more name token a h k = rw h (rw k refl)

pub variable_step : (global : Bool) (token : ℕ) (name : List ℕ) (t : TypeTree) (w : Walk)
    → Step (Variable token) (view w) (view (with_variable global token name t w))
variable_step true token name t w = (name, declared_by (length w.variables) [] _ name token (view w) (sym (length-map w.variables start_of)) (map-append start_of w.variables _))
variable_step false token name t w = (name, declared_by (length w.variables) [] _ name token (view w) (sym (length-map w.variables start_of)) (map-append start_of w.variables _))

-- where the walk goes on, it has gone this path, and this holds of its value
abbrev pub Goes : {A : Type 0} → (A → View → Type 0) → List Event → View → Walked A → Type 0
Goes P events a r = Gives (λ x v. Path events a (view v) × P x (view v)) r

abbrev pub Anyhow : {A : Type 0} → A → View → Type 0
Anyhow x a = Unit {0}

pub goes_then : {A B : Type 0} (P : A → View → Type 0) (Q : B → View → Type 0) (xs ys : List Event) (a : View) (r : Walked A) (next : A → Walk → Walked B)
    → Goes P xs a r → ((x : A) (v : Walk) → P x (view v) → Goes Q ys (view v) (next x v)) → Goes Q (xs ++ ys) a (r >>= next)
goes_then P Q xs ys a r next h k =
    gives_then (λ x v. Path xs a (view v) × P x (view v)) (λ y u. Path (xs ++ ys) a (view u) × Q y (view u)) r next h (λ x v g.
    gives_more (λ y u. Path ys (view v) (view u) × Q y (view u)) (λ y u. Path (xs ++ ys) a (view u) × Q y (view u)) (next x v)
    (λ y u f. (path_then xs ys a (view v) (view u) g.0 f.0, f.1)) (k x v g.1))

-- a step that notes nothing, and one after it
pub then_on : {A B : Type 0} (P : A → View → Type 0) (Q : B → View → Type 0) (ys : List Event) (a : View) (r : Walked A) (next : A → Walk → Walked B)
    → Goes P [] a r → ((x : A) (v : Walk) → P x (view v) → Goes Q ys (view v) (next x v)) → Goes Q ys a (r >>= next)
then_on P Q ys a r next h k = goes_then P Q [] ys a r next h k

-- a step, and one after it that notes nothing
pub and_done : {A B : Type 0} (P : A → View → Type 0) (Q : B → View → Type 0) (xs : List Event) (a : View) (r : Walked A) (next : A → Walk → Walked B)
    → Goes P xs a r → ((x : A) (v : Walk) → P x (view v) → Goes Q [] (view v) (next x v)) → Goes Q xs a (r >>= next)
and_done P Q xs a r next h k = subst (λ es. Goes Q es a (r >>= next)) (append-nil xs) (goes_then P Q xs [] a r next h k)

-- one event, and what comes behind it
pub event_then : {B : Type 0} (Q : B → View → Type 0) (event : Event) (ys : List Event) (a b : View) (r : Walked B) → Step event a b → Goes Q ys b r
    → Goes Q (event ∷ ys) a r
event_then Q event ys a b r h k =
    gives_more (λ y u. Path ys b (view u) × Q y (view u)) (λ y u. Path (event ∷ ys) a (view u) × Q y (view u)) r (λ y u f. ((b, (h, f.0)), f.1)) k

pub either : {A : Type 0} (P : A → View → Type 0) (es : List Event) (a : View) (b : Bool) (r q : Walked A) → Goes P es a r → Goes P es a q
    → Goes P es a (if b then r else q)
either P es a true r q h k = h
either P es a false r q h k = k

pub goes_same : {A : Type 0} (P : A → View → Type 0) (xs ys : List Event) (a : View) (r : Walked A) → xs ≡ ys → Goes P xs a r → Goes P ys a r
goes_same P xs ys a r h k = subst (λ es. Goes P es a r) h k

-- What the walk notes of each part of a text.
use Rattle.std.proofs.Common.{◌≡◌, ℕ, ◌+◌, ◌<◌, nat_lt, Bool, true, false, if◌then◌else◌, List, [], ◌∷◌, ◌++◌, length, map, Option, Some, None, is_some, slice_get, slice_set, get_or, refl, sym, ap, ◌∙◌, subst, ⊎_elim, arith, length-append}
use Rattle.std.proofs.lemmas.Bool.{cases_eq, ltb-true}
use Rattle.std.proofs.lemmas.List.{get_or-set_other, get_or-set_same, length-map, length-set, map-set}
use Rattle.std.proofs.lemmas.Option.{slice_get_within, same_Some}
use Rattle.c_types_rules.specs.declared.layout.StructType.{StructType}
use Rattle.c_types_rules.specs.TypeTree.{TypeTree}
use Rattle.c_types_expressions.specs.declared.walk.Definition.{Definition}
use Rattle.c_types_expressions.specs.declared.walk.FunctionEntry.{FunctionEntry}
use Rattle.c_types_expressions.specs.declared.walk.Variable.TheVariants as variable
use Rattle.c_types_expressions.specs.declared.walk.VariableEntry.{VariableEntry}
use Rattle.c_types_expressions.specs.declared.walk.Walk.{Walk}
use Rattle.c_types.specs.Parts.{Part, Expression, Use, Declared, Begins}
use Rattle.c_types_expressions.specs.Words.{Walked, Fine, Faulty, ◌>>=◌, item_replaced, with_type, with_variable, with_use}
pub use Rattle.c_types_expressions.proofs.Giving.{Gives, gives_more, gives_then}

-- what the walk has noted: at which tokens a type and a variable, the variables, how many are numbered, and the structs
pub record Seen : Type 0 where
  pub typed : List Bool
  pub named : List Bool
  pub variables : List VariableEntry
  pub globals : ℕ
  pub locals : ℕ
  pub structs : List StructType

abbrev pub seen : Walk → Seen
seen w = record {
  typed = map is_some w.types;
  named = map is_some w.variables_at;
  variables = w.variables;
  globals = w.globals;
  locals = w.locals;
  structs = w.structs;
}

-- what is noted of a part
abbrev pub noting : Part → Seen → Seen
noting (Expression token) s = record s { typed = item_replaced s.typed token true }
noting (Use token) s = record s { named = item_replaced s.named token true }
noting (Declared true token name) s = record s {
  named = item_replaced s.named token true;
  variables = s.variables ++ record { name = name; variable = variable.Global s.globals; from = token } ∷ [];
  globals = s.globals + 1;
}
noting (Declared false token name) s = record s {
  named = item_replaced s.named token true;
  variables = s.variables ++ record { name = name; variable = variable.Local s.locals; from = token } ∷ [];
  locals = s.locals + 1;
}
noting Begins s = record s { locals = 0 }

abbrev pub noting_all : List Part → Seen → Seen
noting_all [] s = s
noting_all (p ∷ ps) s = noting_all ps (noting p s)

pub noting_both : (ps qs : List Part) (s : Seen) → noting_all (ps ++ qs) s ≡ noting_all qs (noting_all ps s)
noting_both [] qs s = refl
noting_both (p ∷ ps) qs s = noting_both ps qs (noting p s)

-- the notes of variables are of variables that there are, and each of these has its type
abbrev pub Fit : ℕ → List (Option ℕ) → Type 0
Fit count notes = (k place : ℕ) → get_or notes k None ≡ Some place → place < count

abbrev pub Fits : Walk → Type 0
Fits w = (length w.declared_types ≡ length w.variables) × Fit (length w.variables) w.variables_at

-- the functions that were declared, and which of them are defined
pub record Functions : Type 0 where
  pub entries : List FunctionEntry
  pub numbers : List (Option ℕ)
  pub definitions : List Definition

abbrev pub functions_of : Walk → Functions
functions_of w = record { entries = w.functions; numbers = w.defined_as; definitions = w.definitions }

-- a point of the walk: what it has noted, what has to hold of that, and the functions
pub record Stage : Type 1 where
  pub shown : Seen
  pub holds : Type 0
  pub functions : Functions

abbrev pub stage : Walk → Stage
stage w = record { shown = seen w; holds = Fits w; functions = functions_of w }

-- the parts are noted between two points, in one item
abbrev pub Step : List Part → Stage → Stage → Type 0
Step ps s t = (t.shown ≡ noting_all ps s.shown) × (s.holds → t.holds) × (t.functions ≡ s.functions)

pub step_then : (ps qs : List Part) (s t u : Stage) → Step ps s t → Step qs t u → Step (ps ++ qs) s u
step_then ps qs s t u h k = (k.0 ∙ ap (noting_all qs) h.0 ∙ sym (noting_both ps qs s.shown), (λ f. k.1 (h.1 f)), k.2 ∙ h.2)

pub step_done : (ps : List Part) (s t u : Stage) → Step ps s t → Step [] t u → Step ps s u
step_done ps s t u h k = (k.0 ∙ h.0, (λ f. k.1 (h.1 f)), k.2 ∙ h.2)

-- where the walk goes on, it has noted the parts
abbrev pub Notes : {A : Type 0} → List Part → Stage → Walked A → Type 0
Notes ps s r = Gives (λ x v. Step ps s (stage v)) r

-- parts that are noted behind others
pub behind : {A : Type 0} (ps qs : List Part) (s t : Stage) (r : Walked A) → Step ps s t → Notes qs t r → Notes (ps ++ qs) s r
behind ps qs s t (Fine x v) h k = step_then ps qs s t (stage v) h k
behind ps qs s t (Faulty kind token) h k = tt

-- no parts behind others
pub none_behind : {A : Type 0} (ps : List Part) (s t : Stage) (r : Walked A) → Step ps s t → Notes [] t r → Notes ps s r
none_behind ps s t (Fine x v) h k = step_done ps s t (stage v) h k
none_behind ps s t (Faulty kind token) h k = tt

-- one step after another
pub both : {A B : Type 0} (ps qs : List Part) (s : Stage) (r : Walked A) (next : A → Walk → Walked B) → Notes ps s r →
    ((x : A) (v : Walk) → Notes qs (stage v) (next x v)) → Notes (ps ++ qs) s (r >>= next)
both ps qs s (Fine x v) next h k = behind ps qs s (stage v) (next x v) h (k x v)
both ps qs s (Faulty kind token) next h k = tt

-- a step that notes nothing, and one after it
pub then_on : {A B : Type 0} (qs : List Part) (s : Stage) (r : Walked A) (next : A → Walk → Walked B) → Notes [] s r →
    ((x : A) (v : Walk) → Notes qs (stage v) (next x v)) → Notes qs s (r >>= next)
then_on qs s r next h k = both [] qs s r next h k

-- a step, and one after it that notes nothing
pub and_done : {A B : Type 0} (ps : List Part) (s : Stage) (r : Walked A) (next : A → Walk → Walked B) → Notes ps s r →
    ((x : A) (v : Walk) → Notes [] (stage v) (next x v)) → Notes ps s (r >>= next)
and_done ps s (Fine x v) next h k = none_behind ps s (stage v) (next x v) h (k x v)
and_done ps s (Faulty kind token) next h k = tt

pub either : {A : Type 0} (ps : List Part) (s : Stage) (b : Bool) (r q : Walked A) → Notes ps s r → Notes ps s q → Notes ps s (if b then r else q)
either ps s true r q h k = h
either ps s false r q h k = k

-- the steps that note something

map_if : {A B : Type 0} (f : A → B) (b : Bool) (xs ys : List A) → map f (if b then xs else ys) ≡ (if b then map f xs else map f ys)
map_if f true xs ys = refl
map_if f false xs ys = refl

map_replaced : {A B : Type 0} (f : A → B) (xs : List A) (i : ℕ) (x : A) → map f (item_replaced xs i x) ≡ item_replaced (map f xs) i (f x)
map_replaced f xs i x =
    map_if f (nat_lt i (length xs)) (slice_set xs i x) xs
    ∙ ap (λ ys. if nat_lt i (length xs) then ys else map f xs) (map-set f xs i x)
    ∙ ap (λ n. if nat_lt i n then slice_set (map f xs) i (f x) else map f xs) (sym (length-map xs f))

pub length_if : {A : Type 0} (b : Bool) (xs ys : List A) → length xs ≡ length ys → length (if b then xs else ys) ≡ length ys
length_if true xs ys h = h
length_if false xs ys h = refl

pub length_replaced : {A : Type 0} (xs : List A) (i : ℕ) (x : A) → length (item_replaced xs i x) ≡ length xs
length_replaced xs i x = length_if (nat_lt i (length xs)) (slice_set xs i x) xs (length-set xs i x)

fit_if : (b : Bool) (count : ℕ) (notes : List (Option ℕ)) (i at : ℕ) → (b ≡ true → i < length notes) → at < count → Fit count notes →
    Fit count (if b then slice_set notes i (Some at) else notes)
fit_if false count notes i at within less fit = fit
fit_if true count notes i at within less fit = λ k place is.
    ⊎_elim
    (λ same. subst (λ n. n < count) (same_Some at place (sym (get_or-set_same notes i (Some at) None (within refl)) ∙ ap (λ j. get_or (slice_set notes i (Some at)) j None) (sym same) ∙ is)) less)
    (λ other. fit k place (sym (get_or-set_other notes i k (Some at) None other) ∙ is))
    (cases_eq k i)

fit_replaced : (count : ℕ) (notes : List (Option ℕ)) (i at : ℕ) → at < count → Fit count notes → Fit count (item_replaced notes i (Some at))
fit_replaced count notes i at less fit = fit_if (nat_lt i (length notes)) count notes i at (ltb-true i (length notes)) less fit

pub typed_one : (token : ℕ) (t : TypeTree) (w : Walk) → Step (Expression token ∷ []) (stage w) (stage (with_type token t w))
typed_one token t w = (ap (λ ts. record (seen w) { typed = ts }) (map_replaced is_some w.types token (Some t)), (λ h. h), refl)

pub use_one : (token index : ℕ) (t : TypeTree) (w : Walk) → slice_get w.declared_types index ≡ Some t → Step (Use token ∷ []) (stage w) (stage (with_use token index w))
use_one token index t w is = (
  ap (λ ns. record (seen w) { named = ns }) (map_replaced is_some w.variables_at token (Some index)),
  (λ h. (h.0, fit_replaced (length w.variables) w.variables_at token index (subst (λ n. index < n) h.0 (slice_get_within w.declared_types index t is)) h.1)),
  refl,
)

fits_more : (token : ℕ) (t : TypeTree) (v : VariableEntry) (w : Walk) → Fits w →
    (length (w.declared_types ++ t ∷ []) ≡ length (w.variables ++ v ∷ [])) ×
    Fit (length (w.variables ++ v ∷ [])) (item_replaced w.variables_at token (Some (length w.variables)))
fits_more token t v w h =
    let more : length w.variables < length (w.variables ++ v ∷ []) = omega (arith, length-append w.variables (v ∷ [])) in (
      omega (arith, h.0, length-append w.declared_types (t ∷ []), length-append w.variables (v ∷ [])),
      fit_replaced (length (w.variables ++ v ∷ [])) w.variables_at token (length w.variables) more
          (λ k place is. omega (arith, h.1 k place is, more)),
    )

pub declared_one : (global : Bool) (token : ℕ) (name : List ℕ) (t : TypeTree) (w : Walk) →
    Step (Declared global token name ∷ []) (stage w) (stage (with_variable global token name t w))
declared_one true token name t w = (
  ap (λ ns. record (noting (Declared true token name) (seen w)) { named = ns }) (map_replaced is_some w.variables_at token (Some (length w.variables))),
  fits_more token t (record { name = name; variable = variable.Global w.globals; from = token }) w,
  refl,
)
declared_one false token name t w = (
  ap (λ ns. record (noting (Declared false token name) (seen w)) { named = ns }) (map_replaced is_some w.variables_at token (Some (length w.variables))),
  fits_more token t (record { name = name; variable = variable.Local w.locals; from = token }) w,
  refl,
)

-- structs aside: no part of a text but a struct changes those

abbrev pub plainly : Seen → Seen
plainly s = record s { structs = [] }

pub plainly_all : (ps : List Part) (s : Seen) → plainly (noting_all ps s) ≡ noting_all ps (plainly s)
plainly_all [] s = refl
plainly_all (Expression token ∷ ps) s = plainly_all ps (noting (Expression token) s)
plainly_all (Use token ∷ ps) s = plainly_all ps (noting (Use token) s)
plainly_all (Declared true token name ∷ ps) s = plainly_all ps (noting (Declared true token name) s)
plainly_all (Declared false token name ∷ ps) s = plainly_all ps (noting (Declared false token name) s)
plainly_all (Begins ∷ ps) s = plainly_all ps (noting Begins s)

pub structs_stay : (ps : List Part) (s : Seen) → (noting_all ps s).structs ≡ s.structs
structs_stay [] s = refl
structs_stay (Expression token ∷ ps) s = structs_stay ps (noting (Expression token) s)
structs_stay (Use token ∷ ps) s = structs_stay ps (noting (Use token) s)
structs_stay (Declared true token name ∷ ps) s = structs_stay ps (noting (Declared true token name) s)
structs_stay (Declared false token name ∷ ps) s = structs_stay ps (noting (Declared false token name) s)
structs_stay (Begins ∷ ps) s = structs_stay ps (noting Begins s)

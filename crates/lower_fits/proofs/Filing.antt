-- The names of a text outside of its functions: each function that is declared has a name of its own.
use Rattle.std.proofs.Common.{◌⊎◌, inl, inr, ◌≡◌, ℕ, zero, suc, refl, ap, subst, sym, ◌∙◌, Bool, true, false, List, [], ◌∷◌, ◌++◌, Some, None, length}
use Rattle.std.specs.Prelude.{Option, slice_get, ◌&&◌, ◌||◌, if◌then◌else◌}
use Rattle.std.specs.Str.{bytes_eq}
use Rattle.std.proofs.lemmas.Bool.{or_parts, true≢false}
use Rattle.std.proofs.lemmas.Option.{same_Some}
use Rattle.base_lists.proofs.Tests.{left_false}
use Rattle.base_lists.proofs.Lists.{next_is, same_bytes}
use Rattle.c_syntax.specs.StatementTree.{DeclarationTree, StartTree}
use Rattle.c_types_rules.specs.declared.function.FunctionType.{FunctionType}
use Rattle.c_types_rules.specs.TypeTree.{TypeTree}
use Rattle.c_types_expressions.specs.declared.names.Meaning.{Meaning}
use Rattle.c_types_expressions.specs.declared.names.Meaning.TheVariants as meaning
use Rattle.c_types_expressions.specs.declared.names.ScopeEntry.{ScopeEntry}
use Rattle.c_types_expressions.specs.declared.names.ScopeEntry.TheVariants.{Opens, Declares}
use Rattle.c_types_expressions.specs.declared.walk.FunctionEntry.{FunctionEntry}
use Rattle.c_types_expressions.specs.declared.walk.Walk.{Walk}
use Rattle.c_types_expressions.specs.Words.{base_type, declared_meaning, is_here, is_reserved, or_before}
use Rattle.c_types_walk.specs.ItemWalk.{is_clashing_name, with_function}
use Rattle.c_types_walk.specs.StatementWalk.{walk_declaration, walk_start, walk_starts}
use Rattle.c_types.proofs.Hiding.{hides}
use Rattle.c_types_expressions.proofs.Kept.{base_keeps}
use Rattle.c_types.proofs.Noted.{Gives, gives_then}
use Rattle.c_meaning_sound.proofs.Reaching.{stays_more}
use Rattle.lower_fits.proofs.Laying.{Long, Starts, one_lays, start_adds}
use Rattle.lower_fits.proofs.Leaving.{Leaves, leaves_kept}

-- no scope has begun
abbrev pub AreOuter : List ScopeEntry → Type 0
AreOuter [] = Unit {0}
AreOuter (Opens ∷ rest) = ⊥
AreOuter (Declares name m ∷ rest) = AreOuter rest

-- the function with this number among those that are declared, and its name
pub record IsFunctionNamed (functions : List FunctionEntry) (name : List ℕ) (index : ℕ) : Type 0 where
  pub own : FunctionEntry
  pub here : slice_get functions index ≡ Some own
  pub named : own.name ≡ name

-- Outside of functions exactly the names of the functions mean functions, each its own.
pub record InFile (functions : List FunctionEntry) (names : List ScopeEntry) : Type 0 where
  pub outer : AreOuter names
  pub found_as : (index : ℕ) (g : FunctionEntry) → slice_get functions index ≡ Some g → declared_meaning g.name names ≡ Some (meaning.Function index)
  pub means : (name : List ℕ) (index : ℕ) → declared_meaning name names ≡ Some (meaning.Function index) → IsFunctionNamed functions name index

-- what means something was declared here, or before
here_by : (b c : Bool) (m : Option Meaning) (k o : Meaning) → (m ≡ Some o → c ≡ true) → or_before (if b then Some k else None) m ≡ Some o → (b || c) ≡ true
here_by true c m k o h e = refl
here_by false c m k o h e = h e

-- outside of functions, what a name means was declared in the present scope
found_here : (name : List ℕ) (names : List ScopeEntry) (o : Meaning) → AreOuter names → declared_meaning name names ≡ Some o → is_here name names ≡ true
found_here name [] o h e = absurd (cc)
found_here name (Opens ∷ rest) o h e = absurd h
found_here name (Declares other k ∷ rest) o h e =
    here_by (bytes_eq other name) (is_here name rest) (declared_meaning name rest) k o (found_here name rest o h) e

-- what a name meant stays where the new one is another
kept_by : (b : Bool) (k : Meaning) (m : Option Meaning) (o : Meaning) → (b ≡ true → ⊥) → m ≡ Some o → or_before (if b then Some k else None) m ≡ Some o
kept_by true k m o h e = absurd (h refl)
kept_by false k m o h e = e

-- where a new name is declared, the others mean what they meant
found_still : (name other : List ℕ) (k o : Meaning) (names : List ScopeEntry) → AreOuter names → is_here name names ≡ false → declared_meaning other names ≡ Some o
    → declared_meaning other (Declares name k ∷ names) ≡ Some o
found_still name other k o names h new e = kept_by (bytes_eq name other) k (declared_meaning other names) o
    (λ same. true≢false (sym (found_here other names o h e) ∙ ap (λ n. is_here n names) (sym (same_bytes name other same)) ∙ new)) e

-- the new name is this one, or this one meant the same before
before_by : (name other : List ℕ) (b : Bool) (k : Meaning) (m : Option Meaning) (o : Meaning) → (b ≡ true → name ≡ other)
    → or_before (if b then Some k else None) m ≡ Some o → ((name ≡ other) × (k ≡ o)) ⊎ (m ≡ Some o)
before_by name other true k m o h e = inl (h refl, same_Some k o e)
before_by name other false k m o h e = inr e

-- a name means what it was declared as, or what it meant before
found_before : (name other : List ℕ) (k o : Meaning) (names : List ScopeEntry) → declared_meaning other (Declares name k ∷ names) ≡ Some o
    → ((name ≡ other) × (k ≡ o)) ⊎ (declared_meaning other names ≡ Some o)
found_before name other k o names e = before_by name other (bytes_eq name other) k (declared_meaning other names) o (same_bytes name other) e

-- a global
variable_file : (functions : List FunctionEntry) (names : List ScopeEntry) (name : List ℕ) (k : ℕ) → InFile functions names → is_here name names ≡ false
    → InFile functions (Declares name (meaning.Variable k) ∷ names)
variable_file functions names name k f new = record {
  outer = f.outer;
  found_as = λ index g e. found_still name g.name (meaning.Variable k) (meaning.Function index) names f.outer new (f.found_as index g e);
  means = λ other index e. old other index (found_before name other (meaning.Variable k) (meaning.Function index) names e);
}
  where
    old : (other : List ℕ) (index : ℕ) → ((name ≡ other) × (meaning.Variable k ≡ meaning.Function index)) ⊎ (declared_meaning other names ≡ Some (meaning.Function index))
        → IsFunctionNamed functions other index
    old other index (inl p) = absurd (cc)
    old other index (inr e) = f.means other index e

-- an item of a list that has one more is one of the list, or the last
last_or : {A : Type 0} (xs : List A) (y x : A) (i : ℕ) → slice_get (xs ++ y ∷ []) i ≡ Some x → (slice_get xs i ≡ Some x) ⊎ ((i ≡ length xs) × (y ≡ x))
last_or [] y x zero h = inr (refl, same_Some y x h)
last_or [] y x (suc i) h = absurd (cc)
last_or (a ∷ xs) y x zero h = inl h
last_or (a ∷ xs) y x (suc i) h = next (last_or xs y x i h)
  where
    next : (slice_get xs i ≡ Some x) ⊎ ((i ≡ length xs) × (y ≡ x)) → (slice_get xs i ≡ Some x) ⊎ ((suc i ≡ suc (length xs)) × (y ≡ x))
    next (inl e) = inl e
    next (inr p) = inr (ap suc p.0, p.1)

-- a function that wasn't declared before
entry_file : (functions : List FunctionEntry) (names : List ScopeEntry) (g : FunctionEntry) → InFile functions names → is_here g.name names ≡ false
    → InFile (functions ++ g ∷ []) (Declares g.name (meaning.Function (length functions)) ∷ names)
entry_file functions names g f new = record {
  outer = f.outer;
  found_as = λ index h e. each index h (last_or functions g h index e);
  means = λ other index e. back other index (found_before g.name other (meaning.Function (length functions)) (meaning.Function index) names e);
}
  where
    each : (index : ℕ) (h : FunctionEntry) → (slice_get functions index ≡ Some h) ⊎ ((index ≡ length functions) × (g ≡ h))
        → declared_meaning h.name (Declares g.name (meaning.Function (length functions)) ∷ names) ≡ Some (meaning.Function index)
    each index h (inl e) =
        found_still g.name h.name (meaning.Function (length functions)) (meaning.Function index) names f.outer new (f.found_as index h e)
    each index h (inr p) =
        ap (λ (k : FunctionEntry). declared_meaning k.name (Declares g.name (meaning.Function (length functions)) ∷ names)) (sym p.1)
        ∙ hides g.name (meaning.Function (length functions)) names ∙ ap (λ n. Some (meaning.Function n)) (sym p.0)

    number : Meaning → ℕ
    number (meaning.Function n) = n
    number m = 0

    back : (other : List ℕ) (index : ℕ)
        → ((g.name ≡ other) × (meaning.Function (length functions) ≡ meaning.Function index)) ⊎ (declared_meaning other names ≡ Some (meaning.Function index))
        → IsFunctionNamed (functions ++ g ∷ []) other index
    back other index (inl p) =
        record { own = g; here = ap (slice_get (functions ++ g ∷ [])) (sym (ap number p.1)) ∙ next_is functions g []; named = p.0 }
    back other index (inr e) = let k = f.means other index e in
        record { own = k.own; here = stays_more functions (g ∷ []) index k.own k.here; named = k.named }

-- a function that is declared, maybe again
pub function_file : (name : List ℕ) (f : FunctionType) (known : Option ℕ) (w : Walk) → InFile w.functions w.names → is_clashing_name name known w ≡ false
    → InFile (with_function name f known w).functions (with_function name f known w).names
function_file name f (Some index) w k new = k
function_file name f None w k new = entry_file w.functions w.names (record { name = name; ctype = f }) k
    (left_false (is_here name w.names) (or_parts (is_reserved name) (is_here name w.names && true) new).1)

-- globals

-- declared variables, one after another
starts_file : (functions : List FunctionEntry) (global : Bool) (b : TypeTree) (xs : List StartTree) (w : Walk) → Long w → InFile functions w.names
    → Gives (λ _ v. InFile functions v.names) (walk_starts global b xs w)
starts_file functions global b [] w l f = f
starts_file functions global b (x ∷ xs) w l f =
    gives_then (λ _ v. Starts x.declarator.name w v) (λ _ v. InFile functions v.names) (walk_start global b x w) _ (start_adds global b x w l)
    (λ _ v h. starts_file functions global b xs v (one_lays x.declarator.name h.one.of w v h.one.object h.one.adds l).long
    (subst (InFile functions) (sym h.one.adds.names) (variable_file functions w.names x.declarator.name (length w.variables) f h.new)))

-- a declaration of globals leaves the names of functions their own
pub declaration_file : (global : Bool) (d : DeclarationTree) (w : Walk) → Long w → InFile w.functions w.names
    → Gives (λ _ v. InFile w.functions v.names) (walk_declaration global d w)
declaration_file global d w l f =
    gives_then (λ _ v. Leaves w v) (λ _ v. InFile w.functions v.names) (base_type d.base w) _ (base_keeps Leaves leaves_kept.here d.base w)
    (λ b v h. starts_file w.functions global b d.starts v (ap length h.types ∙ l ∙ sym (ap length h.variables))
    (subst (InFile w.functions) (sym h.names) f))

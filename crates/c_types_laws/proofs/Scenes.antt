-- Names in scope: which of them are on the stack, and what their variables are.
use Rattle.std.proofs.Common.{◌⊎◌, inl, inr, ⊎_elim, ◌≡◌, ℕ, ◌≤◌, ◌<◌, ◌-◌, refl, subst, sym, ◌∙◌, arith, List, [], ◌∷◌, Some, None, Bool}
use Rattle.std.proofs.Common.{true, false, length}
use Rattle.std.specs.Prelude.{Option, slice_get, slice_set, nat_lt, if◌then◌else◌}
use Rattle.std.specs.Option.{option_map}
use Rattle.std.specs.Str.{bytes_eq}
use Rattle.std.proofs.lemmas.Bool.{false≢true, cases_eq}
use Rattle.std.proofs.lemmas.Bool.Decides.{nat_tests}
use Rattle.std.proofs.lemmas.Slice.Eq.{bytes_eq-Decides}
use Rattle.std.proofs.lemmas.Option.{slice_get_within, same_Some}
use Rattle.c_types.proofs.Replaced.{replaced_other, replaced_same}
use Rattle.c_types.proofs.Noted.{length_replaced}
use Rattle.base_lists.proofs.Lists.{same_bytes, set_here, Stays}
use Rattle.c_types_rules.specs.declared.layout.StructType.{StructType}
use Rattle.c_types_rules.specs.declared.library.Library.{Library}
use Rattle.c_types_rules.specs.Library.{library_named}
use Rattle.c_types_expressions.specs.declared.names.Meaning.{Meaning}
use Rattle.c_types_expressions.specs.declared.names.Meaning.TheVariants as meaning
use Rattle.c_types_expressions.specs.declared.names.ScopeEntry.{ScopeEntry}
use Rattle.c_types_expressions.specs.declared.names.ScopeEntry.TheVariants.{Opens, Declares}
use Rattle.c_types_expressions.specs.declared.walk.FunctionEntry.{FunctionEntry}
use Rattle.c_types_expressions.specs.declared.walk.VariableEntry.{VariableEntry}
use Rattle.c_types_expressions.specs.declared.walk.Walk.{Walk}
use Rattle.c_types_expressions.specs.Words.{names_after_scope, declared_meaning, meaning_of, or_before, ended_scopes, item_replaced}
use Rattle.c_types_laws.specs.Naming.{IsNamed}

-- the parts of what is known that tell which variables names mean
pub record Scene : Type 0 where
  pub names : List ScopeEntry
  pub variables : List VariableEntry
  pub ends : List (Option ℕ)
  pub functions : List FunctionEntry
  pub structs : List StructType

abbrev pub scene : Walk → Scene
scene w = record { names = w.names; variables = w.variables; ends = w.ends; functions = w.functions; structs = w.structs }

-- the variable was declared before the token
abbrev pub IsBefore : ℕ → Option VariableEntry → Type 0
IsBefore at None = ⊥
IsBefore at (Some v) = v.from < at

abbrev pub FunctionNamed : List ℕ → Option FunctionEntry → Type 0
FunctionNamed name None = ⊥
FunctionNamed name (Some f) = f.name ≡ name

-- no variable of the name is declared by these
abbrev pub NoVariable : List ℕ → List ScopeEntry → Type 0
NoVariable name [] = Unit {0}
NoVariable name (Declares other (meaning.Variable place) ∷ rest) = (other ≡ name → ⊥) × NoVariable name rest
NoVariable name (entry ∷ rest) = NoVariable name rest

-- the variable at the place is one of those in scope
abbrev pub OnStack : ℕ → List ScopeEntry → Type 0
OnStack q [] = ⊥
OnStack q (Declares name (meaning.Variable place) ∷ rest) = (q ≡ place) ⊎ OnStack q rest
OnStack q (entry ∷ rest) = OnStack q rest

-- the names in scope, before this token: each is of a variable that was declared before those above it and whose scope has no end yet, or of a function
-- besides which no variable has its name
abbrev pub Stack : List FunctionEntry → List VariableEntry → List (Option ℕ) → ℕ → ℕ → List ScopeEntry → Type 0
Stack fs vs es at bound [] = Unit {0}
Stack fs vs es at bound (Opens ∷ rest) = Stack fs vs es at bound rest
Stack fs vs es at bound (Declares name (meaning.Variable place) ∷ rest) =
    (place < bound) × IsNamed name (slice_get vs place) × IsBefore at (slice_get vs place) × (slice_get es place ≡ Some None) × Stack fs vs es at place rest
Stack fs vs es at bound (Declares name (meaning.Function place) ∷ rest) = FunctionNamed name (slice_get fs place) × NoVariable name rest
    × Stack fs vs es at bound rest
Stack fs vs es at bound (Declares name (meaning.Library function) ∷ rest) = ⊥
Stack fs vs es at bound (Declares name (meaning.Struct place) ∷ rest) = ⊥

-- what is known before this token, where this is the latest token of an expression
pub record Sound (at l : ℕ) (s : Scene) : Type 0 where
  pub stack : Stack s.functions s.variables s.ends at (length s.variables) s.names
  pub opens : (q : ℕ) → slice_get s.ends q ≡ Some None → OnStack q s.names
  pub closes : (q e : ℕ) → slice_get s.ends q ≡ Some (Some e) → e ≤ at - 1
  pub long : length s.ends ≡ length s.variables
  pub latest : l ≤ at - 1

pub other_bytes : (xs ys : List ℕ) → bytes_eq xs ys ≡ false → xs ≡ ys → ⊥
other_bytes xs ys h e = false≢true (sym h ∙ (bytes_eq-Decides xs ys).1 e)

pub some_none : {B : Type 0} (l : ℕ) → Some (Some l) ≡ Some None → B
some_none l h = absurd (cc)

pub is_before_later : (at to : ℕ) (v : Option VariableEntry) → at ≤ to → IsBefore at v → IsBefore to v
is_before_later at to None h k = k
is_before_later at to (Some v) h k = omega (arith, h, k)

module _ (fs : List FunctionEntry) (vs : List VariableEntry) (es : List (Option ℕ)) where
  pub stack_later : (at to bound : ℕ) (names : List ScopeEntry) → at ≤ to → Stack fs vs es at bound names → Stack fs vs es to bound names
  stack_later at to bound [] h k = tt
  stack_later at to bound (Opens ∷ rest) h k = stack_later at to bound rest h k
  stack_later at to bound (Declares name (meaning.Variable place) ∷ rest) h k =
      (k.0, k.1, is_before_later at to (slice_get vs place) h k.2, k.3, stack_later at to place rest h k.4)
  stack_later at to bound (Declares name (meaning.Function place) ∷ rest) h k = (k.0, k.1, stack_later at to bound rest h k.2)
  stack_later at to bound (Declares name (meaning.Library function) ∷ rest) h k = k
  stack_later at to bound (Declares name (meaning.Struct place) ∷ rest) h k = k

  pub stack_wider : (at bound more : ℕ) (names : List ScopeEntry) → bound ≤ more → Stack fs vs es at bound names → Stack fs vs es at more names
  stack_wider at bound more [] h k = tt
  stack_wider at bound more (Opens ∷ rest) h k = stack_wider at bound more rest h k
  stack_wider at bound more (Declares name (meaning.Variable place) ∷ rest) h k = (omega (arith, h, k.0), k.1, k.2, k.3, k.4)
  stack_wider at bound more (Declares name (meaning.Function place) ∷ rest) h k = (k.0, k.1, stack_wider at bound more rest h k.2)
  stack_wider at bound more (Declares name (meaning.Library function) ∷ rest) h k = k
  stack_wider at bound more (Declares name (meaning.Struct place) ∷ rest) h k = k

  on_stack_below : (at bound q : ℕ) (names : List ScopeEntry) → Stack fs vs es at bound names → OnStack q names → q < bound
  on_stack_below at bound q [] k h = absurd h
  on_stack_below at bound q (Opens ∷ rest) k h = on_stack_below at bound q rest k h
  on_stack_below at bound q (Declares name (meaning.Variable place) ∷ rest) k (inl h) = omega (arith, h, k.0)
  on_stack_below at bound q (Declares name (meaning.Variable place) ∷ rest) k (inr h) = omega (arith, on_stack_below at place q rest k.4 h, k.0)
  on_stack_below at bound q (Declares name (meaning.Function place) ∷ rest) k h = on_stack_below at bound q rest k.2 h
  on_stack_below at bound q (Declares name (meaning.Library function) ∷ rest) k h = absurd k
  on_stack_below at bound q (Declares name (meaning.Struct place) ∷ rest) k h = absurd k

function_stays : (name : List ℕ) (place : ℕ) (fs gs : List FunctionEntry) → Stays fs gs → (f : Option FunctionEntry) → slice_get fs place ≡ f
    → FunctionNamed name f
    → FunctionNamed name (slice_get gs place)
function_stays name place fs gs h None e k = absurd k
function_stays name place fs gs h (Some f) e k = subst (FunctionNamed name) (sym (h place f e)) k

-- the same where the lists are the same at each place below the bound
pub stack_same : (fs gs : List FunctionEntry) (vs us : List VariableEntry) (es ds : List (Option ℕ)) (at bound : ℕ) (names : List ScopeEntry) → Stays fs gs
    → ((q : ℕ) → q < bound → slice_get us q ≡ slice_get vs q) → ((q : ℕ) → q < bound → slice_get ds q ≡ slice_get es q)
    → Stack fs vs es at bound names → Stack gs us ds at bound names
stack_same fs gs vs us es ds at bound [] f v e k = tt
stack_same fs gs vs us es ds at bound (Opens ∷ rest) f v e k = stack_same fs gs vs us es ds at bound rest f v e k
stack_same fs gs vs us es ds at bound (Declares name (meaning.Variable place) ∷ rest) f v e k = (
  k.0,
  subst (IsNamed name) (sym (v place k.0)) k.1,
  subst (IsBefore at) (sym (v place k.0)) k.2,
  e place k.0 ∙ k.3,
  stack_same fs gs vs us es ds at place rest f (λ q l. v q (omega (arith, l, k.0))) (λ q l. e q (omega (arith, l, k.0))) k.4,
)
stack_same fs gs vs us es ds at bound (Declares name (meaning.Function place) ∷ rest) f v e k =
    (function_stays name place fs gs f (slice_get fs place) refl k.0, k.1, stack_same fs gs vs us es ds at bound rest f v e k.2)
stack_same fs gs vs us es ds at bound (Declares name (meaning.Library function) ∷ rest) f v e k = k
stack_same fs gs vs us es ds at bound (Declares name (meaning.Struct place) ∷ rest) f v e k = k

-- what a name was declared as
module _ (fs : List FunctionEntry) (vs : List VariableEntry) (es : List (Option ℕ)) (at : ℕ) (name : List ℕ) where
  -- the variable is the uppermost one of the name
  abbrev pub IsTop : ℕ → List ScopeEntry → Type 0
  IsTop place names = IsNamed name (slice_get vs place) × IsBefore at (slice_get vs place) × (slice_get es place ≡ Some None)
      × ((q : ℕ) → OnStack q names → IsNamed name (slice_get vs q) → q ≤ place)

  -- no variable has the name
  abbrev pub NoneOn : List ScopeEntry → Type 0
  NoneOn names = (q : ℕ) → OnStack q names → IsNamed name (slice_get vs q) → ⊥

  abbrev pub Finds : Option Meaning → List ScopeEntry → Type 0
  Finds None names = NoneOn names
  Finds (Some (meaning.Variable place)) names = IsTop place names
  Finds (Some (meaning.Function place)) names = FunctionNamed name (slice_get fs place) × NoneOn names
  Finds (Some (meaning.Library function)) names = ⊥
  Finds (Some (meaning.Struct place)) names = ⊥

  two_names : (other : List ℕ) (v : Option VariableEntry) → IsNamed other v → IsNamed name v → other ≡ name
  two_names other None h k = absurd h
  two_names other (Some v) h k = sym h ∙ k

  none_on : (bound : ℕ) (names : List ScopeEntry) → NoVariable name names → Stack fs vs es at bound names → NoneOn names
  none_on bound [] n k = λ q h i. h
  none_on bound (Opens ∷ rest) n k = none_on bound rest n k
  none_on bound (Declares other (meaning.Variable place) ∷ rest) n k = λ q h i.
      ⊎_elim (λ e. n.0 (two_names other (slice_get vs place) k.1 (subst (λ p. IsNamed name (slice_get vs p)) e i))) (λ o. none_on place rest n.1 k.4 q o i) h
  none_on bound (Declares other (meaning.Function place) ∷ rest) n k = none_on bound rest n k.2
  none_on bound (Declares other (meaning.Library function) ∷ rest) n k = absurd k
  none_on bound (Declares other (meaning.Struct place) ∷ rest) n k = absurd k

  -- behind an entry of another name
  behind_variable : (other : List ℕ) (place : ℕ) (rest : List ScopeEntry) (m : Option Meaning) → (other ≡ name → ⊥) → IsNamed other (slice_get vs place)
      → Finds m rest → Finds m (Declares other (meaning.Variable place) ∷ rest)
  behind_variable other place rest m n k h = by m h
    where
      none : NoneOn rest → NoneOn (Declares other (meaning.Variable place) ∷ rest)
      none f = λ q o i. ⊎_elim (λ e. n (two_names other (slice_get vs place) k (subst (λ p. IsNamed name (slice_get vs p)) e i))) (λ r. f q r i) o

      by : (m : Option Meaning) → Finds m rest → Finds m (Declares other (meaning.Variable place) ∷ rest)
      by None h = none h
      by (Some (meaning.Variable q)) h = (
        h.0,
        h.1,
        h.2,
        λ p o i. ⊎_elim (λ e. absurd (n (two_names other (slice_get vs place) k (subst (λ p. IsNamed name (slice_get vs p)) e i)))) (λ r. h.3 p r i) o,
      )
      by (Some (meaning.Function q)) h = (h.0, none h.1)
      by (Some (meaning.Library function)) h = h
      by (Some (meaning.Struct q)) h = h

  function_on : (place : ℕ) (rest : List ScopeEntry) (m : Option Meaning) (other : List ℕ) → Finds m rest
      → Finds m (Declares other (meaning.Function place) ∷ rest)
  function_on place rest None other h = h
  function_on place rest (Some (meaning.Variable q)) other h = h
  function_on place rest (Some (meaning.Function q)) other h = h
  function_on place rest (Some (meaning.Library function)) other h = h
  function_on place rest (Some (meaning.Struct q)) other h = h

  opens_on : (rest : List ScopeEntry) (m : Option Meaning) → Finds m rest → Finds m (Opens ∷ rest)
  opens_on rest None h = h
  opens_on rest (Some (meaning.Variable q)) h = h
  opens_on rest (Some (meaning.Function q)) h = h
  opens_on rest (Some (meaning.Library function)) h = h
  opens_on rest (Some (meaning.Struct q)) h = h

  variable_first : (bound place : ℕ) (other : List ℕ) (rest : List ScopeEntry) (b : Bool) → bytes_eq other name ≡ b
      → Stack fs vs es at bound (Declares other (meaning.Variable place) ∷ rest) → Finds (declared_meaning name rest) rest
      → Finds (or_before (if b then Some (meaning.Variable place) else None) (declared_meaning name rest)) (Declares other (meaning.Variable place) ∷ rest)
  variable_first bound place other rest true e k h = (
    subst (λ n. IsNamed n (slice_get vs place)) (same_bytes other name e) k.1,
    k.2,
    k.3,
    λ q o i. ⊎_elim (λ s. omega (arith, s)) (λ r. omega (arith, on_stack_below fs vs es at place q rest k.4 r)) o,
  )
  variable_first bound place other rest false e k h = behind_variable other place rest (declared_meaning name rest) (other_bytes other name e) k.1 h

  function_first : (bound place : ℕ) (other : List ℕ) (rest : List ScopeEntry) (b : Bool) → bytes_eq other name ≡ b
      → Stack fs vs es at bound (Declares other (meaning.Function place) ∷ rest) → Finds (declared_meaning name rest) rest
      → Finds (or_before (if b then Some (meaning.Function place) else None) (declared_meaning name rest)) (Declares other (meaning.Function place) ∷ rest)
  function_first bound place other rest true e k h = (
    subst (λ n. FunctionNamed n (slice_get fs place)) (same_bytes other name e) k.0,
    none_on bound rest (subst (λ n. NoVariable n rest) (same_bytes other name e) k.1) k.2,
  )
  function_first bound place other rest false e k h = function_on place rest (declared_meaning name rest) other h

  pub finds : (bound : ℕ) (names : List ScopeEntry) → Stack fs vs es at bound names → Finds (declared_meaning name names) names
  finds bound [] k = λ q h i. h
  finds bound (Opens ∷ rest) k = opens_on rest (declared_meaning name rest) (finds bound rest k)
  finds bound (Declares other (meaning.Variable place) ∷ rest) k = variable_first bound place other rest (bytes_eq other name) refl k (finds place rest k.4)
  finds bound (Declares other (meaning.Function place) ∷ rest) k = function_first bound place other rest (bytes_eq other name) refl k (finds bound rest k.2)
  finds bound (Declares other (meaning.Library function) ∷ rest) k = absurd k
  finds bound (Declares other (meaning.Struct place) ∷ rest) k = absurd k

  -- what a name means: of the library only where it was declared as nothing
  abbrev pub Means : Option Meaning → List ScopeEntry → Type 0
  Means None names = Unit {0}
  Means (Some (meaning.Variable place)) names = IsTop place names
  Means (Some (meaning.Function place)) names = FunctionNamed name (slice_get fs place) × NoneOn names
  Means (Some (meaning.Library function)) names = (library_named name ≡ Some function) × NoneOn names
  Means (Some (meaning.Struct place)) names = ⊥

  means_library : (o : Option Library) (names : List ScopeEntry) → library_named name ≡ o → NoneOn names → Means (option_map meaning.Library o) names
  means_library None names e h = tt
  means_library (Some function) names e h = (e, h)

  means_by : (m : Option Meaning) (names : List ScopeEntry) → Finds m names → Means (or_before m (option_map meaning.Library (library_named name))) names
  means_by None names h = means_library (library_named name) names refl h
  means_by (Some (meaning.Variable place)) names h = h
  means_by (Some (meaning.Function place)) names h = h
  means_by (Some (meaning.Library function)) names h = absurd h
  means_by (Some (meaning.Struct place)) names h = absurd h

  pub means : (bound : ℕ) (names : List ScopeEntry) → Stack fs vs es at bound names → Means (meaning_of name names) names
  means bound names k = means_by (declared_meaning name names) names (finds bound names k)

-- scopes that end

replaced_at : (xs : List (Option ℕ)) (i l : ℕ) → slice_get (item_replaced xs i (Some l)) i ≡ Some None → ⊥
replaced_at xs i l h = by (nat_lt i (length xs)) refl h
  where
    by : (b : Bool) → nat_lt i (length xs) ≡ b → slice_get (if b then slice_set xs i (Some l) else xs) i ≡ Some None → ⊥
    by true e h = some_none l (sym (set_here xs i (Some l) (grind (arith, nat_tests, e))) ∙ h)
    by false e h = absurd (false≢true (sym e ∙ grind (arith, nat_tests, slice_get_within xs i None h)))

replaced_here : (xs : List (Option ℕ)) (i l e : ℕ) → slice_get (item_replaced xs i (Some l)) i ≡ Some (Some e) → (e ≡ l) ⊎ (slice_get xs i ≡ Some (Some e))
replaced_here xs i l e h = by (nat_lt i (length xs)) refl h
  where
    by : (b : Bool) → nat_lt i (length xs) ≡ b → slice_get (if b then slice_set xs i (Some l) else xs) i ≡ Some (Some e)
        → (e ≡ l) ⊎ (slice_get xs i ≡ Some (Some e))
    by true n h = inl (same_Some e l (same_Some (Some e) (Some l) (sym h ∙ set_here xs i (Some l) (grind (arith, nat_tests, n)))))
    by false n h = inr h

pub ended_long : (l : ℕ) (names : List ScopeEntry) (es : List (Option ℕ)) → length (ended_scopes l names es) ≡ length es
ended_long l [] es = refl
ended_long l (Opens ∷ rest) es = refl
ended_long l (Declares name (meaning.Variable place) ∷ rest) es = ended_long l rest (item_replaced es place (Some l)) ∙ length_replaced es place (Some l)
ended_long l (Declares name (meaning.Function place) ∷ rest) es = ended_long l rest es
ended_long l (Declares name (meaning.Library function) ∷ rest) es = ended_long l rest es
ended_long l (Declares name (meaning.Struct place) ∷ rest) es = ended_long l rest es

-- what is at the end of a scope, of one whose end isn't known: it is known, or ends with this token
abbrev pub EndsOn : ℕ → Option (Option ℕ) → Option (Option ℕ) → Type 0
EndsOn l None e = Unit {0}
EndsOn l (Some None) None = ⊥
EndsOn l (Some None) (Some None) = Unit {0}
EndsOn l (Some None) (Some (Some e)) = l ≤ e
EndsOn l (Some (Some d)) e = e ≡ Some (Some d)

pub ends_here : (l : ℕ) (e : Option (Option ℕ)) → EndsOn l e e
ends_here l None = tt
ends_here l (Some None) = tt
ends_here l (Some (Some d)) = refl

pub ends_then : (l m : ℕ) (x y t : Option (Option ℕ)) → l ≤ m → EndsOn l x y → EndsOn m y t → EndsOn l x t
ends_then l m None y t n h k = tt
ends_then l m (Some None) None t n h k = absurd h
ends_then l m (Some None) (Some None) None n h k = k
ends_then l m (Some None) (Some None) (Some None) n h k = tt
ends_then l m (Some None) (Some None) (Some (Some e)) n h k = omega (arith, n, k)
ends_then l m (Some None) (Some (Some d)) t n h k = subst (EndsOn l (Some None)) (sym k) h
ends_then l m (Some (Some d)) y t n h k = subst (λ o. EndsOn m o t) h k

module _ (fs : List FunctionEntry) (vs : List VariableEntry) (at l : ℕ) where
  pub stack_ended : (bound : ℕ) (names : List ScopeEntry) (es : List (Option ℕ)) → Stack fs vs es at bound names
      → Stack fs vs (ended_scopes l names es) at bound (names_after_scope names)
  stack_ended bound [] es k = tt
  stack_ended bound (Opens ∷ rest) es k = k
  stack_ended bound (Declares name (meaning.Variable place) ∷ rest) es k =
      stack_wider fs vs (ended_scopes l rest (item_replaced es place (Some l))) at place bound (names_after_scope rest) (omega (arith, k.0))
      (stack_ended place rest (item_replaced es place (Some l))
      (stack_same fs fs vs vs es (item_replaced es place (Some l)) at place rest (λ i x h. h) (λ q h. refl)
      (λ q h. replaced_other es place q (Some l) (λ e. omega (arith, e, h))) k.4))
  stack_ended bound (Declares name (meaning.Function place) ∷ rest) es k = stack_ended bound rest es k.2
  stack_ended bound (Declares name (meaning.Library function) ∷ rest) es k = absurd k
  stack_ended bound (Declares name (meaning.Struct place) ∷ rest) es k = absurd k

  pub opens_ended : (names : List ScopeEntry) (es : List (Option ℕ)) → ((q : ℕ) → slice_get es q ≡ Some None → OnStack q names)
      → (q : ℕ) → slice_get (ended_scopes l names es) q ≡ Some None → OnStack q (names_after_scope names)
  opens_ended [] es h q e = h q e
  opens_ended (Opens ∷ rest) es h q e = h q e
  opens_ended (Declares name (meaning.Variable place) ∷ rest) es h q e =
      opens_ended rest (item_replaced es place (Some l)) (λ p d. ⊎_elim
      (λ s. absurd (replaced_at es place l (subst (λ n. slice_get (item_replaced es place (Some l)) n ≡ Some None) s d)))
      (λ s. ⊎_elim (λ t. absurd (s t)) (λ o. o) (h p (sym (replaced_other es place p (Some l) (λ t. s (sym t))) ∙ d)))
      (cases_eq p place)) q e
  opens_ended (Declares name (meaning.Function place) ∷ rest) es h q e = opens_ended rest es h q e
  opens_ended (Declares name (meaning.Library function) ∷ rest) es h q e = opens_ended rest es h q e
  opens_ended (Declares name (meaning.Struct place) ∷ rest) es h q e = opens_ended rest es h q e

  pub closes_ended : (names : List ScopeEntry) (es : List (Option ℕ)) → l ≤ at - 1 → ((q e : ℕ) → slice_get es q ≡ Some (Some e) → e ≤ at - 1)
      → (q e : ℕ) → slice_get (ended_scopes l names es) q ≡ Some (Some e) → e ≤ at - 1
  closes_ended [] es n h q e k = h q e k
  closes_ended (Opens ∷ rest) es n h q e k = h q e k
  closes_ended (Declares name (meaning.Variable place) ∷ rest) es n h q e k =
      closes_ended rest (item_replaced es place (Some l)) n (λ p d i. ⊎_elim
      (λ s. ⊎_elim (λ t. omega (arith, t, n)) (λ t. h place d t)
      (replaced_here es place l d (subst (λ m. slice_get (item_replaced es place (Some l)) m ≡ Some (Some d)) s i)))
      (λ s. h p d (sym (replaced_other es place p (Some l) (λ t. s (sym t))) ∙ i))
      (cases_eq p place)) q e k
  closes_ended (Declares name (meaning.Function place) ∷ rest) es n h q e k = closes_ended rest es n h q e k
  closes_ended (Declares name (meaning.Library function) ∷ rest) es n h q e k = closes_ended rest es n h q e k
  closes_ended (Declares name (meaning.Struct place) ∷ rest) es n h q e k = closes_ended rest es n h q e k

  -- no scope that had ended ends again, and no other one ends before this token
  pub ends_ended : (bound : ℕ) (names : List ScopeEntry) (es : List (Option ℕ)) → Stack fs vs es at bound names
      → (q : ℕ) → EndsOn l (slice_get es q) (slice_get (ended_scopes l names es) q)
  ends_ended bound [] es k q = ends_here l (slice_get es q)
  ends_ended bound (Opens ∷ rest) es k q = ends_here l (slice_get es q)
  ends_ended bound (Declares name (meaning.Variable place) ∷ rest) es k q =
      ends_then l l (slice_get es q) (slice_get (item_replaced es place (Some l)) q) (slice_get (ended_scopes l rest (item_replaced es place (Some l))) q) (omega arith)
      (⊎_elim
      (λ s. subst (λ p. EndsOn l (slice_get es p) (slice_get (item_replaced es place (Some l)) p)) (sym s)
      (subst (λ o. EndsOn l o (slice_get (item_replaced es place (Some l)) place)) (sym k.3)
      (subst (λ o. EndsOn l (Some None) o) (sym (replaced_same es place (Some l) (slice_get_within es place None k.3))) (omega arith))))
      (λ s. subst (λ o. EndsOn l (slice_get es q) o) (sym (replaced_other es place q (Some l) (λ t. s (sym t)))) (ends_here l (slice_get es q)))
      (cases_eq q place))
      (ends_ended place rest (item_replaced es place (Some l))
      (stack_same fs fs vs vs es (item_replaced es place (Some l)) at place rest (λ i x h. h) (λ p h. refl)
      (λ p h. replaced_other es place p (Some l) (λ e. omega (arith, e, h))) k.4) q)
  ends_ended bound (Declares name (meaning.Function place) ∷ rest) es k q = ends_ended bound rest es k.2 q
  ends_ended bound (Declares name (meaning.Library function) ∷ rest) es k q = absurd k
  ends_ended bound (Declares name (meaning.Struct place) ∷ rest) es k q = absurd k

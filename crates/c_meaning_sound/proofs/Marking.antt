-- What a part of a function leaves of the names in scope, and where the scopes of the variables end that it declares.
use Rattle.std.proofs.Common.{◌⊎◌, inl, inr, ◌≡◌, ℕ, zero, suc, ◌≤◌, ◌<◌, refl, ap, subst, sym, ◌∙◌, arith, List, [], ◌∷◌, ◌++◌, Some, None, ◌+◌, length}
use Rattle.std.proofs.Common.{length-append}
use Rattle.std.specs.Prelude.{Option, max, slice_get, if◌then◌else◌, true, false}
use Rattle.std.proofs.lemmas.Bool.{cases_lt}
use Rattle.std.proofs.lemmas.List.{append_assoc}
use Rattle.std.proofs.lemmas.Option.{slice_get_within, same_Some}
use Rattle.c_types.proofs.Replaced.{replaced_other, replaced_same}
use Rattle.c_types.proofs.Noted.{length_replaced}
use Rattle.base_lists.proofs.Lists.{get_before}
use Rattle.c_types_rules.specs.TypeTree.{TypeTree}
use Rattle.c_types_expressions.specs.declared.names.Meaning.TheVariants as meaning
use Rattle.c_types_expressions.specs.declared.names.ScopeEntry.{ScopeEntry}
use Rattle.c_types_expressions.specs.declared.names.ScopeEntry.TheVariants.{Opens, Declares}
use Rattle.c_types_expressions.specs.declared.walk.Variable.{Variable}
use Rattle.c_types_expressions.specs.declared.walk.Variable.TheVariants as variable
use Rattle.c_types_expressions.specs.declared.walk.VariableEntry.{VariableEntry}
use Rattle.c_types_expressions.specs.declared.walk.Walk.{Walk}
use Rattle.c_types_expressions.specs.Words.{names_after_scope, ended_scopes, scope_opened, item_replaced, with_type, with_variable}

-- the names declare variables alone, each with a place from one number on and below another
abbrev pub AreNew : ℕ → ℕ → List ScopeEntry → Type 0
AreNew lo hi [] = Unit {0}
AreNew lo hi (Opens ∷ rest) = ⊥
AreNew lo hi (Declares name (meaning.Variable place) ∷ rest) = (lo ≤ place) × (place < hi) × AreNew lo hi rest
AreNew lo hi (Declares name m ∷ rest) = ⊥

-- one of the names declares the variable at the place
abbrev pub Declare : ℕ → List ScopeEntry → Type 0
Declare place [] = ⊥
Declare place (Declares name (meaning.Variable other) ∷ rest) = (place ≡ other) ⊎ Declare place rest
Declare place (entry ∷ rest) = Declare place rest

-- a scope that has ended before the token
abbrev pub EndsBefore : ℕ → Option (Option ℕ) → Type 0
EndsBefore token (Some (Some last)) = last < token
EndsBefore token o = ⊥

abbrev pub IsLocalBelow : ℕ → Variable → Type 0
IsLocalBelow count (variable.Global index) = ⊥
IsLocalBelow count (variable.Local index) = index < count

-- A variable of the running function, whose name stands at this token or behind it.
pub record IsOwn (lo count : ℕ) (entry : VariableEntry) : Type 0 where
  pub from : lo ≤ entry.from
  pub local : IsLocalBelow count entry.variable

pub record Marks (lo hi : ℕ) (w v : Walk) : Type 0 where
  pub latest : (n : ℕ) → hi ≤ n → w.latest < n → v.latest < n
  pub new : List ScopeEntry
  pub names : v.names ≡ new ++ w.names
  pub own : AreNew (length w.variables) (length v.variables) new
  pub more : length w.variables ≤ length v.variables
  pub locals : w.locals ≤ v.locals
  pub globals : v.globals ≡ w.globals
  pub kept : (i : ℕ) → i < length w.variables → slice_get v.variables i ≡ slice_get w.variables i
  pub long : length w.ends ≡ length w.variables → length v.ends ≡ length v.variables
  pub old : length w.ends ≡ length w.variables → (i : ℕ) → i < length w.variables → slice_get v.ends i ≡ slice_get w.ends i
  pub ends : length w.ends ≡ length w.variables → (n : ℕ) → hi ≤ n → w.latest < n → (i : ℕ) → length w.variables ≤ i → i < length v.variables
      → Declare i new ⊎ EndsBefore n (slice_get v.ends i)
  pub entries : (i : ℕ) (entry : VariableEntry) → length w.variables ≤ i → slice_get v.variables i ≡ Some entry → IsOwn lo v.locals entry

new_wider : (lo hi l h : ℕ) (names : List ScopeEntry) → AreNew lo hi names → l ≤ lo → hi ≤ h → AreNew l h names
new_wider lo hi l h [] r low high = tt
new_wider lo hi l h (Opens ∷ rest) r low high = absurd r
new_wider lo hi l h (Declares name (meaning.Variable place) ∷ rest) r low high =
    (omega (arith, r.0, low), omega (arith, r.1, high), new_wider lo hi l h rest r.2 low high)
new_wider lo hi l h (Declares name (meaning.Function place) ∷ rest) r low high = absurd r
new_wider lo hi l h (Declares name (meaning.Struct place) ∷ rest) r low high = absurd r
new_wider lo hi l h (Declares name (meaning.Library function) ∷ rest) r low high = absurd r

new_both : (lo hi : ℕ) (names others : List ScopeEntry) → AreNew lo hi names → AreNew lo hi others → AreNew lo hi (names ++ others)
new_both lo hi [] others r q = q
new_both lo hi (Opens ∷ rest) others r q = absurd r
new_both lo hi (Declares name (meaning.Variable place) ∷ rest) others r q = (r.0, r.1, new_both lo hi rest others r.2 q)
new_both lo hi (Declares name (meaning.Function place) ∷ rest) others r q = absurd r
new_both lo hi (Declares name (meaning.Struct place) ∷ rest) others r q = absurd r
new_both lo hi (Declares name (meaning.Library function) ∷ rest) others r q = absurd r

declare_first : (i : ℕ) (names others : List ScopeEntry) → Declare i names → Declare i (names ++ others)
declare_first i [] others h = absurd h
declare_first i (Opens ∷ rest) others h = declare_first i rest others h
declare_first i (Declares name (meaning.Variable place) ∷ rest) others (inl h) = inl h
declare_first i (Declares name (meaning.Variable place) ∷ rest) others (inr h) = inr (declare_first i rest others h)
declare_first i (Declares name (meaning.Function place) ∷ rest) others h = declare_first i rest others h
declare_first i (Declares name (meaning.Struct place) ∷ rest) others h = declare_first i rest others h
declare_first i (Declares name (meaning.Library function) ∷ rest) others h = declare_first i rest others h

declare_second : (i : ℕ) (names others : List ScopeEntry) → Declare i others → Declare i (names ++ others)
declare_second i [] others h = h
declare_second i (Opens ∷ rest) others h = declare_second i rest others h
declare_second i (Declares name (meaning.Variable place) ∷ rest) others h = inr (declare_second i rest others h)
declare_second i (Declares name (meaning.Function place) ∷ rest) others h = declare_second i rest others h
declare_second i (Declares name (meaning.Struct place) ∷ rest) others h = declare_second i rest others h
declare_second i (Declares name (meaning.Library function) ∷ rest) others h = declare_second i rest others h

local_more : (m n : ℕ) (v : Variable) → m ≤ n → IsLocalBelow m v → IsLocalBelow n v
local_more m n (variable.Global index) h k = absurd k
local_more m n (variable.Local index) h k = omega (arith, h, k)

pub ends_later : (m n : ℕ) (o : Option (Option ℕ)) → m ≤ n → EndsBefore m o → EndsBefore n o
ends_later m n None h k = absurd k
ends_later m n (Some None) h k = absurd k
ends_later m n (Some (Some last)) h k = omega (arith, h, k)

pub marks_wider : {lo hi : ℕ} {w v : Walk} (l h : ℕ) → Marks lo hi w v → l ≤ lo → hi ≤ h → Marks l h w v
marks_wider l h m low high = record {
  latest = λ n p q. m.latest n (omega (arith, high, p)) q;
  new = m.new;
  names = m.names;
  own = m.own;
  more = m.more;
  locals = m.locals;
  globals = m.globals;
  kept = m.kept;
  long = m.long;
  old = m.old;
  ends = λ k n p q. m.ends k n (omega (arith, high, p)) q;
  entries = λ i entry p q. let own = m.entries i entry p q in record { from = omega (arith, low, own.from); local = own.local };
}

abbrev either_end : ℕ → ℕ → List ScopeEntry → Option (Option ℕ) → Type 0
either_end n i names o = Declare i names ⊎ EndsBefore n o

older : (n i : ℕ) (names others : List ScopeEntry) (o : Option (Option ℕ)) → either_end n i others o → either_end n i (names ++ others) o
older n i names others o (inl h) = inl (declare_second i names others h)
older n i names others o (inr h) = inr h

newer : (n i : ℕ) (names others : List ScopeEntry) (o : Option (Option ℕ)) → either_end n i names o → either_end n i (names ++ others) o
newer n i names others o (inl h) = inl (declare_first i names others h)
newer n i names others o (inr h) = inr h

pub marks_then : {lo hi : ℕ} {w u v : Walk} → Marks lo hi w u → Marks lo hi u v → Marks lo hi w v
marks_then {lo = lo} {hi = hi} {w = w} {u = u} {v = v} a b = record {
  latest = λ n p q. b.latest n p (a.latest n p q);
  new = b.new ++ a.new;
  names = b.names ∙ ap (λ ns. b.new ++ ns) a.names ∙ sym (append_assoc b.new a.new w.names);
  own = new_both (length w.variables) (length v.variables) b.new a.new
      (new_wider (length u.variables) (length v.variables) (length w.variables) (length v.variables) b.new b.own a.more (omega arith))
      (new_wider (length w.variables) (length u.variables) (length w.variables) (length v.variables) a.new a.own (omega arith) b.more);
  more = omega (arith, a.more, b.more);
  locals = omega (arith, a.locals, b.locals);
  globals = b.globals ∙ a.globals;
  kept = λ i p. b.kept i (omega (arith, p, a.more)) ∙ a.kept i p;
  long = λ h. b.long (a.long h);
  old = λ h i p. b.old (a.long h) i (omega (arith, p, a.more)) ∙ a.old h i p;
  ends = λ h n p q i low high. ends_by h n p q i low high (cases_lt i (length u.variables));
  entries = λ i entry low e. entries_by i entry low e (cases_lt i (length u.variables));
}
  where
    ends_by : length w.ends ≡ length w.variables → (n : ℕ) → hi ≤ n → w.latest < n → (i : ℕ) → length w.variables ≤ i → i < length v.variables
        → (i < length u.variables) ⊎ (length u.variables ≤ i) → either_end n i (b.new ++ a.new) (slice_get v.ends i)
    ends_by h n p q i low high (inl less) = older n i b.new a.new (slice_get v.ends i)
        (subst (either_end n i a.new) (sym (b.old (a.long h) i less)) (a.ends h n p q i low less))
    ends_by h n p q i low high (inr more) = newer n i b.new a.new (slice_get v.ends i) (b.ends (a.long h) n p (a.latest n p q) i more high)

    entries_by : (i : ℕ) (entry : VariableEntry) → length w.variables ≤ i → slice_get v.variables i ≡ Some entry
        → (i < length u.variables) ⊎ (length u.variables ≤ i) → IsOwn lo v.locals entry
    entries_by i entry low e (inl less) =
        let own = a.entries i entry low (sym (b.kept i less) ∙ e) in
        record { from = own.from; local = local_more u.locals v.locals entry.variable b.locals own.local }
    entries_by i entry low e (inr more) = b.entries i entry more e

-- a part that declares nothing
pub marks_plain : (lo hi : ℕ) (w v : Walk) → v.names ≡ w.names → v.variables ≡ w.variables → v.ends ≡ w.ends → v.locals ≡ w.locals → v.globals ≡ w.globals
    → ((n : ℕ) → hi ≤ n → w.latest < n → v.latest < n) → Marks lo hi w v
marks_plain lo hi w v names variables ends locals globals latest = record {
  latest = latest;
  new = [];
  names = names;
  own = tt;
  more = omega (arith, ap length variables);
  locals = omega (arith, locals);
  globals = globals;
  kept = λ i p. ap (λ xs. slice_get xs i) variables;
  long = λ h. ap length ends ∙ h ∙ sym (ap length variables);
  old = λ h i p. ap (λ xs. slice_get xs i) ends;
  ends = λ h n p q i low high. absurd (omega (arith, low, high, ap length variables));
  entries = λ i entry low e. absurd (omega (arith, low, slice_get_within v.variables i entry e, ap length variables));
}

pub marks_here : (lo hi : ℕ) (w : Walk) → Marks lo hi w w
marks_here lo hi w = marks_plain lo hi w w refl refl refl refl refl (λ n p q. q)

pub below_both : (m n k : ℕ) → m < k → n < k → max m n < k
below_both m n k h l = omega (arith, h, l)

pub marks_typed : (token : ℕ) (of : TypeTree) (w : Walk) → Marks token (token + 1) w (with_type token of w)
marks_typed token of w =
    marks_plain token (token + 1) w (with_type token of w) refl refl refl refl refl (λ n p q. below_both w.latest token n q (omega (arith, p)))

get_new : {A : Type 0} (xs : List A) (y : A) (i : ℕ) → length xs ≤ i → i < length xs + 1 → slice_get (xs ++ y ∷ []) i ≡ Some y
get_new [] y zero h k = refl
get_new [] y (suc i) h k = absurd (omega (arith, k))
get_new (x ∷ xs) y zero h k = absurd (omega (arith, h))
get_new (x ∷ xs) y (suc i) h k = get_new xs y i (omega (arith, h)) (omega (arith, k))

abbrev own_entry : ℕ → List ℕ → Walk → VariableEntry
own_entry token name w = record { name = name; variable = variable.Local w.locals; from = token }

pub marks_declared : (token : ℕ) (name : List ℕ) (of : TypeTree) (w : Walk) → Marks token (token + 1) w (with_variable false token name of w)
marks_declared token name of w = record {
  latest = λ n p q. q;
  new = Declares name (meaning.Variable (length w.variables)) ∷ [];
  names = refl;
  own = (omega arith, omega (arith, more), tt);
  more = omega (arith, more);
  locals = omega arith;
  globals = refl;
  kept = λ i p. get_before w.variables (own_entry token name w) i p;
  long = λ h. omega (arith, h, more, length-append w.ends (None ∷ []));
  old = λ h i p. get_before w.ends None i (omega (arith, h, p));
  ends = λ h n p q i low high. inl (inl (omega (arith, low, high, more)));
  entries = λ i entry low e.
      let inside : i < length (w.variables ++ own_entry token name w ∷ []) = slice_get_within (w.variables ++ own_entry token name w ∷ []) i entry e in
      let is : own_entry token name w ≡ entry = same_Some (own_entry token name w) entry
      (sym (get_new w.variables (own_entry token name w) i low (omega (arith, inside, more))) ∙ e) in
      subst (IsOwn token (w.locals + 1)) is (record { from = omega arith; local = omega arith });
}
  where
    more : length (w.variables ++ own_entry token name w ∷ []) ≡ length w.variables + 1
    more = length-append w.variables (own_entry token name w ∷ [])

-- a scope ends
closed_new : (lo hi : ℕ) (new names : List ScopeEntry) → AreNew lo hi new → names_after_scope (new ++ Opens ∷ names) ≡ names
closed_new lo hi [] names h = refl
closed_new lo hi (Opens ∷ rest) names h = absurd h
closed_new lo hi (Declares name (meaning.Variable place) ∷ rest) names h = closed_new lo hi rest names h.2
closed_new lo hi (Declares name (meaning.Function place) ∷ rest) names h = absurd h
closed_new lo hi (Declares name (meaning.Struct place) ∷ rest) names h = absurd h
closed_new lo hi (Declares name (meaning.Library function) ∷ rest) names h = absurd h

-- what the end of a scope does to the variables before it, and to its own
ended_old : (lo hi token i : ℕ) (new names : List ScopeEntry) (ends : List (Option ℕ)) → AreNew lo hi new → i < lo
    → slice_get (ended_scopes token (new ++ Opens ∷ names) ends) i ≡ slice_get ends i
ended_old lo hi token i [] names ends h k = refl
ended_old lo hi token i (Opens ∷ rest) names ends h k = absurd h
ended_old lo hi token i (Declares name (meaning.Variable place) ∷ rest) names ends h k =
    ended_old lo hi token i rest names (item_replaced ends place (Some token)) h.2 k
    ∙ replaced_other ends place i (Some token) (λ e. omega (arith, e, k, h.0))
ended_old lo hi token i (Declares name (meaning.Function place) ∷ rest) names ends h k = absurd h
ended_old lo hi token i (Declares name (meaning.Struct place) ∷ rest) names ends h k = absurd h
ended_old lo hi token i (Declares name (meaning.Library function) ∷ rest) names ends h k = absurd h

ended_long : (lo hi token : ℕ) (new names : List ScopeEntry) (ends : List (Option ℕ)) → AreNew lo hi new
    → length (ended_scopes token (new ++ Opens ∷ names) ends) ≡ length ends
ended_long lo hi token [] names ends h = refl
ended_long lo hi token (Opens ∷ rest) names ends h = absurd h
ended_long lo hi token (Declares name (meaning.Variable place) ∷ rest) names ends h =
    ended_long lo hi token rest names (item_replaced ends place (Some token)) h.2 ∙ length_replaced ends place (Some token)
ended_long lo hi token (Declares name (meaning.Function place) ∷ rest) names ends h = absurd h
ended_long lo hi token (Declares name (meaning.Struct place) ∷ rest) names ends h = absurd h
ended_long lo hi token (Declares name (meaning.Library function) ∷ rest) names ends h = absurd h

-- one more end, before the token
end_more : (n place i token : ℕ) (ends : List (Option ℕ)) → token < n → i < length ends → (i ≡ place) ⊎ EndsBefore n (slice_get ends i)
    → EndsBefore n (slice_get (item_replaced ends place (Some token)) i)
end_more n place i token ends l inside (inl e) =
    subst (λ p. EndsBefore n (slice_get (item_replaced ends p (Some token)) i)) e (rw (replaced_same ends i (Some token) inside) l)
end_more n place i token ends l inside (inr h) = end_by (cases_same place i)
  where
    cases_same : (p q : ℕ) → (p ≡ q) ⊎ (p ≡ q → ⊥)
    cases_same zero zero = inl refl
    cases_same zero (suc q) = inr (λ e. omega (arith, e))
    cases_same (suc p) zero = inr (λ e. omega (arith, e))
    cases_same (suc p) (suc q) = next (cases_same p q)
      where
        next : (p ≡ q) ⊎ (p ≡ q → ⊥) → (suc p ≡ suc q) ⊎ (suc p ≡ suc q → ⊥)
        next (inl e) = inl (ap suc e)
        next (inr f) = inr (λ e. f (omega (arith, e)))

    end_by : (place ≡ i) ⊎ (place ≡ i → ⊥) → EndsBefore n (slice_get (item_replaced ends place (Some token)) i)
    end_by (inl e) = subst (λ p. EndsBefore n (slice_get (item_replaced ends p (Some token)) i)) (sym e) (rw (replaced_same ends i (Some token) inside) l)
    end_by (inr f) = rw (replaced_other ends place i (Some token) f) h

ended_new : (lo hi n token i : ℕ) (new names : List ScopeEntry) (ends : List (Option ℕ)) → AreNew lo hi new → token < n → i < length ends
    → either_end n i new (slice_get ends i) → EndsBefore n (slice_get (ended_scopes token (new ++ Opens ∷ names) ends) i)
ended_new lo hi n token i [] names ends h l inside (inl e) = absurd e
ended_new lo hi n token i [] names ends h l inside (inr e) = e
ended_new lo hi n token i (Opens ∷ rest) names ends h l inside e = absurd h
ended_new lo hi n token i (Declares name (meaning.Variable place) ∷ rest) names ends h l inside e =
    ended_new lo hi n token i rest names (item_replaced ends place (Some token)) h.2 l (omega (arith, inside, length_replaced ends place (Some token))) (either_more e)
  where
    either_more : either_end n i (Declares name (meaning.Variable place) ∷ rest) (slice_get ends i)
        → either_end n i rest (slice_get (item_replaced ends place (Some token)) i)
    either_more (inl (inl e)) = inr (end_more n place i token ends l inside (inl e))
    either_more (inl (inr e)) = inl e
    either_more (inr e) = inr (end_more n place i token ends l inside (inr e))
ended_new lo hi n token i (Declares name (meaning.Function place) ∷ rest) names ends h l inside e = absurd h
ended_new lo hi n token i (Declares name (meaning.Struct place) ∷ rest) names ends h l inside e = absurd h
ended_new lo hi n token i (Declares name (meaning.Library function) ∷ rest) names ends h l inside e = absurd h

-- a part less_is a scope of its own, at whose end its variables' scopes end
abbrev pub after_scope : Walk → Walk
after_scope v = record v { names = names_after_scope v.names; ends = ended_scopes v.latest v.names v.ends }

pub scoped_ends : {lo hi : ℕ} {w v : Walk} → Marks lo hi (scope_opened w) v → length w.ends ≡ length w.variables → (n : ℕ) → hi ≤ n → w.latest < n → (i : ℕ)
    → length w.variables ≤ i → i < length v.variables → EndsBefore n (slice_get (after_scope v).ends i)
scoped_ends {w = w} {v = v} m h n p q i low high = subst (λ ns. EndsBefore n (slice_get (ended_scopes v.latest ns v.ends) i)) (sym m.names)
    (ended_new (length w.variables) (length v.variables) n v.latest i m.new w.names v.ends m.own (m.latest n p q) (omega (arith, high, m.long h))
    (m.ends h n p q i low high))

pub marks_scoped : {lo hi : ℕ} {w v : Walk} → Marks lo hi (scope_opened w) v → Marks lo hi w (after_scope v)
marks_scoped {lo = lo} {hi = hi} {w = w} {v = v} m = record {
  latest = m.latest;
  new = [];
  names = ap names_after_scope m.names ∙ closed_new (length w.variables) (length v.variables) m.new w.names m.own;
  own = tt;
  more = m.more;
  locals = m.locals;
  globals = m.globals;
  kept = m.kept;
  long = λ h. ap (λ ns. length (ended_scopes v.latest ns v.ends)) m.names
      ∙ ended_long (length w.variables) (length v.variables) v.latest m.new w.names v.ends m.own ∙ m.long h;
  old = λ h i p. ap (λ ns. slice_get (ended_scopes v.latest ns v.ends) i) m.names
      ∙ ended_old (length w.variables) (length v.variables) v.latest i m.new w.names v.ends m.own p ∙ m.old h i p;
  ends = λ h n p q i low high. inr (scoped_ends m h n p q i low high);
  entries = m.entries;
}

-- the same for globals

-- a part that leaves names and variables as they are
pub record Still (w v : Walk) : Type 0 where
  pub names : v.names ≡ w.names
  pub variables : v.variables ≡ w.variables
  pub ends : v.ends ≡ w.ends
  pub globals : v.globals ≡ w.globals

pub still_here : (w : Walk) → Still w w
still_here w = record { names = refl; variables = refl; ends = refl; globals = refl }

pub still_then : {w u v : Walk} → Still w u → Still u v → Still w v
still_then a b = record {
  names = b.names ∙ a.names;
  variables = b.variables ∙ a.variables;
  ends = b.ends ∙ a.ends;
  globals = b.globals ∙ a.globals;
}

abbrev pub IsGlobalBelow : ℕ → Variable → Type 0
IsGlobalBelow count (variable.Global index) = index < count
IsGlobalBelow count (variable.Local index) = ⊥

-- a global, whose name stands at this token or behind it
pub record IsOuter (lo count : ℕ) (entry : VariableEntry) : Type 0 where
  pub from : lo ≤ entry.from
  pub global : IsGlobalBelow count entry.variable

pub record OuterMarks (lo hi : ℕ) (w v : Walk) : Type 0 where
  pub latest : (n : ℕ) → hi ≤ n → w.latest < n → v.latest < n
  pub more : length w.variables ≤ length v.variables
  pub globals : w.globals ≤ v.globals
  pub kept : (i : ℕ) → i < length w.variables → slice_get v.variables i ≡ slice_get w.variables i
  pub long : length w.ends ≡ length w.variables → length v.ends ≡ length v.variables
  pub old : length w.ends ≡ length w.variables → (i : ℕ) → i < length w.variables → slice_get v.ends i ≡ slice_get w.ends i
  pub entries : (i : ℕ) (entry : VariableEntry) → length w.variables ≤ i → slice_get v.variables i ≡ Some entry → IsOuter lo v.globals entry

pub global_more : (m n : ℕ) (v : Variable) → m ≤ n → IsGlobalBelow m v → IsGlobalBelow n v
global_more m n (variable.Global index) h k = omega (arith, h, k)
global_more m n (variable.Local index) h k = absurd k

pub outer_marks_wider : {lo hi : ℕ} {w v : Walk} (l h : ℕ) → OuterMarks lo hi w v → l ≤ lo → hi ≤ h → OuterMarks l h w v
outer_marks_wider l h m low high = record {
  latest = λ n p q. m.latest n (omega (arith, high, p)) q;
  more = m.more;
  globals = m.globals;
  kept = m.kept;
  long = m.long;
  old = m.old;
  entries = λ i entry p q. let own = m.entries i entry p q in record { from = omega (arith, low, own.from); global = own.global };
}

pub outer_marks_then : {lo hi : ℕ} {w u v : Walk} → OuterMarks lo hi w u → OuterMarks lo hi u v → OuterMarks lo hi w v
outer_marks_then {lo = lo} {w = w} {u = u} {v = v} a b = record {
  latest = λ n p q. b.latest n p (a.latest n p q);
  more = omega (arith, a.more, b.more);
  globals = omega (arith, a.globals, b.globals);
  kept = λ i p. b.kept i (omega (arith, p, a.more)) ∙ a.kept i p;
  long = λ h. b.long (a.long h);
  old = λ h i p. b.old (a.long h) i (omega (arith, p, a.more)) ∙ a.old h i p;
  entries = λ i entry low e. entries_by i entry low e (cases_lt i (length u.variables));
}
  where
    entries_by : (i : ℕ) (entry : VariableEntry) → length w.variables ≤ i → slice_get v.variables i ≡ Some entry
        → (i < length u.variables) ⊎ (length u.variables ≤ i) → IsOuter lo v.globals entry
    entries_by i entry low e (inl less) =
        let own = a.entries i entry low (sym (b.kept i less) ∙ e) in
        record { from = own.from; global = global_more u.globals v.globals entry.variable b.globals own.global }
    entries_by i entry low e (inr more) = b.entries i entry more e

pub outer_marks_still : (lo hi : ℕ) (w v : Walk) → Still w v → ((n : ℕ) → hi ≤ n → w.latest < n → v.latest < n) → OuterMarks lo hi w v
outer_marks_still lo hi w v s latest = record {
  latest = latest;
  more = omega (arith, ap length s.variables);
  globals = omega (arith, s.globals);
  kept = λ i p. ap (λ xs. slice_get xs i) s.variables;
  long = λ h. ap length s.ends ∙ h ∙ sym (ap length s.variables);
  old = λ h i p. ap (λ xs. slice_get xs i) s.ends;
  entries = λ i entry low e. absurd (omega (arith, low, slice_get_within v.variables i entry e, ap length s.variables));
}

abbrev outer_entry : ℕ → List ℕ → Walk → VariableEntry
outer_entry token name w = record { name = name; variable = variable.Global w.globals; from = token }

pub outer_marks_declared : (token : ℕ) (name : List ℕ) (of : TypeTree) (w : Walk) → OuterMarks token (token + 1) w (with_variable true token name of w)
outer_marks_declared token name of w = record {
  latest = λ n p q. q;
  more = omega (arith, more);
  globals = omega arith;
  kept = λ i p. get_before w.variables (outer_entry token name w) i p;
  long = λ h. omega (arith, h, more, length-append w.ends (None ∷ []));
  old = λ h i p. get_before w.ends None i (omega (arith, h, p));
  entries = λ i entry low e.
      let inside : i < length (w.variables ++ outer_entry token name w ∷ []) = slice_get_within (w.variables ++ outer_entry token name w ∷ []) i entry e in
      let is : outer_entry token name w ≡ entry = same_Some (outer_entry token name w) entry
      (sym (get_new w.variables (outer_entry token name w) i low (omega (arith, inside, more))) ∙ e) in
      subst (IsOuter token (w.globals + 1)) is (record { from = omega arith; global = omega arith });
}
  where
    more : length (w.variables ++ outer_entry token name w ∷ []) ≡ length w.variables + 1
    more = length-append w.variables (outer_entry token name w ∷ [])

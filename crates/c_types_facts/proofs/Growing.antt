-- What a part of the walk declares beside what it notes of types.
use Rattle.std.proofs.Common.{◌≡◌, ℕ, ◌+◌, refl, ap, subst, sym, ◌∙◌, arith, List, [], ◌∷◌, ◌++◌, length, length-append, map, Bool, true, false, append_assoc}
use Rattle.std.specs.Prelude.{nat_le, not, if◌then◌else◌}
use Rattle.std.proofs.lemmas.List.{append-nil, map-append}
use Rattle.c_types_expressions.proofs.Given.{Gives}
use Rattle.c_types_rules.specs.declared.fault.FaultKind.{FaultKind}
use Rattle.c_types_rules.specs.declared.fault.FaultKind.TheVariants as fault
use Rattle.c_types_rules.specs.Words.{cells_of, is_object, most_cells, TypeTree}
use Rattle.c_types_expressions.specs.declared.walk.Walk.{Walk}
use Rattle.c_types_expressions.specs.Walked.{Fine, Faulty, Done, fault_if_wrong, with_variable}
use Rattle.c_types_walk.specs.StatementWalk.{counted_cells, object_type_checked}
use Rattle.c_types_laws.proofs.Leading.{either}
use Rattle.c_types_faults.specs.Events.{Event, Closes, scope_events}
use Rattle.c_types_faults.specs.Scopes.{start_of}
use Rattle.c_types_facts.specs.Statements.{Typed}
use Rattle.c_types_facts.specs.Texts.{typed_token, typed_type}
use Rattle.c_types_facts.proofs.Logs.{Log, Logged, Rest, Says, noting, noting_both, rest, says_left, says_right, token, tokens_both, tokens_in}

abbrev pub locals_behind : Bool → List Typed → ℕ → ℕ
locals_behind true own n = n
locals_behind false own n = n + length own

-- on the way from one point to another, of globals or of locals
pub record Grown (global : Bool) (es : List Event) (P : Walk → List Typed → Type 0) (w v : Walk) : Type 0 where
  pub own : List Typed
  pub log : Log
  pub types : v.types ≡ noting log w.types
  pub tokens : map token log ≡ tokens_in es
  pub starts : map start_of v.variables ≡ map start_of w.variables ++ map typed_token own
  pub declared : v.declared_types ≡ w.declared_types ++ map typed_type own
  pub functions : v.functions ≡ w.functions
  pub definitions : v.definitions ≡ w.definitions
  pub locals : v.locals ≡ locals_behind global own w.locals
  pub holds : (z : Walk) → Says log z.types → P z own

locals_then : (global : Bool) (a b : List Typed) (n m o : ℕ) → m ≡ locals_behind global a n → o ≡ locals_behind global b m
    → o ≡ locals_behind global (a ++ b) n
locals_then true a b n m o h k = k ∙ h
locals_then false a b n m o h k = omega (arith, h, k, length-append a b)

locals_none : (global : Bool) (n m : ℕ) → m ≡ n → m ≡ locals_behind global [] n
locals_none true n m h = h
locals_none false n m h = omega (arith, h)

-- two lists are joined behind another
pub joined : {A B : Type 0} (f : A → B) (xs ys zs : List B) (a b : List A) → ys ≡ xs ++ map f a → zs ≡ ys ++ map f b → zs ≡ xs ++ map f (a ++ b)
joined f xs ys zs a b h k = k ∙ ap (λ l. l ++ map f b) h ∙ append_assoc xs (map f a) (map f b) ∙ ap (λ l. xs ++ l) (sym (map-append f a b))

-- the variables of one part, and then those of another
abbrev pub Both : (Walk → List Typed → Type 0) → (Walk → List Typed → Type 0) → Walk → List Typed → Type 0
Both P Q z own = (a : List Typed) × ((b : List Typed) × (P z a × (Q z b × (own ≡ a ++ b))))

pub grown_then : {global : Bool} {es fs : List Event} {P Q : Walk → List Typed → Type 0} {w v u : Walk} → Grown global es P w v → Grown global fs Q v u
    → Grown global (es ++ fs) (Both P Q) w u
grown_then {global = global} {es = es} {fs = fs} {w = w} {v = v} {u = u} a b = record {
  own = a.own ++ b.own;
  log = a.log ++ b.log;
  types = b.types ∙ ap (noting b.log) a.types ∙ sym (noting_both a.log b.log w.types);
  tokens = map-append token a.log b.log ∙ ap (λ ks. ks ++ map token b.log) a.tokens ∙ ap (λ ks. tokens_in es ++ ks) b.tokens ∙ sym (tokens_both es fs);
  starts = joined typed_token (map start_of w.variables) (map start_of v.variables) (map start_of u.variables) a.own b.own a.starts b.starts;
  declared = joined typed_type w.declared_types v.declared_types u.declared_types a.own b.own a.declared b.declared;
  functions = b.functions ∙ a.functions;
  definitions = b.definitions ∙ a.definitions;
  locals = locals_then global a.own b.own w.locals v.locals u.locals a.locals b.locals;
  holds = λ z h. (a.own, (b.own, (a.holds z (says_left a.log b.log z.types h), (b.holds z (says_right a.log b.log z.types h), refl))));
}

pub grown_so : {global : Bool} {es : List Event} {P Q : Walk → List Typed → Type 0} {w v : Walk} → Grown global es P w v
    → ((z : Walk) (own : List Typed) → P z own → Q z own) → Grown global es Q w v
grown_so a f = record {
  own = a.own;
  log = a.log;
  types = a.types;
  tokens = a.tokens;
  starts = a.starts;
  declared = a.declared;
  functions = a.functions;
  definitions = a.definitions;
  locals = a.locals;
  holds = λ z h. f z a.own (a.holds z h);
}

-- from and to points at which no more is known of this
pub grown_as : {global : Bool} {es : List Event} {P : Walk → List Typed → Type 0} {w v : Walk} (x y : Walk) → Grown global es P w v
    → rest x ≡ rest w → x.types ≡ w.types → rest y ≡ rest v → y.types ≡ v.types → Grown global es P x y
grown_as {global = global} x y a rx tx ry ty = record {
  own = a.own;
  log = a.log;
  types = ty ∙ a.types ∙ ap (noting a.log) (sym tx);
  tokens = a.tokens;
  starts = ap (λ (r : Rest). map start_of r.variables) ry ∙ a.starts ∙ ap (λ (r : Rest). map start_of r.variables ++ map typed_token a.own) (sym rx);
  declared = ap (λ (r : Rest). r.declared) ry ∙ a.declared ∙ ap (λ (r : Rest). r.declared ++ map typed_type a.own) (sym rx);
  functions = ap (λ (r : Rest). r.functions) ry ∙ a.functions ∙ ap (λ (r : Rest). r.functions) (sym rx);
  definitions = ap (λ (r : Rest). r.definitions) ry ∙ a.definitions ∙ ap (λ (r : Rest). r.definitions) (sym rx);
  locals = ap (λ (r : Rest). r.locals) ry ∙ a.locals ∙ ap (λ (r : Rest). locals_behind global a.own r.locals) (sym rx);
  holds = a.holds;
}

pub grown_events : {global : Bool} {P : Walk → List Typed → Type 0} {w v : Walk} (es fs : List Event) → tokens_in es ≡ tokens_in fs → Grown global es P w v
    → Grown global fs P w v
grown_events es fs e a = record {
  own = a.own;
  log = a.log;
  types = a.types;
  tokens = a.tokens ∙ e;
  starts = a.starts;
  declared = a.declared;
  functions = a.functions;
  definitions = a.definitions;
  locals = a.locals;
  holds = a.holds;
}

-- in a scope of its own
pub grown_scoped : {global : Bool} {P : Walk → List Typed → Type 0} {w v : Walk} (es : List Event) → Grown global es P w v → Grown global (scope_events es) P w v
grown_scoped es a = grown_events es (scope_events es) (sym (tokens_both es (Closes ∷ []) ∙ append-nil (tokens_in es))) a

-- what declares nothing
pub grown_of : {es : List Event} {P : Walk → Type 0} {w v : Walk} (global : Bool) → Logged es P w v → Grown global es (λ z own. P z × (own ≡ [])) w v
grown_of {w = w} {v = v} global a = record {
  own = [];
  log = a.log;
  types = a.types;
  tokens = a.tokens;
  starts = ap (λ (r : Rest). map start_of r.variables) a.still ∙ sym (append-nil (map start_of w.variables));
  declared = ap (λ (r : Rest). r.declared) a.still ∙ sym (append-nil w.declared_types);
  functions = ap (λ (r : Rest). r.functions) a.still;
  definitions = ap (λ (r : Rest). r.definitions) a.still;
  locals = locals_none global w.locals v.locals (ap (λ (r : Rest). r.locals) a.still);
  holds = λ z h. (a.holds z h, refl);
}

pub grown_none : (global : Bool) (w : Walk) → Grown global [] (λ z own. own ≡ []) w w
grown_none global w = record {
  own = [];
  log = [];
  types = refl;
  tokens = refl;
  starts = sym (append-nil (map start_of w.variables));
  declared = sym (append-nil w.declared_types);
  functions = refl;
  definitions = refl;
  locals = locals_none global w.locals w.locals refl;
  holds = λ z h. refl;
}

pub grown_after : {global : Bool} {es fs : List Event} {P : Walk → Type 0} {Q : Walk → List Typed → Type 0} {w v u : Walk} → Logged es P w v
    → Grown global fs Q v u → Grown global (es ++ fs) (λ z own. P z × Q z own) w u
grown_after {global = global} {Q = Q} a b = grown_so (grown_then (grown_of global a) b) (λ z own h.
    (h.1.1.0.0, subst (Q z) (sym (h.1.1.1.1 ∙ ap (λ l. l ++ h.1.0) h.1.1.0.1)) h.1.1.1.0))

pub grown_before : {global : Bool} {es fs : List Event} {P : Walk → List Typed → Type 0} {Q : Walk → Type 0} {w v u : Walk} → Grown global es P w v
    → Logged fs Q v u → Grown global (es ++ fs) (λ z own. P z own × Q z) w u
grown_before {global = global} {P = P} a b = grown_so (grown_then a (grown_of global b)) (λ z own h.
    (subst (P z) (sym (h.1.1.1.1 ∙ ap (λ l. h.0 ++ l) h.1.1.1.0.1 ∙ append-nil h.0)) h.1.1.0, h.1.1.1.0.0))

-- tests that change nothing
pub unless_grown : {global : Bool} {es : List Event} {P : Walk → List Typed → Type 0} {w v : Walk} (b : Bool) (kind : FaultKind) (own : ℕ)
    → Grown global es P w v → Gives (fault_if_wrong b kind own v) (λ (d : Done) u. Grown global es P w u)
unless_grown true kind own g = record { by = tt }
unless_grown false kind own g = record { by = g }

pub record Still (w v : Walk) : Type 0 where
  pub same : rest v ≡ rest w
  pub types : v.types ≡ w.types
  pub names : v.names ≡ w.names

counted_still : (b c : Bool) (kind : FaultKind) (own cells : ℕ) (w : Walk)
    → Gives {A = Done} (if b then Fine tt w else if c then Fine tt (record w { global_cells = cells }) else Faulty kind own) (λ d v. Still w v)
counted_still true c kind own cells w = record { by = record { same = refl; types = refl; names = refl } }
counted_still false true kind own cells w = record { by = record { same = refl; types = refl; names = refl } }
counted_still false false kind own cells w = record { by = tt }

pub sized_still : (global : Bool) (own : ℕ) (t : TypeTree) (w : Walk) → Gives (object_type_checked global own t w) (λ d v. Still w v)
sized_still global own t w =
    either (is_object w.structs t) (counted_cells global own (cells_of w.structs t) w) (Faulty fault.Object own)
    (counted_still (not global) (nat_le (w.global_cells + cells_of w.structs t) most_cells) fault.Object own (w.global_cells + cells_of w.structs t) w)
    (record { by = tt })

-- a variable, as it is declared
pub record Same (global : Bool) (own : Typed) (w v : Walk) : Type 0 where
  pub types : v.types ≡ w.types
  pub functions : v.functions ≡ w.functions
  pub definitions : v.definitions ≡ w.definitions
  pub locals : v.locals ≡ locals_behind global (own ∷ []) w.locals

pub one_same : (global : Bool) (own : ℕ) (name : List ℕ) (t of : TypeTree) (w : Walk)
    → Same global (record { token = own; of = of }) w (with_variable global own name t w)
one_same true own name t of w = record { types = refl; functions = refl; definitions = refl; locals = refl }
one_same false own name t of w = record { types = refl; functions = refl; definitions = refl; locals = omega arith }

pub one_starts : (global : Bool) (own : ℕ) (name : List ℕ) (t : TypeTree) (w : Walk)
    → map start_of (with_variable global own name t w).variables ≡ map start_of w.variables ++ own ∷ []
one_starts global own name t w = map-append start_of w.variables _

-- behind the variable itself comes its initialiser
pub variable_grown : {es : List Event} {P : Walk → Type 0} (global : Bool) (own : ℕ) (name : List ℕ) (t of : TypeTree) (w v u : Walk)
    → Logged es P (with_variable global own name t w) v → u.types ≡ v.types → u.variables ≡ v.variables → u.functions ≡ v.functions
    → u.definitions ≡ v.definitions → u.locals ≡ v.locals → u.declared_types ≡ w.declared_types ++ of ∷ []
    → Grown global es (λ z vs. (vs ≡ record { token = own; of = of } ∷ []) × P z) w u
variable_grown global own name t of w v u a types variables functions definitions locals declared =
    let one : Walk = with_variable global own name t w in
    let same : Same global (record { token = own; of = of }) w one = one_same global own name t of w in
    record {
      own = record { token = own; of = of } ∷ [];
      log = a.log;
      types = types ∙ a.types ∙ ap (noting a.log) same.types;
      tokens = a.tokens;
      starts = ap (map start_of) (variables ∙ ap (λ (r : Rest). r.variables) a.still) ∙ one_starts global own name t w;
      declared = declared;
      functions = functions ∙ ap (λ (r : Rest). r.functions) a.still ∙ same.functions;
      definitions = definitions ∙ ap (λ (r : Rest). r.definitions) a.still ∙ same.definitions;
      locals = locals ∙ ap (λ (r : Rest). r.locals) a.still ∙ same.locals;
      holds = λ z h. (refl, a.holds z h);
    }

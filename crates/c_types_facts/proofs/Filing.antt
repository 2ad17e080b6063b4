-- What an item leaves: what it notes and declares, and that functions and definitions come one behind another.
use Rattle.std.proofs.Common.{◌≡◌, ℕ, ◌+◌, refl, ap, sym, ◌∙◌, arith, List, [], ◌++◌, length, map, Bool, append_assoc}
use Rattle.std.specs.Prelude.{slice_get}
use Rattle.std.proofs.lemmas.List.{append-nil, map-append}
use Rattle.base_lists.proofs.Lists.{Stays}
use Rattle.c_types_rules.specs.TypeTree.{TypeTree}
use Rattle.c_types_expressions.specs.declared.walk.Walk.{Walk}
use Rattle.c_types_faults.specs.Events.{Event}
use Rattle.c_types_faults.specs.Scopes.{start_of}
use Rattle.c_types_facts.specs.Statements.{Typed}
use Rattle.c_types_facts.specs.Texts.{typed_token, typed_type}
use Rattle.c_types_facts.proofs.Growing.{Both, Grown, joined}
use Rattle.c_types_facts.proofs.Logs.{Log, Says, noting, noting_both, says_left, says_right, token, tokens_both, tokens_in}

-- what is known later, of functions, their definitions, and the types of variables
pub record Follows (w v : Walk) : Type 0 where
  pub functions : Stays w.functions v.functions
  pub definitions : Stays w.definitions v.definitions
  pub more : List TypeTree
  pub declared : v.declared_types ≡ w.declared_types ++ more

pub follows_here : (w : Walk) → Follows w w
follows_here w = record { functions = λ i x h. h; definitions = λ i x h. h; more = []; declared = sym (append-nil w.declared_types) }

pub follows_then : {w v u : Walk} → Follows w v → Follows v u → Follows w u
follows_then {w = w} a b = record {
  functions = λ i x h. b.functions i x (a.functions i x h);
  definitions = λ i x h. b.definitions i x (a.definitions i x h);
  more = a.more ++ b.more;
  declared = b.declared ∙ ap (λ l. l ++ b.more) a.declared ∙ append_assoc w.declared_types a.more b.more;
}

-- An item that defines `count` functions; `P` holds of them in the final table.
pub record Filed (count : ℕ) (es : List Event) (P : Walk → List Typed → Type 0) (w v : Walk) : Type 0 where
  pub own : List Typed
  pub log : Log
  pub types : v.types ≡ noting log w.types
  pub tokens : map token log ≡ tokens_in es
  pub starts : map start_of v.variables ≡ map start_of w.variables ++ map typed_token own
  pub declared : v.declared_types ≡ w.declared_types ++ map typed_type own
  pub functions : Stays w.functions v.functions
  pub definitions : Stays w.definitions v.definitions
  pub count_is : length v.definitions ≡ length w.definitions + count
  pub holds : (z : Walk) → Says log z.types → Follows v z → P z own

pub filed_follows : {count : ℕ} {es : List Event} {P : Walk → List Typed → Type 0} {w v : Walk} → Filed count es P w v → Follows w v
filed_follows a = record { functions = a.functions; definitions = a.definitions; more = map typed_type a.own; declared = a.declared }

pub filed_then : {n m : ℕ} {es fs : List Event} {P Q : Walk → List Typed → Type 0} {w v u : Walk} → Filed n es P w v → Filed m fs Q v u
    → Filed (n + m) (es ++ fs) (Both P Q) w u
filed_then {es = es} {fs = fs} {w = w} {v = v} {u = u} a b = record {
  own = a.own ++ b.own;
  log = a.log ++ b.log;
  types = b.types ∙ ap (noting b.log) a.types ∙ sym (noting_both a.log b.log w.types);
  tokens = map-append token a.log b.log ∙ ap (λ ks. ks ++ map token b.log) a.tokens ∙ ap (λ ks. tokens_in es ++ ks) b.tokens ∙ sym (tokens_both es fs);
  starts = joined typed_token (map start_of w.variables) (map start_of v.variables) (map start_of u.variables) a.own b.own a.starts b.starts;
  declared = joined typed_type w.declared_types v.declared_types u.declared_types a.own b.own a.declared b.declared;
  functions = λ i x h. b.functions i x (a.functions i x h);
  definitions = λ i x h. b.definitions i x (a.definitions i x h);
  count_is = omega (arith, a.count_is, b.count_is);
  holds = λ z h f. (
    a.own,
    (
      b.own,
      (
        a.holds z (says_left a.log b.log z.types h) (follows_then (filed_follows b) f),
        (b.holds z (says_right a.log b.log z.types h) f, refl),
      ),
    ),
  );
}

pub filed_so : {n : ℕ} {es : List Event} {P Q : Walk → List Typed → Type 0} {w v : Walk} → Filed n es P w v
    → ((z : Walk) (own : List Typed) → P z own → Q z own) → Filed n es Q w v
filed_so a f = record {
  own = a.own;
  log = a.log;
  types = a.types;
  tokens = a.tokens;
  starts = a.starts;
  declared = a.declared;
  functions = a.functions;
  definitions = a.definitions;
  count_is = a.count_is;
  holds = λ z h k. f z a.own (a.holds z h k);
}

-- what adds no function
pub filed_of : {global : Bool} {es : List Event} {P : Walk → List Typed → Type 0} {w v : Walk} → Grown global es P w v → Filed 0 es P w v
filed_of a = record {
  own = a.own;
  log = a.log;
  types = a.types;
  tokens = a.tokens;
  starts = a.starts;
  declared = a.declared;
  functions = λ i x h. ap (λ fs. slice_get fs i) a.functions ∙ h;
  definitions = λ i x h. ap (λ ds. slice_get ds i) a.definitions ∙ h;
  count_is = omega (arith, ap length a.definitions);
  holds = λ z h k. a.holds z h;
}

-- what neither notes nor declares anything, but for functions
pub filed_none : {P : Walk → List Typed → Type 0} (es : List Event) (w v : Walk) → tokens_in es ≡ [] → v.types ≡ w.types → v.variables ≡ w.variables
    → v.declared_types ≡ w.declared_types → v.definitions ≡ w.definitions → Stays w.functions v.functions → ((z : Walk) → P z []) → Filed 0 es P w v
filed_none es w v tokens types variables declared definitions functions f = record {
  own = [];
  log = [];
  types = types;
  tokens = sym tokens;
  starts = ap (map start_of) variables ∙ sym (append-nil (map start_of w.variables));
  declared = declared ∙ sym (append-nil w.declared_types);
  functions = functions;
  definitions = λ i x h. ap (λ ds. slice_get ds i) definitions ∙ h;
  count_is = omega (arith, ap length definitions);
  holds = λ z h k. f z;
}

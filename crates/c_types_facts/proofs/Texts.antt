-- A text as a whole: what is noted of it is what its declarations say.
use Rattle.std.proofs.Common.{◌≡◌, ℕ, zero, suc, ◌+◌, ◌-◌, refl, ap, subst, sym, ◌∙◌, arith, List, [], ◌∷◌, length, map, replicate, Option, Some, None, true, false}
use Rattle.std.specs.Prelude.{is_some, option_and_then, option_map, slice_get}
use Rattle.std.proofs.lemmas.List.{length-replicate}
use Rattle.c_types_expressions.proofs.Giving.{Gives as GivesIn}
use Rattle.c_types_expressions.proofs.Given.{Gives, and_then, weaker}
use Rattle.c_syntax.specs.Words.{SourceTree, IsShaped}
use Rattle.c_types_rules.specs.declared.fault.FaultKind.{FaultKind}
use Rattle.c_types_rules.specs.TypeTree.{TypeTree}
use Rattle.c_types.specs.Answers.{declared_at, place_at, variable_at, variable_of}
use Rattle.c_types.specs.Fault.{ends_with, last_fault, walk_tree}
use Rattle.c_types.specs.Parts.{Part, Expression, Use, Declared, Begins, parts_of}
use Rattle.c_types.proofs.Noted.{Seen, noting, noting_all, plainly, seen}
use Rattle.c_types.proofs.NotedItems.{text_notes}
use Rattle.c_types_expressions.specs.declared.walk.Walk.{Walk}
use Rattle.c_types_expressions.specs.Words.{empty_walk, Walked, Fine, Done}
use Rattle.c_types_faults.specs.Events.{events_of}
use Rattle.c_types_faults.specs.Scopes.{scopes_of, start_of}
use Rattle.c_types_faults.proofs.Leaving.{Left}
use Rattle.c_types_faults.proofs.Paths.{view}
use Rattle.c_types_faults.proofs.NotedTexts.{before, text_left}
use Rattle.c_types_faults.specs.Context.{Context, empty_context}
use Rattle.c_types_faults.proofs.Files.{Files}
use Rattle.c_types_faults.proofs.Telling.{shown}
use Rattle.c_types_faults.proofs.Mains.{begins_in_main}
use Rattle.c_types_faults.proofs.Texts.{begins}
use Rattle.c_types_facts.specs.Statements.{Typed}
use Rattle.c_types_facts.specs.Texts.{ItemsTyped, TextTyped, globals_in, type_in, typed_token, typed_type}
use Rattle.c_types_facts.proofs.Filing.{Filed, follows_here}
use Rattle.c_types_facts.proofs.Items.{items_log}
use Rattle.c_types_facts.proofs.Logs.{Says, log_stands}

ends_same : (o : Option (FaultKind × ℕ)) (w : Walk) → Gives (ends_with o w) (λ (d : Done) v. v ≡ w)
ends_same None w = record { by = refl }
ends_same (Some f) w = record { by = tt }

abbrev Told : SourceTree → Walk → Type 0
Told t v = (after : Context) × (Files after (shown v)
    × ((n : ℕ) × Filed n (events_of t) (λ z own. ItemsTyped z 0 empty_context t.items after own) (empty_walk (length t.lines)) v))

text_logs : (t : SourceTree) → Gives (walk_tree t) (λ (d : Done) v. Told t v)
text_logs t = and_then (items_log t.items 0 empty_context (empty_walk (length t.lines)) (begins (length t.lines)) refl) (λ d w p.
    weaker (ends_same (last_fault (length t.lines) w) w) (λ e v q. subst (Told t) (sym q) p))

given : {A : Type 0} {Q : A → Walk → Type 0} {m : Walked A} {a : A} {v : Walk} → Gives m Q → m ≡ Fine a v → Q a v
given {Q = Q} h e = subst (GivesIn Q) e h.by

-- the globals are counted

counted_behind : (ps : List Part) (s : Seen) → (noting_all ps s).globals ≡ globals_in ps + s.globals
counted_behind [] s = omega arith
counted_behind (Expression token ∷ ps) s = counted_behind ps (noting (Expression token) s)
counted_behind (Use token ∷ ps) s = counted_behind ps (noting (Use token) s)
counted_behind (Declared true token name ∷ ps) s = omega (arith, counted_behind ps (noting (Declared true token name) s))
counted_behind (Declared false token name ∷ ps) s = counted_behind ps (noting (Declared false token name) s)
counted_behind (Begins ∷ ps) s = counted_behind ps (noting Begins s)

globals_counted : (t : SourceTree) (known : Walk) → walk_tree t ≡ Fine tt known → known.globals ≡ globals_in (parts_of t)
globals_counted t known e = omega (
  arith,
  ap (λ (s : Seen). s.globals) (text_notes t known e).0,
  counted_behind (parts_of t) (plainly (seen (empty_walk (length t.lines)))),
)

-- of all variables, in their order, the tokens of their names and their types
pub record Whole (t : SourceTree) (known : Walk) : Type 0 where
  pub own : List Typed
  pub typed : TextTyped known t own
  pub types : known.declared_types ≡ map typed_type own
  pub starts : map start_of known.variables ≡ map typed_token own

pub whole : (t : SourceTree) (known : Walk) → IsShaped t → walk_tree t ≡ Fine tt known → Whole t known
whole t known shaped e =
    let told : Told t known = given (text_logs t) e in
    let f = told.1.1.1 in
    let l : Left false 0 (length t.lines) (length t.lines - 1) (events_of t) (scopes_of t) (before t) (view known) = text_left t known shaped e in
    let says : Says f.log known.types =
    subst (Says f.log) (sym f.types) (log_stands (events_of t) f.log (replicate (length t.lines) None) f.tokens l.once
    (λ k h. omega (arith, (l.within k h).1, length-replicate {A = Option TypeTree} (length t.lines) None))) in
    record {
      own = f.own;
      typed = (
        told.0,
        (f.holds known says (follows_here known), sym told.1.0.knows.structs),
        globals_counted t known e,
        begins_in_main t known shaped e,
      );
      types = f.declared;
      starts = f.starts;
    }

pub text_typed : (t : SourceTree) (known : Walk) → IsShaped t → walk_tree t ≡ Fine tt known
    → (own : List Typed) × (TextTyped known t own × (known.declared_types ≡ map typed_type own) × (map start_of known.variables ≡ map typed_token own))
text_typed t known shaped e = let w : Whole t known = whole t known shaped e in (w.own, (w.typed, w.types, w.starts))

-- the declared type of a variable

get_map : {A B : Type 0} (f : A → B) (xs : List A) (i : ℕ) → slice_get (map f xs) i ≡ option_map f (slice_get xs i)
get_map f [] i = refl
get_map f (x ∷ xs) zero = refl
get_map f (x ∷ xs) (suc i) = get_map f xs i

is_some_map : {A B : Type 0} (f : A → B) (o : Option A) → is_some (option_map f o) ≡ is_some o
is_some_map f None = refl
is_some_map f (Some x) = refl

pub variables_typed : (t : SourceTree) (known : Walk) → IsShaped t → walk_tree t ≡ Fine tt known → (own : List Typed) × (TextTyped known t own
    × (map start_of known.variables ≡ map typed_token own) × ((token : ℕ) → declared_at known token ≡ type_in own (place_at known token)))
variables_typed t known shaped e =
    let w : Whole t known = whole t known shaped e in
    (w.own, (w.typed, w.starts, λ token. by known w.own w.types (place_at known token)))
  where
    by : (known : Walk) (own : List Typed) → known.declared_types ≡ map typed_type own → (o : Option ℕ)
        → option_and_then (λ place. slice_get known.declared_types place) o ≡ type_in own o
    by known own h None = refl
    by known own h (Some p) = ap (λ ts. slice_get ts p) h ∙ get_map typed_type own p

pub types_exact : (t : SourceTree) (known : Walk) → walk_tree t ≡ Fine tt known → (token : ℕ)
    → is_some (declared_at known token) ≡ is_some (variable_at known token)
types_exact t known e token =
    let told : Told t known = given (text_logs t) e in
    by known told.1.1.1.own told.1.1.1.declared told.1.1.1.starts (place_at known token)
  where
    by : (known : Walk) (own : List Typed) → known.declared_types ≡ map typed_type own → map start_of known.variables ≡ map typed_token own → (o : Option ℕ)
        → is_some (option_and_then (λ place. slice_get known.declared_types place) o)
        ≡ is_some (option_and_then (λ place. option_map variable_of (slice_get known.variables place)) o)
    by known own h k None = refl
    by known own h k (Some p) =
        ap (λ ts. is_some (slice_get ts p)) h ∙ ap is_some (get_map typed_type own p) ∙ is_some_map typed_type (slice_get own p)
        ∙ sym (is_some_map variable_of (slice_get known.variables p) ∙ sym (is_some_map start_of (slice_get known.variables p))
        ∙ sym (ap is_some (get_map start_of known.variables p)) ∙ ap (λ ss. is_some (slice_get ss p)) k
        ∙ ap is_some (get_map typed_token own p) ∙ is_some_map typed_token (slice_get own p))

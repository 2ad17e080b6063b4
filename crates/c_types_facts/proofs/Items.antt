-- What the walk notes of items is what they declare.
use Rattle.std.proofs.Common.{◌≡◌, ℕ, ◌+◌, refl, ap, ap₂, subst, sym, ◌∙◌, arith, List, [], ◌∷◌, ◌++◌, length, length-append, map, Option, Some, None}
use Rattle.std.proofs.Common.{Bool, true, false, append_assoc, inl, inr}
use Rattle.std.specs.Prelude.{drop, is_some, nat_le, slice_get, take, unwrap_or, ◌&&◌, ◌||◌, if◌then◌else◌}
use Rattle.std.proofs.lemmas.List.{append-nil, length-map}
use Rattle.c_types_expressions.proofs.Given.{Gives, and_then, weaker}
use Rattle.base_lists.proofs.Lists.{get_last, Stays}
use Rattle.c_syntax.specs.declared.parts.Base.{Base}
use Rattle.c_syntax.specs.declared.parts.Base.TheVariants as base
use Rattle.c_syntax.specs.declared.parts.Declarator.{Declarator}
use Rattle.c_syntax.specs.declared.parts.Members.{Members}
use Rattle.c_syntax.specs.declared.parts.Param.{Param}
use Rattle.c_syntax.specs.declared.parts.ParamName.{ParamName}
use Rattle.c_syntax.specs.Words.{EntryList, ItemTree}
use Rattle.c_syntax.specs.ItemTree as i
use Rattle.c_types_rules.specs.declared.fault.FaultKind.TheVariants as fault
use Rattle.c_types_rules.specs.declared.function.FunctionType.{FunctionType}
use Rattle.c_types_rules.specs.declared.layout.StructType.{StructType}
use Rattle.c_types_rules.specs.Words.{is_scalar, is_struct, member_named, cells_of, empty_struct, is_object, most_cells, with_member, TypeTree}
use Rattle.c_types_rules.specs.TypeTree as t
use Rattle.c_types_expressions.specs.declared.names.Meaning.{Meaning}
use Rattle.c_types_expressions.specs.declared.names.Meaning.TheVariants as meaning
use Rattle.c_types_expressions.specs.declared.walk.Definition.{Definition}
use Rattle.c_types_expressions.specs.declared.walk.FunctionEntry.{FunctionEntry}
use Rattle.c_types_expressions.specs.declared.walk.Parameter.{Parameter}
use Rattle.c_types_expressions.specs.declared.walk.Walk.{Walk}
use Rattle.c_types_expressions.specs.Words.{base_type, tagged_type, with_stars, declared_meaning, is_here, is_reserved, Fine, Faulty, Done, scope_opened, with_variable}
use Rattle.c_types_walk.specs.Declarators.{declared_type}
use Rattle.c_types_walk.specs.ItemWalk.{is_clashing_name, function_checked, has_length, is_among, is_defined, known_as, listed_params, looked_param, param_type}
use Rattle.c_types_walk.specs.ItemWalk.{scalar_param, typed_function, typed_member, types_of, walk_body, walk_declarators, walk_item, walk_items}
use Rattle.c_types_walk.specs.ItemWalk.{walk_members, walk_param, walk_params, walk_struct, with_definition, with_function, with_param, with_params, with_tag}
use Rattle.c_types_walk.specs.StatementWalk.{walk_entries}
use Rattle.c_meaning.specs.Known.{computed_type, signature_of, signature_with}
use Rattle.c_types_laws.proofs.Declaring.{more_stays}
use Rattle.c_types_laws.proofs.Leading.{allowed, refused}
use Rattle.c_types_faults.specs.Events.{Event, Closes, Defines, Names as Naming, Struct, entries_events, item_events, items_events, named_events}
use Rattle.c_types_faults.specs.Events.{params_events, scope_events}
use Rattle.c_types_faults.specs.Scopes.{start_of}
use Rattle.defined_functions.specs.Functions.{defined_by}
use Rattle.c_types_faults.specs.Agrees.{Denotes, IsType}
use Rattle.c_types_faults.specs.Known.{Entity, Function}
use Rattle.c_types_faults.specs.Context.{Context, declared_in, inner_context, known_identifiers}
use Rattle.c_types_faults.specs.Functions.{Formal, FunctionGives, Names, PrototypeGives, with_formals}
use Rattle.c_types_faults.proofs.Exprs.{base_tells}
use Rattle.c_types_faults.proofs.Files.{Files, text_found}
use Rattle.c_types_faults.proofs.Functions.{KnownIs, function_tells, known_by, named_knows, next_of, params_know}
use Rattle.c_types_faults.proofs.Items.{behind_files, item_tells, types_same, variables_keep}
use Rattle.c_types_faults.proofs.Knowing.{Matches, agreed, entering_knows}
use Rattle.c_types_faults.proofs.Prototypes.{formal_of, params_tell}
use Rattle.c_types_faults.proofs.Telling.{agrees_on, shown}
use Rattle.c_types_facts.specs.Statements.{EntriesTyped, Typed}
use Rattle.c_types_facts.specs.Texts.{BodyTyped, ItemTyped, ItemsTyped, parameter_variables, signature, typed_param, typed_token, typed_type}
use Rattle.c_types_facts.proofs.Filing.{Filed, filed_none, filed_of, filed_so, filed_then}
use Rattle.c_types_facts.proofs.Growing.{Grown, Same, grown_as, grown_so, grown_then, one_same, one_starts}
use Rattle.c_types_facts.proofs.Logs.{Rest, both, noting, rest, told, tokens_both, tokens_in}
use Rattle.c_types_facts.proofs.Statements.{entries_logs}
use Rattle.c_types_facts.proofs.Variables.{declaration_logs}

-- structs

tagged_same : (own : ℕ) (m : Option Meaning) (w : Walk) → Gives (tagged_type own m w) (λ t v. v ≡ w)
tagged_same own (Some (meaning.Struct index)) w = record { by = refl }
tagged_same own m w = record { by = tt }

base_same : (b : Base) (w : Walk) → Gives (base_type b w) (λ t v. v ≡ w)
base_same (base.Struct own tag) w = tagged_same own (declared_meaning tag w.tags) w
base_same b w = record { by = refl }

typed_same : (d : Declarator) (o : Option TypeTree) (s : StructType) (w : Walk) → Gives (typed_member d o s w) (λ s v. v ≡ w)
typed_same d None s w = record { by = tt }
typed_same d (Some t) s w =
    allowed (is_object w.structs t) fault.Object d.token (Fine (with_member w.structs d.name t s) w) (λ e. record { by = refl })

line_same : (b : TypeTree) (ds : List Declarator) (s : StructType) (w : Walk) → Gives (walk_declarators b ds s w) (λ s v. v ≡ w)
line_same b [] s w = record { by = refl }
line_same b (d ∷ ds) s w = and_then (refused {Q = λ s v. v ≡ w} (is_some (member_named d.name s.members)) fault.Redeclared d.token
    (typed_member d (declared_type d b) s w) (λ e. typed_same d (declared_type d b) s w))
    (λ s v p. weaker (line_same b ds s v) (λ s u q. q ∙ p))

members_same : (ms : List Members) (s : StructType) (w : Walk) → Gives (walk_members ms s w) (λ s v. v ≡ w)
members_same [] s w = record { by = refl }
members_same (m ∷ ms) s w = and_then (base_same m.base w) (λ b v p. and_then (line_same b m.declarators s v) (λ s u q.
    weaker (members_same ms s u) (λ s r n. n ∙ q ∙ p)))

abbrev Keeps : Walk → Walk → Type 0
Keeps w v = (rest v ≡ rest w) × (v.types ≡ w.types)

defined_keeps : (twice fits : Bool) (own : ℕ) (s : StructType) (w v : Walk) → Keeps w v
    → Gives {A = Done} (if twice then Faulty fault.Redeclared own else if fits then Fine tt (record v { structs = v.structs ++ s ∷ [] })
    else Faulty fault.Object own) (λ d u. Keeps w u)
defined_keeps true fits own s w v k = record { by = tt }
defined_keeps false true own s w v k = record { by = k }
defined_keeps false false own s w v k = record { by = tt }

struct_keeps : (own : ℕ) (tag : List ℕ) (ms : List Members) (w : Walk) → Gives (walk_struct own tag ms w) (λ (d : Done) v. Keeps w v)
struct_keeps own tag ms w = and_then (members_same ms empty_struct (with_tag tag w)) (λ s v p.
    defined_keeps (is_here tag w.tags) (nat_le s.cells most_cells) own s w v (ap rest p, ap (λ (y : Walk). y.types) p))

-- parameters

abbrev one_typed : ℕ → Option (List ℕ) → TypeTree → List Typed
one_typed own None of = []
one_typed own (Some name) of = record { token = own; of = of } ∷ []

abbrev typed_from : List Parameter → List Typed
typed_from [] = []
typed_from (p ∷ ps) = one_typed p.token p.name p.ctype ++ typed_from ps

abbrev IsNamed : Option ParamName → Parameter → Type 0
IsNamed o p = one_typed p.token p.name p.ctype ≡ typed_param o p.ctype

looked_named : (body : Bool) (own : ℕ) (o : Option ParamName) (t : TypeTree) (before : List Parameter) (w : Walk)
    → Gives (looked_param body own o t before w) (λ p v. IsNamed o p)
looked_named body own None t before w =
    refused body fault.Unknown own (scalar_param own None t (record { token = own; name = None; ctype = t }) w)
    (λ e. allowed (is_scalar t && true) fault.Object own (Fine (record { token = own; name = None; ctype = t }) w) (λ f. record { by = refl }))
looked_named body own (Some n) t before w =
    refused (is_reserved n.name || is_among n.name before) fault.Redeclared own
    (scalar_param own n.bound (param_type n.bound t) (record { token = n.token; name = Some n.name; ctype = param_type n.bound t }) w)
    (λ e. allowed (is_scalar (param_type n.bound t) && has_length n.bound) fault.Object own
    (Fine (record { token = n.token; name = Some n.name; ctype = param_type n.bound t }) w) (λ f. record { by = refl }))

param_named : (body : Bool) (p : Param) (before : List Parameter) (w : Walk) → Gives (walk_param body p before w) (λ x v. IsNamed p.name x)
param_named body p before w = and_then (base_same p.base w) (λ b v q. looked_named body p.token p.name (with_stars p.stars b) before v)

params_named : (body : Bool) (ps : List Param) (before : List Parameter) (w : Walk) → Gives (walk_params body ps before w)
    (λ xs v. (own : List Parameter) × ((xs ≡ before ++ own) × (typed_from own ≡ parameter_variables ps (map formal_of own))))
params_named body [] before w = record { by = ([], (sym (append-nil before), refl)) }
params_named body (p ∷ ps) before w = and_then (param_named body p before w) (λ x v q.
    weaker (params_named body ps (before ++ x ∷ []) v) (λ xs u n.
    (x ∷ n.0, (n.1.0 ∙ append_assoc before (x ∷ []) n.0, ap₂ (λ l m. l ++ m) q n.1.1))))

pub no_events : (ps : List Param) → tokens_in (params_events ps) ≡ []
no_events [] = refl
no_events (p ∷ ps) = tokens_both (named_events p.name) (params_events ps) ∙ ap₂ (λ l m. l ++ m) (none p.name) (no_events ps)
  where
    none : (o : Option ParamName) → tokens_in (named_events o) ≡ []
    none None = refl
    none (Some n) = refl

abbrev Are : List Typed → Walk → List Typed → Type 0
Are own z vs = vs ≡ own

-- a parameter is a local
param_grown : (own : ℕ) (o : Option (List ℕ)) (t : TypeTree) (w : Walk) → Grown false [] (Are (one_typed own o t)) w (with_param own o t w)
param_grown own None t w = record {
  own = [];
  log = [];
  types = refl;
  tokens = refl;
  starts = sym (append-nil (map start_of w.variables));
  declared = sym (append-nil w.declared_types);
  functions = refl;
  definitions = refl;
  locals = omega arith;
  holds = λ z h. refl;
}
param_grown own (Some name) t w =
    let same : Same false (record { token = own; of = t }) w (with_variable false own name t w) = one_same false own name t t w in
    record {
      own = record { token = own; of = t } ∷ [];
      log = [];
      types = same.types;
      tokens = refl;
      starts = one_starts false own name t w;
      declared = refl;
      functions = same.functions;
      definitions = same.definitions;
      locals = same.locals;
      holds = λ z h. refl;
    }

params_grown : (ps : List Parameter) (w : Walk) → Grown false [] (Are (typed_from ps)) w (with_params ps w)
params_grown [] w = param_grown 0 None t.Void w
params_grown (p ∷ ps) w =
    grown_so (grown_then (param_grown p.token p.name p.ctype w) (params_grown ps (with_param p.token p.name p.ctype w)))
    (λ z own h. h.1.1.1.1 ∙ ap₂ (λ l m. l ++ m) h.1.1.0 h.1.1.1.0)

-- the function itself

abbrev index_of : Option ℕ → Walk → ℕ
index_of o w = unwrap_or o (length w.functions)

pub record Beside (w v : Walk) : Type 0 where
  pub types : v.types ≡ w.types
  pub variables : v.variables ≡ w.variables
  pub declared : v.declared_types ≡ w.declared_types
  pub definitions : v.definitions ≡ w.definitions
  pub functions : Stays w.functions v.functions

named_beside : (name : List ℕ) (f : FunctionType) (o : Option ℕ) (w : Walk) → Beside w (with_function name f o w)
named_beside name f None w = record {
  types = refl;
  variables = refl;
  declared = refl;
  definitions = refl;
  functions = more_stays w.functions (record { name = name; ctype = f });
}
named_beside name f (Some j) w = record { types = refl; variables = refl; declared = refl; definitions = refl; functions = λ i x h. h }

declares_same : (own : ℕ) (taken : Bool) (gives : TypeTree) (w : Walk) → Gives (function_checked own taken gives w) (λ (d : Done) v. v ≡ w)
declares_same own taken gives w =
    refused taken fault.Redeclared own (if is_struct gives then Faulty fault.Object own else Fine tt w)
    (λ e. refused (is_struct gives) fault.Object own (Fine tt w) (λ f. record { by = refl }))

some_type : (o : Option FunctionEntry) (f : FunctionType) → IsType o (λ g. g.ctype ≡ f) → (g : FunctionEntry) × ((o ≡ Some g) × (g.ctype ≡ f))
some_type None f h = absurd h
some_type (Some g) f h = (g, (refl, h))

front : {A : Type 0} (xs ys : List A) → take (length xs) (xs ++ ys) ≡ xs
front [] ys = refl
front (x ∷ xs) ys = ap (λ l. x ∷ l) (front xs ys)

back : {A : Type 0} (xs ys : List A) → drop (length xs) (xs ++ ys) ≡ ys
back [] ys = refl
back (x ∷ xs) ys = back xs ys

-- the part of a list that stands between two others
middle : {A : Type 0} (all xs ys zs : List A) (first count : ℕ) → all ≡ (xs ++ ys) ++ zs → first ≡ length xs → count ≡ length ys
    → take count (drop first all) ≡ ys
middle all xs ys zs first count e h k =
    ap₂ (λ n m. take n (drop m all)) k h
    ∙ ap (λ l. take (length ys) (drop (length xs) l)) (e ∙ append_assoc xs ys zs)
    ∙ ap (take (length ys)) (back xs (ys ++ zs)) ∙ front ys zs

-- the signature of a definition, by what is known at the end
signature_is : (z : Walk) (number : ℕ) (d : Definition) (g : FunctionEntry) (f : FunctionType) (own : List Typed) → slice_get z.definitions number ≡ Some d
    → slice_get z.functions d.function ≡ Some g → g.ctype ≡ f → take d.count (drop d.first z.declared_types) ≡ map typed_type own
    → signature_of z (slice_get z.definitions number) ≡ Some (signature z.structs f own)
signature_is z number d g f own a b c e =
    ap (signature_of z) a ∙ ap (signature_with z d) b
    ∙ ap₂ (λ (h : FunctionType) (ts : List TypeTree). Some (record {
      params = map (computed_type z.structs) h.params;
      result = computed_type z.structs h.gives;
      locals = map (cells_of z.structs) ts;
    })) c e

names_so : (name : List ℕ) (f : FunctionType) (c : Context) (m : Option Meaning) (o : Option ℕ) → KnownIs f m (declared_in name c.scope) o
    → Names name f c (next_of name f o c)
names_so name f c m None h = inr (h, refl)
names_so name f c m (Some j) h = inl (h.0, refl)

-- the function is among those that are known behind its name
function_there : (name : List ℕ) (f : FunctionType) (w : Walk) (m : Option Meaning) (x : Option Entity) (o : Option ℕ)
    → Denotes w.declared_types w.functions m x → KnownIs f m x o
    → (g : FunctionEntry) × ((slice_get (with_function name f o w).functions (index_of o w) ≡ Some g) × (g.ctype ≡ f))
function_there name f w m x None d h =
    (record { name = name; ctype = f }, (get_last w.functions (record { name = name; ctype = f }), refl))
function_there name f w m x (Some j) d h =
    some_type (slice_get w.functions j) f
    (subst (λ y. Denotes w.declared_types w.functions y (Some (Function f))) h.1 (subst (Denotes w.declared_types w.functions m) h.0 d))

module _ (number own : ℕ) (name : List ℕ) (f : FunctionType) (ps : List Param) (xs : List Parameter) (body : EntryList) (c : Context) (w : Walk)
    (k : Files c (shown w)) (is : number ≡ length w.definitions) (are : typed_from xs ≡ parameter_variables ps (map formal_of xs)) where
  abbrev o : Option ℕ
  o = known_as f (declared_meaning name w.names) w

  abbrev begun : Walk
  begun = record (with_function name f o w) { locals = 0 }

  abbrev first : Walk
  first = with_params xs (scope_opened begun)

  abbrev formals : List Formal
  formals = map formal_of xs

  abbrev around : Context
  around = with_formals formals (inner_context (next_of name f o c))

  abbrev events : List Event
  events = Naming name ∷ scope_events (params_events ps ++ entries_events body) ++ Defines ∷ []

  denotes : Denotes w.declared_types w.functions (declared_meaning name w.names) (declared_in name c.scope)
  denotes = text_found w.declared_types w.functions (length w.variables) (length w.functions) w.names c.scope
      (subst (λ outer. Matches w.declared_types w.functions (length w.variables) (length w.functions) w.names c.scope outer) k.outer k.knows.names) name

  was : KnownIs f (declared_meaning name w.names) (declared_in name c.scope) o
  was = known_by f (declared_meaning name w.names) (declared_in name c.scope) w o denotes refl

  abbrev Inside : Walk → List Typed → Type 0
  Inside z vs = (locals : List Typed) × (EntriesTyped z around body locals × (vs ≡ parameter_variables ps formals ++ locals))

  -- parameters and body
  inside_logs : Gives (walk_entries f.gives false body first) (λ (d : Done) v. Grown false ([] ++ entries_events body) Inside (scope_opened begun) v)
  inside_logs = weaker (entries_logs f.gives false body around first
      (params_know xs (inner_context (next_of name f o c)) (scope_opened begun) (entering_knows (named_knows name f o c w k.knows))))
      (λ d v p. grown_so (grown_then (params_grown xs (scope_opened begun)) p)
      (λ z vs h. (h.1.0, (h.1.1.1.0, h.1.1.1.1 ∙ ap (λ l. l ++ h.1.0) (h.1.1.0 ∙ are)))))

  event_tokens : tokens_in (entries_events body) ≡ tokens_in events
  event_tokens = sym (tokens_both (scope_events (params_events ps ++ entries_events body)) (Defines ∷ [])
      ∙ append-nil (tokens_in (scope_events (params_events ps ++ entries_events body)))
      ∙ tokens_both (params_events ps ++ entries_events body) (Closes ∷ [])
      ∙ append-nil (tokens_in (params_events ps ++ entries_events body))
      ∙ tokens_both (params_events ps) (entries_events body) ∙ ap (λ l. l ++ tokens_in (entries_events body)) (no_events ps))

  -- behind the function
  abbrev done : Walk → Walk
  done v = with_definition (index_of o w) (length w.variables) v

  filed : (v : Walk) → Grown false ([] ++ entries_events body) Inside (scope_opened begun) v
      → Filed 1 events (λ z vs. BodyTyped z number name ps f formals body c vs) w (done v)
  filed v g =
      let b : Beside w (with_function name f o w) = named_beside name f o w in
      let d : Definition = record { function = index_of o w; first = length w.variables; count = v.locals } in
      let there = function_there name f w (declared_meaning name w.names) (declared_in name c.scope) o denotes was in
      let definitions : v.definitions ≡ w.definitions = g.definitions ∙ b.definitions in
      let declared : v.declared_types ≡ w.declared_types ++ map typed_type g.own =
      g.declared ∙ ap (λ ts. ts ++ map typed_type g.own) b.declared in
      record {
        own = g.own;
        log = g.log;
        types = g.types ∙ ap (noting g.log) b.types;
        tokens = g.tokens ∙ event_tokens;
        starts = g.starts ∙ ap (λ vs. map start_of vs ++ map typed_token g.own) b.variables;
        declared = declared;
        functions = λ i x h. ap (λ fs. slice_get fs i) g.functions ∙ b.functions i x h;
        definitions = λ i x h. more_stays v.definitions d i x (ap (λ ds. slice_get ds i) definitions ∙ h);
        count_is = omega (arith, length-append v.definitions (d ∷ []), ap length definitions);
        holds = λ z h y.
            let i = g.holds z h in (
              next_of name f o c,
              (
                names_so name f c (declared_meaning name w.names) o was,
                (
                  i.0,
                  (
                    i.1.0,
                    (
                      i.1.1,
                      signature_is z number d there.0 f g.own
                          (y.definitions number d (ap (slice_get (v.definitions ++ d ∷ [])) (is ∙ sym (ap length definitions)) ∙ get_last v.definitions d))
                          (y.functions (index_of o w) there.0 (ap (λ fs. slice_get fs (index_of o w)) g.functions ∙ there.1.0))
                          there.1.1
                          (middle z.declared_types w.declared_types (map typed_type g.own) y.more (length w.variables) v.locals
                          (y.declared ∙ ap (λ ts. ts ++ y.more) declared) (sym k.knows.count)
                          (omega (arith, g.locals, length-map g.own typed_type))),
                    ),
                  ),
                ),
              ),
            );
      }

  body_logs : Gives (typed_function own f name xs (Some body) w)
      (λ (d : Done) v. Filed 1 events (λ z vs. BodyTyped z number name ps f formals body c vs) w v)
  unfolding walk_body
  body_logs =
      and_then (and_then {Q = λ (d : Done) v. Grown false ([] ++ entries_events body) Inside (scope_opened begun) v} inside_logs
      (λ d v p. record { by = grown_as (scope_opened begun) _ p refl refl refl refl }))
      (λ d v p. and_then (declares_same own (is_clashing_name name o w || is_defined (index_of o w) w.defined_as) f.gives v)
      (λ e u q. record { by = filed u (subst (λ y. Grown false ([] ++ entries_events body) Inside (scope_opened begun) y) (sym q) p) }))

  pub function_logs : Gives (typed_function own f name xs (Some body) w) (λ (d : Done) v. ((after : Context)
      × (FunctionGives name f formals (Some body) c after × Files after (shown v)))
      × Filed 1 events (λ z vs. BodyTyped z number name ps f formals body c vs) w v)
  function_logs = weaker (both (told (function_tells own name f c w k xs (Some body))) body_logs) (λ d v p. (p.0.0, p.1))

-- an item

abbrev pub ItemFiled : ℕ → Context → ItemTree → Walk → Walk → Type 0
ItemFiled number c x w v = (after : Context)
    × (Files after (shown v) × Filed (length (defined_by x)) (item_events x) (λ z own. ItemTyped z number c x after own) w v)

abbrev made : TypeTree → List TypeTree → FunctionType
made t ts = record { gives = t; params = ts }

prototype_same : (own : ℕ) (f : FunctionType) (name : List ℕ) (xs : List Parameter) (w : Walk)
    → Gives (typed_function own f name xs None w) (λ (d : Done) v. Beside w v)
prototype_same own f name xs w =
    let o : Option ℕ = known_as f (declared_meaning name w.names) w in
    weaker (declares_same own (is_clashing_name name o w) f.gives (with_function name f o w))
    (λ d v p. subst (Beside w) (sym p) (named_beside name f o w))

item_logs : (x : ItemTree) (number : ℕ) (c : Context) (w : Walk) → Files c (shown w) → number ≡ length w.definitions
    → Gives (walk_item x w) (λ (d : Done) v. ItemFiled number c x w v)
item_logs (i.Struct own tag members) number c w k is =
    weaker (both (told (item_tells (i.Struct own tag members) c w k)) (struct_keeps own tag members w)) (λ d v p. (
      p.0.0.0,
      (
        p.0.0.1.1,
        filed_none (Struct ∷ []) w v refl p.1.1 (ap (λ (r : Rest). r.variables) p.1.0) (ap (λ (r : Rest). r.declared) p.1.0)
            (ap (λ (r : Rest). r.definitions) p.1.0) (λ j y h. ap (λ (r : Rest). slice_get r.functions j) p.1.0 ∙ h) (λ z. (p.0.0.1.0, refl)),
      ),
    ))
item_logs (i.Function own b stars name ps None) number c w k is =
    weaker (both {Q = λ (d : Done) v. Beside w v} (told (item_tells (i.Function own b stars name ps None) c w k))
    (and_then (told (base_tells (known_identifiers c) b w (agreed k.knows))) (λ of v p.
    and_then (told (params_tell c false (listed_params ps) [] v (agrees_on (agreed k.knows) (ap shown p.1)))) (λ xs u q.
    subst (λ y. Gives (typed_function own (made (with_stars stars of) (types_of xs)) name xs None u) (λ (d : Done) r. Beside y r)) (q.1 ∙ p.1)
    (prototype_same own (made (with_stars stars of) (types_of xs)) name xs u))))) (λ d v p. (
      p.0.0.0,
      (
        p.0.0.1.1,
        filed_none (Naming name ∷ []) w v refl p.1.types p.1.variables p.1.declared p.1.definitions p.1.functions (λ z. (p.0.0.1.0, refl)),
      ),
    ))
item_logs (i.Function own b stars name ps (Some body)) number c w k is =
    and_then (told (base_tells (known_identifiers c) b w (agreed k.knows))) (λ of v p.
    and_then (both (told (params_tell c true (listed_params ps) [] v (agrees_on (agreed k.knows) (ap shown p.1)))) (params_named true (listed_params ps) [] v)) (λ xs u q.
    let f : FunctionType = made (with_stars stars of) (types_of xs) in
    let proto : PrototypeGives b stars true (listed_params ps) c f (map formal_of xs) =
    (of, (p.0, q.0.0, ap (made (with_stars stars of)) (types_same xs))) in
    let same : u ≡ w = q.0.1 ∙ p.1 in
    let are : typed_from xs ≡ parameter_variables (listed_params ps) (map formal_of xs) =
    subst (λ ys. typed_from ys ≡ parameter_variables (listed_params ps) (map formal_of ys)) (sym q.1.1.0) q.1.1.1 in
    subst (λ y. Gives (typed_function own f name xs (Some body) u)
    (λ (d : Done) r. ItemFiled number c (i.Function own b stars name ps (Some body)) y r)) same
    (weaker (function_logs number own name f (listed_params ps) xs body c u (subst (λ y. Files c (shown y)) (sym same) k)
    (is ∙ ap (λ (y : Walk). length y.definitions) (sym same)) are)
    (λ d r n. (n.0.0, (n.0.1.1, filed_so n.1 (λ z own h. (f, (map formal_of xs, (proto, (n.0.1.0, h)))))))))))
item_logs (i.Declaration declaration) number c w k is = weaker (declaration_logs true declaration c w k.knows) (λ d v p.
    let s = variables_keep true p.1.0.0.0 declaration.starts c p.0 p.1.0.0.1.1 in
    (p.0, (behind_files p.0 w v s.0 s.1 k p.1.0.1, filed_of p.1.1)))

pub items_log : (xs : List ItemTree) (number : ℕ) (c : Context) (w : Walk) → Files c (shown w) → number ≡ length w.definitions
    → Gives (walk_items xs w) (λ (d : Done) v. (after : Context) × (Files after (shown v)
    × ((n : ℕ) × Filed n (items_events xs) (λ z own. ItemsTyped z number c xs after own) w v)))
items_log [] number c w k is =
    record { by = (c, (k, (0, filed_none [] w w refl refl refl refl refl (λ j y h. h) (λ z. (refl, refl))))) }
items_log (x ∷ xs) number c w k is = and_then (item_logs x number c w k is) (λ d v p.
    weaker (items_log xs (number + length (defined_by x)) p.0 v p.1.0 (omega (arith, is, p.1.1.count_is)))
    (λ e u q. (q.0, (q.1.0, (length (defined_by x) + q.1.1.0, filed_so (filed_then p.1.1 q.1.1.1) (λ z own h. (p.0, h)))))))

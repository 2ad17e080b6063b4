-- The path of the walk through items, and what each of them does to the functions that are known.
use Rattle.std.proofs.Common.{inl, inr, ◌≡◌, ℕ, nat_le, Bool, true, false, ◌&&◌, ◌||◌, if◌then◌else◌, List, [], ◌∷◌, ◌++◌, length, map, Option, Some, None, is_some, unwrap_or, refl, sym, ap, ◌∙◌, subst, append_assoc}
use Rattle.std.proofs.lemmas.List.{append-nil, length-map, map-append}
use Rattle.base_lists.proofs.Tests.{or_first_false}
use Rattle.c_syntax.specs.declared.parts.Base.{Base}
use Rattle.c_syntax.specs.declared.parts.Declarator.{Declarator}
use Rattle.c_syntax.specs.declared.parts.Members.{Members}
use Rattle.c_syntax.specs.declared.parts.Param.{Param}
use Rattle.c_syntax.specs.declared.parts.ParamName.{ParamName}
use Rattle.c_syntax.specs.declared.parts.Params.{Params}
use Rattle.c_syntax.specs.Words.{EntryList, ItemTree, SourceTree}
use Rattle.c_syntax.specs.ItemTree as i
use Rattle.c_types_rules.specs.declared.fault.FaultKind.{FaultKind}
use Rattle.c_types_rules.specs.declared.fault.FaultKind.TheVariants as fault
use Rattle.c_types_rules.specs.declared.function.FunctionType.{FunctionType}
use Rattle.c_types_rules.specs.declared.layout.StructType.{StructType}
use Rattle.c_types_rules.specs.Words.{TypeTree, is_scalar, is_struct, member_named, empty_struct, is_object, most_cells, with_member}
use Rattle.c_types.specs.Fault.{ends_with, last_fault, walk_tree}
use Rattle.c_types.specs.Numbers.{function_of}
use Rattle.c_types.proofs.Noted.{Gives, gives_more, gives_then}
use Rattle.c_types_expressions.specs.declared.names.Meaning.TheVariants as meaning
use Rattle.c_types_expressions.specs.declared.names.ScopeEntry.TheVariants as entry
use Rattle.c_types_expressions.specs.declared.walk.Parameter.{Parameter}
use Rattle.c_types_expressions.specs.declared.walk.Walk.{Walk}
use Rattle.c_types_expressions.specs.Words.{empty_walk, declared_meaning, is_here, is_reserved, Walked, Fine, Faulty, ◌>>=◌, Done, scope_closed, scope_opened, base_type, with_stars}
use Rattle.c_types_walk.specs.Declarators.{declared_type}
use Rattle.c_types_walk.specs.StatementWalk.{walk_declaration, walk_entries}
use Rattle.c_types_walk.specs.ItemWalk.{is_clashing_name, function_checked, body_scope_opened, has_length, is_among, is_defined, known_as, listed_params, looked_param, param_type, scalar_param, typed_function, typed_member, walk_body, walk_declarators, walk_item, walk_items, walk_member, walk_members, walk_param, walk_params, walk_struct, with_definition, with_function, with_param, with_params, with_tag}
use Rattle.c_types_faults.specs.Events.{Event, Variable, Struct, Names, Defines, declaration_events, entries_events, item_events, items_events, named_events, params_events, scope_events}
use Rattle.c_types_faults.proofs.Paths.{Anyhow, Goes, Path, Step, View, called_name, defining, naming, path_one, path_then, then_on, variable_step, view}
use Rattle.c_types_faults.proofs.PathExprs.{base_goes}
use Rattle.c_types_faults.proofs.PathStatements.{declaration_goes, entries_goes, scope_goes}

-- parameters

abbrev pub variable_by : ℕ → Option (List ℕ) → List Event
variable_by token None = []
variable_by token (Some name) = Variable token ∷ []

abbrev pub variables_from : List Parameter → List Event
variables_from [] = []
variables_from (p ∷ ps) = variable_by p.token p.name ++ variables_from ps

from_both : (xs ys : List Parameter) → variables_from (xs ++ ys) ≡ variables_from xs ++ variables_from ys
from_both [] ys = refl
from_both (x ∷ xs) ys =
    ap (λ es. variable_by x.token x.name ++ es) (from_both xs ys) ∙ sym (append_assoc (variable_by x.token x.name) (variables_from xs) (variables_from ys))

-- a parameter that is looked at has its name where it stands
abbrev IsListed : Option ParamName → Parameter → View → Type 0
IsListed name x a = variable_by x.token x.name ≡ named_events name

refused_or : {A : Type 0} (P : A → View → Type 0) (es : List Event) (a : View) (b : Bool) (kind : FaultKind) (token : ℕ) (r : Walked A) → Goes P es a r
    → Goes P es a (if b then Faulty kind token else r)
refused_or P es a true kind token r h = tt
refused_or P es a false kind token r h = h

allowed_or : {A : Type 0} (P : A → View → Type 0) (es : List Event) (a : View) (b : Bool) (kind : FaultKind) (token : ℕ) (r : Walked A) → Goes P es a r
    → Goes P es a (if b then r else Faulty kind token)
allowed_or P es a true kind token r h = h
allowed_or P es a false kind token r h = tt

looked_goes : (body : Bool) (token : ℕ) (name : Option ParamName) (t : TypeTree) (before : List Parameter) (w : Walk)
    → Goes (IsListed name) [] (view w) (looked_param body token name t before w)
looked_goes body token None t before w =
    refused_or (IsListed None) [] (view w) body fault.Unknown token (scalar_param token None t (record { token = token; name = None; ctype = t }) w)
    (allowed_or (IsListed None) [] (view w) (is_scalar t && true) fault.Object token (Fine (record { token = token; name = None; ctype = t }) w) (refl, refl))
looked_goes body token (Some n) t before w =
    refused_or (IsListed (Some n)) [] (view w) (is_reserved n.name || is_among n.name before) fault.Redeclared token
    (scalar_param token n.bound (param_type n.bound t) (record { token = n.token; name = Some n.name; ctype = param_type n.bound t }) w)
    (allowed_or (IsListed (Some n)) [] (view w) (is_scalar (param_type n.bound t) && has_length n.bound) fault.Object token
    (Fine (record { token = n.token; name = Some n.name; ctype = param_type n.bound t }) w) (refl, refl))

param_goes : (body : Bool) (p : Param) (before : List Parameter) (w : Walk) → Goes (IsListed p.name) [] (view w) (walk_param body p before w)
param_goes body p before w =
    then_on Anyhow (IsListed p.name) [] (view w) (base_type p.base w) _ (base_goes p.base w)
    (λ t v g. looked_goes body p.token p.name (with_stars p.stars t) before v)

abbrev AreListed : List Event → List Parameter → View → Type 0
AreListed events xs a = variables_from xs ≡ events

params_goes : (body : Bool) (ps : List Param) (before : List Parameter) (events : List Event) (w : Walk)
    → variables_from before ++ params_events ps ≡ events → Goes (AreListed events) [] (view w) (walk_params body ps before w)
params_goes body [] before events w is = (refl, sym (append-nil (variables_from before)) ∙ is)
params_goes body (p ∷ ps) before events w is =
    then_on (IsListed p.name) (AreListed events) [] (view w) (walk_param body p before w) _ (param_goes body p before w)
    (λ x v h. params_goes body ps (before ++ x ∷ []) events v
    (ap (λ es. es ++ params_events ps) (from_both before (x ∷ []) ∙ ap (λ es. variables_from before ++ es) (append-nil (variable_by x.token x.name) ∙ h))
    ∙ append_assoc (variables_from before) (named_events p.name) (params_events ps) ∙ is))

param_path : (token : ℕ) (name : Option (List ℕ)) (t : TypeTree) (w : Walk) → Path (variable_by token name) (view w) (view (with_param token name t w))
param_path token None t w = refl
param_path token (Some name) t w = path_one (Variable token) (view w) _ (variable_step false token name t w)

params_path : (ps : List Parameter) (w : Walk) → Path (variables_from ps) (view w) (view (with_params ps w))
params_path [] w = refl
params_path (p ∷ ps) w =
    path_then (variable_by p.token p.name) (variables_from ps) (view w) (view (with_param p.token p.name p.ctype w)) _
    (param_path p.token p.name p.ctype w) (params_path ps (with_param p.token p.name p.ctype w))

-- a path, and the walk behind it
behind : {A : Type 0} (P : A → View → Type 0) (xs ys : List Event) (a b : View) (r : Walked A) → Path xs a b → Goes P ys b r → Goes P (xs ++ ys) a r
behind P xs ys a b r p h =
    gives_more (λ x v. Path ys b (view v) × P x (view v)) (λ x v. Path (xs ++ ys) a (view v) × P x (view v)) r
    (λ x v g. (path_then xs ys a b (view v) p g.0, g.1)) h

-- functions

-- the place of the function as which the name was declared before
abbrev pub known_of : List ℕ → FunctionType → Walk → Option ℕ
known_of name f w = known_as f (declared_meaning name w.names) w

-- a function that is declared
pub record Prototyped (name : List ℕ) (a c : View) : Type 0 where
  pub here : Walk
  pub same : view here ≡ a
  pub of : FunctionType
  pub fits : is_clashing_name name (known_of name of here) here ≡ false
  pub to : c ≡ view (with_function name of (known_of name of here) here)

-- a function that is defined, with its parameters and its body
pub record Bodied (es : List Event) (name : List ℕ) (a c : View) : Type 0 where
  pub here : Walk
  pub same : view here ≡ a
  pub of : FunctionType
  pub fits : is_clashing_name name (known_of name of here) here ≡ false
  pub inner : View
  pub path : Path (scope_events es) (view (with_function name of (known_of name of here) here)) inner
  pub to : c ≡ defining (unwrap_or (known_of name of here) (length here.functions)) inner

pub naming_view : (name : List ℕ) (f : FunctionType) (w : Walk) → view (with_function name f None w) ≡ naming name (view w)
naming_view name f w = naming_by (length w.functions) _ (sym (length-map w.functions called_name)) (map-append called_name w.functions _)
  where
    naming_by : (n : ℕ) (more : List (List ℕ)) → n ≡ length (map called_name w.functions) → more ≡ map called_name w.functions ++ name ∷ []
        → record (view w) { names = entry.Declares name (meaning.Function n) ∷ w.names; functions = more } ≡ naming name (view w)
    naming_by n more h k = rw h (rw k refl)

pub function_step : (name : List ℕ) (f : FunctionType) (known : Option ℕ) (w : Walk) → Step (Names name) (view w) (view (with_function name f known w))
function_step name f (Some index) w = inl refl
function_step name f None w = inr (naming_view name f w)

declares_goes : (token : ℕ) (taken : Bool) (gives : TypeTree) (w : Walk)
    → Goes (λ _ a. (taken ≡ false)) [] (view w) (function_checked token taken gives w)
declares_goes token true gives w = tt
declares_goes token false gives w = by (is_struct gives)
  where
    by : (b : Bool) → Goes {A = Done} (λ _ a. (false ≡ false)) [] (view w) (if b then Faulty fault.Object token else Fine tt w)
    by true = tt
    by false = (refl, refl)

-- the parameters and the body of a function
inner_goes : (gives : TypeTree) (xs : List Parameter) (body : EntryList) (w : Walk)
    → Goes Anyhow (scope_events (variables_from xs ++ entries_events body)) (view w) (walk_entries gives false body (body_scope_opened xs w) >>= scope_closed)
inner_goes gives xs body w =
    scope_goes (variables_from xs ++ entries_events body) (record w { locals = 0 }) (walk_entries gives false body (body_scope_opened xs w))
    (behind Anyhow (variables_from xs) (entries_events body) (view (scope_opened (record w { locals = 0 }))) (view (body_scope_opened xs w))
    (walk_entries gives false body (body_scope_opened xs w)) (params_path xs (scope_opened (record w { locals = 0 }))) (entries_goes gives false body (body_scope_opened xs w)))

definition_view : (index first : ℕ) (w : Walk) → view (with_definition index first w) ≡ defining index (view w)
definition_view index first w = ap (λ ds. record (view w) { definitions = ds }) (map-append function_of w.definitions _)

body_does : (token : ℕ) (f : FunctionType) (name : List ℕ) (xs : List Parameter) (body : EntryList) (w : Walk)
    → Gives (λ _ r. Bodied (variables_from xs ++ entries_events body) name (view w) (view r)) (walk_body token f name xs body (known_of name f w) w)
unfolding walk_body
body_does token f name xs body w =
    let known : Option ℕ = known_of name f w in
    let es : List Event = variables_from xs ++ entries_events body in
    let u : Walk = with_function name f known w in
    let taken : Bool = is_clashing_name name known w || is_defined (unwrap_or known (length w.functions)) w.defined_as in
    gives_then (λ _ v. Path (scope_events es) (view u) (view v) × Unit {0}) (λ _ r. Bodied es name (view w) (view r))
    (walk_entries f.gives false body (body_scope_opened xs u) >>= scope_closed) _ (inner_goes f.gives xs body u)
    (λ _ v g. gives_then (λ _ r. (view r ≡ view v) × (taken ≡ false)) (λ _ r. Bodied es name (view w) (view r)) (function_checked token taken f.gives v) _
    (declares_goes token taken f.gives v) (λ _ r k. record {
      here = w;
      same = refl;
      of = f;
      fits = or_first_false (is_clashing_name name known w) _ k.1;
      inner = view v;
      path = g.0;
      to = definition_view (unwrap_or known (length w.functions)) (length w.variables) r ∙ ap (defining (unwrap_or known (length w.functions))) k.0;
    }))

-- structs

typed_member_goes : (d : Declarator) (t : Option TypeTree) (s : StructType) (w : Walk) → Goes Anyhow [] (view w) (typed_member d t s w)
typed_member_goes d None s w = tt
typed_member_goes d (Some t) s w =
    allowed_or Anyhow [] (view w) (is_object w.structs t) fault.Object d.token (Fine (with_member w.structs d.name t s) w) (refl, tt)

declarators_goes : (b : TypeTree) (ds : List Declarator) (s : StructType) (w : Walk) → Goes Anyhow [] (view w) (walk_declarators b ds s w)
declarators_goes b [] s w = (refl, tt)
declarators_goes b (d ∷ ds) s w =
    then_on Anyhow Anyhow [] (view w) (walk_member b d s w) _
    (refused_or Anyhow [] (view w) (is_some (member_named d.name s.members)) fault.Redeclared d.token (typed_member d (declared_type d b) s w)
    (typed_member_goes d (declared_type d b) s w))
    (λ s' v g. declarators_goes b ds s' v)

members_goes : (ms : List Members) (s : StructType) (w : Walk) → Goes Anyhow [] (view w) (walk_members ms s w)
members_goes [] s w = (refl, tt)
members_goes (m ∷ ms) s w =
    then_on Anyhow Anyhow [] (view w) (base_type m.base w) _ (base_goes m.base w)
    (λ b v g. then_on Anyhow Anyhow [] (view v) (walk_declarators b m.declarators s v) _ (declarators_goes b m.declarators s v)
    (λ s' u f. members_goes ms s' u))

-- what an item does

abbrev pub ItemDoes : ItemTree → View → View → Type 0
ItemDoes (i.Struct token tag members) a c = Path (Struct ∷ []) a c
ItemDoes (i.Function token b stars name ps None) a c = Prototyped name a c
ItemDoes (i.Function token b stars name ps (Some body)) a c = Bodied (params_events (listed_params ps) ++ entries_events body) name a c
ItemDoes (i.Declaration declaration) a c = Path (declaration_events declaration) a c

defined_does : (b c : Bool) (token : ℕ) (s : StructType) (a : View) (w : Walk) → view w ≡ a
    → Gives {A = Done} (λ _ v. Path (Struct ∷ []) a (view v))
    (if b then Faulty fault.Redeclared token else if c then Fine tt (record w { structs = w.structs ++ s ∷ [] }) else Faulty fault.Object token)
defined_does true c token s a w same = tt
defined_does false true token s a w same =
    subst (λ v. Path (Struct ∷ []) v (view (record w { structs = w.structs ++ s ∷ [] }))) same (path_one Struct (view w) _ (s, refl))
defined_does false false token s a w same = tt

struct_does : (token : ℕ) (tag : List ℕ) (members : List Members) (w : Walk)
    → Gives (λ _ v. Path (Struct ∷ []) (view w) (view v)) (walk_struct token tag members w)
struct_does token tag members w =
    gives_then (λ s v. (view v ≡ view w) × Unit {0}) (λ _ v. Path (Struct ∷ []) (view w) (view v)) (walk_members members empty_struct (with_tag tag w)) _
    (members_goes members empty_struct (with_tag tag w)) (λ s v g. defined_does (is_here tag w.tags) (nat_le s.cells most_cells) token s (view w) v g.0)

prototype_does : (token : ℕ) (f : FunctionType) (name : List ℕ) (xs : List Parameter) (a : View) (w : Walk) → view w ≡ a
    → Gives (λ _ r. Prototyped name a (view r)) (typed_function token f name xs None w)
prototype_does token f name xs a w same =
    gives_more (λ _ r. (view r ≡ view (with_function name f (known_of name f w) w)) × (is_clashing_name name (known_of name f w) w ≡ false))
    (λ _ r. Prototyped name a (view r)) (typed_function token f name xs None w)
    (λ _ r k. record { here = w; same = same; of = f; fits = k.1; to = k.0 })
    (declares_goes token (is_clashing_name name (known_of name f w) w) f.gives (with_function name f (known_of name f w) w))

definition_does : (token : ℕ) (f : FunctionType) (name : List ℕ) (xs : List Parameter) (events : List Event) (body : EntryList) (a : View) (w : Walk)
    → view w ≡ a → variables_from xs ≡ events
    → Gives (λ _ r. Bodied (events ++ entries_events body) name a (view r)) (typed_function token f name xs (Some body) w)
definition_does token f name xs events body a w same is =
    subst (λ v. Gives (λ _ r. Bodied (events ++ entries_events body) name v (view r)) (typed_function token f name xs (Some body) w)) same
    (subst (λ es. Gives (λ _ r. Bodied (es ++ entries_events body) name (view w) (view r)) (typed_function token f name xs (Some body) w)) is
    (body_does token f name xs body w))

function_does : (token : ℕ) (b : Base) (stars : ℕ) (name : List ℕ) (ps : Params) (body : Option EntryList) (w : Walk)
    → Gives (λ _ v. ItemDoes (i.Function token b stars name ps body) (view w) (view v)) (walk_item (i.Function token b stars name ps body) w)
function_does token b stars name ps None w =
    gives_then (λ t v. (view v ≡ view w) × Unit {0}) (λ _ v. Prototyped name (view w) (view v)) (base_type b w) _ (base_goes b w)
    (λ t v g. gives_then (λ xs u. (view u ≡ view v) × (variables_from xs ≡ params_events (listed_params ps))) (λ _ u. Prototyped name (view w) (view u))
    (walk_params false (listed_params ps) [] v) _ (params_goes false (listed_params ps) [] (params_events (listed_params ps)) v refl)
    (λ xs u h. prototype_does token _ name xs (view w) u (h.0 ∙ g.0)))
function_does token b stars name ps (Some body) w =
    let es : List Event = params_events (listed_params ps) ++ entries_events body in
    gives_then (λ t v. (view v ≡ view w) × Unit {0}) (λ _ v. Bodied es name (view w) (view v)) (base_type b w) _ (base_goes b w)
    (λ t v g. gives_then (λ xs u. (view u ≡ view v) × (variables_from xs ≡ params_events (listed_params ps))) (λ _ u. Bodied es name (view w) (view u))
    (walk_params true (listed_params ps) [] v) _ (params_goes true (listed_params ps) [] (params_events (listed_params ps)) v refl)
    (λ xs u h. definition_does token _ name xs (params_events (listed_params ps)) body (view w) u (h.0 ∙ g.0) h.1))

item_does : (x : ItemTree) (w : Walk) → Gives (λ _ v. ItemDoes x (view w) (view v)) (walk_item x w)
item_does (i.Struct token tag members) w = struct_does token tag members w
item_does (i.Function token b stars name ps body) w = function_does token b stars name ps body w
item_does (i.Declaration declaration) w =
    gives_more (λ _ v. Path (declaration_events declaration) (view w) (view v) × Unit {0}) (λ _ v. Path (declaration_events declaration) (view w) (view v))
    (walk_declaration true declaration w) (λ _ v g. g.0) (declaration_goes true declaration w)

abbrev pub ItemsDo : List ItemTree → View → View → Type 0
ItemsDo [] a c = c ≡ a
ItemsDo (x ∷ xs) a c = (b : View) × (ItemDoes x a b × ItemsDo xs b c)

pub items_do : (xs : List ItemTree) (w : Walk) → Gives (λ _ v. ItemsDo xs (view w) (view v)) (walk_items xs w)
items_do [] w = refl
items_do (x ∷ xs) w =
    gives_then (λ _ v. ItemDoes x (view w) (view v)) (λ _ v. ItemsDo (x ∷ xs) (view w) (view v)) (walk_item x w) _ (item_does x w)
    (λ _ v first. gives_more (λ _ u. ItemsDo xs (view v) (view u)) (λ _ u. ItemsDo (x ∷ xs) (view w) (view u)) (walk_items xs v)
    (λ _ u rest. (view v, (first, rest))) (items_do xs v))

ends_do : (xs : List ItemTree) (a : View) (f : Option (FaultKind × ℕ)) (w : Walk) → ItemsDo xs a (view w)
    → Gives (λ _ v. ItemsDo xs a (view v)) (ends_with f w)
ends_do xs a None w h = h
ends_do xs a (Some f) w h = tt

-- what the items of a text without a fault do
pub text_does : (t : SourceTree) (w : Walk) → walk_tree t ≡ Fine tt w → ItemsDo t.items (view (empty_walk (length t.lines))) (view w)
text_does t w is =
    subst (Gives (λ _ v. ItemsDo t.items (view (empty_walk (length t.lines))) (view v))) is
    (gives_then (λ _ v. ItemsDo t.items (view (empty_walk (length t.lines))) (view v)) (λ _ v. ItemsDo t.items (view (empty_walk (length t.lines))) (view v))
    (walk_items t.items (empty_walk (length t.lines))) _ (items_do t.items (empty_walk (length t.lines)))
    (λ _ v h. ends_do t.items (view (empty_walk (length t.lines))) (last_fault (length t.lines) v) v h))

-- the path through the items
pub item_path : (x : ItemTree) (a c : View) → ItemDoes x a c → Path (item_events x) a c
item_path (i.Struct token tag members) a c h = h
item_path (i.Function token b stars name ps None) a c h =
    subst (λ v. Path (Names name ∷ []) v c) h.same
    (subst (Path (Names name ∷ []) (view h.here)) (sym h.to)
    (path_one (Names name) (view h.here) _ (function_step name h.of (known_of name h.of h.here) h.here)))
item_path (i.Function token b stars name ps (Some body)) a c h =
    let es : List Event = params_events (listed_params ps) ++ entries_events body in
    subst (λ v. Path (Names name ∷ scope_events es ++ Defines ∷ []) v c) h.same (
      view (with_function name h.of (known_of name h.of h.here) h.here),
      (
        function_step name h.of (known_of name h.of h.here) h.here,
        path_then (scope_events es) (Defines ∷ []) _ h.inner c h.path (c, ((_, h.to), refl)),
      ),
    )
item_path (i.Declaration declaration) a c h = h

pub items_path : (xs : List ItemTree) (a c : View) → ItemsDo xs a c → Path (items_events xs) a c
items_path [] a c h = h
items_path (x ∷ xs) a c h = path_then (item_events x) (items_events xs) a h.0 c (item_path x a h.0 h.1.0) (items_path xs h.0 c h.1.1)

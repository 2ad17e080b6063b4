-- What a function adds that is declared, with a body or without: its parameters are scalars, and the first of its variables.
use Rattle.std.proofs.Common.{◌≡◌, ℕ, ◌≤◌, ◌+◌, refl, ap, subst, sym, ◌∙◌, arith, Bool, true, false, List, [], ◌∷◌, ◌++◌, Some, None, length}
use Rattle.std.specs.Prelude.{IsSome, Option, is_some, unwrap_or, ◌&&◌, ◌||◌, if◌then◌else◌}
use Rattle.std.specs.List.{AllByRecursion}
use Rattle.std.proofs.lemmas.Bool.{false≢true, or_parts, true≢false}
use Rattle.base_lists.proofs.Every.{all_join}
use Rattle.c_syntax.specs.declared.parts.Base.{Base}
use Rattle.c_syntax.specs.declared.parts.Param.{Param}
use Rattle.c_syntax.specs.declared.parts.ParamName.{ParamName}
use Rattle.c_syntax.specs.declared.parts.Params.{Params}
use Rattle.c_syntax.specs.StatementTree.{EntryList}
use Rattle.c_syntax.specs.ItemTree as item
use Rattle.c_types_rules.specs.declared.fault.FaultKind.{FaultKind}
use Rattle.c_types_rules.specs.declared.fault.FaultKind.TheVariants as fault
use Rattle.c_types_rules.specs.declared.function.FunctionType.{FunctionType}
use Rattle.c_types_rules.specs.declared.layout.StructType.{StructType}
use Rattle.c_types_rules.specs.TypeTree as t
use Rattle.c_types_rules.specs.Words.{TypeTree, is_scalar}
use Rattle.c_types_expressions.specs.declared.walk.Parameter.{Parameter}
use Rattle.c_types_expressions.specs.declared.walk.Walk.{Walk}
use Rattle.c_types_expressions.specs.Words.{base_type, with_stars, names_after_scope, declared_meaning, is_reserved, Walked, Done, Fine, Faulty, ◌>>=◌, scope_closed, ended_scopes, scope_opened}
use Rattle.c_types_expressions.specs.Words.{with_variable}
use Rattle.c_types_walk.specs.ItemWalk.{is_clashing_name, function_checked, body_scope_opened, has_length, is_among, is_defined, known_as, listed_params, looked_param, param_type, types_of}
use Rattle.c_types_walk.specs.ItemWalk.{walk_body, walk_function, walk_item, walk_param, walk_params, with_function, with_param, with_params}
use Rattle.c_types.specs.Parts.{Begins, entries_parts}
use Rattle.c_types_walk.specs.StatementWalk.{walk_entries}
use Rattle.c_types.proofs.Noted.{Gives, gives_then}
use Rattle.c_types.proofs.NotedItems.{parts_from}
use Rattle.c_meaning_sound.proofs.Reaching.{Defines, Named, base_gives, body_defines, comes, declares_is, defines_one, defines_step, fine_known, functions_same, taken}
use Rattle.lower_fits.proofs.Laying.{IsObject, Laid, Lays, Long, entries_laid, lays_nothing, lays_two, one_lays, variable_adds}
use Rattle.lower_fits.proofs.Leaving.{leaves_kept}

-- A parameter is a scalar, and has a name where the function has a body.
pub record IsGiven (body : Bool) (p : Parameter) : Type 0 where
  pub scalar : is_scalar p.ctype ≡ true
  pub named : body ≡ true → IsSome p.name

module _ (body : Bool) (w : Walk) where
  -- a parameter that is given, where nothing else changes
  abbrev One : Parameter → Walk → Type 0
  One x v = (v ≡ w) × IsGiven body x

  -- a parameter of scalar type is given
  scalar_given : (a b : Bool) (token : ℕ) (p : Parameter) → is_scalar p.ctype ≡ a → (body ≡ true → IsSome p.name)
      → Gives One (if a && b then Fine p w else Faulty fault.Object token)
  scalar_given true true token p e h = (refl, record { scalar = e; named = h })
  scalar_given true false token p e h = tt
  scalar_given false b token p e h = tt

  -- a parameter that may be refused first
  refused_given : (b : Bool) (kind : FaultKind) (token : ℕ) (r : Walked Parameter) → Gives One r → Gives One (if b then Faulty kind token else r)
  refused_given true kind token r h = tt
  refused_given false kind token r h = h

  -- a parameter without a name, which a function with a body refuses
  nameless_given : (b : Bool) (token : ℕ) (r : Walked Parameter) → body ≡ b → ((body ≡ true → ⊥) → Gives One r)
      → Gives One (if b then Faulty fault.Unknown token else r)
  nameless_given true token r e h = tt
  nameless_given false token r e h = h (λ k. true≢false (sym k ∙ e))

  -- a parameter whose type is known
  looked_given : (token : ℕ) (o : Option ParamName) (of : TypeTree) (before : List Parameter) → Gives One (looked_param body token o of before w)
  looked_given token None of before = nameless_given body token _ refl
      (λ h. scalar_given (is_scalar of) true token (record { token = token; name = None; ctype = of }) refl (λ k. absurd (h k)))
  looked_given token (Some n) of before = refused_given (is_reserved n.name || is_among n.name before) fault.Redeclared token _
      (scalar_given (is_scalar (param_type n.bound of)) (has_length n.bound) token
      (record { token = n.token; name = Some n.name; ctype = param_type n.bound of }) refl (λ k. refl))

  -- a parameter, from its type on
  param_given : (p : Param) (before : List Parameter) → Gives One (walk_param body p before w)
  param_given p before = gives_then (Named w) One (base_type p.base w) _ (base_gives p.base w)
      (λ of v n. subst (λ u. Gives One (looked_param body p.token p.name (with_stars p.stars of) before u)) (sym n.0)
      (looked_given p.token p.name (with_stars p.stars of) before))

  -- all parameters, behind those that were given before
  params_given : (ps : List Param) (before : List Parameter) → AllByRecursion (IsGiven body) before
      → Gives (λ xs v. (v ≡ w) × AllByRecursion (IsGiven body) xs) (walk_params body ps before w)
  params_given [] before h = (refl, h)
  params_given (p ∷ ps) before h =
      gives_then One (λ xs v. (v ≡ w) × AllByRecursion (IsGiven body) xs) (walk_param body p before w) _ (param_given p before)
      (λ x v n. subst (λ u. Gives (λ xs v. (v ≡ w) × AllByRecursion (IsGiven body) xs) (walk_params body ps (before ++ x ∷ []) u)) (sym n.0)
      (params_given ps (before ++ x ∷ []) (all_join (IsGiven body) before (x ∷ []) h (n.1, tt))))

-- a function, up to its parameters
record Begun (token : ℕ) (name : List ℕ) (body : Option EntryList) (w v : Walk) (a : Done) : Type 0 where
  own : List Parameter
  given : AllByRecursion (IsGiven (is_some body)) own
  gives : TypeTree
  rest : walk_function token (record { gives = gives; params = types_of own }) name own body
      (known_as (record { gives = gives; params = types_of own }) (declared_meaning name w.names) w) w ≡ Fine a v

-- the walk through a function comes to its parameters, and then to the function itself
begun : (token : ℕ) (b : Base) (stars : ℕ) (name : List ℕ) (ps : Params) (body : Option EntryList) (w v : Walk) (a : Done)
    → walk_item (item.Function token b stars name ps body) w ≡ Fine a v → Begun token name body w v a
begun token b stars name ps body w v a h =
    let first = comes (base_type b w) _ a v h in
    let k : Named w first.value first.known = taken (Named w) (base_type b w) first.value first.known (base_gives b w) first.first in
    let second = comes (walk_params (is_some body) (listed_params ps) [] first.known) _ a v first.rest in
    let q : (second.known ≡ first.known) × AllByRecursion (IsGiven (is_some body)) second.value =
    taken (λ xs u. (u ≡ first.known) × AllByRecursion (IsGiven (is_some body)) xs) (walk_params (is_some body) (listed_params ps) [] first.known)
    second.value second.known (params_given (is_some body) first.known (listed_params ps) [] tt) second.first in
    let f : FunctionType = record { gives = with_stars stars first.value; params = types_of second.value } in
    record {
      own = second.value;
      given = q.1;
      gives = with_stars stars first.value;
      rest = subst (λ u. walk_function token f name second.value body (known_as f (declared_meaning name u.names) u) u ≡ Fine a v) (q.0 ∙ k.0) second.rest;
    }

-- scalars are objects of one cell
pub scalar_object : (structs : List StructType) (of : TypeTree) → is_scalar of ≡ true → IsObject structs of
scalar_object structs t.Void h = absurd (false≢true h)
scalar_object structs (t.Array element size) h = absurd (false≢true h)
scalar_object structs (t.Struct tag) h = absurd (false≢true h)
scalar_object structs of h = refl

-- a scalar type
abbrev pub IsScalar : TypeTree → Type 0
IsScalar of = is_scalar of ≡ true

-- the types of given parameters are scalars
all_scalar : (body : Bool) (ps : List Parameter) → AllByRecursion (IsGiven body) ps → AllByRecursion IsScalar (types_of ps)
all_scalar body [] h = tt
all_scalar body (p ∷ ps) h = (h.0.scalar, all_scalar body ps h.1)

-- parameters are variables
record Lays_params (types : List TypeTree) (w v : Walk) : Type 0 where
  lays : Lays types w v
  count : w.locals + length types ≤ v.locals

-- a parameter with a name is one variable more
param_laid : (token : ℕ) (o : Option (List ℕ)) (of : TypeTree) (w : Walk) → Long w → IsScalar of → IsSome o
    → Lays_params (of ∷ []) w (with_param token o of w)
param_laid token None of w l s h = absurd (false≢true h)
param_laid token (Some name) of w l s h = record {
  lays = one_lays name of w (with_variable false token name of w) (scalar_object w.structs of s) (variable_adds false token name of w) l;
  count = omega arith;
}

-- all parameters are variables, in their order
params_laid : (ps : List Parameter) (w : Walk) → Long w → AllByRecursion (IsGiven true) ps → Lays_params (types_of ps) w (with_params ps w)
params_laid [] w l h = record { lays = lays_nothing w w (leaves_kept.here w) l; count = omega arith }
params_laid (p ∷ ps) w l h =
    let u : Walk = with_param p.token p.name p.ctype w in
    let one : Lays_params (p.ctype ∷ []) w u = param_laid p.token p.name p.ctype w l h.0.scalar (h.0.named refl) in
    let more : Lays_params (types_of ps) u (with_params ps u) = params_laid ps u one.lays.long h.1 in
    record {
      lays = lays_two (p.ctype ∷ []) (types_of ps) w u (with_params ps u) one.lays more.lays;
      count = omega (arith, one.count, more.count);
    }

-- a function that is declared leaves the structs as they were
same_structs : (name : List ℕ) (f : FunctionType) (known : Option ℕ) (w : Walk) → (with_function name f known w).structs ≡ w.structs
same_structs name f (Some index) w = refl
same_structs name f None w = refl

-- it leaves the types of variables as they were
same_types : (name : List ℕ) (f : FunctionType) (known : Option ℕ) (w : Walk) → (with_function name f known w).declared_types ≡ w.declared_types
same_types name f (Some index) w = refl
same_types name f None w = refl

-- it leaves each variable its type
same_long : (name : List ℕ) (f : FunctionType) (known : Option ℕ) (w : Walk) → Long w → Long (with_function name f known w)
same_long name f (Some index) w l = l
same_long name f None w l = l

-- what a function with a body adds
pub record Enters (name : List ℕ) (f : FunctionType) (known : Option ℕ) (w v : Walk) : Type 0 where
  pub new : is_clashing_name name known w ≡ false
  pub scalars : AllByRecursion IsScalar f.params
  pub structs : v.structs ≡ w.structs
  pub names : v.names ≡ (with_function name f known w).names
  pub functions : v.functions ≡ (with_function name f known w).functions
  pub rest : List TypeTree
  pub types : v.declared_types ≡ w.declared_types ++ (f.params ++ rest)
  pub objects : AllByRecursion (IsObject w.structs) (f.params ++ rest)
  pub long : Long v
  pub count : ℕ
  pub definitions : v.definitions ≡ w.definitions ++ record { function = unwrap_or known (length w.functions); first = length w.variables; count = count } ∷ []
  pub more : length f.params ≤ count
  pub most : count ≤ length (f.params ++ rest)

-- a function with a body has a name of its own
body_new : (token : ℕ) (f : FunctionType) (name : List ℕ) (ps : List Parameter) (body : EntryList) (known : Option ℕ) (w v : Walk) (a : Done)
    → walk_body token f name ps body known w ≡ Fine a v → is_clashing_name name known w ≡ false
unfolding walk_body
body_new token f name ps body known w v a h =
    let whole = comes (walk_entries f.gives false body (body_scope_opened ps (with_function name f known w)) >>= scope_closed) _ a v h in
    let defined : Bool = is_defined (unwrap_or known (length w.functions)) w.defined_as in
    let own = comes (function_checked token (is_clashing_name name known w || defined) f.gives whole.known) _ a v whole.rest in
    (or_parts (is_clashing_name name known w) defined
    (declares_is token (is_clashing_name name known w || defined) f.gives whole.known own.known own.value own.first).free).0

-- the walk through a body adds the parameters, the variables of the body, and a definition
body_enters : (token : ℕ) (name : List ℕ) (gives : TypeTree) (own : List Parameter) (body : EntryList) (known : Option ℕ) (w v : Walk) (a : Done)
    → AllByRecursion (IsGiven true) own → Long w → walk_body token (record { gives = gives; params = types_of own }) name own body known w ≡ Fine a v
    → Enters name (record { gives = gives; params = types_of own }) known w v
body_enters token name gives own body known w v a given l h =
    let f : FunctionType = record { gives = gives; params = types_of own } in
    let u : Walk = with_function name f known w in
    let d : Defines token f name own body known w v = body_defines token f name own body known w v a h in
    let inside : Walk = scope_opened (record u { locals = 0 }) in
    let params : Lays_params (types_of own) inside (body_scope_opened own u) = params_laid own inside (same_long name f known w l) given in
    let inner : Laid (body_scope_opened own u) d.behind = taken (λ _ r. Laid (body_scope_opened own u) r) (walk_entries gives false body (body_scope_opened own u)) tt d.behind
    (entries_laid gives false body (body_scope_opened own u) params.lays.long) d.walked in
    let whole : Lays (types_of own ++ inner.0) inside d.behind =
    lays_two (types_of own) inner.0 inside (body_scope_opened own u) d.behind params.lays inner.1 in
    let last : Walk = record d.behind { names = names_after_scope d.behind.names; ends = ended_scopes d.behind.latest d.behind.names d.behind.ends } in
    let closes : d.last ≡ last = sym (fine_known tt tt last d.last d.closes) in
    let functions : d.last.functions ≡ u.functions =
    functions_same (Begins ∷ parts_from own ++ entries_parts body) u d.last (defines_step token f name own body known w v d) in
    record {
      new = body_new token f name own body known w v a h;
      scalars = all_scalar true own given;
      structs = ap (λ (r : Walk). r.structs) d.is ∙ ap (λ (r : Walk). r.structs) closes ∙ whole.structs ∙ same_structs name f known w;
      names = ap (λ (r : Walk). r.names) d.is ∙ ap (λ (r : Walk). r.names) closes ∙ whole.scope;
      functions = ap (λ (r : Walk). r.functions) d.is ∙ functions;
      rest = inner.0;
      types = ap (λ (r : Walk). r.declared_types) d.is
          ∙ subst (λ (r : Walk). r.declared_types ≡ w.declared_types ++ (types_of own ++ inner.0)) (sym closes)
          (subst (λ (xs : List TypeTree). d.behind.declared_types ≡ xs ++ (types_of own ++ inner.0)) (same_types name f known w) whole.types);
      objects = subst (λ structs. AllByRecursion (IsObject structs) (types_of own ++ inner.0)) (same_structs name f known w) whole.objects;
      long = subst Long (sym d.is) (subst Long (sym closes) whole.long);
      count = d.last.locals;
      definitions = defines_one token f name own body known w v d;
      more = omega (arith, params.count, inner.1.locals, ap (λ (r : Walk). r.locals) closes);
      most = omega (arith, whole.most, ap (λ (r : Walk). r.locals) closes);
    }

-- a function with a body, of some type
pub record Entered (name : List ℕ) (w v : Walk) : Type 0 where
  pub f : FunctionType
  pub enters : Enters name f (known_as f (declared_meaning name w.names) w) w v

-- a function with a body, from its type on
pub function_enters : (token : ℕ) (b : Base) (stars : ℕ) (name : List ℕ) (ps : Params) (body : EntryList) (w v : Walk) (a : Done) → Long w
    → walk_item (item.Function token b stars name ps (Some body)) w ≡ Fine a v → Entered name w v
function_enters token b stars name ps body w v a l h =
    let k = begun token b stars name ps (Some body) w v a h in
    let f : FunctionType = record { gives = k.gives; params = types_of k.own } in
    record { f = f; enters = body_enters token name k.gives k.own body (known_as f (declared_meaning name w.names) w) w v a k.given l k.rest }

-- a function without a body is declared alone
pub record Declared (name : List ℕ) (w v : Walk) : Type 0 where
  pub f : FunctionType
  pub new : is_clashing_name name (known_as f (declared_meaning name w.names) w) w ≡ false
  pub is : v ≡ with_function name f (known_as f (declared_meaning name w.names) w) w

-- a function without a body, from its type on
pub function_declared : (token : ℕ) (b : Base) (stars : ℕ) (name : List ℕ) (ps : Params) (w v : Walk) (a : Done)
    → walk_item (item.Function token b stars name ps None) w ≡ Fine a v → Declared name w v
function_declared token b stars name ps w v a h =
    let k = begun token b stars name ps None w v a h in
    let f : FunctionType = record { gives = k.gives; params = types_of k.own } in
    let known : Option ℕ = known_as f (declared_meaning name w.names) w in
    let d = declares_is token (is_clashing_name name known w) k.gives (with_function name f known w) v a k.rest in
    record { f = f; new = d.free; is = d.same }

-- The walk through items without a fault: what it comes to step by step, and what stays of what was known before.
use Rattle.std.proofs.Common.{◌≡◌, ℕ, zero, suc, ◌≤◌, ◌<◌, refl, ap, subst, sym, ◌∙◌, arith, List, [], ◌∷◌, ◌++◌, Some, None, ◌+◌, Bool, true, false, length}
use Rattle.std.proofs.Common.{length-append}
use Rattle.std.specs.List.{AllByRecursion}
use Rattle.std.specs.Prelude.{IfSome, Option, nat_lt, unwrap_or, is_some, ◌&&◌, ◌||◌, if◌then◌else◌}
use Rattle.std.proofs.lemmas.Bool.Decides.{nat_tests}
use Rattle.std.proofs.lemmas.List.{append-nil, append_assoc}
use Rattle.base_lists.proofs.Lists.{get_left, Stays}
use Rattle.base_lists.proofs.Every.{all_more}
use Rattle.c_syntax.specs.declared.parts.Base.{Base}
use Rattle.c_syntax.specs.declared.parts.Base.TheVariants as base
use Rattle.c_syntax.specs.declared.parts.Bound.{Bound}
use Rattle.c_syntax.specs.declared.parts.Param.{Param}
use Rattle.c_syntax.specs.declared.parts.ParamName.{ParamName}
use Rattle.c_syntax.specs.declared.parts.Params.{Params}
use Rattle.c_syntax.specs.declared.parts.Params.TheVariants as params
use Rattle.c_syntax.specs.declared.token.Sign.TheVariants as sign
use Rattle.c_syntax.specs.Words.{EachAt, NameAt, ParamAt, ParamsAt, a_name, a_sign, after_commas, bound_kinds, optional_kinds, param_kinds, param_name_kinds}
use Rattle.c_syntax.specs.Words.{params_kinds, type_kinds, with_commas, DeclarationTree, EntryList}
use Rattle.c_syntax.specs.ItemTree as item
use Rattle.c_types_rules.specs.declared.fault.FaultKind.{FaultKind}
use Rattle.c_types_rules.specs.declared.fault.FaultKind.TheVariants as fault
use Rattle.c_types_rules.specs.declared.function.FunctionType.{FunctionType}
use Rattle.c_types_rules.specs.declared.layout.StructType.{StructType}
use Rattle.c_types_rules.specs.TypeTree as t
use Rattle.c_types_rules.specs.Words.{TypeTree, is_scalar, is_struct, is_complete}
use Rattle.c_types_expressions.specs.declared.names.Meaning.{Meaning}
use Rattle.c_types_expressions.specs.declared.names.Meaning.TheVariants as meaning
use Rattle.c_types_expressions.specs.declared.walk.Parameter.{Parameter}
use Rattle.c_types_expressions.specs.declared.walk.Walk.{Walk}
use Rattle.c_types_expressions.specs.Words.{base_type, tagged_type, with_stars, declared_meaning, is_reserved, Walked, Fine, Faulty, Done, ◌>>=◌, scope_closed}
use Rattle.c_types_walk.specs.ItemWalk.{is_clashing_name, function_checked, body_scope_opened, has_length, is_among, is_defined, listed_params, looked_param, param_type, typed_function, types_of}
use Rattle.c_types_walk.specs.ItemWalk.{walk_body, walk_item, walk_param, walk_params, with_definition, with_function}
use Rattle.c_types.specs.Parts.{Part, Expression, Use, Declared, Begins, declaration_parts, entries_parts}
use Rattle.c_types_walk.specs.StatementWalk.{walk_declaration, walk_entries}
use Rattle.c_types.proofs.Noted as record_of
use Rattle.c_types.proofs.Noted.{Functions, Seen, Step, noting, noting_all, seen, stage, structs_stay}
use Rattle.c_types.proofs.NotedItems.{inner_notes, parts_from}
use Rattle.c_types.proofs.NotedStatements.{declaration_notes}
use Rattle.c_meaning_sound.proofs.Growing.{Grows}

-- a step that met no fault, and what came after it
pub record Comes {A B : Type 0} (m : Walked A) (k : A → Walk → Walked B) (b : B) (z : Walk) : Type 0 where
  pub value : A
  pub known : Walk
  pub first : m ≡ Fine value known
  pub rest : k value known ≡ Fine b z

pub comes : {A B : Type 0} (m : Walked A) (k : A → Walk → Walked B) (b : B) (z : Walk) → (m >>= k) ≡ Fine b z → Comes m k b z
comes (Fine a v) k b z h = record { value = a; known = v; first = refl; rest = h }
comes (Faulty kind token) k b z h = absurd (cc)

abbrev pub known_or : {A : Type 0} → Walk → Walked A → Walk
known_or w (Fine a v) = v
known_or w (Faulty kind token) = w

pub fine_known : {A : Type 0} (a b : A) (v z : Walk) → Fine a v ≡ Fine b z → v ≡ z
fine_known a b v z h = ap (known_or v) h

-- what holds where a step meets no fault
pub taken : {A : Type 0} (P : A → Walk → Type 0) (m : Walked A) (a : A) (v : Walk) → record_of.Gives P m → m ≡ Fine a v → P a v
taken P m a v g h = subst (record_of.Gives P) h g

-- the second list begins with the first one
abbrev pub Begun : {A : Type 0} → List A → List A → Type 0
Begun {A = A} xs ys = (more : List A) × (ys ≡ xs ++ more)

pub begun_here : {A : Type 0} (xs : List A) → Begun xs xs
begun_here xs = ([], sym (append-nil xs))

pub begun_same : {A : Type 0} (xs ys : List A) → ys ≡ xs → Begun xs ys
begun_same xs ys h = ([], h ∙ sym (append-nil xs))

pub begun_then : {A : Type 0} (xs ys zs : List A) → Begun xs ys → Begun ys zs → Begun xs zs
begun_then xs ys zs a b = (a.0 ++ b.0, b.1 ∙ ap (λ l. l ++ b.0) a.1 ∙ append_assoc xs a.0 b.0)

pub stays_more : {A : Type 0} (xs more : List A) → Stays xs (xs ++ more)
stays_more xs more = get_left xs more

pub begun_stays : {A : Type 0} (xs ys : List A) → Begun xs ys → Stays xs ys
begun_stays xs ys b i x h = rw b.1 (get_left xs b.0 i x h)

pub begun_long : {A : Type 0} (xs ys : List A) → Begun xs ys → length xs ≤ length ys
begun_long xs ys b = rw b.1 (omega (arith, length-append xs b.0))

less_more : (k n m : ℕ) → n ≤ m → nat_lt k n ≡ true → nat_lt k m ≡ true
less_more k n m h e = grind (arith, nat_tests, h, e)

and_parts : (a b c : Bool) → (b ≡ true → c ≡ true) → (a && b) ≡ true → (a && c) ≡ true
and_parts true b c f h = f h
and_parts false b c f h = h

-- where more structs are known, more types are known whole
pub longer_grows : (old new : List StructType) → length old ≤ length new → Grows old new
longer_grows old new l (t.Array element size) h =
    and_parts (nat_lt 0 size) (is_complete old element) (is_complete new element) (longer_grows old new l element) h
longer_grows old new l (t.Struct tag) h = less_more tag (length old) (length new) l h
longer_grows old new l other h = h

-- what an item leaves of what was known before it
pub record Grown (w v : Walk) : Type 0 where
  pub structs : Begun w.structs v.structs
  pub functions : Begun w.functions v.functions
  pub definitions : Begun w.definitions v.definitions
  pub variables : Begun w.variables v.variables

pub grown_here : (w : Walk) → Grown w w
grown_here w = record {
  structs = begun_here w.structs;
  functions = begun_here w.functions;
  definitions = begun_here w.definitions;
  variables = begun_here w.variables;
}

pub grown_then : (w u v : Walk) → Grown w u → Grown u v → Grown w v
grown_then w u v a b = record {
  structs = begun_then w.structs u.structs v.structs a.structs b.structs;
  functions = begun_then w.functions u.functions v.functions a.functions b.functions;
  definitions = begun_then w.definitions u.definitions v.definitions a.definitions b.definitions;
  variables = begun_then w.variables u.variables v.variables a.variables b.variables;
}

one_behind : {A : Type 0} (xs ys : List A) (x : A) → Begun (xs ++ x ∷ []) ys → Begun xs ys
one_behind xs ys x b = (x ∷ b.0, b.1 ∙ append_assoc xs (x ∷ []) b.0)

variables_noted : (ps : List Part) (s : Seen) → Begun s.variables (noting_all ps s).variables
variables_noted [] s = begun_here s.variables
variables_noted (Expression token ∷ ps) s = variables_noted ps (noting (Expression token) s)
variables_noted (Use token ∷ ps) s = variables_noted ps (noting (Use token) s)
variables_noted (Declared true token name ∷ ps) s =
    one_behind s.variables (noting_all ps (noting (Declared true token name) s)).variables _ (variables_noted ps (noting (Declared true token name) s))
variables_noted (Declared false token name ∷ ps) s =
    one_behind s.variables (noting_all ps (noting (Declared false token name) s)).variables _ (variables_noted ps (noting (Declared false token name) s))
variables_noted (Begins ∷ ps) s = variables_noted ps (noting Begins s)

-- what was noted in steps
pub step_grown : (ps : List Part) (w v : Walk) → Step ps (stage w) (stage v) → Grown w v
step_grown ps w v h = record {
  structs = begun_same w.structs v.structs (ap (λ (s : Seen). s.structs) h.0 ∙ structs_stay ps (seen w));
  functions = begun_same w.functions v.functions (ap (λ (f : Functions). f.entries) h.2);
  definitions = begun_same w.definitions v.definitions (ap (λ (f : Functions). f.definitions) h.2);
  variables = subst (λ xs. Begun w.variables xs) (sym (ap (λ (s : Seen). s.variables) h.0)) (variables_noted ps (seen w));
}

pub structs_same : (ps : List Part) (w v : Walk) → Step ps (stage w) (stage v) → v.structs ≡ w.structs
structs_same ps w v h = ap (λ (s : Seen). s.structs) h.0 ∙ structs_stay ps (seen w)

pub functions_same : (ps : List Part) (w v : Walk) → Step ps (stage w) (stage v) → v.functions ≡ w.functions
functions_same ps w v h = ap (λ (f : Functions). f.entries) h.2

pub definitions_same : (ps : List Part) (w v : Walk) → Step ps (stage w) (stage v) → v.definitions ≡ w.definitions
definitions_same ps w v h = ap (λ (f : Functions). f.definitions) h.2

-- named types
abbrev pub Flat : TypeTree → Type 0
Flat (t.Pointer to) = Flat to
Flat (t.Array element size) = ⊥
Flat of = Unit {0}

pub stars_flat : (n : ℕ) (of : TypeTree) → Flat of → Flat (with_stars n of)
stars_flat zero of h = h
stars_flat (suc n) of h = stars_flat n (t.Pointer of) h

-- a named type leaves all as it was
abbrev pub Named : Walk → TypeTree → Walk → Type 0
Named w of v = (v ≡ w) × Flat of

tagged_named : (token : ℕ) (m : Option Meaning) (w : Walk) → record_of.Gives (Named w) (tagged_type token m w)
tagged_named token (Some (meaning.Struct index)) w = (refl, tt)
tagged_named token m w = tt

pub base_gives : (b : Base) (w : Walk) → record_of.Gives (Named w) (base_type b w)
base_gives (base.Struct token tag) w = tagged_named token (declared_meaning tag w.tags) w
base_gives b w = (refl, tt)

pub base_is : (b : Base) (w v : Walk) (of : TypeTree) → base_type b w ≡ Fine of v → (v ≡ w) × ((n : ℕ) → Flat (with_stars n of))
base_is b w v of h = let k : Named w of v = taken (Named w) (base_type b w) of v (base_gives b w) h in (k.0, λ n. stars_flat n of k.1)

-- what a declaration does outside of functions
pub declaration_grown : (d : DeclarationTree) (w v : Walk) (a : Done) → walk_declaration true d w ≡ Fine a v → Grown w v
declaration_grown d w v a h = step_grown (declaration_parts true d) w v
    (taken (λ _ u. Step (declaration_parts true d) (stage w) (stage u)) (walk_declaration true d w) a v (declaration_notes true d w) h)

-- a function that declares itself, or doesn't
pub record Declares (token : ℕ) (taken : Bool) (gives : TypeTree) (w v : Walk) : Type 0 where
  pub free : taken ≡ false
  pub plain : is_struct gives ≡ false
  pub same : v ≡ w

declared_by : (b c : Bool) (token : ℕ) (w v : Walk) (a : Done) →
    (if b then Faulty fault.Redeclared token else if c then Faulty fault.Object token else Fine tt w) ≡ Fine a v
    → (b ≡ false) × (c ≡ false) × (v ≡ w)
declared_by true c token w v a h = absurd (cc)
declared_by false true token w v a h = absurd (cc)
declared_by false false token w v a h = (refl, refl, sym (fine_known tt a w v h))

pub declares_is : (token : ℕ) (b : Bool) (gives : TypeTree) (w v : Walk) (a : Done) → function_checked token b gives w ≡ Fine a v → Declares token b gives w v
declares_is token b gives w v a h =
    let k = declared_by b (is_struct gives) token w v a h in
    record { free = k.0; plain = k.1; same = k.2 }

pub function_grown : (name : List ℕ) (f : FunctionType) (known : Option ℕ) (w : Walk) → Grown w (with_function name f known w)
function_grown name f (Some index) w = grown_here w
function_grown name f None w = record {
  structs = begun_here w.structs;
  functions = (record { name = name; ctype = f } ∷ [], refl);
  definitions = begun_here w.definitions;
  variables = begun_here w.variables;
}

-- a function with a body, step by step
pub record Defines (token : ℕ) (f : FunctionType) (name : List ℕ) (ps : List Parameter) (body : EntryList) (known : Option ℕ) (w v : Walk) : Type 0 where
  pub behind : Walk
  pub walked : walk_entries f.gives false body (body_scope_opened ps (with_function name f known w)) ≡ Fine tt behind
  pub plain : is_struct f.gives ≡ false
  pub last : Walk
  pub closes : scope_closed tt behind ≡ Fine tt last
  pub is : v ≡ with_definition (unwrap_or known (length w.functions)) (length w.variables) last

pub body_defines : (token : ℕ) (f : FunctionType) (name : List ℕ) (ps : List Parameter) (body : EntryList) (known : Option ℕ) (w v : Walk) (a : Done)
    → walk_body token f name ps body known w ≡ Fine a v → Defines token f name ps body known w v
unfolding walk_body
body_defines token f name ps body known w v a h =
    let whole = comes (walk_entries f.gives false body (body_scope_opened ps (with_function name f known w)) >>= scope_closed) _ a v h in
    let inner = comes (walk_entries f.gives false body (body_scope_opened ps (with_function name f known w))) scope_closed whole.value whole.known whole.first in
    let own = comes (function_checked token
    (is_clashing_name name known w || is_defined (unwrap_or known (length w.functions)) w.defined_as) f.gives whole.known) _ a v whole.rest in
    let d = declares_is token _ f.gives whole.known own.known own.value own.first in
    record {
      behind = inner.known;
      walked = inner.first;
      plain = d.plain;
      last = whole.known;
      closes = inner.rest;
      is = sym (fine_known tt a (with_definition (unwrap_or known (length w.functions)) (length w.variables) own.known) v own.rest)
          ∙ ap (λ u. with_definition (unwrap_or known (length w.functions)) (length w.variables) u) d.same;
    }

pub defines_step : (token : ℕ) (f : FunctionType) (name : List ℕ) (ps : List Parameter) (body : EntryList) (known : Option ℕ) (w v : Walk)
    → (d : Defines token f name ps body known w v) → Step (Begins ∷ parts_from ps ++ entries_parts body) (stage (with_function name f known w)) (stage d.last)
defines_step token f name ps body known w v d =
    let u : Walk = with_function name f known w in
    let parts : List Part = Begins ∷ parts_from ps ++ entries_parts body in
    taken (λ _ r. Step parts (stage u) (stage r)) (walk_entries f.gives false body (body_scope_opened ps u) >>= scope_closed) tt d.last
    (inner_notes f.gives ps body u) (ap (λ m. m >>= scope_closed) d.walked ∙ d.closes)

-- from the function's declaration on
pub defines_onward : (token : ℕ) (f : FunctionType) (name : List ℕ) (ps : List Parameter) (body : EntryList) (known : Option ℕ) (w v : Walk)
    → Defines token f name ps body known w v → Grown (with_function name f known w) v
defines_onward token f name ps body known w v d =
    let u : Walk = with_function name f known w in
    let parts : List Part = Begins ∷ parts_from ps ++ entries_parts body in
    let more : Grown u d.last = step_grown parts u d.last (defines_step token f name ps body known w v d) in
    subst (λ r. Grown u r) (sym d.is) (record {
      structs = more.structs;
      functions = more.functions;
      definitions = begun_then u.definitions d.last.definitions _ more.definitions (_, refl);
      variables = more.variables;
    })

pub defines_grown : (token : ℕ) (f : FunctionType) (name : List ℕ) (ps : List Parameter) (body : EntryList) (known : Option ℕ) (w v : Walk)
    → Defines token f name ps body known w v → Grown w v
defines_grown token f name ps body known w v d =
    grown_then w (with_function name f known w) v (function_grown name f known w) (defines_onward token f name ps body known w v d)

-- the definition that a body gives
pub defines_one : (token : ℕ) (f : FunctionType) (name : List ℕ) (ps : List Parameter) (body : EntryList) (known : Option ℕ) (w v : Walk)
    → (d : Defines token f name ps body known w v)
    → v.definitions ≡ w.definitions ++ record { function = unwrap_or known (length w.functions); first = length w.variables; count = d.last.locals } ∷ []
defines_one token f name ps body known w v d =
    let u : Walk = with_function name f known w in
    let parts : List Part = Begins ∷ parts_from ps ++ entries_parts body in
    ap (λ (r : Walk). r.definitions) d.is
    ∙ ap (λ ds. ds ++ record { function = unwrap_or known (length w.functions); first = length w.variables; count = d.last.locals } ∷ [])
    (definitions_same parts u d.last (defines_step token f name ps body known w v d) ∙ same_by known)
  where
    same_by : (o : Option ℕ) → (with_function name f o w).definitions ≡ w.definitions
    same_by None = refl
    same_by (Some index) = refl

-- parameters, of which the names stand at these tokens
abbrev pub NamedWithin : ℕ → ℕ → ℕ → Option (List ℕ) → Type 0
NamedWithin lo hi token None = Unit {0}
NamedWithin lo hi token (Some name) = (lo ≤ token) × (token < hi)

pub record IsParam (lo hi : ℕ) (p : Parameter) : Type 0 where
  pub scalar : is_scalar p.ctype ≡ true
  pub flat : Flat p.ctype
  pub place : NamedWithin lo hi p.token p.name

abbrev pub AreParams : ℕ → ℕ → Walk → List Parameter → Walk → Type 0
AreParams lo hi w xs v = (v ≡ w) × AllByRecursion (IsParam lo hi) xs

-- each of the parameters ends there
abbrev pub Ends : ℕ → List Param → ℕ → Type 0
Ends at [] hi = Unit {0}
Ends at (p ∷ ps) hi = (at + length (param_kinds p) ≤ hi) × Ends (at + length (param_kinds p) + 1) ps hi

more_end : (at hi : ℕ) (ps : List Param) → at + length (after_commas param_kinds ps) ≤ hi → Ends (at + 1) ps hi
more_end at hi [] h = tt
more_end at hi (p ∷ ps) h =
    let long : length (after_commas param_kinds (p ∷ ps)) ≡ 1 + length (param_kinds p) + length (after_commas param_kinds ps) =
    omega (arith, length-append (a_sign sign.Comma ++ param_kinds p) (after_commas param_kinds ps), length-append (a_sign sign.Comma) (param_kinds p)) in
    (omega (arith, h, long), more_end (at + 1 + length (param_kinds p)) hi ps (omega (arith, h, long)))

pub params_end : (at hi : ℕ) (ps : List Param) → at + length (with_commas param_kinds ps) ≤ hi → Ends at ps hi
params_end at hi [] h = tt
params_end at hi (p ∷ ps) h =
    let long : length (with_commas param_kinds (p ∷ ps)) ≡ length (param_kinds p) + length (after_commas param_kinds ps) =
    length-append (param_kinds p) (after_commas param_kinds ps) in
    (omega (arith, h, long), more_end (at + length (param_kinds p)) hi ps (omega (arith, h, long)))

flat_param : (bound : Option Bound) (of : TypeTree) → Flat of → Flat (param_type bound of)
flat_param None of h = h
flat_param (Some b) of h = h

module _ (lo hi : ℕ) (w : Walk) where
  abbrev One : Parameter → Walk → Type 0
  One p v = (v ≡ w) × IsParam lo hi p

  scalar_one : (a b : Bool) (token : ℕ) (p : Parameter) → is_scalar p.ctype ≡ a → Flat p.ctype → NamedWithin lo hi p.token p.name
      → record_of.Gives One (if a && b then Fine p w else Faulty fault.Object token)
  scalar_one true true token p e f n = (refl, record { scalar = e; flat = f; place = n })
  scalar_one true false token p e f n = tt
  scalar_one false b token p e f n = tt

  refused_one : (b : Bool) (kind : FaultKind) (token : ℕ) (r : Walked Parameter) → record_of.Gives One r → record_of.Gives One
      (if b then Faulty kind token else r)
  refused_one true kind token r h = tt
  refused_one false kind token r h = h

  looked_one : (body : Bool) (token : ℕ) (name : Option ParamName) (of : TypeTree) (before : List Parameter) → Flat of
      → IfSome name (λ n. (lo ≤ n.token) × (n.token < hi)) → record_of.Gives One (looked_param body token name of before w)
  looked_one body token None of before f n = refused_one body fault.Unknown token _ (scalar_one (is_scalar of) true token _ refl f tt)
  looked_one body token (Some n) of before f p = refused_one (is_reserved n.name || is_among n.name before) fault.Redeclared token _
      (scalar_one (is_scalar (param_type n.bound of)) (has_length n.bound) token _ refl (flat_param n.bound of f) p)

  param_placed : (at : ℕ) (p : Param) → lo ≤ at → at + length (param_kinds p) ≤ hi → (o : Option ParamName) → p.name ≡ o
      → IfSome o (NameAt (at + length (type_kinds p.base p.stars))) → IfSome o (λ n. (lo ≤ n.token) × (n.token < hi))
  param_placed at p l h None e k = tt
  param_placed at p l h (Some n) e k =
      let long : length (param_kinds p) ≡ length (type_kinds p.base p.stars) + length (optional_kinds param_name_kinds p.name) =
      length-append (type_kinds p.base p.stars) (optional_kinds param_name_kinds p.name) in
      let own : length (optional_kinds param_name_kinds p.name) ≡ 1 + length (optional_kinds bound_kinds n.bound) =
      ap (λ q. length (optional_kinds param_name_kinds q)) e ∙ omega (arith, length-append (a_name n.name) (optional_kinds bound_kinds n.bound)) in
      (omega (arith, k, l), omega (arith, k, h, long, own))

  param_one : (body : Bool) (at : ℕ) (p : Param) (before : List Parameter) → ParamAt at p → lo ≤ at → at + length (param_kinds p) ≤ hi
      → record_of.Gives One (walk_param body p before w)
  param_one body at p before a l h = record_of.gives_then (Named w) One (base_type p.base w) _ (base_gives p.base w)
      (λ of v n. subst (λ u. record_of.Gives One (looked_param body p.token p.name (with_stars p.stars of) before u)) (sym n.0)
      (looked_one body p.token p.name (with_stars p.stars of) before (stars_flat p.stars of n.1) (param_placed at p l h p.name refl a.2)))

  pub params_given : (body : Bool) (at : ℕ) (ps : List Param) (before : List Parameter) → EachAt ParamAt param_kinds 1 at ps → lo ≤ at → Ends at ps hi
      → AllByRecursion (IsParam lo hi) before → record_of.Gives (AreParams lo hi w) (walk_params body ps before w)
  params_given body at [] before p l h k = (refl, k)
  params_given body at (x ∷ ps) before p l h k = record_of.gives_then One (AreParams lo hi w) (walk_param body x before w) _
      (param_one body at x before p.0 l h.0)
      (λ y v n. subst (λ u. record_of.Gives (AreParams lo hi w) (walk_params body ps (before ++ y ∷ []) u)) (sym n.0)
      (params_given body (at + length (param_kinds x) + 1) ps (before ++ y ∷ []) p.1 (omega (arith, l)) h.1 (all_more (IsParam lo hi) before y k n.1)))

pub listed_given : (lo hi : ℕ) (w : Walk) (body : Bool) (ps : Params) → ParamsAt lo ps → lo + length (params_kinds ps) ≤ hi
    → record_of.Gives (AreParams lo hi w) (walk_params body (listed_params ps) [] w)
listed_given lo hi w body params.Empty p h = (refl, tt)
listed_given lo hi w body params.Void p h = (refl, tt)
listed_given lo hi w body (params.List list) p h = params_given lo hi w body lo list [] p (omega arith) (params_end lo hi list h) tt

-- a function, step by step
pub record Function (token : ℕ) (b : Base) (stars : ℕ) (name : List ℕ) (ps : Params) (body : Option EntryList) (lo hi : ℕ) (w : Walk) (a : Done)
    (v : Walk) : Type 0 where
  pub of : TypeTree
  pub flat : Flat (with_stars stars of)
  pub own : List Parameter
  pub are : AllByRecursion (IsParam lo hi) own
  pub rest : typed_function token (record { gives = with_stars stars of; params = types_of own }) name own body w ≡ Fine a v

pub function_is : (token : ℕ) (b : Base) (stars : ℕ) (name : List ℕ) (ps : Params) (body : Option EntryList) (lo hi : ℕ) (w : Walk) (a : Done) (v : Walk)
    → ParamsAt lo ps → lo + length (params_kinds ps) ≤ hi → walk_item (item.Function token b stars name ps body) w ≡ Fine a v
    → Function token b stars name ps body lo hi w a v
function_is token b stars name ps body lo hi w a v p l h =
    let first = comes (base_type b w) _ a v h in
    let k : Named w first.value first.known = taken (Named w) (base_type b w) first.value first.known (base_gives b w) first.first in
    let second = comes (walk_params (is_some body) (listed_params ps) [] first.known) _ a v first.rest in
    let q : AreParams lo hi first.known second.value second.known = taken (AreParams lo hi first.known) (walk_params (is_some body) (listed_params ps) [] first.known)
    second.value second.known (listed_given lo hi first.known (is_some body) ps p l) second.first in
    record {
      of = first.value;
      flat = stars_flat stars first.value k.1;
      own = second.value;
      are = q.1;
      rest = subst (λ u. typed_function token
          (record { gives = with_stars stars first.value; params = types_of second.value }) name second.value body u ≡ Fine a v)
          (q.0 ∙ k.0) second.rest;
    }

-- A text that the walk accepts is as C99 asks.
use Rattle.std.proofs.Common.{inl, ◌≡◌, ℕ, ◌≤◌, ◌<◌, refl, subst, sym, ◌∙◌, arith, List, [], ◌∷◌, ◌++◌, Some, None, ◌+◌, Bool, true, false, length}
use Rattle.std.proofs.Common.{length-append, append_assoc, ◌&&◌, ◌||◌, if◌then◌else◌, unwrap_or}
use Rattle.std.specs.Prelude.{Option, is_some, nat_le, slice_get, IfSome}
use Rattle.std.specs.List.{AllByRecursion, flat_map}
use Rattle.std.specs.Str.{bytes_eq}
use Rattle.std.proofs.lemmas.Bool.{and_parts, false≢true}
use Rattle.std.proofs.lemmas.List.{append-nil, length-replicate}
use Rattle.c_types_expressions.proofs.Giving.{Gives as GivesIn}
use Rattle.c_types_expressions.proofs.Given.{Gives, and_then, weaker}
use Rattle.base_lists.proofs.Tests.{or_first_false, or_second_false}
use Rattle.base_lists.proofs.Lists.{get_last, Stays}
use Rattle.c_syntax.specs.declared.token.Sign.TheVariants as sign
use Rattle.c_syntax.specs.declared.parts.Base.{Base}
use Rattle.c_syntax.specs.declared.parts.Base.TheVariants as base
use Rattle.c_syntax.specs.declared.parts.Bound.{Bound}
use Rattle.c_syntax.specs.declared.parts.Declarator.{Declarator}
use Rattle.c_syntax.specs.declared.parts.Members.{Members}
use Rattle.c_syntax.specs.declared.parts.Param.{Param}
use Rattle.c_syntax.specs.declared.parts.ParamName.{ParamName}
use Rattle.c_syntax.specs.declared.parts.Params.{Params}
use Rattle.c_syntax.specs.declared.parts.Params.TheVariants as params
use Rattle.c_syntax.specs.Words.{EntryList, ItemTree, SourceTree, EachAt, EntriesAt, ItemAt, NameAt, ParamAt, ParamsAt, ShapedEntries, ShapedItem, a_name}
use Rattle.c_syntax.specs.Words.{a_sign, body_kinds, entry_kinds, item_kinds, optional_kinds, param_kinds, param_name_kinds, params_kinds, parenthesized_kinds, type_kinds}
use Rattle.c_syntax.specs.Words.{with_commas, IsShaped}
use Rattle.c_syntax.specs.ItemTree as i
use Rattle.c_types_rules.specs.declared.fault.FaultKind.{FaultKind}
use Rattle.c_types_rules.specs.declared.fault.FaultKind.TheVariants as fault
use Rattle.c_types_rules.specs.declared.function.FunctionType.{FunctionType}
use Rattle.c_types_rules.specs.declared.layout.StructType.{StructType}
use Rattle.c_types_rules.specs.Words.{TypeTree, same_type, same_types, is_scalar, is_struct, member_named, empty_struct, is_object, most_cells, with_member}
use Rattle.c_types_rules.proofs.Same.{equal}
use Rattle.c_types_expressions.specs.declared.names.Meaning.{Meaning}
use Rattle.c_types_expressions.specs.declared.names.Meaning.TheVariants as meaning
use Rattle.c_types_expressions.specs.declared.names.ScopeEntry.{ScopeEntry}
use Rattle.c_types_expressions.specs.declared.names.ScopeEntry.TheVariants.{Opens}
use Rattle.c_types_expressions.specs.declared.names.ScopeEntry.TheVariants as entry
use Rattle.c_types_expressions.specs.declared.walk.FunctionEntry.{FunctionEntry}
use Rattle.c_types_expressions.specs.declared.walk.Parameter.{Parameter}
use Rattle.c_types_expressions.specs.declared.walk.Walk.{Walk}
use Rattle.c_types_walk.specs.Declarators.{declared_type}
use Rattle.c_types_expressions.specs.Words.{base_type, tagged_type, with_stars, empty_walk, declared_meaning, is_here, is_reserved, Walked, Fine, Faulty, ◌>>=◌, Done}
use Rattle.c_types_expressions.specs.Words.{scope_closed, scope_opened, with_variable}
use Rattle.c_types.specs.Fault.{ends_with, last_fault, walk_tree}
use Rattle.c_types_walk.specs.ItemWalk.{is_clashing_name, has_type, function_checked, struct_defined, body_scope_opened, has_length, is_among, is_defined, known_as, listed_params, looked_param}
use Rattle.c_types_walk.specs.ItemWalk.{param_type, scalar_param, typed_function, typed_member, types_of, walk_body, walk_declarators, walk_item, walk_items}
use Rattle.c_types_walk.specs.ItemWalk.{walk_members, walk_param, walk_params, walk_struct, with_definition, with_function, with_param, with_params, with_tag}
use Rattle.c_types_walk.specs.StatementWalk.{walk_entries}
use Rattle.c_types_laws.specs.Naming.{DeclaresVariable}
use Rattle.c_types_laws.specs.Fits.{BodyFits, CalleeFits, EntriesFit, ItemFits, ParamFits, ParamNameFits, TextFits}
use Rattle.c_types_laws.proofs.Scenes.{Finds, FunctionNamed, NoVariable, Sound, finds, other_bytes, scene, stack_same}
use Rattle.c_types_laws.proofs.Steps.{IsFlat, Part, Ready, knowing, later_here, nothing_noted, ready_after, ready_in, rightwards}
use Rattle.c_types_laws.proofs.Steps.{same_here, so, sound_later, wider}
use Rattle.c_types_laws.proofs.Declaring.{declared, enclosed, more_stays, ready_opened}
use Rattle.c_types_laws.proofs.Leading.{Leads, allowed, anything, nothing, refused, seq}
use Rattle.c_types_laws.proofs.Goods.{around}
use Rattle.c_types_laws.proofs.Statements.{commas_long, commas_one, declaration_leads, entries_leads, quiet}
use Rattle.base_lists.proofs.Options.{none_some}

-- what leaves the walk as it is, and what holds of its value
abbrev Keeping : {A : Type 0} → Walk → (A → Type 0) → A → Walk → Type 0
Keeping w P a v = (v ≡ w) × P a

tagged_keeps : (token : ℕ) (m : Option Meaning) (w : Walk) → Gives (tagged_type token m w) (Keeping w (λ t. Unit {0}))
tagged_keeps token (Some (meaning.Struct index)) w = record { by = (refl, tt) }
tagged_keeps token m w = record { by = tt }

base_keeps : (b : Base) (w : Walk) → Gives (base_type b w) (Keeping w (λ t. Unit {0}))
base_keeps (base.Struct token tag) w = tagged_keeps token (declared_meaning tag w.tags) w
base_keeps b w = record { by = (refl, tt) }

-- parameters

abbrev IsFor : Option ParamName → Parameter → Type 0
IsFor None x = x.name ≡ None
IsFor (Some n) x = (x.token ≡ n.token) × (x.name ≡ Some n.name)

abbrev AreFor : List Param → List Parameter → Type 0
AreFor [] [] = Unit {0}
AreFor [] (x ∷ xs) = ⊥
AreFor (p ∷ ps) [] = ⊥
AreFor (p ∷ ps) (x ∷ xs) = IsFor p.name x × AreFor ps xs

scalar_keeps : (token : ℕ) (bound : Option Bound) (t : TypeTree) (p : Parameter) (n : Option ParamName) (w : Walk) → IsFor n p
    → Gives (scalar_param token bound t p w) (Keeping w (IsFor n))
scalar_keeps token bound t p n w h = allowed (is_scalar t && has_length bound) fault.Object token (Fine p w) (λ k. record { by = (refl, h) })

looked_keeps : (body : Bool) (token : ℕ) (n : Option ParamName) (t : TypeTree) (before : List Parameter) (w : Walk)
    → Gives (looked_param body token n t before w) (Keeping w (IsFor n))
looked_keeps body token None t before w =
    refused body fault.Unknown token (scalar_param token None t (record { token = token; name = None; ctype = t }) w)
    (λ h. scalar_keeps token None t (record { token = token; name = None; ctype = t }) None w refl)
looked_keeps body token (Some n) t before w =
    refused (is_reserved n.name || is_among n.name before) fault.Redeclared token
    (scalar_param token n.bound (param_type n.bound t) (record { token = n.token; name = Some n.name; ctype = param_type n.bound t }) w)
    (λ h. scalar_keeps token n.bound (param_type n.bound t) (record { token = n.token; name = Some n.name; ctype = param_type n.bound t }) (Some n) w
    (refl, refl))

param_keeps : (body : Bool) (p : Param) (before : List Parameter) (w : Walk) → Gives (walk_param body p before w) (Keeping w (IsFor p.name))
param_keeps body p before w = and_then (base_keeps p.base w) (λ b v h. weaker (looked_keeps body p.token p.name (with_stars p.stars b) before v)
    (λ x u k. (k.0 ∙ h.0, k.1)))

abbrev Behind : List Parameter → List Param → List Parameter → Type 0
Behind before ps xs = (own : List Parameter) × (xs ≡ before ++ own) × AreFor ps own

params_keep : (body : Bool) (ps : List Param) (before : List Parameter) (w : Walk) → Gives (walk_params body ps before w) (Keeping w (Behind before ps))
params_keep body [] before w = record { by = (refl, ([], sym (append-nil before), tt)) }
params_keep body (p ∷ ps) before w = and_then (param_keeps body p before w) (λ x v h. weaker (params_keep body ps (before ++ x ∷ []) v)
    (λ xs u k. (k.0 ∙ h.0, (x ∷ k.1.0, k.1.1 ∙ append_assoc before (x ∷ []) k.1.0, (h.1, k.1.2)))))

-- functions

no_variable : (name : List ℕ) (names : List ScopeEntry) → IsFlat names → is_here name names ≡ false → NoVariable name names
no_variable name [] f h = tt
no_variable name (Opens ∷ rest) f h = absurd f
no_variable name (entry.Declares other (meaning.Variable place) ∷ rest) f h = (
  other_bytes other name (or_first_false (bytes_eq other name) (is_here name rest) h),
  no_variable name rest f
      (or_second_false (bytes_eq other name) (is_here name rest) h),
)
no_variable name (entry.Declares other (meaning.Function place) ∷ rest) f h = no_variable name rest f (or_second_false (bytes_eq other name) (is_here name rest) h)
no_variable name (entry.Declares other (meaning.Library function) ∷ rest) f h =
    no_variable name rest f (or_second_false (bytes_eq other name) (is_here name rest) h)
no_variable name (entry.Declares other (meaning.Struct place) ∷ rest) f h = no_variable name rest f (or_second_false (bytes_eq other name) (is_here name rest) h)

not_here : (reserved here : Bool) → (reserved || (here && true)) ≡ false → here ≡ false
not_here true here h = absurd (false≢true (sym h))
not_here false true h = h
not_here false false h = h

param_within : (p : Param) (at : ℕ) → ParamAt at p → IfSome p.name (λ m. (at ≤ m.token) × (m.token < at + length (param_kinds p)))
param_within p at h = by p.name h.2
  where
    by : (o : Option ParamName) → IfSome o (NameAt (at + length (type_kinds p.base p.stars)))
        → IfSome o (λ m. (at ≤ m.token) × (m.token < at + length (type_kinds p.base p.stars ++ optional_kinds param_name_kinds o)))
    by None h = tt
    by (Some n) h = (omega (arith, h), omega (arith, h, length-append (type_kinds p.base p.stars) (param_name_kinds n)))

-- nothing more
abbrev finished : Walk → Walked Done
finished w = Fine tt w

-- the members of a struct

typed_member_keeps : (d : Declarator) (t : Option TypeTree) (s : StructType) (w : Walk) → Gives (typed_member d t s w) (Keeping w (λ x. Unit {0}))
typed_member_keeps d None s w = record { by = tt }
typed_member_keeps d (Some t) s w = allowed (is_object w.structs t) fault.Object d.token (Fine (with_member w.structs d.name t s) w)
    (λ k. record { by = (refl, tt) })

declarators_keep : (b : TypeTree) (ds : List Declarator) (s : StructType) (w : Walk) → Gives (walk_declarators b ds s w) (Keeping w (λ x. Unit {0}))
declarators_keep b [] s w = record { by = (refl, tt) }
declarators_keep b (d ∷ ds) s w =
    and_then (refused (is_some (member_named d.name s.members)) fault.Redeclared d.token (typed_member d (declared_type d b) s w)
    (λ k. typed_member_keeps d (declared_type d b) s w)) (λ x v h. weaker (declarators_keep b ds x v) (λ y u k. (k.0 ∙ h.0, tt)))

members_keep : (ms : List Members) (s : StructType) (w : Walk) → Gives (walk_members ms s w) (Keeping w (λ x. Unit {0}))
members_keep [] s w = record { by = (refl, tt) }
members_keep (m ∷ ms) s w = and_then (base_keeps m.base w) (λ b v h. and_then (declarators_keep b m.declarators s v) (λ x u k.
    weaker (members_keep ms x u) (λ y q l. (l.0 ∙ k.0 ∙ h.0, tt))))

-- where the parts of an item stand

pub params_within : (ps : Params) → length (with_commas param_kinds (listed_params ps)) ≤ length (params_kinds ps)
params_within params.Empty = omega arith
params_within params.Void = omega arith
params_within (params.List list) = omega arith

pub params_at : (ps : Params) (at : ℕ) → ParamsAt at ps → EachAt ParamAt param_kinds 1 at (listed_params ps)
params_at params.Empty at h = tt
params_at params.Void at h = tt
params_at (params.List list) at h = h

function_long : (token : ℕ) (b : Base) (stars : ℕ) (name : List ℕ) (ps : Params) (body : Option EntryList)
    → length (item_kinds (i.Function token b stars name ps body)) ≡ length (type_kinds b stars) + 3 + length (params_kinds ps) + length (body_kinds body)
function_long token b stars name ps body =
    omega (
      arith,
      length-append (type_kinds b stars ++ a_name name ++ parenthesized_kinds (params_kinds ps)) (body_kinds body),
      length-append (type_kinds b stars ++ a_name name) (parenthesized_kinds (params_kinds ps)),
      length-append (type_kinds b stars) (a_name name),
      around (params_kinds ps),
    )

body_long : (entries : EntryList) → length (body_kinds (Some entries)) ≡ 2 + length (entry_kinds entries)
body_long entries = omega (arith, length-append (entry_kinds entries) (a_sign sign.RightBrace))

-- the function was declared before with this name and result
abbrev Knows : List ℕ → FunctionType → Walk → Option ℕ → Type 0
Knows name f w None = Unit {0}
Knows name f w (Some index) = CalleeFits (slice_get w.functions index) name (λ g. g.gives ≡ f.gives)

callee_by : (name : List ℕ) (f : FunctionType) (g : Option FunctionEntry) → FunctionNamed name g → has_type f g ≡ true → CalleeFits g name (λ h. h.gives ≡ f.gives)
callee_by name f None h k = absurd h
callee_by name f (Some g) h k = (h, equal g.ctype.gives f.gives (and_parts (same_type g.ctype.gives f.gives) (same_types g.ctype.params f.params) k).0)

knows_by : (name : List ℕ) (f : FunctionType) (index : ℕ) (w : Walk) (b : Bool) → has_type f (slice_get w.functions index) ≡ b
    → FunctionNamed name (slice_get w.functions index)
    → Knows name f w (if b then Some index else None)
knows_by name f index w true h k = callee_by name f (slice_get w.functions index) k h
knows_by name f index w false h k = tt

knows : (at : ℕ) (name : List ℕ) (f : FunctionType) (m : Option Meaning) (w : Walk) → Finds w.functions w.variables w.ends at name m w.names
    → Knows name f w (known_as f m w)
knows at name f (Some (meaning.Function index)) w h = knows_by name f index w (has_type f (slice_get w.functions index)) refl h.0
knows at name f m w h = tt

callee_stays : (name : List ℕ) (f : FunctionType) (fs gs : List FunctionEntry) (index : ℕ) → Stays fs gs → (g : Option FunctionEntry) → slice_get fs index ≡ g
    → CalleeFits g name (λ h. h.gives ≡ f.gives) → CalleeFits (slice_get gs index) name (λ h. h.gives ≡ f.gives)
callee_stays name f fs gs index s None e h = absurd h
callee_stays name f fs gs index s (Some g) e h = subst (λ o. CalleeFits o name (λ h. h.gives ≡ f.gives)) (sym (s index g e)) h

-- the body of a function with this result
body_fits : (z : Walk) (name : List ℕ) (f : FunctionType) (body : EntryList) (place : ℕ) (g : Option FunctionEntry) → slice_get z.functions place ≡ g
    → CalleeFits g name (λ h. h.gives ≡ f.gives) → EntriesFit z f.gives false body → BodyFits z name body
body_fits z name f body place None e h k = absurd h
body_fits z name f body place (Some g) e h k =
    (place, subst (λ o. CalleeFits o name (λ h. EntriesFit z h.gives false body)) (sym e) (h.0, subst (λ t. EntriesFit z t false body) (sym h.1) k))

-- a function of the name is known at the end, with this result
abbrev Has : Walk → List ℕ → FunctionType → Type 0
Has z name f = (place : ℕ) × CalleeFits (slice_get z.functions place) name (λ g. g.gives ≡ f.gives)

module _ {z : Walk} where
  function_part : (lo hi : ℕ) (name : List ℕ) (f : FunctionType) (known : Option ℕ) (w : Walk) → Ready lo hi w → IsFlat w.names → Knows name f w known
      → is_clashing_name name known w ≡ false
      → Part z lo lo w (with_function name f known w) (Has z name f)
  function_part lo hi name f (Some index) w r flat k c =
      knowing (nothing_noted {P = Unit {0}} lo lo w (omega arith) r.sound tt)
      (λ g. (index, callee_stays name f w.functions z.functions index g.later.functions (slice_get w.functions index) refl k))
  function_part lo hi name f None w r flat k c =
      let new : FunctionEntry = record { name = name; ctype = f } in
      record {
        types = refl;
        variables_at = refl;
        functions_at = refl;
        below = λ token h. record { types = refl; variables = refl; functions = refl };
        above = λ token h. record { types = refl; variables = refl; functions = refl };
        scope = refl;
        flat = λ h. h;
        later = record {
          variables = λ i x h. h;
          behind = λ i x h. inl h;
          ends = (later_here lo (scene w) w.latest w.latest (omega arith)).ends;
          latest = omega arith;
          structs = λ i x h. h;
          functions = more_stays w.functions new;
        };
        sound = record {
          stack = (
            subst (FunctionNamed name) (sym (get_last w.functions new)) refl,
            no_variable name w.names flat (not_here (is_reserved name) (is_here name w.names) c),
            stack_same w.functions (w.functions ++ new ∷ []) w.variables w.variables w.ends w.ends lo (length w.variables) w.names (more_stays w.functions new)
                (λ q h. refl) (λ q h. refl) r.sound.stack,
          );
          opens = r.sound.opens;
          closes = r.sound.closes;
          long = r.sound.long;
          latest = r.sound.latest;
        };
        holds = λ g. (
          length w.functions,
          subst (λ o. CalleeFits o name (λ h. h.gives ≡ f.gives))
              (sym (g.later.functions (length w.functions) new (get_last w.functions new))) (refl, refl),
        );
      }

  -- the parameters of a function are its first variables
  param_part : (lo hi : ℕ) (n : Option ParamName) (x : Parameter) (w : Walk) → IsFor n x → Ready lo hi w → IfSome n (λ m. (lo ≤ m.token) × (m.token < hi))
      → lo ≤ hi → Part z lo hi w (with_param x.token x.name x.ctype w) (IfSome n (ParamNameFits z))
  param_part lo hi None x w h r p high =
      subst (λ o. Part z lo hi w (with_param x.token o x.ctype w) (Unit {0})) (sym h) (quiet lo hi w w refl refl refl refl refl high r.sound tt)
  param_part lo hi (Some n) x w h r p high =
      subst (λ o. Part z lo hi w (with_param x.token o x.ctype w) (DeclaresVariable z n.token n.name)) (sym h.1)
      (subst (λ t. Part z lo hi w (with_variable false t n.name x.ctype w) (DeclaresVariable z n.token n.name)) (sym h.0)
      (declared lo hi false n.token n.name x.ctype w r p.0 p.1))

  params_part : (ps : List Param) (xs : List Parameter) (at : ℕ) (w : Walk) → AreFor ps xs → EachAt ParamAt param_kinds 1 at ps
      → Ready at (at + length (with_commas param_kinds ps)) w
      → Part z at (at + length (with_commas param_kinds ps)) w (with_params xs w) (AllByRecursion (ParamFits z) ps)
  params_part [] [] at w h p r = quiet at (at + length (with_commas param_kinds [])) w w refl refl refl refl refl (omega arith) r.sound tt
  params_part [] (x ∷ xs) at w h p r = absurd h
  params_part (q ∷ ps) [] at w h p r = absurd h
  params_part (q ∷ []) (x ∷ y ∷ xs) at w h p r = absurd h.1
  params_part (q ∷ []) (x ∷ []) at w h p r =
      so (wider at (at + length (with_commas param_kinds (q ∷ []))) (param_part at (at + length (param_kinds q)) q.name x w h.0
      (ready_in r at (at + length (param_kinds q)) (omega arith) (omega (arith, commas_one param_kinds q))) (param_within q at p.0) (omega arith)) (omega arith)
      (omega (arith, commas_one param_kinds q))) (λ f. (f, tt))
  params_part (q ∷ s ∷ ps) (x ∷ xs) at w h p r =
      let long : length (with_commas param_kinds (q ∷ s ∷ ps)) ≡ length (param_kinds q) + 1 + length (with_commas param_kinds (s ∷ ps)) =
      commas_long param_kinds q s ps in
      let first : Part z at (at + length (param_kinds q)) w (with_param x.token x.name x.ctype w) (ParamFits z q) =
      param_part at (at + length (param_kinds q)) q.name x w h.0 (ready_in r at (at + length (param_kinds q)) (omega arith) (omega (arith, long)))
      (param_within q at p.0) (omega arith) in
      wider at (at + length (with_commas param_kinds (q ∷ s ∷ ps)))
      (rightwards first (wider (at + length (param_kinds q)) (at + length (param_kinds q) + 1 + length (with_commas param_kinds (s ∷ ps)))
      (params_part (s ∷ ps) xs (at + length (param_kinds q) + 1) (with_param x.token x.name x.ctype w) h.1 p.1
      (ready_after r first (at + length (param_kinds q) + 1) (at + length (param_kinds q) + 1 + length (with_commas param_kinds (s ∷ ps))) (omega arith)
      (omega (arith, long))))
      (omega arith) (omega arith)) (omega arith) (omega arith)) (omega arith) (omega (arith, long))

  -- a function's parameters and body
  body_leads : (at pa pb hi token : ℕ) (f : FunctionType) (name : List ℕ) (ps : List Param) (xs : List Parameter) (body : EntryList) (known : Option ℕ)
      (w : Walk)
      → AreFor ps xs → EachAt ParamAt param_kinds 1 pa ps → ShapedEntries body → EntriesAt pb body → Ready at hi w → IsFlat w.names → Knows name f w known
      → is_clashing_name name known w ≡ false
      → at ≤ pa → pa + length (with_commas param_kinds ps) ≤ pb → pb + length (entry_kinds body) ≤ hi
      → Gives (walk_entries f.gives false body (body_scope_opened xs (with_function name f known w)) >>= scope_closed)
      (Leads z false at hi w (λ d. AllByRecursion (ParamFits z) ps × BodyFits z name body))
  body_leads at pa pb hi token f name ps xs body known w h p s q r flat kn c low mid high =
      let v : Walk = with_function name f known w in
      let u : Walk = record v { locals = 0 } in
      let a : Part z at at w v (Has z name f) = function_part at hi name f known w r flat kn c in
      let r1 : Ready at hi v = ready_after r a at hi (omega arith) (omega arith) in
      let b : Part z at pa v u (Unit {0}) = quiet at pa v u refl refl refl refl refl low r1.sound tt in
      let r2 : Ready pa hi u = ready_after r1 b pa hi (omega arith) (omega arith) in
      let first : Part z pa (pa + length (with_commas param_kinds ps)) (scope_opened u) (body_scope_opened xs v) (AllByRecursion (ParamFits z) ps) =
      params_part ps xs pa (scope_opened u) h p (ready_opened (ready_in r2 pa (pa + length (with_commas param_kinds ps)) (omega arith) (omega (arith, mid, high)))) in
      and_then (entries_leads z f.gives false body pb (body_scope_opened xs v) s q
      (ready_after (ready_opened r2) first pb (pb + length (entry_kinds body)) (omega (arith, mid)) (omega (arith, high)))) (λ d o g. record {
        by = record {
          part = so (wider at hi (rightwards a
              (rightwards b (enclosed (rightwards (wider pa pb first (omega arith) mid) g.part (omega (arith, mid)) (omega arith)))
              low (omega (arith, mid))) (omega arith) (omega (arith, low, mid))) (omega arith) high)
              (λ x. (x.1.1.0, body_fits z name f body x.0.0 (slice_get z.functions x.0.0) refl x.0.1 x.1.1.1));
          kept = tt;
        };
      })

  defined_leads : (at pa pb hi token : ℕ) (f : FunctionType) (name : List ℕ) (ps : List Param) (xs : List Parameter) (body : EntryList) (known : Option ℕ)
      (w : Walk)
      (b : Bool) → AreFor ps xs → EachAt ParamAt param_kinds 1 pa ps → ShapedEntries body → EntriesAt pb body → Ready at hi w → IsFlat w.names
      → Knows name f w known → is_clashing_name name known w ≡ b
      → at ≤ pa → pa + length (with_commas param_kinds ps) ≤ pb → pb + length (entry_kinds body) ≤ hi
      → Gives (walk_entries f.gives false body (body_scope_opened xs (with_function name f known w)) >>= scope_closed >>= λ _ v.
      function_checked token (b || is_defined (unwrap_or known (length w.functions)) w.defined_as) f.gives v >>= λ _ u.
      finished (with_definition (unwrap_or known (length w.functions)) (length w.variables) u))
      (Leads z false at hi w (λ d. AllByRecursion (ParamFits z) ps × BodyFits z name body))
  defined_leads at pa pb hi token f name ps xs body known w true h p s q r flat kn c low mid high =
      and_then (anything (walk_entries f.gives false body (body_scope_opened xs (with_function name f known w)) >>= scope_closed)) (λ d v g. record { by = tt })
  defined_leads at pa pb hi token f name ps xs body known w false h p s q r flat kn c low mid high =
      seq {Q = λ d k. Unit {0}} hi r (omega (arith, low, mid, high)) (omega arith)
      (body_leads at pa pb hi token f name ps xs body known w h p s q r flat kn c low mid high)
      (λ d v r1. seq {P = λ d. Unit {0}} {Q = λ d k. Unit {0}} hi r1 (omega arith) (omega arith)
      (refused {Q = Leads z false hi hi v (λ d. Unit {0})} (is_defined (unwrap_or known (length w.functions)) w.defined_as) fault.Redeclared token
      (if is_struct f.gives then Faulty fault.Object token else Fine tt v) (λ e.
      refused (is_struct f.gives) fault.Object token (Fine tt v) (λ k. nothing tt r1 (omega arith) tt)))
      (λ d u r2. record {
        by = record {
          part = quiet hi hi u (with_definition (unwrap_or known (length w.functions)) (length w.variables) u) refl refl refl refl refl
              (omega arith) r2.sound tt;
          kept = tt;
        };
      }) (λ d k x y. tt)) (λ d k x y. x)

  walk_body_leads : (at pa pb hi token : ℕ) (f : FunctionType) (name : List ℕ) (ps : List Param) (xs : List Parameter) (body : EntryList) (known : Option ℕ)
      (w : Walk)
      → AreFor ps xs → EachAt ParamAt param_kinds 1 pa ps → ShapedEntries body → EntriesAt pb body → Ready at hi w → IsFlat w.names → Knows name f w known
      → at ≤ pa → pa + length (with_commas param_kinds ps) ≤ pb → pb + length (entry_kinds body) ≤ hi
      → Gives (walk_body token f name xs body known w) (Leads z false at hi w (λ d. AllByRecursion (ParamFits z) ps × BodyFits z name body))
  unfolding walk_body
  walk_body_leads at pa pb hi token f name ps xs body known w h p s q r flat kn low mid high =
      defined_leads at pa pb hi token f name ps xs body known w (is_clashing_name name known w) h p s q r flat kn refl low mid high

  declared_leads : (at hi token : ℕ) (f : FunctionType) (name : List ℕ) (known : Option ℕ) (w : Walk) → Ready at hi w → IsFlat w.names
      → Knows name f w known → at ≤ hi
      → Gives (function_checked token (is_clashing_name name known w) f.gives (with_function name f known w)) (Leads z false at hi w (λ d. Unit {0}))
  declared_leads at hi token f name known w r flat kn high =
      refused (is_clashing_name name known w) fault.Redeclared token
      (if is_struct f.gives then Faulty fault.Object token else Fine tt (with_function name f known w)) (λ c.
      refused (is_struct f.gives) fault.Object token (Fine tt (with_function name f known w)) (λ k. record {
        by = record { part = so (wider at hi (function_part at hi name f known w r flat kn c) (omega arith) high) (λ x. tt); kept = tt };
      }))

  -- structs

  struct_part : (lo hi : ℕ) (tag : List ℕ) (s : StructType) (w : Walk) → Ready lo hi w → lo ≤ hi
      → Part z lo hi w (record (with_tag tag w) { structs = w.structs ++ s ∷ [] }) (Unit {0})
  struct_part lo hi tag s w r high = record {
    types = refl;
    variables_at = refl;
    functions_at = refl;
    below = λ token h. record { types = refl; variables = refl; functions = refl };
    above = λ token h. record { types = refl; variables = refl; functions = refl };
    scope = refl;
    flat = λ h. h;
    later = record {
      variables = λ i x h. h;
      behind = λ i x h. inl h;
      ends = (later_here lo (scene w) w.latest w.latest (omega arith)).ends;
      latest = omega arith;
      structs = more_stays w.structs s;
      functions = λ i x h. h;
    };
    sound = let k : Sound hi w.latest (scene w) = sound_later high r.sound in
        record { stack = k.stack; opens = k.opens; closes = k.closes; long = k.long; latest = k.latest };
    holds = λ g. tt;
  }

  struct_leads : (lo hi token : ℕ) (tag : List ℕ) (members : List Members) (w : Walk) → Ready lo hi w → lo ≤ hi
      → Gives (walk_struct token tag members w) (Leads z false lo hi w (λ d. Unit {0}))
  struct_leads lo hi token tag members w r high = and_then (members_keep members empty_struct (with_tag tag w)) (λ s v h.
      subst (λ x. Gives (struct_defined token (is_here tag w.tags) s x) (Leads z false lo hi w (λ d. Unit {0}))) (sym h.0)
      (refused (is_here tag w.tags) fault.Redeclared token _ (λ k.
      allowed (nat_le s.cells most_cells) fault.Object token (Fine tt (record (with_tag tag w) { structs = w.structs ++ s ∷ [] })) (λ l. record {
        by = record { part = struct_part lo hi tag s w r high; kept = tt };
      }))))

module _ (z : Walk) where
  abbrev ItemLeads : ℕ → ItemTree → Walk → Walked Done → Type 0
  ItemLeads at x w m = Gives m (Leads z false at (at + length (item_kinds x)) w (λ d. ItemFits z x))

  item_leads : (x : ItemTree) (at : ℕ) (w : Walk) → ShapedItem x → ItemAt at x → IsFlat w.names → Ready at (at + length (item_kinds x)) w
      → ItemLeads at x w (walk_item x w)
  item_leads (i.Struct token tag members) at w h p flat r =
      struct_leads at (at + length (item_kinds (i.Struct token tag members))) token tag members w r (omega arith)
  item_leads (i.Declaration d) at w h p flat r = declaration_leads z true d at w h p r
  item_leads (i.Function token b stars name ps None) at w h p flat r =
      and_then (base_keeps b w) (λ t v k. and_then (params_keep false (listed_params ps) [] v) (λ xs u l.
      subst (λ x. ItemLeads at (i.Function token b stars name ps None) w
      (typed_function token (record { gives = with_stars stars t; params = types_of xs }) name xs None x)) (sym (l.0 ∙ k.0))
      (declared_leads at (at + length (item_kinds (i.Function token b stars name ps None))) token
      (record { gives = with_stars stars t; params = types_of xs }) name
      (known_as (record { gives = with_stars stars t; params = types_of xs }) (declared_meaning name w.names) w) w r flat
      (knows at name (record { gives = with_stars stars t; params = types_of xs }) (declared_meaning name w.names) w
      (finds w.functions w.variables w.ends at name (length w.variables) w.names r.sound.stack)) (omega arith))))
  item_leads (i.Function token b stars name ps (Some body)) at w h p flat r =
      let pa : ℕ = at + length (type_kinds b stars) + 2 in
      let pb : ℕ = at + length (type_kinds b stars) + 2 + length (params_kinds ps) + 2 in
      and_then (base_keeps b w) (λ t v k. and_then (params_keep true (listed_params ps) [] v) (λ xs u l.
      subst (λ x. ItemLeads at (i.Function token b stars name ps (Some body)) w
      (typed_function token (record { gives = with_stars stars t; params = types_of xs }) name xs (Some body) x)) (sym (l.0 ∙ k.0))
      (walk_body_leads at pa pb (at + length (item_kinds (i.Function token b stars name ps (Some body)))) token
      (record { gives = with_stars stars t; params = types_of xs }) name
      (listed_params ps) xs body (known_as (record { gives = with_stars stars t; params = types_of xs }) (declared_meaning name w.names) w) w
      (subst (AreFor (listed_params ps)) (sym l.1.1) l.1.2) (params_at ps pa p.2) h.1 p.3 r flat
      (knows at name (record { gives = with_stars stars t; params = types_of xs }) (declared_meaning name w.names) w
      (finds w.functions w.variables w.ends at name (length w.variables) w.names r.sound.stack)) (omega arith) (omega (arith, params_within ps))
      (omega (arith, function_long token b stars name ps (Some body), body_long body)))))

  items_leads : (xs : List ItemTree) (at : ℕ) (w : Walk) → AllByRecursion ShapedItem xs → EachAt ItemAt item_kinds 0 at xs → IsFlat w.names
      → Ready at (at + length (flat_map item_kinds xs)) w
      → Gives (walk_items xs w) (Leads z false at (at + length (flat_map item_kinds xs)) w (λ d. AllByRecursion (ItemFits z) xs))
  items_leads [] at w h p flat r = nothing tt r (omega arith) tt
  items_leads (x ∷ xs) at w h p flat r =
      let long : length (flat_map item_kinds (x ∷ xs)) ≡ length (item_kinds x) + length (flat_map item_kinds xs) =
      length-append (item_kinds x) (flat_map item_kinds xs) in
      and_then (item_leads x at w h.0 p.0 flat (ready_in r at (at + length (item_kinds x)) (omega arith) (omega (arith, long)))) (λ d v g.
      weaker (items_leads xs (at + length (item_kinds x) + 0) v h.1 p.1 (g.part.flat flat)
      (ready_after r g.part (at + length (item_kinds x) + 0) (at + length (item_kinds x) + 0 + length (flat_map item_kinds xs)) (omega arith)
      (omega (arith, long))))
      (λ k u l. record {
        part = wider at (at + length (flat_map item_kinds (x ∷ xs)))
            (rightwards (wider at (at + length (item_kinds x) + 0) g.part (omega arith) (omega arith)) l.part (omega arith) (omega arith)) (omega arith)
            (omega (arith, long));
        kept = tt;
      }))

-- whole texts

begins : (n : ℕ) → Ready 0 n (empty_walk n)
begins n = record {
  types = omega (arith, length-replicate {A = Option TypeTree} n None);
  variables_at = omega (arith, length-replicate {A = Option ℕ} n None);
  functions_at = omega (arith, length-replicate {A = Option ℕ} n None);
  sound = record {
    stack = tt;
    opens = λ q h. absurd (none_some h);
    closes = λ q e h. absurd (none_some h);
    long = refl;
    latest = omega arith;
  };
}

ends_by : (z v : Walk) (f : Option (FaultKind × ℕ)) → ends_with f v ≡ finished z → finished v ≡ finished z
ends_by z v None h = h
ends_by z v (Some f) h = absurd (cc)

ends_walk : (n : ℕ) (z : Walk) (m : Walked Done) → (m >>= λ _ w. ends_with (last_fault n w) w) ≡ finished z → m ≡ finished z
ends_walk n z (Fine d v) h = ends_by z v (last_fault n v) h
ends_walk n z (Faulty kind token) h = absurd (cc)

pub text_fits : (t : SourceTree) (z : Walk) → IsShaped t → walk_tree t ≡ Fine tt z → TextFits z t
text_fits t z s h =
    let n : ℕ = length t.lines in
    let m : Walked Done = walk_items t.items (empty_walk n) in
    let long : length (flat_map item_kinds t.items) ≡ n = sym s.lines in
    let g : Leads z false 0 (0 + length (flat_map item_kinds t.items)) (empty_walk n) (λ d. TextFits z t) tt z =
    subst (GivesIn (Leads z false 0 (0 + length (flat_map item_kinds t.items)) (empty_walk n) (λ d. TextFits z t))) (ends_walk n z m h)
    (items_leads z t.items 0 (empty_walk n) s.items s.placed tt
    (ready_in (begins n) 0 (0 + length (flat_map item_kinds t.items)) (omega arith) (omega (arith, long)))).by in
    g.part.holds (record {
      notes = λ token p q. same_here z token;
      later = later_here (0 + length (flat_map item_kinds t.items)) (scene z) z.latest z.latest
          (omega arith);
    })

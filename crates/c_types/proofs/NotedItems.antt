-- What the walk notes of items, and of a whole text.
use Rattle.std.proofs.Common.{◌≡◌, ℕ, nat_le, Bool, true, false, ◌&&◌, ◌||◌, if◌then◌else◌, List, [], ◌∷◌, ◌++◌, length, Option, Some, None, is_some, unwrap_or, get_or, replicate, refl, sym, ap, ◌∙◌, subst, append_assoc, ⊎_elim, arith}
use Rattle.std.proofs.lemmas.Bool.{cases_lt}
use Rattle.std.proofs.lemmas.List.{append-nil, get_or-replicate, get_or_past, length-replicate}
use Rattle.base_lists.proofs.Options.{none_is_some}
use Rattle.c_syntax.specs.declared.parts.Base.{Base}
use Rattle.c_syntax.specs.declared.parts.Declarator.{Declarator}
use Rattle.c_syntax.specs.declared.parts.Members.{Members}
use Rattle.c_syntax.specs.declared.parts.Param.{Param}
use Rattle.c_syntax.specs.declared.parts.ParamName.{ParamName}
use Rattle.c_syntax.specs.declared.parts.Params.{Params}
use Rattle.c_syntax.specs.Words.{DeclarationTree, EntryList, ItemTree, SourceTree}
use Rattle.c_syntax.specs.ItemTree as i
use Rattle.c_types_rules.specs.declared.fault.FaultKind.{FaultKind}
use Rattle.c_types_rules.specs.declared.fault.FaultKind.TheVariants as fault
use Rattle.c_types_rules.specs.declared.function.FunctionType.{FunctionType}
use Rattle.c_types_rules.specs.declared.layout.StructType.{StructType}
use Rattle.c_types_rules.specs.Words.{TypeTree, is_scalar, is_struct, member_named, empty_struct, is_object, most_cells, with_member}
use Rattle.c_types_expressions.specs.declared.walk.Parameter.{Parameter}
use Rattle.c_types_expressions.specs.declared.walk.Walk.{Walk}
use Rattle.c_types_walk.specs.Declarators.{declared_type}
use Rattle.c_types_expressions.specs.Words.{empty_walk, declared_meaning, is_here, is_reserved, Walked, Fine, Faulty, ◌>>=◌, Done, scope_closed, scope_opened, base_type, with_stars}
use Rattle.c_types.specs.Fault.{ends_with, last_fault, walk_tree}
use Rattle.c_types_walk.specs.StatementWalk.{walk_declaration, walk_entries}
use Rattle.c_types_walk.specs.ItemWalk.{is_clashing_name, function_checked, body_scope_opened, has_length, is_among, is_defined, known_as, listed_params, looked_param, param_type, scalar_param, typed_function, typed_member, walk_body, walk_declarators, walk_item, walk_items, walk_member, walk_members, walk_param, walk_params, walk_struct, with_function, with_param, with_params, with_tag}
use Rattle.c_types.specs.Parts.{Part, Declared, Begins, declaration_parts, entries_parts, item_parts, items_parts, named_parts, params_parts, parts_of}
use Rattle.c_types.proofs.Noted.{Fits, Gives, Notes, Stage, Step, and_done, behind, declared_one, either, gives_more, gives_then, noting_all, noting_both, plainly, plainly_all, seen, stage, step_done, step_then, then_on}
use Rattle.c_types.proofs.NotedExprs.{base_notes}
use Rattle.c_types.proofs.NotedStatements.{declaration_notes, entries_notes}

-- parameters

abbrev pub named_by : ℕ → Option (List ℕ) → List Part
named_by token None = []
named_by token (Some name) = Declared false token name ∷ []

abbrev pub parts_from : List Parameter → List Part
parts_from [] = []
parts_from (p ∷ ps) = named_by p.token p.name ++ parts_from ps

parts_both : (xs ys : List Parameter) → parts_from (xs ++ ys) ≡ parts_from xs ++ parts_from ys
parts_both [] ys = refl
parts_both (x ∷ xs) ys = ap (λ ps. named_by x.token x.name ++ ps) (parts_both xs ys) ∙ sym (append_assoc (named_by x.token x.name) (parts_from xs) (parts_from ys))

-- a parameter that is looked at is noted as it stands
abbrev pub IsListed : Stage → Option ParamName → Parameter → Walk → Type 0
IsListed s name x v = Step [] s (stage v) × (named_by x.token x.name ≡ named_parts name)

scalar_is : (P : Parameter → Walk → Type 0) (b : Bool) (token : ℕ) (x : Parameter) (w : Walk) → P x w → Gives P (if b then Fine x w else Faulty fault.Object token)
scalar_is P true token x w h = h
scalar_is P false token x w h = tt

refused_or : (P : Parameter → Walk → Type 0) (b : Bool) (kind : FaultKind) (token : ℕ) (r : Walked Parameter) → Gives P r → Gives P (if b then Faulty kind token else r)
refused_or P true kind token r h = tt
refused_or P false kind token r h = h

looked_is : (body : Bool) (token : ℕ) (name : Option ParamName) (t : TypeTree) (before : List Parameter) (s : Stage) (w : Walk) → Step [] s (stage w) →
    Gives (IsListed s name) (looked_param body token name t before w)
looked_is body token None t before s w same =
    refused_or (IsListed s None) body fault.Unknown token (scalar_param token None t (record { token = token; name = None; ctype = t }) w)
    (scalar_is (IsListed s None) (is_scalar t && true) token (record { token = token; name = None; ctype = t }) w (same, refl))
looked_is body token (Some n) t before s w same =
    refused_or (IsListed s (Some n)) (is_reserved n.name || is_among n.name before) fault.Redeclared token
    (scalar_param token n.bound (param_type n.bound t) (record { token = n.token; name = Some n.name; ctype = param_type n.bound t }) w)
    (scalar_is (IsListed s (Some n)) (is_scalar (param_type n.bound t) && has_length n.bound) token
    (record { token = n.token; name = Some n.name; ctype = param_type n.bound t }) w (same, refl))

param_is : (body : Bool) (p : Param) (before : List Parameter) (s : Stage) (w : Walk) → Step [] s (stage w) → Gives (IsListed s p.name) (walk_param body p before w)
param_is body p before s w same =
    gives_then (λ t v. Step [] (stage w) (stage v)) (IsListed s p.name) (base_type p.base w) _ (base_notes p.base w)
    (λ t v is. looked_is body p.token p.name (with_stars p.stars t) before s v (step_done [] s (stage w) (stage v) same is))

abbrev pub AreListed : Stage → List Part → List Parameter → Walk → Type 0
AreListed s parts xs v = Step [] s (stage v) × (parts_from xs ≡ parts)

pub params_are : (body : Bool) (ps : List Param) (before : List Parameter) (s : Stage) (parts : List Part) (w : Walk) → Step [] s (stage w) →
    parts_from before ++ params_parts ps ≡ parts → Gives (AreListed s parts) (walk_params body ps before w)
params_are body [] before s parts w same is = (same, sym (append-nil (parts_from before)) ∙ is)
params_are body (p ∷ ps) before s parts w same is =
    gives_then (IsListed s p.name) (AreListed s parts) (walk_param body p before w) _ (param_is body p before s w same)
    (λ x v h. params_are body ps (before ++ x ∷ []) s parts v h.0
    (ap (λ qs. qs ++ params_parts ps) (parts_both before (x ∷ []) ∙ ap (λ qs. parts_from before ++ qs) (append-nil (named_by x.token x.name) ∙ h.1))
    ∙ append_assoc (parts_from before) (named_parts p.name) (params_parts ps) ∙ is))

param_one : (token : ℕ) (name : Option (List ℕ)) (t : TypeTree) (w : Walk) → Step (named_by token name) (stage w) (stage (with_param token name t w))
param_one token None t w = (refl, (λ h. h), refl)
param_one token (Some name) t w = declared_one false token name t w

params_one : (ps : List Parameter) (w : Walk) → Step (parts_from ps) (stage w) (stage (with_params ps w))
params_one [] w = (refl, (λ h. h), refl)
params_one (p ∷ ps) w =
    step_then (named_by p.token p.name) (parts_from ps) (stage w) (stage (with_param p.token p.name p.ctype w)) (stage (with_params ps (with_param p.token p.name p.ctype w)))
    (param_one p.token p.name p.ctype w) (params_one ps (with_param p.token p.name p.ctype w))

-- functions

-- the parts are noted between two points, whatever functions were declared
abbrev pub Outer : List Part → Stage → Stage → Type 0
Outer ps s t = (t.shown ≡ noting_all ps s.shown) × (s.holds → t.holds)

function_one : (name : List ℕ) (f : FunctionType) (known : Option ℕ) (w : Walk) → Outer [] (stage w) (stage (with_function name f known w))
function_one name f None w = (refl, λ h. h)
function_one name f (Some index) w = (refl, λ h. h)

-- the parameters are the first locals
entered_one : (ps : List Parameter) (w : Walk) → Step (Begins ∷ parts_from ps) (stage w) (stage (body_scope_opened ps w))
entered_one ps w =
    let v : Walk = scope_opened (record w { locals = 0 }) in
    step_then (Begins ∷ []) (parts_from ps) (stage w) (stage v) (stage (with_params ps v)) (refl, (λ h. h), refl) (params_one ps v)

-- the parameters and the body of a function
pub inner_notes : (gives : TypeTree) (ps : List Parameter) (body : EntryList) (w : Walk) →
    Notes (Begins ∷ parts_from ps ++ entries_parts body) (stage w) (walk_entries gives false body (body_scope_opened ps w) >>= scope_closed)
inner_notes gives ps body w =
    and_done (Begins ∷ parts_from ps ++ entries_parts body) (stage w) (walk_entries gives false body (body_scope_opened ps w)) scope_closed
    (behind (Begins ∷ parts_from ps) (entries_parts body) (stage w) (stage (body_scope_opened ps w)) (walk_entries gives false body (body_scope_opened ps w)) (entered_one ps w)
    (entries_notes gives false body (body_scope_opened ps w)))
    (λ _ u. (refl, (λ h. h), refl))

-- a function that is declared otherwise than before, or twice defined, is refused
declares_by : (b c : Bool) (token : ℕ) (w : Walk) →
    Gives {A = Done} (λ _ v. Step [] (stage w) (stage v) × (b ≡ false)) (if b then Faulty fault.Redeclared token else if c then Faulty fault.Object token else Fine tt w)
declares_by true c token w = tt
declares_by false true token w = tt
declares_by false false token w = ((refl, (λ h. h), refl), refl)

pub declares_gives : (token : ℕ) (taken : Bool) (gives : TypeTree) (w : Walk) → Gives (λ _ v. Step [] (stage w) (stage v) × (taken ≡ false)) (function_checked token taken gives w)
declares_gives token taken gives w = declares_by taken (is_struct gives) token w

-- whether the function is refused where it has a body
abbrev pub is_refused : List ℕ → Option ℕ → Walk → Bool
is_refused name known w = is_clashing_name name known w || is_defined (unwrap_or known (length w.functions)) w.defined_as

body_notes : (token : ℕ) (f : FunctionType) (name : List ℕ) (ps : List Parameter) (body : EntryList) (known : Option ℕ) (w : Walk) →
    Gives (λ _ v. Outer (Begins ∷ parts_from ps ++ entries_parts body) (stage w) (stage v)) (walk_body token f name ps body known w)
unfolding walk_body
body_notes token f name ps body known w =
    let parts : List Part = Begins ∷ parts_from ps ++ entries_parts body in
    let v : Walk = with_function name f known w in
    gives_then (λ _ u. Step parts (stage v) (stage u)) (λ _ u. Outer parts (stage w) (stage u)) (walk_entries f.gives false body (body_scope_opened ps v) >>= scope_closed) _
    (inner_notes f.gives ps body v)
    (λ _ u h. gives_then (λ _ r. Step [] (stage u) (stage r) × (is_refused name known w ≡ false)) (λ _ r. Outer parts (stage w) (stage r))
    (function_checked token (is_refused name known w) f.gives u) _ (declares_gives token (is_refused name known w) f.gives u)
    (λ _ r k. (k.0.0 ∙ h.0 ∙ ap (noting_all parts) (function_one name f known w).0, λ fits. k.0.1 (h.1 ((function_one name f known w).1 fits)))))

with_body : (token : ℕ) (f : FunctionType) (name : List ℕ) (xs : List Parameter) (body : EntryList) (parts : List Part) (s : Stage) (w : Walk) → AreListed s parts xs w →
    Gives (λ _ v. Outer (Begins ∷ parts ++ entries_parts body) s (stage v)) (typed_function token f name xs (Some body) w)
with_body token f name xs body parts s w h =
    gives_more (λ _ v. Outer (Begins ∷ parts_from xs ++ entries_parts body) (stage w) (stage v)) (λ _ v. Outer (Begins ∷ parts ++ entries_parts body) s (stage v))
    (typed_function token f name xs (Some body) w)
    (λ _ v k. (
      k.0 ∙ ap (λ ps. noting_all (Begins ∷ ps ++ entries_parts body) (seen w)) h.1 ∙ ap (noting_all (Begins ∷ parts ++ entries_parts body)) h.0.0,
      λ fits. k.1 (h.0.1 fits),
    ))
    (body_notes token f name xs body (known_as f (declared_meaning name w.names) w) w)

without_body : (token : ℕ) (f : FunctionType) (name : List ℕ) (xs : List Parameter) (s : Stage) (w : Walk) → Step [] s (stage w) →
    Gives (λ _ v. Outer [] s (stage v)) (typed_function token f name xs None w)
without_body token f name xs s w same =
    let known : Option ℕ = known_as f (declared_meaning name w.names) w in
    let v : Walk = with_function name f known w in
    gives_more (λ _ u. Step [] (stage v) (stage u) × (is_clashing_name name known w ≡ false)) (λ _ u. Outer [] s (stage u)) (typed_function token f name xs None w)
    (λ _ u k. (k.0.0 ∙ (function_one name f known w).0 ∙ same.0, λ fits. k.0.1 ((function_one name f known w).1 (same.1 fits))))
    (declares_gives token (is_clashing_name name known w) f.gives v)

pub function_notes : (token : ℕ) (b : Base) (stars : ℕ) (name : List ℕ) (ps : Params) (body : Option EntryList) (w : Walk) →
    Gives (λ _ v. Outer (item_parts (i.Function token b stars name ps body)) (stage w) (stage v)) (walk_item (i.Function token b stars name ps body) w)
function_notes token b stars name ps None w =
    gives_then (λ t v. Step [] (stage w) (stage v)) (λ _ v. Outer [] (stage w) (stage v)) (base_type b w) _ (base_notes b w)
    (λ t v same. gives_then (AreListed (stage w) (params_parts (listed_params ps))) (λ _ u. Outer [] (stage w) (stage u)) (walk_params false (listed_params ps) [] v) _
    (params_are false (listed_params ps) [] (stage w) (params_parts (listed_params ps)) v same refl) (λ xs u h. without_body token _ name xs (stage w) u h.0))
function_notes token b stars name ps (Some body) w =
    let parts : List Part = Begins ∷ params_parts (listed_params ps) ++ entries_parts body in
    gives_then (λ t v. Step [] (stage w) (stage v)) (λ _ v. Outer parts (stage w) (stage v)) (base_type b w) _ (base_notes b w)
    (λ t v same. gives_then (AreListed (stage w) (params_parts (listed_params ps))) (λ _ u. Outer parts (stage w) (stage u)) (walk_params true (listed_params ps) [] v) _
    (params_are true (listed_params ps) [] (stage w) (params_parts (listed_params ps)) v same refl) (λ xs u h. with_body token _ name xs body (params_parts (listed_params ps)) (stage w) u h))

-- structs

typed_member_notes : (d : Declarator) (t : Option TypeTree) (s : StructType) (w : Walk) → Notes [] (stage w) (typed_member d t s w)
typed_member_notes d None s w = tt
typed_member_notes d (Some t) s w =
    either [] (stage w) (is_object w.structs t) (Fine (with_member w.structs d.name t s) w) (Faulty fault.Object d.token) (refl, (λ h. h), refl) tt

declarators_notes : (b : TypeTree) (ds : List Declarator) (s : StructType) (w : Walk) → Notes [] (stage w) (walk_declarators b ds s w)
declarators_notes b [] s w = (refl, (λ h. h), refl)
declarators_notes b (d ∷ ds) s w =
    then_on [] (stage w) (walk_member b d s w) _
    (either [] (stage w) (is_some (member_named d.name s.members)) (Faulty fault.Redeclared d.token) (typed_member d (declared_type d b) s w) tt
    (typed_member_notes d (declared_type d b) s w))
    (λ s' v. declarators_notes b ds s' v)

pub members_notes : (ms : List Members) (s : StructType) (w : Walk) → Notes [] (stage w) (walk_members ms s w)
members_notes [] s w = (refl, (λ h. h), refl)
members_notes (m ∷ ms) s w =
    then_on [] (stage w) (base_type m.base w) _ (base_notes m.base w)
    (λ b v. then_on [] (stage v) (walk_declarators b m.declarators s v) _ (declarators_notes b m.declarators s v) (λ s' u. members_notes ms s' u))

-- a step of the items, structs aside
abbrev pub PlainStep : List Part → Stage → Stage → Type 0
PlainStep ps s t = (plainly t.shown ≡ noting_all ps (plainly s.shown)) × (s.holds → t.holds)

plain_notes : (ps : List Part) (s : Stage) (r : Walked Done) → Gives (λ _ v. Outer ps s (stage v)) r → Gives (λ _ v. PlainStep ps s (stage v)) r
plain_notes ps s r h =
    gives_more (λ _ v. Outer ps s (stage v)) (λ _ v. PlainStep ps s (stage v)) r (λ _ v is. (ap plainly is.0 ∙ plainly_all ps s.shown, is.1)) h

plain_then : (ps qs : List Part) (s t u : Stage) → PlainStep ps s t → PlainStep qs t u → PlainStep (ps ++ qs) s u
plain_then ps qs s t u h k = (k.0 ∙ ap (noting_all qs) h.0 ∙ sym (noting_both ps qs (plainly s.shown)), λ f. k.1 (h.1 f))

defined_by : (b c : Bool) (token : ℕ) (s : StructType) (t : Stage) (w : Walk) → Step [] t (stage w) →
    Gives {A = Done} (λ _ v. PlainStep [] t (stage v))
    (if b then Faulty fault.Redeclared token else if c then Fine tt (record w { structs = w.structs ++ s ∷ [] }) else Faulty fault.Object token)
defined_by true c token s t w same = tt
defined_by false true token s t w same = (ap plainly same.0, same.1)
defined_by false false token s t w same = tt

struct_notes : (token : ℕ) (tag : List ℕ) (members : List Members) (w : Walk) → Gives (λ _ v. PlainStep [] (stage w) (stage v)) (walk_struct token tag members w)
struct_notes token tag members w =
    gives_then (λ s v. Step [] (stage w) (stage v)) (λ _ v. PlainStep [] (stage w) (stage v)) (walk_members members empty_struct (with_tag tag w)) _
    (members_notes members empty_struct (with_tag tag w)) (λ s v same. defined_by (is_here tag w.tags) (nat_le s.cells most_cells) token s (stage w) v same)

pub declaration_outer : (d : DeclarationTree) (w : Walk) → Gives (λ _ v. Outer (declaration_parts true d) (stage w) (stage v)) (walk_declaration true d w)
declaration_outer d w =
    gives_more (λ _ v. Step (declaration_parts true d) (stage w) (stage v)) (λ _ v. Outer (declaration_parts true d) (stage w) (stage v)) (walk_declaration true d w)
    (λ _ v h. (h.0, h.1)) (declaration_notes true d w)

pub item_notes : (x : ItemTree) (w : Walk) → Gives (λ _ v. PlainStep (item_parts x) (stage w) (stage v)) (walk_item x w)
item_notes (i.Struct token tag members) w = struct_notes token tag members w
item_notes (i.Function token b stars name ps body) w =
    plain_notes (item_parts (i.Function token b stars name ps body)) (stage w) (walk_item (i.Function token b stars name ps body) w)
    (function_notes token b stars name ps body w)
item_notes (i.Declaration declaration) w =
    plain_notes (declaration_parts true declaration) (stage w) (walk_declaration true declaration w) (declaration_outer declaration w)

items_notes : (xs : List ItemTree) (w : Walk) → Gives (λ _ v. PlainStep (items_parts xs) (stage w) (stage v)) (walk_items xs w)
items_notes [] w = (refl, λ h. h)
items_notes (x ∷ xs) w =
    gives_then (λ _ v. PlainStep (item_parts x) (stage w) (stage v)) (λ _ v. PlainStep (items_parts (x ∷ xs)) (stage w) (stage v)) (walk_item x w) _ (item_notes x w)
    (λ _ v first. gives_more (λ _ u. PlainStep (items_parts xs) (stage v) (stage u)) (λ _ u. PlainStep (items_parts (x ∷ xs)) (stage w) (stage u)) (walk_items xs v)
    (λ _ u rest. plain_then (item_parts x) (items_parts xs) (stage w) (stage v) (stage u) first rest) (items_notes xs v))

-- what was noted of a whole text without a fault
abbrev IsNoted : SourceTree → Walk → Type 0
IsNoted t w = (plainly (seen w) ≡ noting_all (parts_of t) (plainly (seen (empty_walk (length t.lines))))) × Fits w

ends_is : (t : SourceTree) (f : Option (FaultKind × ℕ)) (w : Walk) → IsNoted t w → Gives (λ _ v. IsNoted t v) (ends_with f w)
ends_is t None w h = h
ends_is t (Some f) w h = tt

-- nothing is noted at the beginning
none_noted : (n k : ℕ) → get_or (replicate {A = Option ℕ} n None) k None ≡ None
none_noted n k =
    ⊎_elim (λ less. get_or-replicate n k None None less) (λ past. get_or_past (replicate n None) k None (omega (arith, past, length-replicate {A = Option ℕ} n None))) (cases_lt k n)

begins_fit : (n : ℕ) → Fits (empty_walk n)
begins_fit n = (refl, λ k place is. none_is_some (get_or (replicate {A = Option ℕ} n None) k None) place (none_noted n k) is)

pub text_notes : (t : SourceTree) (w : Walk) → walk_tree t ≡ Fine tt w → IsNoted t w
text_notes t w is =
    subst (Gives (λ _ v. IsNoted t v)) is
    (gives_then (λ _ v. PlainStep (parts_of t) (stage (empty_walk (length t.lines))) (stage v)) (λ _ v. IsNoted t v) (walk_items t.items (empty_walk (length t.lines))) _
    (items_notes t.items (empty_walk (length t.lines)))
    (λ _ v h. ends_is t (last_fault (length t.lines) v) v (h.0, h.1 (begins_fit (length t.lines)))))

-- What items leave: the scopes that their tree says.
use Rattle.std.proofs.Common.{◌⊎◌, inl, inr, ◌≡◌, ℕ, ◌+◌, ◌≤◌, true, false, List, [], ◌∷◌, ◌++◌, length, Option, Some, None, refl, sym, ◌∙◌, subst, arith, length-append}
use Rattle.std.specs.Prelude.{IfSome}
use Rattle.std.specs.List.{AllByRecursion, flat_map}
use Rattle.std.proofs.lemmas.List.{append-nil}
use Rattle.c_types_laws.proofs.Items.{params_at, params_within}
use Rattle.c_syntax.specs.declared.parts.Base.{Base}
use Rattle.c_syntax.specs.declared.parts.Param.{Param}
use Rattle.c_syntax.specs.declared.parts.ParamName.{ParamName}
use Rattle.c_syntax.specs.declared.parts.Params.{Params}
use Rattle.c_syntax.specs.declared.parts.Params.TheVariants as params
use Rattle.c_syntax.specs.declared.token.Sign.TheVariants as sign
use Rattle.c_syntax.specs.ItemTree as i
use Rattle.c_syntax.specs.Words.{ItemTree, EachAt, ItemAt, NameAt, ParamAt, ShapedItem, a_name, a_sign, body_kinds, entry_kinds, item_kinds, optional_kinds}
use Rattle.c_syntax.specs.Words.{param_kinds, param_name_kinds, params_kinds, parenthesized_kinds, type_kinds, with_commas, EntryList}
use Rattle.c_types_expressions.specs.declared.names.Meaning.TheVariants as meaning
use Rattle.c_types_expressions.specs.declared.names.ScopeEntry.{ScopeEntry}
use Rattle.c_types_expressions.specs.declared.names.ScopeEntry.TheVariants as entry
use Rattle.c_types_walk.specs.ItemWalk.{listed_params}
use Rattle.c_types_laws.proofs.Goods.{around}
use Rattle.c_types_laws.proofs.Statements.{commas_long, commas_one}
use Rattle.c_types_faults.specs.Events.{Event, Struct, Names, Defines, entries_events, item_events, items_events, named_events, params_events, scope_events}
use Rattle.c_types_faults.specs.Scopes.{Scope, function_scopes, item_scopes, items_scopes, last_token, named_scopes, params_scopes}
use Rattle.c_types_faults.proofs.Leaving.{Leaves, Left, leaves_at_large, leaves_none, leaves_scoped, leaves_then, leaves_variable, leaves_wider, places}
use Rattle.c_types_faults.proofs.LeavingStatements.{declaration_leaves, entries_leave}
use Rattle.c_types_faults.proofs.Paths.{View, defining, naming, with_struct}
use Rattle.c_types_faults.proofs.Points.{Among}

-- parameters

named_leaves : (o : Option ParamName) (start at hi last : ℕ) → IfSome o (NameAt start) → at ≤ start → start + length (optional_kinds param_name_kinds o) ≤ hi
    → Leaves true at hi last (named_events o) (named_scopes last o)
named_leaves None start at hi last p low high = leaves_none at hi last (omega (arith, low, high))
named_leaves (Some n) start at hi last p low high =
    let first : ℕ = n.token + length (param_name_kinds n) in
    leaves_wider at first at hi (leaves_variable at first last n.token (omega (arith, p, low)) (omega arith)) (omega arith) (omega (arith, p, high))

param_leaves : (q : Param) (at hi last : ℕ) → ParamAt at q → at + length (param_kinds q) ≤ hi → Leaves true at hi last (named_events q.name) (named_scopes last q.name)
param_leaves q at hi last p high =
    named_leaves q.name (at + length (type_kinds q.base q.stars)) at hi last p.2 (omega arith)
    (omega (arith, high, length-append (type_kinds q.base q.stars) (optional_kinds param_name_kinds q.name)))

params_leave : (ps : List Param) (at hi last : ℕ) → EachAt ParamAt param_kinds 1 at ps → at + length (with_commas param_kinds ps) ≤ hi
    → Leaves true at hi last (params_events ps) (params_scopes last ps)
params_leave [] at hi last p high = leaves_none at hi last (omega (arith, high))
params_leave (q ∷ []) at hi last p high =
    let n : ℕ = length (param_kinds q) in
    leaves_then at (at + n) hi (param_leaves q at (at + n) last p.0 (omega arith))
    (leaves_none (at + n) hi last (omega (arith, high, commas_one param_kinds q))) (omega arith) (omega (arith, high, commas_one param_kinds q))
params_leave (q ∷ s ∷ ps) at hi last p high =
    let n : ℕ = length (param_kinds q) in
    let long : length (with_commas param_kinds (q ∷ s ∷ ps)) ≡ n + 1 + length (with_commas param_kinds (s ∷ ps)) = commas_long param_kinds q s ps in
    leaves_then at (at + n) hi (param_leaves q at (at + n) last p.0 (omega arith))
    (leaves_wider (at + n + 1) hi (at + n) hi (params_leave (s ∷ ps) (at + n + 1) hi last p.1 (omega (arith, high, long))) (omega arith) (omega arith))
    (omega arith) (omega (arith, high, long))

function_long : (b : Base) (stars : ℕ) (name : List ℕ) (ps : Params) (body : EntryList)
    → length (item_kinds (i.Function 0 b stars name ps (Some body))) ≡ length (type_kinds b stars) + 5 + length (params_kinds ps) + length (entry_kinds body)
function_long b stars name ps body =
    omega (
      arith,
      length-append (type_kinds b stars ++ a_name name ++ parenthesized_kinds (params_kinds ps)) (body_kinds (Some body)),
      length-append (type_kinds b stars ++ a_name name) (parenthesized_kinds (params_kinds ps)),
      length-append (type_kinds b stars) (a_name name),
      around (params_kinds ps),
      length-append (entry_kinds body) (a_sign sign.RightBrace),
    )

-- what declares no variable

left_bare : (at hi last : ℕ) (event : Event) (new : List ScopeEntry) (a b : View) → at ≤ hi → ((k : ℕ) → Among k (event ∷ []) → ⊥) → b.names ≡ new ++ a.names
    → places new ≡ [] → b.starts ≡ a.starts → b.ends ≡ a.ends → b.latest ≡ a.latest → Left false at hi last (event ∷ []) [] a b
left_bare at hi last event new a b high none names bare starts ends latest = record {
  within = λ k h. absurd (none k h);
  once = (λ k h g. g, tt);
  seen = λ k h. absurd (none k h);
  grows = omega (arith, latest);
  low = λ g. omega (arith, g, high, latest);
  new = new;
  names = names;
  own = [];
  ends = λ h. ends ∙ sym (append-nil a.ends);
  starts = starts ∙ sym (append-nil a.starts);
  placed = λ h. bare;
  even = refl;
  matched = λ h. tt;
  kept = tt;
}

no_struct : (k : ℕ) → Among k (Struct ∷ []) → ⊥
no_struct k (inl h) = h
no_struct k (inr h) = h

no_name : (name : List ℕ) (k : ℕ) → Among k (Names name ∷ []) → ⊥
no_name name k (inl h) = h
no_name name k (inr h) = h

no_definition : (k : ℕ) → Among k (Defines ∷ []) → ⊥
no_definition k (inl h) = h
no_definition k (inr h) = h

struct_leaves : (at hi last : ℕ) → at ≤ hi → Leaves false at hi last (Struct ∷ []) []
struct_leaves at hi last high = record {
  by = λ a b p. subst (Left false at hi last (Struct ∷ []) [] a) (sym (p.1.1 ∙ p.1.0.1))
      (left_bare at hi last Struct [] a (with_struct p.1.0.0 a) high no_struct refl refl refl refl refl);
}

name_leaves : (at last : ℕ) (name : List ℕ) → Leaves false at at last (Names name ∷ []) []
name_leaves at last name = record { by = λ a b p. subst (Left false at at last (Names name ∷ []) [] a) (sym p.1.1) (either a p.0 p.1.0) }
  where
    either : (a u : View) → (u ≡ a) ⊎ (u ≡ naming name a) → Left false at at last (Names name ∷ []) [] a u
    either a u (inl h) = subst (Left false at at last (Names name ∷ []) [] a) (sym h)
        (left_bare at at last (Names name) [] a a (omega arith) (no_name name) refl refl refl refl refl)
    either a u (inr h) = subst (Left false at at last (Names name ∷ []) [] a) (sym h)
        (left_bare at at last (Names name) (entry.Declares name (meaning.Function (length a.functions)) ∷ []) a (naming name a) (omega arith) (no_name name)
        refl refl refl refl refl)

definition_leaves : (at last : ℕ) → Leaves false at at last (Defines ∷ []) []
definition_leaves at last = record {
  by = λ a b p. subst (Left false at at last (Defines ∷ []) [] a) (sym (p.1.1 ∙ p.1.0.1))
      (left_bare at at last Defines [] a (defining p.1.0.0 a) (omega arith) no_definition refl refl refl refl refl);
}

-- items

-- the parameters and the body of a function
pub body_leaves : (token : ℕ) (b : Base) (stars : ℕ) (name : List ℕ) (ps : Params) (body : EntryList) (at : ℕ)
    → ShapedItem (i.Function token b stars name ps (Some body)) → ItemAt at (i.Function token b stars name ps (Some body))
    → Leaves true (at + length (type_kinds b stars) + 2) (at + length (type_kinds b stars) + 4 + length (params_kinds ps) + length (entry_kinds body))
    (last_token token (item_kinds (i.Function token b stars name ps (Some body)))) (params_events (listed_params ps) ++ entries_events body)
    (function_scopes (last_token token (item_kinds (i.Function token b stars name ps (Some body)))) (listed_params ps) body)
body_leaves token b stars name ps body at h p =
    let last : ℕ = last_token token (item_kinds (i.Function token b stars name ps (Some body))) in
    let pa : ℕ = at + length (type_kinds b stars) + 2 in
    let pb : ℕ = pa + length (params_kinds ps) + 2 in
    let hi : ℕ = at + length (type_kinds b stars) + 4 + length (params_kinds ps) + length (entry_kinds body) in
    leaves_then pa pb hi (params_leave (listed_params ps) pa pb last (params_at ps pa p.2) (omega (arith, params_within ps)))
    (entries_leave body pb hi last h.1 p.3 (omega arith)) (omega arith) (omega arith)

item_leaves : (x : ItemTree) (at hi end : ℕ) → ShapedItem x → ItemAt at x → at + length (item_kinds x) ≡ hi
    → Leaves false at hi end (item_events x) (item_scopes end x)
item_leaves (i.Struct token tag members) at hi end h p long = struct_leaves at hi end (omega (arith, long))
item_leaves (i.Function token b stars name ps None) at hi end h p long =
    leaves_wider at at at hi (name_leaves at end name) (omega arith) (omega (arith, long))
item_leaves (i.Function token b stars name ps (Some body)) at hi end h p long =
    let last : ℕ = last_token token (item_kinds (i.Function token b stars name ps (Some body))) in
    let es : List Event = params_events (listed_params ps) ++ entries_events body in
    let scopes : List Scope = function_scopes last (listed_params ps) body in
    let total : length (item_kinds (i.Function token b stars name ps (Some body)))
    ≡ length (type_kinds b stars) + 5 + length (params_kinds ps) + length (entry_kinds body) = function_long b stars name ps body in
    leaves_then at at hi (name_leaves at end name)
    (subst (Leaves false at hi end (scope_events es ++ Defines ∷ [])) (append-nil scopes)
    (leaves_then at hi hi
    (leaves_at_large (leaves_scoped (at + length (type_kinds b stars) + 2)
    (at + length (type_kinds b stars) + 4 + length (params_kinds ps) + length (entry_kinds body)) last at hi end
    (body_leaves token b stars name ps body at h p) (omega arith) (omega (arith, p.0, total)) (omega (arith, p.0, total, long))))
    (definition_leaves hi end) (omega (arith, long)) (omega arith)))
    (omega arith) (omega (arith, long))
item_leaves (i.Declaration d) at hi end h p long = leaves_at_large (declaration_leaves d at hi end h p (omega (arith, long)))

pub items_leave : (xs : List ItemTree) (at hi end : ℕ) → AllByRecursion ShapedItem xs → EachAt ItemAt item_kinds 0 at xs
    → at + length (flat_map item_kinds xs) ≡ hi → Leaves false at hi end (items_events xs) (items_scopes end xs)
items_leave [] at hi end h p long = leaves_at_large (leaves_none at hi end (omega (arith, long)))
items_leave (x ∷ xs) at hi end h p long =
    let n : ℕ = length (item_kinds x) in
    let total : length (flat_map item_kinds (x ∷ xs)) ≡ n + length (flat_map item_kinds xs) = length-append (item_kinds x) (flat_map item_kinds xs) in
    leaves_then at (at + n) hi (item_leaves x at (at + n) end h.0 p.0 refl)
    (leaves_wider (at + n + 0) hi (at + n) hi (items_leave xs (at + n + 0) hi end h.1 p.1 (omega (arith, total, long))) (omega arith) (omega arith))
    (omega arith) (omega (arith, total, long))

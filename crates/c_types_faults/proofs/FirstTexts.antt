-- Of the rules that an item or a text breaks one is the first, and the walk tells it.
use Rattle.std.proofs.Common.{◌⊎◌, inl, inr, ⊎_elim, ◌≡◌, ℕ, ◌<◌, ◌≤◌, refl, ap, ap₂, subst, sym, ◌∙◌, arith, List, [], ◌∷◌, ◌++◌, Some, None, Bool, true, false}
use Rattle.std.proofs.lemmas.Bool.{cases_lt}
use Rattle.std.specs.Prelude.{Option, is_some}
use Rattle.c_syntax.specs.declared.parts.Declarator.{Declarator}
use Rattle.c_syntax.specs.declared.parts.Members.{Members}
use Rattle.c_syntax.specs.declared.parts.Param.{Param}
use Rattle.c_syntax.specs.Words.{ExprTree, ItemTree, SourceTree, EntryList, IsShaped}
use Rattle.c_syntax.specs.ItemTree as i
use Rattle.c_types_rules.specs.declared.fault.FaultKind.{FaultKind}
use Rattle.c_types_rules.specs.declared.fault.FaultKind.TheVariants as fault
use Rattle.c_types_rules.specs.declared.function.FunctionType.{FunctionType}
use Rattle.c_types_rules.specs.declared.layout.StructType.{StructType}
use Rattle.c_types_rules.specs.declared.operand.Operand.{Operand}
use Rattle.c_types_rules.specs.Words.{fault_number, empty_struct, most_cells, TypeTree}
use Rattle.c_types.specs.Fault.{fault_in, fault_of, walk_tree}
use Rattle.c_types_expressions.specs.declared.walk.Walk.{Walk}
use Rattle.c_types_expressions.specs.Words.{walk_expr, with_stars, Done, Fine, Faulty, Walked}
use Rattle.c_types_walk.specs.ItemWalk.{listed_params}
use Rattle.c_types_faults.specs.Known.{Known}
use Rattle.c_types_faults.specs.Agrees.{Agrees}
use Rattle.c_types_faults.specs.Context.{Context, empty_context, inner_context, known_identifiers}
use Rattle.c_types_faults.specs.Least.{IsLeast}
use Rattle.c_types_faults.specs.Types.{BaseBreaks, IsBase}
use Rattle.c_types_faults.specs.Declarations.{IsObject}
use Rattle.c_types_faults.specs.Declarators.{DeclaresAs}
use Rattle.c_types_faults.specs.ExprBreaks.{Breaks}
use Rattle.c_types_faults.specs.Functions.{Clashes, Formal, FunctionBreaks, FunctionRule, IsDefinedBefore, ParamBreaks, ParamGives, ParamRule}
use Rattle.c_types_faults.specs.Functions.{ParamsBreak, ParamsGive, prototype, with_formals}
use Rattle.c_types_faults.specs.Items.{ItemBreaks, ItemGives, ItemsBreak, ItemsGive}
use Rattle.c_types_faults.specs.Statements.{AreRuledEntries, EntriesBreak}
use Rattle.c_types_faults.specs.Structs.{HasMember, HasTag, LineBreaks, LineGives, MemberGives, MembersBreak, MembersGive, NewMemberBreaks, StructBreaks, tag_declared}
use Rattle.c_types_faults.specs.Texts.{EndBreaks, TextBreaks}
use Rattle.c_types_faults.proofs.Exprs.{accepted_expr, refused_expr}
use Rattle.c_types_faults.proofs.First.{Next, Single, Then, least_single, next_single, none_single, then_single}
use Rattle.c_types_faults.proofs.FirstExprs.{base_single, expr_single}
use Rattle.c_types_faults.proofs.FirstStatements.{declaration_single, entries_single}
use Rattle.c_types_faults.proofs.Quiet.{entries_silent}
use Rattle.c_types_faults.proofs.QuietItems.{item_one, item_silent, items_one, items_silent, line_one, line_silent, member_one, member_silent, members_one}
use Rattle.c_types_faults.proofs.QuietItems.{members_silent, names_one, param_one, param_silent, params_one, params_silent, text_silent}
use Rattle.c_types_faults.proofs.Silent.{base_silent, expr_silent}
use Rattle.c_types_faults.proofs.Single.{one_base}
use Rattle.c_types_faults.proofs.Texts.{accepted_text, refused_text}

-- structs

module _ (c : Context) where
  line_single : (base : TypeTree) (ds : List Declarator) (s : StructType) → Single (LineBreaks c base ds s)
  line_single base [] s = none_single
  line_single base (d ∷ ds) s = then_single (MemberGives c base d s) (NewMemberBreaks c base d s) (λ next. LineBreaks c base ds next)
      (member_one c base d s) (member_silent c base d s)
      (least_single (λ j. ((j ≡ fault.Redeclared) × HasMember d.name s.members)
      ⊎ ((j ≡ fault.Object) × ((t : TypeTree) → DeclaresAs d base t → IsObject c.structs t → ⊥))) d.token)
      (λ next h. line_single base ds next)

  members_single : (ms : List Members) (s : StructType) → Single (MembersBreak c ms s)
  members_single [] s = none_single
  members_single (m ∷ ms) s = then_single (IsBase (known_identifiers c) m.base) (BaseBreaks (known_identifiers c) m.base)
      (λ base. Then (LineGives c base m.declarators s) (LineBreaks c base m.declarators s) (λ next. MembersBreak c ms next))
      (one_base (known_identifiers c) m.base) (base_silent (known_identifiers c) m.base) (base_single (known_identifiers c) m.base) (λ base h.
      then_single (LineGives c base m.declarators s) (LineBreaks c base m.declarators s) (λ next. MembersBreak c ms next)
      (line_one c base m.declarators s) (line_silent c base m.declarators s) (line_single base m.declarators s) (λ next g. members_single ms next))

struct_single : (token : ℕ) (tag : List ℕ) (members : List Members) (c : Context) → Single (StructBreaks c token tag members)
struct_single token tag members c =
    let rule : StructType → FaultKind → Type 0 = λ s j. ((j ≡ fault.Redeclared) × HasTag tag c.tags) ⊎ ((j ≡ fault.Object) × (s.cells ≤ most_cells → ⊥)) in
    then_single (MembersGive (tag_declared tag c) members empty_struct) (MembersBreak (tag_declared tag c) members empty_struct)
    (λ s j at. (at ≡ token) × IsLeast (rule s) j) (members_one (tag_declared tag c) members empty_struct) (members_silent (tag_declared tag c) members empty_struct)
    (members_single (tag_declared tag c) members empty_struct) (λ s h. least_single (rule s) token)

-- parameters

module _ (c : Context) (body : Bool) where
  param_single : (before : List Formal) (p : Param) → Single (ParamBreaks c body before p)
  param_single before p = then_single (IsBase (known_identifiers c) p.base) (BaseBreaks (known_identifiers c) p.base)
      (λ base j at. (at ≡ p.token) × IsLeast (ParamRule body before p.name (with_stars p.stars base)) j)
      (one_base (known_identifiers c) p.base) (base_silent (known_identifiers c) p.base) (base_single (known_identifiers c) p.base) (λ base h.
      least_single (ParamRule body before p.name (with_stars p.stars base)) p.token)

  params_single : (ps : List Param) (before : List Formal) → Single (ParamsBreak c body before ps)
  params_single [] before = none_single
  params_single (p ∷ ps) before = then_single (ParamGives c body before p) (ParamBreaks c body before p)
      (λ f. ParamsBreak c body (before ++ f ∷ []) ps) (param_one c body before p) (param_silent c body before p) (param_single before p)
      (λ f h. params_single ps (before ++ f ∷ []))

-- functions

module _ (token : ℕ) (name : List ℕ) (f : FunctionType) (formals : List Formal) (c : Context) where
  abbrev InBody : EntryList → Context → FaultKind → ℕ → Type 0
  InBody body next = Next (AreRuledEntries f.gives (with_formals formals (inner_context next)) false body)
      (EntriesBreak f.gives (with_formals formals (inner_context next)) false body)
      (λ j at. (at ≡ token) × IsLeast (FunctionRule (Clashes name f c ⊎ IsDefinedBefore name f c) f) j)

  body_single : (body : EntryList) (next : Context) → Single (InBody body next)
  body_single body next = next_single (AreRuledEntries f.gives (with_formals formals (inner_context next)) false body)
      (EntriesBreak f.gives (with_formals formals (inner_context next)) false body)
      (λ j at. (at ≡ token) × IsLeast (FunctionRule (Clashes name f c ⊎ IsDefinedBefore name f c) f) j)
      (entries_silent f.gives false body (with_formals formals (inner_context next))) (entries_single f.gives false body (with_formals formals (inner_context next)))
      (λ h. least_single (FunctionRule (Clashes name f c ⊎ IsDefinedBefore name f c) f) token)

  defined_single : (body : EntryList) → Single (FunctionBreaks token name f formals (Some body) c)
  defined_single body i j a b (m, (h, x)) (n, (g, y)) =
      body_single body m i j a b x (subst (λ z. InBody body z j b) (names_one name f c n m g h) y)

  function_single : (body : Option EntryList) → Single (FunctionBreaks token name f formals body c)
  function_single None = least_single (FunctionRule (Clashes name f c) f) token
  function_single (Some body) = defined_single body

-- items

pub item_single : (x : ItemTree) (c : Context) → Single (ItemBreaks c x)
item_single (i.Struct token tag members) c = struct_single token tag members c
item_single (i.Function token b stars name ps body) c =
    let last : TypeTree → List Formal → FaultKind → ℕ → Type 0 = λ base formals.
    FunctionBreaks token name (prototype (with_stars stars base) formals) formals body c in
    then_single (IsBase (known_identifiers c) b) (BaseBreaks (known_identifiers c) b)
    (λ base. Then (ParamsGive c (is_some body) [] (listed_params ps)) (ParamsBreak c (is_some body) [] (listed_params ps)) (last base))
    (one_base (known_identifiers c) b) (base_silent (known_identifiers c) b) (base_single (known_identifiers c) b) (λ base h.
    then_single (ParamsGive c (is_some body) [] (listed_params ps)) (ParamsBreak c (is_some body) [] (listed_params ps)) (last base)
    (params_one c (is_some body) (listed_params ps) []) (params_silent c (is_some body) (listed_params ps) []) (params_single c (is_some body) (listed_params ps) [])
    (λ formals g. function_single token name (prototype (with_stars stars base) formals) formals c body))
item_single (i.Declaration declaration) c = declaration_single true declaration c

pub items_single : (xs : List ItemTree) (c : Context) → Single (ItemsBreak c xs)
items_single [] c = none_single
items_single (x ∷ xs) c = then_single (ItemGives c x) (ItemBreaks c x) (λ next. ItemsBreak next xs) (item_one x c) (item_silent x c) (item_single x c)
    (λ next h. items_single xs next)

-- a text

none_less : (a b : ℕ) → (a < b → ⊥) → (b < a → ⊥) → a ≡ b
none_less a b f g =
    ⊎_elim (λ less. absurd (f less)) (λ p. ⊎_elim (λ less. absurd (g less)) (λ q. omega (arith, p, q)) (cases_lt b a)) (cases_lt a b)

end_single : (t : SourceTree) (c : Context) → IsShaped t → Single (EndBreaks t c)
end_single t c s i j a b (inl h) (inl g) = (h.0 ∙ sym g.0, h.1 ∙ sym g.1)
end_single t c s i j a b (inl h) (inr g) = absurd (h.2 g.0)
end_single t c s i j a b (inr h) (inl g) = absurd (g.2 h.0)
end_single t c s i j a b (inr h) (inr g) =
    (h.1.0 ∙ sym g.1.0, none_less a b (λ less. g.1.1.1 s a less h.1.1.0) (λ less. h.1.1.1 s b less g.1.1.0))

pub text_single : (t : SourceTree) → IsShaped t → Single (TextBreaks t)
text_single t s = then_single (ItemsGive empty_context t.items) (ItemsBreak empty_context t.items) (λ c. EndBreaks t c)
    (items_one t.items empty_context) (items_silent t.items empty_context) (items_single t.items empty_context) (λ c h. end_single t c s)

-- the walk tells it

pub text_told : (t : SourceTree) (kind : FaultKind) (at : ℕ) → IsShaped t → TextBreaks t kind at → fault_of t ≡ Some (fault_number kind, at)
text_told t kind at s h = by (walk_tree t) refl
  where
    by : (m : Walked Done) → walk_tree t ≡ m → fault_of t ≡ Some (fault_number kind, at)
    by (Fine d known_identifiers) e = absurd (text_silent t kind at (accepted_text t known_identifiers s e) h)
    by (Faulty j n) e =
        let one : (j ≡ kind) × (n ≡ at) = text_single t s j kind n at (refused_text t j n e) h in
        ap fault_in e ∙ ap₂ (λ k m. Some (fault_number k, m)) one.0 one.1

pub expr_told : (k : Known) (w : Walk) (x : ExprTree) (kind : FaultKind) (at : ℕ) → Agrees k w → Breaks k x kind at → walk_expr x w ≡ Faulty kind at
expr_told k w x kind at g h = by (walk_expr x w) refl
  where
    by : (m : Walked Operand) → walk_expr x w ≡ m → walk_expr x w ≡ Faulty kind at
    by (Fine d v) e = absurd (expr_silent k x d kind at (accepted_expr k w v x d g e) h)
    by (Faulty j n) e =
        let one : (j ≡ kind) × (n ≡ at) = expr_single k x j kind n at (refused_expr k w x j n g e) h in
        e ∙ ap₂ (λ k m. Faulty k m) one.0 one.1

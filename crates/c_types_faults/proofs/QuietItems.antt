-- An item that keeps the rules breaks none, and neither does a text.
use Rattle.std.proofs.Common.{◌⊎◌, inl, inr, ⊎_elim, ◌≡◌, ℕ, refl, ap, subst, sym, ◌∙◌, List, [], ◌∷◌, ◌++◌, map, Some, None, Bool, true, false, ◌≤◌}
use Rattle.std.proofs.lemmas.Bool.{false≢true}
use Rattle.std.specs.Prelude.{Option, is_some}
use Rattle.c_syntax.specs.declared.parts.Base.{Base}
use Rattle.c_syntax.specs.declared.parts.Declarator.{Declarator}
use Rattle.c_syntax.specs.declared.parts.Members.{Members}
use Rattle.c_syntax.specs.declared.parts.Param.{Param}
use Rattle.c_syntax.specs.declared.parts.ParamName.{ParamName}
use Rattle.c_syntax.specs.ItemTree as i
use Rattle.c_syntax.specs.Words.{ItemTree, SourceTree, EntryList}
use Rattle.c_types_rules.specs.declared.fault.FaultKind.{FaultKind}
use Rattle.c_types_rules.specs.declared.function.FunctionType.{FunctionType}
use Rattle.c_types_rules.specs.declared.layout.StructType.{StructType}
use Rattle.c_types_rules.specs.Words.{empty_struct, with_member, most_cells, TypeTree}
use Rattle.c_types_expressions.specs.ExprWalk.{with_stars}
use Rattle.c_types_walk.specs.ItemWalk.{listed_params}
use Rattle.c_types_faults.specs.Context.{Context, empty_context, inner_context, known_identifiers}
use Rattle.c_types_faults.specs.Functions.{Clashes, Formal, FunctionBreaks, FunctionFits, FunctionGives, FunctionRule, IsDefinedBefore, IsRuledParam, Names, ParamBreaks}
use Rattle.c_types_faults.specs.Functions.{ParamGives, ParamRule}
use Rattle.c_types_faults.specs.Functions.{ParamsBreak, ParamsGive, PrototypeGives, formal_parameter, formal_type, prototype, with_formals}
use Rattle.c_types_faults.specs.Items.{ItemBreaks, ItemGives, ItemsBreak, ItemsGive}
use Rattle.c_types_faults.specs.Statements.{EntriesBreak}
use Rattle.c_types_faults.specs.Structs.{LineBreaks, LineGives, NewMemberBreaks, MemberGives, MembersBreak, MembersGive, StructBreaks, StructGives, tag_declared}
use Rattle.c_types_faults.specs.Texts.{TextBreaks, TextKeepsRules, DefinesMain, CallsUndefined}
use Rattle.c_types_faults.proofs.Quiet.{declaration_one, declaration_silent, entries_silent, one_type}
use Rattle.c_types_faults.proofs.Silent.{base_silent}
use Rattle.c_types_faults.proofs.Single.{one_base}

-- structs

module _ (c : Context) where
  pub member_one : (base : TypeTree) (d : Declarator) (s a b : StructType) → MemberGives c base d s a → MemberGives c base d s b → a ≡ b
  member_one base d s a b (t, h) (u, g) = h.3 ∙ ap (λ v. with_member c.structs d.name v s) (one_type d base t u h.1 g.1) ∙ sym g.3

  pub member_silent : (base : TypeTree) (d : Declarator) (s a : StructType) (j : FaultKind) (at : ℕ) → MemberGives c base d s a → NewMemberBreaks c base d s j at → ⊥
  member_silent base d s a j at (t, h) (q, (inl b, least)) = h.0 b.1
  member_silent base d s a j at (t, h) (q, (inr b, least)) = b.1 t h.1 h.2

  pub line_one : (base : TypeTree) (ds : List Declarator) (s a b : StructType) → LineGives c base ds s a → LineGives c base ds s b → a ≡ b
  line_one base [] s a b h g = h ∙ sym g
  line_one base (d ∷ ds) s a b (n, h) (m, g) =
      line_one base ds n a b h.1 (subst (λ z. LineGives c base ds z b) (sym (member_one base d s n m h.0 g.0)) g.1)

  pub line_silent : (base : TypeTree) (ds : List Declarator) (s a : StructType) (j : FaultKind) (at : ℕ) → LineGives c base ds s a → LineBreaks c base ds s j at → ⊥
  line_silent base [] s a j at h b = b
  line_silent base (d ∷ ds) s a j at (n, h) (inl b) = member_silent base d s n j at h.0 b
  line_silent base (d ∷ ds) s a j at (n, h) (inr (m, b)) =
      line_silent base ds n a j at h.1 (subst (λ z. LineBreaks c base ds z j at) (member_one base d s m n b.0 h.0) b.1)

  pub members_one : (ms : List Members) (s a b : StructType) → MembersGive c ms s a → MembersGive c ms s b → a ≡ b
  members_one [] s a b h g = h ∙ sym g
  members_one (m ∷ ms) s a b (base, (n, h)) (base2, (n2, g)) =
      let g' : LineGives c base m.declarators s n2 =
      subst (λ z. LineGives c z m.declarators s n2) (sym (one_base (known_identifiers c) m.base base base2 h.0 g.0)) g.1 in
      members_one ms n a b h.2 (subst (λ z. MembersGive c ms z b) (sym (line_one base m.declarators s n n2 h.1 g')) g.2)

  pub members_silent : (ms : List Members) (s a : StructType) (j : FaultKind) (at : ℕ) → MembersGive c ms s a → MembersBreak c ms s j at → ⊥
  members_silent [] s a j at h b = b
  members_silent (m ∷ ms) s a j at (base, (n, h)) (inl b) = base_silent (known_identifiers c) m.base base j at h.0 b
  members_silent (m ∷ ms) s a j at (base, (n, h)) (inr (base2, (g, inl b))) = line_silent base m.declarators s n j at h.1
      (subst (λ z. LineBreaks c z m.declarators s j at) (one_base (known_identifiers c) m.base base2 base g h.0) b)
  members_silent (m ∷ ms) s a j at (base, (n, h)) (inr (base2, (g, inr (n2, b)))) =
      let l : LineGives c base m.declarators s n2 =
      subst (λ z. LineGives c z m.declarators s n2) (one_base (known_identifiers c) m.base base2 base g h.0) b.0 in
      members_silent ms n a j at h.2 (subst (λ z. MembersBreak c ms z j at) (line_one base m.declarators s n2 n l h.1) b.1)

struct_one : (tag : List ℕ) (members : List Members) (c a b : Context) → StructGives c tag members a → StructGives c tag members b → a ≡ b
struct_one tag members c a b (s, h) (r, g) =
    h.3 ∙ ap (λ x. record (tag_declared tag c) { structs = c.structs ++ x ∷ [] }) (members_one (tag_declared tag c) members empty_struct s r h.0 g.0) ∙ sym g.3

pub struct_silent : (token : ℕ) (tag : List ℕ) (members : List Members) (c a : Context) (j : FaultKind) (at : ℕ) → StructGives c tag members a
    → StructBreaks c token tag members j at → ⊥
struct_silent token tag members c a j at (s, h) (inl b) = members_silent (tag_declared tag c) members empty_struct s j at h.0 b
struct_silent token tag members c a j at (s, h) (inr (r, (g, (q, (inl b, least))))) = h.1 b.1
struct_silent token tag members c a j at (s, h) (inr (r, (g, (q, (inr b, least))))) =
    b.1 (subst (λ (z : StructType). z.cells ≤ most_cells) (members_one (tag_declared tag c) members empty_struct s r h.0 g) h.2)

-- parameters

rule_silent : (body : Bool) (before : List Formal) (name : Option ParamName) (t : TypeTree) (j : FaultKind) → IsRuledParam body before name t
    → ParamRule body before name t j → ⊥
rule_silent body before None t j h (inl b) = false≢true (sym h.0 ∙ b.1)
rule_silent body before None t j h (inr b) = b.1 h.1
rule_silent body before (Some n) t j h (inl b) = h.0 b.1
rule_silent body before (Some n) t j h (inr b) = b.1 (h.1, h.2)

module _ (c : Context) (body : Bool) where
  pub param_one : (before : List Formal) (p : Param) (a b : Formal) → ParamGives c body before p a → ParamGives c body before p b → a ≡ b
  param_one before p a b (base, h) (base2, g) =
      h.2 ∙ ap (λ z. formal_parameter p.name (with_stars p.stars z)) (one_base (known_identifiers c) p.base base base2 h.0 g.0) ∙ sym g.2

  pub param_silent : (before : List Formal) (p : Param) (a : Formal) (j : FaultKind) (at : ℕ) → ParamGives c body before p a → ParamBreaks c body before p j at → ⊥
  param_silent before p a j at (base, h) (inl b) = base_silent (known_identifiers c) p.base base j at h.0 b
  param_silent before p a j at (base, h) (inr (base2, b)) = rule_silent body before p.name (with_stars p.stars base) j h.1
      (subst (λ z. ParamRule body before p.name (with_stars p.stars z) j) (one_base (known_identifiers c) p.base base2 base b.0 h.0) b.1.1.0)

  pub params_one : (ps : List Param) (before a b : List Formal) → ParamsGive c body before ps a → ParamsGive c body before ps b → a ≡ b
  params_one [] before a b h g = h ∙ sym g
  params_one (p ∷ ps) before a b (f, h) (f2, g) =
      params_one ps (before ++ f ∷ []) a b h.1 (subst (λ z. ParamsGive c body (before ++ z ∷ []) ps b) (sym (param_one before p f f2 h.0 g.0)) g.1)

  pub params_silent : (ps : List Param) (before a : List Formal) (j : FaultKind) (at : ℕ) → ParamsGive c body before ps a → ParamsBreak c body before ps j at → ⊥
  params_silent [] before a j at h b = b
  params_silent (p ∷ ps) before a j at (f, h) (inl b) = param_silent before p f j at h.0 b
  params_silent (p ∷ ps) before a j at (f, h) (inr (f2, b)) = params_silent ps (before ++ f ∷ []) a j at h.1
      (subst (λ z. ParamsBreak c body (before ++ z ∷ []) ps j at) (param_one before p f2 f b.0 h.0) b.1)

-- functions

pub names_one : (name : List ℕ) (f : FunctionType) (c a b : Context) → Names name f c a → Names name f c b → a ≡ b
names_one name f c a b (inl h) (inl g) = h.1 ∙ sym g.1
names_one name f c a b (inl h) (inr g) = absurd (g.0 h.0)
names_one name f c a b (inr h) (inl g) = absurd (h.0 g.0)
names_one name f c a b (inr h) (inr g) = h.1 ∙ sym g.1

abbrev made : TypeTree → List Formal → FunctionType
made t fs = record { gives = t; params = map formal_type fs }

pub formals_one : (b : Base) (stars : ℕ) (body : Bool) (ps : List Param) (c : Context) (f g : FunctionType) (fs gs : List Formal)
    → PrototypeGives b stars body ps c f fs → PrototypeGives b stars body ps c g gs → fs ≡ gs
formals_one b stars body ps c f g fs gs (base, h) (base2, k) = params_one c body ps [] fs gs h.1 k.1

pub prototype_one : (b : Base) (stars : ℕ) (body : Bool) (ps : List Param) (c : Context) (f g : FunctionType) (fs gs : List Formal)
    → PrototypeGives b stars body ps c f fs → PrototypeGives b stars body ps c g gs → f ≡ g
prototype_one b stars body ps c f g fs gs (base, h) (base2, k) =
    h.2 ∙ ap (λ z. made (with_stars stars z) fs) (one_base (known_identifiers c) b base base2 h.0 k.0)
    ∙ ap (made (with_stars stars base2)) (params_one c body ps [] fs gs h.1 k.1) ∙ sym k.2

pub function_one : (name : List ℕ) (f : FunctionType) (formals : List Formal) (body : Option EntryList) (c a b : Context)
    → FunctionGives name f formals body c a → FunctionGives name f formals body c b → a ≡ b
function_one name f formals None c a b h g = names_one name f c a b h.1 g.1
function_one name f formals (Some body) c a b (x, y, (n, h)) (u, v, (m, g)) =
    h.2 ∙ ap (λ (z : Context). record z { defined = name ∷ z.defined }) (names_one name f c n m h.0 g.0) ∙ sym g.2

clash_silent : (name : List ℕ) (f : FunctionType) (c : Context) → FunctionFits name f c → Clashes name f c → ⊥
clash_silent name f c h (inl b) = h.0 b
clash_silent name f c h (inr b) = b.1 (h.1 b.0)

function_rule_silent : (MayNot : Type 0) (name : List ℕ) (f : FunctionType) (c : Context) (j : FaultKind) → FunctionFits name f c → (MayNot → ⊥)
    → FunctionRule MayNot f j → ⊥
function_rule_silent MayNot name f c j h may (inl b) = may b.1
function_rule_silent MayNot name f c j h may (inr b) = false≢true (sym h.2 ∙ b.1)

pub function_silent : (token : ℕ) (name : List ℕ) (f : FunctionType) (formals : List Formal) (body : Option EntryList) (c a : Context) (j : FaultKind) (at : ℕ)
    → FunctionGives name f formals body c a → FunctionBreaks token name f formals body c j at → ⊥
function_silent token name f formals None c a j at h b = function_rule_silent (Clashes name f c) name f c j h.0 (clash_silent name f c h.0) b.1.0
function_silent token name f formals (Some body) c a j at (x, y, (n, h)) (m, (g, inl b)) =
    entries_silent f.gives false body (with_formals formals (inner_context n)) j at h.1
    (subst (λ z. EntriesBreak f.gives (with_formals formals (inner_context z)) false body j at) (names_one name f c m n g h.0) b)
function_silent token name f formals (Some body) c a j at (x, y, (n, h)) (m, (g, inr (r, b))) =
    function_rule_silent (Clashes name f c ⊎ IsDefinedBefore name f c) name f c j x
    (⊎_elim (clash_silent name f c x) (λ d. false≢true (sym (y d.0) ∙ d.1))) b.1.0

-- items

pub item_one : (x : ItemTree) (c a b : Context) → ItemGives c x a → ItemGives c x b → a ≡ b
item_one (i.Struct token tag members) c a b h g = struct_one tag members c a b h g
item_one (i.Function token base stars name ps body) c a b (f, (fs, h)) (g, (gs, k)) =
    function_one name f fs body c a b h.1
    (subst (λ z. FunctionGives name z fs body c b) (sym (prototype_one base stars (is_some body) (listed_params ps) c f g fs gs h.0 k.0))
    (subst (λ z. FunctionGives name g z body c b) (sym (formals_one base stars (is_some body) (listed_params ps) c f g fs gs h.0 k.0)) k.1))
item_one (i.Declaration declaration) c a b h g = declaration_one true declaration c a b h g

pub item_silent : (x : ItemTree) (c a : Context) (j : FaultKind) (at : ℕ) → ItemGives c x a → ItemBreaks c x j at → ⊥
item_silent (i.Struct token tag members) c a j at h b = struct_silent token tag members c a j at h b
item_silent (i.Function token base stars name ps body) c a j at (f, (fs, h)) (inl b) = base_silent (known_identifiers c) base h.0.0 j at h.0.1.0 b
item_silent (i.Function token base stars name ps body) c a j at (f, (fs, h)) (inr (of, (g, inl b))) =
    params_silent c (is_some body) (listed_params ps) [] fs j at h.0.1.1 b
item_silent (i.Function token base stars name ps body) c a j at (f, (fs, h)) (inr (of, (g, inr (gs, (k, b))))) =
    let own : FunctionType = prototype (with_stars stars of) gs in
    let is : PrototypeGives base stars (is_some body) (listed_params ps) c own gs = (of, (g, k, refl)) in
    function_silent token name f fs body c a j at h.1
    (subst (λ z. FunctionBreaks token name z fs body c j at) (prototype_one base stars (is_some body) (listed_params ps) c own f gs fs is h.0)
    (subst (λ z. FunctionBreaks token name own z body c j at) (formals_one base stars (is_some body) (listed_params ps) c own f gs fs is h.0) b))
item_silent (i.Declaration declaration) c a j at h b = declaration_silent true declaration c a j at h b

pub items_one : (xs : List ItemTree) (c a b : Context) → ItemsGive c xs a → ItemsGive c xs b → a ≡ b
items_one [] c a b h g = h ∙ sym g
items_one (x ∷ xs) c a b (n, h) (m, g) = items_one xs n a b h.1 (subst (λ z. ItemsGive z xs b) (sym (item_one x c n m h.0 g.0)) g.1)

pub items_silent : (xs : List ItemTree) (c a : Context) (j : FaultKind) (at : ℕ) → ItemsGive c xs a → ItemsBreak c xs j at → ⊥
items_silent [] c a j at h b = b
items_silent (x ∷ xs) c a j at (n, h) (inl b) = item_silent x c n j at h.0 b
items_silent (x ∷ xs) c a j at (n, h) (inr (m, b)) =
    items_silent xs n a j at h.1 (subst (λ z. ItemsBreak z xs j at) (item_one x c m n b.0 h.0) b.1)

pub text_silent : (t : SourceTree) (kind : FaultKind) (token : ℕ) → TextKeepsRules t → TextBreaks t kind token → ⊥
text_silent t kind token (c, h) (inl b) = items_silent t.items empty_context c kind token h.0 b
text_silent t kind token (c, h) (inr (d, (g, inl b))) = b.2 (subst (DefinesMain t) (items_one t.items empty_context c d h.0 g) h.1)
text_silent t kind token (c, h) (inr (d, (g, inr (m, b)))) = undefined (subst (λ z. CallsUndefined t z token) (items_one t.items empty_context d c g h.0) b.1.0)
  where
    undefined : CallsUndefined t c token → ⊥
    undefined u = false≢true (sym u.1.2 ∙ h.2 token u.0 u.1.0 u.1.1)

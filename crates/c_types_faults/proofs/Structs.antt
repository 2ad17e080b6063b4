-- Structs: what the walk takes is known behind it, and where it stops a rule is broken.
use Rattle.std.proofs.Common.{◌⊎◌, inl, inr, ◌≡◌, ℕ, ◌≤◌, refl, ap, subst, sym, ◌∙◌, arith, List, [], ◌∷◌, ◌++◌, Some, None, Bool, true, false, length}
use Rattle.std.proofs.lemmas.Bool.{false≢true, or_cases, or_left, or_right}
use Rattle.std.proofs.lemmas.Slice.Eq.{bytes_eq-Decides}
use Rattle.std.specs.Prelude.{Option, is_some, nat_le, if◌then◌else◌}
use Rattle.std.specs.Str.{bytes_eq}
use Rattle.std.proofs.lemmas.Option.{same_Some}
use Rattle.base_lists.proofs.Numbers.{is_most, most_is}
use Rattle.c_syntax.specs.declared.parts.Declarator.{Declarator}
use Rattle.c_syntax.specs.declared.parts.Members.{Members}
use Rattle.c_types_rules.specs.declared.fault.FaultKind.TheVariants as fault
use Rattle.c_types_rules.specs.declared.layout.Member.{Member}
use Rattle.c_types_rules.specs.declared.layout.StructType.{StructType}
use Rattle.c_types_rules.specs.Words.{TypeTree, member_named, empty_struct, is_object, most_cells, with_member}
use Rattle.c_types_expressions.specs.declared.names.Meaning.TheVariants as meaning
use Rattle.c_types_expressions.specs.declared.names.ScopeEntry.{ScopeEntry}
use Rattle.c_types_expressions.specs.declared.names.ScopeEntry.TheVariants.{Opens, Declares}
use Rattle.c_types_expressions.specs.declared.walk.Walk.{Walk}
use Rattle.c_types_expressions.specs.Words.{is_here, Fine, Faulty, Done}
use Rattle.c_types_walk.specs.Declarators.{declared_type}
use Rattle.c_types_walk.specs.ItemWalk.{struct_defined, typed_member, walk_declarators, walk_members, walk_struct, with_tag}
use Rattle.c_types_faults.specs.Context.{Context, Tagged, known_identifiers}
use Rattle.c_types_faults.specs.Declarators as law
use Rattle.c_types_faults.specs.Declarations.{IsObject}
use Rattle.c_types_faults.specs.Structs.{HasMember, HasTag, LineBreaks, LineGives, NewMemberBreaks, MemberGives, MembersBreak, MembersGive, StructBreaks}
use Rattle.c_types_faults.specs.Structs.{StructGives}
use Rattle.c_types_faults.specs.Structs.{tag_declared}
use Rattle.c_types_faults.proofs.Bounds.{declared_back, declared_is, no_type}
use Rattle.c_types_faults.proofs.Exprs.{base_tells}
use Rattle.c_types_faults.proofs.Least.{least_first, least_second}
use Rattle.c_types_faults.proofs.Knowing.{Knows, TagsMatch, agreed}
use Rattle.c_types_faults.proofs.Telling.{Agreed, Shown, Tells, agrees_on, and_then, shown, weaker}
use Rattle.c_types_faults.proofs.Variables.{no_object, object_is}

has_member : (name : List ℕ) (ms : List Member) → is_some (member_named name ms) ≡ true → HasMember name ms
has_member name [] h = absurd (false≢true h)
has_member name (m ∷ ms) h = by (bytes_eq m.name name) refl h (has_member name ms)
  where
    by : (b : Bool) → bytes_eq m.name name ≡ b → is_some (if b then Some m else member_named name ms) ≡ true
        → (is_some (member_named name ms) ≡ true → HasMember name ms) → HasMember name (m ∷ ms)
    by true e h f = inl ((bytes_eq-Decides m.name name).0 e)
    by false e h f = inr (f h)

no_such_member : (name : List ℕ) (ms : List Member) → is_some (member_named name ms) ≡ false → HasMember name ms → ⊥
no_such_member name [] h q = q
no_such_member name (m ∷ ms) h q = by (bytes_eq m.name name) refl h (no_such_member name ms) q
  where
    by : (b : Bool) → bytes_eq m.name name ≡ b → is_some (if b then Some m else member_named name ms) ≡ false
        → (is_some (member_named name ms) ≡ false → HasMember name ms → ⊥) → HasMember name (m ∷ ms) → ⊥
    by true e h f q = false≢true (sym h)
    by false e h f (inl q) = false≢true (sym e ∙ (bytes_eq-Decides m.name name).1 q)
    by false e h f (inr q) = f h q

tag_here : (tag : List ℕ) (tags : List ScopeEntry) (ds : List Tagged) → TagsMatch tags ds → HasTag tag ds → is_here tag tags ≡ true
tag_here tag [] [] h q = absurd q
tag_here tag [] (d ∷ ds) h q = absurd h
tag_here tag (Opens ∷ rest) ds h q = absurd h
tag_here tag (Declares t m ∷ rest) [] h q = absurd h
tag_here tag (Declares t (meaning.Struct i) ∷ rest) (d ∷ ds) h (inl q) = or_left (bytes_eq t tag) (is_here tag rest) ((bytes_eq-Decides t tag).1 (h.0 ∙ q))
tag_here tag (Declares t (meaning.Struct i) ∷ rest) (d ∷ ds) h (inr q) = or_right (bytes_eq t tag) (is_here tag rest) (tag_here tag rest ds h.2 q)
tag_here tag (Declares t (meaning.Variable i) ∷ rest) (d ∷ ds) h q = absurd h
tag_here tag (Declares t (meaning.Function i) ∷ rest) (d ∷ ds) h q = absurd h
tag_here tag (Declares t (meaning.Library f) ∷ rest) (d ∷ ds) h q = absurd h

has_tag : (tag : List ℕ) (tags : List ScopeEntry) (ds : List Tagged) → TagsMatch tags ds → is_here tag tags ≡ true → HasTag tag ds
has_tag tag [] ds h e = absurd (false≢true e)
has_tag tag (Opens ∷ rest) ds h e = absurd h
has_tag tag (Declares t m ∷ rest) [] h e = absurd h
has_tag tag (Declares t (meaning.Struct i) ∷ rest) (d ∷ ds) h e = by (or_cases (bytes_eq t tag) (is_here tag rest) e) (has_tag tag rest ds h.2)
  where
    by : ((bytes_eq t tag ≡ true) ⊎ (is_here tag rest ≡ true)) → (is_here tag rest ≡ true → HasTag tag ds) → HasTag tag (d ∷ ds)
    by (inl b) f = inl (sym h.0 ∙ (bytes_eq-Decides t tag).0 b)
    by (inr b) f = inr (f b)
has_tag tag (Declares t (meaning.Variable i) ∷ rest) (d ∷ ds) h e = absurd h
has_tag tag (Declares t (meaning.Function i) ∷ rest) (d ∷ ds) h e = absurd h
has_tag tag (Declares t (meaning.Library f) ∷ rest) (d ∷ ds) h e = absurd h

module _ (c : Context) where
  no_member_type : (base t u : TypeTree) (d : Declarator) → declared_type d base ≡ Some t → is_object c.structs t ≡ false → law.DeclaresAs d base u
      → IsObject c.structs u → ⊥
  no_member_type base t u d e h k o = no_object c.structs t h (subst (IsObject c.structs) (same_Some u t (sym (declared_back d base u k) ∙ e)) o)

  typed_by : (b : Bool) (base t : TypeTree) (d : Declarator) (s : StructType) (w : Walk) → (HasMember d.name s.members → ⊥) → c.structs ≡ w.structs
      → declared_type d base ≡ Some t
      → is_object w.structs t ≡ b
      → Tells (if b then Fine (with_member w.structs d.name t s) w else Faulty fault.Object d.token) (λ next v. MemberGives c base d s next × (v ≡ w))
      (NewMemberBreaks c base d s)
  typed_by true base t d s w new k e h = record {
    by = ((t, (new, declared_is d base t e, object_is c.structs t (ap (λ ss. is_object ss t) k ∙ h), ap (λ ss. with_member ss d.name t s) (sym k))), refl);
  }
  typed_by false base t d s w new k e h = record {
    by = (
      refl,
      least_second (HasMember d.name s.members) ((u : TypeTree) → law.DeclaresAs d base u → IsObject c.structs u → ⊥) fault.Redeclared fault.Object
          fault.Object new refl (λ u q. no_member_type base t u d e (ap (λ ss. is_object ss t) k ∙ h) q),
    );
  }

  typed_tells : (o : Option TypeTree) (base : TypeTree) (d : Declarator) (s : StructType) (w : Walk) → (HasMember d.name s.members → ⊥)
      → c.structs ≡ w.structs → declared_type d base ≡ o
      → Tells (typed_member d o s w) (λ next v. MemberGives c base d s next × (v ≡ w)) (NewMemberBreaks c base d s)
  typed_tells None base d s w new k e = record {
    by = (
      refl,
      least_second (HasMember d.name s.members) ((u : TypeTree) → law.DeclaresAs d base u → IsObject c.structs u → ⊥) fault.Redeclared fault.Object
          fault.Object new refl (λ u q i. no_type d base e u q),
    );
  }
  typed_tells (Some t) base d s w new k e = typed_by (is_object w.structs t) base t d s w new k e refl

  member_by : (b : Bool) (base : TypeTree) (d : Declarator) (s : StructType) (w : Walk) → c.structs ≡ w.structs
      → is_some (member_named d.name s.members) ≡ b
      → Tells (if b then Faulty fault.Redeclared d.token else typed_member d (declared_type d base) s w) (λ next v. MemberGives c base d s next × (v ≡ w))
      (NewMemberBreaks c base d s)
  member_by true base d s w k e = record {
    by = (
      refl,
      least_first (HasMember d.name s.members) ((u : TypeTree) → law.DeclaresAs d base u → IsObject c.structs u → ⊥) fault.Redeclared fault.Object
          fault.Redeclared (omega arith) refl (has_member d.name s.members e),
    );
  }
  member_by false base d s w k e = typed_tells (declared_type d base) base d s w (no_such_member d.name s.members e) k refl

  line_tells : (base : TypeTree) (ds : List Declarator) (s : StructType) (w : Walk) → c.structs ≡ w.structs
      → Tells (walk_declarators base ds s w) (λ next v. LineGives c base ds s next × (v ≡ w)) (LineBreaks c base ds s)
  line_tells base [] s w k = record { by = (refl, refl) }
  line_tells base (d ∷ ds) s w k = and_then (member_by (is_some (member_named d.name s.members)) base d s w k refl) (λ j at h. inl h) (λ next v p.
      weaker (line_tells base ds next v (k ∙ ap (λ (z : Walk). z.structs) (sym p.1))) (λ j at h. inr (next, (p.0, h)))
      (λ last u q. ((next, (p.0, q.0)), q.1 ∙ p.1)))

  members_tell : (ms : List Members) (s : StructType) (w : Walk) → Agreed (known_identifiers c) (shown w)
      → Tells (walk_members ms s w) (λ next v. MembersGive c ms s next × (v ≡ w)) (MembersBreak c ms s)
  members_tell [] s w g = record { by = (refl, refl) }
  members_tell (m ∷ ms) s w g = and_then (base_tells (known_identifiers c) m.base w g) (λ j at h. inl h) (λ base v p.
      and_then (line_tells base m.declarators s v (g.by.complete ∙ ap (λ (z : Walk). z.structs) (sym p.1)))
      (λ j at h. inr (base, (p.0, inl h))) (λ next u q.
      weaker (members_tell ms next u (agrees_on g (ap shown (q.1 ∙ p.1)))) (λ j at h. inr (base, (p.0, inr (next, (q.0, h)))))
      (λ last z n. ((base, (next, (p.0, q.0, n.0))), n.1 ∙ q.1 ∙ p.1))))

tagging_knows : {c : Context} {s : Shown} (tag : List ℕ) → Knows c s
    → Knows (tag_declared tag c) (record s { tags = Declares tag (meaning.Struct (length s.structs)) ∷ s.tags })
tagging_knows tag k = record {
  names = k.names;
  tags = (refl, ap length (sym k.structs), k.tags);
  structs = k.structs;
  count = k.count;
  cells = k.cells;
}

-- what stays the same at a struct
pub record Structured (c : Context) (w v : Walk) : Type 0 where
  pub knows : Knows c (shown v)
  pub names : v.names ≡ w.names
  pub functions : v.functions ≡ w.functions
  pub defined_as : v.defined_as ≡ w.defined_as
  pub calls : v.functions_at ≡ w.functions_at

abbrev StructTold : Context → List ℕ → List Members → Walk → Done → Walk → Type 0
StructTold c tag members w d v = (after : Context) × (StructGives c tag members after × Structured after w v)

fits_by : (b : Bool) (token : ℕ) (tag : List ℕ) (members : List Members) (s : StructType) (c : Context) (w : Walk) → Knows c (shown w)
    → MembersGive (tag_declared tag c) members empty_struct s → (HasTag tag c.tags → ⊥) → nat_le s.cells most_cells ≡ b
    → Tells (if b then Fine tt (record (with_tag tag w) { structs = w.structs ++ s ∷ [] }) else Faulty fault.Object token) (StructTold c tag members w)
    (StructBreaks c token tag members)
fits_by true token tag members s c w k g new e = record {
  by = (
    record (tag_declared tag c) { structs = c.structs ++ s ∷ [] },
    (
      (s, (g, new, is_most s.cells most_cells e, refl)),
      record {
        knows = record {
          names = k.names;
          tags = (refl, ap length (sym k.structs), k.tags);
          structs = ap (λ ss. ss ++ s ∷ []) k.structs;
          count = k.count;
          cells = k.cells;
        };
        names = refl;
        functions = refl;
        defined_as = refl;
        calls = refl;
      },
    ),
  );
}
fits_by false token tag members s c w k g new e = record {
  by = inr (
    s,
    (
      g,
      (
        refl,
        least_second (HasTag tag c.tags) (s.cells ≤ most_cells → ⊥) fault.Redeclared fault.Object fault.Object new refl
            (λ l. false≢true (sym e ∙ most_is s.cells most_cells l)),
      ),
    ),
  );
}

defined_tells : (b : Bool) (token : ℕ) (tag : List ℕ) (members : List Members) (s : StructType) (c : Context) (w : Walk) → Knows c (shown w)
    → MembersGive (tag_declared tag c) members empty_struct s → is_here tag w.tags ≡ b
    → Tells (struct_defined token b s (with_tag tag w)) (StructTold c tag members w) (StructBreaks c token tag members)
defined_tells true token tag members s c w k g e = record {
  by = inr (
    s,
    (
      g,
      (
        refl,
        least_first (HasTag tag c.tags) (s.cells ≤ most_cells → ⊥) fault.Redeclared fault.Object fault.Redeclared (omega arith) refl
            (has_tag tag w.tags c.tags k.tags e),
      ),
    ),
  );
}
defined_tells false token tag members s c w k g e = fits_by (nat_le s.cells most_cells) token tag members s c w k g
    (λ h. false≢true (sym e ∙ tag_here tag w.tags c.tags k.tags h)) refl

pub struct_tells : (token : ℕ) (tag : List ℕ) (members : List Members) (c : Context) (w : Walk) → Knows c (shown w)
    → Tells (walk_struct token tag members w) (StructTold c tag members w) (StructBreaks c token tag members)
struct_tells token tag members c w k =
    and_then (members_tell (tag_declared tag c) members empty_struct (with_tag tag w) (agreed (tagging_knows tag k))) (λ j at h. inl h)
    (λ s v p. subst (λ z. Tells (struct_defined token (is_here tag w.tags) s z) (StructTold c tag members w) (StructBreaks c token tag members)) (sym p.1)
    (defined_tells (is_here tag w.tags) token tag members s c w k p.0 refl))

-- The size of each struct is the sum of its members' sizes.
use Rattle.std.proofs.Common.{◌≡◌, ℕ, ◌+◌, ◌*◌, ◌<◌, ◌≤◌, min, nat_le, nat_lt, Bool, true, false, ◌&&◌, if◌then◌else◌, List, [], ◌∷◌, ◌++◌, length, sum_by, Option, Some, None, is_some, refl, sym, ap, ◌∙◌, subst, arith, length-append}
use Rattle.std.specs.List.{AllByRecursion}
use Rattle.std.proofs.Math.ListN.{get_or-append}
use Rattle.std.proofs.lemmas.Bool.{leb-true, lt-ltb, ltb-true}
use Rattle.std.proofs.lemmas.List.Sums.{sum_by-cons}
use Rattle.std.proofs.lemmas.Option.{slice_get-get_or}
use Rattle.base_lists.proofs.Tests.{and_first, and_second}
use Rattle.base_lists.proofs.Every.{all_more}
use Rattle.c_syntax.specs.declared.parts.Declarator.{Declarator}
use Rattle.c_syntax.specs.declared.parts.Members.{Members}
use Rattle.c_syntax.specs.ItemTree as i
use Rattle.c_syntax.specs.ItemTree.{ItemTree, SourceTree}
use Rattle.c_types_rules.specs.declared.fault.FaultKind.{FaultKind}
use Rattle.c_types_rules.specs.declared.fault.FaultKind.TheVariants as fault
use Rattle.c_types_rules.specs.declared.layout.Member.{Member}
use Rattle.c_types_rules.specs.declared.layout.StructType.{StructType}
use Rattle.c_types_rules.specs.TypeTree as t
use Rattle.c_types_rules.specs.Words.{TypeTree, member_named, cells_of, empty_struct, is_complete, is_object, most_cells, struct_cells, with_member}
use Rattle.c_types_expressions.specs.declared.walk.Walk.{Walk}
use Rattle.c_types_walk.specs.Declarators.{declared_type}
use Rattle.c_types_expressions.specs.Words.{base_type, empty_walk, is_here, Walked, Fine, Faulty, Done}
use Rattle.c_types.specs.Fault.{ends_with, last_fault, walk_tree}
use Rattle.c_types_walk.specs.ItemWalk.{typed_member, walk_declarators, walk_item, walk_items, walk_member, walk_members, walk_struct, with_tag}
use Rattle.c_types.specs.Laid.{AreLaid, IsKnown, IsSummed, member_cells}
use Rattle.c_types.specs.Parts.{Part, declaration_parts, item_parts}
use Rattle.c_types_walk.specs.StatementWalk.{walk_declaration}
use Rattle.c_types.proofs.Noted.{Gives, Seen, Step, gives_more, gives_then, seen, stage, structs_stay}
use Rattle.c_types.proofs.NotedExprs.{base_notes}
use Rattle.c_types.proofs.NotedItems.{Outer, declaration_outer, function_notes}

-- one more member

laid_more : (structs : List StructType) (first : ℕ) (ms : List Member) (end : ℕ) (m : Member) → AreLaid structs first ms end → m.offset ≡ end →
    AreLaid structs first (ms ++ m ∷ []) (end + cells_of structs m.ctype)
laid_more structs first [] end m h is = (is ∙ sym h, ap (λ n. n + cells_of structs m.ctype) h)
laid_more structs first (x ∷ ms) end m h is = (h.0, laid_more structs (first + cells_of structs x.ctype) ms end m h.1 is)

laid_sum : (structs : List StructType) (first : ℕ) (ms : List Member) (end : ℕ) → AreLaid structs first ms end → end ≡ first + sum_by (member_cells structs) ms
laid_sum structs first [] end h = omega (arith, h)
laid_sum structs first (m ∷ ms) end h =
    omega (arith, laid_sum structs (first + cells_of structs m.ctype) ms end h.1, sum_by-cons (member_cells structs) m ms)

-- a struct as it is built: where it isn't too large, its members lie one behind another
pub record IsBuilt (structs : List StructType) (s : StructType) : Type 0 where
  pub laid : s.cells ≤ most_cells → AreLaid structs 0 s.members s.cells
  pub known : AllByRecursion (IsKnown structs) s.members

built_more : (structs : List StructType) (name : List ℕ) (t : TypeTree) (s : StructType) → is_object structs t ≡ true → IsBuilt structs s →
    IsBuilt structs (with_member structs name t s)
built_more structs name t s is h = record {
  laid = λ within.
      let fits : s.cells + cells_of structs t ≤ 1048576 = omega (arith, within) in
      let same : min (s.cells + cells_of structs t) (1048576 + 1) ≡ s.cells + cells_of structs t = omega (arith, fits) in
      subst (λ end. AreLaid structs 0 (s.members ++ record { name = name; ctype = t; offset = s.cells } ∷ []) end) (sym same)
      (laid_more structs 0 s.members s.cells (record { name = name; ctype = t; offset = s.cells }) (h.laid (omega (arith, fits))) refl);
  known = all_more (IsKnown structs) s.members (record { name = name; ctype = t; offset = s.cells }) h.known (and_first (is_complete structs t) _ is);
}

-- a step through the members of a struct leaves the structs before it, and goes on building
abbrev Builds : StructType → Walk → StructType → Walk → Type 0
Builds s w r v = (v.structs ≡ w.structs) × (IsBuilt w.structs s → IsBuilt w.structs r)

built_after : (s r q : StructType) (w v u : Walk) → Builds s w r v → Builds r v q u → Builds s w q u
built_after s r q w v u h k =
    (k.0 ∙ h.0, λ b. subst (λ ss. IsBuilt ss q) h.0 (k.1 (subst (λ ss. IsBuilt ss r) (sym h.0) (h.1 b))))

object_builds : (b : Bool) (d : Declarator) (t : TypeTree) (s : StructType) (w : Walk) → is_object w.structs t ≡ b →
    Gives (Builds s w) (if b then Fine (with_member w.structs d.name t s) w else Faulty fault.Object d.token)
object_builds true d t s w is = (refl, built_more w.structs d.name t s is)
object_builds false d t s w is = tt

typed_builds : (d : Declarator) (t : Option TypeTree) (s : StructType) (w : Walk) → Gives (Builds s w) (typed_member d t s w)
typed_builds d None s w = tt
typed_builds d (Some t) s w = object_builds (is_object w.structs t) d t s w refl

new_builds : (b : Bool) (d : Declarator) (s : StructType) (w : Walk) (r : Walked StructType) → Gives (Builds s w) r →
    Gives (Builds s w) (if b then Faulty fault.Redeclared d.token else r)
new_builds true d s w r h = tt
new_builds false d s w r h = h

declarators_build : (b : TypeTree) (ds : List Declarator) (s : StructType) (w : Walk) → Gives (Builds s w) (walk_declarators b ds s w)
declarators_build b [] s w = (refl, λ h. h)
declarators_build b (d ∷ ds) s w =
    gives_then (Builds s w) (Builds s w) (walk_member b d s w) _
    (new_builds (is_some (member_named d.name s.members)) d s w (typed_member d (declared_type d b) s w) (typed_builds d (declared_type d b) s w))
    (λ r v h. gives_more (Builds r v) (Builds s w) (walk_declarators b ds r v) (λ q u k. built_after s r q w v u h k) (declarators_build b ds r v))

members_build : (ms : List Members) (s : StructType) (w : Walk) → Gives (Builds s w) (walk_members ms s w)
members_build [] s w = (refl, λ h. h)
members_build (m ∷ ms) s w =
    gives_then (λ b v. Step [] (stage w) (stage v)) (Builds s w) (base_type m.base w) _ (base_notes m.base w)
    (λ b v same. gives_then (Builds s v) (Builds s w) (walk_declarators b m.declarators s v) _ (declarators_build b m.declarators s v)
    (λ r u h. gives_more (Builds r u) (Builds s w) (walk_members ms r u)
    (λ q p k. built_after s s q w v p (ap (λ (x : Seen). x.structs) same.0, λ built. built) (built_after s r q v u p h k))
    (members_build ms r u)))

-- one more struct: those before it keep their sizes

cells_stay : (structs : List StructType) (s : StructType) (t : TypeTree) → is_complete structs t ≡ true → cells_of (structs ++ s ∷ []) t ≡ cells_of structs t
cells_stay structs s (t.Array element size) h = ap (λ n. size * n) (cells_stay structs s element (and_second (nat_lt 0 size) (is_complete structs element) h))
cells_stay structs s (t.Struct tag) h =
    let less : tag < length structs = ltb-true tag (length structs) h in
    ap struct_cells
    (slice_get-get_or (structs ++ s ∷ []) tag s (omega (arith, less, length-append structs (s ∷ [])))
    ∙ ap Some (get_or-append structs (s ∷ []) s tag less) ∙ sym (slice_get-get_or structs tag s less))
cells_stay structs s t h = refl

complete_stays : (structs : List StructType) (s : StructType) (t : TypeTree) → is_complete structs t ≡ true → is_complete (structs ++ s ∷ []) t ≡ true
complete_stays structs s t.Void h = h
complete_stays structs s (t.Array element size) h =
    ap (λ b. b && is_complete (structs ++ s ∷ []) element) (and_first (nat_lt 0 size) (is_complete structs element) h)
    ∙ complete_stays structs s element (and_second (nat_lt 0 size) (is_complete structs element) h)
complete_stays structs s (t.Struct tag) h =
    lt-ltb tag (length (structs ++ s ∷ [])) (omega (arith, ltb-true tag (length structs) h, length-append structs (s ∷ [])))
complete_stays structs s t h = refl

laid_stays : (structs : List StructType) (s : StructType) (first : ℕ) (ms : List Member) (end : ℕ) → AllByRecursion (IsKnown structs) ms → AreLaid structs first ms end →
    AreLaid (structs ++ s ∷ []) first ms end
laid_stays structs s first [] end known h = h
laid_stays structs s first (m ∷ ms) end known h = (
  h.0,
  subst (λ n. AreLaid (structs ++ s ∷ []) (first + n) ms end) (sym (cells_stay structs s m.ctype known.0))
      (laid_stays structs s (first + cells_of structs m.ctype) ms end known.1 h.1),
)

known_stay : (structs : List StructType) (s : StructType) (ms : List Member) → AllByRecursion (IsKnown structs) ms → AllByRecursion (IsKnown (structs ++ s ∷ [])) ms
known_stay structs s [] known = tt
known_stay structs s (m ∷ ms) known = (complete_stays structs s m.ctype known.0, known_stay structs s ms known.1)

-- members that lie one behind another, up to its size
summed : (structs : List StructType) (r : StructType) → AreLaid structs 0 r.members r.cells → AllByRecursion (IsKnown structs) r.members → IsSummed structs r
summed structs r laid known = record { sum = omega (arith, laid_sum structs 0 r.members r.cells laid); laid = laid; known = known }

summed_stays : (structs : List StructType) (s r : StructType) → IsSummed structs r → IsSummed (structs ++ s ∷ []) r
summed_stays structs s r h =
    summed (structs ++ s ∷ []) r (laid_stays structs s 0 r.members r.cells h.known h.laid) (known_stay structs s r.members h.known)

all_stay : (structs : List StructType) (s : StructType) (rs : List StructType) → AllByRecursion (IsSummed structs) rs → AllByRecursion (IsSummed (structs ++ s ∷ [])) rs
all_stay structs s [] h = tt
all_stay structs s (r ∷ rs) h = (summed_stays structs s r h.0, all_stay structs s rs h.1)

abbrev AllSummed : List StructType → Type 0
AllSummed structs = AllByRecursion (IsSummed structs) structs

one_more : (structs : List StructType) (s : StructType) → AllSummed structs → IsBuilt structs s → s.cells ≤ most_cells → AllSummed (structs ++ s ∷ [])
one_more structs s h built within =
    all_more (IsSummed (structs ++ s ∷ [])) structs s (all_stay structs s structs h)
    (summed_stays structs s s (summed structs s (built.laid within) built.known))

-- the walk

abbrev KeepsSums : Walk → Walk → Type 0
KeepsSums w v = AllSummed w.structs → AllSummed v.structs

defined_keeps : (b c : Bool) (token : ℕ) (s : StructType) (w v : Walk) → c ≡ nat_le s.cells most_cells → v.structs ≡ w.structs → IsBuilt w.structs s →
    Gives {A = Done} (λ _ u. KeepsSums w u)
    (if b then Faulty fault.Redeclared token else if c then Fine tt (record v { structs = v.structs ++ s ∷ [] }) else Faulty fault.Object token)
defined_keeps true c token s w v is same built = tt
defined_keeps false false token s w v is same built = tt
defined_keeps false true token s w v is same built =
    λ h. subst (λ ss. AllSummed (ss ++ s ∷ [])) (sym same) (one_more w.structs s h built (leb-true s.cells most_cells (sym is)))

empty_built : (structs : List StructType) → IsBuilt structs empty_struct
empty_built structs = record { laid = λ _. refl; known = tt }

struct_keeps : (token : ℕ) (tag : List ℕ) (members : List Members) (w : Walk) → Gives (λ _ v. KeepsSums w v) (walk_struct token tag members w)
struct_keeps token tag members w =
    gives_then (Builds empty_struct (with_tag tag w)) (λ _ v. KeepsSums w v) (walk_members members empty_struct (with_tag tag w)) _
    (members_build members empty_struct (with_tag tag w))
    (λ s v h. defined_keeps (is_here tag w.tags) (nat_le s.cells most_cells) token s w v refl h.0 (h.1 (empty_built w.structs)))

noted_keeps : (ps : List Part) (w : Walk) (r : Walked Done) → Gives (λ _ v. Outer ps (stage w) (stage v)) r → Gives (λ _ v. KeepsSums w v) r
noted_keeps ps w r h =
    gives_more (λ _ v. Outer ps (stage w) (stage v)) (λ _ v. KeepsSums w v) r
    (λ _ v is sums. subst AllSummed (sym (ap (λ (x : Seen). x.structs) is.0 ∙ structs_stay ps (seen w))) sums) h

item_keeps : (x : ItemTree) (w : Walk) → Gives (λ _ v. KeepsSums w v) (walk_item x w)
item_keeps (i.Struct token tag members) w = struct_keeps token tag members w
item_keeps (i.Function token b stars name ps body) w =
    noted_keeps (item_parts (i.Function token b stars name ps body)) w (walk_item (i.Function token b stars name ps body) w) (function_notes token b stars name ps body w)
item_keeps (i.Declaration declaration) w =
    noted_keeps (declaration_parts true declaration) w (walk_declaration true declaration w) (declaration_outer declaration w)

items_keep : (xs : List ItemTree) (w : Walk) → Gives (λ _ v. KeepsSums w v) (walk_items xs w)
items_keep [] w = λ h. h
items_keep (x ∷ xs) w =
    gives_then (λ _ v. KeepsSums w v) (λ _ v. KeepsSums w v) (walk_item x w) _ (item_keeps x w)
    (λ _ v first. gives_more (λ _ u. KeepsSums v u) (λ _ u. KeepsSums w u) (walk_items xs v) (λ _ u rest h. rest (first h)) (items_keep xs v))

ends_sums : (f : Option (FaultKind × ℕ)) (w : Walk) → AllSummed w.structs → Gives (λ _ v. AllSummed v.structs) (ends_with f w)
ends_sums None w h = h
ends_sums (Some f) w h = tt

-- Each struct of a text without a fault has the sum of its members' sizes.
pub structs_summed : (t : SourceTree) (w : Walk) → walk_tree t ≡ Fine tt w → AllByRecursion (IsSummed w.structs) w.structs
structs_summed t w is =
    subst (Gives (λ _ v. AllSummed v.structs)) is
    (gives_then (λ _ v. KeepsSums (empty_walk (length t.lines)) v) (λ _ v. AllSummed v.structs) (walk_items t.items (empty_walk (length t.lines))) _
    (items_keep t.items (empty_walk (length t.lines))) (λ _ v h. ends_sums (last_fault (length t.lines) v) v (h tt)))

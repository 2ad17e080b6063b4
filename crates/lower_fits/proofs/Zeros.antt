-- Zeros: a type has as many zero cells as it has cells.
use Rattle.std.proofs.Common.{◌≡◌, ℕ, zero, suc, ◌+◌, ◌≤◌, refl, ap, subst, sym, ◌∙◌, arith, Bool, true, false, List, [], ◌∷◌, ◌++◌, Option, Some, None}
use Rattle.std.proofs.Common.{length, length-append}
use Rattle.std.specs.Prelude.{is_some, map, min, nat_le, replicate, slice_get, sum_by, ◌*◌, if◌then◌else◌}
use Rattle.std.specs.List.{flat_map}
use Rattle.std.specs.Option.{unwrap_or}
use Rattle.std.proofs.lemmas.Bool.{leb-true}
use Rattle.std.proofs.lemmas.List.{map-append}
use Rattle.std.proofs.lemmas.List.Sums.{sum_by-append, sum_by-cons}
use Rattle.cbi_base.specs.declared.scalar.Scalar.{Scalar}
use Rattle.c_syntax.specs.declared.parts.Declarator.{Declarator}
use Rattle.c_syntax.specs.declared.parts.Members.{Members}
use Rattle.c_syntax.specs.ItemTree as item
use Rattle.c_syntax.specs.ItemTree.{ItemTree, SourceTree}
use Rattle.c_types_rules.specs.declared.fault.FaultKind.TheVariants as fault
use Rattle.c_types_rules.specs.declared.layout.Member.{Member}
use Rattle.c_types_rules.specs.declared.layout.StructType.{StructType}
use Rattle.c_types_rules.specs.TypeTree as t
use Rattle.c_types_rules.specs.Words.{TypeTree, member_named, cells_of, empty_struct, is_object, most_cells, with_member}
use Rattle.c_types_rules.specs.Sizes as size
use Rattle.c_types_expressions.specs.declared.walk.Walk.{Walk}
use Rattle.c_types_walk.specs.Declarators.{declared_type}
use Rattle.c_types_expressions.specs.Words.{base_type, empty_walk, is_here, Walked, Done, Fine, Faulty}
use Rattle.c_types.specs.Fault.{walk_tree}
use Rattle.c_types_walk.specs.ItemWalk.{typed_member, walk_declarators, walk_item, walk_items, walk_member, walk_members, walk_struct, with_tag}
use Rattle.c_types.specs.Laid.{member_cells}
use Rattle.c_types.specs.Parts.{Part, declaration_parts, item_parts}
use Rattle.c_types_walk.specs.StatementWalk.{walk_declaration}
use Rattle.c_types_expressions.proofs.Kept.{base_keeps}
use Rattle.c_types.proofs.Noted.{Gives, Seen, gives_more, gives_then, seen, stage, structs_stay}
use Rattle.c_types.proofs.NotedItems.{Outer, declaration_outer, function_notes}
use Rattle.c_meaning.specs.Globals.{cells_of_structs, zero_cells, zeros_of}
use Rattle.c_meaning_sound.proofs.Ending.{tree_is}
use Rattle.c_meaning_sound.proofs.Reaching.{taken}
use Rattle.lower_fits.proofs.Leaving.{Leaves, leaves_kept}

-- how many cells a struct has
abbrev cells_in : StructType → ℕ
cells_in s = s.cells

-- each struct has as many zero cells as cells
abbrev AreLong : List (List Scalar) → List StructType → Type 0
AreLong zeros structs = map length zeros ≡ map cells_in structs

-- the first of two lists
first_same : (x y : ℕ) (xs ys : List ℕ) → x ∷ xs ≡ y ∷ ys → (x ≡ y) × (xs ≡ ys)
first_same x y xs ys h = (cc, cc)

-- so has the struct with this number, if there is one
slot_long : (zeros : List (List Scalar)) (structs : List StructType) (tag : ℕ) → AreLong zeros structs
    → length (unwrap_or (slice_get zeros tag) []) ≡ size.struct_cells (slice_get structs tag)
slot_long [] [] tag h = refl
slot_long [] (s ∷ structs) tag h = absurd (cc)
slot_long (z ∷ zeros) [] tag h = absurd (cc)
slot_long (z ∷ zeros) (s ∷ structs) zero h = (first_same (length z) s.cells (map length zeros) (map cells_in structs) h).0
slot_long (z ∷ zeros) (s ∷ structs) (suc tag) h =
    slot_long zeros structs tag (first_same (length z) s.cells (map length zeros) (map cells_in structs) h).1

-- cells that are repeated
repeated_long : (n : ℕ) (cells : List Scalar) → length (flat_map (λ c. c) (replicate n cells)) ≡ n * length cells
repeated_long zero cells = omega arith
repeated_long (suc n) cells =
    let product : suc n * length cells ≡ length cells + n * length cells = omega arith in
    omega (arith, product, repeated_long n cells, length-append cells (flat_map (λ c. c) (replicate n cells)))

module _ (zeros : List (List Scalar)) (structs : List StructType) (long : AreLong zeros structs) where
  -- so has each type of these structs
  type_long : (of : TypeTree) → length (zero_cells zeros of) ≡ cells_of structs of
  type_long (t.Array element n) = repeated_long n (zero_cells zeros element) ∙ ap (λ m. n * m) (type_long element)
  type_long (t.Struct tag) = slot_long zeros structs tag long
  type_long of = refl

  -- so have all members of a struct
  members_long : (ms : List Member) → length (flat_map (λ m. zero_cells zeros m.ctype) ms) ≡ sum_by (member_cells structs) ms
  members_long [] = refl
  members_long (m ∷ ms) = omega (
    arith,
    type_long m.ctype,
    members_long ms,
    length-append (zero_cells zeros m.ctype) (flat_map (λ m. zero_cells zeros m.ctype) ms),
    sum_by-cons (member_cells structs) m ms,
  )

-- the zeros of one struct more
one_more : (structs : List StructType) (s : StructType) (before : List (List Scalar))
    → cells_of_structs (structs ++ s ∷ []) before ≡ cells_of_structs structs before ++ flat_map (λ m. zero_cells (cells_of_structs structs before) m.ctype) s.members ∷ []
one_more [] s before = refl
one_more (x ∷ structs) s before = one_more structs s (before ++ flat_map (λ m. zero_cells before m.ctype) x.members ∷ [])

-- structs with as many zeros as cells
abbrev Zeroed : List StructType → Type 0
Zeroed structs = AreLong (cells_of_structs structs []) structs

-- a struct that isn't too large has the sum of its members' cells, where these structs are known
abbrev Summed : List StructType → StructType → Type 0
Summed structs s = s.cells ≤ 1048576 → s.cells ≡ sum_by (member_cells structs) s.members

-- so have those before it, and it too
zeroed_more : (structs : List StructType) (s : StructType) → s.cells ≤ 1048576 → Summed structs s → Zeroed structs → Zeroed (structs ++ s ∷ [])
zeroed_more structs s few sum h =
    let last : List Scalar = flat_map (λ m. zero_cells (cells_of_structs structs []) m.ctype) s.members in
    let same : length last ≡ s.cells = members_long (cells_of_structs structs []) structs h s.members ∙ sym (sum few) in
    ap (map length) (one_more structs s []) ∙ map-append length (cells_of_structs structs []) (last ∷ [])
    ∙ ap (λ ns. ns ++ length last ∷ []) h ∙ ap (λ n. map cells_in structs ++ n ∷ []) same ∙ sym (map-append cells_in structs (s ∷ []))

-- a member more
member_summed : (structs : List StructType) (name : List ℕ) (of : TypeTree) (s : StructType) → Summed structs s → Summed structs (with_member structs name of s)
member_summed structs name of s h = λ few.
    let m : Member = record { name = name; ctype = of; offset = s.cells } in
    let capped : min (s.cells + cells_of structs of) 1048577 ≡ s.cells + cells_of structs of = omega (arith, few) in
    let own : s.cells ≡ sum_by (member_cells structs) s.members = h (omega (arith, few, capped)) in
    let sum : sum_by (member_cells structs) (s.members ++ m ∷ []) ≡ sum_by (member_cells structs) s.members + sum_by (member_cells structs) (m ∷ []) =
    sum_by-append (member_cells structs) s.members (m ∷ []) in
    let alone : sum_by (member_cells structs) (m ∷ []) ≡ cells_of structs of + 0 = sum_by-cons (member_cells structs) m [] in
    omega (arith, capped, own, sum, alone)

-- a step through the members of a struct leaves the structs before it, and goes on adding
abbrev Adds : StructType → Walk → StructType → Walk → Type 0
Adds s w r v = (v.structs ≡ w.structs) × (Summed w.structs s → Summed w.structs r)

-- one step after another
added_after : (s r q : StructType) (w v u : Walk) → Adds s w r v → Adds r v q u → Adds s w q u
added_after s r q w v u h k =
    (k.0 ∙ h.0, λ b. subst (λ ss. Summed ss q) h.0 (k.1 (subst (λ ss. Summed ss r) (sym h.0) (h.1 b))))

-- a member whose type was looked at
object_adds : (b : Bool) (d : Declarator) (of : TypeTree) (s : StructType) (w : Walk)
    → Gives (Adds s w) (if b then Fine (with_member w.structs d.name of s) w else Faulty fault.Object d.token)
object_adds true d of s w = (refl, member_summed w.structs d.name of s)
object_adds false d of s w = tt

-- a member whose type is known
typed_adds : (d : Declarator) (o : Option TypeTree) (s : StructType) (w : Walk) → Gives (Adds s w) (typed_member d o s w)
typed_adds d None s w = tt
typed_adds d (Some of) s w = object_adds (is_object w.structs of) d of s w

-- a member that may be refused first
unless_adds : (b : Bool) (token : ℕ) (s : StructType) (w : Walk) (r : Walked StructType) → Gives (Adds s w) r
    → Gives (Adds s w) (if b then Faulty fault.Redeclared token else r)
unless_adds true token s w r h = tt
unless_adds false token s w r h = h

-- members of one base
declarators_add : (b : TypeTree) (ds : List Declarator) (s : StructType) (w : Walk) → Gives (Adds s w) (walk_declarators b ds s w)
declarators_add b [] s w = (refl, λ h. h)
declarators_add b (d ∷ ds) s w =
    gives_then (Adds s w) (Adds s w) (walk_member b d s w) _
    (unless_adds (is_some (member_named d.name s.members)) d.token s w (typed_member d (declared_type d b) s w) (typed_adds d (declared_type d b) s w))
    (λ r v h. gives_more (Adds r v) (Adds s w) (walk_declarators b ds r v) (λ q u k. added_after s r q w v u h k) (declarators_add b ds r v))

-- all members of a struct
members_add : (ms : List Members) (s : StructType) (w : Walk) → Gives (Adds s w) (walk_members ms s w)
members_add [] s w = (refl, λ h. h)
members_add (m ∷ ms) s w =
    gives_then _ (Adds s w) (base_type m.base w) _ (base_keeps Leaves leaves_kept.here m.base w)
    (λ b v same. gives_then (Adds s v) (Adds s w) (walk_declarators b m.declarators s v) _ (declarators_add b m.declarators s v)
    (λ r u h. gives_more (Adds r u) (Adds s w) (walk_members ms r u)
    (λ q p k. added_after s s q w v p (same.structs, λ sum. sum) (added_after s r q v u p h k)) (members_add ms r u)))

-- what leaves structs with as many zeros as cells
abbrev StaysZeroed : Walk → Walk → Type 0
StaysZeroed w v = Zeroed w.structs → Zeroed v.structs

-- a struct whose members are known
defined_stays : (b c : Bool) (token : ℕ) (s : StructType) (w v : Walk) → nat_le s.cells most_cells ≡ c → v.structs ≡ w.structs → Summed w.structs s
    → Gives {A = Done} (λ _ u. StaysZeroed w u)
    (if b then Faulty fault.Redeclared token else if c then Fine tt (record v { structs = v.structs ++ s ∷ [] }) else Faulty fault.Object token)
defined_stays true c token s w v e same sum = tt
defined_stays false false token s w v e same sum = tt
defined_stays false true token s w v e same sum =
    λ h. subst (λ ss. Zeroed (ss ++ s ∷ [])) (sym same) (zeroed_more w.structs s (leb-true s.cells 1048576 e) sum h)

-- a struct
struct_stays : (token : ℕ) (tag : List ℕ) (members : List Members) (w : Walk) → Gives (λ _ v. StaysZeroed w v) (walk_struct token tag members w)
struct_stays token tag members w =
    gives_then (Adds empty_struct (with_tag tag w)) (λ _ v. StaysZeroed w v) (walk_members members empty_struct (with_tag tag w)) _
    (members_add members empty_struct (with_tag tag w))
    (λ s v h. defined_stays (is_here tag w.tags) (nat_le s.cells most_cells) token s w v refl h.0 (h.1 (λ few. refl)))

-- what defines no struct
noted_stays : (ps : List Part) (w : Walk) (r : Walked Done) → Gives (λ _ v. Outer ps (stage w) (stage v)) r → Gives (λ _ v. StaysZeroed w v) r
noted_stays ps w r h =
    gives_more (λ _ v. Outer ps (stage w) (stage v)) (λ _ v. StaysZeroed w v) r
    (λ _ v is long. subst Zeroed (sym (ap (λ (x : Seen). x.structs) is.0 ∙ structs_stay ps (seen w))) long) h

-- an item
item_stays : (x : ItemTree) (w : Walk) → Gives (λ _ v. StaysZeroed w v) (walk_item x w)
item_stays (item.Struct token tag members) w = struct_stays token tag members w
item_stays (item.Function token b stars name ps body) w =
    noted_stays (item_parts (item.Function token b stars name ps body)) w (walk_item (item.Function token b stars name ps body) w)
    (function_notes token b stars name ps body w)
item_stays (item.Declaration d) w = noted_stays (declaration_parts true d) w (walk_declaration true d w) (declaration_outer d w)

-- all items
items_stay : (xs : List ItemTree) (w : Walk) → Gives (λ _ v. StaysZeroed w v) (walk_items xs w)
items_stay [] w = λ h. h
items_stay (x ∷ xs) w =
    gives_then (λ _ v. StaysZeroed w v) (λ _ v. StaysZeroed w v) (walk_item x w) _ (item_stays x w)
    (λ _ v first. gives_more (λ _ u. StaysZeroed v u) (λ _ u. StaysZeroed w u) (walk_items xs v) (λ _ u rest h. rest (first h)) (items_stay xs v))

-- each type of a text without a fault has as many zeros as cells
pub zeros_long : (tree : SourceTree) (z : Walk) → walk_tree tree ≡ Fine tt z → (of : TypeTree) → length (zeros_of z.structs of) ≡ cells_of z.structs of
zeros_long tree z walked of =
    let w : Walk = empty_walk (length tree.lines) in
    type_long (cells_of_structs z.structs []) z.structs
    (taken (λ _ v. StaysZeroed w v) (walk_items tree.items w) tt z (items_stay tree.items w) (tree_is tree z walked).items refl) of

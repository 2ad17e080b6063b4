-- What is known at the end of a text without a fault: sizes of structs, their members, results of functions, and that called functions are defined.
use Rattle.std.proofs.Common.{◌≡◌, ℕ, zero, suc, ◌≤◌, ◌<◌, refl, ap, subst, sym, ◌∙◌, arith, List, [], ◌∷◌, ◌++◌, Some, None, ◌+◌, Bool, true, false, length}
use Rattle.std.specs.Prelude.{Option, min, nat_le, nat_lt, slice_get, is_some, ◌*◌, sum_by, if◌then◌else◌}
use Rattle.std.specs.List.{AllByRecursion}
use Rattle.std.proofs.lemmas.Bool.{false≢true, and_parts}
use Rattle.std.proofs.lemmas.List.Sums.{sum_by-cons}
use Rattle.std.specs.Str.{bytes_eq}
use Rattle.std.proofs.lemmas.Option.{same_Some}
use Rattle.base_lists.proofs.Numbers.{is_less, is_most, product_some}
use Rattle.base_lists.proofs.Every.{all_at, all_more}
use Rattle.c_syntax.specs.declared.parts.Declarator.{Declarator}
use Rattle.c_syntax.specs.declared.parts.Members.{Members}
use Rattle.c_syntax.specs.Words.{EntryList, ItemTree, SourceTree, EachAt, ItemAt, HasOne, ShapedItem, ShapedMembers, item_kinds, params_kinds, type_kinds}
use Rattle.c_syntax.specs.Words.{IsShaped}
use Rattle.c_types_walk.specs.StatementWalk.{walk_declaration}
use Rattle.c_syntax.specs.ItemTree as item
use Rattle.c_types_rules.specs.declared.fault.FaultKind.{FaultKind}
use Rattle.c_types_rules.specs.declared.fault.FaultKind.TheVariants as fault
use Rattle.c_types_rules.specs.declared.function.FunctionType.{FunctionType}
use Rattle.c_types_rules.specs.declared.layout.Member.{Member}
use Rattle.c_types_rules.specs.declared.layout.StructType.{StructType}
use Rattle.c_types_rules.specs.TypeTree as t
use Rattle.c_types_rules.specs.Words.{TypeTree, is_struct, member_named, cells_of, empty_struct, is_complete, is_object, most_cells, struct_cells, with_member}
use Rattle.c_types_expressions.specs.declared.walk.FunctionEntry.{FunctionEntry}
use Rattle.c_types_expressions.specs.declared.walk.Parameter.{Parameter}
use Rattle.c_types_expressions.specs.declared.walk.Walk.{Walk}
use Rattle.c_types.specs.Answers.{note_at}
use Rattle.c_types_walk.specs.Declarators.{declared_type}
use Rattle.c_types_expressions.specs.Words.{base_type, with_stars, empty_walk, declared_meaning, is_here, Walked, Fine, Faulty, Done, ◌>>=◌}
use Rattle.c_types.specs.Fault.{ends_with, first_undefined, has_main, lacks_definition, last_fault, undefined_at, walk_tree}
use Rattle.c_types_walk.specs.ItemWalk.{is_clashing_name, known_as, typed_member, walk_declarators, walk_function, walk_item, walk_items, walk_member, walk_members}
use Rattle.c_types_walk.specs.ItemWalk.{walk_struct, with_function, with_tag}
use Rattle.c_types.specs.Laid.{IsKnown, IsSummed, member_cells}
use Rattle.c_types.proofs.Noted as record_of
use Rattle.c_types.proofs.Noted.{Step, stage}
use Rattle.c_types.proofs.FunctionLaws.{functions_numbered}
use Rattle.c_types.proofs.NotedStatements.{declaration_notes}
use Rattle.c_types.proofs.Summed.{structs_summed}
use Rattle.c_types.proofs.NotedItems.{parts_from}
use Rattle.c_types.specs.Parts.{Part, Begins, declaration_parts, entries_parts}
use Rattle.c_meaning.specs.Operation.{is_step_size}
use Rattle.c_meaning_sound.proofs.Forming.{Ended}
use Rattle.c_meaning_sound.proofs.Noting.{Deep, Small}
use Rattle.c_meaning_sound.proofs.Reaching.{Flat, Grown, Named, base_gives, begun_here, body_defines, comes, declares_is, declaration_grown, defines_grown}
use Rattle.c_meaning_sound.proofs.Reaching.{defines_step, fine_known, function_grown, function_is, functions_same, grown_here, grown_then, stars_flat, structs_same}
use Rattle.c_meaning_sound.proofs.Reaching.{taken}
use Rattle.c_meaning_sound.proofs.Sizing.{core, declared_core, whole_by, step_by}

flat_core : (of : TypeTree) → Flat of → core of ≡ of
flat_core (t.Array element size) h = absurd h
flat_core of h = refl

pub declared_flat : (d : Declarator) (b of : TypeTree) → Flat (with_stars d.stars b) → declared_type d b ≡ Some of → Flat (core of)
declared_flat d b of h k = subst Flat (sym (declared_core d b of k ∙ flat_core (with_stars d.stars b) h)) h

abbrev FlatMember : Member → Type 0
FlatMember m = Flat (core m.ctype)

-- a struct that was defined
pub record Sound (s : StructType) : Type 0 where
  pub some : 1 ≤ s.cells
  pub most : s.cells ≤ 1048576
  pub flat : AllByRecursion FlatMember s.members

abbrev AllSound : List StructType → Type 0
AllSound structs = AllByRecursion Sound structs

sound_cells : (structs : List StructType) (tag : ℕ) → AllSound structs → tag < length structs → 1 ≤ struct_cells (slice_get structs tag)
sound_cells [] tag h l = absurd (omega (arith, l))
sound_cells (s ∷ structs) zero h l = h.0.some
sound_cells (s ∷ structs) (suc tag) h l = sound_cells structs tag h.1 (omega (arith, l))

cells_some : (structs : List StructType) → AllSound structs → (of : TypeTree) → is_complete structs of ≡ true → 1 ≤ cells_of structs of
cells_some structs s t.Void h = absurd (false≢true h)
cells_some structs s (t.Array element size) h =
    let parts : (nat_lt 0 size ≡ true) × (is_complete structs element ≡ true) = and_parts (nat_lt 0 size) (is_complete structs element) h in
    product_some size (cells_of structs element) (is_less 0 size parts.0) (cells_some structs s element parts.1)
cells_some structs s (t.Struct tag) h = sound_cells structs tag s (is_less tag (length structs) h)
cells_some structs s of h = omega arith

-- a struct as it is built from some members
record Built (w : Walk) (s : StructType) (v : Walk) : Type 0 where
  same : v ≡ w
  some : 1 ≤ s.cells
  flat : AllByRecursion FlatMember s.members

capped_some : (m n : ℕ) → 1 ≤ n → 1 ≤ min (m + n) 1048577
capped_some m n h = omega (arith, h)

module _ (w : Walk) (sound : AllSound w.structs) where
  object_built : (b : TypeTree) (d : Declarator) (s : StructType) (of : TypeTree) (c : Bool) → Flat (with_stars d.stars b) → declared_type d b ≡ Some of
      → AllByRecursion FlatMember s.members → is_object w.structs of ≡ c
      → record_of.Gives (Built w) (if c then Fine (with_member w.structs d.name of s) w else Faulty fault.Object d.token)
  object_built b d s of true f e h k = record {
    same = refl;
    some = capped_some s.cells (cells_of w.structs of)
        (cells_some w.structs sound of (and_parts (is_complete w.structs of) (nat_le (cells_of w.structs of) most_cells) k).0);
    flat = all_more FlatMember s.members _ h (declared_flat d b of f e);
  }
  object_built b d s of false f e h k = tt

  typed_built : (b : TypeTree) (d : Declarator) (s : StructType) (o : Option TypeTree) → Flat (with_stars d.stars b) → declared_type d b ≡ o
      → AllByRecursion FlatMember s.members → record_of.Gives (Built w) (typed_member d o s w)
  typed_built b d s None f e h = tt
  typed_built b d s (Some of) f e h = object_built b d s of (is_object w.structs of) f e h refl

  unless_built : (b : Bool) (kind : FaultKind) (token : ℕ) (r : Walked StructType) → record_of.Gives (Built w) r
      → record_of.Gives (Built w) (if b then Faulty kind token else r)
  unless_built true kind token r h = tt
  unless_built false kind token r h = h

  member_built : (b : TypeTree) (d : Declarator) (s : StructType) → ((n : ℕ) → Flat (with_stars n b)) → AllByRecursion FlatMember s.members
      → record_of.Gives (Built w) (walk_member b d s w)
  member_built b d s f h = unless_built (is_some (member_named d.name s.members)) fault.Redeclared d.token (typed_member d (declared_type d b) s w)
      (typed_built b d s (declared_type d b) (f d.stars) refl h)

  mutual
    more_built : (b : TypeTree) (ds : List Declarator) (s : StructType) → ((n : ℕ) → Flat (with_stars n b)) → 1 ≤ s.cells → AllByRecursion FlatMember s.members
        → record_of.Gives (Built w) (walk_declarators b ds s w)
    more_built b [] s f some h = record { same = refl; some = some; flat = h }
    more_built b (d ∷ ds) s f some h = record_of.gives_then (Built w) (Built w) (walk_member b d s w) _ (member_built b d s f h)
        (λ r v k. subst (λ u. record_of.Gives (Built w) (walk_declarators b ds r u)) (sym k.same) (more_built b ds r f k.some k.flat))

  declarators_built : (b : TypeTree) (ds : List Declarator) (s : StructType) → HasOne ds → ((n : ℕ) → Flat (with_stars n b))
      → AllByRecursion FlatMember s.members
      → record_of.Gives (Built w) (walk_declarators b ds s w)
  declarators_built b [] s o f h = absurd o
  declarators_built b (d ∷ ds) s o f h = record_of.gives_then (Built w) (Built w) (walk_member b d s w) _ (member_built b d s f h)
      (λ r v k. subst (λ u. record_of.Gives (Built w) (walk_declarators b ds r u)) (sym k.same) (more_built b ds r f k.some k.flat))

  step_built : (m : Members) (s : StructType) (next : StructType → Walk → Walked StructType) → HasOne m.declarators → AllByRecursion FlatMember s.members
      → ((r : StructType) → 1 ≤ r.cells → AllByRecursion FlatMember r.members → record_of.Gives (Built w) (next r w))
      → record_of.Gives (Built w) (base_type m.base w >>= λ b v. walk_declarators b m.declarators s v >>= next)
  step_built m s next o h k = record_of.gives_then (Named w) (Built w) (base_type m.base w) _ (base_gives m.base w)
      (λ b v n. subst (λ u. record_of.Gives (Built w) (walk_declarators b m.declarators s u >>= next)) (sym n.0)
      (record_of.gives_then (Built w) (Built w) (walk_declarators b m.declarators s w) next (declarators_built b m.declarators s o (λ i. stars_flat i b n.1) h)
      (λ r u q. subst (λ x. record_of.Gives (Built w) (next r x)) (sym q.same) (k r q.some q.flat))))

  members_more : (ms : List Members) (s : StructType) → AllByRecursion ShapedMembers ms → 1 ≤ s.cells → AllByRecursion FlatMember s.members
      → record_of.Gives (Built w) (walk_members ms s w)
  members_more [] s o some h = record { same = refl; some = some; flat = h }
  members_more (m ∷ ms) s o some h = step_built m s (λ r u. walk_members ms r u) o.0 h (λ r k q. members_more ms r o.1 k q)

  members_built : (ms : List Members) (s : StructType) → HasOne ms → AllByRecursion ShapedMembers ms → AllByRecursion FlatMember s.members
      → record_of.Gives (Built w) (walk_members ms s w)
  members_built [] s one o h = absurd one
  members_built (m ∷ ms) s one o h = step_built m s (λ r u. walk_members ms r u) o.0 h (λ r k q. members_more ms r o.1 k q)

-- a struct, step by step
pub record Structs (tag : List ℕ) (w v : Walk) : Type 0 where
  pub own : StructType
  pub sound : Sound own
  pub new : is_here tag w.tags ≡ false
  pub is : v ≡ record (with_tag tag w) { structs = w.structs ++ own ∷ [] }

defined_by : (b c : Bool) (token : ℕ) (s : StructType) (u v : Walk) (a : Done) → (if b then Faulty fault.Redeclared token
    else if c then Fine tt (record u { structs = u.structs ++ s ∷ [] }) else Faulty fault.Object token) ≡ Fine a v
    → (b ≡ false) × (c ≡ true) × (v ≡ record u { structs = u.structs ++ s ∷ [] })
defined_by true c token s u v a h = absurd (cc)
defined_by false false token s u v a h = absurd (cc)
defined_by false true token s u v a h = (refl, refl, sym (fine_known tt a (record u { structs = u.structs ++ s ∷ [] }) v h))

pub struct_is : (token : ℕ) (tag : List ℕ) (members : List Members) (w v : Walk) (a : Done) → HasOne members → AllByRecursion ShapedMembers members
    → AllSound w.structs → walk_struct token tag members w ≡ Fine a v → Structs tag w v
struct_is token tag members w v a one o s h =
    let first = comes (walk_members members empty_struct (with_tag tag w)) _ a v h in
    let k : Built (with_tag tag w) first.value first.known = taken (Built (with_tag tag w))
    (walk_members members empty_struct (with_tag tag w)) first.value first.known
    (members_built (with_tag tag w) s members empty_struct one o tt) first.first in
    let d = defined_by (is_here tag w.tags) (nat_le first.value.cells most_cells) token first.value first.known v a first.rest in
    record {
      own = first.value;
      sound = record { some = k.some; most = is_most first.value.cells 1048576 d.1; flat = k.flat };
      new = d.0;
      is = d.2 ∙ ap (λ (u : Walk). record u { structs = u.structs ++ first.value ∷ [] }) k.same;
    }

-- the functions that were declared give no struct
pub record Plainly (g : FunctionEntry) : Type 0 where
  pub flat : Flat g.ctype.gives
  pub plain : is_struct g.ctype.gives ≡ false

pub record Sums (w : Walk) : Type 0 where
  pub structs : AllSound w.structs
  pub functions : AllByRecursion Plainly w.functions

function_sums : (name : List ℕ) (f : FunctionType) (known : Option ℕ) (w : Walk) → Flat f.gives → is_struct f.gives ≡ false → Sums w
    → Sums (with_function name f known w)
function_sums name f (Some index) w h k s = s
function_sums name f None w h k s = record { structs = s.structs; functions = all_more Plainly w.functions _ s.functions (record { flat = h; plain = k }) }

typed_sums : (token : ℕ) (f : FunctionType) (name : List ℕ) (ps : List Parameter) (body : Option EntryList) (known : Option ℕ) (w v : Walk) (a : Done)
    → Flat f.gives → walk_function token f name ps body known w ≡ Fine a v → Sums w → Sums v
typed_sums token f name ps None known w v a h k s =
    let d = declares_is token (is_clashing_name name known w) f.gives (with_function name f known w) v a k in
    subst Sums (sym d.same) (function_sums name f known w h d.plain s)
typed_sums token f name ps (Some body) known w v a h k s =
    let d = body_defines token f name ps body known w v a k in
    let u : Walk = with_function name f known w in
    let parts : List Part = Begins ∷ parts_from ps ++ entries_parts body in
    let step = defines_step token f name ps body known w v d in
    let before : Sums u = function_sums name f known w h d.plain s in
    subst Sums (sym d.is) (record {
      structs = subst AllSound (sym (structs_same parts u d.last step)) before.structs;
      functions = subst (AllByRecursion Plainly) (sym (functions_same parts u d.last step)) before.functions;
    })

pub typed_grown : (token : ℕ) (f : FunctionType) (name : List ℕ) (ps : List Parameter) (body : Option EntryList) (known : Option ℕ) (w v : Walk)
    (a : Done) → walk_function token f name ps body known w ≡ Fine a v → Grown w v
typed_grown token f name ps None known w v a k =
    let d = declares_is token (is_clashing_name name known w) f.gives (with_function name f known w) v a k in
    subst (Grown w) (sym d.same) (function_grown name f known w)
typed_grown token f name ps (Some body) known w v a k = defines_grown token f name ps body known w v (body_defines token f name ps body known w v a k)

-- what an item leaves, and what it adds
pub record Follows (w v : Walk) : Type 0 where
  pub grown : Grown w v
  pub sums : Sums v

pub item_follows : (x : ItemTree) (at : ℕ) (w v : Walk) (a : Done) → ShapedItem x → ItemAt at x → Sums w → walk_item x w ≡ Fine a v → Follows w v
item_follows (item.Struct token tag members) at w v a o p s h =
    let k = struct_is token tag members w v a o.0 o.1 s.structs h in
    subst (Follows w) (sym k.is) (record {
      grown = record {
        structs = (k.own ∷ [], refl);
        functions = begun_here w.functions;
        definitions = begun_here w.definitions;
        variables = begun_here w.variables;
      };
      sums = record { structs = all_more Sound w.structs k.own s.structs k.sound; functions = s.functions };
    })
item_follows (item.Function token b stars name ps body) at w v a o p s h =
    let k = function_is token b stars name ps body (at + length (type_kinds b stars) + 2)
    (at + length (type_kinds b stars) + 2 + length (params_kinds ps)) w a v p.2 (omega arith) h in
    record {
      grown = typed_grown token _ name k.own body (known_as _ (declared_meaning name w.names) w) w v a k.rest;
      sums = typed_sums token _ name k.own body (known_as _ (declared_meaning name w.names) w) w v a k.flat k.rest s;
    }
item_follows (item.Declaration d) at w v a o p s h =
    let step : Step (declaration_parts true d) (stage w) (stage v) = taken (λ _ u. Step (declaration_parts true d) (stage w) (stage u))
    (walk_declaration true d w) a v (declaration_notes true d w) h in
    record {
      grown = declaration_grown d w v a h;
      sums = record {
        structs = subst AllSound (sym (structs_same (declaration_parts true d) w v step)) s.structs;
        functions = subst (AllByRecursion Plainly) (sym (functions_same (declaration_parts true d) w v step)) s.functions;
      };
    }

pub items_follow : (xs : List ItemTree) (at : ℕ) (w z : Walk) (a : Done) → AllByRecursion ShapedItem xs → EachAt ItemAt item_kinds 0 at xs → Sums w
    → walk_items xs w ≡ Fine a z → Follows w z
items_follow [] at w z a o p s h = subst (Follows w) (fine_known tt a w z h) (record { grown = grown_here w; sums = s })
items_follow (x ∷ xs) at w z a o p s h =
    let first = comes (walk_item x w) _ a z h in
    let one : Follows w first.known = item_follows x at w first.known first.value o.0 p.0 s first.first in
    let more : Follows first.known z = items_follow xs (at + length (item_kinds x) + 0) first.known z a o.1 p.1 one.sums first.rest in
    record { grown = grown_then w first.known z one.grown more.grown; sums = more.sums }

-- the walk through a whole tree, step by step
pub record Whole_walk (tree : SourceTree) (z : Walk) : Type 0 where
  pub items : walk_items tree.items (empty_walk (length tree.lines)) ≡ Fine tt z
  pub last : last_fault (length tree.lines) z ≡ None

ended_by : (o : Option (FaultKind × ℕ)) (w z : Walk) → ends_with o w ≡ Fine tt z → (o ≡ None) × (w ≡ z)
ended_by None w z h = (refl, fine_known tt tt w z h)
ended_by (Some f) w z h = absurd (cc)

pub tree_is : (tree : SourceTree) (z : Walk) → walk_tree tree ≡ Fine tt z → Whole_walk tree z
tree_is tree z h =
    let first = comes (walk_items tree.items (empty_walk (length tree.lines))) _ tt z h in
    let k = ended_by (last_fault (length tree.lines) first.known) first.known z first.rest in
    record {
      items = first.first ∙ ap (λ v. Fine tt v) k.1;
      last = subst (λ v. last_fault (length tree.lines) v ≡ None) k.1 k.0;
    }

-- what a base names is a size that pointers can move by
flat_deep : (tree : SourceTree) (z : Walk) → ((tag : ℕ) → Small tree z (t.Struct tag)) → (of : TypeTree) → Flat of → Deep tree z of
flat_deep tree z small (t.Pointer to) h = flat_deep tree z small to h
flat_deep tree z small (t.Array element size) h = absurd h
flat_deep tree z small (t.Struct tag) h = small tag
flat_deep tree z small of h = tt

sound_step : (structs : List StructType) (tag : ℕ) → AllSound structs → tag < length structs → is_step_size (struct_cells (slice_get structs tag)) ≡ true
sound_step [] tag h l = absurd (omega (arith, l))
sound_step (s ∷ structs) zero h l = step_by s.cells h.0.some h.0.most
sound_step (s ∷ structs) (suc tag) h l = sound_step structs tag h.1 (omega (arith, l))

record Fits_in (structs : List StructType) (most : ℕ) (m : Member) : Type 0 where
  complete : is_complete structs m.ctype ≡ true
  few : cells_of structs m.ctype ≤ most
  flat : Flat (core m.ctype)

member_one : (structs : List StructType) (x m : Member) (rest : Option Member) (most : ℕ) (b : Bool) → IsKnown structs x → cells_of structs x.ctype ≤ most
    → FlatMember x
    → (rest ≡ Some m → Fits_in structs most m) → (if b then Some x else rest) ≡ Some m → Fits_in structs most m
member_one structs x m rest most true k l f h e = subst (Fits_in structs most) (same_Some x m e) (record { complete = k; few = l; flat = f })
member_one structs x m rest most false k l f h e = h e

member_fits : (structs : List StructType) (ms : List Member) (name : List ℕ) (m : Member) (most : ℕ) → sum_by (member_cells structs) ms ≤ most
    → AllByRecursion (IsKnown structs) ms → AllByRecursion FlatMember ms → member_named name ms ≡ Some m → Fits_in structs most m
member_fits structs [] name m most l k f h = cc
member_fits structs (x ∷ ms) name m most l k f h =
    let sum : sum_by (member_cells structs) (x ∷ ms) ≡ cells_of structs x.ctype + sum_by (member_cells structs) ms = sum_by-cons (member_cells structs) x ms in
    member_one structs x m (member_named name ms) most (bytes_eq x.name name) k.0 (omega (arith, l, sum)) f.0
    (member_fits structs ms name m most (omega (arith, l, sum)) k.1 f.1) h

-- functions that are called are defined
not_lacking : (call : Option ℕ) (calls : List (Option ℕ)) (token n : ℕ) (defined_as : List (Option ℕ)) (b : Bool) → lacks_definition call defined_as ≡ b
    → (if b then Some token else first_undefined (token + 1) calls defined_as) ≡ None → (lacks_definition call defined_as ≡ false)
    × (first_undefined (token + 1) calls defined_as ≡ None)
not_lacking call calls token n defined_as true e h = absurd (cc)
not_lacking call calls token n defined_as false e h = (e, h)

is_defined_by : (o : Option ℕ) (b : Bool) → is_some o ≡ b → (if b then false else true) ≡ false → (number : ℕ) × (o ≡ Some number)
is_defined_by None true e h = absurd (false≢true e)
is_defined_by None false e h = absurd (false≢true (sym h))
is_defined_by (Some n) b e h = (n, refl)

called_defined : (calls : List (Option ℕ)) (defined_as : List (Option ℕ)) (from token index : ℕ) → first_undefined from calls defined_as ≡ None
    → note_at calls token ≡ Some index → (number : ℕ) × (note_at defined_as index ≡ Some number)
called_defined [] defined_as from token index h e = absurd (cc)
called_defined (call ∷ calls) defined_as from zero index h e =
    let k = not_lacking call calls from 0 defined_as (lacks_definition call defined_as) refl h in
    is_defined_by (note_at defined_as index) (is_some (note_at defined_as index)) refl (subst (λ o. lacks_definition o defined_as ≡ false) e k.0)
called_defined (call ∷ calls) defined_as from (suc token) index h e =
    called_defined calls defined_as (from + 1) token index (not_lacking call calls from 0 defined_as (lacks_definition call defined_as) refl h).1 e

undefined_none : (o : Option ℕ) → undefined_at o ≡ None → o ≡ None
undefined_none None h = refl
undefined_none (Some token) h = absurd (cc)

last_by : (b : Bool) (count : ℕ) (w : Walk) → (if b then undefined_at (first_undefined 0 w.functions_at w.defined_as) else Some (fault.NoMain, count)) ≡ None
    → (b ≡ true) × (first_undefined 0 w.functions_at w.defined_as ≡ None)
last_by true count w h = (refl, undefined_none (first_undefined 0 w.functions_at w.defined_as) h)
last_by false count w h = absurd (cc)

-- there is a definition of `main`, and one of each function that is called
pub last_is : (count : ℕ) (w : Walk) → last_fault count w ≡ None → (has_main w ≡ true) × (first_undefined 0 w.functions_at w.defined_as ≡ None)
last_is count w h = last_by (has_main w) count w h

begins_sums : (n : ℕ) → Sums (empty_walk n)
begins_sums n = record { structs = tt; functions = tt }

pub tree_sums : (tree : SourceTree) (z : Walk) → IsShaped tree → walk_tree tree ≡ Fine tt z → Sums z
tree_sums tree z s h = (items_follow tree.items 0 (empty_walk (length tree.lines)) z tt s.items s.placed (begins_sums (length tree.lines))
    (tree_is tree z h).items).sums

pub small_structs : (tree : SourceTree) (z : Walk) → Sums z → (tag : ℕ) → Small tree z (t.Struct tag)
small_structs tree z s tag h = sound_step z.structs tag s.structs (is_less tag (length z.structs) h)

pub core_is_deep : (tree : SourceTree) (z : Walk) → Sums z → (of : TypeTree) → Flat of → Deep tree z of
core_is_deep tree z s of h = flat_deep tree z (small_structs tree z s) of h

-- A text without a fault has ended well.
pub tree_ended : (tree : SourceTree) (z : Walk) → IsShaped tree → walk_tree tree ≡ Fine tt z → Ended tree z
tree_ended tree z s h =
    let sums : Sums z = tree_sums tree z s h in
    record {
      structs = small_structs tree z sums;
      members = λ tag r e name m k.
          let own : Sound r = all_at Sound z.structs tag r sums.structs e in
          let sum : IsSummed z.structs r = all_at (IsSummed z.structs) z.structs tag r (structs_summed tree z h) e in
          let f : Fits_in z.structs 1048576 m = member_fits z.structs r.members name m 1048576 (omega (arith, sum.sum, own.most)) sum.known own.flat k in
          whole_by tree z m.ctype (core_is_deep tree z sums (core m.ctype) f.flat) (record { complete = f.complete; most = f.few });
      gives = λ index g e.
          let own : Plainly g = all_at Plainly z.functions index g sums.functions e in
          (core_is_deep tree z sums g.ctype.gives own.flat, own.plain);
      calls = λ token index e.
          let d = called_defined z.functions_at z.defined_as 0 token index (last_is (length tree.lines) z (tree_is tree z h).last).1 e in
          record { number = d.0; defined = d.1; definition = (functions_numbered tree z h index d.0).0 d.1 };
    }

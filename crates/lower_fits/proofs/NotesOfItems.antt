-- What the walk through a whole accepted text notes.
use Rattle.std.proofs.Common.{◌≡◌, ℕ, ◌≤◌, refl, subst, sym, arith, List, [], ◌∷◌, Some, None, ◌+◌, Bool, true, false, length}
use Rattle.std.specs.Prelude.{Option, if◌then◌else◌, nat_le, ◌&&◌}
use Rattle.std.specs.List.{AllByRecursion}
use Rattle.std.specs.Str.{bytes_eq}
use Rattle.std.proofs.lemmas.Bool.Decides.{nat_tests}
use Rattle.std.proofs.lemmas.Bool.{and_parts}
use Rattle.std.proofs.lemmas.Option.{same_Some}
use Rattle.c_types_expressions.proofs.Giving.{Gives}
use Rattle.base_lists.proofs.Lists.{Stays}
use Rattle.base_lists.proofs.Every.{all_at}
use Rattle.c_syntax.specs.Words.{EntryList, ItemTree, SourceTree, EachAt, ItemAt, ShapedItem, item_kinds, params_kinds, type_kinds}
use Rattle.c_syntax.specs.ItemTree as item
use Rattle.c_types_rules.specs.declared.function.FunctionType.{FunctionType}
use Rattle.c_types_rules.specs.declared.layout.Member.{Member}
use Rattle.c_types_rules.specs.declared.layout.StructType.{StructType}
use Rattle.c_types_rules.specs.TypeTree as t
use Rattle.c_types_rules.specs.Words.{TypeTree, decayed_type, member_named, cells_of, is_complete}
use Rattle.c_types_expressions.specs.declared.walk.Parameter.{Parameter}
use Rattle.c_types_expressions.specs.declared.walk.Walk.{Walk}
use Rattle.c_types.specs.Answers.{offset_at, type_at}
use Rattle.c_types_expressions.specs.Words.{with_stars, empty_walk, declared_meaning, Done, Fine, scope_opened}
use Rattle.c_types_walk.specs.ItemWalk.{is_clashing_name, body_scope_opened, known_as, types_of, walk_item, walk_items, with_function, with_param, with_params}
use Rattle.c_types.specs.Laid.{AreLaid, IsSummed}
use Rattle.c_types.proofs.Summed.{structs_summed}
use Rattle.flow.specs.Nodes.{step_limit}
use Rattle.c_meaning.specs.Known.{element_cells}
use Rattle.c_meaning_sound.specs.Accepted.{IsAcceptedTree}
use Rattle.c_meaning_sound.proofs.Ending.{Follows, Sound, Structs, Sums, core_is_deep, item_follows, items_follow, struct_is, tree_ended, tree_is, tree_sums}
use Rattle.c_meaning_sound.proofs.Forming.{Ended, steps_known}
use Rattle.c_meaning_sound.proofs.Growing.{Grows}
use Rattle.c_meaning_sound.proofs.Noting.{Deep}
use Rattle.c_meaning_sound.proofs.Reaching.{Defines, Grown, IsParam, begun_long, begun_stays, body_defines, comes, declaration_grown, declares_is, defines_onward}
use Rattle.c_meaning_sound.proofs.Reaching.{fine_known, function_is, grown_then, longer_grows}
use Rattle.lower_fits.proofs.Lists.{none_noted, noted_at}
use Rattle.lower_fits.proofs.NotesOfStatements.{Within, closing_known, declaration_good, declared_known, entries_good}
use Rattle.lower_fits.proofs.NotesOfExpressions.{IsNear, MembersFit, Noted, Points, ResultsFit}

-- members that lie behind one another end behind the first one's cell
laid_ends : (structs : List StructType) (first end : ℕ) (ms : List Member) → AreLaid structs first ms end → first ≤ end
laid_ends structs first end [] h = omega (arith, h)
laid_ends structs first end (m ∷ ms) h = omega (arith, laid_ends structs (first + cells_of structs m.ctype) end ms h.1)

-- one of two members
either_before : (b : Bool) (x m : Member) (rest : Option Member) (end : ℕ) → x.offset ≤ end → (rest ≡ Some m → m.offset ≤ end)
    → (if b then Some x else rest) ≡ Some m → m.offset ≤ end
either_before true x m rest end first behind h = subst (λ (r : Member). r.offset ≤ end) (same_Some x m h) first
either_before false x m rest end first behind h = behind h

-- a member begins before all end
laid_before : (structs : List StructType) (first end : ℕ) (name : List ℕ) (ms : List Member) (m : Member) → AreLaid structs first ms end
    → member_named name ms ≡ Some m → m.offset ≤ end
laid_before structs first end name [] m h e = cc
laid_before structs first end name (x ∷ ms) m h e =
    either_before (bytes_eq x.name name) x m (member_named name ms) end (omega (arith, h.0, laid_ends structs (first + cells_of structs x.ctype) end ms h.1))
    (laid_before structs (first + cells_of structs x.ctype) end name ms m h.1) e

module _ (tree : SourceTree) (z : Walk) (ends : Ended tree z) (sums : Sums z) (members : MembersFit tree z z.structs) where
  -- types that are known whole before a point stay so
  grows_before : (u : Walk) → Grown u z → Grows u.structs z.structs
  grows_before u g = longer_grows u.structs z.structs (begun_long u.structs z.structs g.structs)

  -- and structs stay where they are
  stays_before : (u : Walk) → Grown u z → Stays u.structs z.structs
  stays_before u g = begun_stays u.structs z.structs g.structs

  -- the members of the structs before a point fit
  members_before : (u : Walk) → Grown u z → MembersFit tree z u.structs
  members_before u g tag s e = members tag s (stays_before u g tag s e)

  -- so do the results of the functions before it
  results_before : (u : Walk) → Grown u z → ResultsFit tree z u.functions
  results_before u g index f e = (ends.gives index f (begun_stays u.functions z.functions g.functions index f e)).0

  -- what is known within an item that is behind this point
  abbrev Inside : (u : Walk) → Grown u z → Walk → Type 0
  Inside u g w = Within tree z ends sums u.structs u.functions (members_before u g) (results_before u g)
      (grows_before u g) (stays_before u g) w

  -- a function that is declared
  function_noted : (name : List ℕ) (f : FunctionType) (known : Option ℕ) (w : Walk) → Noted tree z w → Noted tree z (with_function name f known w)
  function_noted name f None w n = record { types = n.types; offsets = n.offsets; declared = n.declared }
  function_noted name f (Some index) w n = n

  -- parameters
  params_known : (u : Walk) (g : Grown u z) (lo hi : ℕ) (ps : List Parameter) (w : Walk) → AllByRecursion (IsParam lo hi) ps → Inside u g w
      → Inside u g (with_params ps w)
  params_known u g lo hi [] w h k = k
  params_known u g lo hi (p ∷ ps) w h k = params_known u g lo hi ps (with_param p.token p.name p.ctype w) h.1 (own p.name)
    where
      own : (o : Option (List ℕ)) → Inside u g (with_param p.token o p.ctype w)
      own None = k
      own (Some name) = declared_known tree z ends sums u.structs u.functions (members_before u g) (results_before u g)
          (grows_before u g) (stays_before u g)
          false p.token name p.ctype w k (core_is_deep tree z sums p.ctype h.0.flat)

  -- a function with its body
  body_noted : (token : ℕ) (f : FunctionType) (name : List ℕ) (own : List Parameter) (body : EntryList) (known : Option ℕ) (lo hi : ℕ) (w v : Walk)
      → AllByRecursion (IsParam lo hi) own → Defines token f name own body known w v → Grown v z → Noted tree z w → Noted tree z v
  body_noted token f name own body known lo hi w v params d onward n =
      let u : Walk = with_function name f known w in
      let g : Grown u z = grown_then u v z (defines_onward token f name own body known w v d) onward in
      let before : Noted tree z u = function_noted name f known w n in
      let begun : Inside u g (scope_opened (record u { locals = 0 })) = record {
        structs_are = refl;
        functions_are = refl;
        noted = record { types = before.types; offsets = before.offsets; declared = before.declared };
      } in
      let inside : Inside u g (body_scope_opened own u) = params_known u g lo hi own (scope_opened (record u { locals = 0 })) params begun in
      let behind : Inside u g d.behind = subst (Gives (λ done r. Inside u g r)) d.walked
      (entries_good tree z ends sums u.structs u.functions (members_before u g) (results_before u g)
      (grows_before u g) (stays_before u g) f.gives false body
      (body_scope_opened own u) inside).by in
      let last : Inside u g d.last = subst (Gives (λ done r. Inside u g r)) d.closes
      (closing_known tree z ends sums u.structs u.functions (members_before u g) (results_before u g)
      (grows_before u g) (stays_before u g) tt d.behind behind).by in
      subst (Noted tree z) (sym d.is) (record { types = last.noted.types; offsets = last.noted.offsets; declared = last.noted.declared })

  -- an item
  item_noted : (x : ItemTree) (at : ℕ) (w v : Walk) (a : Done) → ShapedItem x → ItemAt at x → Sums w → Grown v z → walk_item x w ≡ Fine a v → Noted tree z w
      → Noted tree z v
  item_noted (item.Struct token tag own) at w v a o p s g e n =
      let k : Structs tag w v = struct_is token tag own w v a o.0 o.1 s.structs e in
      subst (Noted tree z) (sym k.is) (record { types = n.types; offsets = n.offsets; declared = n.declared })
  item_noted (item.Function token b stars name ps None) at w v a o p s g e n =
      let k = function_is token b stars name ps None (at + length (type_kinds b stars) + 2)
      (at + length (type_kinds b stars) + 2 + length (params_kinds ps)) w a v p.2 (omega arith) e in
      let f : FunctionType = record { gives = with_stars stars k.of; params = types_of k.own } in
      let known : Option ℕ = known_as f (declared_meaning name w.names) w in
      let same : v ≡ with_function name f known w = (declares_is token (is_clashing_name name known w) f.gives (with_function name f known w) v a k.rest).same in
      rw same (function_noted name f known w n)
  item_noted (item.Function token b stars name ps (Some body)) at w v a o p s g e n =
      let lo : ℕ = at + length (type_kinds b stars) + 2 in
      let hi : ℕ = at + length (type_kinds b stars) + 2 + length (params_kinds ps) in
      let k = function_is token b stars name ps (Some body) lo hi w a v p.2 (omega arith) e in
      let f : FunctionType = record { gives = with_stars stars k.of; params = types_of k.own } in
      let known : Option ℕ = known_as f (declared_meaning name w.names) w in
      body_noted token f name k.own body known lo hi w v k.are (body_defines token f name k.own body known w v a k.rest) g n
  item_noted (item.Declaration d) at w v a o p s g e n =
      let whole : Grown w z = grown_then w v z (declaration_grown d w v a e) g in
      let begun : Inside w whole w = record { structs_are = refl; functions_are = refl; noted = n } in
      let behind : Inside w whole v = subst (Gives (λ done r. Inside w whole r)) e
      (declaration_good tree z ends sums w.structs w.functions (members_before w whole) (results_before w whole)
      (grows_before w whole) (stays_before w whole) true d w begun).by in
      behind.noted

  -- items up to the end
  items_noted : (xs : List ItemTree) (at : ℕ) (w : Walk) (a : Done) → AllByRecursion ShapedItem xs → EachAt ItemAt item_kinds 0 at xs → Sums w
      → walk_items xs w ≡ Fine a z → Noted tree z w → Noted tree z z
  items_noted [] at w a o p s e n = subst (Noted tree z) (fine_known tt a w z e) n
  items_noted (x ∷ xs) at w a o p s e n =
      let first = comes (walk_item x w) _ a z e in
      let hi : ℕ = at + length (item_kinds x) + 0 in
      let one : Follows w first.known = item_follows x at w first.known first.value o.0 p.0 s first.first in
      let more : Follows first.known z = items_follow xs hi first.known z a o.1 p.1 one.sums first.rest in
      items_noted xs hi first.known a o.1 p.1 one.sums first.rest (item_noted x at w first.known first.value o.0 p.0 s more.grown first.first n)

-- all that an accepted text notes
pub accepted_noted : (tree : SourceTree) (z : Walk) → IsAcceptedTree tree z → Noted tree z z
accepted_noted tree z a =
    let ends : Ended tree z = tree_ended tree z a.formed.shaped a.walked in
    let sums : Sums z = tree_sums tree z a.formed.shaped a.walked in
    let members : MembersFit tree z z.structs = λ tag s e name m k.
    let sound : Sound s = all_at Sound z.structs tag s sums.structs e in
    let summed : IsSummed z.structs s = all_at (IsSummed z.structs) z.structs tag s (structs_summed tree z a.walked) e in
    let before : m.offset ≤ s.cells = laid_before z.structs 0 s.cells name s.members m summed.laid k in
    ((ends.members tag s e name m k).0, omega (arith, before, sound.most)) in
    items_noted tree z ends sums members tree.items 0 (empty_walk (length tree.lines)) tt a.formed.shaped.items a.formed.shaped.placed
    (record { structs = tt; functions = tt }) (tree_is tree z a.walked).items (record {
      types = none_noted (Points tree z) (length tree.lines);
      offsets = none_noted IsNear (length tree.lines);
      declared = tt;
    })

-- the offsets of members are within the limit
pub offsets_near : (tree : SourceTree) (z : Walk) → IsAcceptedTree tree z → (token n : ℕ) → offset_at z token ≡ Some n → n ≤ step_limit
offsets_near tree z a token n h = noted_at IsNear z.offsets_at token n (accepted_noted tree z a).offsets h

-- a step is by one cell at least
step_some : (n : ℕ) → (nat_le 1 n && nat_le n 1048576) ≡ true → 1 ≤ n
step_some n h = some_by (and_parts (nat_le 1 n) (nat_le n 1048576) h).0
  where
    some_by : nat_le 1 n ≡ true → 1 ≤ n
    some_by k = grind (arith, nat_tests, k)

-- a pointer to an object can be moved
pointed_some : (tree : SourceTree) (z : Walk) (of to : TypeTree) → Points tree z of → decayed_type of ≡ t.Pointer to → is_complete z.structs to ≡ true
    → 1 ≤ element_cells z.structs to
pointed_some tree z of to d h complete =
    let deep : Deep tree z to = subst (Deep tree z) h d in
    step_some (element_cells z.structs to) (steps_known tree z (t.Pointer to) deep complete)

-- so it is with each pointer and each array that was noted
pub noted_moves : (tree : SourceTree) (z : Walk) → IsAcceptedTree tree z → (token : ℕ) (of to : TypeTree) → type_at z token ≡ Some of → decayed_type of ≡ t.Pointer to
    → is_complete z.structs to ≡ true → 1 ≤ element_cells z.structs to
noted_moves tree z a token of to h leads complete =
    pointed_some tree z of to (noted_at (Points tree z) z.types token of (accepted_noted tree z a).types h) leads complete

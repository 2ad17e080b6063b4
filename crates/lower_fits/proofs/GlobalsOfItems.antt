-- The globals of all items: what is known of each at the end, and that all have few cells together.
use Rattle.std.proofs.Common.{◌≡◌, ℕ, ◌+◌, ◌≤◌, refl, ap, subst, sym, arith, true, List, [], ◌∷◌, length, length-append}
use Rattle.std.specs.Prelude.{sum_by}
use Rattle.std.specs.List.{AllByRecursion, flat_map}
use Rattle.std.proofs.lemmas.List.Sums.{sum_by-append}
use Rattle.base_lists.proofs.Every.{all_first, all_join, all_second}
use Rattle.c_syntax.specs.ItemTree as item
use Rattle.c_syntax.specs.Words.{ItemTree, SourceTree, EachAt, ItemAt, ShapedItem, base_kinds, declaration_kinds, item_kinds, params_kinds, type_kinds}
use Rattle.c_types_rules.specs.declared.function.FunctionType.{FunctionType}
use Rattle.c_types_expressions.specs.declared.walk.Walk.{Walk}
use Rattle.c_types_expressions.specs.Words.{with_stars, empty_walk, declared_meaning, Done, Fine}
use Rattle.c_types_walk.specs.ItemWalk.{known_as, types_of, walk_item, walk_items}
use Rattle.c_types_walk.specs.StatementWalk.{walk_declaration}
use Rattle.c_types.proofs.NotedItems.{text_notes}
use Rattle.c_meaning.specs.Words.{starts_of, strings_of_item}
use Rattle.c_meaning_sound.specs.Accepted.{IsAcceptedTree, IsNegatable}
use Rattle.c_meaning_sound.proofs.Accepting.{Fitted, GlobalsFit, Whole_item, begins_standing, begins_tagged, item_good, items_good}
use Rattle.c_meaning_sound.proofs.Ending.{Follows, Sums, item_follows, items_follow, struct_is, tree_ended, tree_is, tree_sums}
use Rattle.c_meaning_sound.proofs.Globals.{global_good}
use Rattle.c_meaning_sound.proofs.Items.{BodiesFit, Later, Standing, Tagged, reaches_structs}
use Rattle.c_meaning_sound.proofs.Lengths.{strings_short}
use Rattle.c_meaning_sound.proofs.Reaching.{Grown, begun_stays, comes, fine_known, function_is, grown_then, taken}
use Rattle.c_meaning_sound.proofs.Reading.{all_spelled}
use Rattle.c_meaning_sound.proofs.Stating.{body_good}
use Rattle.c_meaning_sound.proofs.Texts.{Spelled}
use Rattle.lower_fits.proofs.CellsOfBodies.{function_keeps}
use Rattle.lower_fits.proofs.Declaring.{Began, Declared, Lasts, cells_at, declaration_began}

module _ (tree : SourceTree) (z : Walk) where
  -- the globals of some items: what is known of each at the end, and their cells are counted
  pub record Counted (xs : List ItemTree) (w v : Walk) : Type 0 where
    pub each : AllByRecursion (Declared z) (flat_map starts_of xs)
    pub cells : v.global_cells ≡ w.global_cells + sum_by (cells_at z) (flat_map starts_of xs)
    pub few : w.global_cells ≤ 1048576 → v.global_cells ≤ 1048576

  -- those of one item
  record One (x : ItemTree) (w v : Walk) : Type 0 where
    each : AllByRecursion (Declared z) (starts_of x)
    cells : v.global_cells ≡ w.global_cells + sum_by (cells_at z) (starts_of x)
    few : w.global_cells ≤ 1048576 → v.global_cells ≤ 1048576

  -- an item without globals
  none_counted : (x : ItemTree) (w v : Walk) → starts_of x ≡ [] → v.global_cells ≡ w.global_cells → One x w v
  none_counted x w v e h = record {
    each = subst (AllByRecursion (Declared z)) (sym e) tt;
    cells = omega (arith, h, ap (sum_by (cells_at z)) e);
    few = λ q. omega (arith, h, q);
  }

  -- an item
  item_counted : (x : ItemTree) (count at : ℕ) (w v : Walk) (a : Done) → ShapedItem x → ItemAt at x → Sums w → Standing tree z count at w → Grown w z
      → at + length (item_kinds x) ≤ count → Later tree z (at + length (item_kinds x)) v → walk_item x w ≡ Fine a v → One x w v
  item_counted (item.Struct token tag members) count at w v a o p s st g c later h = none_counted (item.Struct token tag members) w v refl
      (ap (λ (u : Walk). u.global_cells) (struct_is token tag members w v a o.0 o.1 s.structs h).is)
  item_counted (item.Function token b stars name ps body) count at w v a o p s st g c later h =
      let k = function_is token b stars name ps body (at + length (type_kinds b stars) + 2)
      (at + length (type_kinds b stars) + 2 + length (params_kinds ps)) w a v p.2 (omega arith) h in
      let f : FunctionType = record { gives = with_stars stars k.of; params = types_of k.own } in
      none_counted (item.Function token b stars name ps body) w v refl
      (function_keeps token f name k.own body (known_as f (declared_meaning name w.names) w) w v a k.rest)
  item_counted (item.Declaration d) count at w v a o p s st g c later h =
      let lo : ℕ = at + length (base_kinds d.base) in
      let hi : ℕ = at + length (declaration_kinds d) in
      let b : Began tree z lo hi d.starts w v = taken (λ _ u. Began tree z lo hi d.starts w u) (walk_declaration true d w) a v
      (declaration_began tree z d at w p (omega (arith, c, st.variables_at)) st.long (reaches_structs tree z w g) (begun_stays w.structs z.structs g.structs)) h in
      let lasts : Lasts tree z hi v = record { notes = λ token l. (later.below token l).variables; declared = later.declared } in
      record { each = b.each lasts; cells = b.cells lasts; few = b.few }

  -- one item, and those behind it
  both_counted : (x : ItemTree) (xs : List ItemTree) (w u v : Walk) → One x w u → Counted xs u v → Counted (x ∷ xs) w v
  both_counted x xs w u v a b = record {
    each = all_join (Declared z) (starts_of x) (flat_map starts_of xs) a.each b.each;
    cells = omega (arith, a.cells, b.cells, sum_by-append (cells_at z) (starts_of x) (flat_map starts_of xs));
    few = λ q. b.few (a.few q);
  }

module _ (tree : SourceTree) (z : Walk) (sums : Sums z) (good : BodiesFit tree z) (global : GlobalsFit tree z) (zlong : length z.declared_types ≡ length z.variables)
  where
    -- the items from one on
    items_counted : (xs : List ItemTree) (count at : ℕ) (w : Walk) (a : Done) → AllByRecursion ShapedItem xs → EachAt ItemAt item_kinds 0 at xs
        → AllByRecursion (Spelled tree) (flat_map strings_of_item xs) → AllByRecursion IsNegatable (flat_map item_kinds xs) → Sums w
        → Standing tree z count at w → Tagged tree z xs w → at + length (flat_map item_kinds xs) ≤ count → walk_items xs w ≡ Fine a z → Counted tree z xs w z
    items_counted [] count at w a o p l q s st g c e = subst (Counted tree z [] w) (fine_known tt a w z e) (record {
      each = tt;
      cells = omega arith;
      few = λ k. k;
    })
    items_counted (x ∷ xs) count at w a o p l q s st g c e =
        let first = comes (walk_item x w) _ a z e in
        let v : Walk = first.known in
        let hi : ℕ = at + length (item_kinds x) + 0 in
        let long : length (flat_map item_kinds (x ∷ xs)) ≡ length (item_kinds x) + length (flat_map item_kinds xs) =
        length-append (item_kinds x) (flat_map item_kinds xs) in
        let one : Follows w v = item_follows x at w v first.value o.0 p.0 s first.first in
        let more : Follows v z = items_follow xs hi v z a o.1 p.1 one.sums first.rest in
        let spelled = all_second (Spelled tree) (strings_of_item x) (flat_map strings_of_item xs) l in
        let plain = all_second IsNegatable (item_kinds x) (flat_map item_kinds xs) q in
        let k : Whole_item tree z count at hi x xs w v = item_good tree z sums good global zlong x count at hi xs w v first.value o.0 p.0
        (all_first (Spelled tree) (strings_of_item x) (flat_map strings_of_item xs) l) (all_first IsNegatable (item_kinds x) (flat_map item_kinds xs) q)
        s st g more.grown (omega arith) (omega (arith, c, long)) first.first in
        let rest : Fitted tree z sums good global zlong hi v xs = items_good tree z sums good global zlong xs count hi v a o.1 p.1 spelled plain one.sums
        k.item.standing k.item.tagged (omega (arith, c, long)) first.rest in
        both_counted tree z x xs w v z
        (item_counted tree z x count at w v first.value o.0 p.0 s st (grown_then w v z one.grown more.grown) (omega (arith, c, long))
        (subst (λ n. Later tree z n v) (omega arith) rest.later) first.first)
        (items_counted xs count hi v a o.1 p.1 spelled plain one.sums k.item.standing k.item.tagged (omega (arith, c, long)) first.rest)

-- the strings of a text are spelled by their tokens
pub strings_spelled : (tree : SourceTree) (z : Walk) → IsAcceptedTree tree z → AllByRecursion (Spelled tree) (flat_map strings_of_item tree.items)
strings_spelled tree z a = all_spelled tree a.formed.shaped.items a.formed.shaped.placed (strings_short tree 1048575 a.short)

-- the globals of an accepted text
pub globals_counted : (tree : SourceTree) (z : Walk) → IsAcceptedTree tree z → Counted tree z tree.items (empty_walk (length tree.lines)) z
globals_counted tree z a =
    let ends = tree_ended tree z a.formed.shaped a.walked in
    items_counted tree z (tree_sums tree z a.formed.shaped a.walked) (body_good tree z ends) (global_good tree z ends) (text_notes tree z a.walked).1.0
    tree.items (length tree.lines) 0 (empty_walk (length tree.lines)) tt a.formed.shaped.items a.formed.shaped.placed (strings_spelled tree z a) a.constants
    (record { structs = tt; functions = tt }) (begins_standing tree z (length tree.lines)) (begins_tagged tree z (length tree.lines))
    (omega (arith, a.formed.shaped.lines)) (tree_is tree z a.walked).items

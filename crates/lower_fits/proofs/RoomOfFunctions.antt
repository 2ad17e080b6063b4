-- The functions of a text are those with bodies, in their order: room for all of them is room for all bodies.
use Rattle.std.proofs.Common.{◌≡◌, ℕ, zero, suc, ◌≤◌, ◌+◌, ◌*◌, ap, sym, ◌∙◌, arith, List, [], ◌∷◌, Some, None, length, length-append}
use Rattle.std.specs.Prelude.{Option, map, slice_get}
use Rattle.std.specs.List.{flat_map}
use Rattle.std.proofs.lemmas.List.{length-map}
use Rattle.std.proofs.lemmas.List.Sums.{count_by-le-length, sum_by-cons}
use Rattle.c_syntax.specs.ItemTree as i
use Rattle.c_syntax.specs.Words.{ItemTree, SourceTree, EntryList, tree_kinds, IsShaped}
use Rattle.c_types_expressions.specs.declared.walk.Definition.{Definition}
use Rattle.c_types.specs.Numbers.{definition_frame, frame_of, frames_from, variables_in}
use Rattle.c_types.specs.Parts.{item_parts}
use Rattle.flow.specs.declared.site.Site.{Site}
use Rattle.c_meaning.specs.Words.{Sites, function_bodies, body_of_item, sites_by_table}
use Rattle.lower_relation.specs.Room.{function_room, functions_room}
use Rattle.lower_fits.proofs.Allowing.{Allows, none_allowed}
use Rattle.lower_fits.proofs.SitesAtTokens.{before, table_allows}
use Rattle.lower_fits.proofs.RoomOfStatements.{bodies_room, items_allowed}

-- a function that is defined has one body, and any other item has none
one_frame : (count : ℕ) (x : ItemTree) → length (frame_of count x) ≡ length (body_of_item x)
one_frame count (i.Struct token tag members) = omega arith
one_frame count (i.Function token b stars name ps None) = omega arith
one_frame count (i.Function token b stars name ps (Some body)) = omega arith
one_frame count (i.Declaration declaration) = omega arith

-- there are as many frames as bodies
all_frames : (count : ℕ) (xs : List ItemTree) → length (frames_from count xs) ≡ length (flat_map body_of_item xs)
all_frames count [] = omega arith
all_frames count (x ∷ xs) =
    let later : ℕ = count + variables_in (item_parts x) in
    omega (
      arith,
      length-append (frame_of count x) (frames_from later xs),
      length-append (body_of_item x) (flat_map body_of_item xs),
      one_frame count x,
      all_frames later xs,
    )

-- where each definition has its frame, there are as many bodies as definitions
pub as_many : (tree : SourceTree) (definitions : List Definition) → map definition_frame definitions ≡ frames_from 0 tree.items → length definitions ≡ length (function_bodies tree)
as_many tree definitions h = sym (length-map definitions definition_frame) ∙ ap length h ∙ all_frames 0 tree.items

module _ (sites : Sites) where
  -- the first function, and those behind it
  pub first_apart : (body : ℕ → Option EntryList) (n : ℕ)
      → functions_room sites body (suc n) ≡ function_room sites (body 0) + functions_room sites (λ k. body (suc k)) n
  first_apart body zero = omega arith
  first_apart body (suc n) = omega (arith, first_apart body n)

  -- room for as many functions as there are bodies is room for all of them
  all_room : (xs : List EntryList) → functions_room sites (slice_get xs) (length xs) ≡ bodies_room sites xs
  all_room [] = omega arith
  all_room (x ∷ xs) =
      omega (arith, first_apart (slice_get (x ∷ xs)) (length xs), all_room xs, sum_by-cons (λ body. function_room sites (Some body)) x xs)

-- all functions of a text have room for no more nodes than its tokens allow
pub few_nodes : (tree : SourceTree) (table : List Site) → IsShaped tree
    → functions_room (sites_by_table table) (slice_get (function_bodies tree)) (length (function_bodies tree)) ≤ 16 * length (tree_kinds tree) + length table
few_nodes tree table h =
    let all : Allows (sites_by_table table) 0 (0 + length (tree_kinds tree)) (bodies_room (sites_by_table table) (function_bodies tree)) =
    items_allowed (sites_by_table table) tree.items 0 h.items h.placed in
    let few : before (0 + length (tree_kinds tree)) table ≤ length table = count_by-le-length _ table in
    omega (
      arith,
      all.by,
      few,
      all_room (sites_by_table table) (function_bodies tree),
      none_allowed (sites_by_table table),
      table_allows table (0 + length (tree_kinds tree)),
    )

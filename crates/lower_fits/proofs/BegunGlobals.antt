-- The globals of an accepted text: each begins with something, and they are few.
use Rattle.std.proofs.Common.{◌≤◌, arith, List, [], ◌∷◌, ◌++◌, length, length-append}
use Rattle.std.specs.Prelude.{IsSome}
use Rattle.std.specs.List.{flat_map}
use Rattle.c_syntax.specs.declared.token.Sign.TheVariants as sign
use Rattle.c_syntax.specs.Words.{StartTree, ItemTree, SourceTree, a_sign, base_kinds, item_kinds, start_kinds, with_commas}
use Rattle.c_syntax.specs.ItemTree as item
use Rattle.c_types_expressions.specs.declared.walk.Walk.{Walk}
use Rattle.c_types_walk.specs.Room.{starts_need}
use Rattle.c_types_walk.proofs.Tokens.{starts_long}
use Rattle.c_meaning.specs.Globals.{first_objects, starts_of}
use Rattle.flow.specs.Limits.{global_limit}
use Rattle.lower_globals.proofs.Counted.{globals_are}
use Rattle.c_meaning_laws.proofs.Constants.{text_is_source}
use Rattle.c_meaning_sound.specs.Accepted.{IsAcceptedTree}
use Rattle.c_meaning_sound.specs.Sited.{IsSited}
use Rattle.c_meaning_sound.proofs.Whole.{none_fits}

-- the objects are there before any run
pub objects_there : (tree : SourceTree) (z : Walk) → IsAcceptedTree tree z → IsSome (first_objects tree z)
objects_there tree z a = (text_is_source tree z [] (none_fits tree z a)).objects

-- each declared variable has a token of its own
starts_few : (xs : List StartTree) → length xs ≤ starts_need xs
starts_few [] = omega arith
starts_few (x ∷ xs) = omega (arith, starts_few xs)

starts_some : (xs : List StartTree) → length xs ≤ length (with_commas start_kinds xs)
starts_some xs = omega (arith, starts_few xs, starts_long xs)

-- so have all of an item
item_some : (x : ItemTree) → length (starts_of x) ≤ length (item_kinds x)
item_some (item.Struct token tag members) = omega arith
item_some (item.Function token b stars name ps body) = omega arith
item_some (item.Declaration d) = omega (
  arith,
  starts_some d.starts,
  length-append (base_kinds d.base ++ with_commas start_kinds d.starts) (a_sign sign.Semicolon),
  length-append (base_kinds d.base) (with_commas start_kinds d.starts),
)

-- there are no more globals than tokens
items_some : (xs : List ItemTree) → length (flat_map starts_of xs) ≤ length (flat_map item_kinds xs)
items_some [] = omega arith
items_some (x ∷ xs) = omega (
  arith,
  item_some x,
  items_some xs,
  length-append (starts_of x) (flat_map starts_of xs),
  length-append (item_kinds x) (flat_map item_kinds xs),
)

-- a program can have so many globals
pub few_globals : (tree : SourceTree) (z : Walk) → IsAcceptedTree tree z → IsSited tree → z.globals ≤ global_limit
few_globals tree z a s = omega (arith, globals_are tree z a.walked, items_some tree.items, a.formed.shaped.lines, s.few)

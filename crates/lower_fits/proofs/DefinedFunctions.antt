-- The functions that an accepted text defines: at least one, as many as its names of functions, and few. Each name is one.
use Rattle.std.proofs.Common.{◌≡◌, ℕ, suc, ◌≤◌, ◌<◌, ◌+◌, refl, ap, sym, ◌∙◌, arith, List, [], ◌∷◌, ◌++◌, Some, None, length, length-append}
use Rattle.std.specs.Prelude.{Option, slice_get, ◌*◌}
use Rattle.std.specs.List.{All, AllByRecursion, flat_map}
use Rattle.std.proofs.lemmas.List.{length-map}
use Rattle.std.proofs.lemmas.List.Elements.{All-from_recursion}
use Rattle.std.proofs.lemmas.Option.{slice_get_within}
use Rattle.sites.proofs.RisesBodies.{brace-length}
use Rattle.base_lists.proofs.Every.{all_first, all_join, all_second}
use Rattle.cbi_base.specs.Name.{IsName}
use Rattle.c_syntax.specs.ItemTree as item
use Rattle.c_syntax.specs.Words.{ItemTree, SourceTree, a_name, body_kinds, braced_kinds, entry_kinds, item_kinds, params_kinds, parenthesized_kinds, type_kinds}
use Rattle.c_types_expressions.specs.declared.walk.Definition.{Definition}
use Rattle.c_types_expressions.specs.declared.walk.Walk.{Walk}
use Rattle.c_types.specs.Fault.{walk_tree}
use Rattle.c_types.specs.Numbers.{definition_frame, frames_from, variables_in}
use Rattle.c_types.specs.Parts.{item_parts}
use Rattle.c_types_expressions.specs.Walked.{Fine}
use Rattle.c_types.proofs.FunctionLaws.{frames_are}
use Rattle.c_meaning.specs.Words.{signature_of, main_of}
use Rattle.flow.specs.Limits.{function_limit}
use Rattle.defined_functions.specs.Functions.{defined_by, defined_in, functions_of}
use Rattle.c_meaning_sound.specs.Accepted.{IsAcceptedTree}
use Rattle.c_meaning_sound.specs.Sited.{IsSited, IsSitedToken}
use Rattle.c_meaning_sound.proofs.Spotting.{in_middle}
use Rattle.lower_fits.specs.Brought.{IsMainSignature}
use Rattle.lower_fits.proofs.Main.{main_is}

-- there are as many frames as names of defined functions
frames_long : (before : ℕ) (xs : List ItemTree) → length (frames_from before xs) ≡ length (defined_in xs)
frames_long before [] = refl
frames_long before (item.Struct token tag members ∷ xs) = frames_long (before + 0) xs
frames_long before (item.Function token b stars name ps None ∷ xs) = frames_long (before + 0) xs
frames_long before (item.Function token b stars name ps (Some body) ∷ xs) =
    ap suc (frames_long (before + variables_in (item_parts (item.Function token b stars name ps (Some body)))) xs)
frames_long before (item.Declaration d ∷ xs) = frames_long (before + variables_in (item_parts (item.Declaration d))) xs

-- as many names as definitions
pub as_many : (tree : SourceTree) (z : Walk) → walk_tree tree ≡ Fine tt z → length (functions_of tree) ≡ length z.definitions
as_many tree z h = sym (frames_long 0 tree.items) ∙ sym (ap length (frames_are tree z h)) ∙ length-map z.definitions definition_frame

-- where `main` has a signature, there is a definition
some_by : (z : Walk) (n : ℕ) (o : Option Definition) → slice_get z.definitions n ≡ o → IsMainSignature (signature_of z o) → 0 < length z.definitions
some_by z n None e h = absurd h
some_by z n (Some d) e h = omega (arith, slice_get_within z.definitions n d e)

-- a text without a fault defines a function
pub some_defined : (tree : SourceTree) (z : Walk) → walk_tree tree ≡ Fine tt z → 0 < length z.definitions
some_defined tree z h = some_by z (main_of z) (slice_get z.definitions (main_of z)) refl (main_is tree z h)

-- each definition has two tokens and more
item_twice : (x : ItemTree) → 2 * length (defined_by x) ≤ length (item_kinds x)
item_twice (item.Struct token tag members) = omega arith
item_twice (item.Function token b stars name ps None) = omega arith
item_twice (item.Function token b stars name ps (Some body)) = omega (
  arith,
  length-append (type_kinds b stars ++ a_name name ++ parenthesized_kinds (params_kinds ps)) (braced_kinds (entry_kinds body)),
  brace-length (entry_kinds body),
)
item_twice (item.Declaration d) = omega arith

-- so have all definitions together
items_twice : (xs : List ItemTree) → 2 * length (defined_in xs) ≤ length (flat_map item_kinds xs)
items_twice [] = omega arith
items_twice (x ∷ xs) =
    omega (arith, item_twice x, items_twice xs, length-append (defined_by x) (defined_in xs), length-append (item_kinds x) (flat_map item_kinds xs))

-- a program can have so many functions
pub few_defined : (tree : SourceTree) (z : Walk) → IsAcceptedTree tree z → IsSited tree → length z.definitions ≤ function_limit
few_defined tree z a s = omega (arith, as_many tree z a.walked, items_twice tree.items, a.formed.shaped.lines, s.few)

-- a function that an item defines has a name
item_named : (x : ItemTree) → AllByRecursion IsSitedToken (item_kinds x) → AllByRecursion IsName (defined_by x)
item_named (item.Struct token tag members) k = tt
item_named (item.Function token b stars name ps None) k = tt
item_named (item.Function token b stars name ps (Some body)) k = (
  (in_middle (type_kinds b stars) (a_name name) (parenthesized_kinds (params_kinds ps))
      (all_first IsSitedToken (type_kinds b stars ++ a_name name ++ parenthesized_kinds (params_kinds ps)) (body_kinds (Some body)) k)).0,
  tt,
)
item_named (item.Declaration d) k = tt

-- so has each function that these items define
items_named : (xs : List ItemTree) → AllByRecursion IsSitedToken (flat_map item_kinds xs) → AllByRecursion IsName (defined_in xs)
items_named [] k = tt
items_named (x ∷ xs) k = all_join IsName (defined_by x) (defined_in xs) (item_named x (all_first IsSitedToken (item_kinds x) (flat_map item_kinds xs) k))
    (items_named xs (all_second IsSitedToken (item_kinds x) (flat_map item_kinds xs) k))

-- the functions of a text whose tokens keep names have names
pub all_named : (tree : SourceTree) → IsSited tree → All IsName (functions_of tree)
all_named tree s = All-from_recursion IsName (functions_of tree) (items_named tree.items s.tokens)

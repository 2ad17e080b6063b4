-- The bodies of a text stand among its tokens.
use Rattle.std.proofs.Common.{◌≡◌, ℕ, ◌+◌, arith, List, [], ◌∷◌, ◌++◌, Some, length, length-append}
use Rattle.std.specs.Prelude.{slice_get}
use Rattle.std.specs.List.{AllByRecursion, flat_map}
use Rattle.base_lists.proofs.Every.{all_at, all_join}
use Rattle.c_syntax.specs.declared.token.Sign.TheVariants as sign
use Rattle.c_syntax.specs.ItemTree as i
use Rattle.c_syntax.specs.Words.{ItemTree, SourceTree, EachAt, EntriesAt, ItemAt, a_name, a_sign, braced_kinds, entry_kinds, item_kinds, params_kinds, parenthesized_kinds}
use Rattle.c_syntax.specs.Words.{tree_kinds, type_kinds, EntryList, KindFits, IsShaped}
use Rattle.c_meaning.specs.Known.{function_bodies, body_of_item}
use Rattle.sites.proofs.Rises.{paren-length}
use Rattle.lower_fits.specs.Fitting.{BodyStands}
use Rattle.lower_fits.proofs.Standing.{Lies, after, back, front}

-- the body stands somewhere among the tokens before this one
abbrev StandsBefore : ℕ → EntryList → Type 0
StandsBefore hi body = (at : ℕ) × EntriesAt at body × Lies 0 hi at (entry_kinds body)

module _ (hi : ℕ) where
  -- the body of an item, if it has one
  item_body : (x : ItemTree) (at : ℕ) → ItemAt at x → Lies 0 hi at (item_kinds x) → AllByRecursion (StandsBefore hi) (body_of_item x)
  item_body (i.Function token b stars name ps (Some body)) at p l =
      let named = type_kinds b stars ++ a_name name in
      let head = named ++ parenthesized_kinds (params_kinds ps) in
      let named_long = length-append (type_kinds b stars) (a_name name) in
      let head_long = length-append named (parenthesized_kinds (params_kinds ps)) in
      let brace = at + length (type_kinds b stars) + 2 + length (params_kinds ps) + 1 in
      let first = at + length (type_kinds b stars) + 2 + length (params_kinds ps) + 2 in
      let in_braces = back 0 hi at brace head (braced_kinds (entry_kinds body)) (omega (arith, paren-length (params_kinds ps))) l in
      let lies = front 0 hi first (entry_kinds body) (a_sign sign.RightBrace)
      (after 0 hi brace first _ (entry_kinds body ++ a_sign sign.RightBrace) (omega arith) in_braces) in
      ((first, p.3, lies), tt)
  item_body x at p l = tt

  -- the bodies of all items
  item_bodies : (xs : List ItemTree) (at : ℕ) → EachAt ItemAt item_kinds 0 at xs → Lies 0 hi at (flat_map item_kinds xs)
      → AllByRecursion (StandsBefore hi) (flat_map body_of_item xs)
  item_bodies [] at p l = tt
  item_bodies (x ∷ xs) at p l =
      all_join (StandsBefore hi) (body_of_item x) (flat_map body_of_item xs)
      (item_body x at p.0 (front 0 hi at (item_kinds x) (flat_map item_kinds xs) l))
      (item_bodies xs (at + length (item_kinds x) + 0) p.1
      (back 0 hi at (at + length (item_kinds x) + 0) (item_kinds x) (flat_map item_kinds xs) (omega arith) l))

-- each body of a text stands among its tokens
pub body_stands : (text : SourceTree) (number : ℕ) (body : EntryList) → IsShaped text → AllByRecursion KindFits (tree_kinds text)
    → slice_get (function_bodies text) number ≡ Some body → BodyStands text body
body_stands text number body shaped constants e =
    let hi = length (tree_kinds text) in
    let lies : Lies 0 hi 0 (tree_kinds text) = record { from = omega arith; before = omega arith; constants = constants } in
    let stands = all_at (StandsBefore hi) (function_bodies text) number body (item_bodies hi text.items 0 shaped.placed lies) e in
    record { lo = stands.0; placed = stands.1; within = stands.2.before; constants = stands.2.constants }

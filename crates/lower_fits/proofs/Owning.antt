-- The sites that stand within a body are those of its function.
use Rattle.std.proofs.Common.{◌≡◌, ℕ, zero, suc, ◌≤◌, ◌<◌, refl, ap, subst, ◌∙◌, arith, List, [], ◌∷◌, ◌++◌, Some, None, ◌+◌, Bool, true, false, length}
use Rattle.std.specs.Prelude.{◌==◌, ◌&&◌, if◌then◌else◌, map, option_map, slice_get}
use Rattle.std.specs.List.{AllByRecursion, flat_map}
use Rattle.std.proofs.lemmas.List.Elements.{recursion_from_All}
use Rattle.std.proofs.lemmas.Bool.{and_parts}
use Rattle.std.proofs.lemmas.Option.{same_Some}
use Rattle.base_lists.proofs.Numbers.{same_number}
use Rattle.base_lists.proofs.Every.{all_so, all_join}
use Rattle.c_syntax.specs.Words.{EntryList, ItemTree, SourceTree, EachAt, EntriesAt, ItemAt, ShapedEntries, ShapedItem, entry_kinds, item_kinds, params_kinds}
use Rattle.c_syntax.specs.Words.{type_kinds, IsShaped}
use Rattle.c_syntax.specs.ItemTree as item
use Rattle.c_types_expressions.specs.declared.walk.Walk.{Walk}
use Rattle.flow.specs.declared.site.Site.{Site}
use Rattle.flow.specs.declared.site.SiteKind.{SiteKind}
use Rattle.c_meaning.specs.Words.{function_bodies, body_of_item, head_site, is_branch, is_pair, is_return, sites_from, sites_by_table}
use Rattle.flow.specs.declared.choice.Schemes.{Schemes}
use Rattle.sites.specs.Bodies.{entries_spots}
use Rattle.sites.specs.Rising.{RisesWithin}
use Rattle.sites.specs.SitesAt.{Body, sites_in}
use Rattle.sites.specs.Table as table
use Rattle.defined_functions.specs.Functions.{defined_by}
use Rattle.sites.specs.Table.{body_with, item_sites, items_sites}
use Rattle.sites.proofs.Owners.{BelongsTo, in-body}
use Rattle.sites.proofs.RisesTable.{rises-item}
use Rattle.c_meaning_sound.proofs.Accepting.{body_long}
use Rattle.lower_fits.specs.FactsFit.{AllOwned, SitesOwned}
use Rattle.lower_fits.specs.Owned.{BodyOwns}

-- the site stands between two tokens
abbrev Between : ℕ → ℕ → Site → Type 0
Between low high s = (low ≤ s.token) × (s.token < high)

-- sites that rise between two tokens stand between them
rising_between : (low high : ℕ) (xs : List Site) → RisesWithin low high xs → AllByRecursion (Between low high) xs
rising_between low high [] r = tt
rising_between low high (s ∷ rest) r = (
  (r.0, r.1),
  all_so (Between s.token high) (Between low high) rest (λ t h. (omega (arith, r.0, h.0), h.1)) (rising_between s.token high rest r.2),
)

-- where the site stands between two tokens, its function has this number
abbrev Own : ℕ → ℕ → ℕ → Site → Type 0
Own lo hi number s = lo ≤ s.token → s.token < hi → s.function ≡ number

-- a body stands behind a token, and of these sites those that stand within it are its own
record Placed (from : ℕ) (sites : List Site) (number : ℕ) (body : EntryList) : Type 0 where
  lo : ℕ
  behind : from ≤ lo
  shaped : ShapedEntries body
  placed : EntriesAt lo body
  own : AllByRecursion (Own lo (lo + length (entry_kinds body)) number) sites

module _ (tree : SourceTree) (z : Walk) (lines : List ℕ) (schemes : Schemes) where
  -- the sites of an item stand within it
  item_between : (x : ItemTree) (n at : ℕ) → ItemAt at x → AllByRecursion (Between at (at + length (item_kinds x))) (item_sites z lines schemes n x)
  item_between x n at p = rising_between at (at + length (item_kinds x)) (item_sites z lines schemes n x) (rises-item z lines schemes n at x p)

  -- the sites of items from a token on stand there
  items_behind : (xs : List ItemTree) (n at : ℕ) → EachAt ItemAt item_kinds 0 at xs → AllByRecursion (λ s. at ≤ s.token) (items_sites z lines schemes n xs)
  items_behind [] n at p = tt
  items_behind (x ∷ xs) n at p =
      let next : ℕ = n + length (defined_by x) in
      all_join (λ s. at ≤ s.token) (item_sites z lines schemes n x) (items_sites z lines schemes next xs)
      (all_so (Between at (at + length (item_kinds x))) (λ s. at ≤ s.token) (item_sites z lines schemes n x) (λ s h. h.0) (item_between x n at p.0))
      (all_so (λ s. at + length (item_kinds x) + 0 ≤ s.token) (λ s. at ≤ s.token) (items_sites z lines schemes next xs) (λ s h. omega (arith, h))
      (items_behind xs next (at + length (item_kinds x) + 0) p.1))

  -- the body of the first of these items
  first_placed : (name : List ℕ) (body : EntryList) (n at hi lo : ℕ) (rest : List Site) → at ≤ lo → lo + length (entry_kinds body) ≤ hi
      → ShapedEntries body → EntriesAt lo body → AllByRecursion (λ s. hi ≤ s.token) rest
      → Placed at (table.body_sites z lines schemes n (entries_spots body) ++ rest) n body
  first_placed name body n at hi lo rest low high q p behind =
      let b : Body = body_with z lines schemes n (entries_spots body) in
      let end : ℕ = lo + length (entry_kinds body) in
      record {
        lo = lo;
        behind = low;
        shaped = q;
        placed = p;
        own = all_join (Own lo end n) (sites_in b (entries_spots body)) rest
            (all_so (BelongsTo n) (Own lo end n) (sites_in b (entries_spots body)) (λ s owned l h. owned)
            (recursion_from_All (BelongsTo n) (sites_in b (entries_spots body)) (in-body b (entries_spots body))))
            (all_so (λ s. hi ≤ s.token) (Own lo end n) rest (λ s far l h. absurd (omega (arith, far, h, high))) behind);
      }

  -- a body behind an item, whose sites stand before it
  later_placed : (at hi number : ℕ) (body : EntryList) (before rest : List Site) → at ≤ hi → AllByRecursion (Between at hi) before
      → Placed hi rest number body → Placed at (before ++ rest) number body
  later_placed at hi number body before rest low between k = record {
    lo = k.lo;
    behind = omega (arith, low, k.behind);
    shaped = k.shaped;
    placed = k.placed;
    own = all_join (Own k.lo (k.lo + length (entry_kinds body)) number) before rest
        (all_so (Between at hi) (Own k.lo (k.lo + length (entry_kinds body)) number) before (λ s near l h. absurd (omega (arith, near.1, l, k.behind))) between)
        k.own;
  }

  -- each body of these items
  items_placed : (xs : List ItemTree) (n at k : ℕ) (body : EntryList) → AllByRecursion ShapedItem xs → EachAt ItemAt item_kinds 0 at xs
      → slice_get (flat_map body_of_item xs) k ≡ Some body → Placed at (items_sites z lines schemes n xs) (n + k) body
  items_placed [] n at k body q p e = absurd cc
  items_placed (item.Struct token tag members ∷ xs) n at k body q p e =
      later_placed at (at + length (item_kinds (item.Struct token tag members)) + 0) (n + k) body [] (items_sites z lines schemes (n + 0) xs) (omega arith) tt
      (subst (λ m. Placed (at + length (item_kinds (item.Struct token tag members)) + 0) (items_sites z lines schemes (n + 0) xs) m body) (omega arith)
      (items_placed xs (n + 0) (at + length (item_kinds (item.Struct token tag members)) + 0) k body q.1 p.1 e))
  items_placed (item.Declaration d ∷ xs) n at k body q p e =
      later_placed at (at + length (item_kinds (item.Declaration d)) + 0) (n + k) body [] (items_sites z lines schemes (n + 0) xs) (omega arith) tt
      (subst (λ m. Placed (at + length (item_kinds (item.Declaration d)) + 0) (items_sites z lines schemes (n + 0) xs) m body) (omega arith)
      (items_placed xs (n + 0) (at + length (item_kinds (item.Declaration d)) + 0) k body q.1 p.1 e))
  items_placed (item.Function token b stars name ps None ∷ xs) n at k body q p e =
      later_placed at (at + length (item_kinds (item.Function token b stars name ps None)) + 0) (n + k) body [] (items_sites z lines schemes (n + 0) xs)
      (omega arith) tt
      (subst (λ m. Placed (at + length (item_kinds (item.Function token b stars name ps None)) + 0) (items_sites z lines schemes (n + 0) xs) m body)
      (omega arith) (items_placed xs (n + 0) (at + length (item_kinds (item.Function token b stars name ps None)) + 0) k body q.1 p.1 e))
  items_placed (item.Function token b stars name ps (Some own) ∷ xs) n at zero body q p e =
      let hi : ℕ = at + length (item_kinds (item.Function token b stars name ps (Some own))) + 0 in
      let lo : ℕ = at + length (type_kinds b stars) + 2 + length (params_kinds ps) + 2 in
      let rest : List Site = items_sites z lines schemes (n + 1) xs in
      let sites : List Site = table.body_sites z lines schemes n (entries_spots own) ++ rest in
      subst (λ m. Placed at sites m body) (omega arith) (subst (Placed at sites n) (same_Some own body e)
      (first_placed name own n at hi lo rest (omega arith) (omega (arith, body_long tree z b stars name ps token own)) q.0.1 p.0.3
      (items_behind xs (n + 1) hi p.1)))
  items_placed (item.Function token b stars name ps (Some own) ∷ xs) n at (suc k) body q p e =
      let x : ItemTree = item.Function token b stars name ps (Some own) in
      let hi : ℕ = at + length (item_kinds x) + 0 in
      let rest : List Site = items_sites z lines schemes (n + 1) xs in
      later_placed at hi (n + suc k) body (item_sites z lines schemes n x) rest (omega arith)
      (all_so (Between at (at + length (item_kinds x))) (Between at hi) (item_sites z lines schemes n x) (λ s h. (h.0, omega (arith, h.1)))
      (item_between x n at p.0))
      (subst (λ m. Placed hi rest m body) (omega arith) (items_placed xs (n + 1) hi k body q.1 p.1 e))

-- the numbers of the sites at a token that lies within a body are those of sites of its function

-- a site and those behind it
one_owned : (b : Bool) (owners : List ℕ) (number k : ℕ) (rest : List ℕ) → (b ≡ true → slice_get owners k ≡ Some number) → AllOwned owners number rest
    → AllOwned owners number (if b then k ∷ rest else rest)
one_owned true owners number k rest h r = (h refl, r)
one_owned false owners number k rest h r = r

-- the sites from one on, of which the first has this number
numbers_owned : (lo hi number : ℕ) (owners : List ℕ) (of_kind : SiteKind → Bool) (token k : ℕ) (sites : List Site) → lo ≤ token → token < hi
    → ((i : ℕ) (s : Site) → slice_get sites i ≡ Some s → slice_get owners (k + i) ≡ Some s.function) → AllByRecursion (Own lo hi number) sites
    → AllOwned owners number (sites_from k of_kind token sites)
numbers_owned lo hi number owners of_kind token k [] low high f h = tt
numbers_owned lo hi number owners of_kind token k (s ∷ sites) low high f h =
    one_owned (s.token == token && of_kind s.kind) owners number k (sites_from (suc k) of_kind token sites) (λ is.
    let here : s.token ≡ token = same_number s.token token (and_parts (s.token == token) (of_kind s.kind) is).0 in
    let owner : slice_get owners k ≡ Some s.function = subst (λ n. slice_get owners n ≡ Some s.function) (omega arith) (f zero s refl) in
    owner ∙ ap (λ n. Some n) (h.0 (omega (arith, here, low)) (omega (arith, here, high))))
    (numbers_owned lo hi number owners of_kind token (suc k) sites low high
    (λ i x e. subst (λ n. slice_get owners n ≡ Some x.function) (omega arith) (f (suc i) x e)) h.1)

-- the first of them
first_owned : (owners : List ℕ) (number site : ℕ) (numbers : List ℕ) → AllOwned owners number numbers → head_site numbers ≡ Some site
    → slice_get owners site ≡ Some number
first_owned owners number site [] h e = absurd cc
first_owned owners number site (n ∷ numbers) h e = subst (λ m. slice_get owners m ≡ Some number) (same_Some n site e) h.0

-- the owner of each site of a table
owner_at : (sites : List Site) (i : ℕ) (s : Site) → slice_get sites i ≡ Some s → slice_get (map (λ s. s.function) sites) i ≡ Some s.function
owner_at [] i s e = absurd cc
owner_at (x ∷ sites) zero s e = ap (option_map (λ (s : Site). s.function)) e
owner_at (x ∷ sites) (suc i) s e = owner_at sites i s e

-- counted from the first one on
owner_from : (sites : List Site) (i : ℕ) (s : Site) → slice_get sites i ≡ Some s → slice_get (map (λ s. s.function) sites) (0 + i) ≡ Some s.function
owner_from sites i s e =
    let counted : i ≡ 0 + i = omega arith in
    subst (λ n. slice_get (map (λ s. s.function) sites) n ≡ Some s.function) counted (owner_at sites i s e)

-- where the sites within a body are its own, so are those that are found by token
sites_owned : (sites : List Site) (lo hi number : ℕ) → AllByRecursion (Own lo hi number) sites
    → SitesOwned (sites_by_table sites) (map (λ s. s.function) sites) number lo hi
sites_owned sites lo hi number own =
    let owners : List ℕ = map (λ (s : Site). s.function) sites in
    record {
      branches = λ token site low high e. first_owned owners number site (sites_from 0 is_branch token sites)
          (numbers_owned lo hi number owners is_branch token 0 sites low high (owner_from sites) own) e;
      returns = λ token site low high e. first_owned owners number site (sites_from 0 is_return token sites)
          (numbers_owned lo hi number owners is_return token 0 sites low high (owner_from sites) own) e;
      pairs = λ token low high. numbers_owned lo hi number owners is_pair token 0 sites low high (owner_from sites) own;
    }

-- each body of a shaped text stands in it, and the sites of the text's table within it are its own
pub table_owned : (tree : SourceTree) (z : Walk) (schemes : Schemes) (number : ℕ) (body : EntryList) → IsShaped tree
    → slice_get (function_bodies tree) number ≡ Some body → BodyOwns (table.sites_of tree z schemes) number body
table_owned tree z schemes number body s e =
    let k = items_placed tree z tree.lines schemes tree.items 0 0 number body s.items s.placed e in
    record {
      lo = k.lo;
      shaped = k.shaped;
      placed = k.placed;
      owned = sites_owned (table.sites_of tree z schemes) k.lo (k.lo + length (entry_kinds body)) number
          (subst (λ n. AllByRecursion (Own k.lo (k.lo + length (entry_kinds body)) n) (table.sites_of tree z schemes)) (omega arith) k.own);
    }

-- so it is where there are no sites
pub none_owned : (tree : SourceTree) (z : Walk) (schemes : Schemes) (number : ℕ) (body : EntryList) → IsShaped tree
    → slice_get (function_bodies tree) number ≡ Some body → BodyOwns [] number body
none_owned tree z schemes number body s e =
    let k = items_placed tree z tree.lines schemes tree.items 0 0 number body s.items s.placed e in
    record {
      lo = k.lo;
      shaped = k.shaped;
      placed = k.placed;
      owned = sites_owned [] k.lo (k.lo + length (entry_kinds body)) number tt;
    }

-- The tokens of a table rise.
use Rattle.std.proofs.Common.{◌≡◌, ℕ, ◌+◌, ◌<◌, ◌≤◌, List, [], ◌∷◌, ◌++◌, length, Option, Some, None, refl, ap, arith, length-append}
use Rattle.std.specs.Prelude.{option_map, slice_get}
use Rattle.std.specs.List.{All, flat_map}
use Rattle.std.proofs.lemmas.List.Concat.{flat_map-cons}
use Rattle.std.proofs.lemmas.List.Elements.{All-head, All-tail, All-nil}
use Rattle.c_syntax.specs.ItemTree as i
use Rattle.c_syntax.specs.Words.{ItemTree, SourceTree, a_name, braced_kinds, entry_kinds, item_kinds, params_kinds, parenthesized_kinds, tree_kinds, type_kinds, EachAt}
use Rattle.c_syntax.specs.Words.{ItemAt, IsShaped}
use Rattle.c_types_expressions.specs.declared.walk.Walk.{Walk}
use Rattle.flow.specs.declared.site.Site.{Site}
use Rattle.flow.specs.declared.choice.Schemes.{Schemes}
use Rattle.sites.specs.declared.spots.Spot.{Spot}
use Rattle.sites.specs.declared.spots.Spot.TheVariants as spot
use Rattle.sites.specs.Bodies.{entries_spots}
use Rattle.sites.specs.Rising.{RisesWithin}
use Rattle.sites.specs.SitesAt.{Body, stand_on, sites_standing, sites_at_token, sites_at, sites_in}
use Rattle.sites.specs.Standing.{item_spots}
use Rattle.defined_functions.specs.Functions.{defined_by}
use Rattle.sites.specs.Table.{body_with, item_sites, items_sites, sites_of}
use Rattle.sites.proofs.Owners.{standing}
use Rattle.sites.proofs.Rises.{Rises, len4, paren-length, wider}
use Rattle.sites.proofs.RisesBodies.{brace-length, rises-entries}

in_order : (low high : ℕ) (xs : List Site) → RisesWithin low high xs → low ≤ high
in_order low high [] r = r
in_order low high (x ∷ xs) r = omega (arith, r.0, r.1)

within : (low high a b : ℕ) (xs : List Site) → a ≤ low → high ≤ b → RisesWithin low high xs → RisesWithin a b xs
within low high a b [] l h r = omega (arith, l, h, r)
within low high a b (x ∷ xs) l h r = (omega (arith, l, r.0), omega (arith, h, r.1), within x.token high x.token b xs (omega arith) h r.2)

behind : (a b c d : ℕ) (xs ys : List Site) → b ≤ c → RisesWithin a b xs → RisesWithin c d ys → RisesWithin a d (xs ++ ys)
behind a b c d [] ys m r t = within c d a d ys (omega (arith, m, r)) (omega arith) t
behind a b c d (x ∷ xs) ys m r t = (r.0, omega (arith, r.1, m, in_order c d ys t), behind x.token b c d xs ys m r.2 t)

-- sites at one token before later ones
at-one : (low token high : ℕ) (ys rest : List Site) → All (λ (x : Site). x.token ≡ token) ys → low ≤ token → token < high →
    RisesWithin token high rest → RisesWithin low high (ys ++ rest)
at-one low token high [] rest all l h r = within token high low high rest l (omega arith) r
at-one low token high (y ∷ ys) rest all l h r =
    let here : y.token ≡ token = All-head (λ (x : Site). x.token ≡ token) y ys all in (
      omega (arith, here, l),
      omega (arith, here, h),
      at-one y.token token high ys rest (All-tail (λ (x : Site). x.token ≡
          token) y ys all) (omega (arith, here)) h r,
    )

on-line : (b : Body) (x : Spot) (token : ℕ) (o : Option ℕ) → All (λ (y : Site). y.token ≡ token) (sites_standing b x (option_map
    (stand_on b.function token) o))
on-line b x token None = All-nil (λ (y : Site). y.token ≡ token)
on-line b x token (Some line) = standing (λ (y : Site). y.token ≡ token) b (stand_on b.function token line) (λ k. refl) x

at-token : (b : Body) (x : Spot) (token : ℕ) → All (λ (y : Site). y.token ≡ token) (sites_at_token b x (Some token))
at-token b x token = on-line b x token (slice_get b.lines token)

rises-in : (b : Body) (low high : ℕ) (xs : List Spot) → Rises low high xs → RisesWithin low high (sites_in b xs)
rises-in b low high [] r = r
rises-in b low high (spot.Branch token w ∷ rest) r =
    at-one low token high (sites_at b (spot.Branch token w)) (sites_in b rest) (at-token b (spot.Branch token w) token) r.0 r.1
    (rises-in b token high rest r.2)
rises-in b low high (spot.Call token name ∷ rest) r =
    at-one low token high (sites_at b (spot.Call token name)) (sites_in b rest) (at-token b (spot.Call token name) token) r.0 r.1
    (rises-in b token high rest r.2)
rises-in b low high (spot.Change token target ∷ rest) r =
    at-one low token high (sites_at b (spot.Change token target)) (sites_in b rest) (at-token b (spot.Change token target) token) r.0 r.1
    (rises-in b token high rest r.2)
rises-in b low high (spot.Constant value ∷ rest) r = rises-in b low high rest r

-- what an item holds stands within it
pub rises-held : (at : ℕ) (x : ItemTree) → ItemAt at x → Rises at (at + length (item_kinds x)) (item_spots x)
rises-held at (i.Function token b stars name ps (Some body)) p =
    let ts = type_kinds b stars in
    let from = at + length ts + 2 + length (params_kinds ps) + 2 in
    let whole : length (item_kinds (i.Function token b stars name ps (Some body))) ≡ length ts + length (a_name name) + length (parenthesized_kinds
    (params_kinds ps)) + length (braced_kinds (entry_kinds body)) =
    len4 ts (a_name name) (parenthesized_kinds (params_kinds ps)) (braced_kinds (entry_kinds body)) in
    wider from (from + length (entry_kinds body)) at _ (entries_spots body) (omega arith)
    (omega (arith, whole, paren-length (params_kinds ps), brace-length (entry_kinds body)))
    (rises-entries from body p.3)
rises-held at x p = omega arith

-- and so do its sites
pub rises-item : (w : Walk) (lines : List ℕ) (schemes : Schemes) (number at : ℕ) (x : ItemTree) → ItemAt at x →
    RisesWithin at (at + length (item_kinds x)) (item_sites w lines schemes number x)
rises-item w lines schemes number at (i.Function token b stars name ps (Some body)) p =
    let x = i.Function token b stars name ps (Some body) in
    rises-in (body_with w lines schemes number (entries_spots body)) at (at + length (item_kinds x)) (entries_spots body) (rises-held at x p)
rises-item w lines schemes number at x p = omega arith

rises-items : (w : Walk) (lines : List ℕ) (schemes : Schemes) (number at : ℕ) (xs : List ItemTree) → EachAt ItemAt item_kinds 0 at xs →
    RisesWithin at (at + length (flat_map item_kinds xs)) (items_sites w lines schemes number xs)
rises-items w lines schemes number at [] p = omega arith
rises-items w lines schemes number at (x ∷ xs) p =
    let lx = length (item_kinds x) in
    let lr = length (flat_map item_kinds xs) in
    let split : length (flat_map item_kinds (x ∷ xs)) ≡ length (item_kinds x ++ flat_map item_kinds xs) = ap length (flat_map-cons item_kinds x xs) in
    let next = number + length (defined_by x) in
    within at (at + lx + 0 + lr) at _ (item_sites w lines schemes number x ++ items_sites w lines schemes next xs) (omega arith)
    (omega (arith, split, length-append (item_kinds x) (flat_map item_kinds xs)))
    (behind at (at + lx) (at + lx + 0) (at + lx + 0 + lr) (item_sites w lines schemes number x) (items_sites w lines schemes next xs) (omega arith)
    (rises-item w lines schemes number at x p.0) (rises-items w lines schemes next (at + lx + 0) xs p.1))

pub rises : (t : SourceTree) (w : Walk) (schemes : Schemes) → IsShaped t → RisesWithin 0 (length (tree_kinds t)) (sites_of t w schemes)
rises t w schemes shaped =
    within 0 (0 + length (flat_map item_kinds t.items)) 0 (length (tree_kinds t)) (sites_of t w schemes) (omega arith) (omega arith)
    (rises-items w t.lines schemes 0 0 t.items shaped.placed)

-- Each site of a table belongs to one of its functions.
use Rattle.std.proofs.Common.{◌≡◌, ℕ, ◌+◌, ◌<◌, ◌≤◌, Bool, true, false, if◌then◌else◌, List}
use Rattle.std.proofs.Common.{[], ◌∷◌, ◌++◌, length, Option, Some, None, refl, arith, length-append}
use Rattle.std.specs.Prelude.{slice_get, ◌&&◌, option_map}
use Rattle.std.specs.List.{All}
use Rattle.std.proofs.lemmas.List.Elements.{All-append, All-map, All-nil, All-cons, All-weaker}
use Rattle.c_types_rules.specs.Words.{TypeTree, is_arithmetic}
use Rattle.c_types_expressions.specs.declared.walk.VariableEntry.{VariableEntry}
use Rattle.c_types_expressions.specs.declared.walk.Walk.{Walk}
use Rattle.c_types.specs.Answers.{declared_at, place_at}
use Rattle.c_syntax.specs.ItemTree as i
use Rattle.c_syntax.specs.ItemTree.{ItemTree}
use Rattle.flow.specs.declared.site.Site.{Site}
use Rattle.flow.specs.declared.site.SiteKind.{SiteKind}
use Rattle.flow.specs.declared.site.SiteKind.TheVariants as kind
use Rattle.flow.specs.declared.choice.Schemes.{Schemes}
use Rattle.sites.specs.declared.ground.Stand.{Stand}
use Rattle.sites.specs.declared.spots.Spot.{Spot}
use Rattle.sites.specs.declared.spots.Spot.TheVariants as spot
use Rattle.sites.specs.Bodies.{entries_spots}
use Rattle.sites.specs.SitesAt.{Body, stand_on, site_on, is_observed, pair_on, partners_of, pairs_of}
use Rattle.sites.specs.SitesAt.{pairs_on, named_pairs, spot_sites, sites_standing, sites_at_token, sites_at, sites_in, spot_token}
use Rattle.sites.specs.Visible.{slot_of}
use Rattle.defined_functions.specs.Functions.{defined_by, defined_in}
use Rattle.sites.specs.Table.{body_with, item_sites, items_sites}

-- what holds of every one of a list that may be left out
pub either : {X : Type 0} (P : X → Type 0) (c : Bool) (xs : List X) → All P xs → All P (if c then xs else [])
either P true xs all = all
either P false xs all = All-nil P

always : {X : Type 0} (P : X → Type 0) → ((x : X) → P x) → (xs : List X) → All P xs
always P holds [] = All-nil P
always P holds (x ∷ xs) = All-cons P x xs (holds x) (always P holds xs)

-- What holds of every site that stands somewhere holds of all sites that stand there.
pub standing-pairs : (P : Site → Type 0) (b : Body) (s : Stand) → ((k : SiteKind) → P (site_on s k)) →
    (place : ℕ) (t : TypeTree) (o : Option VariableEntry) → All P (pairs_of b s place t o)
standing-pairs P b s holds place t None = All-nil P
standing-pairs P b s holds place t (Some v) =
    let pair = pair_on s v.name (slot_of v.variable) in
    let ps = partners_of b.known b.constants s.token place t in
    All-map P pair ps (always (λ p. P (pair p)) (λ p. holds (kind.Pair v.name (slot_of v.variable) p)) ps)

standing-on : (P : Site → Type 0) (b : Body) (s : Stand) → ((k : SiteKind) → P (site_on s k)) → (place : Option ℕ) (t : Option TypeTree) →
    All P (pairs_on b s place t)
standing-on P b s holds (Some place) (Some t) =
    let o = slice_get b.known.variables place in
    either P (is_arithmetic t) (pairs_of b s place t o) (standing-pairs P b s holds place t o)
standing-on P b s holds None None = All-nil P
standing-on P b s holds None (Some t) = All-nil P
standing-on P b s holds (Some place) None = All-nil P

single : (P : Site → Type 0) (y : Site) → P y → All P (y ∷ [])
single P y holds = All-cons P y [] holds (All-nil P)

pub standing : (P : Site → Type 0) (b : Body) (s : Stand) → ((k : SiteKind) → P (site_on s k)) → (x : Spot) → All P (spot_sites b s x)
standing P b s holds (spot.Branch token word) = either P b.schemes.branches (site_on s (kind.Branch word) ∷ []) (single P (site_on s (kind.Branch word))
    (holds (kind.Branch word)))
standing P b s holds (spot.Call token name) =
    either P (b.schemes.returns && is_observed b.known s.token name) (site_on s (kind.Return name) ∷ []) (single P (site_on s (kind.Return name)) (holds
    (kind.Return name)))
standing P b s holds (spot.Change token target) =
    either P b.schemes.pairs (named_pairs b s target) (standing-on P b s holds (place_at b.known target) (declared_at b.known target))
standing P b s holds (spot.Constant value) = All-nil P

-- the site belongs to the function
abbrev pub BelongsTo : ℕ → Site → Type 0
BelongsTo n s = s.function ≡ n

pub on-line : (b : Body) (x : Spot) (token : ℕ) (o : Option ℕ) → All (BelongsTo b.function) (sites_standing b x (option_map (stand_on b.function token) o))
on-line b x token None = All-nil (BelongsTo b.function)
on-line b x token (Some line) = standing (BelongsTo b.function) b (stand_on b.function token line) (λ k. refl) x

pub at-token : (b : Body) (x : Spot) (o : Option ℕ) → All (BelongsTo b.function) (sites_at_token b x o)
at-token b x None = All-nil (BelongsTo b.function)
at-token b x (Some token) = on-line b x token (slice_get b.lines token)

pub in-body : (b : Body) (xs : List Spot) → All (BelongsTo b.function) (sites_in b xs)
in-body b [] = All-nil (BelongsTo b.function)
in-body b (x ∷ xs) = All-append (BelongsTo b.function) (sites_at b x) (sites_in b xs) (at-token b x (spot_token x)) (in-body b xs)

below : (n m : ℕ) → n < m → (xs : List Site) → All (BelongsTo n) xs → All (λ s. s.function < m) xs
below n m less xs all = All-weaker (BelongsTo n) (λ s. s.function < m) (λ s is. omega (arith, is, less)) xs all

in-item : (w : Walk) (lines : List ℕ) (schemes : Schemes) (number m : ℕ) (x : ItemTree) → number + length (defined_by x) ≤ m →
    All (λ s. s.function < m) (item_sites w lines schemes number x)
in-item w lines schemes number m (i.Function token b stars name ps (Some body)) few =
    let spots = entries_spots body in
    below number m (omega (arith, few)) (sites_in (body_with w lines schemes number spots) spots) (in-body (body_with w lines schemes number spots) spots)
in-item w lines schemes number m x few = All-nil (λ s. s.function < m)

pub owned : (w : Walk) (lines : List ℕ) (schemes : Schemes) (number m : ℕ) (xs : List ItemTree) → number + length (defined_in xs) ≤ m →
    All (λ s. s.function < m) (items_sites w lines schemes number xs)
owned w lines schemes number m [] few = All-nil (λ s. s.function < m)
owned w lines schemes number m (x ∷ xs) few =
    let both : length (defined_by x ++ defined_in xs) ≡ length (defined_by x) + length (defined_in xs) = length-append (defined_by x) (defined_in xs) in
    let next = number + length (defined_by x) in
    All-append (λ s. s.function < m) (item_sites w lines schemes number x) (items_sites w lines schemes next xs)
    (in-item w lines schemes number m x (omega (arith, few, both)))
    (owned w lines schemes next m xs (omega (arith, few, both)))

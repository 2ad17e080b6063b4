-- The table for some schemes is what they want of the table for all.
use Rattle.std.proofs.Common.{◌≡◌, ℕ, ◌+◌, Bool, true, false, cond, if◌then◌else◌, List, [], ◌∷◌, ◌++◌, length, map, Option, Some, None, refl, sym, ap, ◌∙◌}
use Rattle.std.specs.Prelude.{slice_get, ◌&&◌, option_map, filter}
use Rattle.std.proofs.lemmas.List.Elements.{filter-append}
use Rattle.c_types_rules.specs.Words.{TypeTree, is_arithmetic}
use Rattle.c_types_expressions.specs.declared.walk.VariableEntry.{VariableEntry}
use Rattle.c_types_expressions.specs.declared.walk.Walk.{Walk}
use Rattle.c_types.specs.Answers.{declared_at, place_at}
use Rattle.c_syntax.specs.ItemTree as i
use Rattle.c_syntax.specs.ItemTree.{ItemTree, SourceTree}
use Rattle.flow.specs.declared.site.Site.{Site}
use Rattle.flow.specs.declared.site.SiteKind.{SiteKind}
use Rattle.flow.specs.declared.site.SiteKind.TheVariants as kind
use Rattle.flow.specs.declared.choice.Schemes.{Schemes}
use Rattle.sites.specs.declared.ground.Stand.{Stand}
use Rattle.sites.specs.declared.spots.Spot.{Spot}
use Rattle.sites.specs.declared.spots.Spot.TheVariants as spot
use Rattle.sites.specs.Bodies.{entries_spots}
use Rattle.sites.specs.SitesAt.{Body, stand_on, site_on, is_observed, pair_on, partners_of, pairs_of}
use Rattle.sites.specs.SitesAt.{pairs_on, spot_sites, sites_standing, sites_at_token, sites_at, sites_in, spot_token}
use Rattle.sites.specs.Visible.{slot_of}
use Rattle.defined_functions.specs.Functions.{defined_by}
use Rattle.sites.specs.Table.{body_with, item_sites, items_sites, sites_of}
use Rattle.sites.specs.Wanted.{all_schemes, no_schemes, is_site_wanted, wanted_sites}

-- a filter keeps all of a list, or nothing
kept-all : {X Y : Type 0} (q : X → Bool) (f : Y → X) → ((y : Y) → q (f y) ≡ true) → (ys : List Y) → filter q (map f ys) ≡ map f ys
kept-all q f pass [] = refl
kept-all q f pass (y ∷ ys) = ap (λ b. cond b (f y ∷ filter q (map f ys)) (filter q (map f ys))) (pass y) ∙ ap (λ l. f y ∷ l) (kept-all q f pass ys)

kept-none : {X : Type 0} (q : X → Bool) → ((x : X) → q x ≡ false) → (xs : List X) → filter q xs ≡ []
kept-none q out [] = refl
kept-none q out (x ∷ xs) = ap (λ b. cond b (x ∷ filter q xs) (filter q xs)) (out x) ∙ kept-none q out xs

kept-map : {X Y : Type 0} (q : X → Bool) (f : Y → X) (c : Bool) → ((y : Y) → q (f y) ≡ c) → (ys : List Y) → (if c then map f ys else []) ≡ filter q (map f ys)
kept-map q f true pass ys = sym (kept-all q f pass ys)
kept-map q f false out [] = refl
kept-map q f false out (y ∷ ys) = kept-map q f false out ys ∙ sym (ap (λ b. cond b (f y ∷ filter q (map f ys)) (filter q (map f ys))) (out y))

abbrev no_sites : List Site
no_sites = []

nothing : (c : Bool) → (if c then no_sites else []) ≡ no_sites
nothing true = refl
nothing false = refl

abbrev widened : Body → Body
widened b = record { known = b.known; lines = b.lines; schemes = all_schemes; function = b.function; constants = b.constants }

kept-pairs_of : (b : Body) (s : Stand) (place : ℕ) (t : TypeTree) (o : Option VariableEntry) →
    (if b.schemes.pairs then pairs_of b s place t o else []) ≡ wanted_sites b.schemes (pairs_of (widened b) s place t o)
kept-pairs_of b s place t None = nothing b.schemes.pairs
kept-pairs_of b s place t (Some v) =
    kept-map (λ (x : Site). is_site_wanted b.schemes x.kind) (pair_on s v.name (slot_of v.variable)) b.schemes.pairs (λ p. refl)
    (partners_of b.known b.constants s.token place t)

kept-numbers : (b : Body) (s : Stand) (place : ℕ) (t : TypeTree) (n : Bool) (o : Option VariableEntry) →
    (if b.schemes.pairs then (if n then pairs_of b s place t o else []) else []) ≡ wanted_sites b.schemes (if n then pairs_of (widened b) s place t o else [])
kept-numbers b s place t true o = kept-pairs_of b s place t o
kept-numbers b s place t false o = nothing b.schemes.pairs

kept-pairs_on : (b : Body) (s : Stand) (place : Option ℕ) (t : Option TypeTree) →
    (if b.schemes.pairs then pairs_on b s place t else []) ≡ wanted_sites b.schemes (pairs_on (widened b) s place t)
kept-pairs_on b s (Some place) (Some t) = kept-numbers b s place t (is_arithmetic t) (slice_get b.known.variables place)
kept-pairs_on b s None None = nothing b.schemes.pairs
kept-pairs_on b s None (Some t) = nothing b.schemes.pairs
kept-pairs_on b s (Some place) None = nothing b.schemes.pairs

kept-return : (schemes : Schemes) (observed : Bool) (y : Site) → is_site_wanted schemes y.kind ≡ schemes.returns →
    (if schemes.returns && observed then y ∷ [] else []) ≡ wanted_sites schemes (if observed then y ∷ [] else [])
kept-return schemes true y same = by schemes.returns same
  where
    by : (c : Bool) → is_site_wanted schemes y.kind ≡ c → (if c && true then y ∷ [] else []) ≡ wanted_sites schemes (y ∷ [])
    by true is = sym (ap (λ b. cond b (y ∷ []) []) is)
    by false is = sym (ap (λ b. cond b (y ∷ []) []) is)
kept-return schemes false y same = by schemes.returns
  where
    by : (c : Bool) → (if c && false then y ∷ [] else []) ≡ no_sites
    by true = refl
    by false = refl

kept-spot : (b : Body) (s : Stand) (x : Spot) → spot_sites b s x ≡ wanted_sites b.schemes (spot_sites (widened b) s x)
kept-spot b s (spot.Branch token word) = refl
kept-spot b s (spot.Call token name) = kept-return b.schemes (is_observed b.known s.token name) (site_on s (kind.Return name)) refl
kept-spot b s (spot.Change token target) = kept-pairs_on b s (place_at b.known target) (declared_at b.known target)
kept-spot b s (spot.Constant value) = refl

kept-on_line : (b : Body) (x : Spot) (token : ℕ) (o : Option ℕ) →
    sites_standing b x (option_map (stand_on b.function token) o) ≡ wanted_sites b.schemes (sites_standing (widened b) x (option_map (stand_on b.function token) o))
kept-on_line b x token None = refl
kept-on_line b x token (Some line) = kept-spot b (stand_on b.function token line) x

kept-at_token : (b : Body) (x : Spot) (o : Option ℕ) → sites_at_token b x o ≡ wanted_sites b.schemes (sites_at_token (widened b) x o)
kept-at_token b x None = refl
kept-at_token b x (Some token) = kept-on_line b x token (slice_get b.lines token)

kept-in : (b : Body) (xs : List Spot) → sites_in b xs ≡ wanted_sites b.schemes (sites_in (widened b) xs)
kept-in b [] = refl
kept-in b (x ∷ xs) =
    ap (λ l. l ++ sites_in b xs) (kept-at_token b x (spot_token x))
    ∙ ap (λ l. wanted_sites b.schemes (sites_at (widened b) x) ++ l) (kept-in b xs)
    ∙ sym (filter-append (λ (y : Site). is_site_wanted b.schemes y.kind) (sites_at (widened b) x) (sites_in (widened b) xs))

kept-item : (w : Walk) (lines : List ℕ) (schemes : Schemes) (number : ℕ) (x : ItemTree) → item_sites w lines schemes number x ≡
    wanted_sites schemes (item_sites w lines all_schemes number x)
kept-item w lines schemes number (i.Function token b stars name ps (Some body)) = kept-in (body_with w lines schemes number (entries_spots body))
    (entries_spots body)
kept-item w lines schemes number x = refl

kept-items : (w : Walk) (lines : List ℕ) (schemes : Schemes) (number : ℕ) (xs : List ItemTree) → items_sites w lines schemes number xs ≡
    wanted_sites schemes (items_sites w lines all_schemes number xs)
kept-items w lines schemes number [] = refl
kept-items w lines schemes number (x ∷ xs) =
    let next = number + length (defined_by x) in
    ap (λ l. l ++ items_sites w lines schemes next xs) (kept-item w lines schemes number x)
    ∙ ap (λ l. wanted_sites schemes (item_sites w lines all_schemes number x) ++ l) (kept-items w lines schemes next xs)
    ∙ sym (filter-append (λ (y : Site). is_site_wanted schemes y.kind) (item_sites w lines all_schemes number x) (items_sites w lines all_schemes next xs))

pub kept : (t : SourceTree) (w : Walk) (schemes : Schemes) → sites_of t w schemes ≡ wanted_sites schemes (sites_of t w all_schemes)
kept t w schemes = kept-items w t.lines schemes 0 t.items

unwanted : (k : SiteKind) → is_site_wanted no_schemes k ≡ false
unwanted (kind.Branch word) = refl
unwanted (kind.Return callee) = refl
unwanted (kind.Pair target slot partner) = refl

pub none : (t : SourceTree) (w : Walk) → sites_of t w no_schemes ≡ []
none t w = kept t w no_schemes ∙ kept-none (λ (y : Site). is_site_wanted no_schemes y.kind) (λ y. unwanted y.kind) (sites_of t w all_schemes)

-- The sites of a text for all schemes, in the words of its tree (PLDI 2005 section 2).
use Rattle.std.specs.Prelude.{◌≡◌, ◌⊎◌, ℕ, ◌+◌, ◌==◌, true, false, ◌&&◌, ◌||◌, if◌then◌else◌, Bool, List, [], ◌∷◌, ◌++◌, map, Option, Some, None, is_some}
use Rattle.std.specs.Prelude.{codes, slice_get}
use Rattle.std.specs.List.{AllByRecursion, list_any}
use Rattle.std.specs.Str.{bytes_eq}
use Rattle.c_syntax.specs.ItemTree as i
use Rattle.c_syntax.specs.ItemTree.{ItemTree, SourceTree}
use Rattle.c_types_rules.specs.Words.{TypeTree, is_arithmetic}
use Rattle.c_types_expressions.specs.declared.walk.VariableEntry.{VariableEntry}
use Rattle.c_types_expressions.specs.declared.walk.Walk.{Walk}
use Rattle.c_types.specs.Answers.{declared_at, place_at, type_at}
use Rattle.c_types_faults.specs.NotedCalls.{name_number}
use Rattle.c_types_faults.specs.Events.{Event, Variable, events_of, is_point, is_point_at}
use Rattle.c_types_faults.specs.Scopes.{scopes_of}
use Rattle.flow.specs.declared.site.Partner.{Partner}
use Rattle.flow.specs.declared.site.Partner.TheVariants as partner
use Rattle.flow.specs.declared.site.Site.{Site}
use Rattle.flow.specs.declared.site.SiteKind.TheVariants as kind
use Rattle.sites.specs.declared.ground.Stand.{Stand}
use Rattle.sites.specs.declared.spots.Spot.{Spot}
use Rattle.sites.specs.declared.spots.Spot.TheVariants as spot
use Rattle.sites.specs.Bodies.{entries_spots}
use Rattle.sites.specs.SitesAt.{Body, gives_scalar, pair_on, site_on, spot_sites}
use Rattle.defined_functions.specs.Functions.{functions_of}
use Rattle.sites.specs.Table.{body_with}
use Rattle.sites.specs.Visible.{slot_of}
use Rattle.sites.specs.Wanted.{all_schemes}
use Rattle.sites_laws.specs.Partners.{partners_in}

-- whether the call gives a scalar, and is of a function that the text defines, of `getchar` or of `malloc`
abbrev pub is_seen : SourceTree → Walk → ℕ → List ℕ → Bool
is_seen t w token name =
    gives_scalar (type_at w token)
    && (is_some (name_number name 0 (functions_of t)) || bytes_eq name (codes "getchar") || bytes_eq name (codes "malloc"))

-- what a new value is compared with: the other variables of its type that are in scope, and then the distinct constants of the body
abbrev pub compared_with : SourceTree → Body → ℕ → ℕ → TypeTree → List Partner
compared_with t b token place of = partners_in b.known token place of 0 b.known.variables (scopes_of t) ++ map partner.Constant b.constants

abbrev pub pairs_with : List Partner → Stand → Option VariableEntry → List Site
pairs_with partners s None = []
pairs_with partners s (Some v) = map (pair_on s v.name (slot_of v.variable)) partners

-- the pairs of the variable at the place, where it holds a number
abbrev pub pairs_at : SourceTree → Body → Stand → Option ℕ → Option TypeTree → List Site
pairs_at t b s (Some place) (Some of) =
    if is_arithmetic of then pairs_with (compared_with t b s.token place of) s (slice_get b.known.variables place) else []
pairs_at t b s place of = []

abbrev pub is_variable_event : ℕ → Event → Bool
is_variable_event token (Variable own) = own == token
is_variable_event token event = false

-- A new value is given at the own token of an expression, or right behind the name that declares the variable.
abbrev pub IsGiven : List Event → ℕ → ℕ → Type 0
IsGiven events token target =
    (list_any (is_point_at token) events ≡ true) ⊎ ((token ≡ target + 1) × (list_any (is_variable_event target) events ≡ true))

-- A branch has one site. A call has one where it is seen. A new value, at the own token of an expression or the `=` of an initialiser, has one with
-- each that it is compared with.
abbrev pub SpotTold : SourceTree → Body → Spot → Type 0
SpotTold t b (spot.Branch token word) = (s : Stand) → spot_sites b s (spot.Branch token word) ≡ site_on s (kind.Branch word) ∷ []
SpotTold t b (spot.Call token name) = (s : Stand) → s.token ≡ token
    → spot_sites b s (spot.Call token name) ≡ (if is_seen t b.known token name then site_on s (kind.Return name) ∷ [] else [])
SpotTold t b (spot.Change token target) = IsGiven (events_of t) token target × ((s : Stand) → s.token ≡ token → is_point t token ≡ true
    → spot_sites b s (spot.Change token target) ≡ pairs_at t b s (place_at b.known target) (declared_at b.known target))
SpotTold t b (spot.Constant value) = (s : Stand) → spot_sites b s (spot.Constant value) ≡ []

-- all that stands in the body of the function with this number
abbrev pub ItemTold : SourceTree → Walk → ℕ → ItemTree → Type 0
ItemTold t w number (i.Function token b stars name ps (Some body)) =
    AllByRecursion (SpotTold t (body_with w t.lines all_schemes number (entries_spots body))) (entries_spots body)
ItemTold t w number item = Unit {0}

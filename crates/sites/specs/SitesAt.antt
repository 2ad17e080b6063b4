-- The sites that stand at a token (PLDI 2005 section 2).
use Rattle.std.specs.Prelude.{ℕ, ℤ, Bool, false, ◌&&◌, ◌||◌, if◌then◌else◌, List, []}
use Rattle.std.specs.Prelude.{◌∷◌, ◌++◌, map, Option, Some, None, option_map, is_some, slice_get, codes}
use Rattle.std.specs.Str.{bytes_eq}
use Rattle.c_types_rules.specs.Words.{TypeTree, is_arithmetic, is_scalar}
use Rattle.c_types_expressions.specs.declared.walk.VariableEntry.{VariableEntry}
use Rattle.c_types_expressions.specs.declared.walk.Walk.{Walk}
use Rattle.c_types.specs.Answers.{declared_at, function_at, place_at, type_at}
use Rattle.flow.specs.declared.site.BranchWord.{BranchWord}
use Rattle.flow.specs.declared.site.Partner.{Partner}
use Rattle.flow.specs.declared.site.Partner.TheVariants as partner
use Rattle.flow.specs.declared.site.Site.{Site}
use Rattle.flow.specs.declared.site.SiteKind.{SiteKind}
use Rattle.flow.specs.declared.site.SiteKind.TheVariants as kind
use Rattle.flow.specs.declared.site.Slot.{Slot}
use Rattle.flow.specs.declared.choice.Schemes.{Schemes}
use Rattle.sites.specs.declared.ground.Stand.{Stand}
use Rattle.sites.specs.declared.spots.Spot.{Spot}
use Rattle.sites.specs.declared.spots.Spot.TheVariants as spot
use Rattle.sites.specs.Visible.{slot_of, variable_partners}

-- what the sites of a function's body are made from: what is known of the tree, the lines of its tokens, the wanted schemes, the
-- function's number, and the distinct constants of the body
pub record Body : Type 0 where
  pub known : Walk
  pub lines : List ℕ
  pub schemes : Schemes
  pub function : ℕ
  pub constants : List ℤ

abbrev pub stand_on : ℕ → ℕ → ℕ → Stand
stand_on function token line = record { function = function; line = line; token = token }

-- where a site at the token stands
abbrev pub stand_at : Body → ℕ → Option Stand
stand_at b token = option_map (stand_on b.function token) (slice_get b.lines token)

abbrev pub site_on : Stand → SiteKind → Site
site_on s k = record { kind = k; function = s.function; line = s.line; token = s.token }

abbrev pub gives_scalar : Option TypeTree → Bool
gives_scalar None = false
gives_scalar (Some t) = is_scalar t

-- whether the call at the token gives a scalar, and is one of a defined function, of `getchar` or of `malloc`
abbrev pub is_observed : Walk → ℕ → List ℕ → Bool
is_observed w token name =
    gives_scalar (type_at w token) && (is_some (function_at w token) || bytes_eq name (codes "getchar") || bytes_eq name (codes "malloc"))

-- what a new value of the variable at the place, which has this type, is compared with: the variables before the constants
unfoldable pub partners_of : Walk → List ℤ → ℕ → ℕ → TypeTree → List Partner
partners_of w constants token place t = variable_partners w token place t 0 w.variables ++ map partner.Constant constants

abbrev pub pair_on : Stand → List ℕ → Slot → Partner → Site
pair_on s name own p = site_on s (kind.Pair name own p)

abbrev pub pairs_of : Body → Stand → ℕ → TypeTree → Option VariableEntry → List Site
pairs_of b s place t None = []
pairs_of b s place t (Some v) = map (pair_on s v.name (slot_of v.variable)) (partners_of b.known b.constants s.token place t)

-- the pairs of a variable that gets a new value, where it holds a number
abbrev pub pairs_on : Body → Stand → Option ℕ → Option TypeTree → List Site
pairs_on b s (Some place) (Some t) = if is_arithmetic t then pairs_of b s place t (slice_get b.known.variables place) else []
pairs_on b s place t = []

-- the pairs of the variable whose name stands at the token `target`
abbrev pub named_pairs : Body → Stand → ℕ → List Site
named_pairs b s target = pairs_on b s (place_at b.known target) (declared_at b.known target)

abbrev pub branch_sites : Body → Stand → BranchWord → List Site
branch_sites b s word = if b.schemes.branches then site_on s (kind.Branch word) ∷ [] else []

abbrev pub return_sites : Body → Stand → List ℕ → List Site
return_sites b s name = if b.schemes.returns && is_observed b.known s.token name then site_on s (kind.Return name) ∷ [] else []

abbrev pub change_sites : Body → Stand → ℕ → List Site
change_sites b s target = if b.schemes.pairs then named_pairs b s target else []

-- the sites of a construct that stands there
abbrev pub spot_sites : Body → Stand → Spot → List Site
spot_sites b s (spot.Branch token word) = branch_sites b s word
spot_sites b s (spot.Call token name) = return_sites b s name
spot_sites b s (spot.Change token target) = change_sites b s target
spot_sites b s (spot.Constant value) = []

-- the token at which the sites of a construct stand
abbrev pub spot_token : Spot → Option ℕ
spot_token (spot.Branch token word) = Some token
spot_token (spot.Call token name) = Some token
spot_token (spot.Change token target) = Some token
spot_token (spot.Constant value) = None

abbrev pub sites_standing : Body → Spot → Option Stand → List Site
sites_standing b x None = []
sites_standing b x (Some s) = spot_sites b s x

abbrev pub sites_at_token : Body → Spot → Option ℕ → List Site
sites_at_token b x None = []
sites_at_token b x (Some token) = sites_standing b x (stand_at b token)

-- the sites that stand at a construct
abbrev pub sites_at : Body → Spot → List Site
sites_at b x = sites_at_token b x (spot_token x)

-- the sites of a body's constructs, one construct after another
abbrev pub sites_in : Body → List Spot → List Site
sites_in b [] = []
sites_in b (x ∷ xs) = sites_at b x ++ sites_in b xs

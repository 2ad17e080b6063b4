-- The site table of a tree: for each defined function, in the order of the definitions, for each construct of its body, in the order of the
-- tokens, the sites that stand there, those with one partner after another.
use Rattle.std.specs.Prelude.{ℕ, ◌+◌, List, [], ◌∷◌, ◌++◌, length, Some}
use Rattle.c_syntax.specs.ItemTree as i
use Rattle.c_syntax.specs.ItemTree.{ItemTree, SourceTree}
use Rattle.c_types_expressions.specs.declared.walk.Walk.{Walk}
use Rattle.defined_functions.specs.Functions.{defined_by}
use Rattle.flow.specs.declared.site.Site.{Site}
use Rattle.flow.specs.declared.choice.Schemes.{Schemes}
use Rattle.sites.specs.declared.spots.Spot.{Spot}
use Rattle.sites.specs.Bodies.{entries_spots}
use Rattle.sites.specs.Constants.{constants_of}
use Rattle.sites.specs.SitesAt.{Body, sites_in}

abbrev pub body_with : Walk → List ℕ → Schemes → ℕ → List Spot → Body
body_with w lines schemes number spots = record { known = w; lines = lines; schemes = schemes; function = number; constants = constants_of spots }

-- the sites of the function with this number and body
abbrev pub body_sites : Walk → List ℕ → Schemes → ℕ → List Spot → List Site
body_sites w lines schemes number spots = sites_in (body_with w lines schemes number spots) spots

abbrev pub item_sites : Walk → List ℕ → Schemes → ℕ → ItemTree → List Site
item_sites w lines schemes number (i.Function token b stars name ps (Some body)) = body_sites w lines schemes number (entries_spots body)
item_sites w lines schemes number item = []

-- the sites of these items, of which the first definition has this number
abbrev pub items_sites : Walk → List ℕ → Schemes → ℕ → List ItemTree → List Site
items_sites w lines schemes number [] = []
items_sites w lines schemes number (x ∷ xs) = item_sites w lines schemes number x ++ items_sites w lines schemes (number + length (defined_by x)) xs

-- the sites of a tree of which this is known, for some schemes
abbrev pub sites_of : SourceTree → Walk → Schemes → List Site
sites_of t w schemes = items_sites w t.lines schemes 0 t.items

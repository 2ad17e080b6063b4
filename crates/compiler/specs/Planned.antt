-- The sites that a plan asks for.
use Rattle.std.specs.Prelude.{◌≤◌, List, [], length, Option, None}
use Rattle.c_syntax.specs.ItemTree.{SourceTree}
use Rattle.c_types_expressions.specs.declared.walk.Walk.{Walk}
use Rattle.flow.specs.declared.site.Site.{Site}
use Rattle.flow.specs.Limits.{site_limit}
use Rattle.flow.specs.declared.choice.Schemes.{Schemes}
use Rattle.sites.specs.Table.{sites_of}
use Rattle.sites.specs.Wanted.{no_schemes}
use Rattle.flow.specs.declared.choice.Part.{Part}
use Rattle.compiler.specs.declared.plan.Plan.{Plan}
use Rattle.compiler.specs.declared.plan.Plan.TheVariants as plan

-- the schemes whose sites the program has
abbrev pub schemes_of : Plan → Schemes
schemes_of plan.Plain = no_schemes
schemes_of (plan.Full schemes part) = schemes
schemes_of (plan.Sampled schemes part) = schemes

-- the part of the sites that the program has, where it hasn't all of them
abbrev pub part_in : Plan → Option Part
part_in plan.Plain = None
part_in (plan.Full schemes part) = part
part_in (plan.Sampled schemes part) = part

-- the sites of a text by a plan, before a part of them is taken; a plain program has none
abbrev pub planned_sites : Plan → SourceTree → Walk → List Site
planned_sites plan.Plain tree known = []
planned_sites (plan.Full schemes part) tree known = sites_of tree known schemes
planned_sites (plan.Sampled schemes part) tree known = sites_of tree known schemes

-- a program has room for them
abbrev pub FitsPlan : Plan → SourceTree → Walk → Type 0
FitsPlan plan tree known = length (planned_sites plan tree known) ≤ site_limit

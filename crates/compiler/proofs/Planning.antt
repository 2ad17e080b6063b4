-- The sites of a plan are those of its schemes.
use Rattle.std.proofs.Common.{◌≡◌, ◌<◌, ◌≤◌, refl, subst, ap, ◌∙◌, inl, inr, List, [], length}
use Rattle.std.proofs.lemmas.Bool.{cases_lt}
use Rattle.c_syntax.specs.ItemTree.{SourceTree}
use Rattle.c_types_expressions.specs.declared.walk.Walk.{Walk}
use Rattle.flow.specs.declared.site.Site.{Site}
use Rattle.flow.specs.Limits.{site_limit}
use Rattle.flow.specs.declared.choice.Schemes.{Schemes}
use Rattle.sites.specs.Table.{sites_of}
use Rattle.sites.specs.Wanted.{no_schemes}
use Rattle.lower_fits.specs.Ready.{AreSitesOf}
use Rattle.compiler.specs.declared.plan.Plan.{Plan}
use Rattle.compiler.specs.declared.plan.Plan.TheVariants as plan
use Rattle.compiler.specs.Planned.{planned_sites, schemes_of}

abbrev pub NoneWithout : Type 0
NoneWithout = (t : SourceTree) (w : Walk) → sites_of t w no_schemes ≡ []

pub planned : NoneWithout → (plan : Plan) (tree : SourceTree) (known : Walk) → sites_of tree known (schemes_of plan) ≡ planned_sites plan tree known
planned none plan.Plain tree known = none tree known
planned none (plan.Full schemes part) tree known = refl
planned none (plan.Sampled schemes part) tree known = refl

-- a table made for the plan's schemes has the plan's sites
pub planned_table : NoneWithout → (plan : Plan) (tree : SourceTree) (known : Walk) (schemes : Schemes) → schemes ≡ schemes_of plan → sites_of tree known schemes ≡ planned_sites plan tree known
planned_table none plan tree known schemes same = ap (sites_of tree known) same ∙ planned none plan tree known

-- there are few of them where too many would have been refused
pub few_sites : (made sites : List Site) → made ≡ sites → (site_limit < length made → ⊥) → length sites ≤ site_limit
few_sites made sites same refused =
    elim (cases_lt site_limit (length made)) [ inl more ↦ absurd (refused more) | inr few ↦ subst (λ (s : List Site). length s ≤ site_limit) same few ]

pub many_sites : (made sites : List Site) → made ≡ sites → site_limit < length made → site_limit < length sites
many_sites made sites same many = subst (λ (s : List Site). site_limit < length s) same many

-- they are sites of the text, or there are none
pub planned_are : (plan : Plan) (tree : SourceTree) (known : Walk) (sites : List Site) → sites ≡ planned_sites plan tree known → AreSitesOf tree known sites
planned_are plan.Plain tree known sites e = inl e
planned_are (plan.Full schemes part) tree known sites e = inr (schemes, e)
planned_are (plan.Sampled schemes part) tree known sites e = inr (schemes, e)

-- The visits of sites (PLDI 2005 section 2): a condition's, a returned value's, and those of an assigned variable.
use Rattle.std.specs.Prelude.{ℕ, List, [], ◌∷◌, ◌++◌, Bool, Option, Some, None}
use Rattle.cbi_base.specs.declared.observation.Seen.{Seen}
use Rattle.cbi_base.specs.declared.scalar.Scalar.{Scalar}
use Rattle.cbi_base.specs.Scalars.{truth_of}
use Rattle.flow.specs.Truths.{seen_at_site}
use Rattle.c_meaning.specs.Facts.{Setting}
use Rattle.c_meaning.specs.World.{World, Out, Go, bind, answer_or_trap}

abbrev pub world_with_seen : ℕ → Seen → World → World
world_with_seen site seen w = record w { seen = w.seen ++ record { site = site; seen = seen } ∷ [] }

abbrev pub site_list : Option ℕ → List ℕ
site_list None = []
site_list (Some site) = site ∷ []

abbrev pub truth_value : Scalar → World → Out Bool
truth_value v w = answer_or_trap (truth_of v) w

module _ (s : Setting) where
  -- one visit: the site sees the value, which goes on
  abbrev pub observed_value : ℕ → Scalar → World → Out Scalar
  observed_value site v w =
      bind (answer_or_trap (seen_at_site (s.sites.site site) (Some v) s.locals w.objects) w) (λ seen u. Go v (world_with_seen site seen u))

  -- visits of several sites, one after another
  abbrev pub sites_visited : List ℕ → Scalar → World → Out Scalar
  sites_visited [] v w = Go v w
  sites_visited (site ∷ more) v w = bind (observed_value site v w) (sites_visited more)

  -- a condition's value, with the visit of its site
  abbrev pub visited_truth : ℕ → Scalar → World → Out Bool
  visited_truth token v w = bind (sites_visited (site_list (s.sites.branch_at token)) v w) truth_value

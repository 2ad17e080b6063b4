-- The line of the sites that were seen first.
use Rattle.std.specs.Prelude.{ℕ, List, [], ◌∷◌, ◌==◌, not, filter, take, codes}
use Rattle.cbi_base.specs.declared.observation.Observation.{Observation}
use Rattle.probes.specs.Sites.{most_sites, sites_seen, sites_line}

-- the distinct sites of a list, each where it stands first
abbrev pub firsts_of : List ℕ → List ℕ
firsts_of [] = []
firsts_of (site ∷ sites) = site ∷ filter (λ other. not (other == site)) (firsts_of sites)

-- the distinct sites of a list that a line has room for
abbrev pub first_of : List ℕ → List ℕ
first_of sites = take most_sites (firsts_of sites)

-- the first distinct sites of observations
abbrev pub first_sites : List Observation → List ℕ
first_sites seen = first_of (sites_seen seen)

-- the first distinct sites, in order of first observation
abbrev pub first_line : List Observation → List ℕ
first_line seen = sites_line (codes "first") (first_sites seen)

-- The line of the sites that were seen last.
use Rattle.std.specs.Prelude.{ℕ, ◌-◌, List, length, drop, codes}
use Rattle.cbi_base.specs.declared.observation.Observation.{Observation}
use Rattle.probes.specs.Sites.{most_sites, sites_seen, sites_line}

-- the last so many of a list, in order
abbrev pub last_of : ℕ → List ℕ → List ℕ
last_of most sites = drop (length sites - most) sites

-- the sites of the last observations
abbrev pub last_sites : List Observation → List ℕ
last_sites seen = last_of most_sites (sites_seen seen)

-- the sites of the last observations, oldest first
abbrev pub last_seen_line : List Observation → List ℕ
last_seen_line seen = sites_line (codes "last") (last_sites seen)

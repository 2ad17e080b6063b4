-- The line of the sites that were seen most often.
use Rattle.std.specs.Prelude.{◌≡◌, ℕ, ◌≤◌, ◌+◌, ◌*◌, ◌^◌, Bool, ◌&&◌, ◌||◌, ◌==◌, nat_lt, nat_le, Option, None, Some, if◌then◌else◌}
use Rattle.std.specs.Prelude.{List, ◌++◌, length, Contains, count_by, find, codes, slice_index}
use Rattle.std.specs.List.{list_all}
use Rattle.std.specs.Option.{option_map}
use Rattle.cbi_base.specs.Text.{line_with_newline}
use Rattle.cbi_base.specs.declared.observation.Observation.{Observation}
use Rattle.probes.specs.Sites.{sites_seen, number_field}

-- how often the site was observed
abbrev pub times_of : List ℕ → ℕ → ℕ
times_of sites site = count_by (λ other. other == site) sites

-- the site was observed more often than the other, or as often and isn't the greater
abbrev pub is_site_ahead_of : List ℕ → ℕ → ℕ → Bool
is_site_ahead_of sites site other = nat_lt (times_of sites other) (times_of sites site) || (times_of sites other == times_of sites site && nat_le site other)

-- the site that was observed most often, the smallest among equals
abbrev pub hottest_of : List ℕ → Option ℕ
hottest_of sites = find (λ site. list_all (is_site_ahead_of sites site) sites) sites

-- the same site, with how often it was observed
abbrev pub best_of : List ℕ → Option (ℕ × ℕ)
best_of sites = option_map (λ site. (site, times_of sites site)) (hottest_of sites)

-- how often a site was observed, from the list of counts by number and the sites whose count was full and began again at zero, one for each time
abbrev pub whole_count : List ℕ → List ℕ → ℕ → ℕ
whole_count counts carried site = slice_index counts site + 2 ^ 64 * times_of carried site

-- counts, and what was carried from them, say of each site how often it was observed
pub record AreCounted (counts carried sites : List ℕ) : Type 0 where
  pub times : (site : ℕ) → whole_count counts carried site ≡ times_of sites site
  pub past : (site : ℕ) → length counts ≤ site → times_of carried site ≡ 0
  pub few : length counts ≤ 2 ^ 32

-- the line with this site and this count
abbrev pub count_line : Option (ℕ × ℕ) → List ℕ
count_line None = line_with_newline (codes "hottest none")
count_line (Some best) = line_with_newline (codes "hottest" ++ number_field best.0 ++ number_field best.1)

-- the site that was observed most often, and how often it was
abbrev pub hottest_line : List Observation → List ℕ
hottest_line seen = count_line (best_of (sites_seen seen))

-- of the best so far and another site, with how often each was observed, the one that was observed more often, or else the smaller
abbrev pub hotter_site : Option (ℕ × ℕ) → ℕ × ℕ → Option (ℕ × ℕ)
hotter_site None next = Some next
hotter_site (Some best) next = if nat_lt next.1 best.1 || (best.1 == next.1 && nat_lt best.0 next.0) then Some best else Some next

-- the site was observed, no other was observed more often, and none that was observed as often is smaller
pub record IsHottest (sites : List ℕ) (site : ℕ) : Type 0 where
  pub observed : Contains sites site
  pub most : (other : ℕ) → times_of sites other ≤ times_of sites site
  pub smallest : (other : ℕ) → times_of sites other ≡ times_of sites site → site ≤ other

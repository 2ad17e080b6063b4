-- The sites of observations, and a line that lists some.
use Rattle.std.specs.Prelude.{ℕ, List, [], ◌∷◌, ◌++◌, map, decimal, codes}
use Rattle.std.specs.List.{flat_map}
use Rattle.cbi_base.specs.Text.{line_with_newline}
use Rattle.cbi_base.specs.declared.observation.Observation.{Observation}

-- the sites that were observed, in order
abbrev pub sites_seen : List Observation → List ℕ
sites_seen seen = map (λ (o : Observation). o.site) seen

-- how many sites a line lists at most
abbrev pub most_sites : ℕ
most_sites = 16

-- a space and a number
abbrev pub number_field : ℕ → List ℕ
number_field n = 32 ∷ decimal n

-- the fields of these sites, or the word that there are none
abbrev pub site_fields : List ℕ → List ℕ
site_fields [] = codes " none"
site_fields (site ∷ sites) = flat_map number_field (site ∷ sites)

-- a line that begins with this word and lists these sites
abbrev pub sites_line : List ℕ → List ℕ → List ℕ
sites_line word sites = line_with_newline (word ++ site_fields sites)

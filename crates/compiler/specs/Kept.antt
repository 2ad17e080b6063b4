-- What is left of the sites and of the visits of a text where its program has a part of the sites.
use Rattle.std.specs.Prelude.{List, Option, None, Some}
use Rattle.cbi_base.specs.declared.observation.Observation.{Observation}
use Rattle.flow.specs.declared.site.Site.{Site}
use Rattle.flow.specs.declared.choice.Part.{Part}
use Rattle.program_parts.specs.Part.{part_of, part_visits}

-- the sites of the part, numbered anew; all of them where none is named
abbrev pub kept_sites : Option Part → List Site → List Site
kept_sites None sites = sites
kept_sites (Some part) sites = part_of part sites

-- the visits of these sites
abbrev pub kept_visits : Option Part → List Observation → List Observation
kept_visits None visits = visits
kept_visits (Some part) visits = part_visits part visits

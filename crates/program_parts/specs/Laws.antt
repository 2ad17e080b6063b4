-- What the parts of a table are to one another and to the whole, in the subject's own words.
use Rattle.std.specs.Prelude.{◌≡◌, ◌≢◌, ℕ, ◌<◌, ◌≤◌, List, ◌∷◌, ◌++◌, slice_get}
use Rattle.flow.specs.Words.{PartFits, part_limit, counts_of}
use Rattle.cbi_base.specs.declared.observation.Observation.{Observation}
use Rattle.flow.specs.declared.site.Site.{Site}
use Rattle.flow.specs.declared.choice.Part.{Part}
use Rattle.program_parts.specs.Part.{part_of, part_visits, whole_number}

-- the part with this index, of so many
abbrev pub part_at : ℕ → ℕ → Part
part_at count index = record { index = index; count = count }

-- the sites of a part are those of the whole table with their numbers
abbrev pub HasItsSites : Type 0
HasItsSites =
    (part : Part) (sites : List Site) (number : ℕ) → PartFits part → slice_get (part_of part sites) number ≡ slice_get sites (whole_number part number)

-- the number of a site of the whole table is that of one site in one part
pub record StandsOnce (count site : ℕ) : Type 0 where
  pub index : ℕ
  pub number : ℕ
  pub within : index < count
  pub is : whole_number (part_at count index) number ≡ site
  pub only : (other place : ℕ) → other < count → whole_number (part_at count other) place ≡ site → (other ≡ index) × (place ≡ number)

-- so the parts share no site, and have each site once
abbrev pub EachSiteOnce : Type 0
EachSiteOnce = (count site : ℕ) → 1 ≤ count → StandsOnce count site

-- a visit that came between others is seen by one part, between these, and by no other
pub record IsSeenOnce (count : ℕ) (before : List Observation) (visit : Observation) (after : List Observation) : Type 0 where
  pub index : ℕ
  pub number : ℕ
  pub within : index < count
  pub is : whole_number (part_at count index) number ≡ visit.site
  pub seen : part_visits (part_at count index) (before ++ visit ∷ after) ≡
      part_visits (part_at count index) before ++ record visit { site = number } ∷ part_visits (part_at count index) after
  pub others : (other : ℕ) → other < count → other ≢ index →
      part_visits (part_at count other) (before ++ visit ∷ after) ≡ part_visits (part_at count other) (before ++ after)

abbrev pub EachVisitOnce : Type 0
EachVisitOnce =
    (count : ℕ) (before after : List Observation) (visit : Observation) → 1 ≤ count → count ≤ part_limit → IsSeenOnce count before visit after

-- the counters of a part's visits are those of all visits, site by site
abbrev pub CountsOfParts : Type 0
CountsOfParts =
    (part : Part) (sites : List Site) (visits : List Observation) (number : ℕ) → PartFits part →
    slice_get (counts_of (part_of part sites) (part_visits part visits)) number ≡ slice_get (counts_of sites visits) (whole_number part number)

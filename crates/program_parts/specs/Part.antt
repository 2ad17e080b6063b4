-- A part of the sites of a program: those whose number modulo the count of the parts is the part's index, in order, numbered anew.
use Rattle.std.specs.Prelude.{ℕ, ◌+◌, ◌-◌, ◌*◌, ◌/◌, ◌%◌, ◌==◌, Bool, List, filter_map, Option, None, Some, if◌then◌else◌}
use Rattle.std.specs.List.{enumerate_from}
use Rattle.cbi_base.specs.declared.observation.Observation.{Observation}
use Rattle.flow.specs.declared.choice.Part.{Part}

-- whether the part has the site with this number
abbrev pub is_site_in_part : Part → ℕ → Bool
is_site_in_part part site = site % part.count == part.index

-- the number that a site of the part has in it
abbrev pub number_in : Part → ℕ → ℕ
number_in part site = (site - part.index) / part.count

-- the number in the whole table of the site that has this number in the part
abbrev pub whole_number : Part → ℕ → ℕ
whole_number part number = number * part.count + part.index

-- an item that stands at a site's number, where the part has the site
abbrev pub item_in : {A : Type 0} → Part → ℕ × A → Option A
item_in part item = if is_site_in_part part item.0 then Some item.1 else None

-- those items of a list that stand at the numbers of the part's sites, in order
abbrev pub part_of : {A : Type 0} → Part → List A → List A
part_of part items = filter_map (item_in part) (enumerate_from 0 items)

-- a visit, where the part has its site
abbrev pub visit_in : Part → Observation → Option Observation
visit_in part visit = if is_site_in_part part visit.site then Some (record visit { site = number_in part visit.site }) else None

-- the visits of the part's sites, in order
abbrev pub part_visits : Part → List Observation → List Observation
part_visits part visits = filter_map (visit_in part) visits

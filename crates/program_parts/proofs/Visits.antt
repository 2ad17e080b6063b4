-- One visit more, of a site that the part has or hasn't.
use Rattle.std.proofs.Common.{◌≡◌, Bool, true, false, List, [], ◌∷◌, ◌++◌, Some, None, sym, ap, ◌∙◌}
use Rattle.std.specs.Prelude.{if◌then◌else◌}
use Rattle.std.specs.List.{cons_option}
use Rattle.std.proofs.lemmas.List.{append-nil}
use Rattle.std.proofs.lemmas.List.Elements.{filter_map-append}
use Rattle.cbi_base.specs.declared.observation.Observation.{Observation}
use Rattle.flow.specs.declared.choice.Part.{Part}
use Rattle.program_parts.specs.Part.{is_site_in_part, number_in, part_visits, visit_in}

-- the visit as the part sees it
abbrev pub in_part : Part → Observation → Observation
in_part part visit = record visit { site = number_in part visit.site }

pub first_kept : (part : Part) (visit : Observation) (after : List Observation) → is_site_in_part part visit.site ≡ true →
    part_visits part (visit ∷ after) ≡ in_part part visit ∷ part_visits part after
first_kept part visit after h =
    ap (λ (b : Bool). cons_option (if b then Some (in_part part visit) else None) (part_visits part after)) h

pub first_left : (part : Part) (visit : Observation) (after : List Observation) → is_site_in_part part visit.site ≡ false →
    part_visits part (visit ∷ after) ≡ part_visits part after
first_left part visit after h =
    ap (λ (b : Bool). cons_option (if b then Some (in_part part visit) else None) (part_visits part after)) h

pub visit_kept : (part : Part) (before : List Observation) (visit : Observation) (after : List Observation) → is_site_in_part part visit.site ≡ true →
    part_visits part (before ++ visit ∷ after) ≡ part_visits part before ++ in_part part visit ∷ part_visits part after
visit_kept part before visit after h =
    filter_map-append (visit_in part) before (visit ∷ after) ∙ ap (λ (more : List Observation). part_visits part before ++ more) (first_kept part visit after h)

pub visit_left : (part : Part) (before : List Observation) (visit : Observation) (after : List Observation) → is_site_in_part part visit.site ≡ false →
    part_visits part (before ++ visit ∷ after) ≡ part_visits part (before ++ after)
visit_left part before visit after h =
    filter_map-append (visit_in part) before (visit ∷ after)
    ∙ ap (λ (more : List Observation). part_visits part before ++ more) (first_left part visit after h)
    ∙ sym (filter_map-append (visit_in part) before after)

-- the last visit is one that the part hasn't
pub last_left : (part : Part) (before : List Observation) (visit : Observation) → is_site_in_part part visit.site ≡ false →
    part_visits part (before ++ visit ∷ []) ≡ part_visits part before
last_left part before visit h = visit_left part before visit [] h ∙ ap (part_visits part) (append-nil before)

-- The parts share no site, and have each once.
use Rattle.std.proofs.Common.{◌≡◌, ℕ, ◌<◌, ◌≤◌, Bool, true, false, ◌∷◌, ◌++◌, ap, ◌∙◌, refl, subst, sym, arith}
use Rattle.std.specs.Prelude.{◌/◌, ◌%◌}
use Rattle.std.proofs.lemmas.Nat.{div-add-mod', mod_below, same_from_place}
use Rattle.flow.specs.Sites.{PartFits, part_limit}
use Rattle.cbi_base.specs.declared.observation.Observation.{Observation}
use Rattle.flow.specs.declared.choice.Part.{Part}
use Rattle.program_parts.specs.Laws.{EachSiteOnce, EachVisitOnce, part_at}
use Rattle.program_parts.specs.Part.{is_site_in_part, number_in, part_visits, whole_number}
use Rattle.program_parts.proofs.Numbers.{has_whole, number_back, whole_back}
use Rattle.program_parts.proofs.Visits.{visit_kept, visit_left}

pub stands_once : EachSiteOnce
stands_once count site some =
    let split = div-add-mod' site count in
    let small : site % count < count = mod_below site count (omega arith) in
    record {
      index = site % count;
      number = site / count;
      within = small;
      is = split;
      only = λ other place within e.
          let same = same_from_place place other (site / count) (site % count) count within small (e ∙ sym split) in (same.1, same.0);
    }

pub is_part_at : (count index : ℕ) → count ≤ part_limit → index < count → PartFits (part_at count index)
is_part_at count index few within = record { some = omega arith; few = few; index = within }

pub has_at : (part : Part) (site number : ℕ) → PartFits part → whole_number part number ≡ site → is_site_in_part part site ≡ true
has_at part site number is e = subst (λ (s : ℕ). is_site_in_part part s ≡ true) e (has_whole part number is)

lacks_by : (part : Part) (site : ℕ) (b : Bool) → is_site_in_part part site ≡ b → (is_site_in_part part site ≡ true → ⊥) → is_site_in_part part site ≡ false
lacks_by part site true e absent = absurd (absent e)
lacks_by part site false e absent = e

pub has_not : (part : Part) (site : ℕ) → (is_site_in_part part site ≡ true → ⊥) → is_site_in_part part site ≡ false
has_not part site absent = lacks_by part site (is_site_in_part part site) refl absent

pub seen_once : EachVisitOnce
seen_once count before after visit some few =
    let once = stands_once count visit.site some in
    let part = part_at count once.index in
    let is = is_part_at count once.index few once.within in
    let number : number_in (part_at count once.index) visit.site ≡ once.number =
    ap (number_in (part_at count once.index)) (sym once.is) ∙ number_back (part_at count once.index) once.number is
    in
    record {
      index = once.index;
      number = once.number;
      within = once.within;
      is = once.is;
      seen = visit_kept part before visit after (has_at part visit.site once.number is once.is)
          ∙ ap (λ (n : ℕ). let o : Observation = record visit { site = n } in part_visits (part_at count once.index) before ++ o ∷ part_visits (part_at count once.index) after) number;
      others = λ other within differs.
          visit_left (part_at count other) before visit after
          (has_not (part_at count other) visit.site (λ h.
          differs (once.only other (number_in (part_at count other) visit.site) within
          (whole_back (part_at count other) visit.site (is_part_at count other few within) h)).0));
    }

-- The counters of a part's visits beside those of all visits.
use Rattle.std.proofs.Common.{◌≡◌, ℕ, zero, suc, ◌+◌, ◌==◌, ◌&&◌, Bool, true, false, cond, List, [], ◌∷◌, Option, None, Some, slice_get, refl, sym, ap, ◌∙◌, arith}
use Rattle.std.specs.List.{count_by}
use Rattle.std.specs.Option.{option_map}
use Rattle.std.proofs.lemmas.Bool.{eq-eqb, eqb-true}
use Rattle.std.proofs.lemmas.List.Sums.{sum_by-cons}
use Rattle.std.proofs.lemmas.Option.{slice_get_within}
use Rattle.base_lists.proofs.Tests.{same_tests}
use Rattle.flow.specs.Words.{PartFits, counts_at, counts_from, counts_of, is_first, is_second, is_third}
use Rattle.flow.specs.declared.site.Site.{Site}
use Rattle.flow.specs.declared.choice.Part.{Part}
use Rattle.flow.proofs.CountLaws.{each_counted}
use Rattle.cbi_base.specs.declared.observation.Observation.{Observation}
use Rattle.cbi_base.specs.declared.observation.Seen.{Seen}
use Rattle.cbi_base.specs.declared.outcome.Counts.{Counts}
use Rattle.program_parts.specs.Laws.{CountsOfParts}
use Rattle.program_parts.specs.Part.{is_site_in_part, number_in, part_of, part_visits, whole_number}
use Rattle.program_parts.proofs.Lists.{item_at}
use Rattle.program_parts.proofs.Numbers.{has_whole, number_back, whole_back}
use Rattle.program_parts.proofs.Visits.{first_kept, first_left, in_part}

-- the visits of a site that saw such a thing
abbrev counted : ℕ → (Seen → Bool) → List Observation → ℕ
counted site such visits = count_by (λ o. o.site == site && such o.seen) visits

counted_more : (site : ℕ) (such : Seen → Bool) (v : Observation) (more : List Observation) →
    counted site such (v ∷ more) ≡ cond (v.site == site && such v.seen) 1 0 + counted site such more
counted_more site such v more = sum_by-cons (λ (o : Observation). cond (o.site == site && such o.seen) 1 0) v more

-- a kept visit is of the site exactly where it is of that site's number in the part
same_number : (part : Part) (site number : ℕ) → PartFits part → is_site_in_part part site ≡ true → (number_in part site == number) ≡ (site == whole_number part number)
same_number part site number is h =
    let back = whole_back part site is h in
    same_tests (number_in part site == number) (site == whole_number part number)
    (λ e. eq-eqb site (whole_number part number) (sym back ∙ ap (whole_number part) (eqb-true (number_in part site) number e)))
    (λ e. eq-eqb (number_in part site) number (ap (number_in part) (eqb-true site (whole_number part number) e) ∙ number_back part number is))

other_site : (part : Part) (site number : ℕ) (b : Bool) → PartFits part → is_site_in_part part site ≡ false → (site == whole_number part number) ≡ b → b ≡ false
other_site part site number false is h e = refl
other_site part site number true is h e =
    let same = eqb-true site (whole_number part number) e in
    let yes : is_site_in_part part site ≡ true = ap (is_site_in_part part) same ∙ has_whole part number is in
    absurd cc

counted_by : (part : Part) (number : ℕ) (such : Seen → Bool) (v : Observation) (more : List Observation) (b : Bool) → PartFits part → is_site_in_part part v.site ≡ b →
    counted number such (part_visits part more) ≡ counted (whole_number part number) such more →
    counted number such (part_visits part (v ∷ more)) ≡ counted (whole_number part number) such (v ∷ more)
counted_by part number such v more true is h rest =
    ap (counted number such) (first_kept part v more h)
    ∙ counted_more number such (in_part part v) (part_visits part more)
    ∙ ap (λ (t : Bool). cond (t && such v.seen) 1 0 + counted number such (part_visits part more)) (same_number part v.site number is h)
    ∙ ap (λ (n : ℕ). cond (v.site == whole_number part number && such v.seen) 1 0 + n) rest
    ∙ sym (counted_more (whole_number part number) such v more)
counted_by part number such v more false is h rest =
    let other = other_site part v.site number (v.site == whole_number part number) is h refl in
    ap (counted number such) (first_left part v more h)
    ∙ rest
    ∙ sym (counted_more (whole_number part number) such v more
    ∙ ap (λ (t : Bool). cond (t && such v.seen) 1 0 + counted (whole_number part number) such more) other ∙ omega arith)

same_count : (part : Part) (number : ℕ) (such : Seen → Bool) (visits : List Observation) → PartFits part →
    counted number such (part_visits part visits) ≡ counted (whole_number part number) such visits
same_count part number such [] is = refl
same_count part number such (v ∷ more) is = counted_by part number such v more (is_site_in_part part v.site) is refl (same_count part number such more is)

counts_same : (part : Part) (number : ℕ) (visits : List Observation) → PartFits part → counts_at (part_visits part visits) number ≡ counts_at visits (whole_number part number)
counts_same part number visits is =
    let make = λ (a b d : ℕ). let c : Counts = record { first = a; second = b; third = d } in c in
    let seen = part_visits part visits in
    ap (λ (n : ℕ). make n (counted number is_second seen) (counted number is_third seen)) (same_count part number is_first visits is)
    ∙ ap (λ (n : ℕ). make (counted (whole_number part number) is_first visits) n (counted number is_third seen)) (same_count part number is_second visits is)
    ∙ ap (λ (n : ℕ). make (counted (whole_number part number) is_first visits) (counted (whole_number part number) is_second visits) n) (same_count part number is_third visits is)

-- the counters of a site are there where the site is
none_counted : (start : ℕ) (sites : List Site) (seen : List Observation) (place : ℕ) → slice_get sites place ≡ None → slice_get (counts_from start sites seen) place ≡ None
none_counted start [] seen place e = refl
none_counted start (s ∷ sites) seen zero e = absurd cc
none_counted start (s ∷ sites) seen (suc place) e = none_counted (suc start) sites seen place e

counted_at : (sites : List Site) (seen : List Observation) (place : ℕ) (found : Option Site) → slice_get sites place ≡ found →
    slice_get (counts_of sites seen) place ≡ option_map (λ (s : Site). counts_at seen place) found
counted_at sites seen place None e = none_counted 0 sites seen place e
counted_at sites seen place (Some s) e = each_counted sites seen place (slice_get_within sites place s e)

pub counts_of_parts : CountsOfParts
counts_of_parts part sites visits number is =
    let whole = whole_number part number in
    counted_at (part_of part sites) (part_visits part visits) number (slice_get sites whole) (item_at part sites number is)
    ∙ ap (λ (c : Counts). option_map (λ (s : Site). c) (slice_get sites whole)) (counts_same part number visits is)
    ∙ sym (counted_at sites visits whole (slice_get sites whole) refl)

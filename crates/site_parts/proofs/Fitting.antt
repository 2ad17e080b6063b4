-- What fits the table of a part fits the whole table.
use Rattle.std.proofs.Common.{◌≡◌, ℕ, ◌<◌, ◌≤◌, Bool, true, false, if◌then◌else◌, List, [], ◌∷◌, length, Option, None, Some, slice_get, refl, sym, ap, ◌∙◌, arith}
use Rattle.std.specs.Option.{option_map}
use Rattle.std.proofs.lemmas.List.{length-map}
use Rattle.std.proofs.lemmas.List.Elements.{All-cons, All-nil}
use Rattle.std.proofs.lemmas.Option.{slice_get-map, slice_get_within}
use Rattle.flow.specs.Words.{PartFits, site_limit}
use Rattle.flow.specs.declared.site.Site.{Site}
use Rattle.report_file.specs.declared.report.Entry.{Entry}
use Rattle.report_file.specs.Report.{greatest_site}
use Rattle.collector.specs.Sites.{branches_of, first_bad, has_site, is_branch, takes_third}
use Rattle.flow.specs.declared.choice.Part.{Part}
use Rattle.site_parts.specs.Laws.{FitsWhenWidened, MayWidenWhatFits}
use Rattle.program_parts.specs.Part.{part_of, whole_number}
use Rattle.site_parts.specs.Widened.{MayWiden, widened_entries, widened_entry}
use Rattle.program_parts.proofs.Lists.{item_at}

branch_at : (part : Part) (sites : List Site) (number : ℕ) → PartFits part → slice_get (branches_of (part_of part sites)) number ≡ slice_get (branches_of sites) (whole_number part number)
branch_at part sites number is =
    slice_get-map is_branch (part_of part sites) number
    ∙ ap (option_map is_branch) (item_at part sites number is)
    ∙ sym (slice_get-map is_branch sites (whole_number part number))

-- an entry has its site in the whole table exactly where it has it in the part's
same_site : (part : Part) (sites : List Site) (e : Entry) → PartFits part → has_site (branches_of (part_of part sites)) e ≡ has_site (branches_of sites) (widened_entry part e)
same_site part sites e is = ap (λ (b : Option Bool). takes_third b e.counts.third) (branch_at part sites e.site is)

-- the first entry has its site, and the others have theirs
first_fits : (b : Bool) (site : ℕ) (rest : Option ℕ) → (if b then rest else Some site) ≡ None → (b ≡ true) × (rest ≡ None)
first_fits true site rest e = (refl, e)
first_fits false site rest e = absurd cc

fit_by : (b : Bool) (site : ℕ) (rest : Option ℕ) → b ≡ true → rest ≡ None → (if b then rest else Some site) ≡ None
fit_by true site rest h e = e
fit_by false site rest h e = absurd cc

fit_all : (part : Part) (sites : List Site) (entries : List Entry) → PartFits part → first_bad (branches_of (part_of part sites)) entries ≡ None →
    first_bad (branches_of sites) (widened_entries part entries) ≡ None
fit_all part sites [] is e = refl
fit_all part sites (x ∷ more) is e =
    let f = first_fits (has_site (branches_of (part_of part sites)) x) x.site (first_bad (branches_of (part_of part sites)) more) e in
    fit_by (has_site (branches_of sites) (widened_entry part x)) (whole_number part x.site) (first_bad (branches_of sites) (widened_entries part more))
    (sym (same_site part sites x is) ∙ f.0) (fit_all part sites more is f.1)

pub fits_when_widened : FitsWhenWidened
fits_when_widened = λ part sites entries is e. fit_all part sites entries is e

within_by : (branches : List Bool) (site third : ℕ) (found : Option Bool) → slice_get branches site ≡ found → takes_third found third ≡ true → site < length branches
within_by branches site third None at h = absurd cc
within_by branches site third (Some b) at h = slice_get_within branches site b at

site_small : (part : Part) (sites : List Site) (e : Entry) → PartFits part → length sites ≤ site_limit → has_site (branches_of (part_of part sites)) e ≡ true →
    whole_number part e.site ≤ greatest_site
site_small part sites e is few h =
    let branches = branches_of sites in
    let within = within_by branches (whole_number part e.site) e.counts.third (slice_get branches (whole_number part e.site)) refl (sym (same_site part sites e is) ∙ h) in
    omega (arith, within, length-map sites is_branch, few)

may_all : (part : Part) (sites : List Site) (entries : List Entry) → PartFits part → length sites ≤ site_limit →
    first_bad (branches_of (part_of part sites)) entries ≡ None → MayWiden part entries
may_all part sites [] is few e = All-nil (λ (x : Entry). whole_number part x.site ≤ greatest_site)
may_all part sites (x ∷ more) is few e =
    let f = first_fits (has_site (branches_of (part_of part sites)) x) x.site (first_bad (branches_of (part_of part sites)) more) e in
    All-cons (λ (y : Entry). whole_number part y.site ≤ greatest_site) x more (site_small part sites x is few f.0) (may_all part sites more is few f.1)

pub may_widen_what_fits : MayWidenWhatFits
may_widen_what_fits = λ part sites entries is few e. may_all part sites entries is few e

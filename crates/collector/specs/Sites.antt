-- The sites of a program that a collection knows: which of them are branches.
use Rattle.std.specs.Prelude.{ℕ, Bool, true, false, not, ◌||◌, ◌==◌, List, [], ◌∷◌, map, Option, None, Some, slice_get, if◌then◌else◌}
use Rattle.flow.specs.declared.site.Site.{Site}
use Rattle.flow.specs.declared.site.SiteKind.{SiteKind}
use Rattle.flow.specs.declared.site.SiteKind.TheVariants.{Branch, Return, Pair}
use Rattle.report_file.specs.declared.report.Entry.{Entry}

abbrev pub is_branch_kind : SiteKind → Bool
is_branch_kind (Branch word) = true
is_branch_kind (Return callee) = false
is_branch_kind (Pair target slot partner) = false

abbrev pub is_branch : Site → Bool
is_branch site = is_branch_kind site.kind

abbrev pub branches_of : List Site → List Bool
branches_of sites = map is_branch sites

-- a site that is there, where it is known whether it is a branch; a branch has no third counter
abbrev pub takes_third : Option Bool → ℕ → Bool
takes_third None third = false
takes_third (Some branch) third = not branch || (third == 0)

abbrev pub has_site : List Bool → Entry → Bool
has_site branches e = takes_third (slice_get branches e.site) e.counts.third

-- the first site that isn't there, or has a third counter at a branch
abbrev pub first_bad : List Bool → List Entry → Option ℕ
first_bad branches [] = None
first_bad branches (e ∷ more) = if has_site branches e then first_bad branches more else Some e.site

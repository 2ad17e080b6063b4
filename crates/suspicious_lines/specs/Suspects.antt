-- The suspects of runs: the predicates that are true in a failing run, in the order of the table.
use Rattle.std.specs.Prelude.{ℕ, ◌+◌, Bool, nat_lt, List, [], ◌∷◌, ◌++◌, map, filter, count_by}
use Rattle.std.specs.List.{range_with_len}
use Rattle.collector.specs.Sites.{branches_of}
use Rattle.flow.specs.declared.site.Site.{Site}
use Rattle.flow.specs.declared.site.SiteKind.{SiteKind}
use Rattle.flow.specs.declared.site.SiteKind.TheVariants.{Branch, Return, Pair}
use Rattle.flow.specs.declared.site.TableParts.{TableParts}
use Rattle.flow.specs.Predicates.{predicates_of}
use Rattle.fractions.specs.declared.tally.Tally.{Tally}
use Rattle.elimination_tallies.specs.declared.labelled.LabelledRun.{LabelledRun}
use Rattle.elimination_tallies.specs.Recount.{is_successful, recount}
use Rattle.association.specs.declared.suspect.Scheme.{Scheme}
use Rattle.association.specs.declared.suspect.Scheme.TheVariants.{Branches, Returns, Pairs}
use Rattle.association.specs.declared.suspect.Suspect.{Suspect}

-- how many runs are successful
abbrev pub successful_runs : List LabelledRun → ℕ
successful_runs runs = count_by (λ (r : LabelledRun). is_successful r.label) runs

-- the scheme of a site
abbrev pub scheme_of : SiteKind → Scheme
scheme_of (Branch word) = Branches
scheme_of (Return callee) = Returns
scheme_of (Pair target slot partner) = Pairs

-- a predicate of a site with its numbers
abbrev pub suspect_at : (ℕ → Tally) → Site → ℕ → Suspect
suspect_at numbers site predicate = record {
  predicate = predicate;
  scheme = scheme_of site.kind;
  function = site.function;
  line = site.line;
  tally = numbers predicate;
}

abbrev pub is_true_in_failing : Suspect → Bool
is_true_in_failing s = nat_lt 0 s.tally.a

-- the suspects among the predicates of a site, of which the first has this number
abbrev pub suspects_at : (ℕ → Tally) → ℕ → Site → List Suspect
suspects_at numbers first site = filter is_true_in_failing (map (suspect_at numbers site) (range_with_len first (predicates_of site.kind)))

-- the suspects among the predicates of sites, of which the first has this number
abbrev pub suspects_from : (ℕ → Tally) → ℕ → List Site → List Suspect
suspects_from numbers first [] = []
suspects_from numbers first (s ∷ more) = suspects_at numbers first s ++ suspects_from numbers (first + predicates_of s.kind) more

-- the suspects of runs
abbrev pub suspects_of : TableParts → List LabelledRun → List Suspect
suspects_of table runs = suspects_from (recount (branches_of table.sites) runs) 0 table.sites

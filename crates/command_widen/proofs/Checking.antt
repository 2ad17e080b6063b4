-- What a check of the sites finds.
use Rattle.std.proofs.Common.{inl, inr, ℕ, Bool, List, [], ◌∷◌, sym, ◌∙◌}
use Rattle.base_lists.proofs.Options.{none_some}
use Rattle.report_file.specs.declared.report.Report.{Report}
use Rattle.command_inputs.specs.Runs.{HaveSites, IsFirstBad}

-- where each entry is of a site that is there, none is the first that isn't
pub none_is_bad : (branches : List Bool) (reports : List Report) (run site : ℕ) → HaveSites branches reports → IsFirstBad branches reports run site → ⊥
none_is_bad branches [] run site have bad = bad
none_is_bad branches (r ∷ more) run site have (inl bad) = none_some (sym have.0 ∙ bad.1)
none_is_bad branches (r ∷ more) run site have (inr bad) = none_is_bad branches more run site have.1 bad.1

-- The map of the reports that texts of `run`, `runs` and `collect` hold, one text behind another, is that of their runs by number.
use Rattle.std.proofs.Common.{◌≡◌, ℕ, Bool, true, false, cond, ◌==◌, List, [], ◌∷◌, ◌++◌, Option, None, Some, map, ap, sym, subst, ◌∙◌, refl}
use Rattle.report_file.specs.declared.report.Report.{Report}
use Rattle.collector.specs.declared.collection.Bundle.{Bundle}
use Rattle.collector.specs.Collected.{report_at}
use Rattle.collector.specs.Collecting.{bundle_of}
use Rattle.collector.specs.Order.{AreAlike, SameReports, map_of}
use Rattle.collector.proofs.Ordering.{alike-same}
use Rattle.collector.proofs.Taking.{absent-member, found-member, found-run}
use Rattle.session_edits.specs.declared.edit.Edit.TheVariants.{Add}
use Rattle.session_laws.proofs.Maps.{held-once as one-held}
use Rattle.session_replay.proofs.Printed.{at-map, first-of, map-held}
use Rattle.command_collect.specs.Collect.{AreSpelled, SpellsFile, reports_in}
use Rattle.headline.specs.Chain.{AreReportsOf, Made}
use Rattle.headline.specs.Handed.{HoldRuns, IsLeftByCollect, IsLeftByRun, by_number}
use Rattle.headline.specs.Handed.HoldRuns.{ACollection, AReport, ListedRuns, NoTexts}
use Rattle.command_runs.specs.Runs.{runs_collection}
use Rattle.headline.specs.Calls.{IsLeftByRuns}
use Rattle.headline.proofs.CallReports.{left-reports}
use Rattle.headline.proofs.HeadlineRuns.{AreHeldBy, HasMembers, all-alike, held-runs, placed-run, same-all, same-collected, same-turned}
use Rattle.headline.proofs.HeadlineTexts.{OneCollection, OneReport, WrittenCollection, collection-file, held-once, left-text, left_report, report-file}

-- of a run, the first report of two lists is that of the first list, where it has one
at-both-by : (b : Bool) (x : Report) (o p : Option Report) → cond b (Some x) (first-of o p) ≡ first-of (cond b (Some x) o) p
at-both-by true x o p = refl
at-both-by false x o p = refl

at-both : (run : ℕ) (xs zs : List Report) → report_at run (xs ++ zs) ≡ first-of (report_at run xs) (report_at run zs)
at-both run [] zs = refl
at-both run (x ∷ xs) zs = ap (cond (run == x.run) (Some x)) (at-both run xs zs) ∙ at-both-by (run == x.run) x (report_at run xs) (report_at run zs)

-- where each run has one report, lists of the same reports have the same of each run
at-alike : (run : ℕ) (xs ys : List Report) (o p : Option Report) → AreAlike xs → SameReports xs ys → report_at run xs ≡ o → report_at run ys ≡ p → o ≡ p
at-alike run xs ys None None alike same x y = refl
at-alike run xs ys (Some r) None alike same x y = absurd (absent-member run ys r y ((same r).0 (found-member run xs r x)) (sym (found-run run xs r x)))
at-alike run xs ys None (Some q) alike same x y = absurd (absent-member run xs q x ((same q).1 (found-member run ys q y)) (sym (found-run run ys q y)))
at-alike run xs ys (Some r) (Some q) alike same x y =
    ap Some (alike r q (found-member run xs r x) ((same q).1 (found-member run ys q y)) (found-run run xs r x ∙ sym (found-run run ys q y)))

-- so they leave one map before whatever follows
map-onto : (xs ys zs : List Report) → AreAlike xs → SameReports xs ys → map_of (xs ++ zs) ≡ map_of (ys ++ zs)
map-onto xs ys zs alike same =
    let front = map-held (xs ++ zs) in
    one-held (map Add (xs ++ zs)) (map_of (xs ++ zs)) (map_of (ys ++ zs)) front (record {
      rising = (map-held (ys ++ zs)).rising;
      each = λ run. at-map run (ys ++ zs) ∙ at-both run ys zs
          ∙ ap (λ o. first-of o (report_at run zs)) (sym (at-alike run xs ys (report_at run xs) (report_at run ys) alike same refl refl))
          ∙ sym (at-both run xs zs) ∙ sym (at-map run (xs ++ zs)) ∙ front.each run;
    })

by-number-onto : (file : List ℕ) (made more : List Made) (reports others : List Report) → AreReportsOf file made reports → AreReportsOf file (by_number more) (map_of others)
    → AreReportsOf file (by_number (made ++ more)) (map_of (reports ++ others))
by-number-onto file [] more [] others are rest = rest
by-number-onto file [] more (r ∷ reports) others are rest = absurd are
by-number-onto file (one ∷ made) more [] others are rest = absurd are
by-number-onto file (one ∷ made) more (r ∷ reports) others are rest =
    placed-run file one r (by_number (made ++ more)) (map_of (reports ++ others)) are.0 (by-number-onto file made more reports others are.1 rest)

module _ (one_report : OneReport) (one_collection : OneCollection) (written : WrittenCollection) (members : HasMembers) (file : List ℕ) where
  report-mapped : (one : Made) (made : List Made) (text : List ℕ) (b : Bundle) (bundles : List Bundle) → IsLeftByRun file one text → SpellsFile text b
      → AreReportsOf file (by_number made) (map_of (reports_in bundles)) → AreReportsOf file (by_number (one ∷ made)) (map_of (reports_in (b ∷ bundles)))
  report-mapped one made text b bundles left spells rest =
      let r = left_report file one text left in
      let is = left-text file one text left in
      let same : record { program = r.program; reports = r ∷ [] } ≡ b =
      held-once one_report one_collection text (record { program = r.program; reports = r ∷ [] }) b (report-file text r is.fits is.text_is) spells in
      subst (λ (x : Bundle). AreReportsOf file (by_number (one ∷ made)) (map_of (x.reports ++ reports_in bundles))) same
      (placed-run file one r (by_number made) (map_of (reports_in bundles)) is.is rest)

  listed-mapped : (made more : List Made) (text : List ℕ) (b : Bundle) (bundles : List Bundle) → IsLeftByRuns file made text → SpellsFile text b
      → AreReportsOf file (by_number more) (map_of (reports_in bundles)) → AreReportsOf file (by_number (made ++ more)) (map_of (reports_in (b ∷ bundles)))
  listed-mapped made more text b bundles left spells rest =
      let c = runs_collection left.texts left.parts left.plan.first left.runs in
      let others = reports_in bundles in
      let same : bundle_of c ≡ b = held-once one_report one_collection text (bundle_of c) b (collection-file written text c left.fits left.text_is) spells in
      subst (λ (x : Bundle). AreReportsOf file (by_number (made ++ more)) (map_of (x.reports ++ others))) same
      (by-number-onto file made more c.reports others (left-reports file made text left) rest)

  collection-mapped : (made more : List Made) (inner : List (List ℕ)) (text : List ℕ) (b : Bundle) (bundles : List Bundle) → IsLeftByCollect file inner text → SpellsFile text b → AreHeldBy file made inner
      → AreReportsOf file (by_number more) (map_of (reports_in bundles)) → AreReportsOf file (by_number (made ++ more)) (map_of (reports_in (b ∷ bundles)))
  collection-mapped made more inner text b bundles left spells within rest =
      let c = left.collected.collection in
      let all = reports_in left.collected.gathered.bundles in
      let others = reports_in bundles in
      let same : bundle_of c ≡ b = held-once one_report one_collection text (bundle_of c) b (collection-file written text c left.collected.gathered.fits left.collected.text_is) spells in
      let alike : AreAlike within.reports = alike-same all within.reports (all-alike one_report one_collection written members file inner text left)
      (same-turned within.reports all (same-all one_report one_collection written members file made inner text left within)) in
      let moved : map_of (within.reports ++ others) ≡ map_of (c.reports ++ others) =
      map-onto within.reports c.reports others alike (same-collected one_report one_collection written members file made inner text left within) in
      subst (λ (x : Bundle). AreReportsOf file (by_number (made ++ more)) (map_of (x.reports ++ others))) same
      (subst (AreReportsOf file (by_number (made ++ more))) moved (by-number-onto file made more within.reports others within.are rest))

  pub maps-runs : {made : List Made} {texts : List (List ℕ)} → HoldRuns file made texts → (bundles : List Bundle) → AreSpelled texts bundles
      → AreReportsOf file (by_number made) (map_of (reports_in bundles))
  maps-runs NoTexts [] are = tt
  maps-runs NoTexts (b ∷ bundles) are = absurd are
  maps-runs (AReport left rest) [] are = absurd are
  maps-runs (AReport {made = one} {more = made} {text = text} left rest) (b ∷ bundles) are = report-mapped one made text b bundles left are.0 (maps-runs rest bundles are.1)
  maps-runs (ListedRuns left rest) [] are = absurd are
  maps-runs (ListedRuns {made = made} {more = more} {text = text} left rest) (b ∷ bundles) are = listed-mapped made more text b bundles left are.0 (maps-runs rest bundles are.1)
  maps-runs (ACollection left within rest) [] are = absurd are
  maps-runs (ACollection {made = made} {more = more} {text = text} {inner = inner} left within rest) (b ∷ bundles) are =
      collection-mapped made more inner text b bundles left are.0 (held-runs one_report one_collection written members file within) (maps-runs rest bundles are.1)

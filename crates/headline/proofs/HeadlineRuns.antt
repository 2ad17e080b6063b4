-- The reports behind texts that `run`, `runs` and `collect` left are those of their runs, and those of a collection are those of its runs by number.
use Rattle.std.proofs.Common.{◌≡◌, ◌↔◌, ⊎_elim, ℕ, List, [], ◌∷◌, ◌++◌, ap, sym, subst, ◌∙◌, refl}
use Rattle.sha2.specs.Sha256.{sha256}
use Rattle.report_file.specs.declared.report.Report.{Report}
use Rattle.collector.specs.declared.collection.Bundle.{Bundle}
use Rattle.collector.specs.declared.collection.Held.{Held as Collected}
use Rattle.collector.specs.Collected.{with_report}
use Rattle.collector.specs.Collecting.{bundle_of}
use Rattle.collector.specs.Order.{AreAlike, IsOneOfReports, SameReports, map_of}
use Rattle.collector.specs.Spelling.{SpellsBundle}
use Rattle.collector.proofs.Taking.{either, in-back, in-front}
use Rattle.command_collect.specs.Collect.{AreSpelled, reports_in}
use Rattle.headline.specs.Chain.{AreReportsOf, IsReportOf, Made}
use Rattle.headline.specs.Handed.{HoldRuns, IsCollectionOf, IsLeftByCollect, IsLeftByRun, by_number, made_number, with_first}
use Rattle.headline.specs.Handed.HoldRuns.{ACollection, AReport, ListedRuns, NoTexts}
use Rattle.command_runs.specs.Runs.{runs_collection}
use Rattle.headline.specs.Calls.{IsLeftByRuns}
use Rattle.headline.proofs.CallReports.{left-reports}
use Rattle.headline.proofs.Firsts.{each-both, each-first, placed}
use Rattle.headline.proofs.HeadlineTexts.{OneCollection, OneReport, WrittenCollection, collection-file, collection-spelled, left-text, left_report, report-file, spelled-once}

-- lists of the same reports, one behind another
pub same-both : (a b c d : List Report) → SameReports a b → SameReports c d → SameReports (a ++ c) (b ++ d)
same-both a b c d first second = λ r. (
  λ is. ⊎_elim (λ (front : IsOneOfReports r a). in-front r b d ((first r).0 front)) (λ (back : IsOneOfReports r c). in-back r b d ((second r).0 back)) (either r a c is),
  λ is. ⊎_elim (λ (front : IsOneOfReports r b). in-front r a c ((first r).1 front)) (λ (back : IsOneOfReports r d). in-back r a c ((second r).1 back)) (either r b d is),
)

pub same-as : (a b : List Report) → a ≡ b → SameReports a b
same-as a b same = λ r. (λ is. subst (IsOneOfReports r) same is, λ is. subst (IsOneOfReports r) (sym same) is)

pub same-turned : (a b : List Report) → SameReports a b → SameReports b a
same-turned a b same = λ r. ((same r).1, (same r).0)

pub same-through : (a b c : List Report) → SameReports a b → SameReports b c → SameReports a c
same-through a b c first second = λ r. (λ is. (second r).0 ((first r).0 is), λ is. (first r).1 ((second r).1 is))

-- the map of a list has its reports
abbrev pub HasMembers : Type 0
HasMembers = (reports : List Report) → AreAlike reports → (r : Report) → IsOneOfReports r (map_of reports) ↔ IsOneOfReports r reports

abbrev pub HasSame : Type 0
HasSame = (xs ys : List Report) → AreAlike xs → SameReports xs ys → map_of xs ≡ map_of ys

module _ (file : List ℕ) where
  run-number : (one : Made) (r : Report) → IsReportOf file one r → one.words.run ≡ r.run
  run-number one r is = ap (λ (x : Report). x.run) (sym is.report_is)

  -- by number, a run and its report have the same place
  pub placed-run : (one : Made) (r : Report) (made : List Made) (reports : List Report) → IsReportOf file one r → AreReportsOf file made reports
      → AreReportsOf file (with_first made_number one made) (with_report r reports)
  placed-run one r made reports is are = placed (IsReportOf file) made_number run-number one r made reports is are

  pub by-number : (made : List Made) (reports : List Report) → AreReportsOf file made reports → AreReportsOf file (by_number made) (map_of reports)
  by-number made reports are = each-first (IsReportOf file) made_number run-number made reports are

-- each bundle is of the program
abbrev pub AreOfFile : List ℕ → List Bundle → Type 0
AreOfFile file [] = Unit {0}
AreOfFile file (b ∷ bundles) = (b.program ≡ record { bytes = sha256 file }) × AreOfFile file bundles

-- the texts are spelled by bundles of the program, and what these hold are the reports of the runs
pub record AreHeldBy (file : List ℕ) (made : List Made) (texts : List (List ℕ)) : Type 0 where
  pub bundles : List Bundle
  pub are_spelled : AreSpelled texts bundles
  pub of_file : AreOfFile file bundles
  pub reports : List Report
  pub are : AreReportsOf file made reports
  pub same : SameReports reports (reports_in bundles)

module _ (one_report : OneReport) (one_collection : OneCollection) (written : WrittenCollection) (members : HasMembers) (file : List ℕ) where
  report-more : (one : Made) (made : List Made) (text : List ℕ) (texts : List (List ℕ)) → IsLeftByRun file one text → AreHeldBy file made texts → AreHeldBy file (one ∷ made) (text ∷ texts)
  report-more one made text texts left rest =
      let r = left_report file one text left in
      let is = left-text file one text left in
      record {
        bundles = record { program = r.program; reports = r ∷ [] } ∷ rest.bundles;
        are_spelled = (report-file text r is.fits is.text_is, rest.are_spelled);
        of_file = (ap (λ bytes. record { bytes = sha256 bytes }) left.program_is, rest.of_file);
        reports = r ∷ rest.reports;
        are = (is.is, rest.are);
        same = same-both (r ∷ []) (r ∷ []) rest.reports (reports_in rest.bundles) (same-as (r ∷ []) (r ∷ []) refl) rest.same;
      }

  -- what was collected are the reports of the runs
  pub same-all : (made : List Made) (inner : List (List ℕ)) (text : List ℕ) (left : IsLeftByCollect file inner text) (within : AreHeldBy file made inner)
      → SameReports within.reports (reports_in left.collected.gathered.bundles)
  same-all made inner text left within =
      let g = left.collected.gathered in
      let spelled : AreSpelled inner g.bundles = subst (λ texts. AreSpelled texts g.bundles) left.texts_are g.are_spelled in
      let same : within.bundles ≡ g.bundles = spelled-once one_report one_collection inner within.bundles g.bundles within.are_spelled spelled in
      subst (λ bundles. SameReports within.reports (reports_in bundles)) same within.same

  pub all-alike : (inner : List (List ℕ)) (text : List ℕ) (left : IsLeftByCollect file inner text) → AreAlike (reports_in left.collected.gathered.bundles)
  all-alike inner text left = subst AreAlike left.collected.gathered.reports_are left.collected.gathered.alike

  pub all-mapped : (inner : List (List ℕ)) (text : List ℕ) (left : IsLeftByCollect file inner text) → left.collected.collection.reports ≡ map_of (reports_in left.collected.gathered.bundles)
  all-mapped inner text left = ap (λ (c : Collected). c.reports) left.collected.gathered.holds ∙ ap map_of left.collected.gathered.reports_are

  of-program : (inner : List (List ℕ)) (text : List ℕ) (left : IsLeftByCollect file inner text) → left.collected.collection.program ≡ record { bytes = sha256 file }
  of-program inner text left = ap (λ (c : Collected). c.program) left.collected.gathered.holds ∙ ap (λ bytes. record { bytes = sha256 bytes }) left.program_is

  pub same-collected : (made : List Made) (inner : List (List ℕ)) (text : List ℕ) (left : IsLeftByCollect file inner text) (within : AreHeldBy file made inner) → SameReports within.reports left.collected.collection.reports
  same-collected made inner text left within =
      let all = reports_in left.collected.gathered.bundles in
      let alike = all-alike inner text left in
      same-through within.reports all left.collected.collection.reports (same-all made inner text left within)
      (same-through all (map_of all) left.collected.collection.reports (λ r. ((members all alike r).1, (members all alike r).0))
      (same-as (map_of all) left.collected.collection.reports (sym (all-mapped inner text left))))

  collection-more : (made more : List Made) (inner : List (List ℕ)) (text : List ℕ) (texts : List (List ℕ)) → IsLeftByCollect file inner text → AreHeldBy file made inner → AreHeldBy file more texts
      → AreHeldBy file (made ++ more) (text ∷ texts)
  collection-more made more inner text texts left within rest =
      let c = left.collected.collection in
      record {
        bundles = bundle_of c ∷ rest.bundles;
        are_spelled = (collection-file written text c left.collected.gathered.fits left.collected.text_is, rest.are_spelled);
        of_file = (of-program inner text left, rest.of_file);
        reports = within.reports ++ rest.reports;
        are = each-both (IsReportOf file) made more within.reports rest.reports within.are rest.are;
        same = same-both within.reports c.reports rest.reports (reports_in rest.bundles) (same-collected made inner text left within) rest.same;
      }

  listed-more : (made more : List Made) (text : List ℕ) (texts : List (List ℕ)) → IsLeftByRuns file made text → AreHeldBy file more texts → AreHeldBy file (made ++ more) (text ∷ texts)
  listed-more made more text texts left rest =
      let c = runs_collection left.texts left.parts left.plan.first left.runs in
      record {
        bundles = bundle_of c ∷ rest.bundles;
        are_spelled = (collection-file written text c left.fits left.text_is, rest.are_spelled);
        of_file = (ap (λ bytes. record { bytes = sha256 bytes }) left.program_is, rest.of_file);
        reports = c.reports ++ rest.reports;
        are = each-both (IsReportOf file) made more c.reports rest.reports (left-reports file made text left) rest.are;
        same = same-both c.reports c.reports rest.reports (reports_in rest.bundles) (same-as c.reports c.reports refl) rest.same;
      }

  pub held-runs : {made : List Made} {texts : List (List ℕ)} → HoldRuns file made texts → AreHeldBy file made texts
  held-runs NoTexts = record { bundles = []; are_spelled = tt; of_file = tt; reports = []; are = tt; same = λ r. (λ is. is, λ is. is) }
  held-runs (AReport {made = one} {more = made} {text = text} {texts = texts} left rest) = report-more one made text texts left (held-runs rest)
  held-runs (ListedRuns {made = made} {more = more} {text = text} {texts = texts} left rest) = listed-more made more text texts left (held-runs rest)
  held-runs (ACollection {made = made} {more = more} {text = text} {inner = inner} {texts = texts} left within rest) =
      collection-more made more inner text texts left (held-runs within) (held-runs rest)

  -- a collection holds the reports of its runs, by number
  pub of-collection : HasSame → (made : List Made) (collection : List ℕ) (b : Bundle) → IsCollectionOf file made collection → SpellsBundle collection b → AreReportsOf file (by_number made) b.reports
  of-collection has_same made collection b is spells =
      let left = is.left in
      let c = left.collected.collection in
      let all = reports_in left.collected.gathered.bundles in
      let within = held-runs is.hold in
      let held : b ≡ bundle_of c = one_collection collection b (bundle_of c) spells (collection-spelled written collection c left.collected.gathered.fits left.collected.text_is) in
      let sorted : map_of all ≡ map_of within.reports =
      has_same all within.reports (all-alike is.texts collection left) (same-turned within.reports all (same-all made is.texts collection left within)) in
      subst (AreReportsOf file (by_number made)) (sym (ap (λ (x : Bundle). x.reports) held ∙ all-mapped is.texts collection left ∙ sorted)) (by-number file made within.reports within.are)

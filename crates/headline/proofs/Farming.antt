-- The reports of a farm's texts are those of its runs, under the numbers that the sites have in the whole table.
use Rattle.std.specs.Prelude.{slice_get}
use Rattle.std.specs.List.{AllByRecursion}
use Rattle.std.proofs.Common.{◌≡◌, ℕ, true, List, [], ◌∷◌, ◌++◌, map, Option, ap, ap₂, sym, subst, ◌∙◌, refl}
use Rattle.flow.specs.Words.{PartFits, OneEnding, table_of, SpellsProgram}
use Rattle.cbi_base.specs.declared.identity.ProgramId.{ProgramId}
use Rattle.cbi_base.specs.Store.{Held}
use Rattle.flow.specs.declared.choice.Part.{Part}
use Rattle.flow.specs.declared.site.Site.{Site}
use Rattle.flow.specs.declared.site.TableParts.{TableParts}
use Rattle.sha2.specs.Sha256.{sha256}
use Rattle.c_syntax.specs.ItemTree.{SourceTree}
use Rattle.c_types_expressions.specs.declared.walk.Walk.{Walk}
use Rattle.report_file.specs.declared.draft.Version.TheVariants.{Second}
use Rattle.report_file.specs.declared.report.Report.{Report}
use Rattle.collector.specs.declared.collection.Bundle.{Bundle}
use Rattle.collector.specs.Collecting.{bundle_of}
use Rattle.collector.specs.Order.{SameReports, map_of}
use Rattle.collector.specs.Spelling.{SpellsBundle, bundle_text}
use Rattle.elimination_tallies.specs.declared.labelled.LabelledRun.{LabelledRun}
use Rattle.elimination_tallies.specs.Recount.{run_of_report, runs_of}
use Rattle.ranking.specs.Ranked.{IsRankingOf}
use Rattle.program_parts.specs.Laws.{HasItsSites}
use Rattle.program_parts.specs.Part.{part_of, whole_number}
use Rattle.site_parts.specs.Widened.{widened_entries, widened_report}
use Rattle.compiler.specs.Accepted.{IsAccepted}
use Rattle.compiler.proofs.Refusing.{OneKnown, OneTree}
use Rattle.cbi_options.specs.declared.words.TransformWords.{TransformWords}
use Rattle.command_transform.specs.Transform.{IsFileOf, plan_of}
use Rattle.command_collect.specs.Collect.{AreSpelled, is_collection, reports_in}
use Rattle.command_collect.proofs.FileLemmas.{bundle-file}
use Rattle.cbi_options.specs.declared.words.RankWords.{RankWords}
use Rattle.command_rank.specs.Rank.{IsRanked}
use Rattle.command_widen.specs.Widen.{widened_as}
use Rattle.headline.specs.Chain.{AreEach, AreReportsOf, IsReportOf, Made, meant_sites, meant_table}
use Rattle.headline.specs.Farm.{HasItsShare, HoldParts, IsFarmRanking, IsLeftByWiden, PartRun, meant_part_run, part_runs, run_number}
use Rattle.headline.specs.Farm.HoldParts.{APart, NoParts, SomeParts}
use Rattle.headline.specs.Handed.{IsLeftByCollect, by_number, firsts_by_number}
use Rattle.headline.specs.Laws.{AWidenedCollectionIsOfTheWhole}
use Rattle.headline.proofs.Chaining.{OneProgram}
use Rattle.headline.proofs.Firsts.{each-both, each-first}
use Rattle.headline.proofs.HeadlineRuns.{HasMembers, HasSame, all-alike, all-mapped, of-collection, same-as, same-both, same-through, same-turned}
use Rattle.headline.proofs.HeadlineTexts.{OneCollection, OneReport, WrittenCollection, collection-file, collection-spelled, spelled-once}
use Rattle.headline.proofs.Ranking.{run-means, table-means}

-- the text of widened reports begins as a collection's
widened-titled : (b : Bundle) → is_collection (bundle_text Second b) ≡ true
widened-titled b = refl

-- the report is of that run, and shows what the text means of it
record IsPartReport (tree : SourceTree) (known : Walk) (run : PartRun) (r : Report) : Type 0 where
  pub number : run.made.words.run ≡ r.run
  pub means : run_of_report r ≡ meant_part_run tree known run

seen-each : (tree : SourceTree) (known : Walk) (runs : List PartRun) (reports : List Report) → AreEach (IsPartReport tree known) runs reports → runs_of reports ≡ map (meant_part_run tree known) runs
seen-each tree known [] [] are = refl
seen-each tree known [] (r ∷ reports) are = absurd are
seen-each tree known (run ∷ runs) [] are = absurd are
seen-each tree known (run ∷ runs) (r ∷ reports) are = ap₂ (λ (first : LabelledRun) more. first ∷ more) are.0.means (seen-each tree known runs reports are.1)

module _ (one_ending : OneEnding) (one_program : OneProgram) (one_tree : OneTree) (one_known : OneKnown) (text : List ℕ) (tree : SourceTree) (known : Walk) (accepted : IsAccepted text tree known) where
  -- a report of a part's program, widened
  part-report : (words : TransformWords) (share : Part) (file : List ℕ) (id : ProgramId) → IsFileOf words text file → (one : Made) (r : Report) → IsReportOf file one r
      → IsPartReport tree known (record { words = words; share = share; made = one }) (widened_report id share r)
  part-report words share file id is one r of_run = record {
    number = ap (λ (x : Report). x.run) (sym of_run.report_is);
    means = ap (λ (run : LabelledRun). record run { entries = widened_entries share run.entries })
        (run-means one_ending one_program one_tree one_known text file (plan_of words) is.program is.compiled is.spells tree known accepted one r of_run);
  }

  part-reports : (words : TransformWords) (share : Part) (file : List ℕ) (id : ProgramId) → IsFileOf words text file → (made : List Made) (reports : List Report) → AreReportsOf file made reports
      → AreEach (IsPartReport tree known) (part_runs words share made) (map (widened_report id share) reports)
  part-reports words share file id is [] [] are = tt
  part-reports words share file id is [] (r ∷ reports) are = absurd are
  part-reports words share file id is (one ∷ made) [] are = absurd are
  part-reports words share file id is (one ∷ made) (r ∷ reports) are = (part-report words share file id is one r are.0, part-reports words share file id is made reports are.1)

  -- the texts are spelled by bundles, and what these hold are reports of the runs
  record AreHeldParts (runs : List PartRun) (texts : List (List ℕ)) : Type 0 where
    pub bundles : List Bundle
    pub are_spelled : AreSpelled texts bundles
    pub reports : List Report
    pub are : AreEach (IsPartReport tree known) runs reports
    pub same : SameReports reports (reports_in bundles)

  module _ (one_report : OneReport) (one_collection : OneCollection) (written : WrittenCollection) (members : HasMembers) (has_same : HasSame) (wide_whole : AWidenedCollectionIsOfTheWhole) (whole : List ℕ) where
    -- what was collected of texts are their reports
    all-same : (inner : List (List ℕ)) (collection : List ℕ) (left : IsLeftByCollect whole inner collection) (runs : List PartRun) (within : AreHeldParts runs inner)
        → SameReports within.reports (reports_in left.collected.gathered.bundles)
    all-same inner collection left runs within =
        let g = left.collected.gathered in
        let spelled : AreSpelled inner g.bundles = subst (λ texts. AreSpelled texts g.bundles) left.texts_are g.are_spelled in
        subst (λ bundles. SameReports within.reports (reports_in bundles)) (spelled-once one_report one_collection inner within.bundles g.bundles within.are_spelled spelled) within.same

    -- so are those of the collection, each under its run
    is-mapped : (inner : List (List ℕ)) (collection : List ℕ) (left : IsLeftByCollect whole inner collection) (runs : List PartRun) (within : AreHeldParts runs inner)
        → left.collected.collection.reports ≡ map_of within.reports
    is-mapped inner collection left runs within =
        let all = reports_in left.collected.gathered.bundles in
        all-mapped one_report one_collection written members whole inner collection left
        ∙ has_same all within.reports (all-alike one_report one_collection written members whole inner collection left)
        (same-turned within.reports all (all-same inner collection left runs within))

    same-collected : (inner : List (List ℕ)) (collection : List ℕ) (left : IsLeftByCollect whole inner collection) (runs : List PartRun) (within : AreHeldParts runs inner)
        → SameReports within.reports left.collected.collection.reports
    same-collected inner collection left runs within =
        let all = reports_in left.collected.gathered.bundles in
        let alike = all-alike one_report one_collection written members whole inner collection left in
        let held = all-mapped one_report one_collection written members whole inner collection left in
        same-through within.reports all left.collected.collection.reports (all-same inner collection left runs within)
        (same-through all (map_of all) left.collected.collection.reports (λ r. ((members all alike r).1, (members all alike r).0)) (same-as (map_of all) left.collected.collection.reports (sym held)))

    -- a widened collection
    a-part : (words : TransformWords) (share : Part) (made : List Made) (more : List PartRun) (wide : List ℕ) (texts : List (List ℕ)) → IsLeftByWiden text whole words share made wide → AreHeldParts more texts
        → AreHeldParts (part_runs words share (by_number made) ++ more) (wide ∷ texts)
    a-part words share made more wide texts left rest =
        let w = left.widened in
        let id : ProgramId = record { bytes = sha256 w.texts.whole } in
        let fits = subst (λ s. PartFits s) (sym left.share_is) left.fits in
        let spelled = (wide_whole left.held left.asked wide fits w).spell.collection in
        let of_runs : AreReportsOf left.file (by_number made) w.bundle.reports =
        of-collection one_report one_collection written members left.file has_same made left.collection w.bundle left.is_collection
        (subst (λ bytes. SpellsBundle bytes w.bundle) left.collection_is w.spell.runs.spell.collection) in
        let b = widened_as w.texts.whole left.asked.part w.bundle in
        let reports = map (widened_report id share) w.bundle.reports in
        record {
          bundles = b ∷ rest.bundles;
          are_spelled = (bundle-file wide b (ap is_collection w.text_is ∙ widened-titled b) spelled, rest.are_spelled);
          reports = reports ++ rest.reports;
          are = each-both (IsPartReport tree known) (part_runs words share (by_number made)) more reports rest.reports
              (part-reports words share left.file id left.is_file (by_number made) w.bundle.reports of_runs) rest.are;
          same = same-both reports b.reports rest.reports (reports_in rest.bundles)
              (same-as reports b.reports (ap (λ s. map (widened_report id s) w.bundle.reports) (sym left.share_is))) rest.same;
        }

    some-parts : (runs more : List PartRun) (collection : List ℕ) (inner texts : List (List ℕ)) → IsLeftByCollect whole inner collection → AreHeldParts runs inner → AreHeldParts more texts
        → AreHeldParts (runs ++ more) (collection ∷ texts)
    some-parts runs more collection inner texts left within rest =
        let c = left.collected.collection in
        record {
          bundles = bundle_of c ∷ rest.bundles;
          are_spelled = (collection-file written collection c left.collected.gathered.fits left.collected.text_is, rest.are_spelled);
          reports = within.reports ++ rest.reports;
          are = each-both (IsPartReport tree known) runs more within.reports rest.reports within.are rest.are;
          same = same-both within.reports c.reports rest.reports (reports_in rest.bundles) (same-collected inner collection left runs within) rest.same;
        }

    held-parts : {runs : List PartRun} {texts : List (List ℕ)} → HoldParts text whole runs texts → AreHeldParts runs texts
    held-parts NoParts = record { bundles = []; are_spelled = tt; reports = []; are = tt; same = λ r. (λ is. is, λ is. is) }
    held-parts (APart {words = words} {share = share} {made = made} {more = more} {wide = wide} {texts = texts} left rest) = a-part words share made more wide texts left (held-parts rest)
    held-parts (SomeParts {runs = runs} {more = more} {collection = collection} {inner = inner} {texts = texts} left within rest) =
        some-parts runs more collection inner texts left (held-parts within) (held-parts rest)

    -- site s of a part's program is the site I + s * N of the whole one
    share-of : HasItsSites → (words part : TransformWords) (share : Part) (made : List Made) (wide : List ℕ) → IsFileOf words text whole → IsLeftByWiden text whole part share made wide
        → (site : ℕ) → slice_get (meant_sites tree known (plan_of part)) site ≡ slice_get (meant_sites tree known (plan_of words)) (whole_number share site)
    share-of has_sites words part share made wide is left site =
        let w = left.widened in
        let parts_mean = table-means one_ending one_program one_tree one_known text left.file (plan_of part) left.is_file.program left.is_file.compiled left.is_file.spells tree known accepted w.parts
        (subst (λ bytes. SpellsProgram bytes w.parts) left.program_is w.spell.runs.spell.program) in
        let whole_means = table-means one_ending one_program one_tree one_known text whole (plan_of words) is.program is.compiled is.spells tree known accepted w.whole
        (subst (λ bytes. SpellsProgram bytes w.whole) left.whole_is w.spell.whole_spelled) in
        let same : meant_sites tree known (plan_of part) ≡ part_of share (meant_sites tree known (plan_of words)) =
        ap (λ (t : TableParts). t.sites) (sym parts_mean) ∙ ap (λ (t : TableParts). t.sites) w.spell.has_part
        ∙ ap (λ (p : Part). part_of p (table_of w.whole).sites) left.share_is ∙ ap (λ (t : TableParts). part_of share t.sites) whole_means in
        ap (λ (sites : List Site). slice_get sites site) same ∙ has_sites share (meant_sites tree known (plan_of words)) site left.fits

    both-share : (P : PartRun → Type 0) (a b : List PartRun) → AllByRecursion P a → AllByRecursion P b → AllByRecursion P (a ++ b)
    both-share P [] b first second = second
    both-share P (run ∷ a) b first second = (first.0, both-share P a b first.1 second)

    each-share : (words part : TransformWords) (share : Part) (made : List Made)
        → ((site : ℕ) → slice_get (meant_sites tree known (plan_of part)) site ≡ slice_get (meant_sites tree known (plan_of words)) (whole_number share site))
        → AllByRecursion (HasItsShare tree known (plan_of words)) (part_runs part share made)
    each-share words part share [] has = tt
    each-share words part share (one ∷ made) has = (has, each-share words part share made has)

    all-shares : HasItsSites → (words : TransformWords) → IsFileOf words text whole → {runs : List PartRun} {texts : List (List ℕ)} → HoldParts text whole runs texts
        → AllByRecursion (HasItsShare tree known (plan_of words)) runs
    all-shares has_sites words is NoParts = tt
    all-shares has_sites words is (APart {words = part} {share = share} {made = made} {more = more} {wide = wide} left rest) =
        both-share (HasItsShare tree known (plan_of words)) (part_runs part share (by_number made)) more
        (each-share words part share (by_number made) (share-of has_sites words part share made wide is left)) (all-shares has_sites words is rest)
    all-shares has_sites words is (SomeParts {runs = runs} {more = more} left within rest) =
        both-share (HasItsShare tree known (plan_of words)) runs more (all-shares has_sites words is within) (all-shares has_sites words is rest)

    -- the ranking of such a collection
    ranked-so : (words : TransformWords) (collection ranking : List ℕ) (runs : List PartRun) (texts : List (List ℕ)) (held : Option Held) (r : RankWords) → IsFileOf words text whole → HoldParts text whole runs texts
        → IsLeftByCollect whole texts collection → (ranked : IsRanked held r ranking) → ranked.texts.program ≡ whole → ranked.texts.collection ≡ collection
        → IsRankingOf (meant_table tree known (plan_of words)) r.policy (map (meant_part_run tree known) (firsts_by_number run_number runs)) ranking
    ranked-so words collection ranking runs texts held r is hold left ranked program_is collection_is =
        let c = left.collected.collection in
        let within = held-parts hold in
        let b = ranked.bundle in
        let spelled = subst (λ bytes. SpellsBundle bytes b) collection_is ranked.spell.spell.collection in
        let same : b ≡ bundle_of c = one_collection collection b (bundle_of c) spelled (collection-spelled written collection c left.collected.gathered.fits left.collected.text_is) in
        let reports : b.reports ≡ map_of within.reports = ap (λ (x : Bundle). x.reports) same ∙ is-mapped texts collection left runs within in
        let each = each-first (IsPartReport tree known) run_number (λ run x of_run. of_run.number) runs within.reports within.are in
        let seen : runs_of b.reports ≡ map (meant_part_run tree known) (firsts_by_number run_number runs) = ap runs_of reports ∙ seen-each tree known (firsts_by_number run_number runs) (map_of within.reports) each in
        let table = table-means one_ending one_program one_tree one_known text whole (plan_of words) is.program is.compiled is.spells tree known accepted ranked.parts
        (subst (λ bytes. SpellsProgram bytes ranked.parts) program_is ranked.spell.spell.program) in
        subst (λ t. IsRankingOf t r.policy (map (meant_part_run tree known) (firsts_by_number run_number runs)) ranking) table
        (subst (λ rs. IsRankingOf (table_of ranked.parts) r.policy rs ranking) seen ranked.ranking)

    pub ranks-farm : HasItsSites → (words : TransformWords) (collection ranking : List ℕ) (runs : List PartRun) (texts : List (List ℕ)) (held : Option Held) (r : RankWords) → IsFileOf words text whole
        → HoldParts text whole runs texts → IsLeftByCollect whole texts collection → (ranked : IsRanked held r ranking) → ranked.texts.program ≡ whole → ranked.texts.collection ≡ collection
        → IsFarmRanking tree known (plan_of words) r.policy runs ranking
    ranks-farm has_sites words collection ranking runs texts held r is hold left ranked program_is collection_is = record {
      ranking_is = ranked-so words collection ranking runs texts held r is hold left ranked program_is collection_is;
      shares = all-shares has_sites words is hold;
    }

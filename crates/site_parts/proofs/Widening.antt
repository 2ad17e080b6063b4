-- Widened reports can be spelled.
use Rattle.std.proofs.Common.{◌≡◌, ℕ, ◌+◌, ◌≤◌, List, [], ◌∷◌, map, refl, arith}
use Rattle.std.proofs.Math.Nat.{add-mul}
use Rattle.std.proofs.lemmas.List.{length-map}
use Rattle.std.proofs.lemmas.List.Elements.{All-head, All-tail}
use Rattle.std.proofs.lemmas.Nat.{mul-le}
use Rattle.flow.specs.Sites.{PartFits}
use Rattle.cbi_base.specs.declared.identity.ProgramId.{ProgramId}
use Rattle.cbi_base.specs.ProgramId.{IsId}
use Rattle.report_file.specs.declared.report.Entry.{Entry}
use Rattle.report_file.specs.declared.report.Report.{Report}
use Rattle.report_file.specs.Report.{AreEntries, IsReport, RiseFrom, greatest_site}
use Rattle.collector.specs.declared.collection.Bundle.{Bundle}
use Rattle.collector.specs.Collected.{marks_of}
use Rattle.collector.specs.Merging.{AreOfBundle, AreReports, IsBundle}
use Rattle.collector.specs.Spelling.{IsText, RunsFrom}
use Rattle.flow.specs.declared.choice.Part.{Part}
use Rattle.program_parts.specs.Part.{whole_number}
use Rattle.site_parts.specs.Widened.{MayWiden, MayWidenAll, widened_entries, widened_bundle, widened_entry, widened_report}

whole_rises : (part : Part) (low site : ℕ) → low ≤ site → whole_number part low ≤ whole_number part site
whole_rises part low site h = omega (arith, mul-le low part.count site part.count h (omega arith))

whole_more : (part : Part) (site : ℕ) → whole_number part (site + 1) ≡ whole_number part site + part.count
whole_more part site = omega (arith, add-mul site 1 part.count)

entries_rise : (part : Part) (low from : ℕ) (entries : List Entry) → PartFits part → from ≤ whole_number part low → RiseFrom low entries → RiseFrom from (widened_entries part entries)
entries_rise part low from [] is h rise = tt
entries_rise part low from (e ∷ more) is h rise = (
  omega (arith, h, whole_rises part low e.site rise.0),
  entries_rise part (e.site + 1) (whole_number part e.site + 1) more is (omega (arith, whole_more part e.site, is.some)) rise.1,
)

entries_are : (part : Part) (entries : List Entry) → MayWiden part entries → AreEntries entries → AreEntries (widened_entries part entries)
entries_are part [] may are = tt
entries_are part (e ∷ more) may are =
    let small : Entry → Type 0 = λ x. whole_number part x.site ≤ greatest_site in (
      record { site = All-head small e more may; counts = are.0.counts; positive = are.0.positive },
      entries_are part more (All-tail small e more may) are.1,
    )

report_is : (whole : ProgramId) (part : Part) (r : Report) → PartFits part → IsId whole → MayWiden part r.entries → IsReport r → IsReport (widened_report whole part r)
report_is whole part r is id may good = record {
  program = id;
  run = good.run;
  outcome = good.outcome;
  work = good.work;
  entries = entries_are part r.entries may good.entries;
  rising = entries_rise part 0 0 r.entries is (omega arith) good.rising;
}

reports_are : (whole : ProgramId) (part : Part) (reports : List Report) → PartFits part → IsId whole → MayWidenAll part reports → AreReports reports →
    AreReports (map (widened_report whole part) reports)
reports_are whole part [] is id may are = tt
reports_are whole part (r ∷ more) is id may are =
    let each : Report → Type 0 = λ x. MayWiden part x.entries in (
      report_is whole part r is id (All-head each r more may) are.0,
      reports_are whole part more is id (All-tail each r more may) are.1,
    )

of_whole : (part : Part) (bundle : Bundle) (reports : List Report) → AreOfBundle bundle (map (widened_report bundle.program part) reports)
of_whole part bundle [] = tt
of_whole part bundle (r ∷ more) = (refl, of_whole part bundle more)

runs_same : (whole : ProgramId) (part : Part) (run : ℕ) (reports : List Report) → RunsFrom run reports → RunsFrom run (map (widened_report whole part) reports)
runs_same whole part run [] rise = tt
runs_same whole part run (r ∷ more) rise = (rise.0, runs_same whole part (r.run + 1) more rise.1)

marks_same : (whole : ProgramId) (part : Part) (reports : List Report) → marks_of (map (widened_report whole part) reports) ≡ marks_of reports
marks_same whole part [] = refl
marks_same whole part (r ∷ more) = omega (arith, length-map r.entries (widened_entry part), marks_same whole part more)

pub bundle_is : (whole : ProgramId) (part : Part) (b : Bundle) → PartFits part → IsId whole → MayWidenAll part b.reports → IsBundle b → IsBundle (widened_bundle whole part b)
bundle_is whole part b is id may good = record {
  reports = reports_are whole part b.reports is id may good.reports;
  program = of_whole part (widened_bundle whole part b) b.reports;
  few = omega (arith, good.few, length-map b.reports (widened_report whole part));
}

pub text_is : (whole : ProgramId) (part : Part) (b : Bundle) → PartFits part → IsId whole → MayWidenAll part b.reports → IsText b → IsText (widened_bundle whole part b)
text_is whole part b is id may good = record {
  program = id;
  reports = reports_are whole part b.reports is id may good.reports;
  ours = of_whole part (widened_bundle whole part b) b.reports;
  rising = runs_same whole part 0 b.reports good.rising;
  few = omega (arith, good.few, length-map b.reports (widened_report whole part));
  few_marks = omega (arith, good.few_marks, marks_same whole part b.reports);
}

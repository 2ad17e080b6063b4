-- The lines of a bundle lead from the start to an end.
use Rattle.std.proofs.Common.{◌≡◌, ◌+◌, ◌≤◌, ℕ, inl, inr, List, [], ◌∷◌, ◌++◌, length, Option, None, Some, codes, ap, sym, subst, ◌∙◌, refl, append_assoc, length-append, true, arith}
use Rattle.std.specs.Prelude.{map}
use Rattle.std.specs.List.{AllByRecursion, flat_map}
use Rattle.std.specs.Option.{option_to_list}
use Rattle.std.proofs.lemmas.List.{append-nil, map-append}
use Rattle.std.specs.Global.{Global}
use Rattle.cbi_base.specs.Words.{LeadsTo, ReadsLines, line_of_fields, text_of}
use Rattle.cbi_base.specs.declared.identity.ProgramId.{ProgramId}
use Rattle.report_file.specs.declared.draft.Version.{Version}
use Rattle.report_file.specs.declared.draft.Version.TheVariants as version
use Rattle.report_file.specs.declared.report.Entry.{Entry}
use Rattle.report_file.specs.declared.report.Report.{Report}
use Rattle.report_file.specs.Label.{label_of}
use Rattle.report_file.specs.Report.{AreEntries, IsReport, RiseFrom}
use Rattle.report_file.specs.RunLine.{IsRunLine, line_of, run_line_fields}
use Rattle.report_file.specs.Spelling.{site_fields}
use Rattle.report_file.proofs.LineLemmas.{IsRow, row-program, row-site}
use Rattle.report_file.proofs.RunLines.{run-row, second-not-first}
use Rattle.report_file.proofs.Whole.{end_of, rows-lines}
use Rattle.collector.specs.declared.collection.Bundle.{Bundle}
use Rattle.collector.specs.declared.draft.Draft.{Draft}
use Rattle.collector.specs.declared.draft.Due.TheVariants as due
use Rattle.collector.specs.Collected.{mark_limit, marks_of, report_limit}
use Rattle.collector.specs.Grammar.{BundleEnds, BundleLineFollows, RunFollows, report_without_sites, bundle_start, current_report_closed}
use Rattle.collector.specs.Merging.{AreOfBundle, AreReports}
use Rattle.collector.specs.Spelling.{HavePlainLabels, IsText, RunsFrom, SpellsBundle, WithLabels, Without, bundle_rows, bundle_title, report_rows}

leads-append : (xs ys : List (List ℕ)) (a b c : Draft) → LeadsTo BundleLineFollows a xs b → LeadsTo BundleLineFollows b ys c → LeadsTo BundleLineFollows a (xs ++ ys) c
leads-append [] ys a b c first second = subst (λ d. LeadsTo BundleLineFollows d ys c) (sym first) second
leads-append (x ∷ xs) ys a b c first second = (first.0, first.1, leads-append xs ys first.0 b c first.2 second)

-- a draft among the runs
abbrev at : Global → ProgramId → Version → List Report → Option Report → ℕ → ℕ → ℕ → Draft
at alloc program v reports current run site marks = record {
  alloc = alloc;
  due = due.Runs;
  version = v;
  program = program;
  reports = reports;
  current = current;
  run = run;
  site = site;
  marks = marks;
}

abbrev with_entries : Report → List Entry → Report
with_entries r entries = record r { entries = entries }

sites-lead : (alloc : Global) (program : ProgramId) (v : Version) (reports : List Report) (r : Report) (run : ℕ) (done more : List Entry) (site marks : ℕ) → AreEntries more → RiseFrom site more → marks + length more ≤ mark_limit → LeadsTo BundleLineFollows (at alloc program v reports (Some (with_entries r done)) run site marks) (map line_of_fields (map site_fields more)) (at alloc program v reports (Some (with_entries r (done ++ more))) run (end_of site more) (marks + length more))
sites-lead alloc program v reports r run done [] site marks are rise fits =
    let same : marks ≡ marks + length (let none : List Entry = [] in none) = omega arith in
    ap (λ es. at alloc program v reports (Some (with_entries r es)) run site marks) (sym (append-nil done)) ∙ ap (λ m. at alloc program v reports (Some (with_entries r (done ++ []))) run site m) same
sites-lead alloc program v reports r run done (e ∷ more) site marks are rise fits =
    let rest = sites-lead alloc program v reports r run (done ++ e ∷ []) more (e.site + 1) (marks + 1) are.1 rise.1 (omega arith) in
    let number : (marks + 1) + length more ≡ marks + length (e ∷ more) = omega arith in (
      at alloc program v reports (Some (with_entries r (done ++ e ∷ []))) run (e.site + 1) (marks + 1),
      inr (inl (record {
        report = with_entries r done;
        value = e;
        is_current = refl;
        is_next = record { is_entry = are.0; rises = rise.0 };
        room = omega arith;
        line_is = refl;
        after_is = refl;
      })),
      subst (λ m. LeadsTo BundleLineFollows (at alloc program v reports (Some (with_entries r (done ++ e ∷ []))) run (e.site + 1) (marks + 1)) (map line_of_fields (map site_fields more)) (at alloc program v reports (Some (with_entries r (done ++ e ∷ more))) run (end_of (e.site + 1) more) m)) number
          (subst (λ es. LeadsTo BundleLineFollows (at alloc program v reports (Some (with_entries r (done ++ e ∷ []))) run (e.site + 1) (marks + 1)) (map line_of_fields (map site_fields more)) (at alloc program v reports (Some (with_entries r es)) run (end_of (e.site + 1) more) ((marks + 1) + length more))) (append_assoc done (e ∷ []) more) rest),
    )

-- where the lines of reports lead: all of them are there
record Arrives (alloc : Global) (program : ProgramId) (v : Version) (from : Draft) (lines : List (List ℕ)) (all : List Report) : Type 0 where
  reports : List Report
  current : Option Report
  run : ℕ
  site : ℕ
  marks : ℕ
  leads : LeadsTo BundleLineFollows from lines (at alloc program v reports current run site marks)
  whole_is : reports ++ option_to_list current ≡ all

abbrev AllOf : ProgramId → List Report → Type 0
AllOf program [] = Unit {0}
AllOf program (r ∷ more) = (r.program ≡ program) × AllOf program more

pub is-run-line : (v : Version) (r : Report) → IsReport r → (v ≡ version.First → r.label ≡ label_of r.outcome true) → IsRunLine v (line_of r)
is-run-line v r is plain = record { run = is.run; outcome = is.outcome; work = is.work; label = plain }

reports-lead : (alloc : Global) (program : ProgramId) (v : Version) (reports : List Report) (current : Option Report) (run site marks : ℕ) (more : List Report) → AreReports more → AllOf program more → (v ≡ version.First → HavePlainLabels more) → RunsFrom run more → length (reports ++ option_to_list current) + length more ≤ report_limit → marks + marks_of more ≤ mark_limit → Arrives alloc program v (at alloc program v reports current run site marks) (map line_of_fields (flat_map (report_rows v) more)) ((reports ++ option_to_list current) ++ more)
reports-lead alloc program v reports current run site marks [] are ours plain rise few fits = record {
  reports = reports;
  current = current;
  run = run;
  site = site;
  marks = marks;
  leads = refl;
  whole_is = sym (append-nil (reports ++ option_to_list current));
}
reports-lead alloc program v reports current run site marks (r ∷ more) are ours plain rise few fits =
    let whole = reports ++ option_to_list current in
    let x = line_of r in
    let read = with_entries (report_without_sites program x) r.entries in
    let same : read ≡ r = ap (λ p. record r { program = p }) (sym ours.0) in
    let first = at alloc program v whole (Some (report_without_sites program x)) (r.run + 1) 0 marks in
    let second = at alloc program v whole (Some read) (r.run + 1) (end_of 0 r.entries) (marks + length r.entries) in
    let sites : LeadsTo BundleLineFollows first (map line_of_fields (map site_fields r.entries)) second = sites-lead alloc program v whole (report_without_sites program x) (r.run + 1) [] r.entries 0 marks are.0.entries are.0.rising (omega arith) in
    let rest = reports-lead alloc program v whole (Some read) (r.run + 1) (end_of 0 r.entries) (marks + length r.entries) more are.1 ours.1 (λ e. (plain e).1) rise.1 (omega (arith, length-append {A = Report} whole (read ∷ []))) (omega arith) in
    let to = at alloc program v rest.reports rest.current rest.run rest.site rest.marks in
    let line : RunFollows (at alloc program v reports current run site marks) (line_of_fields (run_line_fields v x)) first = record { value = x; is_line = is-run-line v r are.0 (λ e. (plain e).0); rises = rise.0; room = omega arith; line_is = refl; after_is = refl } in
    let behind = leads-append (map line_of_fields (map site_fields r.entries)) (map line_of_fields (flat_map (report_rows v) more)) first second to sites rest.leads in record {
      reports = rest.reports;
      current = rest.current;
      run = rest.run;
      site = rest.site;
      marks = rest.marks;
      leads = (first, inl line, subst (λ lines. LeadsTo BundleLineFollows first lines to) (sym (map-append line_of_fields (map site_fields r.entries) (flat_map (report_rows v) more))) behind);
      whole_is = rest.whole_is ∙ append_assoc whole (read ∷ []) more ∙ ap (λ y. whole ++ y ∷ more) same;
    }

all-of : (b : Bundle) (reports : List Report) → AreOfBundle b reports → AllOf b.program reports
all-of b [] are = tt
all-of b (r ∷ more) are = (are.0, all-of b more are.1)

site-rows : (entries : List Entry) → AreEntries entries → AllByRecursion IsRow (map site_fields entries)
site-rows [] are = tt
site-rows (e ∷ more) are = (row-site e are.0, site-rows more are.1)

rows-append : (xs ys : List (List (List ℕ))) → AllByRecursion IsRow xs → AllByRecursion IsRow ys → AllByRecursion IsRow (xs ++ ys)
rows-append [] ys all more = more
rows-append (x ∷ xs) ys all more = (all.0, rows-append xs ys all.1 more)

report-rows : (v : Version) (reports : List Report) → AreReports reports → (v ≡ version.First → HavePlainLabels reports) → AllByRecursion IsRow (flat_map (report_rows v) reports)
report-rows v [] are plain = tt
report-rows v (r ∷ more) are plain =
    rows-append (report_rows v r) (flat_map (report_rows v) more) (run-row v (line_of r) (is-run-line v r are.0 (λ e. (plain e).0)), site-rows r.entries are.0.entries) (report-rows v more are.1 (λ e. (plain e).1))

title-row : (v : Version) → IsRow (bundle_title v)
title-row version.First = (refl, (refl, tt))
title-row version.Second = (refl, (refl, tt))

-- what is spelled so is read
pub record IsRead (alloc : Global) (text : List ℕ) (b : Bundle) : Type 0 where
  pub to : Draft
  pub reads : ReadsLines BundleLineFollows BundleEnds (bundle_start alloc) text to
  pub program_is : to.program ≡ b.program
  pub reports_are : to.reports ≡ b.reports

text-reads : (alloc : Global) (v : Version) (text : List ℕ) (b : Bundle) → IsText b → (v ≡ version.First → HavePlainLabels b.reports) → text ≡ text_of (map line_of_fields (bundle_rows v b)) → IsRead alloc text b
text-reads alloc v text b is plain text_is =
    let s1 : Draft = record (bundle_start alloc) { due = due.Program; version = v } in
    let s2 = at alloc b.program v [] None 0 0 0 in
    let all = reports-lead alloc b.program v [] None 0 0 0 b.reports is.reports (all-of b b.reports is.ours) plain is.rising (omega (arith, is.few)) (omega (arith, is.few_marks)) in
    let s3 = at alloc b.program v all.reports all.current all.run all.site all.marks in
    let to : Draft = record (current_report_closed s3) { due = due.Nothing } in
    let end_row : List (List ℕ) = codes "end" ∷ [] in
    let rows = flat_map (report_rows v) b.reports in
    let last : LeadsTo BundleLineFollows s3 (map line_of_fields (end_row ∷ [])) to = (to, inr (inr (record { line_is = refl; after_is = refl })), refl) in
    let body : LeadsTo BundleLineFollows s2 (map line_of_fields (rows ++ end_row ∷ [])) to = subst (λ lines. LeadsTo BundleLineFollows s2 lines to) (sym (map-append line_of_fields rows (end_row ∷ []))) (leads-append (map line_of_fields rows) (map line_of_fields (end_row ∷ [])) s2 s3 to all.leads last) in record {
      to = to;
      reads = record {
        lines = map line_of_fields (bundle_rows v b);
        text_is = text_is;
        are_lines = rows-lines (bundle_rows v b) (title-row v, (row-program b.program is.program, rows-append rows (end_row ∷ []) (report-rows v b.reports is.reports plain) ((refl, tt), tt)));
        leads = (s1, record { value = v; line_is = refl; after_is = refl }, (s2, record { value = b.program; is_id = is.program; line_is = refl; after_is = refl }, body));
        over = refl;
      };
      program_is = refl;
      reports_are = all.whole_is;
    }

pub spelled-reads : (alloc : Global) (text : List ℕ) (b : Bundle) → SpellsBundle text b → IsRead alloc text b
spelled-reads alloc text b (WithLabels is text_is) = text-reads alloc version.Second text b is (λ e. absurd (second-not-first e)) text_is
spelled-reads alloc text b (Without is plain text_is) = text-reads alloc version.First text b is (λ _. plain) text_is

-- what has a text is a bundle
pub spelled-is : (text : List ℕ) (b : Bundle) → SpellsBundle text b → IsText b
spelled-is text b (WithLabels is text_is) = is
spelled-is text b (Without is plain text_is) = is

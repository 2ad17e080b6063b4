-- Lines that lead from the start to an end are those of the bundle that was read.
use Rattle.std.proofs.Common.{◌≡◌, ◌⊎◌, ◌+◌, ◌<◌, ◌≤◌, ℕ, true, ⊎_elim, List, [], ◌∷◌, ◌++◌, length, Option, None, Some, codes, ap, sym, subst, ◌∙◌, refl, append_assoc, length-append, arith}
use Rattle.std.specs.Prelude.{map}
use Rattle.std.specs.List.{flat_map}
use Rattle.std.specs.Option.{option_to_list}
use Rattle.std.proofs.lemmas.List.{append-nil, map-append}
use Rattle.std.proofs.lemmas.Grind.{flat_map-append}
use Rattle.std.specs.Global.{Global}
use Rattle.cbi_base.specs.Words.{LeadsTo, ReadsLines, IsId, line_of_fields, text_of}
use Rattle.cbi_base.specs.declared.identity.ProgramId.{ProgramId}
use Rattle.report_file.specs.declared.draft.Version.{Version}
use Rattle.report_file.specs.declared.draft.Version.TheVariants as version
use Rattle.report_file.specs.declared.report.Entry.{Entry}
use Rattle.report_file.specs.declared.report.Report.{Report}
use Rattle.report_file.specs.declared.run_line.RunLine.{RunLine}
use Rattle.report_file.specs.Grammar.{IsNextEntry}
use Rattle.report_file.specs.Label.{label_of}
use Rattle.report_file.specs.Report.{IsReport}
use Rattle.report_file.specs.RunLine.{IsRunLine, line_of, run_line_fields}
use Rattle.report_file.specs.Spelling.{program_fields, site_fields}
use Rattle.report_file.proofs.Whole.{AreEntries-more, RiseFrom-more, end_of, end_of-more, row-more}
use Rattle.collector.specs.declared.collection.Bundle.{Bundle}
use Rattle.collector.specs.declared.draft.Draft.{Draft}
use Rattle.collector.specs.declared.draft.Due.{Due}
use Rattle.collector.specs.declared.draft.Due.TheVariants as due
use Rattle.collector.specs.Collected.{mark_limit, marks_of, report_limit}
use Rattle.collector.specs.Grammar.{BundleEnds, BundleLineComes, BundleLineFollows, EndFollows, RunFollows, RunSiteFollows, report_without_sites, bundle_start, current_report_closed, draft_reports}
use Rattle.collector.specs.Merging.{AreOfBundle, AreReports}
use Rattle.collector.specs.Spelling.{HavePlainLabels, IsText, RunsFrom, SpellsBundle, WithLabels, Without, bundle_rows, bundle_title, report_rows}

-- a report that was read
pub record Fits (program : ProgramId) (v : Version) (r : Report) : Type 0 where
  pub is_report : IsReport r
  pub ours : r.program ≡ program
  pub plain : v ≡ version.First → r.label ≡ label_of r.outcome true

abbrev pub AreAll : ProgramId → Version → List Report → Type 0
AreAll program v [] = Unit {0}
AreAll program v (r ∷ more) = Fits program v r × AreAll program v more

-- the run behind the reports
abbrev pub runs_end : ℕ → List Report → ℕ
runs_end run [] = run
runs_end run (r ∷ more) = runs_end (r.run + 1) more

abbrev pub CurrentFits : ProgramId → Version → List Report → ℕ → ℕ → Option Report → Type 0
CurrentFits program v reports run site None = run ≡ runs_end 0 reports
CurrentFits program v reports run site (Some r) = Fits program v r × (runs_end 0 reports ≤ r.run) × (run ≡ r.run + 1) × (site ≡ end_of 0 r.entries)

-- what holds of the parts that were read
pub record Kept (program : ProgramId) (v : Version) (reports : List Report) (current : Option Report) (run site marks : ℕ) : Type 0 where
  pub is_id : IsId program
  pub are_all : AreAll program v reports
  pub rising : RunsFrom 0 reports
  pub fits : CurrentFits program v reports run site current
  pub few : length (reports ++ option_to_list current) ≤ report_limit
  pub marks_are : marks ≡ marks_of (reports ++ option_to_list current)
  pub few_marks : marks ≤ mark_limit

AreAll-more : (program : ProgramId) (v : Version) (reports : List Report) (r : Report) → AreAll program v reports → Fits program v r → AreAll program v (reports ++ r ∷ [])
AreAll-more program v [] r are is = (is, tt)
AreAll-more program v (x ∷ xs) r are is = (are.0, AreAll-more program v xs r are.1 is)

RunsFrom-more : (run : ℕ) (reports : List Report) (r : Report) → RunsFrom run reports → runs_end run reports ≤ r.run → RunsFrom run (reports ++ r ∷ [])
RunsFrom-more run [] r rise next = (next, tt)
RunsFrom-more run (x ∷ xs) r rise next = (rise.0, RunsFrom-more (x.run + 1) xs r rise.1 next)

runs_end-more : (run : ℕ) (reports : List Report) (r : Report) → runs_end run (reports ++ r ∷ []) ≡ r.run + 1
runs_end-more run [] r = refl
runs_end-more run (x ∷ xs) r = runs_end-more (x.run + 1) xs r

marks-append : (xs ys : List Report) → marks_of (xs ++ ys) ≡ marks_of xs + marks_of ys
marks-append [] ys = omega arith
marks-append (x ∷ xs) ys = omega (arith, marks-append xs ys)

-- the report that goes on is whole
closed-kept : (program : ProgramId) (v : Version) (reports : List Report) (current : Option Report) (run site marks : ℕ) → Kept program v reports current run site marks → Kept program v (reports ++ option_to_list current) None run site marks
closed-kept program v reports None run site marks k = subst (λ xs. Kept program v xs None run site marks) (sym (append-nil reports)) k
closed-kept program v reports (Some r) run site marks k =
    let nil = append-nil (reports ++ r ∷ []) in record {
      is_id = k.is_id;
      are_all = AreAll-more program v reports r k.are_all k.fits.0;
      rising = RunsFrom-more 0 reports r k.rising k.fits.1;
      fits = k.fits.2 ∙ sym (runs_end-more 0 reports r);
      few = subst (λ xs. length xs ≤ report_limit) (sym nil) k.few;
      marks_are = k.marks_are ∙ ap marks_of (sym nil);
      few_marks = k.few_marks;
    }

begun-fits : (program : ProgramId) (v : Version) (x : RunLine) → IsId program → IsRunLine v x → Fits program v (report_without_sites program x)
begun-fits program v x id is = record {
  is_report = record { program = id; run = is.run; outcome = is.outcome; work = is.work; entries = tt; rising = tt };
  ours = refl;
  plain = is.label;
}

run-kept : (program : ProgramId) (v : Version) (reports : List Report) (run site marks : ℕ) (x : RunLine) → Kept program v reports None run site marks → IsRunLine v x → run ≤ x.run → length reports < report_limit → Kept program v reports (Some (report_without_sites program x)) (x.run + 1) 0 marks
run-kept program v reports run site marks x k is rises room = record {
  is_id = k.is_id;
  are_all = k.are_all;
  rising = k.rising;
  fits = (begun-fits program v x k.is_id is, omega (arith, k.fits), refl, refl);
  few = omega (arith, length-append {A = Report} reports (report_without_sites program x ∷ []));
  marks_are = k.marks_are ∙ ap marks_of (append-nil reports) ∙ omega (arith, marks-append reports (report_without_sites program x ∷ []));
  few_marks = k.few_marks;
}

abbrev pub with_entry : Report → Entry → Report
with_entry r e = record r { entries = r.entries ++ e ∷ [] }

site-fits : (program : ProgramId) (v : Version) (r : Report) (site : ℕ) (e : Entry) → site ≡ end_of 0 r.entries → Fits program v r → IsNextEntry site e → Fits program v (with_entry r e)
site-fits program v r site e is_site fits next =
    let is = fits.is_report in record {
      is_report = record {
        program = is.program;
        run = is.run;
        outcome = is.outcome;
        work = is.work;
        entries = AreEntries-more r.entries e is.entries next.is_entry;
        rising = RiseFrom-more 0 r.entries e is.rising (subst (λ s. s ≤ e.site) is_site next.rises);
      };
      ours = fits.ours;
      plain = fits.plain;
    }

site-kept : (program : ProgramId) (v : Version) (reports : List Report) (r : Report) (run site marks : ℕ) (e : Entry) → Kept program v reports (Some r) run site marks → IsNextEntry site e → marks < mark_limit → Kept program v reports (Some (with_entry r e)) run (e.site + 1) (marks + 1)
site-kept program v reports r run site marks e k next room = record {
  is_id = k.is_id;
  are_all = k.are_all;
  rising = k.rising;
  fits = (site-fits program v r site e k.fits.3 k.fits.0 next, k.fits.1, k.fits.2, sym (end_of-more 0 r.entries e));
  few = omega (arith, k.few, length-append {A = Report} reports (r ∷ []), length-append {A = Report} reports (with_entry r e ∷ []));
  marks_are = omega (arith, k.marks_are, marks-append reports (r ∷ []), marks-append reports (with_entry r e ∷ []), length-append {A = Entry} r.entries (e ∷ []));
  few_marks = omega arith;
}

-- the rows with one row more
run-rows : (v : Version) (program : ProgramId) (reports : List Report) (x : RunLine) → flat_map (report_rows v) (reports ++ report_without_sites program x ∷ []) ≡ flat_map (report_rows v) reports ++ run_line_fields v x ∷ []
run-rows v program reports x = flat_map-append (report_rows v) reports (report_without_sites program x ∷ [])

site-rows : (v : Version) (reports : List Report) (r : Report) (e : Entry) → flat_map (report_rows v) (reports ++ with_entry r e ∷ []) ≡ flat_map (report_rows v) (reports ++ r ∷ []) ++ site_fields e ∷ []
site-rows v reports r e =
    let f = report_rows v in
    flat_map-append f reports (with_entry r e ∷ [])
    ∙ ap (λ rows. flat_map f reports ++ rows) (append-nil (f (with_entry r e)) ∙ ap (λ sites. run_line_fields v (line_of r) ∷ sites) (map-append site_fields r.entries (e ∷ [])) ∙ ap (λ rows. rows ++ site_fields e ∷ []) (sym (append-nil (f r))))
    ∙ sym (append_assoc (flat_map f reports) (f r ++ []) (site_fields e ∷ []))
    ∙ ap (λ rows. rows ++ site_fields e ∷ []) (sym (flat_map-append f reports (r ∷ [])))

abbrev pub bundle_of : Draft → Bundle
bundle_of d = record { program = d.program; reports = d.reports }

abbrev start_rows : Draft → List (List (List ℕ)) → List (List (List ℕ))
start_rows d more = bundle_title d.version ∷ program_fields d.program ∷ more

abbrev rows_at : Due → Draft → List (List (List ℕ))
rows_at due.Title d = []
rows_at due.Program d = bundle_title d.version ∷ []
rows_at due.Runs d = start_rows d (flat_map (report_rows d.version) (draft_reports d))
rows_at due.Nothing d = bundle_rows d.version (bundle_of d)

-- no run was read
record IsBlank (d : Draft) : Type 0 where
  reports : d.reports ≡ []
  current : d.current ≡ None
  run : d.run ≡ 0
  marks : d.marks ≡ 0

abbrev SoFar : Due → Draft → Type 0
SoFar due.Title d = IsBlank d
SoFar due.Program d = IsBlank d
SoFar due.Runs d = Kept d.program d.version d.reports d.current d.run d.site d.marks
SoFar due.Nothing d = Kept d.program d.version d.reports None d.run d.site d.marks

record Holds (due : Due) (d : Draft) (lines : List (List ℕ)) : Type 0 where
  lines_are : lines ≡ map line_of_fields (rows_at due d)
  so_far : SoFar due d

blank-kept : (program : ProgramId) (v : Version) (reports : List Report) (current : Option Report) (run site marks : ℕ) → IsId program → reports ≡ [] → current ≡ None → run ≡ 0 → marks ≡ 0 → Kept program v reports current run site marks
blank-kept program v reports current run site marks id none no_current zero_run zero_marks =
    let first : Kept program v [] None 0 site 0 = record { is_id = id; are_all = tt; rising = tt; fits = refl; few = omega arith; marks_are = refl; few_marks = omega arith } in
    subst (λ xs. Kept program v xs current run site marks) (sym none) (subst (λ c. Kept program v [] c run site marks) (sym no_current) (subst (λ n. Kept program v [] None n site marks) (sym zero_run) (subst (λ n. Kept program v [] None 0 site n) (sym zero_marks) first)))

run-step : (d : Draft) (lines : List (List ℕ)) (line : List ℕ) (x : RunLine) → Holds due.Runs d lines → IsRunLine d.version x → d.run ≤ x.run → length (draft_reports d) < report_limit → line ≡ line_of_fields (run_line_fields d.version x) → Holds due.Runs (record d { reports = draft_reports d; current = Some (report_without_sites d.program x); run = x.run + 1; site = 0 }) (lines ++ line ∷ [])
run-step d lines line x h is rises room line_is = record {
  lines_are = row-more lines line (rows_at due.Runs d) (run_line_fields d.version x) h.lines_are line_is ∙ ap (λ rows. map line_of_fields (start_rows d rows)) (sym (run-rows d.version d.program (draft_reports d) x));
  so_far = run-kept d.program d.version (draft_reports d) d.run d.site d.marks x (closed-kept d.program d.version d.reports d.current d.run d.site d.marks h.so_far) is rises room;
}

site-step : (d : Draft) (lines : List (List ℕ)) (line : List ℕ) (r : Report) (e : Entry) → Holds due.Runs d lines → d.current ≡ Some r → IsNextEntry d.site e → d.marks < mark_limit → line ≡ line_of_fields (site_fields e) → Holds due.Runs (record d { current = Some (with_entry r e); site = e.site + 1; marks = d.marks + 1 }) (lines ++ line ∷ [])
site-step d lines line r e h is next room line_is = record {
  lines_are = row-more lines line (rows_at due.Runs d) (site_fields e) h.lines_are line_is
      ∙ ap (λ rows. map line_of_fields (start_rows d rows)) (ap (λ c. flat_map (report_rows d.version) (d.reports ++ option_to_list c) ++ site_fields e ∷ []) is ∙ sym (site-rows d.version d.reports r e));
  so_far = site-kept d.program d.version d.reports r d.run d.site d.marks e (subst (λ c. Kept d.program d.version d.reports c d.run d.site d.marks) is h.so_far) next room;
}

end-step : (d : Draft) (lines : List (List ℕ)) (line : List ℕ) → Holds due.Runs d lines → line ≡ codes "end" → Holds due.Nothing (record (current_report_closed d) { due = due.Nothing }) (lines ++ line ∷ [])
end-step d lines line h line_is = record {
  lines_are = row-more lines line (rows_at due.Runs d) (codes "end" ∷ []) h.lines_are line_is;
  so_far = closed-kept d.program d.version d.reports d.current d.run d.site d.marks h.so_far;
}

-- what was read holds of one more line
step : (due : Due) (d : Draft) → d.due ≡ due → (lines : List (List ℕ)) (line : List ℕ) (after : Draft) → Holds due d lines → BundleLineComes due d line after → Holds after.due after (lines ++ line ∷ [])
step due.Title d is lines line after h s =
    subst (λ a. Holds a.due a (lines ++ line ∷ [])) (sym s.after_is) (record {
      lines_are = row-more lines line [] (bundle_title s.value) h.lines_are s.line_is;
      so_far = record { reports = h.so_far.reports; current = h.so_far.current; run = h.so_far.run; marks = h.so_far.marks };
    })
step due.Program d is lines line after h s =
    let blank = h.so_far in
    subst (λ a. Holds a.due a (lines ++ line ∷ [])) (sym s.after_is) (record {
      lines_are = row-more lines line (rows_at due.Program d) (program_fields s.value) h.lines_are s.line_is
          ∙ ap (λ xs. map line_of_fields (bundle_title d.version ∷ program_fields s.value ∷ flat_map (report_rows d.version) xs)) (sym (ap (λ xs. xs ++ option_to_list d.current) blank.reports ∙ ap option_to_list blank.current));
      so_far = blank-kept s.value d.version d.reports d.current d.run d.site d.marks s.is_id blank.reports blank.current blank.run blank.marks;
    })
step due.Runs d is lines line after h s =
    ⊎_elim (λ (run : RunFollows d line after). subst (λ a. Holds a.due a (lines ++ line ∷ [])) (sym run.after_is) (subst (λ x. Holds x (record d { reports = draft_reports d; current = Some (report_without_sites d.program run.value); run = run.value.run + 1; site = 0 }) (lines ++ line ∷ [])) (sym is) (run-step d lines line run.value h run.is_line run.rises run.room run.line_is)))
    (λ (other : RunSiteFollows d line after ⊎ EndFollows d line after). ⊎_elim (λ (site : RunSiteFollows d line after). subst (λ a. Holds a.due a (lines ++ line ∷ [])) (sym site.after_is) (subst (λ x. Holds x (record d { current = Some (with_entry site.report site.value); site = site.value.site + 1; marks = d.marks + 1 }) (lines ++ line ∷ [])) (sym is) (site-step d lines line site.report site.value h site.is_current site.is_next site.room site.line_is)))
    (λ (over : EndFollows d line after). subst (λ a. Holds a.due a (lines ++ line ∷ [])) (sym over.after_is) (end-step d lines line h over.line_is)) other) s
step due.Nothing d is lines line after h s = absurd s

leads-holds : (lines done : List (List ℕ)) (from to : Draft) → LeadsTo BundleLineFollows from lines to → Holds from.due from done → Holds to.due to (done ++ lines)
leads-holds [] done from to leads h = subst (λ d. Holds d.due d (done ++ [])) leads (subst (Holds from.due from) (sym (append-nil done)) h)
leads-holds (line ∷ more) done from to leads h =
    subst (Holds to.due to) (append_assoc done (line ∷ []) more) (leads-holds more (done ++ line ∷ []) leads.0 to leads.2 (step from.due from refl done line leads.0 h leads.1))

all-reports : (program : ProgramId) (v : Version) (reports : List Report) → AreAll program v reports → AreReports reports
all-reports program v [] are = tt
all-reports program v (r ∷ more) are = (are.0.is_report, all-reports program v more are.1)

all-ours : (b : Bundle) (v : Version) (reports : List Report) → AreAll b.program v reports → AreOfBundle b reports
all-ours b v [] are = tt
all-ours b v (r ∷ more) are = (are.0.ours, all-ours b v more are.1)

all-plain : (program : ProgramId) (reports : List Report) → AreAll program version.First reports → HavePlainLabels reports
all-plain program [] are = tt
all-plain program (r ∷ more) are = (are.0.plain refl, all-plain program more are.1)

kept-text : (b : Bundle) (v : Version) (run site marks : ℕ) → Kept b.program v b.reports None run site marks → IsText b
kept-text b v run site marks k =
    let nil = append-nil b.reports in record {
      program = k.is_id;
      reports = all-reports b.program v b.reports k.are_all;
      ours = all-ours b v b.reports k.are_all;
      rising = k.rising;
      few = subst (λ xs. length xs ≤ report_limit) nil k.few;
      few_marks = subst (λ xs. marks_of xs ≤ mark_limit) nil (subst (λ n. n ≤ mark_limit) k.marks_are k.few_marks);
    }

spelled-as : (text : List ℕ) (v : Version) (b : Bundle) (run site marks : ℕ) → Kept b.program v b.reports None run site marks → text ≡ text_of (map line_of_fields (bundle_rows v b)) → SpellsBundle text b
spelled-as text version.First b run site marks k text_is = Without (kept-text b version.First run site marks k) (all-plain b.program b.reports k.are_all) text_is
spelled-as text version.Second b run site marks k text_is = WithLabels (kept-text b version.Second run site marks k) text_is

-- what is read is spelled so
pub reads-spelled : (text : List ℕ) (alloc : Global) (from to : Draft) → from ≡ bundle_start alloc → ReadsLines BundleLineFollows BundleEnds from text to → SpellsBundle text (bundle_of to)
reads-spelled text alloc from to is reads =
    let first : Holds due.Title (bundle_start alloc) [] = record { lines_are = refl; so_far = record { reports = refl; current = refl; run = refl; marks = refl } } in
    let h = leads-holds reads.lines [] (bundle_start alloc) to (subst (λ d. LeadsTo BundleLineFollows d reads.lines to) is reads.leads) first in
    let over : Holds due.Nothing to reads.lines = subst (λ d. Holds d to reads.lines) reads.over h in
    spelled-as text to.version (bundle_of to) to.run to.site to.marks over.so_far (reads.text_is ∙ ap text_of over.lines_are)

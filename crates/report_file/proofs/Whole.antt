-- Lines that lead from the start to an end are those of the report that was read; and the lines of a report lead there.
use Rattle.std.proofs.Common.{◌≡◌, ◌+◌, ◌≤◌, ℕ, true, inl, inr, ⊎_elim, List, [], ◌∷◌, ◌++◌, codes, ap, sym, subst, ◌∙◌, refl, append_assoc}
use Rattle.std.specs.Prelude.{map}
use Rattle.std.specs.List.{AllByRecursion}
use Rattle.std.proofs.lemmas.List.{append-nil, map-append}
use Rattle.report_file.proofs.RunLines.{second-not-first}
use Rattle.cbi_base.specs.Words.{LeadsTo, ReadsLines, IsId, AreLines, Lacks, is_newline, line_of_fields, text_of}
use Rattle.cbi_base.specs.declared.outcome.Outcome.{Outcome}
use Rattle.cbi_base.proofs.FieldLemmas.{spaced-lacks-newline}
use Rattle.report_file.specs.declared.draft.Version.{Version}
use Rattle.report_file.specs.declared.draft.Version.TheVariants as version
use Rattle.report_file.specs.declared.draft.Due.{Due}
use Rattle.report_file.specs.declared.draft.Due.TheVariants as due
use Rattle.report_file.specs.declared.draft.Draft.{Draft}
use Rattle.report_file.specs.declared.report.Entry.{Entry}
use Rattle.report_file.specs.declared.report.Report.{Report}
use Rattle.report_file.specs.Label.{label_of}
use Rattle.report_file.specs.Report.{AreEntries, IsEntry, IsOutcome, IsReport, IsRun, RiseFrom}
use Rattle.report_file.specs.Spelling.{SpellsReport, WithLabel, Without, label_fields, label_rows, outcome_line, program_fields, rows_of_report, run_fields, site_fields, title_fields, work_fields}
use Rattle.report_file.specs.Grammar.{ReportLineComes, ReportEnds, ReportLineFollows, ReportEndFollows, IsNextEntry, SiteFollows, after_outcome, report_start, with_entry, with_label, with_outcome, with_program, with_run, with_version, with_work}
use Rattle.report_file.proofs.LineLemmas.{IsRow, row-label, row-outcome, row-program, row-run, row-site, row-work}

-- the rows that were read, by what is due
abbrev start_rows : Draft → List (List (List ℕ)) → List (List (List ℕ))
start_rows d more = title_fields d.version ∷ program_fields d.report.program ∷ run_fields d.report.run ∷ more

abbrev site_rows : Draft → List (List (List ℕ))
site_rows d = work_fields d.report.work ∷ map site_fields d.report.entries

abbrev rows_at : Due → Draft → List (List (List ℕ))
rows_at due.Title d = []
rows_at due.Program d = title_fields d.version ∷ []
rows_at due.Run d = title_fields d.version ∷ program_fields d.report.program ∷ []
rows_at due.Outcome d = start_rows d []
rows_at due.Label d = start_rows d (outcome_line d.report.outcome ∷ [])
rows_at due.Work d = start_rows d (outcome_line d.report.outcome ∷ label_rows d.version d.report.label)
rows_at due.Sites d = start_rows d (outcome_line d.report.outcome ∷ (label_rows d.version d.report.label ++ site_rows d))
rows_at due.Nothing d = rows_of_report d.version d.report

-- the site number behind the entries
abbrev pub end_of : ℕ → List Entry → ℕ
end_of site [] = site
end_of site (e ∷ more) = end_of (e.site + 1) more

-- no site was read
record IsFresh (d : Draft) : Type 0 where
  entries : d.report.entries ≡ []
  site : d.site ≡ 0

-- in the first version the label is the outcome's
abbrev pub IsPlain : Version → Report → Type 0
IsPlain v r = v ≡ version.First → r.label ≡ label_of r.outcome true

-- what holds of the parts that were read
abbrev SoFar : Due → Draft → Type 0
SoFar due.Title d = IsFresh d
SoFar due.Program d = IsFresh d
SoFar due.Run d = IsFresh d × IsId d.report.program
SoFar due.Outcome d = IsFresh d × IsId d.report.program × IsRun d.report.run
SoFar due.Label d = IsFresh d × IsId d.report.program × IsRun d.report.run × IsOutcome d.report.outcome × (d.version ≡ version.Second)
SoFar due.Work d = IsFresh d × IsId d.report.program × IsRun d.report.run × IsOutcome d.report.outcome × IsPlain d.version d.report
SoFar due.Sites d = IsReport d.report × IsPlain d.version d.report × (d.site ≡ end_of 0 d.report.entries)
SoFar due.Nothing d = IsReport d.report × IsPlain d.version d.report

record Holds (due : Due) (d : Draft) (lines : List (List ℕ)) : Type 0 where
  lines_are : lines ≡ map line_of_fields (rows_at due d)
  so_far : SoFar due d

-- one more row
pub row-more : (lines : List (List ℕ)) (line : List ℕ) (rows : List (List (List ℕ))) (row : List (List ℕ)) → lines ≡ map line_of_fields rows → line ≡ line_of_fields row → lines ++ line ∷ [] ≡ map line_of_fields (rows ++ row ∷ [])
row-more lines line rows row are is = ap (λ ls. ls ++ line ∷ []) are ∙ ap (λ l. map line_of_fields rows ++ l ∷ []) is ∙ sym (map-append line_of_fields rows (row ∷ []))

pub AreEntries-more : (es : List Entry) (e : Entry) → AreEntries es → IsEntry e → AreEntries (es ++ e ∷ [])
AreEntries-more [] e are is = (is, tt)
AreEntries-more (x ∷ xs) e are is = (are.0, AreEntries-more xs e are.1 is)

pub RiseFrom-more : (site : ℕ) (es : List Entry) (e : Entry) → RiseFrom site es → end_of site es ≤ e.site → RiseFrom site (es ++ e ∷ [])
RiseFrom-more site [] e rise next = (next, tt)
RiseFrom-more site (x ∷ xs) e rise next = (rise.0, RiseFrom-more (x.site + 1) xs e rise.1 next)

pub end_of-more : (site : ℕ) (es : List Entry) (e : Entry) → end_of site (es ++ e ∷ []) ≡ e.site + 1
end_of-more site [] e = refl
end_of-more site (x ∷ xs) e = end_of-more (x.site + 1) xs e

-- after the outcome the label or the work is due
outcome-step : (d : Draft) (lines : List (List ℕ)) (line : List ℕ) (outcome : Outcome) (v : Version) → d.version ≡ v → Holds due.Outcome d lines → IsOutcome outcome → line ≡ line_of_fields (outcome_line outcome) → Holds (after_outcome v) (with_outcome d outcome) (lines ++ line ∷ [])
outcome-step d lines line outcome version.First is h good line_is = record {
  lines_are = row-more lines line (start_rows d []) (outcome_line outcome) h.lines_are line_is ∙ ap (λ v. map line_of_fields (start_rows d (outcome_line outcome ∷ label_rows v (label_of outcome true)))) (sym is);
  so_far = (record { entries = h.so_far.0.entries; site = h.so_far.0.site }, h.so_far.1, h.so_far.2, good, λ _. refl);
}
outcome-step d lines line outcome version.Second is h good line_is = record {
  lines_are = row-more lines line (start_rows d []) (outcome_line outcome) h.lines_are line_is;
  so_far = (record { entries = h.so_far.0.entries; site = h.so_far.0.site }, h.so_far.1, h.so_far.2, good, is);
}

-- a line of a site
site-step : (d : Draft) (lines : List (List ℕ)) (line : List ℕ) (e : Entry) → Holds due.Sites d lines → IsNextEntry d.site e → line ≡ line_of_fields (site_fields e) → Holds due.Sites (with_entry d e) (lines ++ line ∷ [])
site-step d lines line e h good line_is =
    let r = d.report in
    let is = h.so_far.0 in record {
      lines_are = row-more lines line (rows_at due.Sites d) (site_fields e) h.lines_are line_is
          ∙ ap (λ rows. map line_of_fields (start_rows d (outcome_line r.outcome ∷ rows))) (append_assoc (label_rows d.version r.label) (site_rows d) (site_fields e ∷ []) ∙ ap (λ sites. label_rows d.version r.label ++ work_fields r.work ∷ sites) (sym (map-append site_fields r.entries (e ∷ []))));
      so_far = (
        record {
          program = is.program;
          run = is.run;
          outcome = is.outcome;
          work = is.work;
          entries = AreEntries-more r.entries e is.entries good.is_entry;
          rising = RiseFrom-more 0 r.entries e is.rising (subst (λ s. s ≤ e.site) h.so_far.2 good.rises);
        },
        h.so_far.1,
        sym (end_of-more 0 r.entries e),
      );
    }

end-step : (d : Draft) (lines : List (List ℕ)) (line : List ℕ) → Holds due.Sites d lines → line ≡ codes "end" → Holds due.Nothing (record d { due = due.Nothing }) (lines ++ line ∷ [])
end-step d lines line h line_is =
    let r = d.report in record {
      lines_are = row-more lines line (rows_at due.Sites d) (codes "end" ∷ []) h.lines_are line_is
          ∙ ap (λ rows. map line_of_fields (start_rows d (outcome_line r.outcome ∷ rows))) (append_assoc (label_rows d.version r.label) (site_rows d) ((codes "end" ∷ []) ∷ []));
      so_far = (h.so_far.0, h.so_far.1);
    }

-- what was read holds of one more line
step : (due : Due) (d : Draft) (is : d.due ≡ due) (lines : List (List ℕ)) (line : List ℕ) (after : Draft) → Holds due d lines → ReportLineComes due d line after → Holds after.due after (lines ++ line ∷ [])
step due.Title d is lines line after h s =
    subst (λ a. Holds a.due a (lines ++ line ∷ [])) (sym s.after_is) (record {
      lines_are = row-more lines line [] (title_fields s.value) h.lines_are s.line_is;
      so_far = record { entries = h.so_far.entries; site = h.so_far.site };
    })
step due.Program d is lines line after h s =
    subst (λ a. Holds a.due a (lines ++ line ∷ [])) (sym s.after_is) (record {
      lines_are = row-more lines line (rows_at due.Program d) (program_fields s.value) h.lines_are s.line_is;
      so_far = (record { entries = h.so_far.entries; site = h.so_far.site }, s.is_good);
    })
step due.Run d is lines line after h s =
    subst (λ a. Holds a.due a (lines ++ line ∷ [])) (sym s.after_is) (record {
      lines_are = row-more lines line (rows_at due.Run d) (run_fields s.value) h.lines_are s.line_is;
      so_far = (record { entries = h.so_far.0.entries; site = h.so_far.0.site }, h.so_far.1, s.is_good);
    })
step due.Outcome d is lines line after h s =
    subst (λ a. Holds a.due a (lines ++ line ∷ [])) (sym s.after_is) (outcome-step d lines line s.value d.version refl h s.is_good s.line_is)
step due.Label d is lines line after h s =
    let second = h.so_far.4 in
    subst (λ a. Holds a.due a (lines ++ line ∷ [])) (sym s.after_is) (record {
      lines_are = row-more lines line (rows_at due.Label d) (label_fields s.value) h.lines_are s.line_is ∙ ap (λ v. map line_of_fields (start_rows d (outcome_line d.report.outcome ∷ label_rows v s.value))) (sym second);
      so_far = (record { entries = h.so_far.0.entries; site = h.so_far.0.site }, h.so_far.1, h.so_far.2, h.so_far.3, λ first. absurd (second-not-first (sym second ∙ first)));
    })
step due.Work d is lines line after h s =
    let fresh = h.so_far.0 in
    subst (λ a. Holds a.due a (lines ++ line ∷ [])) (sym s.after_is) (record {
      lines_are = row-more lines line (rows_at due.Work d) (work_fields s.value) h.lines_are s.line_is
          ∙ ap (λ es. map line_of_fields (start_rows d (outcome_line d.report.outcome ∷ (label_rows d.version d.report.label ++ work_fields s.value ∷ map site_fields es)))) (sym fresh.entries);
      so_far = (
        record {
          program = h.so_far.1;
          run = h.so_far.2;
          outcome = h.so_far.3;
          work = s.is_good;
          entries = subst AreEntries (sym fresh.entries) tt;
          rising = subst (RiseFrom 0) (sym fresh.entries) tt;
        },
        h.so_far.4,
        fresh.site ∙ ap (end_of 0) (sym fresh.entries),
      );
    })
step due.Sites d is lines line after h s =
    ⊎_elim (λ (site : SiteFollows d line after).
    let whole = site-step d lines line site.value h site.is_good site.line_is in
    subst (λ a. Holds a.due a (lines ++ line ∷ [])) (sym site.after_is) (subst (λ x. Holds x (with_entry d site.value) (lines ++ line ∷ [])) (sym is) whole))
    (λ (over : ReportEndFollows d line after). subst (λ a. Holds a.due a (lines ++ line ∷ [])) (sym over.1) (end-step d lines line h over.0)) s
step due.Nothing d is lines line after h s = absurd s

leads-holds : (lines done : List (List ℕ)) (from to : Draft) → LeadsTo ReportLineFollows from lines to → Holds from.due from done → Holds to.due to (done ++ lines)
leads-holds [] done from to leads h = subst (λ d. Holds d.due d (done ++ [])) leads (subst (Holds from.due from) (sym (append-nil done)) h)
leads-holds (line ∷ more) done from to leads h =
    subst (Holds to.due to) (append_assoc done (line ∷ []) more) (leads-holds more (done ++ line ∷ []) leads.0 to leads.2 (step from.due from refl done line leads.0 h leads.1))

holds-start : Holds due.Title report_start []
holds-start = record { lines_are = refl; so_far = record { entries = refl; site = refl } }

spelled-as : (text : List ℕ) (v : Version) (r : Report) → IsReport r → IsPlain v r → text ≡ text_of (map line_of_fields (rows_of_report v r)) → SpellsReport text r
spelled-as text version.First r is plain text_is = Without is (plain refl) text_is
spelled-as text version.Second r is plain text_is = WithLabel is text_is

-- what has a text can be spelled
pub spelled-is : (bytes : List ℕ) (r : Report) → SpellsReport bytes r → IsReport r
spelled-is bytes r (WithLabel is text_is) = is
spelled-is bytes r (Without is plain text_is) = is

-- what is read is spelled so
pub reads-spelled : (text : List ℕ) (from to : Draft) → from ≡ report_start → ReadsLines ReportLineFollows ReportEnds from text to → SpellsReport text to.report
reads-spelled text from to is reads =
    let h = leads-holds reads.lines [] report_start to (subst (λ d. LeadsTo ReportLineFollows d reads.lines to) is reads.leads) holds-start in
    let whole : Holds due.Nothing to reads.lines = subst (λ d. Holds d to reads.lines) reads.over h in
    spelled-as text to.version to.report whole.so_far.0 whole.so_far.1 (reads.text_is ∙ ap text_of whole.lines_are)

-- a report that was read, with these entries so far
abbrev at_sites : Version → Report → List Entry → ℕ → Draft
at_sites v r entries site = record { due = due.Sites; version = v; site = site; report = record r { entries = entries } }

abbrev pub read_whole : Version → Report → Draft
read_whole v r = record { due = due.Nothing; version = v; site = end_of 0 r.entries; report = r }

sites-lead : (v : Version) (r : Report) (entries more : List Entry) (site : ℕ) → AreEntries more → RiseFrom site more → LeadsTo ReportLineFollows (at_sites v r entries site) (map line_of_fields (map site_fields more ++ (codes "end" ∷ []) ∷ [])) (record (at_sites v r (entries ++ more) (end_of site more)) { due = due.Nothing })
sites-lead v r entries [] site are rise =
    (record (at_sites v r entries site) { due = due.Nothing }, inr (refl, refl), ap (λ es. record (at_sites v r es site) { due = due.Nothing }) (sym (append-nil entries)))
sites-lead v r entries (e ∷ more) site are rise = (
  at_sites v r (entries ++ e ∷ []) (e.site + 1),
  inl (record { value = e; is_good = record { is_entry = are.0; rises = rise.0 }; line_is = refl; after_is = refl }),
  subst (λ es. LeadsTo ReportLineFollows (at_sites v r (entries ++ e ∷ []) (e.site + 1)) (map line_of_fields (map site_fields more ++ (codes "end" ∷ []) ∷ [])) (record (at_sites v r es (end_of (e.site + 1) more)) { due = due.Nothing })) (append_assoc entries (e ∷ []) more) (sites-lead v r (entries ++ e ∷ []) more (e.site + 1) are.1 rise.1),
)

second-leads : (r : Report) → IsReport r → LeadsTo ReportLineFollows report_start (map line_of_fields (rows_of_report version.Second r)) (read_whole version.Second r)
second-leads r is =
    let s1 = with_version report_start version.Second in
    let s2 = with_program s1 r.program in
    let s3 = with_run s2 r.run in
    let s4 = with_outcome s3 r.outcome in
    let s5 = with_label s4 r.label in (
      s1,
      record { value = version.Second; is_good = tt; line_is = refl; after_is = refl },
      (
        s2,
        record { value = r.program; is_good = is.program; line_is = refl; after_is = refl },
        (
          s3,
          record { value = r.run; is_good = is.run; line_is = refl; after_is = refl },
          (
            s4,
            record { value = r.outcome; is_good = is.outcome; line_is = refl; after_is = refl },
            (
              s5,
              record { value = r.label; is_good = tt; line_is = refl; after_is = refl },
              (
                with_work s5 r.work,
                record { value = r.work; is_good = is.work; line_is = refl; after_is = refl },
                sites-lead version.Second r [] r.entries 0 is.entries is.rising,
              ),
            ),
          ),
        ),
      ),
    )

first-leads : (r : Report) → IsReport r → LeadsTo ReportLineFollows report_start (map line_of_fields (rows_of_report version.First r)) (read_whole version.First (record r { label = label_of r.outcome true }))
first-leads r is =
    let s1 = with_version report_start version.First in
    let s2 = with_program s1 r.program in
    let s3 = with_run s2 r.run in
    let s4 = with_outcome s3 r.outcome in (
      s1,
      record { value = version.First; is_good = tt; line_is = refl; after_is = refl },
      (
        s2,
        record { value = r.program; is_good = is.program; line_is = refl; after_is = refl },
        (
          s3,
          record { value = r.run; is_good = is.run; line_is = refl; after_is = refl },
          (
            s4,
            record { value = r.outcome; is_good = is.outcome; line_is = refl; after_is = refl },
            (
              with_work s4 r.work,
              record { value = r.work; is_good = is.work; line_is = refl; after_is = refl },
              sites-lead version.First (record r { label = label_of r.outcome true }) [] r.entries 0 is.entries is.rising,
            ),
          ),
        ),
      ),
    )

lacks-row : (row : List (List ℕ)) → IsRow row → Lacks is_newline (line_of_fields row)
lacks-row [] is = absurd is
lacks-row (field ∷ more) is = spaced-lacks-newline (field ∷ more) is

pub rows-lines : (rows : List (List (List ℕ))) → AllByRecursion IsRow rows → AreLines (map line_of_fields rows)
rows-lines [] are = tt
rows-lines (row ∷ more) are = (lacks-row row are.0, rows-lines more are.1)

site-rows : (entries : List Entry) → AreEntries entries → AllByRecursion IsRow (map site_fields entries ++ (codes "end" ∷ []) ∷ [])
site-rows [] are = ((refl, tt), tt)
site-rows (e ∷ more) are = (row-site e are.0, site-rows more are.1)

are-rows : (v : Version) (r : Report) → IsReport r → AllByRecursion IsRow (rows_of_report v r)
are-rows version.First r is = ((refl, (refl, tt)), (row-program r.program is.program, (row-run r.run is.run, (row-outcome r.outcome is.outcome, (row-work r.work is.work, site-rows r.entries is.entries)))))
are-rows version.Second r is = ((refl, (refl, tt)), (row-program r.program is.program, (row-run r.run is.run, (row-outcome r.outcome is.outcome, (row-label r.label, (row-work r.work is.work, site-rows r.entries is.entries))))))

-- what is spelled so is read
pub record IsRead (text : List ℕ) (r : Report) : Type 0 where
  pub version : Version
  pub reads : ReadsLines ReportLineFollows ReportEnds report_start text (read_whole version r)

pub spelled-reads : (text : List ℕ) (r : Report) → SpellsReport text r → IsRead text r
spelled-reads text r (WithLabel is text_is) = record {
  version = version.Second;
  reads = record {
    lines = map line_of_fields (rows_of_report version.Second r);
    text_is = text_is;
    are_lines = rows-lines (rows_of_report version.Second r) (are-rows version.Second r is);
    leads = second-leads r is;
    over = refl;
  };
}
spelled-reads text r (Without is plain text_is) = record {
  version = version.First;
  reads = record {
    lines = map line_of_fields (rows_of_report version.First r);
    text_is = text_is;
    are_lines = rows-lines (rows_of_report version.First r) (are-rows version.First r is);
    leads = subst (λ label. LeadsTo ReportLineFollows report_start (map line_of_fields (rows_of_report version.First r)) (read_whole version.First (record r { label = label }))) (sym plain) (first-leads r is);
    over = refl;
  };
}

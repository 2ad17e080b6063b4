-- A session whose edits add reports that may be held together, and remove only what is held, is stopped by none of them.
use Rattle.std.proofs.Common.{◌≡◌, ◌≢◌, ◌≤◌, ⊎_elim, inl, inr, ℕ, Bool, true, false, cond, ◌==◌, List, [], ◌∷◌, ◌++◌, length, None, Err, Ok, Option, IsSome, ap, sym, subst, ◌∙◌, refl, arith}
use Rattle.std.specs.List.{sum_by}
use Rattle.std.proofs.lemmas.Bool.{false≢true}
use Rattle.base_lists.proofs.Options.{none_some}
use Rattle.cbi_base.specs.Store.{Held}
use Rattle.flow.specs.declared.program.ProgramParts.{ProgramParts}
use Rattle.flow.specs.Words.{OneEnding, SpellsProgram, table_of}
use Rattle.machine_laws.specs.Laws.{ReportsOfRunsAreTaken}
use Rattle.report_file.specs.declared.report.Report.{Report}
use Rattle.collector.specs.declared.answers.Added.{Added}
use Rattle.collector.specs.declared.answers.Added.TheVariants.{New, Repeated}
use Rattle.collector.specs.declared.answers.AddFault.{AddFault}
use Rattle.collector.specs.declared.answers.AddFault.TheVariants.{Foreign, NoSite, Conflict, TooManyReports, TooManyMarks, Memory}
use Rattle.collector.specs.declared.collection.Bundle.{Bundle}
use Rattle.collector.specs.declared.collection.Held.{Held as Collected}
use Rattle.collector.specs.Collected.{Adds, IsOfCollection, mark_limit, marks_of, report_at, report_limit, with_report, without_report}
use Rattle.collector.specs.Collecting.{AreOfCollection}
use Rattle.collector.specs.Order.{AreAlike, IsOneOfReports, map_of}
use Rattle.collector.specs.Sites.{first_bad}
use Rattle.collector.proofs.Keeping.{marks-with}
use Rattle.collector.proofs.Ordering.{AreRising, alike-same, from-rising, map-members, member-with, rising-fewer, rising-map, rising-with}
use Rattle.collector.proofs.Taking.{found-member, found-run, length-with}
use Rattle.elimination_tallies.specs.declared.labelled.LabelledRun.{LabelledRun}
use Rattle.elimination_tallies.specs.Recount.{run_of_report}
use Rattle.session_edits.specs.declared.edit.Edit.{Edit}
use Rattle.session_edits.specs.declared.edit.Edit.TheVariants.{Add, Remove, Relabel, Rank}
use Rattle.session_edits.specs.Held.{report_held}
use Rattle.session_edits.specs.Spelling.{SpellsEdits}
use Rattle.session_laws.specs.Accepted.{Accepts, TakesEdit}
use Rattle.session_laws.proofs.Maps.{accepted-hold}
use Rattle.session_replay.specs.declared.fault.EditFault.{EditFault}
use Rattle.session_replay.specs.declared.fault.EditFault.TheVariants as stop
use Rattle.session_replay.specs.Replay.{FaultsAt, IsStoppedBy, no_runs}
use Rattle.session_replay.proofs.ReplayLemmas.{accepts-same}
use Rattle.command_collect.specs.Collect.{AreSpelled, nothing_of, reports_in}
use Rattle.cbi_options.specs.declared.words.SessionWords.{SessionWords}
use Rattle.command_session.specs.declared.replayed.SessionTexts.{SessionTexts}
use Rattle.command_session.specs.Session as session
use Rattle.command_session.specs.Session.{AreSessionTexts, IsTold, SessionRefused, id_of}
use Rattle.command_session.proofs.SessionLemmas.{same-refused}
use Rattle.headline.specs.Chain.{IsReportOf, Made}
use Rattle.headline.specs.Handed.{HoldRuns, by_number}
use Rattle.headline.specs.Unrefused.{AreOneByNumber}
use Rattle.headline.specs.UnrefusedSession.{ArePlainEdits, IsPlainEdit, RemoveHeldRuns}
use Rattle.headline.proofs.Chaining.{OneProgram}
use Rattle.headline.proofs.HeadlineRuns.{HasMembers, HasSame, by-number, held-runs}
use Rattle.headline.proofs.HeadlineSession.{OneList}
use Rattle.headline.proofs.HeadlineTexts.{OneCollection, OneReport, WrittenCollection, spelled-once}
use Rattle.headline.proofs.Numbered.{OneBankText, alike, as-many, lines, ours}

-- what is left without a run was there
without-by : (b : Bool) (x r : Report) (more rest : List Report) → IsOneOfReports r (cond b more (x ∷ rest)) → (IsOneOfReports r rest → IsOneOfReports r more) → IsOneOfReports r (x ∷ more)
without-by true x r more rest is back = inr is
without-by false x r more rest is back = ⊎_elim (λ (same : r ≡ x). inl same) (λ (other : IsOneOfReports r rest). inr (back other)) is

without-member : (run : ℕ) (r : Report) (reports : List Report) → IsOneOfReports r (without_report run reports) → IsOneOfReports r reports
without-member run r [] is = is
without-member run r (x ∷ more) is = without-by (run == x.run) x r more (without_report run more) is (without-member run r more)

module _ (reports : List Report) where
  -- each of them is one of the reports
  abbrev AreAmong : List Report → Type 0
  AreAmong some = (r : Report) → IsOneOfReports r some → IsOneOfReports r reports

  with-among : (r : Report) (some : List Report) → IsOneOfReports r reports → AreAmong some → AreAmong (with_report r some)
  with-among r some is among = λ x here.
      ⊎_elim (λ (same : x ≡ r). subst (λ y. IsOneOfReports y reports) (sym same) is) (λ (other : IsOneOfReports x some). among x other) (member-with r x some here)

  added-among : (c next : Collected) (r : Report) (what : Added) → IsOneOfReports r reports → Adds c r (Ok what) next → AreAmong c.reports → AreAmong next.reports
  added-among c next r New is adds among = subst (λ (h : Collected). AreAmong h.reports) (sym adds.4) (with-among r c.reports is among)
  added-among c next r Repeated is adds among = subst (λ (h : Collected). AreAmong h.reports) (sym adds.2) among

  taken-among : (c next : Collected) (e : Edit) → IsPlainEdit reports e → TakesEdit c e next → AreAmong c.reports → AreAmong next.reports
  taken-among c next (Add r) plain takes among = added-among c next r takes.0 plain takes.1 among
  taken-among c next (Remove run) plain takes among =
      subst (λ (h : Collected). AreAmong h.reports) (sym takes.1) (λ x here. among x (without-member run x c.reports here))
  taken-among c next (Relabel run label) plain takes among = absurd plain
  taken-among c next Rank plain takes among = subst (λ (h : Collected). AreAmong h.reports) (sym takes) among

  all-among : (edits : List Edit) (c after : Collected) → ArePlainEdits reports edits → Accepts c edits after → AreAmong c.reports → AreAmong after.reports
  all-among [] c after plain accepts among = subst (λ (h : Collected). AreAmong h.reports) (sym accepts) among
  all-among (e ∷ more) c after plain accepts among =
      all-among more accepts.0 after plain.1 accepts.2 (taken-among c accepts.0 e plain.0 accepts.1 among)

  -- of a list of such edits, those before one, and that one
  plain-parts : (before more : List Edit) (e : Edit) → ArePlainEdits reports (before ++ e ∷ more) → ArePlainEdits reports before × IsPlainEdit reports e
  plain-parts [] more e plain = (tt, plain.0)
  plain-parts (x ∷ before) more e plain = let rest = plain-parts before more e plain.1 in ((plain.0, rest.0), rest.1)

  module _ (one_each : AreAlike reports) (few : length (map_of reports) ≤ report_limit) (few_marks : marks_of (map_of reports) ≤ mark_limit) where
    module _ (c : Collected) (among : AreAmong c.reports) (rising : AreRising c.reports) (r : Report) (is : IsOneOfReports r reports) (own : IsOfCollection c r) where
      -- with one more they are no more than all
      fewer : (length (with_report r c.reports) ≤ length (map_of reports)) × (marks_of (with_report r c.reports) ≤ marks_of (map_of reports))
      fewer = rising-fewer (with_report r c.reports) (map_of reports) (rising-with r c.reports rising) (rising-map reports)
          (λ x here. (map-members reports one_each x).1 (with-among r c.reports is among x here))

      absent : (run : ℕ) → run ≡ r.run → report_at run c.reports ≡ None → report_at r.run c.reports ≡ None
      absent run same none = subst (λ n. report_at n c.reports ≡ None) same none

      -- so one more is added
      not-refused : (why : AddFault) → why ≢ Memory → Adds c r (Err why) c → ⊥
      not-refused (Foreign one other) told adds = adds.2 (adds.0 ∙ sym own.program ∙ sym adds.1)
      not-refused (NoSite run site) told adds = none_some (sym own.sites ∙ adds.2)
      not-refused (Conflict run) told adds =
          let held = adds.2.0 in
          adds.2.2 (one_each held r (among held (found-member run c.reports held adds.2.1)) is (found-run run c.reports held adds.2.1 ∙ adds.1))
      not-refused (TooManyReports run) told adds = omega (arith, length-with r c.reports (absent run adds.1 adds.2), fewer.0, few, adds.3)
      not-refused (TooManyMarks run) told adds = omega (arith, marks-with r c.reports (absent run adds.1 adds.2), fewer.1, few_marks, adds.4)
      not-refused Memory told adds = told refl

    module _ (start : Collected) (nothing : start.reports ≡ []) (own : AreOfCollection start reports) where
      own-later : (before : List Edit) (at : Collected) → Accepts start before at → (r : Report) → IsOneOfReports r reports → IsOfCollection at r
      own-later before at accepts r is =
          let same = accepts-same before start at accepts in
          let here = own r is in record {
            program = here.program ∙ sym same.program;
            sites = ap (λ branches. first_bad branches r.entries) same.branches ∙ here.sites;
          }

      -- so no edit is refused behind edits that were accepted
      no-fault : (before : List Edit) (at : Collected) (e : Edit) (cause : EditFault) → ArePlainEdits reports before → Accepts start before at → IsTold cause → IsPlainEdit reports e
          → ((run : ℕ) → e ≡ Remove run → IsSome (report_held run before)) → FaultsAt at e cause → ⊥
      no-fault before at (Add r) (stop.NotAdded why) plains accepts told plain held faults =
          let among = all-among before start at plains accepts (subst AreAmong (sym nothing) (λ x none. absurd none)) in
          let rising = from-rising 0 at.reports (accepted-hold start at before nothing accepts).rising in
          not-refused at among rising r plain (own-later before at accepts r plain) why faults.not_memory faults.adds
      no-fault before at (Add r) (stop.Absent run) plains accepts told plain held faults = faults
      no-fault before at (Remove run) (stop.NotAdded why) plains accepts told plain held faults = faults
      no-fault before at (Remove run) (stop.Absent gone) plains accepts told plain held faults =
          let same = (accepted-hold start at before nothing accepts).each run in
          false≢true (subst (λ (o : Option Report). IsSome o) (sym same ∙ faults.1) (held run refl))
      no-fault before at (Relabel run label) cause plains accepts told plain held faults = absurd plain
      no-fault before at Rank (stop.NotAdded why) plains accepts told plain held faults = faults
      no-fault before at Rank (stop.Absent run) plains accepts told plain held faults = faults
      no-fault before at e stop.Memory plains accepts told plain held faults = told

      never-stopped : (edits : List Edit) (cause : EditFault) → ArePlainEdits reports edits → RemoveHeldRuns edits → IsTold cause → IsStoppedBy start edits cause → ⊥
      never-stopped edits cause plain removes told s =
          let parts = plain-parts s.before s.more s.edit (subst (ArePlainEdits reports) s.edits_are plain) in
          no-fault s.before s.at s.edit cause parts.0 s.accepts told parts.1
          (λ run same. removes s.before s.more run (s.edits_are ∙ ap (λ e. s.before ++ e ∷ s.more) same)) s.faults

module _ (one_report : OneReport) (one_collection : OneCollection) (written : WrittenCollection) (one_program : OneProgram) (one_list : OneList) (members : HasMembers) (has_same : HasSame)
    (one_ending : OneEnding) (one_bank : OneBankText) (fits : ReportsOfRunsAreTaken) (file : List ℕ) (p : ProgramParts) (spells : SpellsProgram file p) (run : Made → LabelledRun)
    (means : (one : Made) (r : Report) → IsReportOf file one r → run_of_report r ≡ run one) where
  none-stopped : (made : List Made) (left : List (List ℕ)) (bundles : List Bundle) (edits : List Edit) (cause : EditFault) → HoldRuns file made left → AreSpelled left bundles
      → ArePlainEdits (reports_in bundles) edits → RemoveHeldRuns edits → AreOneByNumber made → length (by_number made) ≤ report_limit
      → sum_by (λ m. length (run m).entries) (by_number made) ≤ mark_limit → IsTold cause → (q : ProgramParts) → SpellsProgram file q
      → IsStoppedBy (no_runs (id_of file) (table_of q)) edits cause → ⊥
  none-stopped made left bundles edits cause hold spelled plain removes one few few_lines told q also stopped =
      let by = held-runs one_report one_collection written members file hold in
      let same_bundles : by.bundles ≡ bundles = spelled-once one_report one_collection left by.bundles bundles by.are_spelled spelled in
      let all = reports_in by.bundles in
      let each : AreAlike by.reports = alike one_ending one_program one_bank file made by.reports one by.are in
      let sorted : map_of by.reports ≡ map_of all = has_same by.reports all each by.same in
      let numbered = by-number file made by.reports by.are in
      let many : length (map_of all) ≤ report_limit = subst (λ n. n ≤ report_limit) (sym (as-many file (by_number made) (map_of by.reports) numbered) ∙ ap length sorted) few in
      let marked : marks_of (map_of all) ≤ mark_limit = subst (λ n. n ≤ mark_limit) (sym (lines file run means (by_number made) (map_of by.reports) numbered) ∙ ap marks_of sorted) few_lines in
      let own : AreOfCollection (nothing_of file q.sites) all =
      λ x among. ours one_ending one_program one_bank file fits q also made by.reports by.are x ((by.same x).1 among) in
      never-stopped all (alike-same by.reports all each by.same) many marked (no_runs (id_of file) (table_of q)) refl own edits cause
      (subst (λ (bs : List Bundle). ArePlainEdits (reports_in bs) edits) (sym same_bundles) plain) removes told stopped

  none-refused : (bytes : List ℕ) (made : List Made) (left : List (List ℕ)) (bundles : List Bundle) (edits : List Edit) → SpellsEdits (id_of file) bytes edits → HoldRuns file made left
      → AreSpelled left bundles → ArePlainEdits (reports_in bundles) edits → RemoveHeldRuns edits → AreOneByNumber made → length (by_number made) ≤ report_limit
      → sum_by (λ m. length (run m).entries) (by_number made) ≤ mark_limit → session.AreRefusedTexts (record { program = file; edits = bytes }) → ⊥
  none-refused bytes made left bundles edits spelled hold are plain removes one few few_lines (inl none) = none p spells
  none-refused bytes made left bundles edits spelled hold are plain removes one few few_lines (inr (inl none)) = none edits spelled
  none-refused bytes made left bundles edits spelled hold are plain removes one few few_lines (inr (inr faulty)) =
      let s = faulty.stopped in
      let same : s.list ≡ edits = one_list (id_of file) bytes s.list edits s.spell.edits spelled in
      none-stopped made left bundles edits faulty.cause hold are plain removes one few few_lines faulty.told s.parts s.spell.program
      (subst (λ list. IsStoppedBy (no_runs (id_of file) (table_of s.parts)) list faulty.cause) same s.stopped)

  pub no-session : (s : SessionWords) (held : Option Held) (texts : SessionTexts) (made : List Made) (left : List (List ℕ)) (bundles : List Bundle) (edits : List Edit) → IsSome held
      → AreSessionTexts held s texts → texts.program ≡ file → SpellsEdits (id_of file) texts.edits edits → HoldRuns file made left → AreSpelled left bundles
      → ArePlainEdits (reports_in bundles) edits → RemoveHeldRuns edits → AreOneByNumber made → length (by_number made) ≤ report_limit
      → sum_by (λ m. length (run m).entries) (by_number made) ≤ mark_limit → SessionRefused s held → ⊥
  no-session s held texts made left bundles edits tells are same spelled hold is plain removes one few few_lines refused =
      none-refused texts.edits made left bundles edits spelled hold is plain removes one few few_lines
      (subst (λ bytes. session.AreRefusedTexts (record { program = bytes; edits = texts.edits })) same (same-refused held s texts refused.texts tells are refused.are_texts refused.refused))

-- What was left on the way from a written file is refused by no command that reads it.
use Rattle.std.specs.List.{sum_by}
use Rattle.std.proofs.Common.{◌≡◌, ◌≤◌, inl, inr, ℕ, List, [], ◌∷◌, length, Option, Some, None, IsSome, ap, sym, subst, ◌∙◌, refl, arith}
use Rattle.std.proofs.lemmas.Fmt.{decimal_digit}
use Rattle.std.proofs.lemmas.List.Elements.{All-cons, All-nil}
use Rattle.sha2.specs.Sha256.{sha256}
use Rattle.cbi_base.specs.Words.{Held, text_of}
use Rattle.cbi_base.specs.declared.identity.ProgramId.{ProgramId}
use Rattle.flow.specs.declared.program.ProgramParts.{ProgramParts}
use Rattle.flow.specs.Words.{OneEnding, SpellsProgram}
use Rattle.countdown_bank.specs.Bank.{IsCountdown, bank_of}
use Rattle.machine_laws.specs.Laws.{ReportsOfRunsAreTaken}
use Rattle.report_file.specs.declared.report.Report.{Report}
use Rattle.collector.specs.declared.collection.Held.{Held as Collected}
use Rattle.collector.specs.Collected.{mark_limit, marks_of, report_limit}
use Rattle.collector.specs.Collecting.{bundle_of}
use Rattle.collector.specs.Order.{AreAlike, map_of}
use Rattle.collector.proofs.Ordering.{alike-same}
use Rattle.elimination_tallies.specs.declared.labelled.LabelledRun.{LabelledRun}
use Rattle.elimination_tallies.specs.Recount.{run_of_report}
use Rattle.command_run.specs.declared.files.RunFiles.{RunFiles}
use Rattle.cbi_options.specs.declared.words.RunWords.{RunWords}
use Rattle.command_run.specs.Files.{AreFiles, IsReadOr, bank_limit, input_limit, text_of_one}
use Rattle.command_run.specs.Run.{IsBankText, RunRefused}
use Rattle.command_run.proofs.RunLemmas.{never-refused, same-refused}
use Rattle.command_collect.specs.declared.reports.CollectTexts.{CollectTexts}
use Rattle.cbi_options.specs.declared.words.CollectWords.{CollectWords}
use Rattle.command_collect.specs.Collect.{AreCollectTexts, AreRefusedTexts, CollectRefused, MeetsFault, nothing_of, reports_in}
use Rattle.command_collect.proofs.CollectLemmas.{never-memory, no-bad-file, same-refused-texts}
use Rattle.command_inputs.specs.declared.runs.RunsTexts.{RunsTexts}
use Rattle.command_inputs.specs.Runs.{AreRunsTexts, HaveSites, RunsRefused, SpellRuns}
use Rattle.command_inputs.proofs.RunsLemmas.{runs-never-refused, same-refused-runs}
use Rattle.headline.specs.Chain.{IsReportOf, Made}
use Rattle.headline.specs.Handed.{HoldRuns, IsLeftByCollect, by_number}
use Rattle.headline.specs.Unrefused.{AreOneByNumber}
use Rattle.headline.proofs.Chaining.{OneProgram}
use Rattle.headline.proofs.HeadlineRuns.{HasMembers, HasSame, by-number, held-runs}
use Rattle.headline.proofs.HeadlineTexts.{OneCollection, OneReport, WrittenCollection, collection-spelled, spelled-once}
use Rattle.headline.proofs.Numbered.{OneBankText, alike, as-many, lines, ours}
use Rattle.headline.proofs.Stopping.{GroupsRefused, TakenFault, have-sites, only-memory}
use Rattle.headline.proofs.Widened.{is-id}

-- without a bank's name the bank is that of the one number 1
one-is-bank : IsBankText text_of_one
one-is-bank = record {
  bank = bank_of (1 ∷ []);
  is = record {
    numbers = record { some = omega arith; few = omega arith; each = All-cons IsCountdown 1 [] (omega arith, omega arith) (All-nil IsCountdown) };
    text = sym (ap (λ line. text_of (line ∷ [])) (decimal_digit 1 (omega arith)));
    first = refl;
  };
}

bank-read : (held : Option Held) (name : Option (List ℕ)) (bytes : List ℕ) → IsReadOr text_of_one held name bank_limit bytes → (IsSome name → IsBankText bytes) → IsBankText bytes
bank-read held None bytes read given = subst IsBankText (sym read) one-is-bank
bank-read held (Some name) bytes read given = given refl

pub no-run : (file : List ℕ) (p : ProgramParts) → SpellsProgram file p → (r : RunWords) (held : Option Held) (files : RunFiles) → IsSome held → AreFiles held r files → files.program ≡ file
    → (IsSome r.bank → IsBankText files.bank) → length files.input ≤ input_limit → RunRefused r held → ⊥
no-run file p spells r held files tells are same given fits refused =
    let bank = bank-read held r.bank files.bank are.bank_read given in
    never-refused files p bank.bank (subst (λ bytes. SpellsProgram bytes p) (sym same) spells) bank.is fits (same-refused held r files tells are refused)

module _ (one_report : OneReport) (one_collection : OneCollection) (written : WrittenCollection) (one_program : OneProgram) (file : List ℕ) where
  -- a collection beside its file
  pub no-ranking : (inner : List (List ℕ)) (held : Option Held) (program collection : List ℕ) (texts : RunsTexts) → IsSome held → AreRunsTexts held program collection texts → texts.program ≡ file
      → IsLeftByCollect file inner texts.collection → RunsRefused held program collection → ⊥
  no-ranking inner held program collection texts tells are same left refused =
      let c = left.collected.collection in
      let g = left.collected.gathered in
      let there = left.program_is ∙ sym same in
      let spells = subst (λ bytes. SpellsProgram bytes g.parts) there g.spells in
      let spelled = collection-spelled written texts.collection c g.fits left.collected.text_is in
      let runs : SpellRuns texts g.parts (bundle_of c) = record {
        spell = record { program = spells; collection = spelled };
        of_program = ap (λ (x : Collected). x.program) g.holds ∙ ap (λ bytes. let id : ProgramId = record { bytes = sha256 bytes } in id) there;
        sites = subst (λ branches. HaveSites branches c.reports) (ap (λ (x : Collected). x.branches) g.holds) (have-sites c c.reports g.fits.ours);
      } in
      runs-never-refused texts g.parts (bundle_of c) runs
      (λ p b both. (one_program texts.program p g.parts both.program spells, one_collection texts.collection b (bundle_of c) both.collection spelled))
      (same-refused-runs held program collection texts refused.texts tells are refused.are_texts refused.refused)

  module _ (members : HasMembers) (has_same : HasSame) (groups : GroupsRefused) (taken : TakenFault) (one_ending : OneEnding) (one_bank : OneBankText) (fits : ReportsOfRunsAreTaken)
      (p : ProgramParts) (spells : SpellsProgram file p) (run : Made → LabelledRun) (means : (one : Made) (r : Report) → IsReportOf file one r → run_of_report r ≡ run one) where
    none-refused : (made : List Made) (files : List (List ℕ)) → HoldRuns file made files → AreOneByNumber made → length (by_number made) ≤ report_limit
        → sum_by (λ m. length (run m).entries) (by_number made) ≤ mark_limit → AreRefusedTexts (record { program = file; files = files }) → ⊥
    none-refused made files hold one few few_lines (inl none) = none p spells
    none-refused made files hold one few few_lines (inr (inl bad)) =
        let by = held-runs one_report one_collection written members file hold in
        no-bad-file files by.bundles by.are_spelled bad
    none-refused made files hold one few few_lines (inr (inr not)) =
        let r = not.refused in
        let by = held-runs one_report one_collection written members file hold in
        let all = reports_in by.bundles in
        let each : AreAlike by.reports = alike one_ending one_program one_bank file made by.reports one by.are in
        let sorted : map_of by.reports ≡ map_of all = has_same by.reports all each by.same in
        let numbered = by-number file made by.reports by.are in
        let many : length (map_of all) ≤ report_limit = subst (λ n. n ≤ report_limit) (sym (as-many file (by_number made) (map_of by.reports) numbered) ∙ ap length sorted) few in
        let marked : marks_of (map_of all) ≤ mark_limit = subst (λ n. n ≤ mark_limit) (sym (lines file run means (by_number made) (map_of by.reports) numbered) ∙ ap marks_of sorted) few_lines in
        let stops = subst (λ bundles. MeetsFault (nothing_of file r.parts.sites) bundles r.stops.fault)
        (spelled-once one_report one_collection files r.bundles by.bundles r.are_spelled by.are_spelled) r.stops.stops in
        let is = only-memory groups taken file r.parts.sites by.bundles r.stops.fault (is-id file) by.of_file
        (λ x among. ours one_ending one_program one_bank file fits r.parts r.spells made by.reports by.are x ((by.same x).1 among))
        (alike-same by.reports all each by.same) many marked stops in
        never-memory not.refusal (r.stops.tells ∙ ap Some is)

    pub no-collection : (c : CollectWords) (held : Option Held) (texts : CollectTexts) (made : List Made) → IsSome held → AreCollectTexts held c texts → texts.program ≡ file → HoldRuns file made texts.files
        → AreOneByNumber made → length (by_number made) ≤ report_limit → sum_by (λ m. length (run m).entries) (by_number made) ≤ mark_limit → CollectRefused c held → ⊥
    no-collection c held texts made tells are same hold one few few_lines refused =
        none-refused made texts.files hold one few few_lines
        (subst (λ bytes. AreRefusedTexts (record { program = bytes; files = texts.files })) same (same-refused-texts held c texts tells are refused))

-- What `runs` writes is what is collected of its calls, and what is ranked are its runs.
use Rattle.std.proofs.Common.{◌≡◌, ℕ, suc, Bool, List, [], ◌∷◌, length, Option, None, ap, sym, subst, ◌∙◌, refl, arith}
use Rattle.sha2.specs.Sha256.{sha256}
use Rattle.cbi_base.specs.Store.{Held}
use Rattle.cbi_base.specs.declared.identity.ProgramId.{ProgramId}
use Rattle.rand_pcg.specs.Lcg.{Lcg}
use Rattle.flow.specs.declared.program.ProgramParts.{ProgramParts}
use Rattle.flow.specs.Words.{OneEnding, SpellsProgram}
use Rattle.countdown_bank.specs.Bank.{BankState}
use Rattle.countdown_bank.specs.BankFile.{bank_text}
use Rattle.countdown_bank.specs.MadeBank.{IsMadeBank}
use Rattle.countdown_bank.proofs.Made.{AreMade-countdowns}
use Rattle.report_file.specs.declared.report.Report.{Report}
use Rattle.collector.specs.declared.collection.Bundle.{Bundle}
use Rattle.collector.specs.declared.collection.Held.{Held as Collected}
use Rattle.collector.specs.Collecting.{bundle_of}
use Rattle.collector.specs.Order.{map_of}
use Rattle.collector.specs.Sites.{branches_of}
use Rattle.collector.specs.Spelling.{SpellsBundle, collection_text}
use Rattle.planned_runs.specs.declared.input.RunInput.{RunInput}
use Rattle.planned_runs.specs.Runs.{ArePlannedRuns, JudgedRun}
use Rattle.command_run.specs.Run.{IsBankOf}
use Rattle.command_collect.specs.Collect.{reports_in}
use Rattle.command_runs.specs.declared.plan.ListedPlan.{ListedPlan}
use Rattle.cbi_options.specs.declared.words.RunsWords.{RunsWords}
use Rattle.command_runs.specs.Line.{IsMadeOn, bank_numbers}
use Rattle.command_runs.specs.Runs.{runs_collection}
use Rattle.headline.specs.Calls.{AreCallsFor, IsLeftByRuns}
use Rattle.headline.specs.Chain.{AreReportsOf, Made}
use Rattle.headline.specs.Handed.{HoldRuns, IsLeftByCollect}
use Rattle.headline.proofs.CallReports.{left-reports}
use Rattle.headline.proofs.Chaining.{OneProgram}
use Rattle.headline.proofs.HeadlineRuns.{AreHeldBy, HasMembers, HasSame, all-alike, all-mapped, held-runs, same-all, same-turned}
use Rattle.headline.proofs.HeadlineSession.{bundle-map}
use Rattle.headline.proofs.HeadlineTexts.{OneCollection, OneReport, WrittenCollection, collection-spelled}
use Rattle.headline.proofs.Numbered.{OneBankText, one-report}

-- a bank that was made has a text
pub made-text : (g : Lcg) (rate : ℕ) (bank : BankState) → IsMadeBank g rate bank_numbers bank → IsBankOf (bank_text bank) bank
made-text g rate bank made = record {
  numbers = record { some = omega (arith, made.as_many); few = omega (arith, made.as_many); each = AreMade-countdowns _ _ bank.numbers made.made };
  text = refl;
  first = ap (λ (b : BankState). b.position) made.bank;
}

-- the calls of runs that were made
module _ (held : Option Held) (words : RunsWords) (file : List ℕ) (parts : ProgramParts) (plan : ListedPlan) where
  abbrev call_for : ℕ → RunInput → Made
  call_for number on = record {
    words = record { bank = None; input = None; expect = None; turns = words.turns; run = number; report = None; program = words.program };
    files = record { program = file; bank = bank_text on.bank; input = on.input; expect = on.expect };
    bank = on.bank;
  }

  pub record HaveCalls (number : ℕ) (runs : List JudgedRun) : Type 0 where
    pub made : List Made
    pub as_many : length made ≡ length runs
    pub are : AreCallsFor file held words.turns plan number made

  pub have-calls : (number : ℕ) (runs : List JudgedRun) → ArePlannedRuns parts (IsMadeOn plan held) words.turns number runs → HaveCalls number runs
  have-calls number [] are = record { made = []; as_many = refl; are = tt }
  have-calls number (run ∷ runs) are =
      let rest = have-calls (suc number) runs are.1 in
      let on = are.0.on in
      record {
        made = call_for number on ∷ rest.made;
        as_many = ap suc rest.as_many;
        are = (record { run_is = refl; turns_are = refl; program_is = refl; bank_is = made-text _ _ on.bank are.0.given.bank_is; given = are.0.given }, rest.are);
      }

-- runs have one list of reports
reports-once : OneEnding → OneProgram → OneBankText → (file : List ℕ) (made : List Made) (xs ys : List Report) → AreReportsOf file made xs → AreReportsOf file made ys → xs ≡ ys
reports-once one_ending one_program one_bank file [] [] [] p q = refl
reports-once one_ending one_program one_bank file [] [] (y ∷ ys) p q = absurd q
reports-once one_ending one_program one_bank file [] (x ∷ xs) ys p q = absurd p
reports-once one_ending one_program one_bank file (one ∷ made) [] ys p q = absurd p
reports-once one_ending one_program one_bank file (one ∷ made) (x ∷ xs) [] p q = absurd q
reports-once one_ending one_program one_bank file (one ∷ made) (x ∷ xs) (y ∷ ys) p q =
    let first = one-report one_ending one_program one_bank file one one x y p.0 q.0 refl (record { files = refl; turns = refl }) in
    let rest = reports-once one_ending one_program one_bank file made xs ys p.1 q.1 in
    cc

abbrev listed_collection : (file : List ℕ) (made : List Made) (text : List ℕ) → IsLeftByRuns file made text → Collected
listed_collection file made text left = runs_collection left.texts left.parts left.plan.first left.runs

pub listed-spelled : WrittenCollection → (file : List ℕ) (made : List Made) (text : List ℕ) (left : IsLeftByRuns file made text) → SpellsBundle text (bundle_of (listed_collection file made text left))
listed-spelled written file made text left = collection-spelled written text (listed_collection file made text left) left.fits left.text_is

-- what a reader of such a collection gets
pub listed-held : OneCollection → WrittenCollection → (file : List ℕ) (made : List Made) (text : List ℕ) (b : Bundle) (left : IsLeftByRuns file made text) → SpellsBundle text b → AreReportsOf file made b.reports
listed-held one_collection written file made text b left spells =
    let c = listed_collection file made text left in
    let same : b ≡ bundle_of c = one_collection text b (bundle_of c) spells (listed-spelled written file made text left) in
    subst (AreReportsOf file made) (sym (ap (λ (x : Bundle). x.reports) same)) (left-reports file made text left)

-- collections of the same parts are the same
of-parts : (a b : Collected) → a.program ≡ b.program → a.branches ≡ b.branches → a.reports ≡ b.reports → a ≡ b
of-parts a b program branches reports =
    ap (λ (p : ProgramId). record a { program = p }) program
    ∙ ap (λ (sites : List Bool). let c : Collected = record { program = b.program; branches = sites; reports = a.reports } in c) branches
    ∙ ap (λ (all : List Report). let c : Collected = record { program = b.program; branches = b.branches; reports = all } in c) reports

module _ (one_report : OneReport) (one_collection : OneCollection) (written : WrittenCollection) (members : HasMembers) (has_same : HasSame) (one_ending : OneEnding) (one_program : OneProgram) (one_bank : OneBankText) where
  pub same-text : (file text collection : List ℕ) (made : List Made) (texts : List (List ℕ)) → IsLeftByRuns file made text → HoldRuns file made texts → IsLeftByCollect file texts collection → collection ≡ text
  same-text file text collection made texts left hold collect =
      let listed = listed_collection file made text left in
      let c = collect.collected.collection in
      let g = collect.collected.gathered in
      let all = reports_in g.bundles in
      let within : AreHeldBy file made texts = held-runs one_report one_collection written members file hold in
      let once : within.reports ≡ listed.reports =
      reports-once one_ending one_program one_bank file made within.reports listed.reports within.are (left-reports file made text left) in
      let sorted : map_of all ≡ map_of within.reports =
      has_same all within.reports (all-alike one_report one_collection written members file texts collection collect)
      (same-turned within.reports all (same-all one_report one_collection written members file made texts collection collect within)) in
      let own : map_of listed.reports ≡ listed.reports = bundle-map text (bundle_of listed) (listed-spelled written file made text left) in
      let reports : c.reports ≡ listed.reports =
      all-mapped one_report one_collection written members file texts collection collect ∙ sorted ∙ ap map_of once ∙ own in
      let program : collect.collected.texts.program ≡ left.texts.program = collect.program_is ∙ sym left.program_is in
      let parts : g.parts ≡ left.parts = one_program left.texts.program g.parts left.parts
      (subst (λ bytes. SpellsProgram bytes g.parts) program g.spells) left.are.is_plan.spell.program in
      let program_is = ap (λ (x : Collected). x.program) g.holds ∙ ap (λ bytes. let id : ProgramId = record { bytes = sha256 bytes } in id) program in
      let branches_are = ap (λ (x : Collected). x.branches) g.holds ∙ ap (λ (p : ProgramParts). branches_of p.sites) parts in
      let same : c ≡ listed = of-parts c listed program_is branches_are reports in
      collect.collected.text_is ∙ ap collection_text same ∙ sym left.text_is

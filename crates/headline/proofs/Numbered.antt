-- Runs of one number that are one run have one report; a report is of its program's sites, and has the entries of its run's meaning.
use Rattle.std.specs.Prelude.{Contains}
use Rattle.std.specs.List.{sum_by}
use Rattle.std.proofs.Common.{◌≡◌, inl, inr, ℕ, suc, ◌+◌, List, [], ◌∷◌, length, None, ap, ap₂, sym, subst, ◌∙◌, refl, arith}
use Rattle.std.proofs.lemmas.List.Sums.{sum_by-cons}
use Rattle.sha2.specs.Sha256.{sha256}
use Rattle.cbi_base.specs.declared.identity.ProgramId.{ProgramId}
use Rattle.flow.specs.declared.program.ProgramParts.{ProgramParts}
use Rattle.flow.specs.Words.{counts_of, run_result, OneEnding, MachineEnds, SpellsProgram, Ending}
use Rattle.countdown_bank.specs.Bank.{AreNumbers, BankState, number_after}
use Rattle.countdown_bank.specs.BankFile.{numbers_text}
use Rattle.machine_laws.specs.Laws.{ReportsOfRunsAreTaken}
use Rattle.report_file.specs.declared.report.Report.{Report}
use Rattle.report_file.specs.Report.{entries_of}
use Rattle.collector.specs.Collected.{IsOfCollection, marks_of}
use Rattle.collector.specs.Order.{AreAlike, IsOneOfReports}
use Rattle.collector.specs.Sites.{branches_of, first_bad}
use Rattle.elimination_tallies.specs.declared.labelled.LabelledRun.{LabelledRun}
use Rattle.elimination_tallies.specs.Recount.{run_of_report}
use Rattle.command_run.specs.declared.files.RunFiles.{RunFiles}
use Rattle.command_run.specs.Run.{IsBankOf, report_of}
use Rattle.command_collect.specs.Collect.{nothing_of}
use Rattle.headline.specs.Chain.{AreReportsOf, IsReportOf, Made}
use Rattle.headline.specs.Unrefused.{AreOneByNumber, IsSameRun}
use Rattle.headline.proofs.Chaining.{OneProgram}

-- the run of which a report is
record HasMade (file : List ℕ) (made : List Made) (r : Report) : Type 0 where
  pub one : Made
  pub among : Contains made one
  pub is : IsReportOf file one r

made-behind : (file : List ℕ) (first : Made) (made : List Made) (r : Report) → HasMade file made r → HasMade file (first ∷ made) r
made-behind file first made r h = record {
  one = h.one;
  among = (suc h.among.0, omega (arith, h.among.1), h.among.2);
  is = h.is;
}

has-made : (file : List ℕ) (made : List Made) (reports : List Report) (r : Report) → AreReportsOf file made reports → IsOneOfReports r reports → HasMade file made r
has-made file [] [] r are is = absurd is
has-made file [] (x ∷ reports) r are is = absurd are
has-made file (one ∷ made) [] r are is = absurd is
has-made file (one ∷ made) (x ∷ reports) r are (inl same) = record { one = one; among = (0, omega arith, refl); is = subst (IsReportOf file one) (sym same) are.0 }
has-made file (one ∷ made) (x ∷ reports) r are (inr is) = made-behind file one made r (has-made file made reports r are.1 is)

-- a text is that of one bank
abbrev pub OneBankText : Type 0
OneBankText = (a b : List ℕ) → AreNumbers a → AreNumbers b → numbers_text a ≡ numbers_text b → a ≡ b

same-bank : OneBankText → (bytes : List ℕ) (a b : BankState) → IsBankOf bytes a → IsBankOf bytes b → a ≡ b
same-bank one_bank bytes a b is also =
    ap₂ (λ numbers position. let bank : BankState = record { numbers = numbers; position = position } in bank) (one_bank a.numbers b.numbers is.numbers also.numbers (sym is.text ∙ also.text))
    (is.first ∙ sym also.first)

module _ (one_ending : OneEnding) (one_program : OneProgram) (one_bank : OneBankText) (file : List ℕ) where
  spelled-by : (one : Made) (r : Report) (is : IsReportOf file one r) → SpellsProgram file is.parts
  spelled-by one r is = subst (λ bytes. SpellsProgram bytes is.parts) is.program_is is.spells

  -- the same run ends in one way, so it has one report under one number
  pub one-report : (a b : Made) (x y : Report) → IsReportOf file a x → IsReportOf file b y → a.words.run ≡ b.words.run → IsSameRun a b → x ≡ y
  one-report a b x y is also run same =
      let parts : is.parts ≡ also.parts = one_program file is.parts also.parts (spelled-by a x is) (spelled-by b y also) in
      let bank : a.bank ≡ b.bank = same-bank one_bank b.files.bank a.bank b.bank (subst (λ (f : RunFiles). IsBankOf f.bank a.bank) same.files is.bank_is) also.bank_is in
      let by_parts = subst (λ p. MachineEnds p a.files.input (number_after a.bank) a.words.turns is.ending) parts is.ends in
      let by_files = subst (λ (f : RunFiles). MachineEnds also.parts f.input (number_after a.bank) a.words.turns is.ending) same.files by_parts in
      let by_bank = subst (λ k. MachineEnds also.parts b.files.input (number_after k) a.words.turns is.ending) bank by_files in
      let by_turns = subst (λ n. MachineEnds also.parts b.files.input (number_after b.bank) n is.ending) same.turns by_bank in
      let ending : is.ending ≡ also.ending = one_ending also.parts b.files.input (number_after b.bank) b.words.turns is.ending also.ending by_turns also.ends in
      is.report_is
      ∙ ap (λ n. record (report_of a.words a.files (run_result is.parts.sites is.ending)) { run = n }) run
      ∙ ap (λ (f : RunFiles). report_of b.words f (run_result is.parts.sites is.ending)) same.files
      ∙ ap (λ (p : ProgramParts). report_of b.words b.files (run_result p.sites is.ending)) parts
      ∙ ap (λ (e : Ending). report_of b.words b.files (run_result also.parts.sites e)) ending
      ∙ sym also.report_is

  -- so each number has one report
  pub alike : (made : List Made) (reports : List Report) → AreOneByNumber made → AreReportsOf file made reports → AreAlike reports
  alike made reports one are = λ x y p q same.
      let k = has-made file made reports x are p in
      let l = has-made file made reports y are q in
      let run = sym (ap (λ (r : Report). r.run) k.is.report_is) ∙ same ∙ ap (λ (r : Report). r.run) l.is.report_is in
      one-report k.one l.one x y k.is l.is run (one k.one l.one k.among l.among run)

  -- each report is of the program and of its sites
  pub ours : ReportsOfRunsAreTaken → (p : ProgramParts) → SpellsProgram file p → (made : List Made) (reports : List Report) → AreReportsOf file made reports
      → (r : Report) → IsOneOfReports r reports → IsOfCollection (nothing_of file p.sites) r
  ours taken p spells made reports are r among =
      let k = has-made file made reports r are among in
      let is = k.is in
      let parts : is.parts ≡ p = one_program file is.parts p (spelled-by k.one r is) spells in
      let good = taken is.parts k.one.files.input (number_after k.one.bank) k.one.words.turns is.ending is.spells.is_program is.ends in
      record {
        program = ap (λ (x : Report). x.program) is.report_is ∙ ap (λ bytes. let id : ProgramId = record { bytes = sha256 bytes } in id) is.program_is;
        sites = ap (λ (x : Report). first_bad (branches_of p.sites) x.entries) is.report_is
            ∙ subst (λ (q : ProgramParts). first_bad (branches_of q.sites) (entries_of (counts_of is.parts.sites is.ending.seen)) ≡ None) parts good;
      }

-- as many runs as reports
pub as-many : (file : List ℕ) (made : List Made) (reports : List Report) → AreReportsOf file made reports → length reports ≡ length made
as-many file [] [] are = refl
as-many file [] (r ∷ reports) are = absurd are
as-many file (one ∷ made) [] are = absurd are
as-many file (one ∷ made) (r ∷ reports) are = ap suc (as-many file made reports are.1)

-- the entries of reports are those of their runs
pub lines : (file : List ℕ) (run : Made → LabelledRun) → ((one : Made) (r : Report) → IsReportOf file one r → run_of_report r ≡ run one) → (made : List Made) (reports : List Report) → AreReportsOf file made reports
    → marks_of reports ≡ sum_by (λ m. length (run m).entries) made
lines file run means [] [] are = refl
lines file run means [] (r ∷ reports) are = absurd are
lines file run means (one ∷ made) [] are = absurd are
lines file run means (one ∷ made) (r ∷ reports) are =
    ap (λ (x : LabelledRun). length x.entries + marks_of reports) (means one r are.0)
    ∙ ap (λ n. length (run one).entries + n) (lines file run means made reports are.1)
    ∙ sym (sum_by-cons (λ m. length (run m).entries) one made)

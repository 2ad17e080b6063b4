-- The reports that `runs` collects are those of its calls.
use Rattle.std.proofs.Common.{arith, ◌≡◌, ℕ, suc, pred, List, [], ◌∷◌, length, Option, IsSome, ap, sym, subst, ◌∙◌}
use Rattle.sha2.specs.Sha256.{sha256}
use Rattle.cbi_base.specs.Store.{Held}
use Rattle.cbi_base.specs.declared.identity.ProgramId.{ProgramId}
use Rattle.flow.specs.declared.program.ProgramParts.{ProgramParts}
use Rattle.flow.specs.Words.{MachineEnds, SpellsProgram}
use Rattle.countdown_bank.specs.Bank.{number_after}
use Rattle.planned_runs.specs.declared.input.RunInput.{RunInput}
use Rattle.planned_runs.specs.Runs.{ArePlannedRuns, IsPlannedRun, JudgedRun, planned_report, planned_reports}
use Rattle.command_runs.specs.declared.plan.ListedPlan.{ListedPlan}
use Rattle.command_runs.specs.Line.{IsMadeOn}
use Rattle.command_runs.specs.Once.{given-once}
use Rattle.headline.specs.Calls.{AreCallsFor, IsCallFor, IsLeftByRuns}
use Rattle.headline.specs.Chain.{AreReportsOf, IsReportOf, Made}

-- what a call's run is made on
abbrev pub input_for : Made → RunInput
input_for made = record { bank = made.bank; input = made.files.input; expect = made.files.expect }

module _ (file program : List ℕ) (is_file : program ≡ file) (held : Option Held) (tells : IsSome held) (turns : ℕ) (parts : ProgramParts) (spells : SpellsProgram program parts) (plan : ListedPlan) where
  abbrev id : ProgramId
  id = record { bytes = sha256 program }

  call-report : (number : ℕ) (made : Made) (run : JudgedRun) → IsCallFor file held turns plan number made → IsPlannedRun parts (IsMadeOn plan held) turns number run
      → IsReportOf file made (planned_report parts id number run)
  call-report number made run call is =
      let same : is.on ≡ input_for made = given-once plan held number is.on (input_for made) tells is.given call.given in
      let there : program ≡ made.files.program = is_file ∙ sym call.program_is in
      let expect = ap (λ (on : RunInput). on.expect) same in
      record {
        parts = parts;
        ending = run.ending;
        program_is = call.program_is;
        spells = subst (λ bytes. SpellsProgram bytes parts) there spells;
        bank_is = call.bank_is;
        ends = subst (λ n. MachineEnds parts made.files.input (number_after made.bank) n run.ending) (sym call.turns_are)
            (subst (λ (on : RunInput). MachineEnds parts on.input (number_after on.bank) turns run.ending) same is.ends);
        report_is = let run_is = call.run_is in let right_is = is.right_is in cc;
      }

  pub call-reports : (number : ℕ) (made : List Made) (runs : List JudgedRun) → length made ≡ length runs → AreCallsFor file held turns plan number made
      → ArePlannedRuns parts (IsMadeOn plan held) turns number runs → AreReportsOf file made (planned_reports parts id number runs)
  call-reports number [] [] many calls are = tt
  call-reports number [] (run ∷ runs) many calls are = absurd (omega (arith, many))
  call-reports number (one ∷ made) [] many calls are = absurd (omega (arith, many))
  call-reports number (one ∷ made) (run ∷ runs) many calls are =
      (call-report number one run calls.0 are.0, call-reports (suc number) made runs (ap pred many) calls.1 are.1)

pub left-reports : (file : List ℕ) (made : List Made) (text : List ℕ) (left : IsLeftByRuns file made text)
    → AreReportsOf file made (planned_reports left.parts (record { bytes = sha256 left.texts.program }) left.plan.first left.runs)
left-reports file made text left =
    call-reports file left.texts.program left.program_is left.held left.tells left.words.turns left.parts left.are.is_plan.spell.program left.plan left.plan.first made left.runs left.as_many
    left.calls left.are.are

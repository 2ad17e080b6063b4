-- A program and a plan make one list of runs.
use Rattle.std.proofs.Common.{◌≡◌, ℕ, suc, List, [], ◌∷◌, length, ap₂, subst, refl, arith}
use Rattle.countdown_bank.specs.Bank.{BankState, number_after}
use Rattle.flow.specs.declared.program.ProgramParts.{ProgramParts}
use Rattle.flow.specs.Words.{OneEnding, MachineEnds, Ending}
use Rattle.study_runs.specs.MadeRun.{IsMadeRun}
use Rattle.study_runs.specs.declared.plan.StudyPlan.{StudyPlan}
use Rattle.study_runs.specs.Runs.{AreRunsFrom, IsRunOf}

abbrev pub OneBank : Type 0
OneBank = (seed rate number : ℕ) (a b : BankState) (x y : List ℕ) → IsMadeRun seed rate number a x → IsMadeRun seed rate number b y → a ≡ b

abbrev pub OneInput : Type 0
OneInput = (seed rate number : ℕ) (a b : BankState) (x y : List ℕ) → IsMadeRun seed rate number a x → IsMadeRun seed rate number b y → x ≡ y

module _ (one_ending : OneEnding) (one_bank : OneBank) (one_input : OneInput) (p : ProgramParts) (plan : StudyPlan) where
  -- the ending of a run is that of any run with its bank and its line
  pub moved : (number : ℕ) (bank : BankState) (input : List ℕ) (ending : Ending) → IsMadeRun plan.seed plan.rate number bank input → (is : IsRunOf p plan number ending)
      → MachineEnds p input (number_after bank) plan.turns ending
  moved number bank input ending made is =
      let same_bank : is.bank ≡ bank = one_bank plan.seed plan.rate number is.bank bank is.input input is.made made in
      let same_input : is.input ≡ input = one_input plan.seed plan.rate number is.bank bank is.input input is.made made in
      subst (λ b. MachineEnds p input (number_after b) plan.turns ending) same_bank (subst (λ i. MachineEnds p i (number_after is.bank) plan.turns ending) same_input is.ends)

  pub one_run : (number : ℕ) (a b : Ending) → IsRunOf p plan number a → IsRunOf p plan number b → a ≡ b
  one_run number a b x y = one_ending p y.input (number_after y.bank) plan.turns a b (moved number y.bank y.input a y.made x) y.ends

  pub one_list : (number : ℕ) (a b : List Ending) → AreRunsFrom p plan number a → AreRunsFrom p plan number b → length a ≡ length b → a ≡ b
  one_list number [] [] x y same = refl
  one_list number [] (e ∷ es) x y same = absurd (omega arith)
  one_list number (e ∷ es) [] x y same = absurd (omega arith)
  one_list number (e ∷ es) (f ∷ fs) x y same = ap₂ (λ h t. h ∷ t) (one_run number e f x.0 y.0) (one_list (suc number) es fs x.1 y.1 (omega arith))

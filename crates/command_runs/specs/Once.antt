-- A line gives its run one thing, or is refused, where the store tells what it holds.
use Rattle.std.proofs.Common.{◌≡◌, ℕ, List, length, Option, Some, None, IsSome, ap, sym, subst, ◌∙◌, arith}
use Rattle.base_lists.proofs.Options.{one_some}
use Rattle.cbi_base.specs.Store.{Held, IsReadOf}
use Rattle.cbi_base.specs.declared.refusal.Refusal.{Refusal}
use Rattle.cbi_base.specs.declared.refusal.Refusal.TheVariants.{LargeInput}
use Rattle.countdown_bank.specs.Bank.{BankState}
use Rattle.countdown_bank.proofs.Made.{IsMadeBank-once}
use Rattle.command_bank.specs.MadeBank.{generator}
use Rattle.expected.specs.Expected.{expect_limit}
use Rattle.command_base.proofs.ReadLemmas.{read-once}
use Rattle.command_run.specs.Files.{IsReadWhere, input_limit}
use Rattle.planned_runs.specs.declared.input.RunInput.{RunInput}
use Rattle.command_runs.specs.Line.{IsLargeInput, IsMadeOn, RefusesLine, bank_numbers, fellow_of, input_of}
use Rattle.command_runs.specs.declared.plan.ListedPlan.{ListedPlan}

pub read-where-once : (held : Option Held) (name : Option (List ℕ)) (max : ℕ) (a b : Option (List ℕ)) → IsSome held → IsReadWhere held name max a
    → IsReadWhere held name max b → a ≡ b
read-where-once held None max a b tells p q = p ∙ sym q
read-where-once held (Some name) max None b tells p q = absurd p
read-where-once held (Some name) max (Some x) None tells p q = absurd q
read-where-once held (Some name) max (Some x) (Some y) tells p q = ap Some (read-once held name max x y tells p q)

-- the input that a line names
same-input : (plan : ListedPlan) (held : Option Held) (number : ℕ) (m n x y : List ℕ) → IsSome held → input_of plan number ≡ Some m
    → input_of plan number ≡ Some n → IsReadOf held m input_limit x → IsReadOf held n input_limit y → x ≡ y
same-input plan held number m n x y tells p q read other =
    read-once held n input_limit x y tells (subst (λ k. IsReadOf held k input_limit x) (one_some (input_of plan number) m n p q) read) other

abbrev input_with : BankState → List ℕ → Option (List ℕ) → RunInput
input_with bank input expect = record { bank = bank; input = input; expect = expect }

pub given-once : (plan : ListedPlan) (held : Option Held) (number : ℕ) (a b : RunInput) → IsSome held → IsMadeOn plan held number a
    → IsMadeOn plan held number b → a ≡ b
given-once plan held number a b tells p q =
    let input : a.input ≡ b.input = same-input plan held number p.name q.name a.input b.input tells p.stands q.stands p.input_read q.input_read in
    let expect : a.expect ≡ b.expect =
    read-where-once held (fellow_of plan number) expect_limit a.expect b.expect tells p.fellow_read q.fellow_read in
    let bank : a.bank ≡ b.bank = IsMadeBank-once (generator plan.seed number) plan.rate bank_numbers a.bank b.bank p.bank_is q.bank_is in
    ap (λ x. input_with x a.input a.expect) bank ∙ ap (λ x. input_with b.bank x a.expect) input ∙ ap (input_with b.bank b.input) expect

large-apart : (plan : ListedPlan) (held : Option Held) (number line : ℕ) (on : RunInput) → IsSome held → IsMadeOn plan held number on
    → IsLargeInput plan held number line → ⊥
large-apart plan held number line on tells p q =
    let input : on.input ≡ q.bytes.input =
    same-input plan held number p.name q.name on.input q.bytes.input tells p.stands q.stands p.input_read q.are_bytes.input_read in
    omega (arith, p.fits, q.large, ap length input)

pub never-apart : (plan : ListedPlan) (held : Option Held) (number : ℕ) (on : RunInput) (refusal : Refusal) → IsSome held → IsMadeOn plan held number on
    → RefusesLine plan held number refusal → ⊥
never-apart plan held number on (LargeInput line) tells p q = large-apart plan held number line on tells p q
never-apart plan held number on _ tells p q = q

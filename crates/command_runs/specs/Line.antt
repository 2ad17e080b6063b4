-- What the run of a line is made on: the bank that is made for its number, the bytes of its input, and those that its output is to equal.
use Rattle.std.specs.Prelude.{◌≡◌, ◌+◌, ◌-◌, ◌<◌, ◌≤◌, ℕ, List, ◌++◌, length, slice_get, Option, Some, None}
use Rattle.std.specs.Option.{option_to_list}
use Rattle.cbi_base.specs.Store.{Held, IsReadOf}
use Rattle.cbi_base.specs.declared.refusal.Refusal.{Refusal}
use Rattle.cbi_base.specs.declared.refusal.Refusal.TheVariants.{LargeInput}
use Rattle.countdown_bank.specs.MadeBank.{IsMadeBank}
use Rattle.name_lists.specs.List.{most_names}
use Rattle.command_bank.specs.MadeBank.{generator}
use Rattle.expected.specs.Expected.{expect_limit}
use Rattle.command_run.specs.Files.{IsReadWhere, input_limit}
use Rattle.planned_runs.specs.declared.input.RunInput.{RunInput}
use Rattle.command_runs.specs.declared.plan.LineBytes.{LineBytes}
use Rattle.command_runs.specs.declared.plan.ListedPlan.{ListedPlan}

-- how many numbers each bank has
abbrev pub bank_numbers : ℕ
bank_numbers = 256

-- the second list, where there is one, has as many names as the first
abbrev pub AreAsMany : (inputs : List (List ℕ)) → (expects : Option (List (List ℕ))) → Type 0
AreAsMany inputs None = Unit {0}
AreAsMany inputs (Some expects) = length expects ≡ length inputs

-- the name at a place of the second list, where there is one
abbrev pub fellow_at : (expects : Option (List (List ℕ))) → ℕ → Option (List ℕ)
fellow_at None place = None
fellow_at (Some names) place = slice_get names place

-- the name of the input of the run with this number, and that of its fellow: the file that its output is to equal
abbrev pub input_of : ListedPlan → ℕ → Option (List ℕ)
input_of plan number = slice_get plan.inputs (number - plan.first)

abbrev pub fellow_of : ListedPlan → ℕ → Option (List ℕ)
fellow_of plan number = fellow_at plan.expects (number - plan.first)

-- the names that are read for the run, in this order
abbrev pub names_of_line : ListedPlan → ℕ → List (List ℕ)
names_of_line plan number = option_to_list (input_of plan number) ++ option_to_list (fellow_of plan number)

-- the plan has a line for the run with this number, and a bank can be made for it
pub record Covers (plan : ListedPlan) (number : ℕ) : Type 0 where
  pub rate : (1 ≤ plan.rate) × (plan.rate ≤ 65536)
  pub begun : plan.first ≤ number
  pub stands : number - plan.first < length plan.inputs
  pub few : length plan.inputs ≤ most_names
  pub as_many : AreAsMany plan.inputs plan.expects

-- the bytes read of an input and of its fellow
pub record AreLineBytes (held : Option Held) (input : List ℕ) (fellow : Option (List ℕ)) (bytes : LineBytes) : Type 0 where
  pub input_read : IsReadOf held input input_limit bytes.input
  pub fellow_read : IsReadWhere held fellow expect_limit bytes.expect

-- the run with this number is made on this
pub record IsMadeOn (plan : ListedPlan) (held : Option Held) (number : ℕ) (on : RunInput) : Type 0 where
  pub name : List ℕ
  pub stands : input_of plan number ≡ Some name
  pub input_read : IsReadOf held name input_limit on.input
  pub fits : length on.input ≤ input_limit
  pub fellow_read : IsReadWhere held (fellow_of plan number) expect_limit on.expect
  pub bank_is : IsMadeBank (generator plan.seed number) plan.rate bank_numbers on.bank

-- its input, which stands in this line, is too large; that is found when its fellow is read too
pub record IsLargeInput (plan : ListedPlan) (held : Option Held) (number line : ℕ) : Type 0 where
  pub name : List ℕ
  pub stands : input_of plan number ≡ Some name
  pub bytes : LineBytes
  pub are_bytes : AreLineBytes held name (fellow_of plan number) bytes
  pub large : input_limit < length bytes.input
  pub line_is : line ≡ number - plan.first + 1

abbrev pub RefusesLine : ListedPlan → Option Held → ℕ → Refusal → Type 0
RefusesLine plan held number (LargeInput line) = IsLargeInput plan held number line
RefusesLine plan held number _ = ⊥

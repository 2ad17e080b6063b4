use Rattle.std.proofs.Common.{◌≡◌, ◌++◌}
use Rattle.countdown_bank.specs.BankFile.{numbers_text}
use Rattle.countdown_bank.proofs.file.write_bank.Given as goal

-- the lines so far, and the numbers that are left
abbrev pub invariant-loop-number : goal.invariant-loop-number
invariant-loop-number l = record {
  told : l.yielded ++ l.number-iterator ≡ l.bank.numbers;
  lines : l.text.items ≡ numbers_text l.yielded;
}

use Rattle.std.proofs.Common.{◌∙◌, List, ℕ, ap, sym, subst}
use Rattle.cbi_base.specs.Lines.{ReadsLines, IsBadLine}
use Rattle.countdown_bank.specs.Bank.{AreNumbers, bank_of}
use Rattle.countdown_bank.specs.BankFile.{NumberFollows, MayEnd}
use Rattle.countdown_bank.proofs.Texts.{numbers-read, read-are_numbers, read-text}
use Rattle.countdown_bank.proofs.file.read_bank.Goals as goal

pub of-requires : goal.of-requires
of-requires c =
    let reads = subst (λ (s : List ℕ). ReadsLines NumberFollows MayEnd s c.args.bytes.now c.read_lines.new.reader) c.new-numbers.ensures c.in-Ok.ensures.ok in
    subst AreNumbers (sym c.into_vec.ensures) (read-are_numbers c.args.bytes.now c.read_lines.new.reader reads)

pub returns-in-Ok-clause-found : goal.returns-in-Ok-clause-found
returns-in-Ok-clause-found c =
    let reads = subst (λ (s : List ℕ). ReadsLines NumberFollows MayEnd s c.args.bytes.now c.read_lines.new.reader) c.new-numbers.ensures c.in-Ok.ensures.ok in
    rw (c.of.ensures, c.into_vec.ensures) (read-text c.args.bytes.now c.read_lines.new.reader reads)

pub returns-in-Ok-clause-only : goal.returns-in-Ok-clause-only
returns-in-Ok-clause-only c = λ numbers are is.
    let reads = subst (λ (s : List ℕ). ReadsLines NumberFollows MayEnd s c.args.bytes.now numbers) (sym c.new-numbers.ensures) (numbers-read numbers c.args.bytes.now are is) in
    c.of.ensures ∙ ap bank_of (c.into_vec.ensures ∙ c.in-Ok.ensures.only numbers reads)

pub returns-in-Ok-clause-line_only : goal.returns-in-Ok-clause-line_only
returns-in-Ok-clause-line_only c = λ line bad.
    c.in-Ok.ensures.bad_only line (subst (λ (s : List ℕ). IsBadLine NumberFollows MayEnd s c.args.bytes.now line) (sym c.new-numbers.ensures) bad)

pub returns-in-Err-Bad-clause-only : goal.returns-in-Err-Bad-clause-only
returns-in-Err-Bad-clause-only c = λ numbers are is.
    let reads = subst (λ (s : List ℕ). ReadsLines NumberFollows MayEnd s c.args.bytes.now numbers) (sym c.new-numbers.ensures) (numbers-read numbers c.args.bytes.now are is) in
    rw c.in-Err-Bad.field-0-is at (c.in-Err-Bad.ensures.only numbers reads)

pub returns-in-Err-Bad-clause-line_only : goal.returns-in-Err-Bad-clause-line_only
returns-in-Err-Bad-clause-line_only c = λ line bad.
    let refused = c.in-Err-Bad.ensures.bad_only line (subst (λ (s : List ℕ). IsBadLine NumberFollows MayEnd s c.args.bytes.now line) (sym c.new-numbers.ensures) bad) in
    rw c.in-Err-Bad.field-0-is (rw c.in-Err-Bad.field-0-is at refused)

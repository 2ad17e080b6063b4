use Rattle.std.proofs.Common.{◌≡◌, ℕ, ℤ, List, FitsSigned, Result, Ok, Err, Some, ap, sym, subst, ◌∙◌, rules}
use Rattle.std.specs.Int.{w64}
use Rattle.std.specs.declared.num.ParseIntError.{ParseIntError}
use Rattle.std.specs.Fmt.{signed_decimal}
use Rattle.std.specs.Result.{result_ok}
use Rattle.std.specs.Str.{IsUtf8}
use Rattle.std.specs.Str.Parse.{ParsesSigned}
use Rattle.std.proofs.lemmas.Str.{IsUtf8-from_ascii}
use Rattle.std.proofs.lemmas.Fmt.{IsAscii-signed, parse-signed_decimal}
use Rattle.cbi_base.proofs.decimal.parse_signed.Goals as goal

-- what std reads of a decimal with its sign
result_ok-signed : (z : ℤ) (bs : List ℕ) (r : Result ℤ ParseIntError) → FitsSigned w64 z → bs ≡ signed_decimal z → ParsesSigned w64 10 bs r → result_ok r ≡ Some z
result_ok-signed z bs r fits is read = ap result_ok (parse-signed_decimal w64 z bs r fits fits.sfits is read)

-- a decimal is text
pub returns-in_default : goal.returns-in_default
returns-in_default c =
    λ z fits is. absurd (c.in_default.ensures.cases.0 (subst IsUtf8 (sym is) (IsUtf8-from_ascii _ (IsAscii-signed z fits.sfits))))

pub returns-in-Ok-parse : goal.returns-in-Ok-parse
returns-in-Ok-parse c =
    λ z fits is. let e = result_ok-signed z _ (Ok c.in-Ok-parse.number) fits (c.in-Ok.ensures.cases.0 ∙ is) c.in-Ok-parse.ensures.value.0 in search (rules, e)

pub returns-in-Err : goal.returns-in-Err
returns-in-Err c =
    λ z fits is. result_ok-signed z _ (Err c.in-Err.field-0) fits (c.in-Ok.ensures.cases.0 ∙ is) c.in-Err.ensures.value.0

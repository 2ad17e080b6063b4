use Rattle.std.proofs.Common.{◌≡◌, ℕ, ◌^◌, ◌<◌, List, decimal, Result, Ok, Err, Some, ap, sym, subst, ◌∙◌}
use Rattle.std.specs.declared.num.ParseIntError.{ParseIntError}
use Rattle.std.specs.Result.{result_ok}
use Rattle.std.specs.Str.{IsUtf8}
use Rattle.std.specs.Str.Parse.{ParsesUnsigned}
use Rattle.std.proofs.lemmas.Str.{IsUtf8-from_ascii}
use Rattle.std.proofs.lemmas.Fmt.{IsAscii-decimal, parse-decimal}
use Rattle.cbi_base.proofs.decimal.parse_unsigned.Goals as goal

-- what std reads of a decimal
result_ok-decimal : (n : ℕ) (bs : List ℕ) (r : Result ℕ ParseIntError) → n < 2 ^ 64 → bs ≡ decimal n → ParsesUnsigned 64 10 bs r → result_ok r ≡ Some n
result_ok-decimal n bs r small is read = ap result_ok (parse-decimal 64 n bs r small small is read)

-- a decimal is text
pub returns-in_default : goal.returns-in_default
returns-in_default c =
    λ n small is. absurd (c.in_default.ensures.cases.0 (subst IsUtf8 (sym is) (IsUtf8-from_ascii _ (IsAscii-decimal n small))))

pub returns-in-Ok-parse : goal.returns-in-Ok-parse
returns-in-Ok-parse c =
    λ n small is. result_ok-decimal n _ (Ok c.in-Ok-parse.number) small (c.in-Ok.ensures.cases.0 ∙ is) c.in-Ok-parse.ensures.value.0

pub returns-in-Err : goal.returns-in-Err
returns-in-Err c =
    λ n small is. result_ok-decimal n _ (Err c.in-Err.field-0) small (c.in-Ok.ensures.cases.0 ∙ is) c.in-Err.ensures.value.0

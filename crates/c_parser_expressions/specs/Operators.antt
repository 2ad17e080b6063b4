-- Operators before their operands.
use Rattle.std.specs.Prelude.{Bool, true, false}
use Rattle.c_syntax.specs.declared.expr.PrefixOperator.{PrefixOperator}
use Rattle.c_syntax.specs.declared.expr.PrefixOperator.TheVariants as prefix

-- `++` or `--`, which stands before a unary expression; any other but `sizeof` stands before a cast
abbrev pub is_step : PrefixOperator → Bool
is_step prefix.Increment = true
is_step prefix.Decrement = true
is_step _ = false

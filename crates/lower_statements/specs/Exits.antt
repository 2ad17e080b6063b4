-- Where a statement goes on, as the relation has it.
use Rattle.std.specs.Prelude.{Option, Some, None}
use Rattle.c_syntax.specs.StatementTree.{StatementTree}
use Rattle.c_meaning.specs.declared.value_type.ValueType.{ValueType}
use Rattle.c_meaning.specs.Facts.{Facts, Sites}
use Rattle.lower_relation.specs.Paths.{Exits, Graph, Path}
use Rattle.lower_relation.specs.Statements.{GoesOn, StatementDoes}
use Rattle.lower_statements.specs.declared.exits.Exits.{Exits as Known}

abbrev pub exits_of : Known → Exits
exits_of x = record { next = x.next; breaks = x.breaks; continues = x.continues; gives = x.gives; leaves = x.leaves }

-- what stands behind `else`, where there is one
abbrev pub SecondRuns : Graph → Facts → Sites → ValueType → Option StatementTree → Path Exits
SecondRuns G facts sites result None = GoesOn
SecondRuns G facts sites result (Some second) = StatementDoes G facts sites result second

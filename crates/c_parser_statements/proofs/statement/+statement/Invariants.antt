use Rattle.std.proofs.Common.{◌+◌, ◌*◌, length, map}
use Rattle.c_syntax.specs.Plain.{plain_entry}
use Rattle.c_parser_expressions.specs.Steps.{all_of}
use Rattle.c_parser_statements.specs.StatementParser.{entry_step, statements_below}
use Rattle.c_parser_expressions.proofs.Many.{Front}
use Rattle.c_parser_statements.proofs.statement.+statement.Given as goal

abbrev pub decreases-otherwise : goal.decreases-otherwise
decreases-otherwise l = l.depth * 20 + 12

abbrev pub decreases-inner : goal.decreases-inner
decreases-inner l = l.depth * 20 + 11

abbrev pub decreases-statement : goal.decreases-statement
decreases-statement l = l.depth * 20 + 10

abbrev pub decreases-block : goal.decreases-block
decreases-block l = l.depth * 20 + 9

abbrev pub decreases-entries : goal.decreases-entries
decreases-entries l = l.depth * 20 + 8

abbrev pub decreases-run : goal.decreases-run
decreases-run l = l.depth * 20 + 7

abbrev pub decreases-next_entry : goal.decreases-next_entry
decreases-next_entry l = l.depth * 20 + 6

abbrev pub decreases-if_statement : goal.decreases-if_statement
decreases-if_statement l = l.depth * 20 + 5

abbrev pub decreases-while_statement : goal.decreases-while_statement
decreases-while_statement l = l.depth * 20 + 5

abbrev pub decreases-do_statement : goal.decreases-do_statement
decreases-do_statement l = l.depth * 20 + 5

abbrev pub decreases-for_statement : goal.decreases-for_statement
decreases-for_statement l = l.depth * 20 + 5

abbrev pub invariant-run-entries : goal.invariant-run-entries
invariant-run-entries l = Front (entry_step l.fn.depth (statements_below l.fn.depth)) (all_of (entry_step l.fn.depth (statements_below l.fn.depth)) l.fn.reader) l.reader (map plain_entry l.entries.items)

abbrev pub decreases-run-entries : goal.decreases-run-entries
decreases-run-entries l = length l.reader.rest

-- Statements of the code as plain trees.
use Rattle.std.specs.Prelude.{Box, Vec, List, map, option_map}
use Rattle.std.specs.Global.{Global}
use Rattle.c_syntax.specs.declared.statement.Entry.{Entry}
use Rattle.c_syntax.specs.declared.statement.Statement.{Statement}
use Rattle.c_syntax.specs.Words.{EntryList, StatementTree, plain_expr, plain_for_start, plain_entry, plain_statement, entry_list}
use Rattle.c_parser_statements.specs.declared.statement.ForHeader as code
use Rattle.c_parser_statements.specs.StatementParser.{Header}

abbrev pub plain_header : code.ForHeader → Header
plain_header h = record { start = plain_for_start h.start; condition = option_map plain_expr h.condition; step = option_map plain_expr h.step }

abbrev pub plain_inner : Box Statement Global → StatementTree
plain_inner b = plain_statement b.value

abbrev pub plain_entry_list : Vec Entry Global → List (EntryList → EntryList)
plain_entry_list v = map plain_entry v.items

abbrev pub plain_block : Vec Entry Global → EntryList
plain_block v = entry_list (map plain_entry v.items)

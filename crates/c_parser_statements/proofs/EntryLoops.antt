-- Each turn of the loop over entries takes a token.
use Rattle.std.proofs.Common.{ℕ}
use Rattle.c_parser_expressions.specs.Steps.{Advances}
use Rattle.c_parser_expressions.proofs.WholeParses.{parses, deep}
use Rattle.c_parser_declarations.proofs.Lists.{closing-advances}
use Rattle.c_parser_statements.specs.Statements.{entries_end}
use Rattle.c_parser_statements.specs.StatementParser.{entry_step, statements_below}
use Rattle.c_parser_statements.proofs.BlockEntries.{add_entry, entries-closing}
use Rattle.c_parser_statements.proofs.BlockEntries as entries
use Rattle.c_parser_statements.proofs.StatementParses.{below-parse}

pub entries_advance : (d : ℕ) → Advances (entry_step d (statements_below d))
entries_advance d =
    closing-advances (entries_end d) (entry_step d (statements_below d)) add_entry entries.list_end
    (entries-closing (λ n k. (parses n).assignment k) (λ n k. (deep n).assignment k) d (statements_below d)
    (below-parse (λ n k. (parses n).whole k) (λ n k. (parses n).assignment k) (λ n k. (deep n).assignment k) d).reads)

-- Items are parsed as their rule says.
use Rattle.std.proofs.Common.{ℕ, ◌≤◌}
use Rattle.c_parser_expressions.specs.Reading.{Cursor, Outcome}
use Rattle.c_parser_items.specs.Items.{item}
use Rattle.c_parser_items.specs.ItemParser.{item_by}
use Rattle.c_parser_expressions.proofs.WholeParses.{parses, deep}
use Rattle.c_parser_items.proofs.ItemParses.{item-reads}

pub item-parses : (d : ℕ) → 1 ≤ d → (c : Cursor) → Outcome (item d) c (item_by d c)
item-parses d positive c = item-reads (λ d c. (parses d).whole c) (λ d c. (parses d).assignment c) (λ d c. (deep d).assignment c) d positive c

-- What reading one item may answer.
use Rattle.std.specs.Prelude.{◌≡◌, Result, Ok, Err}
use Rattle.c_syntax.specs.declared.tree.Item.{Item}
use Rattle.c_syntax.specs.Plain.{plain_item}
use Rattle.c_parser.specs.declared.error.ParseError.{ParseError}
use Rattle.c_parser.specs.declared.error.ParseError.TheVariants as error
use Rattle.c_parser_expressions.specs.Reading.{Cursor}
use Rattle.c_parser_items.specs.ItemParser.{item_by}

abbrev pub ItemRead : (old new : Cursor) → Result Item ParseError → Type 0
ItemRead old new (Ok v) = item_by 200 old ≡ Ok (plain_item v, new)
ItemRead old new (Err (error.Syntax index item)) = (item_by 200 old ≡ Err index) × (item ≡ old.at)
ItemRead old new (Err error.Memory) = Unit {0}

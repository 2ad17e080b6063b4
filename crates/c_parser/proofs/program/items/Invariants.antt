use Rattle.std.proofs.Common.{length, map}
use Rattle.c_syntax.specs.Plain.{plain_item}
use Rattle.c_parser.proofs.Texts.{Reached}
use Rattle.c_parser.proofs.Parsing.{beginning}
use Rattle.c_parser.proofs.program.items.Given as goal

abbrev pub invariant-items : goal.invariant-items
invariant-items l = Reached 200 (beginning l.fn.tokens) l.reader (map plain_item l.items.items)

abbrev pub decreases-items : goal.decreases-items
decreases-items l = length l.reader.rest

use Rattle.std.proofs.Common.{length}
use Rattle.c_parser_expressions.specs.Steps.{all_of}
use Rattle.c_parser_expressions.specs.ExpressionParser.{text_step}
use Rattle.c_parser_expressions.proofs.Many.{Front}
use Rattle.c_parser_expressions.proofs.strings.texts.Given as goal

abbrev pub invariant-parts : goal.invariant-parts
invariant-parts l = Front text_step (all_of text_step l.fn.reader) l.reader l.parts.items

abbrev pub decreases-parts : goal.decreases-parts
decreases-parts l = length l.reader.rest

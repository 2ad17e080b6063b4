use Rattle.std.proofs.Common.{arith}
use Rattle.std.proofs.lemmas.Str.Pattern.{split_once_first}
use Rattle.cbi_options.specs.WordRule.{is_equals}
use Rattle.cbi_options.proofs.Cutting.{parts-are}
use Rattle.cbi_options.proofs.given.parts_of.Goals as goal

pub returns : goal.returns
returns c = parts-are is_equals c.args.word.now c.split_once.result (split_once_first 61 c.args.word.now c.split_once.result c.split_once.ensures.cases (omega arith))

use Rattle.std.proofs.Common.{arith}
use Rattle.std.proofs.lemmas.Str.Pattern.{split_once_first}
use Rattle.cbi_options.specs.Shares.{is_slash}
use Rattle.cbi_options.proofs.Cutting.{parts-are}
use Rattle.cbi_options.proofs.shares.halves_of.Goals as goal

pub returns : goal.returns
returns c = parts-are is_slash c.args.value.now c.split_once.result (split_once_first 47 c.args.value.now c.split_once.result c.split_once.ensures.cases (omega arith))

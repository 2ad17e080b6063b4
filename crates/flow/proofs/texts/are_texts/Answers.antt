use Rattle.std.proofs.Common.{rules, length, arith}
use Rattle.flow.specs.Limits.{byte_limit}
use Rattle.flow.proofs.Sums.{fits_word}
use Rattle.flow.proofs.texts.are_texts.Goals as goal

pub all_bytes-requires : goal.all_bytes-requires
all_bytes-requires c = fits_word (λ t. length t.bytes) c.args.texts.now byte_limit (search rules) (omega arith) (omega arith)
